use Rattle.std.proofs.Common.{◌≡◌, ◌≤◌}
use Rattle.apt_outside.specs.Count.{Told}
use Rattle.apt_outside.specs.Child.{State}
use Rattle.round_engine.specs.Shown.{LiveInTurn, without_each, StopsAll}
use Rattle.round_engine.proofs.beginning.end_all.Given as goal

-- the rest decide
abbrev pub invariant-loop-child : goal.invariant-loop-child
invariant-loop-child g l =
    let C = g.C.Children in
    record {
      later : C.faults l.fn.children ≤ C.faults l.children;
      starts : (C.state l.children).starts ≡ (C.state l.fn.children).starts;
      live : without_each l.child-iterator.rest.items (C.state l.children).live ≡ without_each l.fn.group (C.state l.fn.children).live;
      lives : LiveInTurn l.child-iterator.rest.items (C.state l.children).live;
      stops : Told C.tells ((k : State) → StopsAll l.child-iterator.rest.items (C.state l.children) k → StopsAll l.fn.group (C.state l.fn.children) k);
    }
