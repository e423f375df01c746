use Rattle.std.proofs.Common.{◌≡◌, ◌+◌, ◌≤◌, ◌++◌, length, take, drop}
use Rattle.apt_outside.specs.Count.{Told}
use Rattle.project_units.specs.Plans.{plan_of, tries_in}
use Rattle.round_engine.specs.Shown.{AreFresh}
use Rattle.round_engine.proofs.StartedChildren.{Begun}
use Rattle.round_engine.proofs.beginning.begin_each.Given as goal

-- the processors so far said Hello
abbrev pub invariant-loop-processor : goal.invariant-loop-processor
invariant-loop-processor g l =
    let C = g.C.Children in
    record {
      bound : l.processor-index ≤ length l.key.processors;
      later : C.faults l.fn.children ≤ C.faults l.children;
      starts : (C.state l.children).starts ≡ (C.state l.fn.children).starts + l.processor-index;
      live : (C.state l.children).live ≡ (C.state l.fn.children).live ++ l.group;
      fresh : AreFresh (C.state l.fn.children).live l.group;
      count : length l.group ≡ l.processor-index;
      many : length l.list ≡ length l.group;
      says : Told C.tells ((C.state l.children).says ≡ (C.state l.fn.children).says);
      begun : Told C.tells (Begun (plan_of l.key) (take l.processor-index (tries_in l.key)) l.group l.list (drop l.processor-index (tries_in l.key)) (C.state l.fn.children) (C.state l.children));
    }
