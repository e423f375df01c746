use Rattle.std.proofs.Common.{◌≡◌, ◌-◌, ◌≤◌, false}
use Rattle.apt_outside.specs.Count.{Told}
use Rattle.round_engine.specs.Shown.{HasEach, AttendsAll}
use Rattle.round_engine.proofs.RoundsInTurn.{RunsOn}
use Rattle.round_engine.proofs.rounds.show_rounds.Given as goal

-- the run goes on with the rounds that are left
abbrev pub invariant-loop-number : goal.invariant-loop-number
invariant-loop-number g l =
    let C = g.C.Children in
    record {
      later : C.faults l.fn.children ≤ C.faults l.children;
      starts : (C.state l.children).starts ≡ (C.state l.fn.children).starts;
      live : (C.state l.children).live ≡ (C.state l.fn.children).live;
      number : l.round.number ≡ l.number;
      over : l.round.over ≡ false;
      error : l.round.error ≡ false;
      each : HasEach l.run l.progress;
      attends : Told C.tells (AttendsAll l.run.group (C.state l.fn.children) (C.state l.children));
      goes : Told C.tells (RunsOn l.run l.project l.fn.progress (C.state l.fn.children) (64 - l.number) l.round l.progress (C.state l.children));
    }
