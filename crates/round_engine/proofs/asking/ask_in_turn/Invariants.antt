use Rattle.std.proofs.Common.{◌≡◌, ◌≤◌, length}
use Rattle.apt_outside.specs.Count.{Told}
use Rattle.processor_claims.specs.Turns.{IsWithin, waiting_count}
use Rattle.round_engine.specs.Run.{present_in}
use Rattle.round_engine.specs.Shown.{HasEach, AttendsAll}
use Rattle.round_engine.proofs.TurnsOfARound.{AsksOn}
use Rattle.round_engine.proofs.asking.ask_in_turn.Given as goal

-- some have answered, and the turn asks the others
abbrev pub invariant-loop-number : goal.invariant-loop-number
invariant-loop-number g l =
    let C = g.C.Children in
    record {
      later : C.faults l.fn.children ≤ C.faults l.children;
      starts : (C.state l.children).starts ≡ (C.state l.fn.children).starts;
      live : (C.state l.children).live ≡ (C.state l.fn.children).live;
      table : l.answering ≡ l.round.table.table;
      still : HasEach l.run l.so_far;
      within : IsWithin (length l.run.supported) (length (present_in l.round)) l.turn;
      attends : Told C.tells (AttendsAll l.run.group (C.state l.fn.children) (C.state l.children));
      asks : Told C.tells (AsksOn l.run l.round l.fn.so_far (C.state l.fn.children) l.so_far (C.state l.children) l.turn l.claimed);
    }

abbrev pub decreases-loop-number : goal.decreases-loop-number
decreases-loop-number g l = waiting_count l.turn
