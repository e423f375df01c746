use Rattle.std.proofs.Common.{◌≡◌, ◌≤◌}
use Rattle.apt_outside.specs.Count.{Told}
use Rattle.apt_outside.specs.Child.{Attends}
use Rattle.child_session.specs.Replies.{shown_of}
use Rattle.child_session.specs.Round.{AllServed}
use Rattle.child_session.proofs.RoundsUnderway.{GoesOn, IsUnderway}
use Rattle.child_session.proofs.round.show_round.Given as goal

-- the round goes on after this many turns
abbrev pub invariant-loop-count : goal.invariant-loop-count
invariant-loop-count g l =
    let C = g.C.Children in
    record {
      later : C.faults l.fn.children ≤ C.faults l.children;
      starts : (C.state l.children).starts ≡ (C.state l.fn.children).starts;
      live : (C.state l.children).live ≡ (C.state l.fn.children).live;
      attends : Told C.tells (Attends l.child (C.state l.fn.children) (C.state l.children));
      kept : l.answering ≡ l.fn.answering;
      way : IsUnderway (shown_of l.fn.answering l.fn.showing.env) l.count l.fn.filer l.filer l.noted
          (λ done. Told C.tells (GoesOn l.child l.fn.answering l.fn.showing (C.state l.fn.children) (C.state l.children) l.fn.filer l.filer done l.answer));
      within : l.count ≤ l.limit;
      served : AllServed (shown_of l.fn.answering l.fn.showing.env) l.count l.fn.filer l.filer;
    }
