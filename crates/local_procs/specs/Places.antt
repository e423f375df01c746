-- Where a child stands, by its value.
use Rattle.std.specs.Prelude.{◌≡◌, Result, Ok, Err}
use Rattle.wire_frames.specs.declared.frame.Frame.{Frame}
use Rattle.frame_breaches.specs.declared.breach.Breach.{Breach}
use Rattle.local_procs.specs.declared.child.Child.{Child}
use Rattle.local_procs.specs.declared.child.Place.{Place}
use Rattle.local_procs.specs.declared.child.Place.TheVariants as places
use Rattle.local_procs.specs.declared.local.Local.{Local}
use Rattle.local_procs.specs.Says.{At, Unbegun, Rests, Waits, Answer, after_roots}
use Rattle.local_procs.specs.Stages.{registry_go}
use Rattle.local_procs.specs.Walks.{walk_go}

abbrev pub at_of : Local → Place → At
at_of local places.Unbegun = Unbegun
at_of local (places.Rests kept) = Rests kept
at_of local places.Roots = Waits (after_roots local)
at_of local (places.Walks walk) = Waits (walk_go local walk)
at_of local (places.Registers stage) = Waits (registry_go stage)

abbrev pub answer_of : Local → Frame × Place → Answer
answer_of local said = (said.0, at_of local said.1)

abbrev pub shown : Local → Result (Frame × Place) Breach → Result Answer Breach
shown local (Ok said) = Ok (answer_of local said)
shown local (Err breach) = Err breach

abbrev pub stands_at : Child → At
stands_at child = at_of child.local child.place

abbrev pub said_by : Result (Frame × Child) Breach → Result Answer Breach
said_by (Ok x) = Ok (x.0, stands_at x.1)
said_by (Err breach) = Err breach

-- it has the same processor
abbrev pub StaysLocal : Local → Result (Frame × Child) Breach → Type 0
StaysLocal local (Ok x) = x.1.local ≡ local
StaysLocal local (Err breach) = Unit {0}
