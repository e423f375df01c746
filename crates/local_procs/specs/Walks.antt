-- What a processor that goes from root to root does by the reply for which it waits.
use Rattle.std.specs.Prelude.{drop, Option, None, Some}
use Rattle.wire_frames.specs.declared.frame.Frame.{Frame}
use Rattle.wire_frames.specs.declared.reply.Reply.{Reply}
use Rattle.local_procs.specs.declared.local.Local.{Local}
use Rattle.local_procs.specs.declared.walk.Walk.{Walk}
use Rattle.local_procs.specs.Plans.{Plan, Sends, done, then_, each_of}
use Rattle.local_procs.specs.Stages.{go_of, plan_for}

-- what is left for its root, and then the roots behind it
abbrev pub walk_go : Local → Walk → Reply → Plan
walk_go local walk answer = then_ (go_of walk.root walk.stage answer) (each_of (plan_for local) (drop walk.next walk.roots))

-- nothing is left, or a frame is sent
abbrev pub plan_of_walk : Local → Option (Frame × Walk) → Plan
plan_of_walk local None = done
plan_of_walk local (Some x) = Sends x.0 (walk_go local x.1)
