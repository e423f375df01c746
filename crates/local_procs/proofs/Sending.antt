-- What of a plan is sent, where a frame is too large and where it isn't.
use Rattle.std.proofs.Common.{◌≡◌, Bool, true, false, refl}
use Rattle.apt_base.specs.Names.{NameSet}
use Rattle.wire_frames.specs.Limits.{is_too_large}
use Rattle.wire_frames.specs.declared.frame.Frame.{Frame}
use Rattle.wire_frames.specs.declared.reply.Reply.{Reply}
use Rattle.local_procs.specs.Plans.{Plan, Ends, Sends, done, then_, sendable, nothing}

pub ends_sent : sendable done ≡ done
unfolding sendable
ends_sent = refl

pub kept_sent : (kept : NameSet) → sendable (Ends kept) ≡ Ends kept
unfolding sendable
kept_sent kept = refl

pub small_sent : (frame : Frame) (go : Reply → Plan) → is_too_large frame ≡ false → sendable (Sends frame go) ≡ Sends frame go
unfolding sendable
small_sent frame go h = rw h refl

pub large_sent : (frame : Frame) (go : Reply → Plan) → is_too_large frame ≡ true → sendable (Sends frame go) ≡ sendable (go nothing)
unfolding sendable
large_sent frame go h = rw h refl

-- behind what is sent of a plan, another one
abbrev pub sent_before : Plan → Plan → Plan
sent_before (Ends kept) next = sendable next
sent_before (Sends frame go) next = Sends frame (λ reply. then_ (go reply) next)

pub then_sent : (plan next : Plan) → sendable (then_ plan next) ≡ sent_before (sendable plan) next
unfolding sendable
then_sent (Ends kept) next = refl
then_sent (Sends frame go) next = by_size (then_sent (go nothing) next) (is_too_large frame) refl
  where
    by_size : sendable (then_ (go nothing) next) ≡ sent_before (sendable (go nothing)) next → (b : Bool) → is_too_large frame ≡ b
        → sendable (then_ (Sends frame go) next) ≡ sent_before (sendable (Sends frame go)) next
    by_size later true h = rw h later
    by_size later false h = rw h refl
