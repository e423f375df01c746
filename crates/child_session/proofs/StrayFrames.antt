-- What stands at a place of a stream is a frame, an end or a bad byte: that a frame may not come there is no matter of the bytes.
use Rattle.std.proofs.Common.{◌≡◌, ℕ, zero, suc, List, length, Option, None, Some, Ok, Err, refl, ap, ◌-◌}
use Rattle.wire_frames.specs.declared.frame.Frame.{Frame}
use Rattle.frame_forms.specs.declared.bad_kind.BadKind.{BadKind}
use Rattle.frame_forms.specs.Frames.{first_bad}
use Rattle.frame_stream.specs.Streams.{frame_at}
use Rattle.frame_breaches.specs.declared.breach.Breach.{Breach}
use Rattle.frame_breaches.specs.declared.breach.Breach.TheVariants.{Ended, Bad, Wrong}
use Rattle.frame_breaches.specs.Breaches.{Front, front_by, front_of, go_on, front_behind, frame_in}
use Rattle.child_session.specs.Talk.{Stream, answer_to}

front_by-stray : (o : Option (Frame × List ℕ)) (bad : Option (ℕ × BadKind)) (count tag : ℕ) → frame_in (front_by o bad count) ≡ Err (Wrong tag) → ⊥
front_by-stray (Some first) bad count tag e = cc
front_by-stray None (Some bad) count tag e = cc
front_by-stray None None count tag e = cc

front_of-stray : (bytes : List ℕ) (tag : ℕ) → frame_in (front_of bytes) ≡ Err (Wrong tag) → ⊥
unfolding front_of
front_of-stray bytes tag e = front_by-stray (frame_at bytes) (first_bad bytes) (length bytes) tag e

go_on-stray : (n : ℕ) → ((bytes : List ℕ) (tag : ℕ) → frame_in (front_behind n bytes) ≡ Err (Wrong tag) → ⊥) → (front : Front) (tag : ℕ) → (frame_in front ≡ Err (Wrong tag) → ⊥)
    → frame_in (go_on (front_behind n) front) ≡ Err (Wrong tag) → ⊥
go_on-stray n more (Ok first) tag none e = more first.1 tag e
go_on-stray n more (Err breach) tag none e = none e

front_behind-stray : (n : ℕ) (bytes : List ℕ) (tag : ℕ) → frame_in (front_behind n bytes) ≡ Err (Wrong tag) → ⊥
unfolding front_behind
front_behind-stray zero bytes tag e = front_of-stray bytes tag e
front_behind-stray (suc n) bytes tag e = go_on-stray n (front_behind-stray n) (front_of bytes) tag (front_of-stray bytes tag) e

pub no_stray : (stream : Stream) (sent : List (List ℕ)) (tag : ℕ) → answer_to stream sent ≡ Err (Wrong tag) → ⊥
no_stray stream sent tag e = front_behind-stray (length sent - 1) (stream sent) tag e
