-- A frame that is no Hello has none in it.
use Rattle.std.proofs.Common.{◌≡◌, None, refl}
use Rattle.wire_frames.specs.declared.frame.Hello.{Hello}
use Rattle.wire_frames.specs.declared.frame.Frame.{Frame}
use Rattle.wire_frames.specs.declared.frame.Frame.TheVariants as frames
use Rattle.record_forms.specs.RecordTable.{hello_in}

pub no_hello : (frame : Frame) → ((hello : Hello) → frame ≡ frames.Hello hello → ⊥) → hello_in frame ≡ None
no_hello (frames.Init init) other = refl
no_hello (frames.Round number over error offered roots) other = refl
no_hello (frames.Reply reply) other = refl
no_hello (frames.Hello hello) other = absurd (other hello refl)
no_hello (frames.Done claimed) other = refl
no_hello (frames.Create creation) other = refl
no_hello (frames.Message message) other = refl
no_hello (frames.Ask question) other = refl

pub ruleset other_frames = (no_hello)
