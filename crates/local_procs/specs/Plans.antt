-- What a processor does in a round: the frames that it sends, each with how it goes on by the reply.
use Rattle.std.specs.Prelude.{List, [], ◌∷◌, if◌then◌else◌}
use Rattle.std.specs.FinMap as fin
use Rattle.apt_base.specs.Names.{NameSet}
use Rattle.apt_base.specs.declared.element.ElementRef.{ElementRef}
use Rattle.wire_frames.specs.Limits.{is_too_large}
use Rattle.wire_frames.specs.declared.frame.Frame.{Frame}
use Rattle.wire_frames.specs.declared.reply.Reply.{Reply}
use Rattle.wire_frames.specs.declared.reply.Reply.TheVariants as reply
use Rattle.wire_frames.specs.declared.reply.Refused.TheVariants as refused

-- It ends with the names that the processor remembers from then on.
pub data Plan : Type 0 where
  Ends : NameSet → Plan
  Sends : Frame → (Reply → Plan) → Plan

-- nothing more is done, and nothing is remembered
abbrev pub done : Plan
done = Ends fin.empty

-- a plan, and another one once it is done
abbrev pub then_ : Plan → Plan → Plan
then_ (Ends kept) next = next
then_ (Sends frame go) next = Sends frame (λ reply. then_ (go reply) next)

-- the plan of each element, one after another
unfoldable pub each_of : (ElementRef → Plan) → List ElementRef → Plan
each_of plan [] = done
each_of plan (element ∷ others) = then_ (plan element) (each_of plan others)

-- a reply with nothing in it, whatever was asked
abbrev pub nothing : Reply
nothing = reply.Refused refused.TooLarge

-- A frame that is too large is not sent, and the processor goes on as after a reply with nothing in it.
unfoldable pub sendable : Plan → Plan
sendable (Ends kept) = Ends kept
sendable (Sends frame go) = if is_too_large frame then sendable (go nothing) else Sends frame go
