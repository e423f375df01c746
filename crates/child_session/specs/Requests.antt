-- What a child's frame means in a round (JSR 269, `Processor.process`): it is done and says whether its processor claims
-- what it was offered, or it asks for something and is answered, or it leaves the protocol.
use Rattle.std.specs.Prelude.{not, Bool, true, if◌then◌else◌, Ok, Err}
use Rattle.apt_base.specs.declared.kinds.Claim.{Claim}
use Rattle.apt_base.specs.declared.kinds.Claim.TheVariants.{Always, Never, Varies}
use Rattle.wire_frames.specs.declared.frame.Frame.{Frame}
use Rattle.wire_frames.specs.declared.frame.Frame.TheVariants as frame
use Rattle.frame_breaches.specs.Breaches.{stray}
use Rattle.child_session.specs.Talk.{Answer}
use Rattle.child_session.specs.declared.request.Request.TheVariants.{Ask, Create, Print}
use Rattle.child_session.specs.declared.request.Turn.{Turn}
use Rattle.child_session.specs.declared.request.Turn.TheVariants.{Ends, Differs, Asks, Leaves}

-- whether an answer keeps what the processor declared of its claims
abbrev pub keeps : Claim → Bool → Bool
keeps Always said = said
keeps Never said = not said
keeps Varies said = true

-- the child is done, where its processor declared this
abbrev pub done_with : Claim → Bool → Turn
done_with declared said = if keeps declared said then Ends said else Differs said

-- a frame of the host's and a second Hello may not come in a round
abbrev pub turn_of : Claim → Frame → Turn
turn_of declared (frame.Done claimed) = done_with declared claimed
turn_of declared (frame.Create creation) = Asks (Create creation)
turn_of declared (frame.Message message) = Asks (Print message)
turn_of declared (frame.Ask question) = Asks (Ask question)
turn_of declared other = Leaves (stray other)

abbrev pub turn_at : Claim → Answer → Turn
turn_at declared (Ok f) = turn_of declared f
turn_at declared (Err breach) = Leaves breach
