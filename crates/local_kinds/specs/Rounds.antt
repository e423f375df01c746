-- What a host can show to a child: an Init and rounds whose frames are read as they were written.
use Rattle.std.specs.Prelude.{ℕ, ◌+◌, ◌*◌, ◌≤◌, List, length, IsSome}
use Rattle.std.specs.List.{AllByRecursion}
use Rattle.element_table.specs.TypeTable.{IsTable, unit_of}
use Rattle.wire_frames.specs.declared.frame.Frame.{Frame}
use Rattle.wire_frames.specs.declared.frame.Frame.TheVariants as frame
use Rattle.wire_frames.specs.declared.frame.Init.{Init}
use Rattle.wire_frames.specs.declared.question.Question.{Question}
use Rattle.wire_frames.specs.Frames.{spelling, IsInTable}
use Rattle.frame_stream.specs.Streams.{most_bytes}
use Rattle.child_answers.specs.Replies.{reply_of}
use Rattle.child_session.specs.Replies.{Shown}
use Rattle.child_session.specs.Sessions.{Limits}

-- the table of all frames has it, and it is not too long
pub record IsSendable (frame : Frame) : Type 0 where
  pub fits : IsInTable frame
  pub short : length (spelling frame) ≤ most_bytes

abbrev pub IsInit : Init → Type 0
IsInit init = IsSendable (frame.Init init)

-- the frame that comes first
abbrev pub init_frame : Init → List ℕ
init_frame init = spelling (frame.Init init)

-- Roots are units of the table. The frame of the round is one, so that offered names and roots ascend, and so is the reply
-- to each question that is a frame.
pub record IsRound (shown : Shown) : Type 0 where
  pub is_table : IsTable shown.table
  pub there : AllByRecursion (λ root. IsSome (unit_of shown.table root)) shown.env.roots
  pub begins : IsSendable (frame.Round shown.env.number shown.env.over shown.env.error shown.env.offered shown.env.roots)
  pub replies : (question : Question) → IsInTable (frame.Ask question)
      → IsInTable (frame.Reply (reply_of shown.table shown.env.roots question))

-- how often a child may ask in a round: by the roots that it is shown
abbrev pub most_requests : Limits
most_requests shown = 65536 + 4096 * length shown.env.roots
