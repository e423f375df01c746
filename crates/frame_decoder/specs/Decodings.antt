-- The frame whose tag and fields are bytes: what the table says of them.
use Rattle.std.specs.Prelude.{◌≡◌, ℕ, List, [], ◌==◌, nat_lt, Option, if◌then◌else◌}
use Rattle.apt_base.specs.Fields.{◌>>=◌, u8_next}
use Rattle.apt_base.specs.Forms.{Reader, mapped}
use Rattle.frame_forms.specs.Scans.{whole}
use Rattle.frame_forms.specs.FrameTable.{Fields, frame_form}
use Rattle.frame_forms.specs.Frames.{scanned}
use Rattle.wire_frames.specs.declared.question.Question.{Question}
use Rattle.wire_frames.specs.declared.reply.Reply.{Reply}
use Rattle.wire_frames.specs.declared.frame.Frame.{Frame}
use Rattle.wire_frames.specs.declared.frame.Frame.TheVariants as frames
use Rattle.wire_frames.specs.Readings.{alone, fields_next}
use Rattle.frame_decoder.specs.QuestionReadings.{question_next}
use Rattle.frame_decoder.specs.HostReadings.{init_next, round_next, reply_next}

abbrev pub reply_of : Reply → Frame
reply_of reply = frames.Reply reply

abbrev pub ask_of : Question → Frame
ask_of question = frames.Ask question

-- the frame with this tag whose fields stand next: first those of the host, then a child's, its questions last
abbrev pub tagged_next : ℕ → Reader Frame
tagged_next tag =
    if tag == 1 then init_next
    else (if tag == 2 then round_next
    else (if nat_lt tag 64 then mapped reply_of (reply_next tag)
    else (if nat_lt tag 80 then fields_next tag
    else mapped ask_of (question_next tag))))

unfoldable pub frame_next : Reader Frame
frame_next bytes = do
  tag ← u8_next bytes
  tagged_next tag.0 tag.1

-- the frame that the bytes are, none left over
unfoldable pub decoded : List ℕ → Option Frame
decoded bytes = alone (frame_next bytes)

-- by the table the bytes are the tag and the fields of no frame
unfoldable pub AreNoFields : List ℕ → Type 0
AreNoFields bytes = (fields : Fields) → scanned frame_form bytes ≡ whole fields [] → ⊥
