-- What the frames of the host and of a child are in the table of all frames: the tag of each, and its fields in the order of the table. The spelling is the table's.
use Rattle.std.specs.Prelude.{◌≡◌, ℕ, List, []}
use Rattle.wire_frames.specs.declared.reply.Created.{Created}
use Rattle.wire_frames.specs.declared.reply.Created.TheVariants as created
use Rattle.wire_frames.specs.declared.reply.Refused.{Refused}
use Rattle.wire_frames.specs.declared.reply.Refused.TheVariants as refused
use Rattle.wire_frames.specs.declared.reply.Info.{Info}
use Rattle.wire_frames.specs.declared.reply.Reply.{Reply}
use Rattle.wire_frames.specs.declared.reply.Reply.TheVariants as replies
use Rattle.wire_frames.specs.declared.question.Question.{Question}
use Rattle.wire_frames.specs.declared.question.Question.TheVariants as questions
use Rattle.wire_frames.specs.declared.frame.Creation.{Creation}
use Rattle.wire_frames.specs.declared.frame.Creation.TheVariants as creations
use Rattle.wire_frames.specs.declared.frame.Hello.{Hello}
use Rattle.wire_frames.specs.declared.frame.Init.{Init}
use Rattle.wire_frames.specs.declared.frame.Message.{Message}
use Rattle.wire_frames.specs.declared.frame.Frame.{Frame}
use Rattle.wire_frames.specs.declared.frame.Frame.TheVariants as frames
use Rattle.frame_forms.specs.declared.question_row.QuestionRow.{QuestionRow}
use Rattle.frame_forms.specs.declared.question_row.QuestionRow.TheVariants as rows
use Rattle.frame_forms.specs.Forms.{plain_frame, question_frame}
use Rattle.frame_forms.specs.Scans.{whole}
use Rattle.frame_forms.specs.FrameTable.{frame_form, Fields}
use Rattle.frame_forms.specs.Frames.{Fits, scanned, frame_spelling, frame_scan}

-- ---- the host's

abbrev pub init_shown : Init → Fields
init_shown init = (plain_frame 1, (init.name, (init.level, init.options)))

abbrev pub created_number : Created → ℕ
created_number created.Accepted = 0
created_number created.Exists = 1
created_number created.Unsupported = 2
created_number created.BadName = 3
created_number created.TooLarge = 4

abbrev pub refused_number : Refused → ℕ
refused_number refused.NoSuch = 0
refused_number refused.WrongKind = 1
refused_number refused.TooDeep = 2
refused_number refused.TooLarge = 3

abbrev pub info_shown : Info → Fields
info_shown info = (plain_frame 17, (info.kind, (info.modifiers, (info.simple, (info.canonical, info.varargs)))))

abbrev pub reply_shown : Reply → Fields
reply_shown (replies.Elements elements) = (plain_frame 16, elements)
reply_shown (replies.Info info) = info_shown info
reply_shown (replies.Texts texts) = (plain_frame 18, texts)
reply_shown (replies.Annotations annotations) = (plain_frame 19, annotations)
reply_shown (replies.Values values) = (plain_frame 20, values)
reply_shown (replies.Mirrors mirrors) = (plain_frame 21, mirrors)
reply_shown (replies.Truth truth) = (plain_frame 22, truth)
reply_shown (replies.Created created) = (plain_frame 23, created_number created)
reply_shown replies.Noted = (plain_frame 24, tt)
reply_shown (replies.Refused refused) = (plain_frame 25, refused_number refused)

-- ---- a child's

abbrev pub hello_shown : Hello → Fields
hello_shown hello = (plain_frame 64, (hello.patterns, (hello.options, hello.claim)))

abbrev pub creation_shown : Creation → Fields
creation_shown (creations.Source name content origins) = (plain_frame 66, (name, (content, origins)))
creation_shown (creations.Resource location folder relative content origins) = (plain_frame 67, (location, (folder, (relative, (content, origins)))))
creation_shown (creations.Class name content origins) = (plain_frame 68, (name, (content, origins)))

abbrev pub message_shown : Message → Fields
message_shown message = (plain_frame 69, (message.kind, (message.element, message.text)))

-- its row of the table
abbrev pub question_row : Question → QuestionRow
question_row (questions.Name of name) = rows.Name of
question_row (questions.Element of element) = rows.Element of
question_row (questions.Mirror of mirror) = rows.Mirror of
question_row (questions.Mirrors of one other) = rows.Mirrors of
question_row (questions.ValuesWithDefaults element annotation) = rows.ValuesWithDefaults
question_row (questions.Overrides overrider overridden in_type) = rows.Overrides
question_row (questions.MemberType container element) = rows.MemberType
question_row (questions.DeclaredType element arguments) = rows.DeclaredType
question_row questions.Roots = rows.Roots

-- its row, and its arguments by the form of the row
abbrev pub question_shown : Question → Fields
question_shown (questions.Name of name) = (question_frame (rows.Name of), name)
question_shown (questions.Element of element) = (question_frame (rows.Element of), element)
question_shown (questions.Mirror of mirror) = (question_frame (rows.Mirror of), mirror)
question_shown (questions.Mirrors of one other) = (question_frame (rows.Mirrors of), (one, other))
question_shown (questions.ValuesWithDefaults element annotation) = (question_frame rows.ValuesWithDefaults, (element, annotation))
question_shown (questions.Overrides overrider overridden in_type) = (question_frame rows.Overrides, (overrider, (overridden, in_type)))
question_shown (questions.MemberType container element) = (question_frame rows.MemberType, (container, element))
question_shown (questions.DeclaredType element arguments) = (question_frame rows.DeclaredType, (element, arguments))
question_shown questions.Roots = (question_frame rows.Roots, tt)

-- ---- frames

abbrev pub shown : Frame → Fields
shown (frames.Init init) = init_shown init
shown (frames.Round number over error offered roots) = (plain_frame 2, (number, (over, (error, (offered, roots)))))
shown (frames.Reply reply) = reply_shown reply
shown (frames.Hello hello) = hello_shown hello
shown (frames.Done claimed) = (plain_frame 65, claimed)
shown (frames.Create creation) = creation_shown creation
shown (frames.Message message) = message_shown message
shown (frames.Ask question) = question_shown question

-- the frame: the length of its tag and fields, and these
unfoldable pub spelling : Frame → List ℕ
spelling frame = frame_spelling (shown frame)

-- ---- what the table says

-- the fields are as their forms ask
unfoldable pub IsInTable : Frame → Type 0
IsInTable frame = Fits frame_form (shown frame)

-- the bytes are the tag and the fields of the frame, none left over
unfoldable pub AreFieldsOf : List ℕ → Frame → Type 0
AreFieldsOf bytes frame = scanned frame_form bytes ≡ whole (shown frame) []

-- the same, with the length in front
unfoldable pub AreBytesOf : List ℕ → Frame → Type 0
AreBytesOf bytes frame = frame_scan bytes ≡ whole (shown frame) []
