-- The questions of a child that stand next at the front of bytes: by the row of the tag, its arguments.
use Rattle.std.specs.Prelude.{ℕ, List, Option, Some, None}
use Rattle.apt_base.specs.Fields.{u16_next, text_next}
use Rattle.apt_base.specs.Forms.{Reader, none_next, ◌>>◌, mapped, list_next}
use Rattle.apt_base.specs.declared.element.ElementRef.{ElementRef}
use Rattle.type_mirror.specs.declared.mirror.Mirror.{Mirror}
use Rattle.frame_forms.specs.declared.question_row.NameQuestion.{NameQuestion}
use Rattle.frame_forms.specs.declared.question_row.ElementQuestion.{ElementQuestion}
use Rattle.frame_forms.specs.declared.question_row.MirrorQuestion.{MirrorQuestion}
use Rattle.frame_forms.specs.declared.question_row.MirrorsQuestion.{MirrorsQuestion}
use Rattle.frame_forms.specs.declared.question_row.QuestionRow.{QuestionRow}
use Rattle.frame_forms.specs.declared.question_row.QuestionRow.TheVariants as rows
use Rattle.frame_forms.specs.QuestionTable.{question_at}
use Rattle.frame_forms.specs.Frames.{most_nested}
use Rattle.wire_frames.specs.declared.question.Question.{Question}
use Rattle.wire_frames.specs.declared.question.Question.TheVariants as questions
use Rattle.wire_frames.specs.Readings.{element_next}
use Rattle.frame_decoder.specs.PartReadings.{nothing_next, mirror_next}

-- ---- a question of a row, by its arguments

abbrev pub of_name : NameQuestion → List ℕ → Question
of_name of name = questions.Name of name

abbrev pub of_element : ElementQuestion → ElementRef → Question
of_element of at = questions.Element of at

abbrev pub of_mirror : MirrorQuestion → Mirror → Question
of_mirror of m = questions.Mirror of m

abbrev pub of_mirrors : MirrorsQuestion → Mirror × Mirror → Question
of_mirrors of two = questions.Mirrors of two.0 two.1

abbrev pub values_of : ElementRef × ℕ → Question
values_of v = questions.ValuesWithDefaults v.0 v.1

abbrev pub overrides_of : ElementRef × (ElementRef × ElementRef) → Question
overrides_of v = questions.Overrides v.0 v.1.0 v.1.1

abbrev pub member_of : Mirror × ElementRef → Question
member_of v = questions.MemberType v.0 v.1

abbrev pub declared_of : ElementRef × List Mirror → Question
declared_of v = questions.DeclaredType v.0 v.1

abbrev pub roots_of : Unit {0} → Question
roots_of v = questions.Roots

-- ---- reading

abbrev pub whole_mirror_next : Reader Mirror
whole_mirror_next = mirror_next most_nested

abbrev pub arguments_next : QuestionRow → Reader Question
arguments_next (rows.Name of) = mapped (of_name of) text_next
arguments_next (rows.Element of) = mapped (of_element of) element_next
arguments_next (rows.Mirror of) = mapped (of_mirror of) whole_mirror_next
arguments_next (rows.Mirrors of) = mapped (of_mirrors of) (whole_mirror_next >> whole_mirror_next)
arguments_next rows.ValuesWithDefaults = mapped values_of (element_next >> u16_next)
arguments_next rows.Overrides = mapped overrides_of (element_next >> (element_next >> element_next))
arguments_next rows.MemberType = mapped member_of (whole_mirror_next >> element_next)
arguments_next rows.DeclaredType = mapped declared_of (element_next >> list_next whole_mirror_next)
arguments_next rows.Roots = mapped roots_of nothing_next

abbrev pub row_next : Option QuestionRow → Reader Question
row_next None = none_next
row_next (Some row) = arguments_next row

-- the question with a tag
unfoldable pub question_next : ℕ → Reader Question
question_next tag = row_next (question_at tag)
