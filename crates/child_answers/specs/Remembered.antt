-- What is remembered is of one table, and each frame is the one of the reply to its question.
use Rattle.std.specs.Prelude.{◌≡◌, ℕ, Bool, true, false, List}
use Rattle.std.specs.List.{AllByRecursion}
use Rattle.element_table.specs.TypeTable.{TypeTable}
use Rattle.frame_forms.specs.declared.question_row.NameQuestion.TheVariants as name
use Rattle.wire_frames.specs.declared.frame.Frame.TheVariants as frames
use Rattle.wire_frames.specs.declared.question.Question.{Question}
use Rattle.wire_frames.specs.declared.question.Question.TheVariants as questions
use Rattle.wire_frames.specs.Frames.{spelling}
use Rattle.child_answers.specs.declared.known_frames.KnownFrame.{KnownFrame}
use Rattle.child_answers.specs.declared.known_frames.KnownFrames.{KnownFrames}
use Rattle.child_answers.specs.Replies.{reply_of}

-- ---- frames

-- whether the reply to a question is one about the roots of the round
unfoldable pub depends_on_roots : Question → Bool
depends_on_roots (questions.Name name.AnnotatedWith of) = true
depends_on_roots questions.Roots = true
depends_on_roots _ = false

-- the frame of the reply to a question
abbrev pub frame_of : TypeTable → List (List ℕ) → Question → List ℕ
frame_of table roots q = spelling (frames.Reply (reply_of table roots q))

-- a question with the same reply for these roots as for those
abbrev pub ReadAlike : List (List ℕ) → List (List ℕ) → Question → Type 0
ReadAlike these those q = (table : TypeTable) → frame_of table these q ≡ frame_of table those q

abbrev pub IsFrame : TypeTable → List (List ℕ) → KnownFrame → Type 0
IsFrame table roots known = known.frame ≡ frame_of table roots known.question

abbrev pub AreFrames : TypeTable → List (List ℕ) → List KnownFrame → Type 0
AreFrames table roots list = AllByRecursion (IsFrame table roots) list

-- ---- all of it

-- the values of elements and the relations of types are those of this table, and the frames those over it
pub record AreOver (table values relations : TypeTable) (known : KnownFrames) : Type 0 where
  pub values_over : values ≡ table
  pub relations_over : relations ≡ table
  pub frames : AreFrames table known.roots known.list.items
