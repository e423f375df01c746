-- What holds of every reply: it is of the frame that its row names, or a refusal; and a frame holds it. What a question on
-- types comes to is what `type_queries` answers alone, before it is seen whether a frame holds it.
use Rattle.std.specs.Prelude.{◌≡◌, ℕ, false, List, Some}
use Rattle.apt_base.specs.declared.element.ElementRef.{ElementRef}
use Rattle.element_table.specs.TypeTable.{TypeTable}
use Rattle.type_mirror.specs.declared.mirror.Mirror.{Mirror}
use Rattle.child_questions.specs.Questions.{same_question, print_question, boxed_question, unboxed_question, type_question}
use Rattle.child_questions.specs.Questions.{direct_question, erasure_question, subtype_question, contains_question}
use Rattle.child_questions.specs.Questions.{assignable_question, subsignature_question}
use Rattle.child_questions.specs.MemberLists.{members_question}
use Rattle.child_questions.specs.OverridingQuestions.{overrides_question}
use Rattle.frame_forms.specs.declared.question_row.ElementQuestion.TheVariants as element
use Rattle.frame_forms.specs.declared.question_row.MirrorQuestion.TheVariants as mirror
use Rattle.frame_forms.specs.declared.question_row.MirrorsQuestion.TheVariants as two
use Rattle.frame_forms.specs.QuestionTable.{ReplyFrame, elements, info, texts, annotations, values, mirrors, truth}
use Rattle.frame_forms.specs.QuestionTable.{question_reply}
use Rattle.wire_frames.specs.declared.frame.Frame.TheVariants as frames
use Rattle.wire_frames.specs.declared.question.Question.{Question}
use Rattle.wire_frames.specs.declared.question.Question.TheVariants as questions
use Rattle.wire_frames.specs.declared.reply.Reply.{Reply}
use Rattle.wire_frames.specs.declared.reply.Reply.TheVariants as reply
use Rattle.wire_frames.specs.Frames.{question_row}
use Rattle.wire_frames.specs.Limits.{is_too_large}
use Rattle.child_answers.specs.Replies.{with_elements, with_mirror, with_mirrors, with_text, with_truth, in_reply}
use Rattle.child_answers.specs.Replies.{judged_answer, reply_of}

-- ---- frames

-- a refusal is a reply to any question
abbrev pub IsOfFrame : Reply → ReplyFrame → Type 0
IsOfFrame (reply.Refused reason) frame = Unit {0}
IsOfFrame (reply.Elements list) elements = Unit {0}
IsOfFrame (reply.Info facts) info = Unit {0}
IsOfFrame (reply.Texts list) texts = Unit {0}
IsOfFrame (reply.Annotations list) annotations = Unit {0}
IsOfFrame (reply.Values list) values = Unit {0}
IsOfFrame (reply.Mirrors list) mirrors = Unit {0}
IsOfFrame (reply.Truth holds) truth = Unit {0}
IsOfFrame _ _ = ⊥

abbrev pub AreOfTheirFrames : Type 0
AreOfTheirFrames = (table : TypeTable) (roots : List (List ℕ)) (q : Question)
    → IsOfFrame (reply_of table roots q) (question_reply (question_row q))

abbrev pub AllFit : Type 0
AllFit = (table : TypeTable) (roots : List (List ℕ)) (q : Question) → is_too_large (frames.Reply (reply_of table roots q)) ≡ false

-- ---- the calls of `type_queries`

pub record AgreeWithCalls (table : TypeTable) (roots : List (List ℕ)) : Type 0 where
  pub same : (a b : Mirror) → judged_answer table roots (questions.Mirrors two.SameType a b) ≡ with_truth (same_question table a b)
  pub subtype : (a b : Mirror)
      → judged_answer table roots (questions.Mirrors two.Subtype a b) ≡ with_truth (subtype_question table a b)
  pub assignable : (a b : Mirror)
      → judged_answer table roots (questions.Mirrors two.Assignable a b) ≡ with_truth (assignable_question table a b)
  pub contains : (a b : Mirror)
      → judged_answer table roots (questions.Mirrors two.Contains a b) ≡ with_truth (contains_question table a b)
  pub subsignature : (a b : Mirror)
      → judged_answer table roots (questions.Mirrors two.Subsignature a b) ≡ with_truth (subsignature_question table a b)
  pub direct : (m : Mirror)
      → judged_answer table roots (questions.Mirror mirror.DirectSupertypes m) ≡ in_reply with_mirrors (direct_question table m)
  pub erasure : (m : Mirror)
      → judged_answer table roots (questions.Mirror mirror.Erasure m) ≡ in_reply with_mirror (erasure_question table m)
  pub boxed : (m : Mirror)
      → judged_answer table roots (questions.Mirror mirror.Boxed m) ≡ in_reply with_mirror (boxed_question table m)
  pub unboxed : (m : Mirror)
      → judged_answer table roots (questions.Mirror mirror.Unboxed m) ≡ in_reply with_mirror (unboxed_question table m)
  pub print : (m : Mirror)
      → judged_answer table roots (questions.Mirror mirror.PrintType m) ≡ in_reply (λ text. with_text (Some text)) (print_question table m)
  pub type_of : (at : ElementRef)
      → judged_answer table roots (questions.Element element.TypeOf at) ≡ in_reply with_mirror (type_question table at)
  pub members : (at : ElementRef)
      → judged_answer table roots (questions.Element element.AllMembers at) ≡ in_reply with_elements (members_question table at)
  pub overrides : (one other within : ElementRef)
      → judged_answer table roots (questions.Overrides one other within) ≡ with_truth (overrides_question table one other within)
