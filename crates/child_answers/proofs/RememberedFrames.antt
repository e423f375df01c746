-- The frame of a reply that does not depend on the roots of the round is the same for all roots.
use Rattle.std.proofs.Common.{◌≡◌, ℕ, Bool, true, false, List, refl, sym, ap, ◌∙◌}
use Rattle.std.proofs.lemmas.Bool.{false≢true}
use Rattle.element_table.specs.TypeTable.{TypeTable}
use Rattle.frame_forms.specs.declared.question_row.NameQuestion.{NameQuestion}
use Rattle.frame_forms.specs.declared.question_row.NameQuestion.TheVariants as name
use Rattle.wire_frames.specs.declared.question.Question.{Question}
use Rattle.wire_frames.specs.declared.question.Question.TheVariants as questions
use Rattle.wire_frames.specs.declared.frame.Frame.TheVariants as frames
use Rattle.wire_frames.specs.Frames.{spelling}
use Rattle.child_questions.specs.NamedElements.{question_elements, are_all_there}
use Rattle.child_questions.specs.WantedKinds.{is_admitted}
use Rattle.child_questions.specs.Verdicts.{judged}
use Rattle.child_answers.specs.Remembered.{depends_on_roots, frame_of, ReadAlike}
use Rattle.child_answers.specs.Replies.{Answer, answer_to, judged_answer, name_answer, reply_by, reply_of, unless_too_large}

module _ (these those : List (List ℕ)) where
  module _ (table : TypeTable) where
    name-alike : (of : NameQuestion) (text : List ℕ) → depends_on_roots (questions.Name of text) ≡ false
        → name_answer table these of text ≡ name_answer table those of text
    unfolding depends_on_roots name_answer
    name-alike name.TypeElement text e = refl
    name-alike name.PackageElement text e = refl
    name-alike name.AnnotatedWith text e = absurd (false≢true (sym e))

    answer-alike : (q : Question) → depends_on_roots q ≡ false → answer_to table these q ≡ answer_to table those q
    unfolding depends_on_roots answer_to
    answer-alike (questions.Name of text) e = name-alike of text e
    answer-alike (questions.Element of at) e = refl
    answer-alike (questions.Mirror of m) e = refl
    answer-alike (questions.Mirrors of one other) e = refl
    answer-alike (questions.ValuesWithDefaults at number) e = refl
    answer-alike (questions.Overrides overrider overridden in_type) e = refl
    answer-alike (questions.MemberType container at) e = refl
    answer-alike (questions.DeclaredType at arguments) e = refl
    answer-alike questions.Roots e = absurd (false≢true (sym e))

    abbrev framed : Question → Answer → List ℕ
    framed q answer =
        spelling (frames.Reply (unless_too_large (reply_by (judged (are_all_there table (question_elements q)) (is_admitted table q) answer))))

    frame-alike : (q : Question) → depends_on_roots q ≡ false → frame_of table these q ≡ frame_of table those q
    unfolding reply_of judged_answer
    frame-alike q e = ap (framed q) (answer-alike q e)

  pub free-alike : (q : Question) → depends_on_roots q ≡ false → ReadAlike these those q
  free-alike q e table = frame-alike table q e

  pub same-alike : (q : Question) → these ≡ those → ReadAlike these those q
  same-alike q e table = ap (λ (roots : List (List ℕ)). frame_of table roots q) e

pub ruleset alike = (free-alike, same-alike)
