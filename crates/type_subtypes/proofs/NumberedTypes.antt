-- Types that are numbered, as a search sees them: what stands stays, and a search of numbers is one of types.
use Rattle.std.proofs.Common.{◌≡◌, ℕ, ◌<◌, length, List, sym, ap, ap₂, subst, ◌∙◌}
use Rattle.type_mirror.specs.declared.mirror.Mirror.{Mirror}
use Rattle.type_levels.specs.Containment.{contains}
use Rattle.type_levels.specs.Numbered.{IsKnownQuestion, question_at}
use Rattle.type_levels.specs.Steps as steps
use Rattle.type_levels.specs.Steps.{Next, answer_of, sub_within}
use Rattle.type_levels.specs.declared.answer.Answer.{Answer}
use Rattle.type_levels.specs.declared.question.Pair.{Pair}
use Rattle.type_levels.specs.declared.question.Question.{Question}
use Rattle.type_levels.specs.declared.question.Question.TheVariants.{Settled, Asks}
use Rattle.type_numbers.specs.Numbers.{at, Stands, Grows}
use Rattle.type_numbers.proofs.NumberLaws.{grown-known, grown-at}
use Rattle.type_subtypes.specs.Numbers.{numbered}
use Rattle.type_subtypes.specs.Subtypes.{type_arguments}

module _ (asks : Mirror → Mirror → Next Mirror) where
  -- two types that were numbered one after the other, and a search of them
  pub searched : (t t' : List Mirror) (i j n : ℕ) (a b : Mirror) (r : Answer) → Stands t i a → Grows t t' → Stands t' j b
      → r ≡ sub_within asks n (at t' i) (at t' j) → r ≡ sub_within asks n a b
  searched t t' i j n a b r one g other e =
      e ∙ ap (λ (m : Mirror). sub_within asks n m (at t' j)) (grown-at t t' i g one.known ∙ one.type)
      ∙ ap (λ (m : Mirror). sub_within asks n a m) other.type

  -- what is asked of two arguments that were numbered so
  module _ (t t' : List Mirror) (i j n : ℕ) (a b : Mirror) (q : Question) where
    exact : Stands t i a → Grows t t' → Stands t' j b → question_at (numbered asks t') q ≡ contains type_arguments (at t' i) (at t' j)
        → question_at (numbered asks t') q ≡ contains type_arguments a b
    exact one g other e = e ∙ ap₂ (λ (x y : Mirror). contains type_arguments x y) (grown-at t t' i g one.known ∙ one.type) other.type

    pub settled : (answer : Answer) → Stands t i a → Grows t t' → Stands t' j b → question_at (numbered asks t') q ≡ contains type_arguments (at t' i) (at t' j)
        → q ≡ Settled answer → answer ≡ answer_of (sub_within asks n) (contains type_arguments a b)
    settled answer one g other e is =
        ap (λ (x : Question). answer_of (sub_within asks n) (question_at (numbered asks t') x)) (sym is)
        ∙ ap (λ (x : steps.Question Mirror). answer_of (sub_within asks n) x) (exact one g other e)

    pub asked : (pair : Pair) (r : Answer) → Stands t i a → Grows t t' → Stands t' j b → question_at (numbered asks t') q ≡ contains type_arguments (at t' i) (at t' j)
        → q ≡ Asks pair → r ≡ sub_within asks n (at t' pair.sub) (at t' pair.sup) → r ≡ answer_of (sub_within asks n) (contains type_arguments a b)
    asked pair r one g other e is answer =
        answer ∙ ap (λ (x : Question). answer_of (sub_within asks n) (question_at (numbered asks t') x)) (sym is)
        ∙ ap (λ (x : steps.Question Mirror). answer_of (sub_within asks n) x) (exact one g other e)

  pub asked-known : (t : List Mirror) (q : Question) (pair : Pair) → IsKnownQuestion (numbered asks t) q → q ≡ Asks pair → (pair.sub < length t) × (pair.sup < length t)
  asked-known t q pair known is = subst (λ (x : Question). IsKnownQuestion (numbered asks t) x) is known

-- both have numbers
pub both-known : (t t' : List Mirror) (i j : ℕ) (a b : Mirror) → Stands t i a → Grows t t' → Stands t' j b → (i < length t') × (j < length t')
both-known t t' i j a b one g other = (grown-known t t' i g one.known, other.known)
