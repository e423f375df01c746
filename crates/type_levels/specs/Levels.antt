-- The levels of a search: what a level of questions asks next, each question once, and the answers that follow from those of the next level.
use Rattle.std.specs.Prelude.{◌≡◌, ℕ, ◌++◌, eqb, ◌&&◌, Bool, List, [], ◌∷◌, map, Option, None, Some, unwrap_or, slice_get, position, if◌then◌else◌}
use Rattle.std.specs.List.{AllByRecursion, fold, list_any}
use Rattle.type_levels.specs.Answers.{Answer, Open, any, all}
use Rattle.type_levels.specs.Steps as steps
use Rattle.type_levels.specs.Steps.{with_step, without_step, sub_within}
use Rattle.type_levels.specs.Numbered.{Numbered, IsKnown, IsKnownNext, next_at, next_of}
use Rattle.type_levels.specs.declared.question.Pair.{Pair}
use Rattle.type_levels.specs.declared.question.Question.{Question}
use Rattle.type_levels.specs.declared.question.Question.TheVariants.{Settled, Asks}
use Rattle.type_levels.specs.declared.question.Next.{Next}
use Rattle.type_levels.specs.declared.question.Next.TheVariants.{Decided, Arguments, Supertypes}
use Rattle.type_levels.specs.declared.asked.Step.{Step}

-- ---- what is asked, each question once

abbrev pub same_pair : Pair → Pair → Bool
same_pair p q = eqb p.sub q.sub && eqb p.sup q.sup

abbrev pub with_pair : List Pair → Pair → List Pair
with_pair asked pair = if list_any (same_pair pair) asked then asked else asked ++ pair ∷ []

abbrev pub with_pairs : List Pair → List Pair → List Pair
with_pairs asked pairs = fold with_pair asked pairs

-- where a question stands among those that are asked
abbrev pub place : List Pair → Pair → Option ℕ
place asked pair = position (same_pair pair) asked

abbrev pub asked_by : List Question → List Pair
asked_by [] = []
asked_by (Settled answer ∷ questions) = asked_by questions
asked_by (Asks pair ∷ questions) = pair ∷ asked_by questions

abbrev pub below_type : ℕ → ℕ → Pair
below_type sup sub = record { sub = sub; sup = sup }

abbrev pub asked_next : ℕ → Next → List Pair
asked_next sup (Decided answer) = []
asked_next sup (Arguments questions) = asked_by questions.items
asked_next sup (Supertypes types) = map (below_type sup) types.items

-- what a question that asks this next asks
abbrev pub asked_at : Step → List Pair
asked_at step = asked_next step.sup step.next

-- ---- answers

abbrev pub at_place : List Answer → Option ℕ → Answer
at_place answers None = Open
at_place answers (Some place) = unwrap_or (slice_get answers place) Open

-- the answer to a question, by the answers to some, in their order; open where it is none of them
abbrev pub look : List Pair → List Answer → Pair → Answer
look asked answers pair = at_place answers (place asked pair)

abbrev pub question_answer : (Pair → Answer) → Question → Answer
question_answer f (Settled answer) = answer
question_answer f (Asks pair) = f pair

abbrev pub next_answer : (Pair → Answer) → ℕ → Next → Answer
next_answer f sup (Decided answer) = answer
next_answer f sup (Arguments questions) = all (question_answer f) questions.items
next_answer f sup (Supertypes types) = any (λ sub. f (below_type sup sub)) types.items

-- the answer with one step, by the answers to what is asked next
abbrev pub step_answer : (Pair → Answer) → Step → Answer
step_answer f step = next_answer f step.sup step.next

abbrev pub last_answer : Next → Answer
last_answer (Decided answer) = answer
last_answer (Arguments questions) = Open
last_answer (Supertypes types) = without_step (steps.Supertypes types.items)

-- ---- numbers and types

-- what a question asks next, with its second type
pub record Asking (M : Type 0) : Type 0 where
  pub super : M
  pub next : steps.Next M

module _ {M : Type 0} where
  abbrev pub IsKnownStep : Numbered M → Step → Type 0
  IsKnownStep types step = IsKnown types step.sup × IsKnownNext types step.next

  abbrev pub step_at : Numbered M → Step → Asking M
  step_at types step = record { super = types.at step.sup; next = next_at types step.next }

  abbrev pub step_of : Numbered M → Pair → Asking M
  step_of types pair = record { super = types.at pair.sup; next = next_of types pair }

  -- these steps, by numbers, are what the questions ask next
  pub record AreNext (old new : Numbered M) (asked : List Pair) (steps : List Step) : Type 0 where
    pub known : AllByRecursion (IsKnownStep new) steps
    pub next : map (step_at new) steps ≡ map (step_of old) asked

  -- the answer to a question by numbers
  abbrev pub answer_at : Numbered M → ℕ → Pair → Answer
  answer_at types n pair = sub_within types.next n (types.at pair.sub) (types.at pair.sup)

  -- the answers to these questions, in their order
  abbrev pub AreAnswers : Numbered M → ℕ → List Pair → List Answer → Type 0
  AreAnswers types n asked answers = answers ≡ map (answer_at types n) asked

  -- this is what each question asks next, `see` showing the types before a call and after it
  abbrev pub AllAsk : {T : Type 0} → (T → Numbered M) → T → T → List Pair → List Step → Type 0
  AllAsk see old new asked steps = AreNext (see old) (see new) asked steps
