-- A level is answered by the answers to what it asks.
use Rattle.std.proofs.Common.{◌≡◌, ℕ, suc, ◌-◌, ◌<◌, arith, List, [], ◌∷◌, map, refl, sym, ap, ◌∙◌, subst}
use Rattle.std.specs.List.{AllByRecursion, flat_map}
use Rattle.type_levels.specs.Answers.{Answer, both, any, all}
use Rattle.type_levels.specs.Steps as steps
use Rattle.type_levels.specs.Steps.{answer_of, with_step, without_step, sub_within}
use Rattle.type_levels.specs.Numbered.{Numbered, AreKnown, IsKnown, IsKnownQuestion, IsKnownNext, Grows, question_at, next_at, next_of}
use Rattle.type_levels.specs.Levels.{asked_by, asked_next, asked_at, below_type, look, question_answer, next_answer, step_answer, last_answer, with_pairs, Asking, IsKnownStep, step_at, step_of, AreNext, answer_at}
use Rattle.type_levels.specs.declared.question.Pair.{Pair}
use Rattle.type_levels.specs.declared.question.Question.{Question}
use Rattle.type_levels.specs.declared.question.Question.TheVariants.{Settled, Asks}
use Rattle.type_levels.specs.declared.question.Next.{Next}
use Rattle.type_levels.specs.declared.question.Next.TheVariants.{Decided, Arguments, Supertypes}
use Rattle.type_levels.specs.declared.asked.Step.{Step}
use Rattle.type_levels.proofs.EachOnce.{all_joined, all_parted, all_kept, all_added, look_right}

-- ---- a step looks at the answers to what it asks alone

module _ {M : Type 0} (t : Numbered M) (f : Pair → Answer) (g : M → M → Answer) where
  -- the answer by numbers is the one of the types
  abbrev pub IsRight : Pair → Type 0
  IsRight q = f q ≡ g (t.at q.sub) (t.at q.sup)

  questions_right : (questions : List Question) → AllByRecursion IsRight (asked_by questions)
      → all (question_answer f) questions ≡ all (answer_of g) (map (question_at t) questions)
  questions_right [] h = refl
  questions_right (Settled answer ∷ questions) h = ap (both answer) (questions_right questions h)
  questions_right (Asks q ∷ questions) h = rw (h.0, questions_right questions h.1) refl

  types_right : (sup : ℕ) (types : List ℕ) → AllByRecursion IsRight (map (below_type sup) types)
      → any (λ sub. f (below_type sup sub)) types ≡ any (λ s. g s (t.at sup)) (map t.at types)
  types_right sup [] h = refl
  types_right sup (sub ∷ types) h = rw (h.0, types_right sup types h.1) refl

  next_right : (sup : ℕ) (next : Next) → AllByRecursion IsRight (asked_next sup next) → next_answer f sup next ≡ with_step g (t.at sup) (next_at t next)
  next_right sup (Decided answer) h = refl
  next_right sup (Arguments questions) h = questions_right questions.items h
  next_right sup (Supertypes types) h = types_right sup types.items h

  steps_right : (level : List Step) → AllByRecursion IsRight (flat_map asked_at level)
      → map (step_answer f) level ≡ map (λ a. with_step g a.super a.next) (map (step_at t) level)
  steps_right [] h = refl
  steps_right (step ∷ level) h =
      let r = all_parted IsRight (asked_at step) (flat_map asked_at level) h in
      rw (next_right step.sup step.next r.0, steps_right level r.1) refl

last_right : {M : Type 0} (t : Numbered M) (next : Next) → last_answer next ≡ without_step (next_at t next)
last_right t (Decided answer) = refl
last_right t (Arguments questions) = refl
last_right t (Supertypes types) = by types.items
  where
    by : (numbers : List ℕ) → without_step (steps.Supertypes numbers) ≡ without_step (steps.Supertypes (map t.at numbers))
    by [] = refl
    by (s ∷ numbers) = refl

all_last_right : {M : Type 0} (t : Numbered M) (level : List Step)
    → map (λ step. last_answer step.next) level ≡ map (λ (a : Asking M). without_step a.next) (map (step_at t) level)
all_last_right t [] = refl
all_last_right t (step ∷ level) = rw (last_right t step.next, all_last_right t level) refl

-- ---- what is asked next is numbered

module _ {M : Type 0} (t : Numbered M) where
  questions_known : (questions : List Question) → AllByRecursion (IsKnownQuestion t) questions → AllByRecursion (AreKnown t) (asked_by questions)
  questions_known [] h = tt
  questions_known (Settled answer ∷ questions) h = questions_known questions h.1
  questions_known (Asks q ∷ questions) h = (h.0, questions_known questions h.1)

  types_known : (sup : ℕ) (types : List ℕ) → IsKnown t sup → AllByRecursion (IsKnown t) types → AllByRecursion (AreKnown t) (map (below_type sup) types)
  types_known sup [] k h = tt
  types_known sup (sub ∷ types) k h = ((h.0, k), types_known sup types k h.1)

  next_known : (sup : ℕ) (next : Next) → IsKnown t sup → IsKnownNext t next → AllByRecursion (AreKnown t) (asked_next sup next)
  next_known sup (Decided answer) k h = tt
  next_known sup (Arguments questions) k h = questions_known questions.items h
  next_known sup (Supertypes types) k h = types_known sup types.items k h

  steps_known : (level : List Step) → AllByRecursion (IsKnownStep t) level → AllByRecursion (AreKnown t) (flat_map asked_at level)
  steps_known [] h = tt
  steps_known (step ∷ level) h =
      all_joined (AreKnown t) (asked_at step) (flat_map asked_at level) (next_known step.sup step.next h.0.0 h.0.1) (steps_known level h.1)

  -- the questions of the next level are of types that are numbered
  pub next_level_known : (level : List Step) (next : List Pair) → next ≡ with_pairs [] (flat_map asked_at level) → AllByRecursion (IsKnownStep t) level
      → AllByRecursion (AreKnown t) next
  next_level_known level next e h =
      subst (AllByRecursion (AreKnown t)) (sym e) (all_added (AreKnown t) [] (flat_map asked_at level) tt (steps_known level h))

-- ---- the answers of a level

module _ {M : Type 0} (old new : Numbered M) (asked : List Pair) (level : List Step) (asks : AreNext old new asked level) where
  pub last_level : map (λ step. last_answer step.next) level ≡ map (answer_at old 0) asked
  unfolding sub_within
  last_level = all_last_right new level ∙ ap (map (λ (a : Asking M). without_step a.next)) asks.next ∙ by asked
    where
      by : (asked : List Pair) → map (λ (a : Asking M). without_step a.next) (map (step_of old) asked) ≡ map (answer_at old 0) asked
      by [] = refl
      by (q ∷ asked) = ap (λ answers. without_step (next_of old q) ∷ answers) (by asked)

  -- right answers to all that is asked give right answers with one step more
  pub next_answers : (n : ℕ) (next : List Pair) (answers : List Answer) → Grows old new → next ≡ with_pairs [] (flat_map asked_at level)
      → answers ≡ map (answer_at new n) next → map (step_answer (look next answers)) level ≡ map (answer_at old (suc n)) asked
  unfolding sub_within
  next_answers n next answers grows e right =
      ap (λ xs. map (step_answer (look next xs)) level) right
      ∙ steps_right new f g level (all_kept (IsRight new f g) [] (flat_map asked_at level) (subst (AllByRecursion (IsRight new f g)) e (look_right (answer_at new n) next))).1
      ∙ ap (map (λ (a : Asking M). with_step g a.super a.next)) asks.next ∙ by asked
    where
      f : Pair → Answer
      f = look next (map (answer_at new n) next)

      g : M → M → Answer
      g = sub_within new.next n

      by : (asked : List Pair) → map (λ (a : Asking M). with_step g a.super a.next) (map (step_of old) asked) ≡ map (answer_at old (suc n)) asked
      by [] = refl
      by (q ∷ asked) = λ i. with_step (sub_within (grows.same i) n) (old.at q.sup) (next_of old q) ∷ by asked i

  -- the same with a number of steps that is not 0
  pub level_answers : (n : ℕ) (next : List Pair) (answers : List Answer) → 0 < n → Grows old new → next ≡ with_pairs [] (flat_map asked_at level)
      → answers ≡ map (answer_at new (n - 1)) next → map (step_answer (look next answers)) level ≡ map (answer_at old n) asked
  level_answers n next answers more grows e right =
      let less : suc (n - 1) ≡ n = omega arith in
      next_answers (n - 1) next answers grows e right ∙ ap (λ k. map (answer_at old k) asked) less
