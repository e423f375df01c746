-- What stands for a type goes on standing for it while types are added.
use Rattle.std.proofs.Common.{◌≡◌, ℕ, zero, suc, ◌+◌, ◌<◌, List, [], ◌∷◌, ◌++◌, map, take, length, get_or, refl, sym, ap, ◌∙◌, arith}
use Rattle.std.proofs.lemmas.List.{take_more, map-append}
use Rattle.std.specs.List.{AllByRecursion}
use Rattle.type_levels.specs.Numbered.{Numbered, AreKnown, IsKnown, IsKnownQuestion, IsKnownNext, Grows, Stands, question_at, next_at, next_of}
use Rattle.type_levels.specs.Levels.{IsKnownStep, step_at, step_of, AreNext}
use Rattle.type_levels.specs.Steps as steps
use Rattle.type_levels.specs.declared.question.Pair.{Pair}
use Rattle.type_levels.specs.declared.question.Question.{Question}
use Rattle.type_levels.specs.declared.question.Question.TheVariants.{Settled, Asks}
use Rattle.type_levels.specs.declared.question.Next.{Next}
use Rattle.type_levels.specs.declared.question.Next.TheVariants.{Decided, Arguments, Supertypes}
use Rattle.type_levels.specs.declared.asked.Step.{Step}
use Rattle.type_levels.proofs.EachOnce.{weaken, all_joined}

pub stays : {M : Type 0} (t : Numbered M) → Grows t t
stays t = record { more = omega arith; stands = λ number k. refl; same = refl }

pub grows_on : {M : Type 0} (t u v : Numbered M) → Grows t u → Grows u v → Grows t v
grows_on t u v a b =
    record {
      more = let one = a.more in let two = b.more in omega arith;
      stands = λ number k. b.stands number (let one = a.more in omega arith) ∙ a.stands number k;
      same = b.same ∙ a.same;
    }

module _ {M : Type 0} (t u : Numbered M) (grows : Grows t u) where
  number_known : (number : ℕ) → IsKnown t number → IsKnown u number
  number_known number k = let more = grows.more in omega arith

  pub pair_known : (q : Pair) → AreKnown t q → AreKnown u q
  pair_known q k = (number_known q.sub k.0, number_known q.sup k.1)

  question_known : (q : Question) → IsKnownQuestion t q → IsKnownQuestion u q
  question_known (Settled answer) k = tt
  question_known (Asks q) k = pair_known q k

  next_known : (next : Next) → IsKnownNext t next → IsKnownNext u next
  next_known (Decided answer) k = tt
  next_known (Arguments questions) k = weaken (IsKnownQuestion t) (IsKnownQuestion u) question_known questions.items k
  next_known (Supertypes types) k = weaken (IsKnown t) (IsKnown u) number_known types.items k

  step_known : (step : Step) → IsKnownStep t step → IsKnownStep u step
  step_known step k = (number_known step.sup k.0, next_known step.next k.1)

  same_all : {A B : Type 0} (P : A → Type 0) (f g : A → B) → ((x : A) → P x → f x ≡ g x) → (xs : List A) → AllByRecursion P xs → map f xs ≡ map g xs
  same_all P f g e [] h = refl
  same_all P f g e (x ∷ xs) h = rw (e x h.0, same_all P f g e xs h.1) refl

  question_stays : (q : Question) → IsKnownQuestion t q → question_at u q ≡ question_at t q
  question_stays (Settled answer) k = refl
  question_stays (Asks q) k = λ i. steps.Asks (grows.stands q.sub k.0 i) (grows.stands q.sup k.1 i)

  next_stays : (next : Next) → IsKnownNext t next → next_at u next ≡ next_at t next
  next_stays (Decided answer) k = refl
  next_stays (Arguments questions) k = ap steps.Arguments (same_all (IsKnownQuestion t) (question_at u) (question_at t) question_stays questions.items k)
  next_stays (Supertypes types) k = ap steps.Supertypes (same_all (IsKnown t) u.at t.at grows.stands types.items k)

  step_stays : (step : Step) → IsKnownStep t step → step_at u step ≡ step_at t step
  step_stays step k = λ i. record { super = grows.stands step.sup k.0 i; next = next_stays step.next k.1 i }

  -- what a question asks next is the same once types were added
  pub next_of_stays : (q : Pair) → AreKnown t q → next_of u q ≡ next_of t q
  next_of_stays q k = λ i. grows.same i (grows.stands q.sub k.0 i) (grows.stands q.sup k.1 i)

  steps_stay : (asked : List Pair) (level : List Step) (old : Numbered M) → AreNext old t asked level → AreNext old u asked level
  steps_stay asked level old h =
      record {
        known = weaken (IsKnownStep t) (IsKnownStep u) step_known level h.known;
        next = same_all (IsKnownStep t) (step_at u) (step_at t) step_stays level h.known ∙ h.next;
      }

all_at : {A : Type 0} (P : A → Type 0) (xs : List A) (at : ℕ) (d : A) → at < length xs → AllByRecursion P xs → P (get_or xs at d)
all_at P [] at d less h = absurd (omega arith)
all_at P (x ∷ xs) zero d less h = h.0
all_at P (x ∷ xs) (suc at) d less h = all_at P xs at d (omega arith) h.1

-- one question more of a level
pub one_more : {M : Type 0} (old t u : Numbered M) (asked : List Pair) (at : ℕ) (d : Pair) (level level' : List Step) (next : Next)
    → at < length asked → Grows old t → Grows t u → AllByRecursion (AreKnown old) asked → AreNext old t (take at asked) level
    → Stands u next (next_of t (get_or asked at d)) → level' ≡ level ++ record { sup = (get_or asked at d).sup; next = next } ∷ []
    → AreNext old u (take (at + 1) asked) level'
one_more old t u asked at d level level' next less before grows known so_far stands e =
    let q = get_or asked at d in
    let q_known : AreKnown old q = all_at (AreKnown old) asked at d less known in
    let all_grows = grows_on old t u before grows in
    let moved = steps_stay t u grows (take at asked) level old so_far in
    let step : Step = record { sup = q.sup; next = next } in
    let is : step_at u step ≡ step_of old q =
    λ i. record { super = all_grows.stands q.sup q_known.1 i; next = (stands.next ∙ next_of_stays old t before q q_known) i } in
    record {
      known = rw e (all_joined (IsKnownStep u) level (step ∷ []) moved.known ((number_known old u all_grows q.sup q_known.1, stands.known), tt));
      next =
          ap (map (step_at u)) e ∙ map-append (step_at u) level (step ∷ []) ∙ rw (moved.next, is) refl
          ∙ sym (ap (map (step_of old)) (take_more asked at d less) ∙ map-append (step_of old) (take at asked) (q ∷ []));
    }
