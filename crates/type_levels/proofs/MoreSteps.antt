-- An answer that is not open stays with more steps.
use Rattle.std.proofs.Common.{◌≡◌, ℕ, zero, suc, ◌+◌, List, [], ◌∷◌, refl, sym, ap, ◌∙◌, arith, subst}
use Rattle.type_levels.specs.Answers.{Answer, Yes, Open, No, either, both, any, all, Settles}
use Rattle.type_levels.specs.Steps.{Question, Settled, Asks, Next, Decided, Arguments, Supertypes, answer_of, with_step, without_step, sub_within}

itself : (x : Answer) → Settles x x
itself Yes = refl
itself Open = tt
itself No = refl

either_settles : (x x' y y' : Answer) → Settles x x' → Settles y y' → Settles (either x y) (either x' y')
either_settles Yes x' y y' p q = ap (λ a. either a y') p
either_settles Open x' Yes y' p q = ap (either x') q ∙ yes_last x'
  where
    yes_last : (x : Answer) → either x Yes ≡ Yes
    yes_last Yes = refl
    yes_last Open = refl
    yes_last No = refl
either_settles Open x' Open y' p q = tt
either_settles Open x' No y' p q = tt
either_settles No x' Yes y' p q = ap (λ a. either a y') p ∙ q
either_settles No x' Open y' p q = tt
either_settles No x' No y' p q = ap (λ a. either a y') p ∙ q

both_settles : (x x' y y' : Answer) → Settles x x' → Settles y y' → Settles (both x y) (both x' y')
both_settles No x' y y' p q = ap (λ a. both a y') p
both_settles Open x' No y' p q = ap (both x') q ∙ no_last x'
  where
    no_last : (x : Answer) → both x No ≡ No
    no_last Yes = refl
    no_last Open = refl
    no_last No = refl
both_settles Open x' Open y' p q = tt
both_settles Open x' Yes y' p q = tt
both_settles Yes x' Yes y' p q = ap (λ a. both a y') p ∙ q
both_settles Yes x' Open y' p q = tt
both_settles Yes x' No y' p q = ap (λ a. both a y') p ∙ q

module _ {A : Type 0} (f g : A → Answer) (e : (x : A) → Settles (f x) (g x)) where
  any_settles : (xs : List A) → Settles (any f xs) (any g xs)
  any_settles [] = refl
  any_settles (x ∷ xs) = either_settles (f x) (g x) (any f xs) (any g xs) (e x) (any_settles xs)

  all_settles : (xs : List A) → Settles (all f xs) (all g xs)
  all_settles [] = refl
  all_settles (x ∷ xs) = both_settles (f x) (g x) (all f xs) (all g xs) (e x) (all_settles xs)

through : (x y z : Answer) → Settles x y → Settles y z → Settles x z
through Yes y z p q = let S : Answer → Type 0 = λ w. Settles w z in subst S p q
through Open y z p q = tt
through No y z p q = let S : Answer → Type 0 = λ w. Settles w z in subst S p q

module _ {M : Type 0} where
  question_settles : (s t : M → M → Answer) → ((a b : M) → Settles (s a b) (t a b)) → (q : Question M) → Settles (answer_of s q) (answer_of t q)
  question_settles s t e (Settled answer) = itself answer
  question_settles s t e (Asks a b) = e a b

  step_settles : (s t : M → M → Answer) → ((a b : M) → Settles (s a b) (t a b)) → (b : M) (next : Next M) → Settles (with_step s b next) (with_step t b next)
  step_settles s t e b (Decided answer) = itself answer
  step_settles s t e b (Arguments questions) = all_settles (answer_of s) (answer_of t) (question_settles s t e) questions
  step_settles s t e b (Supertypes types) = any_settles (λ x. s x b) (λ x. t x b) (λ x. e x b) types

  first_settles : (t : M → M → Answer) (b : M) (next : Next M) → Settles (without_step next) (with_step t b next)
  first_settles t b (Decided answer) = itself answer
  first_settles t b (Arguments questions) = tt
  first_settles t b (Supertypes []) = refl
  first_settles t b (Supertypes (x ∷ types)) = tt

  pub one_more : (next : M → M → Next M) (n : ℕ) (a b : M) → Settles (sub_within next n a b) (sub_within next (suc n) a b)
  unfolding sub_within
  one_more next zero a b = first_settles (sub_within next zero) b (next a b)
  one_more next (suc n) a b = step_settles (sub_within next n) (sub_within next (suc n)) (one_more next n) b (next a b)

  -- so a search may begin with few steps, and go on with more only where the answer is open
  pub more_settles : (next : M → M → Next M) (k n : ℕ) (a b : M) → Settles (sub_within next n a b) (sub_within next (k + n) a b)
  more_settles next zero n a b = let e : 0 + n ≡ n = omega arith in rw e (itself (sub_within next n a b))
  more_settles next (suc k) n a b =
      let e : suc k + n ≡ suc (k + n) = omega arith in
      rw e (through (sub_within next n a b) (sub_within next (k + n) a b) (sub_within next (suc (k + n)) a b) (more_settles next k n a b) (one_more next (k + n) a b))

-- ---- early answers

pub early_yes : {M : Type 0} (next : M → M → Next M) (a b : M) → sub_within next 8 a b ≡ Yes → Yes ≡ sub_within next 64 a b
early_yes next a b e = let S : Answer → Type 0 = λ x. Settles x (sub_within next 64 a b) in sym (subst S e (more_settles next 56 8 a b))

pub early_no : {M : Type 0} (next : M → M → Next M) (a b : M) → sub_within next 8 a b ≡ No → No ≡ sub_within next 64 a b
early_no next a b e = let S : Answer → Type 0 = λ x. Settles x (sub_within next 64 a b) in sym (subst S e (more_settles next 56 8 a b))
