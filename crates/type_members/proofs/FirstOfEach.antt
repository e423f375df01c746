-- The first number that passes a test, in a list and in the list of each of them once.
use Rattle.std.proofs.Common.{◌≡◌, ℕ, Bool, true, false, cond, eqb, ◌||◌, List, [], ◌∷◌, ◌++◌, Option, None, Some, is_some, refl, sym, ap, ◌∙◌, if◌then◌else◌}
use Rattle.std.proofs.lemmas.Bool.{eqb-true, false≢true}
use Rattle.std.specs.Prelude.{find}
use Rattle.std.specs.List.{list_any}
use Rattle.std.specs.Option.{option_or}
use Rattle.type_members.specs.Once.{with_new, with_each}
use Rattle.type_members.proofs.LevelsOfAlike.{find_joined}

or_none : (o : Option ℕ) → option_or o None ≡ o
or_none None = refl
or_none (Some x) = refl

or_found : (o other : Option ℕ) → is_some o ≡ true → option_or o other ≡ o
or_found None other e = absurd (false≢true e)
or_found (Some x) other e = refl

behind_first : (first : Option ℕ) (n : ℕ) (t : Bool) (rest : Option ℕ)
    → option_or (option_or first (cond t (Some n) None)) rest ≡ option_or first (cond t (Some n) rest)
behind_first (Some x) n t rest = refl
behind_first None n true rest = refl
behind_first None n false rest = refl

module _ (test : ℕ → Bool) where
  some_found : (list : List ℕ) (n : ℕ) → list_any (eqb n) list ≡ true → test n ≡ true → is_some (find test list) ≡ true
  some_found [] n e passes = absurd (false≢true e)
  some_found (x ∷ list) n e passes = by (test x) refl (eqb n x) refl e (λ e. some_found list n e passes)
    where
      by : (t : Bool) → test x ≡ t → (b : Bool) → eqb n x ≡ b → (b || list_any (eqb n) list) ≡ true
          → (list_any (eqb n) list ≡ true → is_some (find test list) ≡ true) → is_some (cond t (Some x) (find test list)) ≡ true
      by true fits b is e next = refl
      by false fits true is e next = absurd (false≢true (sym fits ∙ ap test (sym (eqb-true n x is)) ∙ passes))
      by false fits false is e next = next e

  there_already : (list : List ℕ) (n : ℕ) → list_any (eqb n) list ≡ true → find test list ≡ option_or (find test list) (find test (n ∷ []))
  there_already list n e = by (test n) refl
    where
      by : (t : Bool) → test n ≡ t → find test list ≡ option_or (find test list) (cond t (Some n) None)
      by true passes = sym (or_found (find test list) (Some n) (some_found list n e passes))
      by false fails = sym (or_none (find test list))

  with_one : (list : List ℕ) (n : ℕ) → find test (with_new list n) ≡ option_or (find test list) (find test (n ∷ []))
  with_one list n = by (list_any (eqb n) list) refl
    where
      by : (b : Bool) → list_any (eqb n) list ≡ b → find test (if b then list else list ++ n ∷ []) ≡ option_or (find test list) (find test (n ∷ []))
      by true e = there_already list n e
      by false e = find_joined test list (n ∷ [])

  pub with_all : (list numbers : List ℕ) → find test (with_each list numbers) ≡ option_or (find test list) (find test numbers)
  with_all list [] = sym (or_none (find test list))
  with_all list (n ∷ numbers) =
      with_all (with_new list n) numbers ∙ ap (λ o. option_or o (find test numbers)) (with_one list n)
      ∙ behind_first (find test list) n (test n) (find test numbers)
