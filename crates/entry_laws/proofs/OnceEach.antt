-- Lists in which no item stands twice: that stays so in another order, and where items are left out.
use Rattle.std.proofs.Common.{◌≡◌, ℕ, ◌+◌, ◌≤◌, Bool, true, false, cond, not, ◌&&◌, ◌||◌, List, [], ◌∷◌, ◌++◌, map, filter, refl, sym, ap, subst, ◌∙◌, arith}
use Rattle.std.specs.List.{list_any, sum_by}
use Rattle.std.specs.List.Sorted.{IsPermutation}
use Rattle.std.proofs.lemmas.Bool.{and_parts, and_from, not-true, true≢false}
use Rattle.std.proofs.lemmas.List.Sorted.{sum_by-IsPermutation}
use Rattle.std.proofs.lemmas.List.Sums.{sum_by-append, sum_by-cons}

abbrev pub once_each : {A : Type 0} → (A → A → Bool) → List A → Bool
once_each same [] = true
once_each same (x ∷ xs) = not (list_any (same x) xs) && once_each same xs

module _ {A : Type 0} (same : A → A → Bool) (is : (x y : A) → same x y ≡ true → x ≡ y) (itself : (x : A) → same x x ≡ true) where
  -- 1 at an item that is this one
  abbrev at : A → A → ℕ
  at x y = cond (same x y) 1 0

  none : (x : A) (xs : List A) → list_any (same x) xs ≡ false → sum_by (at x) xs ≡ 0
  none x [] e = refl
  none x (y ∷ xs) e = sum_by-cons (at x) y xs ∙ go (same x y) e (none x xs)
    where
      go : (b : Bool) → (b || list_any (same x) xs) ≡ false → (list_any (same x) xs ≡ false → sum_by (at x) xs ≡ 0) → cond b 1 0 + sum_by (at x) xs ≡ 0
      go true e ih = absurd (true≢false e)
      go false e ih = let more = ih e in omega (arith, more)

  not_there : (x : A) (xs : List A) → sum_by (at x) xs ≡ 0 → list_any (same x) xs ≡ false
  not_there x [] e = refl
  not_there x (y ∷ xs) e = go (same x y) (sym (sum_by-cons (at x) y xs) ∙ e) (not_there x xs)
    where
      go : (b : Bool) → cond b 1 0 + sum_by (at x) xs ≡ 0 → (sum_by (at x) xs ≡ 0 → list_any (same x) xs ≡ false) → (b || list_any (same x) xs) ≡ false
      go true e ih = absurd (omega (arith, e))
      go false e ih = ih (omega (arith, e))

  at_most_once : (xs : List A) → once_each same xs ≡ true → (x : A) → sum_by (at x) xs ≤ 1
  at_most_once [] e x = omega arith
  at_most_once (y ∷ xs) e x = subst (λ (n : ℕ). n ≤ 1) (sym (sum_by-cons (at x) y xs)) (go (same x y) refl (at_most_once xs both.1 x))
    where
      both : (not (list_any (same y) xs) ≡ true) × (once_each same xs ≡ true)
      both = and_parts (not (list_any (same y) xs)) (once_each same xs) e

      go : (b : Bool) → same x y ≡ b → sum_by (at x) xs ≤ 1 → cond b 1 0 + sum_by (at x) xs ≤ 1
      go true s more =
          let zero = none x xs (ap (λ z. list_any (same z) xs) (is x y s) ∙ not-true (list_any (same y) xs) both.0) in
          omega (arith, zero)
      go false s more = omega (arith, more)

  from_at_most_once : (xs : List A) → ((x : A) → sum_by (at x) xs ≤ 1) → once_each same xs ≡ true
  from_at_most_once [] most = refl
  from_at_most_once (y ∷ xs) most =
      let one : 1 + sum_by (at y) xs ≤ 1 = subst (λ (n : ℕ). n ≤ 1) (sum_by-cons (at y) y xs ∙ ap (λ (b : Bool). cond b 1 0 + sum_by (at y) xs) (itself y)) (most y) in
      and_from (not (list_any (same y) xs)) (once_each same xs) (ap not (not_there y xs (omega (arith, one))))
      (from_at_most_once xs (λ x. let m : at x y + sum_by (at x) xs ≤ 1 = subst (λ (n : ℕ). n ≤ 1) (sum_by-cons (at x) y xs) (most x) in omega (arith, m)))

  pub in_another_order : (xs ys : List A) → IsPermutation xs ys → once_each same xs ≡ true → once_each same ys ≡ true
  in_another_order xs ys moved once =
      from_at_most_once ys (λ x. let sums = sum_by-IsPermutation (at x) xs ys moved in let most = at_most_once xs once x in omega (arith, sums, most))

  pub of_the_first : (xs ys : List A) → once_each same (xs ++ ys) ≡ true → once_each same xs ≡ true
  of_the_first xs ys once = from_at_most_once xs (λ x. let sums = sum_by-append (at x) xs ys in let most = at_most_once (xs ++ ys) once x in omega (arith, sums, most))

  pub of_the_second : (xs ys : List A) → once_each same (xs ++ ys) ≡ true → once_each same ys ≡ true
  of_the_second xs ys once = from_at_most_once ys (λ x. let sums = sum_by-append (at x) xs ys in let most = at_most_once (xs ++ ys) once x in omega (arith, sums, most))

  -- of those that pass a test
  module _ {B : Type 0} (f : B → A) (test : B → Bool) where
    no_more : (x : A) (bs : List B) → sum_by (at x) (map f (filter test bs)) ≤ sum_by (at x) (map f bs)
    no_more x [] = omega arith
    no_more x (b ∷ bs) = subst (λ (n : ℕ). sum_by (at x) (map f (cond (test b) (b ∷ filter test bs) (filter test bs))) ≤ n) (sym (sum_by-cons (at x) (f b) (map f bs))) (go (test b) (no_more x bs))
      where
        go : (t : Bool) → sum_by (at x) (map f (filter test bs)) ≤ sum_by (at x) (map f bs) → sum_by (at x) (map f (cond t (b ∷ filter test bs) (filter test bs))) ≤ at x (f b) + sum_by (at x) (map f bs)
        go true less = subst (λ (n : ℕ). n ≤ at x (f b) + sum_by (at x) (map f bs)) (sym (sum_by-cons (at x) (f b) (map f (filter test bs)))) (omega (arith, less))
        go false less = omega (arith, less)

    pub of_those : (bs : List B) → once_each same (map f bs) ≡ true → once_each same (map f (filter test bs)) ≡ true
    of_those bs once = from_at_most_once (map f (filter test bs)) (λ x. let fewer = no_more x bs in let most = at_most_once (map f bs) once x in omega (arith, fewer, most))
