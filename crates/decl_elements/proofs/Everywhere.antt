-- Facts of each item of a list.
use Rattle.std.proofs.Common.{◌≡◌, ℕ, zero, suc, ◌<◌, List, [], ◌∷◌, ◌++◌, length, map, Option, None, Some, slice_get, slice_index_or, subst, arith}
use Rattle.std.specs.List.{AllByRecursion, Contains, flat_map}

abbrev pub OfSome : {A : Type 0} → (A → Type 0) → Option A → Type 0
OfSome P None = Unit {0}
OfSome P (Some x) = P x

module _ {A : Type 0} (P : A → Type 0) where
  pub each_left : (xs ys : List A) → AllByRecursion P (xs ++ ys) → AllByRecursion P xs
  each_left [] ys a = tt
  each_left (x ∷ xs) ys a = (a.0, each_left xs ys a.1)

  pub each_right : (xs ys : List A) → AllByRecursion P (xs ++ ys) → AllByRecursion P ys
  each_right [] ys a = a
  each_right (x ∷ xs) ys a = each_right xs ys a.1

  pub each_append : (xs ys : List A) → AllByRecursion P xs → AllByRecursion P ys → AllByRecursion P (xs ++ ys)
  each_append [] ys a b = b
  each_append (x ∷ xs) ys a b = (a.0, each_append xs ys a.1 b)

  pub each_of_map : {B : Type 0} (h : B → A) (xs : List B) → AllByRecursion P (map h xs) → AllByRecursion (λ x. P (h x)) xs
  each_of_map h [] a = tt
  each_of_map h (x ∷ xs) a = (a.0, each_of_map h xs a.1)

  pub each_map : {B : Type 0} (h : B → A) (xs : List B) → AllByRecursion (λ x. P (h x)) xs → AllByRecursion P (map h xs)
  each_map h [] a = tt
  each_map h (x ∷ xs) a = (a.0, each_map h xs a.1)

  pub each_of_flat_map : {B : Type 0} (h : B → List A) (xs : List B) → AllByRecursion P (flat_map h xs) → AllByRecursion (λ x. AllByRecursion P (h x)) xs
  each_of_flat_map h [] a = tt
  each_of_flat_map h (x ∷ xs) a = (each_left (h x) (flat_map h xs) a, each_of_flat_map h xs (each_right (h x) (flat_map h xs) a))

  pub each_to : (Q : A → Type 0) → ((x : A) → P x → Q x) → (xs : List A) → AllByRecursion P xs → AllByRecursion Q xs
  each_to Q to [] a = tt
  each_to Q to (x ∷ xs) a = (to x a.0, each_to Q to xs a.1)

  pub each_both : (Q R : A → Type 0) → ((x : A) → P x → Q x → R x) → (xs : List A) → AllByRecursion P xs → AllByRecursion Q xs → AllByRecursion R xs
  each_both Q R to [] a b = tt
  each_both Q R to (x ∷ xs) a b = (to x a.0 b.0, each_both Q R to xs a.1 b.1)

  pub each_at : (xs : List A) (i : ℕ) → AllByRecursion P xs → OfSome P (slice_get xs i)
  each_at [] i a = tt
  each_at (x ∷ xs) zero a = a.0
  each_at (x ∷ xs) (suc i) a = each_at xs i a.1

  pub each : ((x : A) → P x) → (xs : List A) → AllByRecursion P xs
  each p [] = tt
  each p (x ∷ xs) = (p x, each p xs)

  pub each_found : (xs : List A) (i : ℕ) (x : A) → AllByRecursion P xs → i < length xs → slice_index_or xs i x ≡ x → P x
  each_found [] i x a h e = absurd (omega arith)
  each_found (y ∷ ys) zero x a h e = subst P e a.0
  each_found (y ∷ ys) (suc i) x a h e = each_found ys i x a.1 (omega arith) e

  -- of each item of a list that another list has
  pub each_contained : (xs ys : List A) → AllByRecursion P xs → AllByRecursion (Contains xs) ys → AllByRecursion P ys
  each_contained xs [] a c = tt
  each_contained xs (y ∷ ys) a c = (each_found xs c.0.0 y a c.0.1 c.0.2, each_contained xs ys a c.1)
