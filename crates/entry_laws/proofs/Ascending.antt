-- Lists that ascend strictly, part by part; and what holds of all their items.
use Rattle.std.proofs.Common.{◌≡◌, Bool, true, List, [], ◌∷◌, ◌++◌, map, Option, Some, refl}
use Rattle.std.specs.List.{list_all, AllByRecursion}
use Rattle.std.proofs.lemmas.Bool.{and_parts, and_from}
use Rattle.record_forms.specs.Forms.{is_above, ascends_after}

-- ---- what holds of each item

pub all_to : {A : Type 0} {P Q : A → Type 0} → ((x : A) → P x → Q x) → (xs : List A) → AllByRecursion P xs → AllByRecursion Q xs
all_to f [] all = tt
all_to f (x ∷ xs) all = (f x all.0, all_to f xs all.1)

pub all_append : {A : Type 0} (P : A → Type 0) (xs ys : List A) → AllByRecursion P xs → AllByRecursion P ys → AllByRecursion P (xs ++ ys)
all_append P [] ys a b = b
all_append P (x ∷ xs) ys a b = (a.0, all_append P xs ys a.1 b)

pub all_mapped : {A B : Type 0} (P : B → Type 0) (f : A → B) (xs : List A) → AllByRecursion (λ x. P (f x)) xs → AllByRecursion P (map f xs)
all_mapped P f [] all = tt
all_mapped P f (x ∷ xs) all = (all.0, all_mapped P f xs all.1)

pub all_always : {A : Type 0} {P : A → Type 0} → ((x : A) → P x) → (xs : List A) → AllByRecursion P xs
all_always f [] = tt
all_always f (x ∷ xs) = (f x, all_always f xs)

pub all_both : {A : Type 0} {P Q R : A → Type 0} → ((x : A) → P x → Q x → R x) → (xs : List A) → AllByRecursion P xs → AllByRecursion Q xs → AllByRecursion R xs
all_both f [] p q = tt
all_both f (x ∷ xs) p q = (f x p.0 q.0, all_both f xs p.1 q.1)

pub all_of_test : {A : Type 0} (test : A → Bool) (xs : List A) → AllByRecursion (λ x. test x ≡ true) xs → list_all test xs ≡ true
all_of_test test [] all = refl
all_of_test test (x ∷ xs) all = and_from (test x) (list_all test xs) all.0 (all_of_test test xs all.1)

pub test_of_all : {A : Type 0} (test : A → Bool) (xs : List A) → list_all test xs ≡ true → AllByRecursion (λ x. test x ≡ true) xs
test_of_all test [] e = tt
test_of_all test (x ∷ xs) e = let both = and_parts (test x) (list_all test xs) e in (both.0, test_of_all test xs both.1)

-- ---- order

module _ {A : Type 0} (less : A → A → Bool) where
  -- one list behind another: what is true of the item before them and of the items of the first lets the second go on
  pub ascends-append : (P : Option A → Type 0) (xs ys : List A) → ((last : Option A) → P last → ascends_after less last ys ≡ true) → (last : Option A) → P last → AllByRecursion (λ x. P (Some x)) xs
      → ascends_after less last xs ≡ true → ascends_after less last (xs ++ ys) ≡ true
  ascends-append P [] ys on last p all up = on last p
  ascends-append P (x ∷ xs) ys on last p all up =
      let both = and_parts (is_above less last x) (ascends_after less (Some x) xs) up in
      and_from (is_above less last x) (ascends_after less (Some x) (xs ++ ys)) both.0 (ascends-append P xs ys on (Some x) all.0 all.1 both.1)

  -- each item is less than all behind it
  abbrev pub AreBelow : List A → Type 0
  AreBelow [] = Unit {0}
  AreBelow (x ∷ xs) = AllByRecursion (λ y. less x y ≡ true) xs × AreBelow xs

  module _ (through : (x y z : A) → less x y ≡ true → less y z ≡ true → less x z ≡ true) where
    below_all : (x : A) (xs : List A) → ascends_after less (Some x) xs ≡ true → AllByRecursion (λ y. less x y ≡ true) xs
    below_all x [] up = tt
    below_all x (y ∷ xs) up =
        let both = and_parts (less x y) (ascends_after less (Some y) xs) up in
        (both.0, all_to (λ z h. through x y z both.0 h) xs (below_all y xs both.1))

    pub are_below : (xs : List A) (last : Option A) → ascends_after less last xs ≡ true → AreBelow xs
    are_below [] last up = tt
    are_below (x ∷ xs) last up =
        let both = and_parts (is_above less last x) (ascends_after less (Some x) xs) up in
        (below_all x xs both.1, are_below xs (Some x) both.1)
