-- A list that is put in order has the items that it had; and where no two are the same it ascends strictly.
use Rattle.std.proofs.Common.{◌≡◌, Bool, true, false, ◌&&◌, List, [], ◌∷◌, Option, None, Some, if◌then◌else◌, refl}
use Rattle.std.specs.List.{AllByRecursion}
use Rattle.std.specs.List.Sorted.{IsPermutation}
use Rattle.std.proofs.lemmas.Bool.{and_parts, and_from}
use Rattle.std.proofs.lemmas.List.Sorted.{IsPermutation-refl, IsPermutation-cons, IsPermutation-trans, IsPermutation-middle}
use Rattle.apt_filer.specs.Orders.{put, in_order}
use Rattle.record_forms.specs.Forms.{is_above, ascends_after}
use Rattle.apt_filer.proofs.OrderLemmas.{all_in_order}

-- no two items are the same
abbrev pub AreOther : {A : Type 0} → (A → A → Bool) → List A → Type 0
AreOther same [] = Unit {0}
AreOther same (x ∷ xs) = AllByRecursion (λ y. same x y ≡ false) xs × AreOther same xs

module _ {A : Type 0} (less : A → A → Bool) where
  -- ---- the items

  put_moves : (x : A) (ys : List A) → IsPermutation (x ∷ ys) (put less x ys)
  unfolding put
  put_moves x [] = IsPermutation-refl (x ∷ [])
  put_moves x (y ∷ ys) = go (less y x) (put_moves x ys)
    where
      swapped : IsPermutation (x ∷ y ∷ ys) (y ∷ x ∷ ys)
      swapped = IsPermutation-middle (x ∷ []) y ys

      go : (b : Bool) → IsPermutation (x ∷ ys) (put less x ys) → IsPermutation (x ∷ y ∷ ys) (if b then y ∷ put less x ys else x ∷ y ∷ ys)
      go true ih = IsPermutation-trans (x ∷ y ∷ ys) (y ∷ x ∷ ys) (y ∷ put less x ys) swapped (IsPermutation-cons y (x ∷ ys) (put less x ys) ih)
      go false ih = IsPermutation-refl (x ∷ y ∷ ys)

  pub in_order-moves : (xs : List A) → IsPermutation xs (in_order less xs)
  unfolding in_order
  in_order-moves [] = IsPermutation-refl []
  in_order-moves (x ∷ xs) =
      IsPermutation-trans (x ∷ xs) (x ∷ in_order less xs) (put less x (in_order less xs)) (IsPermutation-cons x xs (in_order less xs) (in_order-moves xs)) (put_moves x (in_order less xs))

  -- ---- their order

  module _ (same : A → A → Bool) (other : (x y : A) → same x y ≡ false → less y x ≡ false → less x y ≡ true) where
    put-ascends : (x : A) (ys : List A) (last : Option A) → is_above less last x ≡ true → ascends_after less last ys ≡ true → AllByRecursion (λ y. same x y ≡ false) ys → ascends_after less last (put less x ys) ≡ true
    unfolding put
    put-ascends x [] last above up all = and_from (is_above less last x) true above refl
    put-ascends x (y ∷ ys) last above up all = go (less y x) refl (λ e. put-ascends x ys (Some y) e both.1 all.1)
      where
        both : (is_above less last y ≡ true) × (ascends_after less (Some y) ys ≡ true)
        both = and_parts (is_above less last y) (ascends_after less (Some y) ys) up

        go : (b : Bool) → less y x ≡ b → (less y x ≡ true → ascends_after less (Some y) (put less x ys) ≡ true) → ascends_after less last (if b then y ∷ put less x ys else x ∷ y ∷ ys) ≡ true
        go true e ih = and_from (is_above less last y) (ascends_after less (Some y) (put less x ys)) both.0 (ih e)
        go false e ih =
            and_from (is_above less last x) (less x y && ascends_after less (Some y) ys) above (and_from (less x y) (ascends_after less (Some y) ys) (other x y all.0 e) both.1)

    pub in_order-ascends : (xs : List A) → AreOther same xs → ascends_after less None (in_order less xs) ≡ true
    unfolding in_order
    in_order-ascends [] all = refl
    in_order-ascends (x ∷ xs) all = put-ascends x (in_order less xs) None refl (in_order-ascends xs all.1) (all_in_order less (λ y. same x y ≡ false) xs all.0)
