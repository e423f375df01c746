-- Lists that are put in an order.
use Rattle.std.proofs.Common.{◌≡◌, ℕ, zero, suc, ◌≤◌, ◌<◌, Bool, true, false, cond, not, ◌&&◌, List, [], ◌∷◌, ◌++◌, length, refl, sym, ap, ◌∙◌, subst, true≢false, arith}
use lib.ListN.{get_or}
use Rattle.std.specs.Prelude.{if◌then◌else◌}
use Rattle.std.specs.Bool.{⊤}
use Rattle.std.specs.List.{filter, AllByRecursion}
use Rattle.std.specs.Cmp.{IsStrictWeakOrder}
use Rattle.std.specs.List.Sorted.{IsSortedBy, IsStableBy, ties}
use Rattle.std.proofs.lemmas.List.Sorted.{sorted_far}
use Rattle.apt_filer.specs.Orders.{put, in_order, NoneBelow}

head_same : {A : Type 0} {x y : A} {xs ys : List A} → x ∷ xs ≡ y ∷ ys → x ≡ y
head_same {A} {x} h = ap (λ l. elim l [ [] ↦ x | z ∷ zs ↦ z ]) h

tail_same : {A : Type 0} {x y : A} {xs ys : List A} → x ∷ xs ≡ y ∷ ys → xs ≡ ys
tail_same {A} {x} {y} {xs} h = ap (λ l. elim l [ [] ↦ xs | z ∷ zs ↦ zs ]) h

nothing_is : {A P : Type 0} {x : A} {xs : List A} → [] ≡ x ∷ xs → P
nothing_is h = absurd (true≢false (ap (λ l. elim l [ [] ↦ true | z ∷ zs ↦ false ]) h))

-- a test that passes both ways does not pass
never : (b : Bool) → (b ≡ true → b ≡ false) → b ≡ false
never true h = h refl
never false h = refl

both_fail : (a b : Bool) → not a && not b ≡ true → (a ≡ false) × (b ≡ false)
both_fail false false h = (refl, refl)
both_fail false true h = absurd (true≢false (sym h))
both_fail true b h = absurd (true≢false (sym h))

-- no item is below one in front of it
unfoldable pub Ascends : {A : Type 0} → (A → A → Bool) → List A → Type 0
Ascends below [] = ⊤
Ascends below (x ∷ xs) = NoneBelow below x xs × Ascends below xs

-- two tests say the same of each item and one in front of it
unfoldable pub AreAlike : {A : Type 0} → (A → A → Bool) → (A → A → Bool) → List A → Type 0
AreAlike finer below [] = ⊤
AreAlike finer below (x ∷ xs) = AllByRecursion (λ y. finer y x ≡ below y x) xs × AreAlike finer below xs

-- ---- what holds of each item

module _ {A : Type 0} (below : A → A → Bool) where
  all_put : (P : A → Type 0) (x : A) (ys : List A) → P x → AllByRecursion P ys → AllByRecursion P (put below x ys)
  unfolding put
  all_put P x [] here all = (here, tt)
  all_put P x (y ∷ ys) here all = go (below y x) (all_put P x ys here all.1)
    where
      go : (b : Bool) → AllByRecursion P (put below x ys) → AllByRecursion P (if b then y ∷ put below x ys else x ∷ y ∷ ys)
      go true ih = (all.0, ih)
      go false ih = (here, all)

  pub all_in_order : (P : A → Type 0) (xs : List A) → AllByRecursion P xs → AllByRecursion P (in_order below xs)
  unfolding in_order
  all_in_order P [] all = tt
  all_in_order P (x ∷ xs) all = all_put P x (in_order below xs) all.0 (all_in_order P xs all.1)

  -- ---- a finer order that finds nothing more

  put_same : (finer : A → A → Bool) (x : A) (ys : List A) → AllByRecursion (λ y. finer y x ≡ below y x) ys → put finer x ys ≡ put below x ys
  unfolding put
  put_same finer x [] h = refl
  put_same finer x (y ∷ ys) h = λ i. if h.0 i then y ∷ put_same finer x ys h.1 i else x ∷ y ∷ ys

  pub in_order_alike : (finer : A → A → Bool) (xs : List A) → AreAlike finer below xs → in_order finer xs ≡ in_order below xs
  unfolding in_order AreAlike
  in_order_alike finer [] h = refl
  in_order_alike finer (x ∷ xs) h =
      ap (put finer x) (in_order_alike finer xs h.1) ∙ put_same finer x (in_order below xs) (all_in_order (λ y. finer y x ≡ below y x) xs h.0)

  -- ---- one list behind another

  put_front : (x : A) (ys zs : List A) → NoneBelow below x zs → put below x (ys ++ zs) ≡ put below x ys ++ zs
  unfolding put
  put_front x [] [] n = refl
  put_front x [] (z ∷ zs) n = λ i. if n.0 i then z ∷ put below x zs else x ∷ z ∷ zs
  put_front x (y ∷ ys) zs n = go (below y x) (put_front x ys zs n)
    where
      go : (b : Bool) → put below x (ys ++ zs) ≡ put below x ys ++ zs → (if b then y ∷ put below x (ys ++ zs) else x ∷ y ∷ (ys ++ zs)) ≡ (if b then y ∷ put below x ys else x ∷ y ∷ ys) ++ zs
      go true ih = ap (λ l. y ∷ l) ih
      go false ih = refl

  pub in_order_append : (xs ys : List A) → AllByRecursion (λ x. NoneBelow below x ys) xs → in_order below (xs ++ ys) ≡ in_order below xs ++ in_order below ys
  unfolding in_order
  in_order_append [] ys h = refl
  in_order_append (x ∷ xs) ys h =
      ap (put below x) (in_order_append xs ys h.1) ∙ put_front x (in_order below xs) (in_order below ys) (all_in_order (λ y. below y x ≡ false) ys h.0)

-- ---- by an order

module _ {A : Type 0} (below : A → A → Bool) (o : IsStrictWeakOrder below) where
  itself : (x : A) → ties below x x ≡ true
  itself x = λ i. not (never (below x x) (o.one_way x x) i) && not (never (below x x) (o.one_way x x) i)

  none_of : (x : A) (ys : List A) → ((k : ℕ) → k < length ys → below (get_or ys k x) x ≡ false) → NoneBelow below x ys
  none_of x [] h = tt
  none_of x (y ∷ ys) h = (h 0 (omega arith), none_of x ys (λ k p. h (suc k) (omega arith)))

  ascends_of : (xs : List A) → ((i j : ℕ) (d : A) → i ≤ j → j < length xs → below (get_or xs j d) (get_or xs i d) ≡ false) → Ascends below xs
  unfolding Ascends
  ascends_of [] h = tt
  ascends_of (x ∷ xs) h = (none_of x xs (λ k p. h 0 (suc k) x (omega arith) (omega arith)), ascends_of xs (λ i j d p q. h (suc i) (suc j) d (omega arith) (omega arith)))

  none_lower : (x y : A) (zs : List A) → below y x ≡ false → NoneBelow below y zs → NoneBelow below x zs
  none_lower x y [] h n = tt
  none_lower x y (z ∷ zs) h n = (o.chain z y x n.0 h, none_lower x y zs h n.1)

  ascends_put : (x : A) (ys : List A) → Ascends below ys → Ascends below (put below x ys)
  unfolding put Ascends
  ascends_put x [] up = (tt, tt)
  ascends_put x (y ∷ ys) up = go (below y x) refl (ascends_put x ys up.1)
    where
      go : (b : Bool) → below y x ≡ b → Ascends below (put below x ys) → Ascends below (if b then y ∷ put below x ys else x ∷ y ∷ ys)
      go true e ih = (all_put below (λ z. below z y ≡ false) x ys (o.one_way y x e) up.0, ih)
      go false e ih = ((e, none_lower x y ys e up.0), up)

  ascends_in_order : (xs : List A) → Ascends below (in_order below xs)
  unfolding in_order Ascends
  ascends_in_order [] = tt
  ascends_in_order (x ∷ xs) = ascends_put x (in_order below xs) (ascends_in_order xs)

  -- of two that tie with a third none is below the other
  tied : (u x y : A) → ties below u x ≡ true → ties below u y ≡ true → below y x ≡ false
  tied u x y e f = o.chain y u x (both_fail (below u y) (below y u) f).1 (both_fail (below u x) (below x u) e).0

  at_here : (u x : A) (xs : List A) → ties below u x ≡ true → filter (ties below u) (x ∷ xs) ≡ x ∷ filter (ties below u) xs
  at_here u x xs e = λ i. cond (e i) (x ∷ filter (ties below u) xs) (filter (ties below u) xs)

  at_there : (u x : A) (xs : List A) → ties below u x ≡ false → filter (ties below u) (x ∷ xs) ≡ filter (ties below u) xs
  at_there u x xs e = λ i. cond (e i) (x ∷ filter (ties below u) xs) (filter (ties below u) xs)

  swapped : (x y : A) (l : List A) (a b : Bool) → (a ≡ true → b ≡ true → ⊥) → cond b (y ∷ cond a (x ∷ l) l) (cond a (x ∷ l) l) ≡ cond a (x ∷ cond b (y ∷ l) l) (cond b (y ∷ l) l)
  swapped x y l true true h = absurd (h refl refl)
  swapped x y l true false h = refl
  swapped x y l false true h = refl
  swapped x y l false false h = refl

  kept_put : (u x : A) (ys : List A) → filter (ties below u) (put below x ys) ≡ filter (ties below u) (x ∷ ys)
  unfolding put
  kept_put u x [] = refl
  kept_put u x (y ∷ ys) = go (below y x) refl (kept_put u x ys)
    where
      go : (b : Bool) → below y x ≡ b → filter (ties below u) (put below x ys) ≡ filter (ties below u) (x ∷ ys) → filter (ties below u) (if b then y ∷ put below x ys else x ∷ y ∷ ys) ≡ filter (ties below u) (x ∷ y ∷ ys)
      go false e ih = refl
      go true e ih =
          ap (λ l. cond (ties below u y) (y ∷ l) l) ih
          ∙ swapped x y (filter (ties below u) ys) (ties below u x) (ties below u y) (λ p q. true≢false (sym e ∙ tied u x y p q))

  kept_in_order : (u : A) (xs : List A) → filter (ties below u) (in_order below xs) ≡ filter (ties below u) xs
  unfolding in_order
  kept_in_order u [] = refl
  kept_in_order u (x ∷ xs) = kept_put u x (in_order below xs) ∙ ap (λ l. cond (ties below u x) (x ∷ l) l) (kept_in_order u xs)

  -- an item is found only where none is below the first
  found : (p : A → Bool) (u x : A) (ys zs : List A) → NoneBelow below u ys → filter p ys ≡ x ∷ zs → below x u ≡ false
  found p u x [] zs n h = nothing_is h
  found p u x (y ∷ ys) zs n h = go (p y) (found p u x ys zs n.1) h
    where
      go : (b : Bool) → (filter p ys ≡ x ∷ zs → below x u ≡ false) → cond b (y ∷ filter p ys) (filter p ys) ≡ x ∷ zs → below x u ≡ false
      go true ih e = subst (λ w. below w u ≡ false) (head_same e) n.0
      go false ih e = ih e

  first_fails : (u x : A) (xs zs : List A) → NoneBelow below u xs → filter (ties below x) (u ∷ xs) ≡ x ∷ zs → below x u ≡ false
  first_fails u x xs zs n h = found (ties below x) u x (u ∷ xs) zs (never (below u u) (o.one_way u u), n) h

  -- two lists that ascend and have the same items that tie with each are one
  same_order : (xs ys : List A) → Ascends below xs → Ascends below ys → ((u : A) → filter (ties below u) xs ≡ filter (ties below u) ys) → xs ≡ ys
  unfolding Ascends
  same_order [] [] up up' h = refl
  same_order [] (y ∷ ys) up up' h = nothing_is (h y ∙ at_here y y ys (itself y))
  same_order (x ∷ xs) [] up up' h = nothing_is (sym (h x) ∙ at_here x x xs (itself x))
  same_order (x ∷ xs) (y ∷ ys) up up' h = λ i. first i ∷ same_order xs ys up.1 up'.1 rest i
    where
      there : filter (ties below x) (y ∷ ys) ≡ x ∷ filter (ties below x) xs
      there = sym (h x) ∙ at_here x x xs (itself x)

      back : filter (ties below y) (x ∷ xs) ≡ y ∷ filter (ties below y) ys
      back = h y ∙ at_here y y ys (itself y)

      tie : ties below x y ≡ true
      tie = λ i. not (first_fails y x ys (filter (ties below x) xs) up'.0 there i) && not (first_fails x y xs (filter (ties below y) ys) up.0 back i)

      first : x ≡ y
      first = head_same (sym there ∙ at_here x y ys tie)

      rest : (u : A) → filter (ties below u) xs ≡ filter (ties below u) ys
      rest u = go (ties below u x) refl
        where
          go : (b : Bool) → ties below u x ≡ b → filter (ties below u) xs ≡ filter (ties below u) ys
          go true e = tail_same (sym (at_here u x xs e) ∙ h u ∙ at_here u y ys (subst (λ w. ties below u w ≡ true) first e))
          go false e = sym (at_there u x xs e) ∙ h u ∙ at_there u y ys (subst (λ w. ties below u w ≡ false) first e)

  -- what a stable sort leaves
  pub sorted_is_in_order : (xs ys : List A) → IsSortedBy below ys → IsStableBy below xs ys → ys ≡ in_order below xs
  sorted_is_in_order xs ys up stable = same_order ys (in_order below xs) (ascends_of ys (sorted_far below o ys up)) (ascends_in_order xs) (λ u. stable u ∙ sym (kept_in_order u xs))

  -- the items that tie with each say what the order of all is
  pub in_order_same : (xs ys : List A) → ((u : A) → filter (ties below u) xs ≡ filter (ties below u) ys) → in_order below xs ≡ in_order below ys
  in_order_same xs ys h = same_order (in_order below xs) (in_order below ys) (ascends_in_order xs) (ascends_in_order ys) (λ u. kept_in_order u xs ∙ h u ∙ sym (kept_in_order u ys))
