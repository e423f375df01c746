-- A list parted by what its items come from: those that come of none of some sources, and those of each source.
use Rattle.std.proofs.Common.{◌≡◌, Bool, true, false, cond, not, ◌&&◌, ◌||◌, List, [], ◌∷◌, ◌++◌, filter, refl, sym, ap, subst, ◌∙◌, append_assoc, append-nil}
use Rattle.std.specs.List.{flat_map, list_any}
use Rattle.std.specs.List.Sorted.{IsPermutation}
use Rattle.std.proofs.lemmas.List.Elements.{filter_agree}
use Rattle.std.proofs.lemmas.List.Sorted.{IsPermutation-refl, IsPermutation-trans, IsPermutation-filter_both, IsPermutation-append_comm, IsPermutation-append_left}

filter-filter : {A : Type 0} (p q : A → Bool) (xs : List A) → filter p (filter q xs) ≡ filter (λ x. q x && p x) xs
filter-filter p q [] = refl
filter-filter p q (x ∷ xs) = go (q x) (filter-filter p q xs)
  where
    go : (b : Bool) → filter p (filter q xs) ≡ filter (λ y. q y && p y) xs → filter p (cond b (x ∷ filter q xs) (filter q xs)) ≡ cond (b && p x) (x ∷ filter (λ y. q y && p y) xs) (filter (λ y. q y && p y) xs)
    go true ih = ap (λ l. cond (p x) (x ∷ l) l) ih
    go false ih = ih

filter-all : {A : Type 0} (xs : List A) → filter (λ x. true) xs ≡ xs
filter-all [] = refl
filter-all (x ∷ xs) = ap (λ l. x ∷ l) (filter-all xs)

module _ {A S : Type 0} (from : S → A → Bool) where
  abbrev pub of_none : List S → A → Bool
  of_none sources x = not (list_any (λ s. from s x) sources)

  -- what comes of one source comes of none behind it
  abbrev pub AreApart : List S → Type 0
  AreApart [] = Unit {0}
  AreApart (s ∷ sources) = ((x : A) → from s x ≡ true → list_any (λ t. from t x) sources ≡ false) × AreApart sources

  of_one : (s : S) (sources : List S) → ((x : A) → from s x ≡ true → list_any (λ t. from t x) sources ≡ false) → (x : A) → (of_none sources x && from s x) ≡ from s x
  of_one s sources apart x = go (list_any (λ t. from t x) sources) (from s x) (apart x)
    where
      go : (b c : Bool) → (c ≡ true → b ≡ false) → (not b && c) ≡ c
      go true true h = sym (h refl)
      go true false h = refl
      go false c h = refl

  of_no_other : (s : S) (sources : List S) (x : A) → (of_none sources x && not (from s x)) ≡ of_none (s ∷ sources) x
  of_no_other s sources x = go (from s x) (list_any (λ t. from t x) sources)
    where
      go : (c b : Bool) → (not b && not c) ≡ not (c || b)
      go true true = refl
      go true false = refl
      go false true = refl
      go false false = refl

  pub parted : (sources : List S) (xs : List A) → AreApart sources → IsPermutation xs (filter (of_none sources) xs ++ flat_map (λ s. filter (from s) xs) sources)
  parted [] xs apart = subst (IsPermutation xs) (sym (append-nil (filter (λ x. true) xs) ∙ filter-all xs)) (IsPermutation-refl xs)
  parted (s ∷ sources) xs apart =
      IsPermutation-trans xs (others ++ behind) (rest ++ (mine ++ behind)) (parted sources xs apart.1)
      (subst (IsPermutation (others ++ behind)) (append_assoc rest mine behind)
      (IsPermutation-append_left behind others (rest ++ mine)
      (IsPermutation-trans others (mine ++ rest) (rest ++ mine) two (IsPermutation-append_comm mine rest))))
    where
      others : List A
      others = filter (of_none sources) xs

      behind : List A
      behind = flat_map (λ t. filter (from t) xs) sources

      mine : List A
      mine = filter (from s) xs

      rest : List A
      rest = filter (of_none (s ∷ sources)) xs

      two : IsPermutation others (mine ++ rest)
      two =
          subst (IsPermutation others)
          (λ i. (filter-filter (from s) (of_none sources) xs ∙ filter_agree (λ x. of_none sources x && from s x) (from s) (of_one s sources apart.0) xs) i
          ++ (filter-filter (λ x. not (from s x)) (of_none sources) xs ∙ filter_agree (λ x. of_none sources x && not (from s x)) (of_none (s ∷ sources)) (of_no_other s sources) xs) i)
          (IsPermutation-filter_both (from s) (λ x. not (from s x)) (λ x. refl) others)
