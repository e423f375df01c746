-- Levels of supertypes that no test tells apart by the first type that passes it: the same is found in them, and further on.
use Rattle.std.proofs.Common.{◌≡◌, ℕ, zero, suc, Bool, true, false, cond, List, [], ◌∷◌, ◌++◌, map, Option, None, Some, is_some, unwrap_or, option_map, refl, sym, ap, ◌∙◌}
use Rattle.std.specs.Prelude.{find, flat_map, is_none}
use Rattle.std.specs.Option.{option_and_then, option_or}
use Rattle.apt_base.specs.declared.element.ElementRef.{ElementRef}
use Rattle.element_table.specs.TypeTable.{TypeTable}
use Rattle.type_mirror.specs.declared.mirror.Mirror.{Mirror}
use Rattle.type_relations.specs.Closed.{closed}
use Rattle.type_relations.specs.Direct.{direct}
use Rattle.type_members.specs.MemberOf.{is_of, further, nearest}
use Rattle.type_members.specs.NearestLevels.{Alike, NearestOfAlike}

pub find_joined : {A : Type 0} (test : A → Bool) (ones others : List A) → find test (ones ++ others) ≡ option_or (find test ones) (find test others)
find_joined test [] others = refl
find_joined test (y ∷ ones) others = by (test y) (find_joined test ones others)
  where
    by : (t : Bool) → find test (ones ++ others) ≡ option_or (find test ones) (find test others)
        → cond t (Some y) (find test (ones ++ others)) ≡ option_or (cond t (Some y) (find test ones)) (find test others)
    by true e = refl
    by false e = e

-- ---- what comes of a list by values that may be open

module _ {A B : Type 0} (d : A → Option (List B)) where
  abbrev pub values : A → List B
  values x = unwrap_or (d x) []

  abbrev pub all_values : List A → List B
  all_values xs = flat_map values xs

  abbrev pub is_open : A → Bool
  is_open x = is_none (d x)

  abbrev pub any_open : List A → Bool
  any_open xs = is_some (find is_open xs)

  joined_behind : (ys : List B) (more : Option (List (List B)))
      → option_map (flat_map (λ s. s)) (option_map (λ zs. ys ∷ zs) more) ≡ option_map (λ v. ys ++ v) (option_map (flat_map (λ s. s)) more)
  joined_behind ys None = refl
  joined_behind ys (Some more) = refl

  behind_if : (ys v : List B) (b : Bool) → option_map (λ w. ys ++ w) (cond b None (Some v)) ≡ cond b None (Some (ys ++ v))
  behind_if ys v true = refl
  behind_if ys v false = refl

  with_first : (x : A) (xs : List A) (first : Option (List B))
      → option_map (flat_map (λ s. s)) (closed (map d xs)) ≡ cond (any_open xs) None (Some (all_values xs))
      → option_map (flat_map (λ s. s)) (option_and_then (λ ys. option_map (λ zs. ys ∷ zs) (closed (map d xs))) first)
      ≡ cond (is_some (cond (is_none first) (Some x) (find is_open xs))) None (Some (unwrap_or first [] ++ all_values xs))
  with_first x xs None e = refl
  with_first x xs (Some ys) e =
      joined_behind ys (closed (map d xs)) ∙ ap (option_map (λ v. ys ++ v)) e ∙ behind_if ys (all_values xs) (any_open xs)

  -- all values joined, unless one is open
  pub joined-closed : (xs : List A) → option_map (flat_map (λ s. s)) (closed (map d xs)) ≡ cond (any_open xs) None (Some (all_values xs))
  joined-closed [] = refl
  joined-closed (x ∷ xs) = with_first x xs (d x) (joined-closed xs)

  -- ---- the first value that passes a test

  abbrev pub has : (B → Bool) → A → Bool
  has test x = is_some (find test (values x))

  find_values : (test : B → Bool) (xs : List A) → find test (all_values xs) ≡ option_and_then (λ x. find test (values x)) (find (has test) xs)
  find_values test [] = refl
  find_values test (x ∷ xs) = find_joined test (values x) (all_values xs) ∙ by (find test (values x)) refl (find_values test xs)
    where
      by : (o : Option B) → find test (values x) ≡ o → find test (all_values xs) ≡ option_and_then (λ z. find test (values z)) (find (has test) xs)
          → option_or o (find test (all_values xs)) ≡ option_and_then (λ z. find test (values z)) (cond (is_some o) (Some x) (find (has test) xs))
      by None e more = more
      by (Some y) e more = sym e

  pub values_alike : (xs ys : List A) → ((test : A → Bool) → find test xs ≡ find test ys) → (test : B → Bool)
      → find test (all_values xs) ≡ find test (all_values ys)
  values_alike xs ys alike test =
      find_values test xs ∙ ap (option_and_then (λ x. find test (values x))) (alike (has test)) ∙ sym (find_values test ys)

-- ---- levels

module _ (table : TypeTable) (at : ElementRef) where
  unless_open : (n : ℕ) → ((xs ys : List Mirror) → Alike xs ys → nearest table at n xs ≡ nearest table at n ys)
      → (xs ys : List Mirror) → Alike xs ys → (b : Bool)
      → option_and_then (nearest table at n) (cond b None (Some xs)) ≡ option_and_then (nearest table at n) (cond b None (Some ys))
  unless_open n below xs ys alike true = refl
  unless_open n below xs ys alike false = below xs ys alike

  further_alike : (n : ℕ) → ((xs ys : List Mirror) → Alike xs ys → nearest table at n xs ≡ nearest table at n ys)
      → (xs ys : List Mirror) → Alike xs ys
      → option_and_then (nearest table at n) (further table xs) ≡ option_and_then (nearest table at n) (further table ys)
  further_alike n below xs ys alike =
      let d : Mirror → Option (List Mirror) = direct table in
      let go : Option (List Mirror) → Option Mirror = option_and_then (nearest table at n) in
      ap go (joined-closed d xs)
      ∙ unless_open n below (all_values d xs) (all_values d ys) (values_alike d xs ys alike) (any_open d xs)
      ∙ (λ i. go (cond (is_some (alike (is_open d) i)) None (Some (all_values d ys))))
      ∙ sym (ap go (joined-closed d ys))

  nearest_alike : (n : ℕ) (xs ys : List Mirror) → Alike xs ys → nearest table at n xs ≡ nearest table at n ys
  unfolding nearest
  nearest_alike zero xs ys alike = alike (is_of at)
  nearest_alike (suc n) xs ys alike =
      (λ i. option_or (alike (is_of at) i) (option_and_then (nearest table at n) (further table xs)))
      ∙ ap (option_or (find (is_of at) ys)) (further_alike n (nearest_alike n) xs ys alike)

pub same_nearest : NearestOfAlike
same_nearest table at n xs ys alike = nearest_alike table at n xs ys alike
