-- The next level of supertypes, from the types of a level one after another: each type once, at the place where it first comes.
use Rattle.std.proofs.Common.{◌≡◌, ℕ, suc, ◌+◌, ◌<◌, Bool, true, false, cond, List, [], ◌∷◌, ◌++◌, length, get_or, take, drop, map, Option, None, Some, option_map, refl, sym, ap, ◌∙◌, subst, arith}
use Rattle.std.specs.Prelude.{find, flat_map, eqb}
use Rattle.std.specs.List.{list_any}
use Rattle.std.specs.Option.{option_and_then, option_or}
use Rattle.std.proofs.Math.Seq.{drop-cons, take-suc}
use Rattle.std.proofs.lemmas.List.{append_assoc, append-nil, map-append, take-append-drop}
use Rattle.element_table.specs.TypeTable.{TypeTable}
use Rattle.type_mirror.specs.declared.mirror.Mirror.{Mirror}
use Rattle.type_relations.specs.Closed.{closed}
use Rattle.type_relations.specs.Direct.{direct}
use Rattle.type_numbers.specs.Numbers.{at, IsKnown, AreKnown, Grows}
use Rattle.type_numbers.proofs.LayerMaps.{all_joined, all-at}
use Rattle.type_numbers.proofs.NumberLaws.{grown-at, grown-all_known, grown-types}
use Rattle.type_steps.specs.Supertypes.{AllMayStand, direct_at}
use Rattle.type_members.specs.MemberOf.{further}
use Rattle.type_members.specs.NearestLevels.{IsLevel, MayBeLevel, next_level}
use Rattle.type_members.specs.Once.{with_new, with_each}
use Rattle.type_members.proofs.FirstOfEach.{with_all}
use Rattle.type_members.proofs.LevelsOfAlike.{find_joined}

-- ---- the first one that passes a test

pub find_mapped : {A B : Type 0} (f : A → B) (test : B → Bool) (xs : List A) → find test (map f xs) ≡ option_map f (find (λ x. test (f x)) xs)
find_mapped f test [] = refl
find_mapped f test (x ∷ xs) = by (test (f x)) (find_mapped f test xs)
  where
    by : (b : Bool) → find test (map f xs) ≡ option_map f (find (λ x. test (f x)) xs)
        → cond b (Some (f x)) (find test (map f xs)) ≡ option_map f (cond b (Some x) (find (λ x. test (f x)) xs))
    by true e = refl
    by false e = e

or_mapped : {A B : Type 0} (f : A → B) (one other : Option A) → option_map f (option_or one other) ≡ option_or (option_map f one) (option_map f other)
or_mapped f None other = refl
or_mapped f (Some x) other = refl

-- ---- numbers that are known

pub new_known : (t : List Mirror) (list : List ℕ) (n : ℕ) → AreKnown t list → IsKnown t n → AreKnown t (with_new list n)
new_known t list n all known = by (list_any (eqb n) list)
  where
    by : (b : Bool) → AreKnown t (cond b list (list ++ n ∷ []))
    by true = all
    by false = all_joined (IsKnown t) list (n ∷ []) all (known, tt)

pub each_known : (t : List Mirror) (list numbers : List ℕ) → AreKnown t list → AreKnown t numbers → AreKnown t (with_each list numbers)
each_known t list [] all known = all
each_known t list (n ∷ numbers) all known = each_known t (with_new list n) numbers (new_known t list n all known.0) known.1

-- ---- values that may be open, joined

module _ {A B : Type 0} (d : A → Option (List B)) where
  abbrev pub joined : List A → Option (List B)
  joined xs = option_map (flat_map (λ s. s)) (closed (map d xs))

  abbrev pub in_front : Option (List B) → List B → Option (List B)
  in_front more xs = option_map (λ v. xs ++ v) more

  joined_first : (x : A) (xs : List A) → joined (x ∷ xs) ≡ option_and_then (in_front (joined xs)) (d x)
  joined_first x xs = by (d x) (closed (map d xs))
    where
      by : (o : Option (List B)) (more : Option (List (List B)))
          → option_map (flat_map (λ s. s)) (option_and_then (λ y. option_map (λ ys. y ∷ ys) more) o)
          ≡ option_and_then (in_front (option_map (flat_map (λ s. s)) more)) o
      by None more = refl
      by (Some y) None = refl
      by (Some y) (Some ys) = refl

  front_nothing : (more : Option (List B)) → more ≡ in_front more []
  front_nothing None = refl
  front_nothing (Some v) = refl

  front_twice : (a : List B) (first more : Option (List B))
      → in_front (option_and_then (in_front more) first) a ≡ option_and_then (in_front more) (in_front first a)
  front_twice a None more = refl
  front_twice a (Some v) None = refl
  front_twice a (Some v) (Some w) = ap (λ (xs : List B). Some xs) (sym (append_assoc a v w))

  pub joined_both : (xs ys : List A) → joined (xs ++ ys) ≡ option_and_then (in_front (joined ys)) (joined xs)
  joined_both [] ys = front_nothing (joined ys)
  joined_both (x ∷ xs) ys =
      joined_first x (xs ++ ys) ∙ by (d x) (joined_both xs ys) ∙ ap (option_and_then (in_front (joined ys))) (sym (joined_first x xs))
    where
      by : (o : Option (List B)) → joined (xs ++ ys) ≡ option_and_then (in_front (joined ys)) (joined xs)
          → option_and_then (in_front (joined (xs ++ ys))) o ≡ option_and_then (in_front (joined ys)) (option_and_then (in_front (joined xs)) o)
      by None e = refl
      by (Some a) e = ap (λ more. in_front more a) e ∙ front_twice a (joined xs) (joined ys)

  all_open : (first : Option (List B)) → option_and_then (in_front None) first ≡ None
  all_open None = refl
  all_open (Some v) = refl

  pub joined_open : (xs : List A) (x : A) (ys : List A) → d x ≡ None → joined (xs ++ x ∷ ys) ≡ None
  joined_open xs x ys none =
      joined_both xs (x ∷ ys) ∙ ap (λ more. option_and_then (in_front more) (joined xs)) (joined_first x ys ∙ ap (option_and_then (in_front (joined ys))) none)
      ∙ all_open (joined xs)

  pub joined_next : (xs : List A) (x : A) (v s : List B) → joined xs ≡ Some v → d x ≡ Some s → joined (xs ++ x ∷ []) ≡ Some (v ++ s)
  joined_next xs x v s before one =
      joined_both xs (x ∷ []) ∙ ap (option_and_then (in_front (joined (x ∷ [])))) before
      ∙ ap (λ more. in_front more v) (joined_first x [] ∙ ap (option_and_then (in_front (Some []))) one ∙ ap (λ (xs : List B). Some xs) (append-nil s))

-- ---- the level so far

level_grown : (t t' : List Mirror) (numbers : List ℕ) (level : List Mirror) → Grows t t' → IsLevel t numbers level → IsLevel t' numbers level
level_grown t t' numbers level g l = record {
  known = grown-all_known t t' numbers g l.known;
  alike = λ test. ap (find test) (grown-types t t' numbers g l.known) ∙ l.alike test;
}

-- the direct supertypes of one type more
level_more : (t : List Mirror) (next supers : List ℕ) (level : List Mirror) → IsLevel t next level → AreKnown t supers
    → IsLevel t (with_each next supers) (level ++ map (at t) supers)
level_more t next supers level l known = record {
  known = each_known t next supers l.known known;
  alike = λ test.
      let numbered : ℕ → Bool = λ n. test (at t n) in
      find_mapped (at t) test (with_each next supers) ∙ ap (option_map (at t)) (with_all numbered next supers)
      ∙ or_mapped (at t) (find numbered next) (find numbered supers)
      ∙ (λ i. option_or (sym (find_mapped (at t) test next) i) (sym (find_mapped (at t) test supers) i))
      ∙ ap (λ o. option_or o (find test (map (at t) supers))) (l.alike test)
      ∙ sym (find_joined test level (map (at t) supers));
}

-- one number more in front
pub take_more : (numbers : List ℕ) (i : ℕ) → i < length numbers → take (i + 1) numbers ≡ take i numbers ++ get_or numbers i 0 ∷ []
take_more numbers i less = let next : i + 1 ≡ suc i = omega arith in ap (λ (n : ℕ). take n numbers) next ∙ take-suc numbers i 0 less

types_split : (t : List Mirror) (numbers : List ℕ) (i : ℕ) → i < length numbers → map (at t) (take (i + 1) numbers) ≡ map (at t) (take i numbers) ++ at t (get_or numbers i 0) ∷ []
types_split t numbers i less = ap (map (at t)) (take_more numbers i less) ∙ map-append (at t) (take i numbers) (get_or numbers i 0 ∷ [])

-- what a level comes to so far
abbrev pub IsLevelSoFar : TypeTable → List Mirror → List Mirror → List ℕ → List ℕ → ℕ → Type 0
IsLevelSoFar table t t' numbers next i = MayBeLevel t' (Some next) (next_level table t (take i numbers))

module _ (table : TypeTable) (t t' t'' : List Mirror) (numbers : List ℕ) (i : ℕ) (less : i < length numbers) (all : AreKnown t numbers) (before : Grows t t') (after : Grows t' t'') where
  abbrev number : ℕ
  number = get_or numbers i 0

  same_direct : direct_at table t' number ≡ direct table (at t number)
  same_direct = ap (direct table) (grown-at t t' number before (all-at (IsKnown t) numbers i 0 all less))

  pub level_next : (next supers : List ℕ) → IsLevelSoFar table t t' numbers next i → AllMayStand t'' (Some supers) (direct_at table t' number)
      → IsLevelSoFar table t t'' numbers (with_each next supers) (i + 1)
  level_next next supers so_far stand = by (next_level table t (take i numbers)) refl so_far
    where
      by : (o : Option (List Mirror)) → next_level table t (take i numbers) ≡ o → MayBeLevel t' (Some next) o
          → IsLevelSoFar table t t'' numbers (with_each next supers) (i + 1)
      by None e level = absurd level
      by (Some v) e level =
          let whole : next_level table t (take (i + 1) numbers) ≡ Some (v ++ map (at t'') supers) =
          ap (further table) (types_split t numbers i less)
          ∙ joined_next (direct table) (map (at t) (take i numbers)) (at t number) v (map (at t'') supers) e (sym same_direct ∙ sym stand.types) in
          subst (MayBeLevel t'' (Some (with_each next supers))) (sym whole) (level_more t'' next supers v (level_grown t' t'' next v after level) stand.known)

  -- they are open where those of one type are
  pub level_open : AllMayStand t'' None (direct_at table t' number) → MayBeLevel t'' None (next_level table t numbers)
  level_open stand =
      let split : numbers ≡ take i numbers ++ number ∷ drop (suc i) numbers =
      sym (take-append-drop i numbers) ∙ ap (λ (ns : List ℕ). take i numbers ++ ns) (drop-cons numbers i 0 less) in
      let types : map (at t) numbers ≡ map (at t) (take i numbers) ++ at t number ∷ map (at t) (drop (suc i) numbers) =
      ap (map (at t)) split ∙ map-append (at t) (take i numbers) (number ∷ drop (suc i) numbers) in
      let whole : next_level table t numbers ≡ None =
      ap (further table) types
      ∙ joined_open (direct table) (map (at t) (take i numbers)) (at t number) (map (at t) (drop (suc i) numbers)) (sym same_direct ∙ sym stand.types) in
      subst (MayBeLevel t'' None) (sym whole) tt
