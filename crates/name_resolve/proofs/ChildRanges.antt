-- What the children of a type that pass a test are together, where it is known in which range they stand.
use Rattle.std.proofs.Common.{◌≡◌, ℕ, zero, suc, ◌+◌, ◌<◌, ◌≤◌, Bool, true, false, cond, ◌&&◌, List, [], ◌∷◌, ◌++◌, map, Option, Some, None, slice_get, refl, sym, ap, subst, ◌∙◌, arith}
use Rattle.std.specs.List.{fold, enumerate_from}
use Rattle.std.specs.Option.{option_and_then}
use Rattle.std.specs.Str.{bytes_eq}
use Rattle.std.proofs.lemmas.Slice.Eq.{bytes_eq-Decides}
use Rattle.decl_tree.specs.declared.declaration.TypeDecl.{TypeDecl}
use Rattle.decl_tree.specs.declared.compilation.UnitText.{UnitText}
use Rattle.decl_elements.specs.Nodes.{Node, children, down, root}
use Rattle.decl_elements.specs.Written.{declaration_of}
use Rattle.element_table.specs.UnitNames.{simple_name}
use Rattle.element_table.specs.declared.child_range.ChildRange.{ChildRange}
use Rattle.element_table.specs.declared.part.Part.{Part}
use Rattle.element_table.specs.MemberTypes.{declared_at, IsWithin, AreWithin}
use Rattle.name_resolve.specs.Ways.{node_at}
use Rattle.name_resolve.specs.Finds.{Find, Finds, Nothing, One, Several, same_find, both, one_if, find_at, has_name, is_type_named, types_at, types_in, declared_types}
use Rattle.name_resolve.specs.ChildTypes.{child_type, child_type_in, child_type_of}

-- ---- lists of children

last_same : (path : List ℕ) (m n : ℕ) → path ++ m ∷ [] ≡ path ++ n ∷ [] → m ≡ n
last_same [] m n e = cc
last_same (x ∷ path) m n e = let rest : path ++ m ∷ [] ≡ path ++ n ∷ [] = cc in last_same path m n rest

and_false : (a b c : Bool) → c ≡ false → (a && b && c) ≡ false
and_false true true c e = e
and_false true false c e = refl
and_false false b c e = refl

module _ (test : Node → Bool) (part : Part) (u : UnitText) (path : List ℕ) where
  abbrev at_number : ℕ → Find
  at_number n = find_at part u path n

  abbrev one : ℕ × Node → Finds
  one child = one_if (test child.1) (at_number child.0)

  abbrev from : Finds → ℕ → List Node → Finds
  from finds m xs = fold both finds (map one (enumerate_from m xs))

  with_nothing : (finds : Finds) → both finds Nothing ≡ finds
  with_nothing Nothing = refl
  with_nothing (One f) = refl
  with_nothing Several = refl

  -- none passes
  pub none_from : (m : ℕ) (xs : List Node) (finds : Finds) → ((i : ℕ) (x : Node) → slice_get xs i ≡ Some x → test x ≡ true → ⊥) → from finds m xs ≡ finds
  none_from m [] finds none = refl
  none_from m (x ∷ xs) finds none = by (none_from (m + 1) xs finds (λ i y at. none (suc i) y at)) (test x) refl
    where
      by : from finds (m + 1) xs ≡ finds → (b : Bool) → test x ≡ b → from (both finds (one_if b (at_number m))) (m + 1) xs ≡ finds
      by rest true passes = absurd (none zero x refl passes)
      by rest false fails = ap (λ f. from f (m + 1) xs) (with_nothing finds) ∙ rest

  -- at most the one with this number passes
  abbrev at_most : ℕ → Option Node → Finds
  at_most n None = Nothing
  at_most n (Some x) = one_if (test x) (at_number n)

  one_from : (m k n : ℕ) (xs : List Node) → n ≡ k + m → ((i : ℕ) (x : Node) → slice_get xs i ≡ Some x → test x ≡ true → i ≡ k) → from Nothing m xs ≡ at_most n (slice_get xs k)
  one_from m k n [] is only = refl
  one_from m zero n (x ∷ xs) is only =
      let same : m ≡ n = omega (arith, is) in
      none_from (m + 1) xs (one_if (test x) (at_number m)) (λ i y at passes. let first : suc i ≡ 0 = only (suc i) y at passes in absurd (omega (arith, first)))
      ∙ ap (λ k. one_if (test x) (at_number k)) same
  one_from m (suc k) n (x ∷ xs) is only = by (one_from (m + 1) k n xs (omega (arith, is)) (λ i y at passes. let next : suc i ≡ suc k = only (suc i) y at passes in omega (arith, next))) (test x) refl
    where
      by : from Nothing (m + 1) xs ≡ at_most n (slice_get xs k) → (b : Bool) → test x ≡ b → from (one_if b (at_number m)) (m + 1) xs ≡ at_most n (slice_get xs k)
      by rest true passes = let first : 0 ≡ suc k = only zero x refl passes in absurd (omega (arith, first))
      by rest false fails = rest

  several_from : (m : ℕ) (xs : List Node) → from Several m xs ≡ Several
  several_from m [] = refl
  several_from m (x ∷ xs) = several_from (m + 1) xs

  apart : (m n : ℕ) → (m ≡ n → ⊥) → same_find (at_number m) (at_number n) ≡ false
  apart m n differ = and_false (bytes_eq u.«package» u.«package») (bytes_eq (simple_name u.body) (simple_name u.body)) (bytes_eq (path ++ m ∷ []) (path ++ n ∷ [])) (by (bytes_eq (path ++ m ∷ []) (path ++ n ∷ [])) refl)
    where
      by : (b : Bool) → bytes_eq (path ++ m ∷ []) (path ++ n ∷ []) ≡ b → bytes_eq (path ++ m ∷ []) (path ++ n ∷ []) ≡ false
      by true same = absurd (differ (last_same path m n ((bytes_eq-Decides _ _).0 same)))
      by false other = other

  -- behind one that passes there is another one
  one_more : (k m : ℕ) (xs : List Node) (j : ℕ) (x : Node) → k < m → slice_get xs j ≡ Some x → test x ≡ true → from (One (at_number k)) m xs ≡ Several
  one_more k m [] j x below at passes = absurd (cc)
  one_more k m (y ∷ ys) zero x below at passes =
      let is : y ≡ x = cc in
      ap (λ b. from (both (One (at_number k)) (one_if b (at_number m))) (m + 1) ys) (ap test is ∙ passes)
      ∙ ap (λ b. from (cond b (One (at_number k)) Several) (m + 1) ys) (apart k m (λ e. omega (arith, e, below)))
      ∙ several_from (m + 1) ys
  one_more k m (y ∷ ys) (suc j) x below at passes = by (one_more k (m + 1) ys j x (omega (arith, below)) at passes) (test y) refl
    where
      by : from (One (at_number k)) (m + 1) ys ≡ Several → (b : Bool) → test y ≡ b → from (both (One (at_number k)) (one_if b (at_number m))) (m + 1) ys ≡ Several
      by rest true here = ap (λ b. from (cond b (One (at_number k)) Several) (m + 1) ys) (apart k m (λ e. omega (arith, e, below))) ∙ several_from (m + 1) ys
      by rest false other = rest

  two_from : (m : ℕ) (xs : List Node) (i j : ℕ) (x y : Node) → i < j → slice_get xs i ≡ Some x → test x ≡ true → slice_get xs j ≡ Some y → test y ≡ true → from Nothing m xs ≡ Several
  two_from m [] i j x y before at passes at' passes' = absurd (cc)
  two_from m (z ∷ zs) i zero x y before at passes at' passes' = absurd (omega (arith, before))
  two_from m (z ∷ zs) zero (suc j) x y before at passes at' passes' =
      let is : z ≡ x = cc in
      ap (λ b. from (one_if b (at_number m)) (m + 1) zs) (ap test is ∙ passes)
      ∙ one_more m (m + 1) zs j y (omega arith) at' passes'
  two_from m (z ∷ zs) (suc i) (suc j) x y before at passes at' passes' = by (two_from (m + 1) zs i j x y (omega (arith, before)) at passes at' passes') (test z) refl
    where
      by : from Nothing (m + 1) zs ≡ Several → (b : Bool) → test z ≡ b → from (one_if b (at_number m)) (m + 1) zs ≡ Several
      by rest true here = one_more m (m + 1) zs j y (omega arith) at' passes'
      by rest false other = rest

-- ---- what stands at the end of a path

pub down_child : (path : List ℕ) (n node : Node) (i : ℕ) (child : Node) → down path n ≡ Some node → slice_get (children node) i ≡ Some child → down (path ++ i ∷ []) n ≡ Some child
down_child [] n node i child is at =
    let same : n ≡ node = cc in
    ap (option_and_then (λ child. down [] child)) (ap (λ k. slice_get (children k) i) same ∙ at)
down_child (step ∷ path) n node i child is at = by (λ next there. down_child path next node i child there at) (slice_get (children n) step) is
  where
    by : ((next : Node) → down path next ≡ Some node → down (path ++ i ∷ []) next ≡ Some child) → (o : Option Node)
        → option_and_then (λ x. down path x) o ≡ Some node → option_and_then (λ x. down (path ++ i ∷ []) x) o ≡ Some child
    by rest None none = absurd (cc)
    by rest (Some next) there = rest next there

named : (name : List ℕ) (o : Option TypeDecl) → has_name name o ≡ true → (d : TypeDecl) × (o ≡ Some d) × (d.name ≡ name)
named name None e = absurd (cc)
named name (Some d) e = (d, refl, (bytes_eq-Decides d.name name).0 e)

-- the same of what is equal
pub within-is : (range range' : Option ChildRange) (unit unit' : Option UnitText) (path path' name : List ℕ) → range ≡ range' → unit ≡ unit' → path ≡ path' → AreWithin range unit path name → AreWithin range' unit' path' name
within-is range range' unit unit' path path' name ranges units paths within =
    subst (λ r. AreWithin r unit' path' name) ranges (subst (λ u. AreWithin range u path' name) units (subst (λ p. AreWithin range unit p name) paths within))

module _ (f : Find) (name : List ℕ) (range : Option ChildRange) (within : AreWithin range (Some f.unit) f.path name) where
  -- the children of this name are within the range
  only : (node : Node) → down f.path (root f.unit) ≡ Some node → (i : ℕ) (child : Node) → slice_get (children node) i ≡ Some child → is_type_named name child ≡ true → IsWithin i range
  only node there i child at is =
      let own = named name (declaration_of child) is in
      within i own.0 (ap (option_and_then declaration_of) (down_child f.path (root f.unit) node i child there at) ∙ own.1) own.2

abbrev at_end : Find → List ℕ → Option Node → Finds
at_end f name o = types_in f.part f.unit name f.path o

module _ (f : Find) (name : List ℕ) where
  pub declared-none : AreWithin None (Some f.unit) f.path name → Nothing ≡ declared_types f name
  unfolding declared_types node_at types_at child_type
  declared-none within = by (down f.path (root f.unit)) refl
    where
      by : (o : Option Node) → down f.path (root f.unit) ≡ o → Nothing ≡ at_end f name o
      by None there = refl
      by (Some node) there = sym (none_from (is_type_named name) f.part f.unit f.path 0 (children node) Nothing (only f name None within node there))

  module _ (range : ChildRange) (within : AreWithin (Some range) (Some f.unit) f.path name) where
    pub declared-one : range.first ≡ range.last → child_type f name range.first ≡ declared_types f name
    unfolding declared_types node_at types_at child_type
    declared-one same = by (down f.path (root f.unit)) refl
      where
        by : (o : Option Node) → down f.path (root f.unit) ≡ o → child_type_in f name range.first o ≡ at_end f name o
        by None there = refl
        by (Some node) there =
            let most = one_from (is_type_named name) f.part f.unit f.path 0 range.first range.first (children node) (omega arith)
            (λ i child at is. let here = only f name (Some range) within node there i child at is in omega (arith, here.0, here.1, same)) in
            here (slice_get (children node) range.first) ∙ sym most
          where
            here : (o : Option Node) → child_type_of f name range.first o ≡ at_most (is_type_named name) f.part f.unit f.path range.first o
            here None = refl
            here (Some child) = refl

    pub declared-several : (range.first ≡ range.last → ⊥) → both (child_type f name range.first) (child_type f name range.last) ≡ Several → Several ≡ declared_types f name
    unfolding declared_types node_at types_at child_type
    declared-several differ ends = by (down f.path (root f.unit)) refl ends
      where
        by : (o : Option Node) → down f.path (root f.unit) ≡ o → both (child_type_in f name range.first o) (child_type_in f name range.last o) ≡ Several → Several ≡ at_end f name o
        by None there none = absurd (cc)
        by (Some node) there both_are = ends_by (slice_get (children node) range.first) (slice_get (children node) range.last) refl refl both_are
          where
            tests_by : (x y : Node) → slice_get (children node) range.first ≡ Some x → slice_get (children node) range.last ≡ Some y → (a b : Bool) → is_type_named name x ≡ a → is_type_named name y ≡ b
                → both (one_if a (find_at f.part f.unit f.path range.first)) (one_if b (find_at f.part f.unit f.path range.last)) ≡ Several → Several ≡ at_end f name (Some node)
            tests_by x y at at' true true is is' e =
                let first = only f name (Some range) within node there range.first x at is in
                sym (two_from (is_type_named name) f.part f.unit f.path 0 (children node) range.first range.last x y (omega (arith, first.1, differ)) at is at' is')
            tests_by x y at at' true false is is' e = absurd (cc)
            tests_by x y at at' false true is is' e = absurd (cc)
            tests_by x y at at' false false is is' e = absurd (cc)

            ends_by : (o p : Option Node) → slice_get (children node) range.first ≡ o → slice_get (children node) range.last ≡ p → both (child_type_of f name range.first o) (child_type_of f name range.last p) ≡ Several → Several ≡ at_end f name (Some node)
            ends_by None None at at' e = absurd (cc)
            ends_by None (Some y) at at' e = lone (is_type_named name y) e
              where
                lone : (b : Bool) → one_if b (find_at f.part f.unit f.path range.last) ≡ Several → Several ≡ at_end f name (Some node)
                lone true e = absurd (cc)
                lone false e = absurd (cc)
            ends_by (Some x) None at at' e = lone (is_type_named name x) e
              where
                lone : (b : Bool) → both (one_if b (find_at f.part f.unit f.path range.first)) Nothing ≡ Several → Several ≡ at_end f name (Some node)
                lone true e = absurd (cc)
                lone false e = absurd (cc)
            ends_by (Some x) (Some y) at at' e = tests_by x y at at' (is_type_named name x) (is_type_named name y) refl refl e

-- ---- a child, by what stands at the path of a find

module _ (f : Find) (name : List ℕ) (number : ℕ) (path : List ℕ) (same : path ≡ f.path) where
  pub child-none : None ≡ down path (root f.unit) → Nothing ≡ child_type f name number
  unfolding child_type node_at
  child-none none = ap (child_type_in f name number) (none ∙ ap (λ p. down p (root f.unit)) same)

  pub child-some : (node : Node) → Some node ≡ down path (root f.unit) → child_type_of f name number (slice_get (children node) number) ≡ child_type f name number
  unfolding child_type node_at
  child-some node there = ap (child_type_in f name number) (there ∙ ap (λ p. down p (root f.unit)) same)
