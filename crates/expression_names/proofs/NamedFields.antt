-- Which children of a type are fields of a name, as one child after another comes, and what is found by their numbers.
use Rattle.std.proofs.Common.{◌≡◌, ℕ, Bool, true, false, cond, ◌&&◌, List, [], ◌∷◌, ◌++◌, slice_get, Option, Some, None, nat_eq, length, refl, sym, ap, subst, ◌∙◌, arith}
use Rattle.std.specs.List.{AllByRecursion}
use Rattle.std.specs.Option.{option_map_or}
use Rattle.std.specs.Ordering.{nat_cmp, eq_by_cmp}
use Rattle.std.specs.Cmp.Lexicographic.{slice_cmp, nat_list_cmp_total}
use Rattle.std.specs.FinMap as fin
use Rattle.std.specs.FinMap.{get-insert, get-empty}
use Rattle.std.specs.Str.{bytes_eq}
use Rattle.std.proofs.lemmas.Bool.Decides.{Decides-eqb}
use Rattle.std.proofs.lemmas.Slice.Eq.{bytes_eq-Decides}
use Rattle.std.proofs.lemmas.Map.Text.{is_eq-slice_cmp}
use Rattle.decl_tree.specs.declared.compilation.UnitText.{UnitText}
use Rattle.decl_elements.specs.Nodes.{Node, OfPackage, Top, Inside, OfTypeParam, OfParam, DefaultConstructor, Values, ValueOf, ValueOfName, down, root}
use Rattle.decl_elements.specs.Walk.{Place, place_of}
use Rattle.element_table.specs.UnitNames.{simple_name}
use Rattle.element_table.specs.declared.part.Part.{Part}
use Rattle.element_table.specs.declared.part.Part.TheVariants.{Source, Stub}
use Rattle.element_table.specs.TypeTable.{TypeTable}
use Rattle.name_resolve.specs.Finds.{Find, Finds, Nothing, One, Several, same_find, both, one_if, children_where}
use Rattle.name_resolve.specs.Placed.{IsPlaced}
use Rattle.name_resolve.specs.Remembered.{same_part}
use Rattle.name_resolve.specs.Shown.{find_of, child_of}
use Rattle.name_resolve.proofs.ChildrenLeft.{from_child}
use Rattle.name_resolve.proofs.PlacedLemmas.{same_is}
use Rattle.expression_names.specs.Fields.{is_field_named, declared_fields}
use Rattle.expression_names.specs.FieldsByName.{Names, field_text, with_number, found_at, named_as, found_by, are_of, AreFields, AreRows}
use Rattle.expression_names.specs.declared.field_rows.Named.{Named}
use Rattle.expression_names.specs.declared.field_rows.Named.TheVariants as named
use Rattle.expression_names.specs.declared.field_rows.FieldRows.{FieldRows}
use Rattle.expression_names.proofs.FieldSteps.{declared_none, declared_some, from_first_field}

-- ---- the name of a child

by_text : (q : List ℕ) (node : Node) → is_field_named q node ≡ option_map_or (bytes_eq q) (field_text node) false
by_text q (OfPackage info) = refl
by_text q (Top d) = refl
by_text q (Inside kind member) = refl
by_text q (OfTypeParam p) = refl
by_text q (OfParam p) = refl
by_text q (DefaultConstructor around d) = refl
by_text q Values = refl
by_text q ValueOf = refl
by_text q ValueOfName = refl

-- ---- one child more of a name

with_nothing : (finds : Finds) → both finds Nothing ≡ finds
with_nothing Nothing = refl
with_nothing (One f) = refl
with_nothing Several = refl

last_same : (path : List ℕ) (m n : ℕ) → path ++ m ∷ [] ≡ path ++ n ∷ [] → m ≡ n
last_same [] m n e = cc
last_same (x ∷ path) m n e = let rest : path ++ m ∷ [] ≡ path ++ n ∷ [] = cc in last_same path m n rest

and_false : (a b c : Bool) → c ≡ false → (a && b && c) ≡ false
and_false true true c e = e
and_false true false c e = refl
and_false false b c e = refl

and_true : (a b c : Bool) → a ≡ true → b ≡ true → c ≡ true → (a && b && c) ≡ true
and_true true true c p q e = e
and_true true false c p q e = absurd (cc)
and_true false b c p q e = absurd (cc)

not_true : (b : Bool) → (b ≡ true → ⊥) → b ≡ false
not_true true differ = absurd (differ refl)
not_true false differ = refl

module _ (f : Find) where
  itself : (n : ℕ) → same_find (child_of f n) (child_of f n) ≡ true
  itself n = and_true _ _ _ ((bytes_eq-Decides f.unit.«package» f.unit.«package»).1 refl) ((bytes_eq-Decides (simple_name f.unit.body) (simple_name f.unit.body)).1 refl)
      ((bytes_eq-Decides (f.path ++ n ∷ []) (f.path ++ n ∷ [])).1 refl)

  apart : (m n : ℕ) → (m ≡ n → ⊥) → same_find (child_of f m) (child_of f n) ≡ false
  apart m n differ =
      and_false (bytes_eq f.unit.«package» f.unit.«package») (bytes_eq (simple_name f.unit.body) (simple_name f.unit.body)) (bytes_eq (f.path ++ m ∷ []) (f.path ++ n ∷ []))
      (not_true _ (λ same. differ (last_same f.path m n ((bytes_eq-Decides _ _).0 same))))

  one_more : (o : Option Named) (n : ℕ) → found_at f (Some (with_number o n)) ≡ both (found_at f o) (One (child_of f n))
  one_more None n = refl
  one_more (Some named.Several) n = refl
  one_more (Some (named.One m)) n = by (nat_eq m n) refl
    where
      by : (b : Bool) → nat_eq m n ≡ b → found_at f (Some (cond b (named.One n) named.Several)) ≡ cond (same_find (child_of f m) (child_of f n)) (One (child_of f m)) Several
      by true e =
          let same : m ≡ n = (Decides-eqb m n).0 e in
          subst (λ k. One (child_of f n) ≡ cond (same_find (child_of f k) (child_of f n)) (One (child_of f k)) Several) (sym same)
          (sym (ap (λ b. cond b (One (child_of f n)) Several) (itself n)))
      by false e =
          sym (ap (λ b. cond b (One (child_of f m)) Several) (apart m n (λ same. let yes : nat_eq m n ≡ true = (Decides-eqb m n).1 same in absurd (cc))))

  module _ (old new : Names) (name : List ℕ) (n : ℕ) (is : new ≡ fin.insert old name (with_number (fin.get old name) n)) where
    found : (q : List ℕ) → fin.get new q ≡ cond (eq_by_cmp (slice_cmp nat_cmp) q name) (Some (with_number (fin.get old name) n)) (fin.get old q)
    found q = ap (λ names. fin.get names q) is ∙ get-insert nat_list_cmp_total old name (with_number (fin.get old name) n) q

    added : (q : List ℕ) → found_at f (fin.get new q) ≡ both (found_at f (fin.get old q)) (one_if (bytes_eq q name) (child_of f n))
    added q =
        ap (found_at f) (found q ∙ ap (λ b. cond b (Some (with_number (fin.get old name) n)) (fin.get old q)) (is_eq-slice_cmp q name))
        ∙ by (bytes_eq q name) refl
      where
        by : (b : Bool) → bytes_eq q name ≡ b → found_at f (cond b (Some (with_number (fin.get old name) n)) (fin.get old q)) ≡ both (found_at f (fin.get old q)) (one_if b (child_of f n))
        by true e =
            let same : name ≡ q = sym ((bytes_eq-Decides q name).0 e) in
            one_more (fin.get old name) n ∙ ap (λ p. both (found_at f (fin.get old p)) (One (child_of f n))) same
        by false e = sym (with_nothing (found_at f (fin.get old q)))

    -- a child that has this name comes
    pub child-added : (node : Node) → Some name ≡ field_text node
        → (q : List ℕ) → found_at f (fin.get new q) ≡ both (found_at f (fin.get old q)) (one_if (is_field_named q node) (child_of f n))
    child-added node text q =
        added q
        ∙ ap (λ b. both (found_at f (fin.get old q)) (one_if b (child_of f n))) (sym (by_text q node ∙ ap (λ o. option_map_or (bytes_eq q) o false) (sym text)))

  -- a child without a name comes
  pub child-passed : (names : Names) (n : ℕ) (node : Node) → None ≡ field_text node
      → (q : List ℕ) → found_at f (fin.get names q) ≡ both (found_at f (fin.get names q)) (one_if (is_field_named q node) (child_of f n))
  child-passed names n node none q =
      sym (with_nothing (found_at f (fin.get names q)))
      ∙ ap (λ b. both (found_at f (fin.get names q)) (one_if b (child_of f n))) (sym (by_text q node ∙ ap (λ o. option_map_or (bytes_eq q) o false) (sym none)))

  -- nothing came yet
  pub nothing-found : (names : Names) → names ≡ fin.empty → (q : List ℕ) → found_at f (fin.get names q) ≡ Nothing
  nothing-found names none q = ap (found_at f) (ap (λ names. fin.get names q) none ∙ get-empty (slice_cmp nat_cmp) q)

-- ---- all children

module _ (old new : FieldRows) (of : find_of new.of ≡ find_of old.of) (n : ℕ) (node : Node) where
  pub row-added : (name : List ℕ) → named_as new ≡ fin.insert (named_as old) name (with_number (fin.get (named_as old) name) n) → Some name ≡ field_text node
      → (q : List ℕ) → found_by new q ≡ both (found_by old q) (one_if (is_field_named q node) (child_of (find_of old.of) n))
  row-added name is text q =
      ap (λ g. found_at g (fin.get (named_as new) q)) of ∙ child-added (find_of old.of) (named_as old) (named_as new) name n is node text q

module _ (rows : FieldRows) (f : Find) (of : find_of rows.of ≡ f) where
  found_in : (q : List ℕ) → found_by rows q ≡ found_at f (fin.get (named_as rows) q)
  found_in q = ap (λ g. found_at g (fin.get (named_as rows) q)) of

  pub rows-begin : (node : Node) → named_as rows ≡ fin.empty → (q : List ℕ)
      → from_child (is_field_named q) f.part f.unit (place_of f.path node) (found_by rows q) 0 ≡ children_where (is_field_named q) f.part f.unit (place_of f.path node)
  rows-begin node none q =
      ap (λ finds. from_child (is_field_named q) f.part f.unit (place_of f.path node) finds 0) (found_in q ∙ nothing-found f (named_as rows) none q)
      ∙ from_first_field f.part f.unit q (place_of f.path node)

  module _ (path : List ℕ) (same : path ≡ f.path) where
    -- nothing stands there
    pub rows-none : named_as rows ≡ fin.empty → None ≡ down path (root f.unit) → AreFields rows
    unfolding AreFields
    rows-none none absent = λ q.
        found_in q ∙ nothing-found f (named_as rows) none q ∙ declared_none f q path same absent ∙ ap (λ g. declared_fields g q) (sym of)

    pub rows-some : (node : Node) → Some node ≡ down path (root f.unit)
        → ((q : List ℕ) → found_by rows q ≡ children_where (is_field_named q) f.part f.unit (place_of f.path node)) → AreFields rows
    unfolding AreFields
    rows-some node there is = λ q. is q ∙ declared_some f q path same node there ∙ ap (λ g. declared_fields g q) (sym of)

-- ---- what is remembered

two_tests : (a b : Bool) → (a && b) ≡ true → (a ≡ true) × (b ≡ true)
two_tests true true e = (refl, refl)
two_tests true false e = absurd (cc)
two_tests false b e = absurd (cc)

part_is : (p q : Part) → same_part p q ≡ true → p ≡ q
part_is Source Source e = refl
part_is Source Stub e = absurd (cc)
part_is Stub Source e = absurd (cc)
part_is Stub Stub e = refl

-- what is remembered of a type is what it declares
pub known-fields : (table : TypeTable) (rows : FieldRows) (f : Find) (q : List ℕ) → AreRows table rows → IsPlaced table f → are_of rows f ≡ true → found_by rows q ≡ declared_fields f q
unfolding AreFields
known-fields table rows f q right placed is =
    let t = two_tests _ _ is in
    let same : find_of rows.of ≡ f = same_is table (find_of rows.of) f right.placed placed (part_is _ _ t.0) t.1 in
    right.fields q ∙ ap (λ g. declared_fields g q) same

-- what was found just now is what the type declares
pub new-fields : (rows : FieldRows) (f : Find) (q : List ℕ) → find_of rows.of ≡ f → AreFields rows → found_by rows q ≡ declared_fields f q
unfolding AreFields
new-fields rows f q of fields = fields q ∙ ap (λ g. declared_fields g q) of

-- fields of a type are remembered
pub rows-right : (table : TypeTable) (rows : FieldRows) (f : Find) → find_of rows.of ≡ f → IsPlaced table f → AreFields rows → AreRows table rows
rows-right table rows f of placed fields = record { placed = subst (IsPlaced table) (sym of) placed; fields = fields }
