-- Whatever a name means as a value, where it is written in what is of a table, is of the table.
use Rattle.std.proofs.Common.{◌≡◌, ℕ, zero, suc, Bool, true, false, List, [], ◌∷◌, map, Option, None, Some}
use Rattle.std.proofs.Common.{if◌then◌else◌, refl, sym, ap, subst}
use Rattle.std.specs.List.{AllByRecursion, fold, enumerate_from}
use Rattle.apt_base.specs.Identifiers.{parts}
use Rattle.apt_base.specs.Limits.{max_type_steps}
use Rattle.apt_base.specs.declared.element.ElementRef.{ElementRef}
use Rattle.decl_tree.specs.declared.compilation.Import.{Import}
use Rattle.decl_tree.specs.declared.compilation.ImportKind.{ImportKind}
use Rattle.decl_tree.specs.declared.compilation.ImportKind.TheVariants as import
use Rattle.decl_tree.specs.declared.compilation.UnitText.{UnitText}
use Rattle.decl_elements.specs.Nodes.{Node, children}
use Rattle.decl_elements.specs.Walk.{Place}
use Rattle.element_table.specs.declared.part.Part.{Part}
use Rattle.element_table.specs.TypeTable.{TypeTable, IsTable, unit_of}
use Rattle.name_resolve.specs.Ways.{around, node_at}
use Rattle.name_resolve.specs.Finds.{Find, Finds, Nothing, One, Several, same_find, both, together, first_of, one_if, find_at}
use Rattle.name_resolve.specs.Meaning.{tops_of, imported, ends_in, but_last}
use Rattle.name_resolve.specs.Placed.{IsPlacedUnit, IsPlaced, ArePlaced}
use Rattle.name_resolve.proofs.PlacedLemmas.{held-placed, imported-placed, qualifier-placed}
use Rattle.type_resolve.specs.Scopes.{find_from, find_in}
use Rattle.expression_names.specs.Fields.{is_field_named, fields_in, declared_fields, supertypes, fields_within, fields}
use Rattle.expression_names.specs.Fields.{fields_of, fields_around, enclosing_fields, field_by_single, field_by_on_demand}
use Rattle.expression_names.specs.Fields.{field_by_single_import, field_by_import_on_demand, simple_field, last_of}
use Rattle.expression_names.specs.Fields.{field_meaning}
use Rattle.expression_names.proofs.FieldSteps.{no-fields}

-- ---- what several places find

module _ (table : TypeTable) where
  both-placed : (x y : Finds) → ArePlaced table x → ArePlaced table y → ArePlaced table (both x y)
  both-placed Nothing y p q = q
  both-placed (One f) Nothing p q = p
  both-placed (One f) (One g) p q =
      elim (same_find f g) as (λ b. ArePlaced table (if b then One f else Several)) [ true ↦ p | false ↦ tt ]
  both-placed (One f) Several p q = tt
  both-placed Several y p q = tt

  each-placed : {A : Type 0} (h : A → Finds) → ((x : A) → ArePlaced table (h x)) → (xs : List A) (a : Finds)
      → ArePlaced table a → ArePlaced table (fold both a (map h xs))
  each-placed h each [] a p = p
  each-placed h each (x ∷ xs) a p = each-placed h each xs (both a (h x)) (both-placed a (h x) p (each x))

  first-placed : (xs : List Finds) → AllByRecursion (ArePlaced table) xs → ArePlaced table (first_of xs)
  first-placed [] all = tt
  first-placed (Nothing ∷ xs) all = first-placed xs all.1
  first-placed (One f ∷ xs) all = all.0
  first-placed (Several ∷ xs) all = tt

  two-placed : (x y : Finds) → ArePlaced table x → ArePlaced table y → ArePlaced table (first_of (x ∷ y ∷ []))
  two-placed x y p q = first-placed (x ∷ y ∷ []) (p, (q, tt))

  three-placed : (x y z : Finds) → ArePlaced table x → ArePlaced table y → ArePlaced table z
      → ArePlaced table (first_of (x ∷ y ∷ z ∷ []))
  three-placed x y z p q r = first-placed (x ∷ y ∷ z ∷ []) (p, (q, (r, tt)))

  -- ---- the fields of a type

  one-placed : (passes : Bool) (f : Find) → IsPlaced table f → ArePlaced table (one_if passes f)
  one-placed true f p = p
  one-placed false f p = tt

  in-placed : (o : Option Node) (f : Find) (name : List ℕ) → IsPlaced table f → ArePlaced table (fields_in f name o)
  in-placed None f name p = tt
  in-placed (Some node) f name p =
      each-placed (λ (child : ℕ × Node). one_if (is_field_named name child.1) (find_at f.part f.unit f.path child.0))
      (λ child. one-placed (is_field_named name child.1) (find_at f.part f.unit f.path child.0)
      (record { is_table = p.is_table; unit = p.unit })) (enumerate_from 0 (children node)) Nothing tt

  declared-placed : (f : Find) (name : List ℕ) → IsPlaced table f → ArePlaced table (declared_fields f name)
  unfolding declared_fields
  declared-placed f name p = in-placed (node_at f.unit f.path) f name p

  held-unit : (at : ElementRef) (u : UnitText) → unit_of table at.unit ≡ Some u → (find_in table at).unit ≡ u
  unfolding find_in
  held-unit at u e = ap (λ o. (find_from table o at).unit) e

  module _ (is : IsTable table) where
    pub find-placed : (at : ElementRef) (u : UnitText) → unit_of table at.unit ≡ Some u → IsPlaced table (find_in table at)
    find-placed at u e = record {
      is_table = is;
      unit = subst (IsPlacedUnit table) (sym (held-unit at u e)) (held-placed table is at.unit u e);
    }

    element-placed : (n : ℕ) (name : List ℕ)
        → ((f : Find) → IsPlaced table f → ArePlaced table (fields_within table n f name))
        → (at : ElementRef) (o : Option UnitText) → unit_of table at.unit ≡ o
        → ArePlaced table (fields_within table n (find_in table at) name)
    element-placed n name within at None e = subst (ArePlaced table) (sym ((no-fields table at e).none n name)) tt
    element-placed n name within at (Some u) e = within (find_in table at) (find-placed at u e)

    within-placed : (n : ℕ) (name : List ℕ) (f : Find) → IsPlaced table f
        → ArePlaced table (fields_within table n f name)
    unfolding fields_within
    within-placed zero name f p = declared-placed f name p
    within-placed (suc n) name f p =
        let inherited : ElementRef → Finds = λ at. fields_within table n (find_in table at) name in
        two-placed (declared_fields f name) (together (map inherited (supertypes table f))) (declared-placed f name p)
        (
        each-placed inherited
        (λ at. element-placed n name (within-placed n name) at (unit_of table at.unit) refl) (supertypes table f) Nothing tt
        )

    fields-placed : (f : Find) (name : List ℕ) → IsPlaced table f → ArePlaced table (fields table f name)
    unfolding fields
    fields-placed f name p = within-placed max_type_steps name f p

    of-placed : (finds : Finds) (name : List ℕ) → ArePlaced table finds → ArePlaced table (fields_of table finds name)
    of-placed Nothing name p = tt
    of-placed (One f) name p = fields-placed f name p
    of-placed Several name p = tt

    -- ---- simple names

    around-placed : (part : Part) (u : UnitText) (name : List ℕ) → IsPlacedUnit table u → (places : List Place)
        → ArePlaced table (fields_around table part u name places)
    around-placed part u name p [] = tt
    around-placed part u name p (at ∷ above) =
        let here : Find = record { part = part; unit = u; path = at.path } in
        two-placed (fields table here name) (fields_around table part u name above)
        (fields-placed here name (record { is_table = is; unit = p })) (around-placed part u name p above)

    enclosing-placed : (f : Find) (name : List ℕ) → IsPlaced table f → ArePlaced table (enclosing_fields table f name)
    unfolding enclosing_fields
    enclosing-placed f name p = around-placed f.part f.unit name p.unit (around f.unit f.path)

    imported-fields : (part : Part) (name : List ℕ) (names : List (List ℕ))
        → ArePlaced table (fields_of table (imported (tops_of table) part names) name)
    imported-fields part name names = of-placed _ name (imported-placed table is part names)

    by-single : (part : Part) (name : List ℕ) (names : List (List ℕ)) (kind : ImportKind)
        → ArePlaced table (field_by_single table part name names kind)
    by-single part name names import.Single = tt
    by-single part name names import.StaticSingle =
        elim (ends_in name names) as (λ b. ArePlaced table
        (if b then fields_of table (imported (tops_of table) part (but_last names)) name else Nothing))
        [ true ↦ imported-fields part name (but_last names) | false ↦ tt ]
    by-single part name names import.OnDemand = tt
    by-single part name names import.StaticOnDemand = tt

    by-on_demand : (part : Part) (name : List ℕ) (names : List (List ℕ)) (kind : ImportKind)
        → ArePlaced table (field_by_on_demand table part name names kind)
    by-on_demand part name names import.Single = tt
    by-on_demand part name names import.StaticSingle = tt
    by-on_demand part name names import.OnDemand = tt
    by-on_demand part name names import.StaticOnDemand = imported-fields part name names

    single-placed : (part : Part) (name : List ℕ) (i : Import) → ArePlaced table (field_by_single_import table part name i)
    unfolding field_by_single_import
    single-placed part name i = by-single part name (parts i.name) i.kind

    on_demand-placed : (part : Part) (name : List ℕ) (i : Import)
        → ArePlaced table (field_by_import_on_demand table part name i)
    unfolding field_by_import_on_demand
    on_demand-placed part name i = by-on_demand part name (parts i.name) i.kind

    simple-placed : (f : Find) (name : List ℕ) → IsPlaced table f → ArePlaced table (simple_field table f name)
    unfolding simple_field
    simple-placed f name p =
        let single : Import → Finds = field_by_single_import table f.part name in
        let on_demand : Import → Finds = field_by_import_on_demand table f.part name in
        three-placed (enclosing_fields table f name) (together (map single f.unit.imports))
        (together (map on_demand f.unit.imports)) (enclosing-placed f name p)
        (each-placed single (single-placed f.part name) f.unit.imports Nothing tt)
        (each-placed on_demand (on_demand-placed f.part name) f.unit.imports Nothing tt)

  -- ---- all names

  meaning-placed : (f : Find) → IsPlaced table f → (names : List (List ℕ)) → ArePlaced table (field_meaning table f names)
  unfolding field_meaning
  meaning-placed f p [] = tt
  meaning-placed f p (name ∷ []) = simple-placed p.is_table f name p
  meaning-placed f p (name ∷ next ∷ more) =
      of-placed p.is_table _ (last_of (next ∷ more)) (qualifier-placed table f p (but_last (name ∷ next ∷ more)))

  pub meant_placed : (f : Find) (names : List (List ℕ)) (finds : Finds) → IsPlaced table f → finds ≡ field_meaning table f names
      → ArePlaced table finds
  meant_placed f names finds p e = subst (ArePlaced table) (sym e) (meaning-placed f p names)
