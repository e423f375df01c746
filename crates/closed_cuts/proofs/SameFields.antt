-- Two tables on which names of types mean the same at the elements of some units, and which agree on what a question on types reads there, have the same fields there, and names of values mean the same.
use Rattle.std.proofs.Common.{◌≡◌, ℕ, zero, suc, false, List, [], ◌∷◌, map, length, take, Contains, Option, None, Some, refl, sym, ap, subst}
use Rattle.std.specs.List.{AllByRecursion, enumerate_from}
use Rattle.apt_base.specs.Identifiers.{parts}
use Rattle.apt_base.specs.Limits.{max_type_steps}
use Rattle.apt_base.specs.declared.element.ElementRef.{ElementRef}
use Rattle.decl_tree.specs.declared.compilation.ImportKind.{ImportKind}
use Rattle.decl_tree.specs.declared.compilation.ImportKind.TheVariants as import
use Rattle.decl_elements.specs.Nodes.{Node, children}
use Rattle.decl_elements.specs.Walk.{Place, place_of}
use Rattle.element_table.specs.TypeTable.{TypeTable, IsTable}
use Rattle.name_resolve.specs.Ways.{around, node_at}
use Rattle.name_resolve.specs.Finds.{Find, Finds, Nothing, One, Several, together, first_of}
use Rattle.name_resolve.specs.Meaning.{Within, tops_of, imported, ends_in, but_last, qualifier_meaning}
use Rattle.name_resolve.specs.Mirrors.{ref_of, superclass, interfaces}
use Rattle.name_resolve.specs.Parts.{at_path}
use Rattle.type_elements.specs.MemberElements.{class_elements}
use Rattle.type_resolve.specs.Scopes.{find_in}
use Rattle.expression_names.specs.Fields.{is_field_named, fields_in, declared_fields, supertypes, fields_within, fields, fields_of, fields_around, enclosing_fields, field_by_single, field_by_on_demand, field_by_single_import, field_by_import_on_demand, simple_field, last_of, field_meaning}
use Rattle.reach_map.specs.Chains.{unit_chains}
use Rattle.decl_elements.proofs.Everywhere.{each_to, each_contained}
use Rattle.closed_cuts.specs.FieldLaws.{PlaceFieldsStay, FieldsStay}
use Rattle.closed_cuts.specs.NameLaws.{FindLies, FindsLie, SameFinds, PlaceStays, NamesStay}
use Rattle.closed_cuts.proofs.Keeping.{Kept, kept, through, moved, chosen, map-facts, map-kept}
use Rattle.closed_cuts.proofs.AgreeingReads.{Lies, Good, SameReads}
use Rattle.closed_cuts.proofs.FoundElements.{together-good, together-kept, first-kept, lies-there, lies-at, child-good, there-too}
use Rattle.closed_cuts.proofs.SameMemberLists.{elements_lie}

-- the names in front of the last one of a chain are its first names
but_last-take : (name : List ℕ) (more : List (List ℕ)) → take (length more) (name ∷ more) ≡ but_last (name ∷ more)
but_last-take name [] = refl
but_last-take name (next ∷ more) = ap (λ names. name ∷ names) (but_last-take next more)

module _ (one other : TypeTable) (Has : List ℕ → Type 0) (t : IsTable one) (r : SameReads one other Has) (n : (at : ElementRef) → Has at.unit → NamesStay one other Has at) where
  abbrev L : ElementRef → Type 0
  L = Lies one other Has

  abbrev Ls : List ElementRef → Type 0
  Ls = AllByRecursion L

  abbrev IsThere : Find → Type 0
  IsThere = FindLies one other Has

  abbrev F : Finds → Type 0
  F = FindsLie one other Has

  abbrev Fs : List Finds → Type 0
  Fs = AllByRecursion F

  abbrev Same : Finds → Finds → Type 0
  Same = Kept F

  abbrev SameAll : List Finds → List Finds → Type 0
  SameAll = Kept Fs

  nothing : Same Nothing Nothing
  nothing = kept F Nothing tt

  -- two places, the nearer one first
  two_kept : (xs xs' ys ys' : Finds) → Same xs xs' → Same ys ys' → Same (first_of (xs ∷ ys ∷ [])) (first_of (xs' ∷ ys' ∷ []))
  two_kept xs xs' ys ys' k l = first-kept one other Has (xs ∷ ys ∷ []) (xs' ∷ ys' ∷ []) (record { equal = (λ i. k.equal i ∷ l.equal i ∷ []); good = (k.good, (l.good, tt)) })

  three_kept : (xs xs' ys ys' zs zs' : Finds) → Same xs xs' → Same ys ys' → Same zs zs' → Same (first_of (xs ∷ ys ∷ zs ∷ [])) (first_of (xs' ∷ ys' ∷ zs' ∷ []))
  three_kept xs xs' ys ys' zs zs' k l m =
      first-kept one other Has (xs ∷ ys ∷ zs ∷ []) (xs' ∷ ys' ∷ zs' ∷ []) (record { equal = (λ i. k.equal i ∷ l.equal i ∷ m.equal i ∷ []); good = (k.good, (l.good, (m.good, tt))) })

  -- ---- the fields of a type

  declared_in : (f : Find) → IsThere f → (name : List ℕ) (o : Option Node) → F (fields_in f name o)
  declared_in f l name None = tt
  declared_in f l name (Some node) =
      together-good one other Has _ (child-good one other Has r f l (place_of f.path node).path (is_field_named name) (enumerate_from 0 (children (place_of f.path node).node)))

  declared_good : (f : Find) → IsThere f → (name : List ℕ) → F (declared_fields f name)
  unfolding declared_fields
  declared_good f l name = declared_in f l name (node_at f.unit f.path)

  supertypes_kept : (f : Find) → IsThere f → Kept Ls (supertypes one f) (supertypes other f)
  supertypes_kept f l =
      let here = sym l.is_there in
      let there = sym (there-too one other Has n f l) in
      let k = r.superclasses (ref_of f) l.unit in
      let ks = r.interfaces (ref_of f) l.unit in
      let first = moved (Good one other Has) _ _ _ _ k (ap (superclass one) here) (ap (superclass other) there) in
      let rest = moved (AllByRecursion (Good one other Has)) _ _ _ _ ks (ap (interfaces one) here) (ap (interfaces other) there) in
      let equal : (superclass one f ∷ interfaces one f) ≡ (superclass other f ∷ interfaces other f) = λ i. first.equal i ∷ rest.equal i in
      record { equal = ap class_elements equal; good = elements_lie one other Has r (superclass one f ∷ interfaces one f) (first.good, rest.good) }

  -- together over its supertypes
  above_kept : (h h' : ElementRef → Finds) → ((at : ElementRef) → L at → Same (h at) (h' at)) → (f : Find) → IsThere f
      → Same (together (map h (supertypes one f))) (together (map h' (supertypes other f)))
  above_kept h h' hs f l =
      together-kept one other Has (map h (supertypes one f)) (map h' (supertypes other f))
      (through Ls Fs (map h) (map h') (supertypes one f) (supertypes other f) (supertypes_kept f l) (map-kept L F h h' hs))

  within_kept : (levels : ℕ) (f : Find) → IsThere f → (name : List ℕ) → Same (fields_within one levels f name) (fields_within other levels f name)
  unfolding fields_within
  within_kept zero f l name = kept F (declared_fields f name) (declared_good f l name)
  within_kept (suc levels) f l name =
      two_kept (declared_fields f name) (declared_fields f name) _ _ (kept F (declared_fields f name) (declared_good f l name))
      (above_kept (λ at. fields_within one levels (find_in one at) name) (λ at. fields_within other levels (find_in other at) name) (λ at k.
      moved F _ _ _ _ (within_kept levels (find_in one at) (lies-there one other Has t r at k) name) refl
      (ap (λ (g : Find). fields_within other levels g name) (sym (n at k).place))) f l)

  pub fields-kept : (f : Find) → IsThere f → (name : List ℕ) → Same (fields one f name) (fields other f name)
  unfolding fields
  fields-kept f l name = within_kept max_type_steps f l name

  of_found : (xs xs' : Finds) → Same xs xs' → (name : List ℕ) → Same (fields_of one xs name) (fields_of other xs' name)
  of_found xs xs' k name = through F F (λ (ys : Finds). fields_of one ys name) (λ (ys : Finds). fields_of other ys name) xs xs' k by
    where
      by : (ys : Finds) → F ys → Same (fields_of one ys name) (fields_of other ys name)
      by Nothing g = nothing
      by (One f) l = fields-kept f l name
      by Several g = nothing

  -- ---- simple names

  module _ (f : Find) (l : IsThere f) where
    -- what names of types mean there
    pub place : PlaceStays one other Has f
    place = subst (PlaceStays one other Has) l.is_there (n (ref_of f) l.unit).there

    module _ (name : List ℕ) where
      around_kept : (places : List Place) → Same (fields_around one f.part f.unit name places) (fields_around other f.part f.unit name places)
      around_kept [] = nothing
      around_kept (at ∷ above) = two_kept _ _ _ _ (fields-kept (at_path f at.path) (lies-at one other Has r f l at.path) name) (around_kept above)

      enclosing_kept : Same (enclosing_fields one f name) (enclosing_fields other f name)
      unfolding enclosing_fields
      enclosing_kept = around_kept (around f.unit f.path)

      single_by : (names : List (List ℕ)) (kind : ImportKind)
          → SameFinds one other Has (imported (tops_of one) f.part (but_last names)) (imported (tops_of other) f.part (but_last names))
          → Same (field_by_single one f.part name names kind) (field_by_single other f.part name names kind)
      single_by names import.StaticSingle k =
          chosen F (ends_in name names) (ends_in name names) _ _ _ _ refl (of_found _ _ k name) nothing
      single_by names import.Single k = nothing
      single_by names import.OnDemand k = nothing
      single_by names import.StaticOnDemand k = nothing

      on_demand_by : (names : List (List ℕ)) (kind : ImportKind)
          → SameFinds one other Has (imported (tops_of one) f.part names) (imported (tops_of other) f.part names)
          → Same (field_by_on_demand one f.part name names kind) (field_by_on_demand other f.part name names kind)
      on_demand_by names import.StaticOnDemand k = of_found _ _ k name
      on_demand_by names import.Single k = nothing
      on_demand_by names import.StaticSingle k = nothing
      on_demand_by names import.OnDemand k = nothing

      single_kept : SameAll (map (field_by_single_import one f.part name) f.unit.imports) (map (field_by_single_import other f.part name) f.unit.imports)
      unfolding field_by_single_import
      single_kept =
          map-facts F (field_by_single_import one f.part name) (field_by_single_import other f.part name) f.unit.imports (each_to _ (λ i. Same (field_by_single_import one f.part name i) (field_by_single_import other f.part name i)) (λ i k.
          single_by (parts i.name) i.kind k) f.unit.imports place.import_types)

      on_demand_kept : SameAll (map (field_by_import_on_demand one f.part name) f.unit.imports) (map (field_by_import_on_demand other f.part name) f.unit.imports)
      unfolding field_by_import_on_demand
      on_demand_kept =
          map-facts F (field_by_import_on_demand one f.part name) (field_by_import_on_demand other f.part name) f.unit.imports (each_to _ (λ i. Same (field_by_import_on_demand one f.part name i) (field_by_import_on_demand other f.part name i)) (λ i k.
          on_demand_by (parts i.name) i.kind k) f.unit.imports place.imports)

      simple_kept : Same (simple_field one f name) (simple_field other f name)
      unfolding simple_field
      simple_kept = three_kept _ _ _ _ _ _ enclosing_kept (together-kept one other Has _ _ single_kept) (together-kept one other Has _ _ on_demand_kept)

    -- ---- all names

    -- the first names of the chain name a type
    abbrev FrontsStay : List (List ℕ) → Type 0
    FrontsStay chain = (front : ℕ) → SameFinds one other Has (qualifier_meaning one (Within f) (take front chain)) (qualifier_meaning other (Within f) (take front chain))

    chain_kept : (chain : List (List ℕ)) → FrontsStay chain → Same (field_meaning one f chain) (field_meaning other f chain)
    unfolding field_meaning
    chain_kept [] k = nothing
    chain_kept (name ∷ []) k = simple_kept name
    chain_kept (name ∷ next ∷ more) k =
        let front : List (List ℕ) → Type 0 = λ names. SameFinds one other Has (qualifier_meaning one (Within f) names) (qualifier_meaning other (Within f) names) in
        of_found _ _ (subst front (but_last-take name (next ∷ more)) (k (length (next ∷ more)))) (last_of (next ∷ more))

    chains_kept : AllByRecursion (λ chain. Same (field_meaning one f chain) (field_meaning other f chain)) (unit_chains f.unit)
    chains_kept = each_to FrontsStay _ chain_kept (unit_chains f.unit) (place.scopes false).fronts

    pub place_fields-kept : PlaceFieldsStay one other Has f
    place_fields-kept = record { fields = fields-kept f l; chains = chains_kept }

    pub meaning-kept : (chain : List (List ℕ)) → Contains (unit_chains f.unit) chain → Same (field_meaning one f chain) (field_meaning other f chain)
    meaning-kept chain written = (each_contained _ (unit_chains f.unit) (chain ∷ []) chains_kept (written, tt)).0

  pub fields-by : (at : ElementRef) → L at → FieldsStay one other Has at
  fields-by at l = place_fields-kept (find_in one at) (lies-there one other Has t r at l)
