-- A find is determined by its package, its simple name and its path, and whatever a look-up finds is of the table.
use Rattle.std.proofs.Common.{◌≡◌, ℕ, Bool, true, false, ◌&&◌, List, [], ◌∷◌, ◌++◌, Option, None, Some, IfSome, is_some, codes, refl, sym, ap, subst, ◌∙◌}
use Rattle.std.specs.List.{AllByRecursion}
use Rattle.std.specs.Option.{option_or}
use Rattle.std.specs.FinMap as fin
use Rattle.std.proofs.lemmas.Slice.Eq.{bytes_eq-Decides}
use Rattle.apt_base.specs.Identifiers.{parts}
use Rattle.apt_base.specs.Limits.{max_type_steps}
use Rattle.decl_tree.specs.declared.compilation.ImportKind.{ImportKind}
use Rattle.decl_tree.specs.declared.compilation.ImportKind.TheVariants as import
use Rattle.decl_tree.specs.declared.compilation.Body.{Body}
use Rattle.decl_tree.specs.declared.compilation.Body.TheVariants.{Declared, Info}
use Rattle.decl_tree.specs.declared.compilation.UnitText.{UnitText}
use Rattle.element_table.specs.declared.part.Part.{Part}
use Rattle.element_table.specs.declared.part.Part.TheVariants.{Source, Stub}
use Rattle.element_table.specs.TypeTable.{TypeTable, IsTable, unit_of}
use Rattle.element_table.specs.UnitNames.{in_package, simple_name, unit_name}
use Rattle.name_resolve.specs.QualifiedNames.{prefixes}
use Rattle.name_resolve.specs.Finds.{Find, Finds, Nothing, One, Several, same_find}
use Rattle.name_resolve.specs.Supertypes.{Supertype, Written, Implied, supertypes, names_in}
use Rattle.name_resolve.specs.Meaning.{Scope, scope_at, scope_of, top_of, top_in, tops_of, members_of, imported, members_within, supertype_found, simple, qualifier, qualifier_meaning, members, Within, but_last}
use Rattle.name_resolve.specs.Placed.{or_bare, IsPlacedUnit, IsPlaced, ArePlaced}
use Rattle.name_resolve.proofs.Agreement as agreement
use Rattle.name_resolve.proofs.Agreement.{ImportAsks, SimpleAsks, Asks, SupertypeAsks}

-- ---- what holds of all names holds of those that a look-up asks for

module _ (P : List ℕ → Type 0) (all : (name : List ℕ) → P name) where
  of_each : {A : Type 0} (Q : A → Type 0) → ((x : A) → Q x) → (xs : List A) → AllByRecursion Q xs
  of_each Q q [] = tt
  of_each Q q (x ∷ xs) = (q x, of_each Q q xs)

  pub of_prefixes : (names : List (List ℕ)) → AllByRecursion (λ p. P p.joined) (prefixes names)
  of_prefixes names = of_each (λ p. P p.joined) (λ p. all p.joined) (prefixes names)

  of_import : (name : List ℕ) (names : List (List ℕ)) (kind : ImportKind) → ImportAsks P name names kind
  of_import name names import.Single = of_prefixes names
  of_import name names import.StaticSingle = of_prefixes (but_last names)
  of_import name names import.OnDemand = of_prefixes (names ++ name ∷ [])
  of_import name names import.StaticOnDemand = of_prefixes names

  pub of_simple : (u : UnitText) (name : List ℕ) → SimpleAsks P u name
  of_simple u name = record {
    beside = all (in_package u.«package» name);
    lang = all (in_package (codes "java.lang") name);
    imports = of_each (λ i. ImportAsks P name (parts i.name) i.kind) (λ i. of_import name (parts i.name) i.kind) u.imports;
  }

  pub of_names : (u : UnitText) (names : List (List ℕ)) → Asks P u names
  of_names u [] = tt
  of_names u (name ∷ names) = (of_simple u name, of_prefixes (name ∷ names))

  pub of_supertype : (u : UnitText) (s : Supertype) → SupertypeAsks P u s
  of_supertype u (Written text) = of_names u (names_in text)
  of_supertype u (Implied name) = all name

  pub of_supertypes : (u : UnitText) (ss : List Supertype) → AllByRecursion (SupertypeAsks P u) ss
  of_supertypes u ss = of_each (SupertypeAsks P u) (of_supertype u) ss

-- ---- one find for each package, simple name and path

tests : (a b c : Bool) → (a && b && c) ≡ true → (a ≡ true) × ((b ≡ true) × (c ≡ true))
tests true true true e = (refl, (refl, refl))
tests true true false e = absurd (cc)
tests true false c e = absurd (cc)
tests false b c e = absurd (cc)

one_name : (u v : UnitText) → u.«package» ≡ v.«package» → simple_name u.body ≡ simple_name v.body → unit_name u ≡ unit_name v
unfolding unit_name
one_name u v p s = λ i. in_package (p i) (s i)

module _ (table : TypeTable) where
  one_unit : (u v : UnitText) → IsPlacedUnit table u → IsPlacedUnit table v → u.«package» ≡ v.«package» → simple_name u.body ≡ simple_name v.body → u ≡ v
  one_unit u v p q package_is simple_is =
      let name : unit_name u ≡ unit_name v = one_name u v package_is simple_is in
      sym p ∙ (λ i. or_bare (unit_of table (name i)) (package_is i)) ∙ q

  -- of two finds of the table that are one element each is the other
  pub same_is : (f g : Find) → IsPlaced table f → IsPlaced table g → f.part ≡ g.part → same_find f g ≡ true → f ≡ g
  same_is f g p q part e =
      let s = tests _ _ _ e in
      let unit : f.unit ≡ g.unit = one_unit f.unit g.unit p.unit q.unit ((bytes_eq-Decides _ _).0 s.0) ((bytes_eq-Decides _ _).0 s.1.0) in
      let path : f.path ≡ g.path = (bytes_eq-Decides _ _).0 s.1.1 in
      λ i. record { part = part i; unit = unit i; path = path i }

module _ (table : TypeTable) (is : IsTable table) where
  abbrev tops : Part → List ℕ → Finds
  tops = tops_of table

  abbrev Good : Part → UnitText → Type 0
  Good part unit = IsPlacedUnit table unit

  -- ---- top-level types

  by_name : (name : List ℕ) (u : UnitText) → unit_name u ≡ name → unit_of table name ≡ Some u → IsPlacedUnit table u
  by_name name u named held = ap (λ o. or_bare o u.«package») (ap (unit_of table) named ∙ held)

  in_sources : (name : List ℕ) (u : UnitText) → fin.get table.source name ≡ Some u → IsPlacedUnit table u
  in_sources name u e =
      by_name name u (subst (λ o. IfSome o (λ v. unit_name v ≡ name)) e (is.sources_named name)) (ap (λ o. option_or o (fin.get table.stub name)) e)

  no_source : (source stub : Option UnitText) → (is_some source ≡ true → is_some stub ≡ false) → (u : UnitText) → stub ≡ Some u → option_or source stub ≡ Some u
  no_source None stub apart u e = e
  no_source (Some s) stub apart u e = let no : is_some stub ≡ false = apart refl in let yes : is_some stub ≡ true = ap is_some e in absurd (cc)

  in_stubs : (name : List ℕ) (u : UnitText) → fin.get table.stub name ≡ Some u → IsPlacedUnit table u
  in_stubs name u e =
      by_name name u (subst (λ o. IfSome o (λ v. unit_name v ≡ name)) e (is.stubs_named name))
      (no_source (fin.get table.source name) (fin.get table.stub name) (is.apart name) u e)

  by_part : (source stub : Option UnitText) (name : List ℕ) (u : UnitText) → fin.get table.source name ≡ source → fin.get table.stub name ≡ stub
      → option_or source stub ≡ Some u → IsPlacedUnit table u
  by_part (Some s) stub name u source_is stub_is e = in_sources name u (source_is ∙ e)
  by_part None stub name u source_is stub_is e = in_stubs name u (stub_is ∙ e)

  pub held-placed : (name : List ℕ) (u : UnitText) → unit_of table name ≡ Some u → IsPlacedUnit table u
  held-placed name u e = by_part (fin.get table.source name) (fin.get table.stub name) name u refl refl e

  by_body : (part : Part) (u : UnitText) (body : Body) → IsPlacedUnit table u → agreement.AreGood tops tops Good (top_of part u body)
  by_body part u (Declared d) p = p
  by_body part u (Info annotations doc) p = tt

  top_placed : (source stub : Option UnitText) → ((u : UnitText) → source ≡ Some u → IsPlacedUnit table u) → ((u : UnitText) → stub ≡ Some u → IsPlacedUnit table u)
      → agreement.AreGood tops tops Good (top_in source stub)
  top_placed (Some s) stub p q = by_body Source s s.body (p s refl)
  top_placed None (Some t) p q = by_body Stub t t.body (q t refl)
  top_placed None None p q = tt

  no_unit : (u : UnitText) → (let none : Option UnitText = None in none) ≡ Some u → IsPlacedUnit table u
  no_unit u e = absurd (cc)

  tops-good : (part : Part) (name : List ℕ) → agreement.AreGood tops tops Good (tops part name)
  unfolding tops_of
  tops-good Source name = top_placed (fin.get table.source name) (fin.get table.stub name) (in_sources name) (in_stubs name)
  tops-good Stub name = top_placed None (fin.get table.stub name) no_unit (in_stubs name)

  same_tops : (part : Part) (name : List ℕ) → agreement.SameTops tops tops Good part name
  same_tops part name = record { equal = refl; good = tops-good part name }

  closed : agreement.IsClosed tops tops Good
  closed f g = of_supertypes (agreement.SameTops tops tops Good f.part) (same_tops f.part) f.unit (supertypes f)

  same_members : (levels : ℕ) → agreement.SameMembers tops tops Good (members_within tops levels) (members_within tops levels)
  same_members levels = agreement.members-same tops tops Good closed levels

  good_placed : (finds : Finds) → agreement.AreGood tops tops Good finds → ArePlaced table finds
  good_placed Nothing g = tt
  good_placed (One f) g = record { is_table = is; unit = g }
  good_placed Several g = tt

  -- ---- whatever is found from what is of the table is of the table

  pub tops-placed : (part : Part) (name : List ℕ) → ArePlaced table (tops part name)
  tops-placed part name = good_placed (tops part name) (tops-good part name)

  pub imported-placed : (part : Part) (names : List (List ℕ)) → ArePlaced table (imported tops part names)
  imported-placed part names =
      good_placed _ (agreement.imported-same tops tops Good part names (of_prefixes (agreement.SameTops tops tops Good part) (same_tops part) names)).good

  module _ (levels : ℕ) where
    members-good : (f : Find) → IsPlacedUnit table f.unit → (name : List ℕ) → ArePlaced table (members_within tops levels f name)
    members-good f g name = good_placed _ (same_members levels f g name).good

    simple-good : (scope : Scope) → IsPlacedUnit table (scope_at scope).unit → (name : List ℕ) → ArePlaced table (simple tops (members_within tops levels) scope name)
    simple-good scope g name =
        good_placed _ (agreement.simple-same tops tops Good _ _ (same_members levels) scope g name
        (of_simple (agreement.SameTops tops tops Good (scope_at scope).part) (same_tops (scope_at scope).part) (scope_at scope).unit name)).good

    qualifier-good : (scope : Scope) → IsPlacedUnit table (scope_at scope).unit → (names : List (List ℕ)) → ArePlaced table (qualifier tops (members_within tops levels) scope names)
    qualifier-good scope g names =
        good_placed _ (agreement.qualifier-same tops tops Good _ _ (same_members levels) scope g names
        (of_names (agreement.SameTops tops tops Good (scope_at scope).part) (same_tops (scope_at scope).part) (scope_at scope).unit names)).good

    supertype-good : (f : Find) → IsPlacedUnit table f.unit → (s : Supertype) → ArePlaced table (supertype_found tops (members_within tops levels) f s)
    supertype-good f g s =
        good_placed _ (agreement.supertype-same tops tops Good _ _ (same_members levels) f g s
        (of_supertype (agreement.SameTops tops tops Good f.part) (same_tops f.part) f.unit s)).good

module _ (table : TypeTable) (levels : ℕ) where
  pub members-placed : (f : Find) → IsPlaced table f → (name : List ℕ) → ArePlaced table (members_within (tops_of table) levels f name)
  members-placed f g name = members-good table g.is_table levels f g.unit name

  pub member-placed : (finds : Finds) → ArePlaced table finds → (name : List ℕ) → ArePlaced table (members_of (members_within (tops_of table) levels) finds name)
  member-placed Nothing g name = tt
  member-placed (One f) g name = members-placed f g name
  member-placed Several g name = tt

  pub simple-placed : (header : Bool) (f : Find) → IsPlaced table f → (name : List ℕ) → ArePlaced table (simple (tops_of table) (members_within (tops_of table) levels) (scope_of header f) name)
  simple-placed true f g name = simple-good table g.is_table levels (scope_of true f) g.unit name
  simple-placed false f g name = simple-good table g.is_table levels (scope_of false f) g.unit name

  pub supertype-placed : (f : Find) → IsPlaced table f → (s : Supertype) → ArePlaced table (supertype_found (tops_of table) (members_within (tops_of table) levels) f s)
  supertype-placed f g s = supertype-good table g.is_table levels f g.unit s

module _ (table : TypeTable) where
  pub qualifier-placed : (f : Find) → IsPlaced table f → (names : List (List ℕ)) → ArePlaced table (qualifier_meaning table (Within f) names)
  unfolding qualifier_meaning members
  qualifier-placed f g names = qualifier-good table g.is_table max_type_steps (Within f) g.unit names
