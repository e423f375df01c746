-- A package that stands in a table without a unit: a type of it is there, and nothing under the name that its unit would have.
use Rattle.std.proofs.Common.{◌≡◌, ℕ, ◌-◌, Bool, true, false, not, ◌&&◌, List, [], ◌∷◌, ◌++◌, length, take, nat_eq, codes, Option, None, Some, is_some, if◌then◌else◌, refl, sym, ap, subst, ◌∙◌, rules}
use Rattle.std.specs.List.{ends_with}
use Rattle.std.specs.Str.{bytes_eq}
use Rattle.std.specs.Option.{option_and_then}
use Rattle.std.proofs.lemmas.Bool.{false≢true}
use Rattle.std.proofs.lemmas.Bool.Decides.{Decides-eqb}
use Rattle.std.proofs.lemmas.Slice.Eq.{ends_is, bytes_eq-Decides}
use Rattle.apt_base.specs.declared.element.ElementRef.{ElementRef}
use Rattle.decl_tree.specs.declared.compilation.UnitText.{UnitText}
use Rattle.decl_elements.specs.Nodes.{Node, OfPackage, children, down}
use Rattle.decl_elements.specs.Canonical.{canonical_down}
use Rattle.element_table.specs.TypeTable.{TypeTable, IsTable, unit_of}
use Rattle.element_table.specs.UnitNames.{unit_name}
use Rattle.name_resolve.specs.Placed.{bare_unit}
use Rattle.element_table.specs.TableElements.{has_types, info_name, info_package, typed_package, node_from, node_at, canonical_from, canonical_at}
use Rattle.type_resolve.specs.Scopes.{IsElement, IsBareUnit}

-- ---- the package of a name, and the name of a package

front_info : (name front : List ℕ) → name ≡ front ++ codes ".package-info" → bytes_eq name (codes ".package-info") ≡ false → info_name front ≡ name
front_info name [] e f = let same : bytes_eq name (codes ".package-info") ≡ true = (bytes_eq-Decides name (codes ".package-info")).1 e in absurd cc
front_info name (c ∷ cs) e f = sym e

info_named : (name «package» : List ℕ) → info_package name ≡ Some «package» → info_name «package» ≡ name
unfolding info_package
info_named name «package» h =
    by (bytes_eq name (codes "package-info")) refl (ends_with nat_eq name (codes ".package-info")) refl (bytes_eq name (codes ".package-info")) refl h
  where
    by : (same : Bool) → bytes_eq name (codes "package-info") ≡ same → (ends : Bool) → ends_with nat_eq name (codes ".package-info") ≡ ends
        → (dot : Bool) → bytes_eq name (codes ".package-info") ≡ dot
        → (if same then Some [] else if ends && not dot then Some (take (length name - 13) name) else None) ≡ Some «package» → info_name «package» ≡ name
    by true s ends e dot d h =
        let named : name ≡ codes "package-info" = (bytes_eq-Decides name (codes "package-info")).0 s in
        let empty : «package» ≡ [] = cc in
        rw empty (sym named)
    by false s true e false d h =
        let front : take (length name - 13) name ≡ «package» = cc in
        subst (λ (p : List ℕ). info_name p ≡ name) front (front_info name (take (length name - 13) name) ((ends_is Decides-eqb name (codes ".package-info") _ refl).0 e) d)
    by false s true e true d h = absurd cc
    by false s false e dot d h = absurd cc

-- ---- an element without a unit

down_typed : (path : List ℕ) (o : Option (List ℕ)) → is_some (option_and_then (λ «package». down path (OfPackage None)) o) ≡ true
    → (option_and_then (λ «package». canonical_down «package» path (OfPackage None)) o ≡ o) × (is_some o ≡ true)
unfolding children
down_typed [] None there = absurd cc
down_typed [] (Some «package») there = (refl, refl)
down_typed (step ∷ path) None there = absurd cc
down_typed (step ∷ path) (Some «package») there = absurd cc

typed_has : (table : TypeTable) (o : Option (List ℕ)) («package» : List ℕ) → typed_package table o ≡ Some «package» → (has_types table «package» ≡ true) × (o ≡ Some «package»)
typed_has table None «package» h = absurd cc
typed_has table (Some other) «package» h = by (has_types table other) refl h
  where
    by : (has : Bool) → has_types table other ≡ has → (if has then Some other else None) ≡ Some «package» → (has_types table «package» ≡ true) × (Some other ≡ Some «package»)
    by true e h = (subst (λ (p : List ℕ). has_types table p ≡ true) (cc) e, h)
    by false e h = absurd cc

-- what stands at an element without a unit is the package of its name
module _ (table : TypeTable) (at : ElementRef) (none : unit_of table at.unit ≡ None) (there : IsElement table at) where
  bare_typed : (canonical_at table at ≡ typed_package table (info_package at.unit)) × (is_some (typed_package table (info_package at.unit)) ≡ true)
  unfolding node_at canonical_at
  bare_typed =
      let e : node_at table at ≡ node_from table None at.unit at.path = ap (λ (u : Option UnitText). node_from table u at.unit at.path) none in
      let d = down_typed at.path (typed_package table (info_package at.unit)) (sym (ap (λ (o : Option Node). is_some o) e) ∙ there) in
      (ap (λ (u : Option UnitText). canonical_from table u at.unit at.path) none ∙ d.0, d.1)

  pub bare_types : («package» : List ℕ) → Some «package» ≡ canonical_at table at → has_types table «package» ≡ true
  bare_types «package» e = (typed_has table (info_package at.unit) «package» (sym bare_typed.0 ∙ sym e)).0

  pub bare_free : («package» : List ℕ) → Some «package» ≡ canonical_at table at → unit_of table (info_name «package») ≡ None
  bare_free «package» e =
      let named : info_name «package» ≡ at.unit = info_named at.unit «package» (typed_has table (info_package at.unit) «package» (sym bare_typed.0 ∙ sym e)).1 in
      rw named none

  pub bare_some : None ≡ canonical_at table at → ⊥
  bare_some e = absurd (false≢true (ap (λ (o : Option (List ℕ)). is_some o) (e ∙ bare_typed.0) ∙ bare_typed.1))

-- ---- its bare unit

-- that of the package of a unit of the same package
pub bare_stands : (table : TypeTable) («package» own : List ℕ) (unit : UnitText) → IsTable table → unit_of table (info_name «package») ≡ None → unit ≡ bare_unit own
    → own ≡ «package» → IsBareUnit table «package» unit
unfolding unit_name
bare_stands table «package» own unit held none e same =
    let value : unit ≡ bare_unit «package» = e ∙ ap bare_unit same in
    record { is_table = held; value = value; free = ap (λ (u : UnitText). unit_of table (unit_name u)) value ∙ none }

pub ruleset bare = (bare_types, bare_free, bare_some, bare_stands)
