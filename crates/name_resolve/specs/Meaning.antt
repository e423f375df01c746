-- The meaning of the name of a type (JLS 6.4, 6.5.4, 6.5.5): the places in their order, what is found at each, and the first place that finds anything.
use Rattle.std.specs.Prelude.{ℕ, zero, suc, Bool, true, false, List, [], ◌∷◌, ◌++◌, map, Option, None, Some, codes, if◌then◌else◌}
use Rattle.std.specs.List.{list_any}
use Rattle.std.specs.Str.{bytes_eq}
use Rattle.apt_base.specs.Identifiers.{parts}
use Rattle.apt_base.specs.Limits.{max_type_steps}
use Rattle.decl_tree.specs.declared.compilation.ImportKind.{ImportKind}
use Rattle.decl_tree.specs.declared.compilation.ImportKind.TheVariants as import
use Rattle.decl_tree.specs.declared.compilation.Import.{Import}
use Rattle.decl_tree.specs.declared.compilation.Body.{Body}
use Rattle.decl_tree.specs.declared.compilation.Body.TheVariants.{Declared, Info}
use Rattle.decl_tree.specs.declared.compilation.UnitText.{UnitText}
use Rattle.element_table.specs.declared.part.Part.{Part}
use Rattle.element_table.specs.declared.part.Part.TheVariants.{Source, Stub}
use Rattle.name_resolve.specs.QualifiedNames.{Prefix, prefixes}
use Rattle.std.specs.FinMap as fin
use Rattle.element_table.specs.UnitNames.{in_package}
use Rattle.element_table.specs.TypeTable.{TypeTable}
use Rattle.decl_elements.specs.Walk.{Place}
use Rattle.name_resolve.specs.Ways.{around}
use Rattle.name_resolve.specs.Finds.{Find, Finds, Nothing, One, Several, together, first_of, parameters_at, types_at, declared_types}
use Rattle.name_resolve.specs.Supertypes.{Supertype, Written, Implied, supertypes, names_in}

-- what a part meets under the name of a unit: a top-level type or nothing
abbrev pub Tops : Type 0
Tops = Part → List ℕ → Finds

-- the member types of this name of a type
abbrev pub Members : Type 0
Members = Find → List ℕ → Finds

-- where a name is written: within an element, or in the `extends` or `implements` clause of one, which does not see its members
pub data Scope : Type 0 where
  Within : (at : Find) → Scope
  Header : (at : Find) → Scope

abbrev pub scope_of : Bool → Find → Scope
scope_of true at = Header at
scope_of false at = Within at

abbrev pub scope_at : Scope → Find
scope_at (Within at) = at
scope_at (Header at) = at

-- ---- qualified names

-- the members of what is found; what is ambiguous has none
abbrev pub members_of : Members → Finds → List ℕ → Finds
members_of members (One f) name = members f name
members_of members other name = Nothing

-- from what the first names mean along the other ones
abbrev pub along : Members → Finds → List (List ℕ) → Finds
along members finds [] = finds
along members finds (name ∷ names) = along members (members_of members finds name) names

-- from what is found along the other names; where nothing is found, something else
abbrev pub along_or : Members → List (List ℕ) → Finds → Finds → Finds
along_or members names other Nothing = other
along_or members names other (One f) = along members (One f) names
along_or members names other Several = along members Several names

-- the shortest prefix that is a top-level type, and then member types
abbrev pub by_prefix : Tops → Members → Part → List Prefix → Finds
by_prefix tops members part [] = Nothing
by_prefix tops members part (prefix ∷ longer) = along_or members prefix.after (by_prefix tops members part longer) (tops part prefix.joined)

-- what an import names: a top-level type, or declared member types from there
unfoldable pub imported : Tops → Part → List (List ℕ) → Finds
imported tops part names = by_prefix tops declared_types part (prefixes names)

-- ---- simple names

abbrev pub ends_in : List ℕ → List (List ℕ) → Bool
ends_in name [] = false
ends_in name (last ∷ []) = bytes_eq last name
ends_in name (first ∷ next ∷ more) = ends_in name (next ∷ more)

abbrev pub but_last : List (List ℕ) → List (List ℕ)
but_last [] = []
but_last (last ∷ []) = []
but_last (first ∷ next ∷ more) = first ∷ but_last (next ∷ more)

-- what a name means by a single import of these names; a static one gives member types, inherited ones included
abbrev pub single_by : Tops → Members → Part → List ℕ → List (List ℕ) → ImportKind → Finds
single_by tops members part name imported_names import.Single =
    if ends_in name imported_names then imported tops part imported_names else Nothing
single_by tops members part name imported_names import.StaticSingle =
    if ends_in name imported_names then members_of members (imported tops part (but_last imported_names)) name else Nothing
single_by tops members part name imported_names other = Nothing

-- what a name means by an import on demand from these names; a static one gives member types, inherited ones included
abbrev pub on_demand_by : Tops → Members → Part → List ℕ → List (List ℕ) → ImportKind → Finds
on_demand_by tops members part name imported_names import.OnDemand = imported tops part (imported_names ++ name ∷ [])
on_demand_by tops members part name imported_names import.StaticOnDemand = members_of members (imported tops part imported_names) name
on_demand_by tops members part name imported_names other = Nothing

unfoldable pub single_import : Tops → Members → Part → List ℕ → Import → Finds
single_import tops members part name i = single_by tops members part name (parts i.name) i.kind

unfoldable pub on_demand_import : Tops → Members → Part → List ℕ → Import → Finds
on_demand_import tops members part name i = on_demand_by tops members part name (parts i.name) i.kind

-- in an element: the member types that it declares, its type parameters, and the member types that it inherits
unfoldable pub in_element : Members → Part → UnitText → List ℕ → Place → Finds
in_element members part u name at =
    first_of (types_at part u name at ∷ parameters_at part u name at ∷ members (record { part = part; unit = u; path = at.path }) name ∷ [])

-- from the innermost enclosing element outwards
abbrev pub in_elements : Members → Part → UnitText → List ℕ → List Place → Finds
in_elements members part u name [] = Nothing
in_elements members part u name (at ∷ above) = first_of (in_element members part u name at ∷ in_elements members part u name above ∷ [])

abbrev pub in_header : Members → Part → UnitText → List ℕ → List Place → Finds
in_header members part u name [] = Nothing
in_header members part u name (at ∷ above) = first_of (parameters_at part u name at ∷ in_elements members part u name above ∷ [])

abbrev pub in_scope : Members → List ℕ → Scope → Finds
in_scope members name (Within at) = in_elements members at.part at.unit name (around at.unit at.path)
in_scope members name (Header at) = in_header members at.part at.unit name (around at.unit at.path)

-- the types of the same file, single imports, the types of the same package, and imports on demand together with `java.lang`
unfoldable pub in_unit : Tops → Members → Part → UnitText → List ℕ → Finds
in_unit tops members part u name =
    first_of (
    (if list_any (bytes_eq name) u.siblings then tops part (in_package u.package name) else Nothing)
    ∷ together (map (single_import tops members part name) u.imports)
    ∷ tops part (in_package u.package name)
    ∷ together (tops part (in_package (codes "java.lang") name) ∷ map (on_demand_import tops members part name) u.imports)
    ∷ []
    )

unfoldable pub simple : Tops → Members → Scope → List ℕ → Finds
simple tops members scope name = first_of (in_scope members name scope ∷ in_unit tops members (scope_at scope).part (scope_at scope).unit name ∷ [])

-- a qualifier, which is one name or several in front of another name: its first name as a type in scope, or else the shortest prefix
unfoldable pub qualifier : Tops → Members → Scope → List (List ℕ) → Finds
qualifier tops members scope [] = Nothing
qualifier tops members scope (name ∷ more) =
    along_or members more (by_prefix tops members (scope_at scope).part (prefixes (name ∷ more))) (simple tops members scope name)

-- a whole name: a simple name never falls back to a prefix, a qualified one is found as a qualifier is
unfoldable pub found : Tops → Members → Scope → List (List ℕ) → Finds
found tops members scope [] = Nothing
found tops members scope (name ∷ []) = simple tops members scope name
found tops members scope (name ∷ next ∷ more) = qualifier tops members scope (name ∷ next ∷ more)

-- ---- supertypes and inherited member types

unfoldable pub supertype_found : Tops → Members → Find → Supertype → Finds
supertype_found tops members f (Written text) = found tops members (Header f) (names_in text)
supertype_found tops members f (Implied name) = tops f.part name

-- the member types of this name of the supertypes
unfoldable pub inherited : Tops → Members → Find → List ℕ → Finds
inherited tops members f name = together (map (λ s. members_of members (supertype_found tops members f s) name) (supertypes f))

-- the member types of this name, with this many levels of supertypes left: those that the type declares, or else those of its supertypes with one level less, whose
-- names are looked up with one level less too
unfoldable pub members_within : Tops → ℕ → Members
members_within tops zero f name = declared_types f name
members_within tops (suc levels) f name = first_of (declared_types f name ∷ inherited tops (members_within tops levels) f name ∷ [])

-- ---- over a table

-- a file `package-info.java` has no top-level type
abbrev pub top_of : Part → UnitText → Body → Finds
top_of part u (Declared d) = One (record { part = part; unit = u; path = [] })
top_of part u (Info annotations doc) = Nothing

-- the unit of a name in the stubs, unless it is in the sources
abbrev pub top_in : Option UnitText → Option UnitText → Finds
top_in (Some source) stub = top_of Source source source.body
top_in None (Some stub) = top_of Stub stub stub.body
top_in None None = Nothing

-- from a source unit both parts are met, from a stub the stubs alone
unfoldable pub tops_of : TypeTable → Tops
tops_of table Source name = top_in (fin.get table.source name) (fin.get table.stub name)
tops_of table Stub name = top_in None (fin.get table.stub name)

-- what is met from a part of a unit that stands in a part: the rule of `tops_of` by the part that a name is in, as no name is in both
abbrev pub met_from : Part → Part → UnitText → Finds
met_from Source at u = top_of at u u.body
met_from Stub Source u = Nothing
met_from Stub Stub u = top_of Stub u u.body

-- the member types of a name, with supertypes followed through as many levels as a question on types goes steps
unfoldable pub members : TypeTable → Members
members table = members_within (tops_of table) max_type_steps

-- the type or type parameter that the names mean there, if there is one
unfoldable pub meaning : TypeTable → Scope → List (List ℕ) → Finds
meaning table scope names = found (tops_of table) (members table) scope names

-- the same of names that stand in front of another name
unfoldable pub qualifier_meaning : TypeTable → Scope → List (List ℕ) → Finds
qualifier_meaning table scope names = qualifier (tops_of table) (members table) scope names
