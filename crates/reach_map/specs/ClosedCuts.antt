-- A table whose source part is cut to a set of names, the sets that are closed, and the law on meanings: over the cut to a closed set each name that is
-- written in a unit of the set, or in a stub, means what it means over the whole table.
use Rattle.std.specs.Prelude.{◌≡◌, ℕ, Bool, false, not, T, List, take, Option, None, Some}
use Rattle.std.specs.List.{AllByRecursion, Contains, list_any}
use Rattle.std.specs.Str.{bytes_eq}
use Rattle.std.specs.FinMap as fin
use Rattle.apt_base.specs.Identifiers.{parts}
use Rattle.decl_tree.specs.declared.type_text.TypeText.{TypeText}
use Rattle.decl_tree.specs.declared.compilation.UnitText.{UnitText}
use Rattle.element_table.specs.declared.part.Part.{Part}
use Rattle.element_table.specs.declared.part.Part.TheVariants.{Source, Stub}
use Rattle.element_table.specs.TypeTable.{TypeTable, table_of, unit_of, part_of}
use Rattle.name_resolve.specs.Meaning.{Scope, scope_at, meaning, qualifier_meaning}
use Rattle.name_resolve.specs.Annotations.{annotation_meaning}
use Rattle.name_resolve.specs.Mirrors as mirrors
use Rattle.name_resolve.specs.Mirrors.{type_meaning}
use Rattle.reach_map.specs.Chains.{type_chains, unit_chains}
use Rattle.reach_map.specs.Candidates.{candidates}

-- a set of names
abbrev pub NameSet : Type 0
NameSet = List ℕ → Bool

-- the names of a list
abbrev pub among : List (List ℕ) → NameSet
among list name = list_any (bytes_eq name) list

-- the table with its source part cut to a set, and with the whole stub part
unfoldable pub cut : TypeTable → NameSet → TypeTable
cut table names = table_of (fin.retain_keys table.source names) table.stub

-- whether a unit is cut off, by whether its name is in the set and by its part
abbrev pub is_cut_off : Bool → Option Part → Bool
is_cut_off kept (Some Source) = not kept
is_cut_off kept (Some Stub) = false
is_cut_off kept None = false

-- no unit of this name is cut off: there is none, or it is a source of the set or a stub
abbrev pub IsKept : TypeTable → NameSet → List ℕ → Type 0
IsKept table names name = is_cut_off (names name) (part_of table name) ≡ false

abbrev pub HoldsAll : NameSet → List (List ℕ) → Type 0
HoldsAll names list = AllByRecursion (λ name. T (names name)) list

-- with each source unit of the set, its candidates are in the set, whether the table has them or not
abbrev pub IsClosedSet : TypeTable → NameSet → Type 0
IsClosedSet table names = (name : List ℕ) (u : UnitText) → T (names name) → fin.get table.source name ≡ Some u → HoldsAll names (candidates u)

-- the scope is in the unit of this name
pub record IsIn (table : TypeTable) (name : List ℕ) (scope : Scope) : Type 0 where
  pub part : part_of table name ≡ Some (scope_at scope).part
  pub unit : unit_of table name ≡ Some (scope_at scope).unit

-- a type text that is written in a unit: each of its name chains is one of the unit
abbrev pub IsWritten : UnitText → TypeText → Type 0
IsWritten u text = AllByRecursion (Contains (unit_chains u)) (type_chains text)

-- each name that is written in the scope's unit means the same there over both tables
pub record MeansTheSame (one other : TypeTable) (scope : Scope) : Type 0 where
  -- each name chain, and each front of one, of whatever length, as a name of its own
  pub names :
      AllByRecursion (λ chain. (front : ℕ) → meaning one scope (take front chain) ≡ meaning other scope (take front chain))
      (unit_chains (scope_at scope).unit)
  -- each front of one as it stands in front of another name
  pub fronts :
      AllByRecursion (λ chain. (front : ℕ) → qualifier_meaning one scope (take front chain) ≡ qualifier_meaning other scope (take front chain))
      (unit_chains (scope_at scope).unit)
  -- each type text, as a mirror
  pub types : (text : TypeText) → IsWritten (scope_at scope).unit text → type_meaning one scope text ≡ type_meaning other scope text
  -- each name of an annotation, as the annotation interface
  pub annotations :
      (name : List ℕ) → Contains (unit_chains (scope_at scope).unit) (parts name)
      → annotation_meaning one scope name ≡ annotation_meaning other scope name
  -- the supertypes of the type that the scope is at, the implied ones too
  pub superclass : mirrors.superclass one (scope_at scope) ≡ mirrors.superclass other (scope_at scope)
  pub interfaces : mirrors.interfaces one (scope_at scope) ≡ mirrors.interfaces other (scope_at scope)

-- the cut to a closed set keeps the meanings in the unit of this name, which is a source of the set or a stub, in whichever scope of it
abbrev pub KeepsMeanings : TypeTable → NameSet → List ℕ → Type 0
KeepsMeanings table names name =
    IsClosedSet table names → IsKept table names name → (scope : Scope) → IsIn table name scope → MeansTheSame table (cut table names) scope
