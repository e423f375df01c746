-- Where the member types of a type stand among its children (JLS 8.5, 9.5), and the index that finds them by name.
use Rattle.std.specs.Prelude.{◌≡◌, ℕ, ◌≤◌, min, max, List, [], ◌∷◌, ◌++◌, map, codes, decimal, Option, None, Some, String, string_bytes}
use Rattle.std.specs.BTreeMap.{BTreeMap}
use Rattle.std.specs.List.{AllByRecursion, Contains, flat_map}
use Rattle.std.specs.Option.{option_and_then}
use Rattle.std.specs.Ordering.{nat_cmp}
use Rattle.std.specs.Cmp.Lexicographic.{slice_cmp}
use Rattle.std.specs.FinMap as fin
use Rattle.std.specs.FinMap.{FinMap}
use Rattle.std.specs.declared.alloc.Global.{Global}
use Rattle.decl_tree.specs.declared.declaration.TypeDecl.{TypeDecl}
use Rattle.decl_tree.specs.declared.compilation.UnitText.{UnitText}
use Rattle.decl_elements.specs.Nodes.{down, root}
use Rattle.decl_elements.specs.Walk.{Place}
use Rattle.decl_elements.specs.Written.{declaration_of}
use Rattle.name_index.specs.ShownMaps.{shown_map}
use Rattle.element_table.specs.declared.child_range.ChildRange.{ChildRange}
use Rattle.element_table.specs.declared.member_index.MemberIndex.{MemberIndex}
use Rattle.element_table.specs.declared.member_rows.Row.{Row}
use Rattle.element_table.specs.TypeTable.{Units}

-- ---- what is found

-- the declaration of the type at a path of a unit, if the unit is there and a type stands there
abbrev pub declared_at : Option UnitText → List ℕ → Option TypeDecl
declared_at None path = None
declared_at (Some unit) path = option_and_then declaration_of (down path (root unit))

-- the number of a child is one of the range; none is one of no range
abbrev pub IsWithin : ℕ → Option ChildRange → Type 0
IsWithin number None = ⊥
IsWithin number (Some range) = (range.first ≤ number) × (number ≤ range.last)

-- the numbers of all member types of this name that the type at a path declares are within a range
abbrev pub AreWithin : Option ChildRange → Option UnitText → List ℕ → List ℕ → Type 0
AreWithin range unit path name = (number : ℕ) (d : TypeDecl) → declared_at unit (path ++ number ∷ []) ≡ Some d → d.name ≡ name → IsWithin number range

-- ---- the index

-- ranges by keys
abbrev pub Ranges : Type 0
Ranges = FinMap (slice_cmp nat_cmp) ChildRange

abbrev pub ranges_of : MemberIndex → Ranges
ranges_of index = shown_map index.held

-- the name, the unit and the path of the type, behind a blank each
abbrev pub step_text : ℕ → List ℕ
step_text step = codes " " ++ decimal step

unfoldable pub member_key : List ℕ → List ℕ → List ℕ → List ℕ
member_key unit path name = (name ++ 32 ∷ unit) ++ flat_map step_text path

-- the least range that has a number too
abbrev pub widened : Option ChildRange → ℕ → ChildRange
widened None number = record { first = number; last = number }
widened (Some range) number = record { first = min range.first number; last = max range.last number }

-- each number at a key is still there
abbrev pub Keeps : Ranges → Ranges → Type 0
Keeps old new = (key : List ℕ) (number : ℕ) → IsWithin number (fin.get old key) → IsWithin number (fin.get new key)

-- an index finds the member types of all types of the unit of this name
abbrev pub Covers : Ranges → List ℕ → Option UnitText → Type 0
Covers ranges name unit = (path : List ℕ) (number : ℕ) (d : TypeDecl) → declared_at unit (path ++ number ∷ []) ≡ Some d → IsWithin number (fin.get ranges (member_key name path d.name))

-- an index finds the member types of all units
abbrev pub CoversAll : Ranges → Units → Type 0
CoversAll ranges units = (name : List ℕ) → Covers ranges name (fin.get units name)

-- ---- the rows of one unit

abbrev pub shown_row : Row → List ℕ × ℕ
shown_row row = (string_bytes row.key, row.number)

abbrev pub shown_rows : List Row → List (List ℕ × ℕ)
shown_rows rows = map shown_row rows

-- the index has the number of each row at its key
abbrev pub HasRows : Ranges → List Row → Type 0
HasRows ranges rows = AllByRecursion (λ row. IsWithin row.1 (fin.get ranges row.0)) (shown_rows rows)

-- there is a row for a member type that stands at this place
abbrev pub HasRowAt : List ℕ → List Row → Place → Type 0
HasRowAt unit rows at = (path : List ℕ) (number : ℕ) (d : TypeDecl) → at.path ≡ path ++ number ∷ [] → declaration_of at.node ≡ Some d → Contains (shown_rows rows) (member_key unit path d.name, number)

-- what a visit of a place makes of the rows of a unit: none goes, and the member type that stands there has one
pub record Notes (unit : List ℕ) (old : List Row) (at : Place) (new : List Row) : Type 0 where
  pub stay : (row : List ℕ × ℕ) → Contains (shown_rows old) row → Contains (shown_rows new) row
  pub noted : HasRowAt unit new at

-- the rows of a unit are those of all its member types
abbrev pub AreRowsOf : List Row → List ℕ → UnitText → Type 0
AreRowsOf rows name unit = (path : List ℕ) (number : ℕ) (d : TypeDecl) → declared_at (Some unit) (path ++ number ∷ []) ≡ Some d → Contains (shown_rows rows) (member_key name path d.name, number)
