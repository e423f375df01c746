-- The type table: units by their canonical names, in a part of sources and a part of stubs. No name is in both.
use Rattle.std.specs.Prelude.{◌≡◌, ℕ, ◌+◌, ◌≤◌, Bool, false, ◌||◌, IsTrue, List, Option, None, Some, IfSome, Result, Ok, Err, nat_le, if◌then◌else◌}
use Rattle.std.specs.List.{sum_by}
use Rattle.std.specs.Option.{option_or}
use Rattle.std.specs.Ordering.{nat_cmp}
use Rattle.std.specs.Cmp.Lexicographic.{slice_cmp}
use Rattle.std.specs.FinMap as fin
use Rattle.std.specs.FinMap.{FinMap}
use Rattle.decl_tree.specs.declared.compilation.UnitText.{UnitText}
use Rattle.element_table.specs.declared.answer.Answer.{Answer}
use Rattle.element_table.specs.declared.answer.Answer.TheVariants.{IsNew, IsDuplicate, IsTooMany}
use Rattle.element_table.specs.declared.fault.EnterFault.{EnterFault}
use Rattle.element_table.specs.declared.fault.EnterFault.TheVariants.{Duplicate, TooMany, Memory}
use Rattle.element_table.specs.declared.part.Part.{Part}
use Rattle.element_table.specs.declared.part.Part.TheVariants.{Source, Stub}
use Rattle.element_table.specs.TypeCounts.{unit_types}
use Rattle.element_table.specs.UnitNames.{unit_name}

-- units by name, the names in the order of their bytes
abbrev pub Units : Type 0
Units = FinMap (slice_cmp nat_cmp) UnitText

pub record TypeTable : Type 0 where
  pub source : Units
  pub stub : Units

abbrev pub table_of : Units → Units → TypeTable
table_of source stub = record { source = source; stub = stub }

abbrev pub empty_table : TypeTable
empty_table = table_of fin.empty fin.empty

abbrev pub units_in : Part → TypeTable → Units
units_in Source table = table.source
units_in Stub table = table.stub

-- ---- looking up

-- the unit of this name, in whichever part it is
abbrev pub unit_of : TypeTable → List ℕ → Option UnitText
unit_of table name = option_or (fin.get table.source name) (fin.get table.stub name)

-- the part in which this name is
abbrev pub part_of : TypeTable → List ℕ → Option Part
part_of table name =
    if fin.contains_key table.source name then Some Source
    else if fin.contains_key table.stub name then Some Stub
    else None

abbrev pub has_unit : TypeTable → List ℕ → Bool
has_unit table name = fin.contains_key table.source name || fin.contains_key table.stub name

-- ---- counting types

abbrev pub types_in : Units → ℕ
types_in units = sum_by unit_types (fin.values units)

-- of both parts
unfoldable pub table_types : TypeTable → ℕ
table_types table = types_in table.source + types_in table.stub

-- how many types a table has at most
abbrev pub most_types : ℕ
most_types = 50000

-- this many types, unless they are too many
abbrev pub up_to_most : ℕ → Option ℕ
up_to_most types = if nat_le types most_types then Some types else None

-- ---- entering

-- the table with a unit more in this part
abbrev pub entered : Part → UnitText → TypeTable → TypeTable
entered Source unit table = table_of (fin.insert table.source (unit_name unit) unit) table.stub
entered Stub unit table = table_of table.source (fin.insert table.stub (unit_name unit) unit)

-- by the number of types with those of the unit, unless they are too many
abbrev pub counted_answer : Option ℕ → Answer
counted_answer None = IsTooMany
counted_answer (Some types) = IsNew types

-- whether a unit may be entered: its name is in neither part, which is tested first, and the types are not too many with its own
unfoldable pub answer_to : TypeTable → UnitText → Answer
answer_to table unit =
    if has_unit table (unit_name unit) then IsDuplicate
    else counted_answer (up_to_most (table_types table + unit_types unit))

-- what stands against a unit
pub data Against : Type 0 where
  -- its name is in the table
  IsThere : Against
  -- with its types the table would have too many
  IsFull : Against

abbrev pub outcome_by : Answer → Part → UnitText → TypeTable → Result TypeTable Against
outcome_by (IsNew types) part unit table = Ok (entered part unit table)
outcome_by IsDuplicate part unit table = Err IsThere
outcome_by IsTooMany part unit table = Err IsFull

-- what entering a unit comes to: the new table, or what stands against it
abbrev pub outcome_of : Part → UnitText → TypeTable → Result TypeTable Against
outcome_of part unit table = outcome_by (answer_to table unit) part unit table

-- entering a unit gave the answer that is due. Out of memory may come in place of it
abbrev pub Answers : Answer → Result Unit EnterFault → Type 0
Answers answer (Ok done) = (types : ℕ) × (answer ≡ IsNew types)
Answers answer (Err (Duplicate unit)) = answer ≡ IsDuplicate
Answers answer (Err (TooMany unit)) = answer ≡ IsTooMany
Answers answer (Err (Memory unit)) = Unit {0}

-- the unit that comes back
abbrev pub unit_back : EnterFault → UnitText
unit_back (Duplicate unit) = unit
unit_back (TooMany unit) = unit
unit_back (Memory unit) = unit

-- ---- what holds of each table

-- each unit stands under its own name
abbrev pub IsNamed : Units → Type 0
IsNamed units = (name : List ℕ) → IfSome (fin.get units name) (λ unit. unit_name unit ≡ name)

-- no name is in both parts, each unit stands under its own name, and the types are not too many
pub record IsTable (table : TypeTable) : Type 0 where
  pub apart : (name : List ℕ) → IsTrue (fin.contains_key table.source name) → fin.contains_key table.stub name ≡ false
  pub sources_named : IsNamed table.source
  pub stubs_named : IsNamed table.stub
  pub few : table_types table ≤ most_types

-- a table of this many types
abbrev pub IsTableOf : ℕ → TypeTable → Type 0
IsTableOf types table = IsTable table × (types ≡ table_types table)
