-- What is of a table: its units, and a bare unit for each package that has none there.
use Rattle.std.specs.Prelude.{◌≡◌, ℕ, List, [], Option, None, Some}
use Rattle.decl_tree.specs.declared.compilation.Body.TheVariants.{Info}
use Rattle.decl_tree.specs.declared.compilation.UnitText.{UnitText}
use Rattle.element_table.specs.TypeTable.{TypeTable, IsTable, unit_of}
use Rattle.element_table.specs.UnitNames.{unit_name}
use Rattle.name_resolve.specs.Finds.{Find, Finds, Nothing, One, Several}

-- the unit of a package that has none: it imports nothing, and no annotation stands there
abbrev pub bare_unit : List ℕ → UnitText
bare_unit «package» = record { «package» = «package»; imports = []; siblings = []; body = Info [] None }

-- the unit that was found, or a bare one
abbrev pub or_bare : Option UnitText → List ℕ → UnitText
or_bare None «package» = bare_unit «package»
or_bare (Some unit) «package» = unit

-- it stands under its name, so that it is determined by its package and its simple name
abbrev pub IsPlacedUnit : TypeTable → UnitText → Type 0
IsPlacedUnit table unit = or_bare (unit_of table (unit_name unit)) unit.«package» ≡ unit

-- what stands in such a unit of a table
pub record IsPlaced (table : TypeTable) (f : Find) : Type 0 where
  pub is_table : IsTable table
  pub unit : IsPlacedUnit table f.unit

abbrev pub ArePlaced : TypeTable → Finds → Type 0
ArePlaced table Nothing = Unit {0}
ArePlaced table (One f) = IsPlaced table f
ArePlaced table Several = Unit {0}
