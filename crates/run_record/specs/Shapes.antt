-- The units of a record, each by its name and its shape; and its rounds.
-- A table keeps each unit that has entered it, as it is. So the units of every round of a run have in the table of its last round the shapes that they had.
use Rattle.std.specs.Prelude.{◌≡◌, ℕ, ◌+◌, ◌<◌, List, [], ◌∷◌, length, map, Option, Some, None}
use Rattle.std.specs.Option.{option_map_or}
use Rattle.std.specs.FinMap as fin
use Rattle.decl_syntax.specs.Shape.{unit_form}
use Rattle.element_table.specs.TypeTable.{TypeTable, unit_of}
use Rattle.record_forms.specs.declared.record.OldRound.{OldRound}
use Rattle.round_engine.specs.declared.rounds.PastRound.{PastRound}

-- ---- units

-- the shape of the unit of this name, which is the one spelling of its declarations; nothing where the table has none
abbrev pub shape_at : TypeTable → List ℕ → List ℕ
shape_at table name = option_map_or unit_form (unit_of table name) []

-- a unit by its name and its shape
abbrev pub shaped : TypeTable → List ℕ → List ℕ × List ℕ
shaped table name = (name, shape_at table name)

-- these units so
abbrev pub all_shaped : TypeTable → List (List ℕ) → List (List ℕ × List ℕ)
all_shaped table names = map (shaped table) names

-- the units of the sources of a table so, ascending by name
abbrev pub sources_shaped : TypeTable → List (List ℕ × List ℕ)
sources_shaped table = all_shaped table (fin.keys table.source)

-- ---- rounds

-- the first round: no unit entered before it, and its roots are the initial units
abbrev pub initial_round : PastRound → OldRound
initial_round past = record { roots = past.roots; entered = []; present = past.present }

-- a later one: its roots are just the units that entered before it, and the last has none
abbrev pub later_round : TypeTable → PastRound → OldRound
later_round table past = record { roots = past.roots; entered = all_shaped table past.roots; present = past.present }

-- the rounds of a run, where this is the table of the last
abbrev pub rounds_of : TypeTable → List PastRound → List OldRound
rounds_of table [] = []
rounds_of table (first ∷ later) = initial_round first ∷ map (later_round table) later

-- ---- bytes

-- how many bytes the shapes of these units have
abbrev pub shapes_length : TypeTable → List (List ℕ) → ℕ
shapes_length table [] = 0
shapes_length table (name ∷ names) = length (shape_at table name) + shapes_length table names

-- those of the units that are the roots of these rounds
abbrev pub roots_length : TypeTable → List PastRound → ℕ
roots_length table [] = 0
roots_length table (past ∷ others) = shapes_length table past.roots + roots_length table others

-- those of the units that entered
abbrev pub entered_length : TypeTable → List PastRound → ℕ
entered_length table [] = 0
entered_length table (first ∷ later) = roots_length table later

-- what is left of a number once another is taken from it; none where that one is greater
abbrev pub IsLeft : ℕ → ℕ → Option ℕ → Type 0
IsLeft most taken None = most < taken
IsLeft most taken (Some left) = left + taken ≡ most
