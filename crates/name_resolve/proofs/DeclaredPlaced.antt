-- What a type of the table declares is of the table.
use Rattle.std.proofs.Common.{◌≡◌, ℕ, List, ◌∷◌, drop, Option, Some, None, ap, sym, ◌∙◌}
use Rattle.decl_tree.specs.declared.compilation.UnitText.{UnitText}
use Rattle.element_table.specs.declared.part.Part.{Part}
use Rattle.element_table.specs.TypeTable.{TypeTable, IsTable, unit_of}
use Rattle.element_table.specs.UnitNames.{unit_name}
use Rattle.name_resolve.specs.Finds.{Find, Finds, Nothing, One, Several, declared_types}
use Rattle.name_resolve.specs.Meaning.{members_of, tops_of}
use Rattle.name_resolve.specs.Placed.{or_bare, IsPlacedUnit, IsPlaced, ArePlaced}
use Rattle.name_resolve.proofs.Agreement as agreement

module _ (table : TypeTable) where
  abbrev Good : Part → UnitText → Type 0
  Good part unit = IsPlacedUnit table unit

  placed_finds : IsTable table → (finds : Finds) → agreement.AreGood (tops_of table) (tops_of table) Good finds → ArePlaced table finds
  placed_finds is Nothing good = tt
  placed_finds is (One f) good = record { is_table = is; unit = good }
  placed_finds is Several good = tt

  pub declared-placed : (finds : Finds) → ArePlaced table finds → (name : List ℕ) → ArePlaced table (members_of declared_types finds name)
  declared-placed Nothing placed name = tt
  declared-placed (One f) placed name = placed_finds placed.is_table (declared_types f name) (agreement.declared-same (tops_of table) (tops_of table) Good f placed.unit name).good
  declared-placed Several placed name = tt

  -- the unit of the table is that of the find
  pub placed-unit : (f : Find) (unit : UnitText) → IsPlaced table f → unit_of table (unit_name f.unit) ≡ Some unit → unit_of table (unit_name f.unit) ≡ Some f.unit
  placed-unit f unit placed found = found ∙ ap Some (sym (ap (λ o. or_bare o f.unit.«package») found) ∙ placed.unit)
