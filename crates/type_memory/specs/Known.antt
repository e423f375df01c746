-- The types of one table by numbers, which are only added.
use Rattle.std.specs.Prelude.{◌≡◌, ℕ, List, refl}
use Rattle.std.specs.Coded.{Coded, code_by, coded×, coded_list}
use Rattle.element_table.specs.Held.{table_code}
use Rattle.element_table.specs.TypeTable.{TypeTable}
use Rattle.type_levels.specs.Numbered.{Numbered}
use Rattle.type_levels.specs.declared.question.Pair.{Pair}
use Rattle.type_mirror.specs.contracts.mirror.Mirror as mirror
use Rattle.type_mirror.specs.declared.mirror.Mirror.{Mirror}
use Rattle.type_numbers.specs.Numbers as numbers
use Rattle.type_subtypes.specs.Numbers.{with_subtypes}

pub record Known : Type 0 where
  pub table : TypeTable
  -- the mirrors in the order of their numbers
  pub types : List Mirror

abbrev pub known_code : Coded Known
known_code =
    code_by (TypeTable × List Mirror) (coded× table_code (coded_list mirror.the_row.coded))
    (λ k. (k.table, k.types)) (λ p. record { table = p.0; types = p.1 }) (λ _. refl)

abbrev pub known_of : TypeTable → List Mirror → Known
known_of table types = record { table = table; types = types }

-- the type with a number
abbrev pub type_at : Known → ℕ → Mirror
type_at known number = numbers.at known.types number

-- a number is that of a type
abbrev pub IsKnown : Known → ℕ → Type 0
IsKnown known number = numbers.IsKnown known.types number

-- both types of a question have numbers
abbrev pub AreBothKnown : Known → Pair → Type 0
AreBothKnown known pair = IsKnown known pair.sub × IsKnown known pair.sup

-- types were added behind the others, and the table is the same
pub record Grows (old new : Known) : Type 0 where
  pub table : new.table ≡ old.table
  pub types : numbers.Grows old.types new.types

-- as a search of subtypes sees them
abbrev pub searched : Known → Numbered Mirror
searched known = with_subtypes known.table known.types
