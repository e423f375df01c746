-- Types that are known, and a search of them by their elements.
use Rattle.std.proofs.Common.{◌≡◌, ℕ, List, ap, ap₂, ◌∙◌}
use Rattle.apt_base.specs.declared.element.ElementRef.{ElementRef}
use Rattle.apt_base.specs.Limits.{max_type_steps}
use Rattle.element_table.specs.TypeTable.{TypeTable}
use Rattle.type_mirror.specs.declared.mirror.Mirror.{Mirror}
use Rattle.type_elements.specs.TypeOf.{type_of}
use Rattle.type_levels.specs.Numbered as numbered_types
use Rattle.type_levels.specs.Steps.{Next, sub_within}
use Rattle.type_levels.specs.declared.answer.Answer.{Answer}
use Rattle.type_memory.specs.Known.{Known, Grows}
use Rattle.type_numbers.specs.Numbers as numbers
use Rattle.type_numbers.specs.Numbers.{at, Stands}
use Rattle.type_subtypes.proofs.NumberedTypes as searching
use Rattle.type_overriding.specs.ByElements.{is_below, next_by_elements, searched}

-- the table that is searched asks as another one
abbrev pub AsksAs : Known → TypeTable → Type 0
AsksAs known table = next_by_elements known.table ≡ next_by_elements table

pub asks-later : (table : TypeTable) (old new : Known) → AsksAs old table → Grows old new → AsksAs new table
asks-later table old new e g = ap next_by_elements g.table ∙ e

pub asks-searched : (table : TypeTable) (old new : Known) → AsksAs old table → numbered_types.Grows (searched old) (searched new) → AsksAs new table
asks-searched table old new e g = g.same ∙ e

-- two types were numbered one after the other, and searched
pub below-searched : (table : TypeTable) (one other : ElementRef) (first second : Mirror) (k k' : Known) (i j : ℕ) (r : Answer) → AsksAs k' table
    → first ≡ type_of table one → second ≡ type_of table other → Stands k.types i first → Grows k k' → Stands k'.types j second
    → r ≡ sub_within (next_by_elements k'.table) max_type_steps (at k'.types i) (at k'.types j) → r ≡ is_below table max_type_steps one other
below-searched table one other first second k k' i j r e is is' stands g stands' answer =
    searching.searched (next_by_elements k'.table) k.types k'.types i j max_type_steps first second r stands g.types stands' answer
    ∙ ap (λ (asks : Mirror → Mirror → Next Mirror). sub_within asks max_type_steps first second) e
    ∙ ap₂ (sub_within (next_by_elements table) max_type_steps) is is'

pub ruleset known = (asks-later, asks-searched)
