-- What is asked by the numbers of two types that were added one after the other is what is asked of the types.
use Rattle.std.proofs.Common.{◌≡◌, ℕ, ap, ap₂, ◌∙◌}
use Rattle.apt_base.specs.Limits.{max_type_steps}
use Rattle.element_table.specs.TypeTable.{TypeTable}
use Rattle.type_levels.specs.declared.answer.Answer.{Answer}
use Rattle.type_memory.specs.Known.{Known, Grows, IsKnown, type_at}
use Rattle.type_memory.specs.Remembered.{contained_by_numbers, subtype_by_numbers}
use Rattle.type_mirror.specs.declared.mirror.Mirror.{Mirror}
use Rattle.type_numbers.specs.Numbers.{Stands}
use Rattle.type_numbers.proofs.NumberLaws.{grown-stands}
use Rattle.type_subtypes.specs.Subtypes.{contained, subtype}

pub stands-known : (known : Known) (number : ℕ) (m : Mirror) → Stands known.types number m → IsKnown known number
stands-known known number m stands = stands.known

pub stays-known : (old new : Known) (number : ℕ) (m : Mirror) → Stands old.types number m → Grows old new → IsKnown new number
stays-known old new number m stands grows = (grown-stands old.types new.types number m grows.types stands).known

module _ (table : TypeTable) (first second third : Known) (one other : ℕ) (a b : Mirror) (over : first.table ≡ table) where
  module _ (grows : Grows first second) (stands : Stands second.types one a) (grows' : Grows second third) (stands' : Stands third.types other b) where
    same_table : third.table ≡ table
    same_table = grows'.table ∙ (grows.table ∙ over)

    same_type : type_at third one ≡ a
    same_type = (grown-stands second.types third.types one a grows'.types stands).type

    asked : (ask : TypeTable → Mirror → Mirror → Answer) → ask third.table (type_at third one) (type_at third other) ≡ ask table a b
    asked ask =
        ap₂ (λ (m n : Mirror). ask third.table m n) same_type stands'.type ∙ ap (λ (t : TypeTable). ask t a b) same_table

    pub subtype-asked : subtype_by_numbers third one other ≡ subtype table max_type_steps a b
    subtype-asked = asked (λ (t : TypeTable) (m n : Mirror). subtype t max_type_steps m n)

    pub contained-asked : contained_by_numbers third one other ≡ contained table max_type_steps a b
    contained-asked = asked (λ (t : TypeTable) (m n : Mirror). contained t max_type_steps m n)

pub ruleset asking = (stands-known, stays-known, subtype-asked, contained-asked)
