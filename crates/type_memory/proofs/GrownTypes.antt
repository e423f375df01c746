-- Types that a search numbers stand behind those that there were.
use Rattle.std.proofs.Common.{◌≡◌, ℕ, zero, suc, ◌<◌, ◌≤◌, List, [], ◌∷◌, length, Option, refl, sym, ap, subst, ◌∙◌, arith}
use Rattle.type_levels.specs.Numbered as numbered
use Rattle.type_levels.specs.Steps as steps
use Rattle.type_levels.specs.declared.question.Next.{Next}
use Rattle.type_levels.specs.declared.question.Pair.{Pair}
use Rattle.element_table.specs.TypeTable.{TypeTable}
use Rattle.type_memory.specs.Known.{Known, Grows, searched}
use Rattle.type_mirror.specs.declared.mirror.Mirror.{Mirror}
use Rattle.type_numbers.specs.Numbers as numbers
use Rattle.type_numbers.specs.Numbers.{at, no_type}
use Rattle.type_numbers.proofs.NumberLaws.{grows-itself}
use Rattle.type_subtypes.specs.Numbers.{TypesDecide, with_subtypes}

pub grows-same : (known : Known) → Grows known known
grows-same known = record { table = refl; types = grows-itself known.types }

-- a longer list with the same items at the places of a list begins with it
begins : (old new : List Mirror) → length old ≤ length new → ((i : ℕ) → i < length old → at new i ≡ at old i) → numbers.Grows old new
begins [] new more same = record { more = new; types = refl }
begins (x ∷ old) [] more same = absurd (omega (arith, more))
begins (x ∷ old) (y ∷ new) more same =
    let rest = begins old new (omega (arith, more)) (λ i h. same (suc i) (omega (arith, h))) in
    let first : y ≡ x = same zero (omega arith) in
    record { more = rest.more; types = ap (λ (m : Mirror). m ∷ new) first ∙ ap (λ (ms : List Mirror). x ∷ ms) rest.types }

-- what a search leaves
pub grows-searched : (old new : Known) → numbered.Grows (searched old) (searched new) → numbers.Grows old.types new.types
grows-searched old new g = begins old.types new.types g.more g.stands

-- what two types decide, over the table and the types that are lent
pub decided-over : (table table' : TypeTable) (types types' : List Mirror) (pair : Pair) (next : Option Next) → table ≡ table' → types ≡ types' → TypesDecide table types pair next
    → TypesDecide table' types' pair next
decided-over table table' types types' pair next e e' s =
    subst (λ (t : TypeTable). TypesDecide t types' pair next) e (subst (λ (ts : List Mirror). TypesDecide table ts pair next) e' s)

-- what is asked next, over the same table after more types
pub stands-over : (old new : Known) (next : Next) (asked : steps.Next Mirror) → new.table ≡ old.table → numbered.Stands (with_subtypes old.table new.types) next asked
    → numbered.Stands (searched new) next asked
stands-over old new next asked same s = subst (λ (t : TypeTable). numbered.Stands (with_subtypes t new.types) next asked) (sym same) s
