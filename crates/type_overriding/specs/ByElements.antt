-- Subtypes by their elements alone: two class types of one element are decided, whatever their arguments and enclosing types.
use Rattle.std.specs.Prelude.{ℕ, Bool, List, if◌then◌else◌}
use Rattle.apt_base.specs.declared.element.ElementRef.{ElementRef}
use Rattle.element_table.specs.TypeTable.{TypeTable}
use Rattle.type_mirror.specs.declared.mirror.Mirror.{Mirror}
use Rattle.type_levels.specs.declared.answer.Answer.{Answer}
use Rattle.type_levels.specs.declared.answer.Answer.TheVariants.{Yes}
use Rattle.type_levels.specs.Numbered.{Numbered}
use Rattle.type_levels.specs.Steps.{Next, Decided, sub_within}
use Rattle.type_levels.specs.declared.question.Pair.{Pair}
use Rattle.type_memory.specs.Known.{Known}
use Rattle.type_subtypes.specs.Numbers.{numbered, sub_at, sup_at}
use Rattle.type_subtypes.specs.Subtypes.{next_of}
use Rattle.type_elements.specs.TypeOf.{type_of}
use Rattle.type_elements.specs.MemberElements.{class_element, same_class}

-- all else is as it is for subtypes
unfoldable pub next_by_elements : TypeTable → Mirror → Mirror → Next Mirror
next_by_elements table a b =
    if same_class (class_element a) (class_element b) then Decided Yes else next_of table a b

-- the type of one element is below that of another one
abbrev pub is_below : TypeTable → ℕ → ElementRef → ElementRef → Answer
is_below table n one other = sub_within (next_by_elements table) n (type_of table one) (type_of table other)

-- ---- by numbers

-- two types are class types of one element
abbrev pub are_of_one : List Mirror → Pair → Bool
are_of_one types pair = same_class (class_element (sub_at types pair)) (class_element (sup_at types pair))

-- types that are known, as a search by their elements sees them
abbrev pub searched : Known → Numbered Mirror
searched known = numbered (next_by_elements known.table) known.types
