-- What is remembered of the types of one table: the direct supertypes of some, and which are subtypes of others.
use Rattle.std.specs.Prelude.{◌≡◌, ℕ, ◌+◌, ◌*◌, ◌&&◌, List, Option, Some, None, nat_lt, if◌then◌else◌}
use Rattle.std.specs.BTreeMap.{BTreeMap}
use Rattle.apt_base.specs.Limits.{max_type_steps}
use Rattle.element_table.specs.TypeTable.{TypeTable}
use Rattle.type_levels.specs.declared.answer.Answer.{Answer}
use Rattle.type_levels.specs.declared.question.Pair.{Pair}
use Rattle.type_memory.specs.Known.{Known, IsKnown, AreBothKnown, known_of, type_at}
use Rattle.type_numbers.specs.Remembered.{EachHas}
use Rattle.type_relations.specs.Direct.{direct}
use Rattle.type_steps.specs.Supertypes.{AllMayStand}
use Rattle.type_subtypes.specs.Subtypes.{contained, next_of, subtype}

-- ---- direct supertypes

-- these numbers are now those of the direct supertypes of the type that had a number; there are none exactly where these are open
abbrev pub AreDirect : Known → Known → ℕ → Option (List ℕ) → Type 0
AreDirect old new number supertypes = AllMayStand new.types supertypes (direct old.table (type_at old number))

-- what stands at a number are the direct supertypes of its type
abbrev pub AreSupertypes : Known → BTreeMap ℕ (Option (List ℕ)) → Type 0
AreSupertypes known held = EachHas (λ number supertypes. IsKnown known number × AreDirect known known number supertypes) held

-- ---- answers

-- whether the type with the first number is a subtype of the one with the second number
abbrev pub subtype_by_numbers : Known → ℕ → ℕ → Answer
subtype_by_numbers known one other = subtype known.table max_type_steps (type_at known one) (type_at known other)

-- whether the argument with the first number contains the one with the second number
abbrev pub contained_by_numbers : Known → ℕ → ℕ → Answer
contained_by_numbers known one other = contained known.table max_type_steps (type_at known one) (type_at known other)

-- the answer to a question
abbrev pub subtype_at : Known → Pair → Answer
subtype_at known pair = subtype_by_numbers known pair.sub pair.sup

-- the key of a question, which no other one has; none for a number that no type has
abbrev pub key_of : Pair → Option ℕ
key_of pair = if nat_lt pair.sub 1048576 && nat_lt pair.sup 1048576 then Some (pair.sub * 1048576 + pair.sup) else None

-- an answer is that to the question with a key
abbrev pub IsAnswer : Known → ℕ → Answer → Type 0
IsAnswer known key answer = (pair : Pair) → key_of pair ≡ Some key → AreBothKnown known pair × (answer ≡ subtype_at known pair)

-- the types are searched over the same table as the answers, as far as a search sees it, and what stands at a key is the answer
pub record AreRight (table : TypeTable) (known : Known) (held : BTreeMap ℕ Answer) : Type 0 where
  pub same : next_of known.table ≡ next_of table
  pub answers : EachHas (IsAnswer (known_of table known.types)) held
