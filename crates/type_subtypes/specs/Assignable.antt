-- Assignable types (JLS 5.2) within a number of steps: a subtype, also after boxing or unboxing, or a raw type where one with arguments is wanted.
use Rattle.std.specs.Prelude.{ℕ, ◌&&◌, Option, None, Some}
use Rattle.element_table.specs.TypeTable.{TypeTable}
use Rattle.type_mirror.specs.declared.mirror.Mirror.{Mirror}
use Rattle.type_layers.specs.Same.{same}
use Rattle.type_levels.specs.Answers.{either}
use Rattle.type_levels.specs.Steps.{Next, sub_within}
use Rattle.type_levels.specs.declared.answer.Answer.{Answer}
use Rattle.type_levels.specs.declared.answer.Answer.TheVariants.{Open, No}
use Rattle.type_relations.specs.Boxed.{boxed, unboxed}
use Rattle.type_relations.specs.Direct.{direct}
use Rattle.type_relations.specs.Erasure.{erasure}
use Rattle.type_relations.specs.RawTypes.{is_raw}
use Rattle.type_subtypes.specs.Subtypes.{yes_if, or_supertypes, subtype}

-- whether `a` reaches the raw type `b` by direct supertypes: what is asked next
unfoldable pub next_raw : TypeTable → Mirror → Mirror → Next Mirror
next_raw table a b = or_supertypes (yes_if (same a b && is_raw table a)) (direct table a)

-- within this many steps
abbrev pub reaches_raw : TypeTable → ℕ → Mirror → Mirror → Answer
reaches_raw table n = sub_within (next_raw table) n

-- open where the raw type is
unfoldable pub reaches_erased : TypeTable → ℕ → Mirror → Option Mirror → Answer
reaches_erased table n a None = Open
reaches_erased table n a (Some b) = reaches_raw table n a b

-- the erasure of `b` is reached as a raw type
abbrev pub reaches_as_raw : TypeTable → ℕ → Mirror → Mirror → Answer
reaches_as_raw table n a b = reaches_erased table n a (erasure table n b)

-- a subtype after a conversion, where there is one
unfoldable pub converted : TypeTable → ℕ → Option Mirror → Mirror → Answer
converted table n None b = No
converted table n (Some a) b = subtype table n a b

-- what is left to ask where `a` is no subtype
unfoldable pub otherwise : TypeTable → ℕ → Mirror → Mirror → Answer
otherwise table n a b =
    either (converted table n (boxed table a) b)
    (either (converted table n (unboxed table a) b)
    (reaches_erased table n a (erasure table n b)))

-- whether `a` is assignable to `b`
unfoldable pub assignable : TypeTable → ℕ → Mirror → Mirror → Answer
assignable table n a b = either (subtype table n a b) (otherwise table n a b)
