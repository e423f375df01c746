-- Types by their numbers. What a number stands for never changes: types are only added.
use Rattle.std.specs.Prelude.{◌≡◌, ℕ, ◌<◌, ◌≤◌, map}
use Rattle.std.specs.List.{AllByRecursion}
use Rattle.type_levels.specs.Steps as steps
use Rattle.type_levels.specs.declared.question.Pair.{Pair}
use Rattle.type_levels.specs.declared.question.Question.{Question}
use Rattle.type_levels.specs.declared.question.Question.TheVariants.{Settled, Asks}
use Rattle.type_levels.specs.declared.question.Next.{Next}
use Rattle.type_levels.specs.declared.question.Next.TheVariants.{Decided, Arguments, Supertypes}

-- the types that are numbered, and what a relation of types asks next
pub record Numbered (M : Type 0) : Type 0 where
  -- how many types are numbered, from 0 on
  pub count : ℕ
  -- the type with a number
  pub at : ℕ → M
  pub next : M → M → steps.Next M

module _ {M : Type 0} where
  abbrev pub IsKnown : Numbered M → ℕ → Type 0
  IsKnown types number = number < types.count

  -- both types of a question are numbered
  abbrev pub AreKnown : Numbered M → Pair → Type 0
  AreKnown types pair = IsKnown types pair.sub × IsKnown types pair.sup

  -- types were added, none has changed, and the relation is the same
  pub record Grows (old new : Numbered M) : Type 0 where
    pub more : old.count ≤ new.count
    pub stands : (number : ℕ) → IsKnown old number → new.at number ≡ old.at number
    pub same : new.next ≡ old.next

  -- ---- what is asked, by numbers

  abbrev pub question_at : Numbered M → Question → steps.Question M
  question_at types (Settled answer) = steps.Settled answer
  question_at types (Asks pair) = steps.Asks (types.at pair.sub) (types.at pair.sup)

  abbrev pub next_at : Numbered M → Next → steps.Next M
  next_at types (Decided answer) = steps.Decided answer
  next_at types (Arguments questions) = steps.Arguments (map (question_at types) questions.items)
  next_at types (Supertypes numbers) = steps.Supertypes (map types.at numbers.items)

  abbrev pub IsKnownQuestion : Numbered M → Question → Type 0
  IsKnownQuestion types (Settled answer) = Unit {0}
  IsKnownQuestion types (Asks pair) = AreKnown types pair

  abbrev pub IsKnownNext : Numbered M → Next → Type 0
  IsKnownNext types (Decided answer) = Unit {0}
  IsKnownNext types (Arguments questions) = AllByRecursion (IsKnownQuestion types) questions.items
  IsKnownNext types (Supertypes numbers) = AllByRecursion (IsKnown types) numbers.items

  -- what is asked next by numbers stands for this
  pub record Stands (types : Numbered M) (numbers : Next) (asked : steps.Next M) : Type 0 where
    pub known : IsKnownNext types numbers
    pub next : next_at types numbers ≡ asked

  -- what the question about two types asks next
  abbrev pub next_of : Numbered M → Pair → steps.Next M
  next_of types pair = types.next (types.at pair.sub) (types.at pair.sup)

  -- ---- what a call does that may number more types, `see` showing the types before it and after it

  abbrev pub Keeps : {T : Type 0} → (T → Numbered M) → T → T → Type 0
  Keeps see old new = Grows (see old) (see new)

  -- this is what the question asks next
  abbrev pub AsksNext : {T : Type 0} → (T → Numbered M) → T → T → Pair → Next → Type 0
  AsksNext see old new pair next = Stands (see new) next (next_of (see old) pair)
