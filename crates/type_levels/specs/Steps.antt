-- A relation of types within a number of steps, by what a question about two of them asks next. A step goes to a direct supertype or into an argument (JLS 4.10, 4.5.1).
use Rattle.std.specs.Prelude.{ℕ, zero, suc, List, [], ◌∷◌}
use Rattle.type_levels.specs.Answers.{Answer, Open, No, any, all}

-- a question about two types: settled, or whether the first one is below the second
pub data Question (M : Type 0) : Type 0 where
  Settled : (answer : Answer) → Question M
  Asks : (sub super : M) → Question M

-- what a question asks next, before any step is counted
pub data Next (M : Type 0) : Type 0 where
  Decided : (answer : Answer) → Next M
  -- each of these must hold
  Arguments : (questions : List (Question M)) → Next M
  -- one of these must be below the second type
  Supertypes : (types : List M) → Next M

abbrev pub answer_of : {M : Type 0} → (M → M → Answer) → Question M → Answer
answer_of below (Settled answer) = answer
answer_of below (Asks a b) = below a b

-- with one step, by the answers to what is asked next; `b` is the second type
abbrev pub with_step : {M : Type 0} → (M → M → Answer) → M → Next M → Answer
with_step below b (Decided answer) = answer
with_step below b (Arguments questions) = all (answer_of below) questions
with_step below b (Supertypes types) = any (λ s. below s b) types

-- with no step: open where something is left to ask
abbrev pub without_step : {M : Type 0} → Next M → Answer
without_step (Decided answer) = answer
without_step (Arguments questions) = Open
without_step (Supertypes []) = No
without_step (Supertypes (s ∷ types)) = Open

-- whether `a` is below `b` within this many steps
unfoldable pub sub_within : {M : Type 0} → (M → M → Next M) → ℕ → M → M → Answer
sub_within next zero a b = without_step (next a b)
sub_within next (suc n) a b = with_step (sub_within next n) b (next a b)
