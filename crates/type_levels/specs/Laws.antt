-- Laws of relations of types within a number of steps.
use Rattle.std.specs.Prelude.{◌≡◌, ℕ, ◌+◌, Bool}
use Rattle.type_levels.specs.Answers.{Settles}
use Rattle.type_levels.specs.Steps as steps
use Rattle.type_levels.specs.Steps.{sub_within}
use Rattle.type_levels.specs.Containment.{contains_by, Argument, Unbounded, Extends, Super, Exact}
use Rattle.type_levels.specs.Numbered.{Numbered, question_at}
use Rattle.type_levels.specs.Shown.{question_of}
use Rattle.type_levels.specs.declared.question.Question.{Question}

-- a yes and a no stay with more steps
abbrev pub MoreStepsSettle : Type 0 → Type 0
MoreStepsSettle M = (next : M → M → steps.Next M) (k n : ℕ) (a b : M) → Settles (sub_within next n a b) (sub_within next (k + n) a b)

-- an argument with a type in the place of each number
abbrev pub map_argument : {A B : Type 0} → (A → B) → Argument A → Argument B
map_argument f Unbounded = Unbounded
map_argument f (Extends bound) = Extends (f bound)
map_argument f (Super bound) = Super (f bound)
map_argument f Exact = Exact

-- the question that is asked by numbers stands for the one of the types
abbrev pub ContainsByNumbers : Type 0 → Type 0
ContainsByNumbers M = (types : Numbered M) (question : Question) (same : Bool) (argument : Argument ℕ) (number : ℕ) (other : Argument ℕ)
    → question_of question ≡ contains_by same argument number other
    → question_at types question ≡ contains_by same (map_argument types.at argument) (types.at number) (map_argument types.at other)
