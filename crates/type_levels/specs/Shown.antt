-- Questions and type arguments in memory as values over the numbers of types.
use Rattle.std.specs.Prelude.{ℕ}
use Rattle.type_levels.specs.Steps as steps
use Rattle.type_levels.specs.Containment as contained
use Rattle.type_levels.specs.declared.question.Question.{Question}
use Rattle.type_levels.specs.declared.question.Question.TheVariants.{Settled, Asks}
use Rattle.type_levels.specs.declared.containment.Argument.{Argument}
use Rattle.type_levels.specs.declared.containment.Argument.TheVariants.{Unbounded, Extends, Super, Exact}

abbrev pub question_of : Question → steps.Question ℕ
question_of (Settled answer) = steps.Settled answer
question_of (Asks pair) = steps.Asks pair.sub pair.sup

abbrev pub argument_of : Argument → contained.Argument ℕ
argument_of Unbounded = contained.Unbounded
argument_of (Extends bound) = contained.Extends bound
argument_of (Super bound) = contained.Super bound
argument_of Exact = contained.Exact
