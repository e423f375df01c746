-- What stands against a question, by whether all that it names is there, and of the kinds that are wanted.
use Rattle.std.specs.Prelude.{Bool, true, false, Option, None, Some}
use Rattle.element_table.specs.TypeTable.{TypeTable}
use Rattle.wire_frames.specs.declared.question.Question.{Question}
use Rattle.child_questions.specs.declared.stops.Stop.{Stop}
use Rattle.child_questions.specs.declared.stops.Stop.TheVariants.{NoSuch, WrongKind}
use Rattle.child_questions.specs.NamedElements.{question_elements, are_all_there}
use Rattle.child_questions.specs.WantedKinds.{is_admitted}

-- an element that is not there counts first
abbrev pub stop_by : Bool → Bool → Option Stop
stop_by false admitted = Some NoSuch
stop_by true false = Some WrongKind
stop_by true true = None

unfoldable pub stop_of : TypeTable → Question → Option Stop
stop_of table q = stop_by (are_all_there table (question_elements q)) (is_admitted table q)
