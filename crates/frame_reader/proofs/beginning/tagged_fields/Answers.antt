use Rattle.std.proofs.Common.{List, Option, None, Some, Bor}
use Rattle.std.specs.Prelude.{option_map}
use Rattle.std.specs.Option.{option_or}
use Rattle.frame_forms.specs.QuestionTable.{question_at}
use Rattle.frame_reader.specs.declared.node.Node.{Node}
use Rattle.frame_reader.specs.Nodes.{chosen_by}
use Rattle.frame_reader.specs.Steps.{tag_choices, argument_nodes, AreChosen}
use Rattle.frame_reader.proofs.beginning.tagged_fields.Goals as goal

first_chosen : (fields : Bor (List Node)) (first other : Option (List Node)) → AreChosen (Some fields) first → AreChosen (Some fields) (option_or first other)
first_chosen fields None other is = absurd is
first_chosen fields (Some nodes) other is = is

next_chosen : (found : Option (Bor (List Node))) (first other : Option (List Node)) → AreChosen None first → AreChosen found other → AreChosen found (option_or first other)
next_chosen found None other none is = is
next_chosen found (Some nodes) other none is = absurd none

pub returns-in-Some : goal.returns-in-Some
returns-in-Some c = first_chosen c.in-Some.fields (chosen_by tag_choices c.args.tag) (option_map argument_nodes (question_at c.args.tag)) c.in-Some.ensures

pub returns-in-None : goal.returns-in-None
returns-in-None c = next_chosen c.question_fields.result (chosen_by tag_choices c.args.tag) (option_map argument_nodes (question_at c.args.tag)) c.in-None.ensures c.question_fields.ensures
