use Rattle.std.proofs.Common.{◌∙◌}
use Rattle.decl_elements.specs.Shown.{node_of}
use Rattle.type_relations.specs.Elements as elements
use Rattle.type_relations.proofs.PlacesOfElements.{name_by-none, name_by-some}
use Rattle.type_relations.proofs.places.parameter_name.Goals as goal

pub returns-in-Some : goal.returns-in-Some
returns-in-Some c = c.variable_name.ensures ∙ name_by-some c.args.table.now c.args.at.now elements.parameter_name (node_of c.in-Some.place) c.in-Some.ensures.value

pub returns-in-None : goal.returns-in-None
returns-in-None c = name_by-none c.args.table.now c.args.at.now elements.parameter_name c.in-None.ensures.value
