use Rattle.std.proofs.Common.{arith}
use Rattle.decl_elements.specs.Shown.{node_of}
use Rattle.type_relations.proofs.PlacesOfElements.{parameters-none, few_parameters}
use Rattle.type_relations.proofs.places.parameter_count.Goals as goal

pub overflow_cast-result : goal.overflow_cast-result
overflow_cast-result c = omega (arith, c.declared_parameters.ensures, few_parameters (node_of c.in-Some.place), c.in-Some.ensures.few)

pub returns-in-None : goal.returns-in-None
returns-in-None c = parameters-none c.args.table.now c.args.at.now c.in-None.ensures.value
