use Rattle.type_steps.proofs.LayersOfNumbers.{may-same}
use Rattle.type_steps.proofs.SupertypesByLayers.{array-primitive}
use Rattle.type_steps.proofs.supertypes.of_array.Goals as goal

pub returns-then-primitive-clause-stands : goal.returns-then-primitive-clause-stands
returns-then-primitive-clause-stands c =
    may-same c.of_all_arrays.result c.of_all_arrays.new.types _ _ (array-primitive c.args.table.now _ c.args.primitive c.if-primitive.true) c.of_all_arrays.ensures.stands
