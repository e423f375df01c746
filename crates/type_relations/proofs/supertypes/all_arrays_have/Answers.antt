use Rattle.type_relations.proofs.DirectTypes.{three-are}
use Rattle.type_relations.proofs.supertypes.all_arrays_have.Goals as goal

pub returns : goal.returns
returns c = three-are c.three.result _ _ _ _ _ _ c.in_ok-object.ensures c.in_ok-cloneable.ensures c.in_ok-serializable.ensures c.three.ensures
