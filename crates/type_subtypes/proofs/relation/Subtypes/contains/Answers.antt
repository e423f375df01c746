use Rattle.type_numbers.specs.Nodes.{layer_of}
use Rattle.type_levels.specs.Shown.{argument_of}
use Rattle.type_subtypes.specs.Subtypes.{next_of}
use Rattle.type_subtypes.proofs.ArgumentsByNumbers.{contains-exact, contains-known}
use Rattle.type_subtypes.proofs.relation.Subtypes.contains.Goals as goal

pub returns-clause-exact : goal.returns-clause-exact
returns-clause-exact c =
    contains-exact (next_of c.args.self.now) c.args.types.now c.args.one c.args.other (layer_of c.node.result.now) (layer_of c.node-2.result.now)
    (argument_of c.argument-outer.result) (argument_of c.argument-inner.result) c.is_same.result c.contains.result
    c.node.ensures.exact c.node-2.ensures.exact c.argument-outer.ensures c.argument-inner.ensures c.is_same.ensures c.contains.ensures

pub returns-clause-known : goal.returns-clause-known
returns-clause-known c =
    contains-known (next_of c.args.self.now) c.args.types.now c.args.one c.args.other (layer_of c.node.result.now) (layer_of c.node-2.result.now)
    (argument_of c.argument-outer.result) (argument_of c.argument-inner.result) c.is_same.result c.contains.result
    c.requires.0 c.requires.1 c.node.ensures.below c.node-2.ensures.below c.argument-outer.ensures c.argument-inner.ensures c.contains.ensures
