use Rattle.type_layers.specs.Layers.{parts_of}
use Rattle.type_numbers.specs.Nodes.{layer_of}
use Rattle.type_subtypes.specs.Numbers.{sub_at, sup_at}
use Rattle.type_subtypes.specs.Subtypes.{next_of}
use Rattle.type_subtypes.proofs.ArgumentsByNumbers.{parts-known}
use Rattle.type_subtypes.proofs.DecidedNodes.{decided-same, decided-nodes}
use Rattle.type_subtypes.proofs.relation.Subtypes.decided.Goals as goal

pub returns-then-is_same : goal.returns-then-is_same
returns-then-is_same c =
    decided-same (next_of c.args.self.now) c.args.types.now (sub_at c.args.types.now c.args.pair) (sup_at c.args.types.now c.args.pair) c.is_same.result c.is_same.ensures c.if-is_same.true

pub by_nodes-requires-clause-one : goal.by_nodes-requires-clause-one
by_nodes-requires-clause-one c =
    parts-known (next_of c.args.self.now) c.args.types.now c.args.pair.sub (parts_of (layer_of c.node.result.now)) c.requires.0 c.node.ensures.below

pub by_nodes-requires-clause-other : goal.by_nodes-requires-clause-other
by_nodes-requires-clause-other c =
    parts-known (next_of c.args.self.now) c.args.types.now c.args.pair.sup (parts_of (layer_of c.node-2.result.now)) c.requires.1 c.node-2.ensures.below

pub returns : goal.returns
returns c =
    decided-nodes (next_of c.args.self.now) c.args.types.now (sub_at c.args.types.now c.args.pair) (sup_at c.args.types.now c.args.pair) c.is_same.result c.node.result.now c.node-2.result.now
    c.in_ok-next.next c.is_same.ensures c.if-is_same.false c.node.ensures.exact c.node-2.ensures.exact c.in_ok-next.ensures
