use Rattle.type_overriding.proofs.NodeSignatures.{copy-known, copies-signature}
use Rattle.type_overriding.proofs.signatures.subsignature_at.Goals as goal

pub of_nodes-requires-clause-one : goal.of_nodes-requires-clause-one
of_nodes-requires-clause-one c =
    copy-known c.args.types.now c.args.one c.node.result.now c.in_ok-first.first c.requires.0 c.node.ensures.below c.in_ok-first.ensures

pub of_nodes-requires-clause-other : goal.of_nodes-requires-clause-other
of_nodes-requires-clause-other c =
    copy-known c.args.types.now c.args.other c.node-2.result.now c.in_ok-second.second c.requires.1 c.node-2.ensures.below c.in_ok-second.ensures

pub returns-clause-answer : goal.returns-clause-answer
returns-clause-answer c =
    copies-signature c.args.table.now c.args.types.now c.args.one c.args.other c.node.result.now c.in_ok-first.first c.node-2.result.now c.in_ok-second.second c.in_ok-answer.answer
    c.node.ensures.exact c.in_ok-first.ensures c.node-2.ensures.exact c.in_ok-second.ensures c.in_ok-answer.ensures.answer
