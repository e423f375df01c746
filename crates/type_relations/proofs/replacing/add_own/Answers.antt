use Rattle.type_relations.proofs.EntriesOfTypes.{own-step, own-keys, own-values}
use Rattle.type_relations.proofs.replacing.add_own.Goals as goal

pub returns-then-at-arguments-clause-value : goal.returns-then-at-arguments-clause-value
returns-then-at-arguments-clause-value c =
    own-values c.args.by.now c.loop-at.by c.args.parameters.now c.args.arguments.now c.loop-at.at c.loop-at.invariant.0 c.if-at-arguments.true

pub loop-at-preserved : goal.loop-at-preserved
loop-at-preserved c = (
  own-step c.args.by.now c.loop-at.by c.add_entry.new.by c.args.parameters.now c.args.arguments.now c.loop-at.at _ _ _ _ c.loop-at-test.true c.if-at-arguments.false
      c.loop-at.invariant.0 c.index-parameters-at.is c.index-arguments-at.is c.in_ok-add_entry.ensures.value,
  c.in_ok-add_entry.ensures.distinct,
)

pub returns-clause-value : goal.returns-clause-value
returns-clause-value c = own-keys c.args.by.now c.loop-at.by c.args.parameters.now c.args.arguments.now c.loop-at.at c.loop-at.invariant.0 c.loop-at-test.false
