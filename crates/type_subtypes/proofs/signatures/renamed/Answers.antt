use Rattle.type_subtypes.proofs.RenamedVariables.{renamed-none, renamed-next, renamed-all}
use Rattle.type_subtypes.proofs.signatures.renamed.Goals as goal

pub loop-at-init : goal.loop-at-init
loop-at-init c = renamed-none c.args.ones.now c.args.others.now c.new-by.result c.new-by.ensures

pub loop-at-preserved : goal.loop-at-preserved
loop-at-preserved c =
    renamed-next c.args.ones.now c.args.others.now c.loop-at.at _ _ c.loop-at.by c.rename.new.by c.loop-at-test.true c.requires c.index-ones-at.is c.index-others-at.is
    c.in_ok-rename.ensures.value c.in_ok-rename.ensures.distinct c.loop-at.invariant

pub returns-clause-value : goal.returns-clause-value
returns-clause-value c = renamed-all c.args.ones.now c.args.others.now c.loop-at.at c.loop-at.by c.loop-at-test.false c.loop-at.invariant
