use Rattle.apt_base.specs.Limits.{max_type_steps}
use Rattle.type_subtypes.proofs.SignatureLaws.{erased-next, erased-all}
use Rattle.type_subtypes.proofs.signatures.same_erased.Goals as goal

pub loop-at-preserved : goal.loop-at-preserved
loop-at-preserved c = record {
  as_many = c.loop-at.invariant.as_many;
  left_decide =
      erased-next c.args.table.now max_type_steps c.args.ones.now c.args.others.now c.loop-at.at _ _ c.in_ok-one.one c.loop-at.all c.and-all.result c.loop-at-test.true c.loop-at.invariant.as_many
      c.index-ones-at.is c.index-others-at.is c.in_ok-one.ensures c.and-all.ensures c.loop-at.invariant.left_decide;
}

pub returns : goal.returns
returns c =
    erased-all c.args.table.now max_type_steps c.args.ones.now c.args.others.now c.loop-at.at c.loop-at.all c.loop-at-test.false c.loop-at.invariant.as_many c.loop-at.invariant.left_decide
