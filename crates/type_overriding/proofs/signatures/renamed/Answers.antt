use Rattle.type_overriding.proofs.RenamedNumbers.{renamed-none, renamed-next, renamed-all}
use Rattle.type_overriding.proofs.signatures.renamed.Goals as goal

pub loop-place-init : goal.loop-place-init
loop-place-init c = renamed-none c.args.types.now c.args.ones.now c.args.others.now c.new-by.result c.new-by.ensures

pub loop-place-preserved : goal.loop-place-preserved
loop-place-preserved c =
    renamed-next c.args.types.now c.loop-place.types c.intern.new.self c.args.ones.now c.args.others.now c.loop-place.place c.in_ok-number.number _ c.in_ok-one.one _
    c.in_ok-other.other c.loop-place.by c.push.new.self c.loop-place-test.true c.requires c.index-ones-place.is c.in_ok-one.ensures c.index-others-place.is c.in_ok-other.ensures
    c.in_ok-number.ensures.grows c.in_ok-number.ensures.stands c.in_ok-push.ensures.ok c.loop-place.invariant

pub returns-clause-value : goal.returns-clause-value
returns-clause-value c =
    renamed-all c.args.types.now c.loop-place.types c.args.ones.now c.args.others.now c.loop-place.place c.loop-place.by c.loop-place-test.false c.loop-place.invariant
