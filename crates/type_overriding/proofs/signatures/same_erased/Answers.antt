use Rattle.type_overriding.proofs.SignaturesByNumbers.{place-known, within-both, erased-on, erased-done}
use Rattle.type_overriding.proofs.signatures.same_erased.Goals as goal

pub is_erased-requires : goal.is_erased-requires
is_erased-requires c =
    let so_far = c.loop-place.invariant in (
      place-known c.args.types.now c.loop-place.types c.args.ones.now c.loop-place.place c.requires.ones c.loop-place-test.true so_far.grows,
      place-known c.args.types.now c.loop-place.types c.args.others.now c.loop-place.place c.requires.others
          (within-both c.args.ones.now c.args.others.now c.loop-place.place c.loop-place-test.true so_far.as_many) so_far.grows,
    )

pub loop-place-preserved : goal.loop-place-preserved
loop-place-preserved c =
    erased-on c.args.table.now c.args.types.now c.loop-place.types c.is_erased.new.types c.args.ones.now c.args.others.now c.loop-place.place c.loop-place.all c.in_ok-one.one
    c.and-all.result c.requires.ones c.requires.others c.loop-place-test.true c.in_ok-one.ensures.erased c.and-all.ensures c.in_ok-one.ensures.grows c.loop-place.invariant

pub returns-clause-erased : goal.returns-clause-erased
returns-clause-erased c =
    erased-done c.args.table.now c.args.types.now c.loop-place.types c.args.ones.now c.args.others.now c.loop-place.place c.loop-place.all c.loop-place-test.false c.loop-place.invariant
