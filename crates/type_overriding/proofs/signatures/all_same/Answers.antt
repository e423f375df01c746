use Rattle.type_numbers.proofs.NumberLaws.{grows-on}
use Rattle.type_numbers.proofs.ReplacedSteps.{grown-known_in}
use Rattle.type_overriding.proofs.SignaturesByNumbers.{place-known, within-both, same-broken, same-next, same-all}
use Rattle.type_overriding.proofs.signatures.all_same.Goals as goal

pub substitute-requires-clause-known : goal.substitute-requires-clause-known
substitute-requires-clause-known c =
    let so_far = c.loop-place.invariant in
    place-known c.args.types.now c.loop-place.types c.args.others.now c.loop-place.place c.requires.others (within-both c.args.ones.now c.args.others.now c.loop-place.place c.loop-place-test.true so_far.as_many) so_far.grows

pub substitute-requires-clause-by : goal.substitute-requires-clause-by
substitute-requires-clause-by c = grown-known_in c.args.types.now c.loop-place.types c.args.by.now c.loop-place.invariant.grows c.requires.by

pub is_same-requires : goal.is_same-requires
is_same-requires c = (
  place-known c.args.types.now c.substitute.new.types c.args.ones.now c.loop-place.place c.requires.ones c.loop-place-test.true
      (grows-on c.args.types.now c.loop-place.types c.substitute.new.types c.loop-place.invariant.grows c.in_ok-other.ensures.grows),
  c.in_ok-other.ensures.stands.known,
)

pub returns-then-not-is_same-clause-same : goal.returns-then-not-is_same-clause-same
returns-then-not-is_same-clause-same c =
    same-broken c.args.types.now c.loop-place.types c.substitute.new.types c.args.by.now c.args.ones.now c.args.others.now c.loop-place.place c.in_ok-other.other c.is_same.result
    c.requires.ones c.requires.others c.requires.by c.loop-place-test.true c.loop-place.invariant c.in_ok-other.ensures.grows c.in_ok-other.ensures.stands c.is_same.ensures
    c.if-not-is_same.true

pub loop-place-preserved : goal.loop-place-preserved
loop-place-preserved c =
    same-next c.args.types.now c.loop-place.types c.substitute.new.types c.args.by.now c.args.ones.now c.args.others.now c.loop-place.place c.in_ok-other.other c.is_same.result
    c.requires.ones c.requires.others c.requires.by c.loop-place-test.true c.loop-place.invariant c.in_ok-other.ensures.grows c.in_ok-other.ensures.stands c.is_same.ensures
    c.if-not-is_same.false

pub returns-clause-same : goal.returns-clause-same
returns-clause-same c =
    same-all c.args.types.now c.loop-place.types c.args.by.now c.args.ones.now c.args.others.now c.loop-place.place c.loop-place-test.false c.loop-place.invariant
