use Rattle.std.proofs.Common.{◌+◌, ℕ, List, take, sym, subst}
use Rattle.type_numbers.specs.Numbers.{IsKnown, AllStand}
use Rattle.type_numbers.proofs.LayerMaps.{all-at}
use Rattle.type_numbers.proofs.NumberLaws.{grows-on}
use Rattle.type_numbers.specs.Replaced.{all_replaced}
use Rattle.type_numbers.proofs.ReplacedSteps.{each-next}
use Rattle.type_steps.proofs.supertypes.substitute_each.Goals as goal

pub loop-number-preserved : goal.loop-number-preserved
loop-number-preserved c =
    let was = c.args.types.now in
    let numbers = c.args.numbers.now in
    let i = c.loop-number.number-index in
    let known = all-at (IsKnown was) numbers i 0 c.requires.known c.loop-number-test.true in
    let next = each-next was c.loop-number.types c.substitute.new.types c.args.by.now numbers i c.in_ok-one.one c.loop-number.list c.loop-number.invariant.grows c.requires.by known
    c.loop-number-test.true c.loop-number.invariant.stand c.in_ok-one.ensures.grows c.in_ok-one.ensures.stands in
    record {
      stand = subst (λ (ns : List ℕ). AllStand c.substitute.new.types ns (all_replaced was c.args.by.now (take (i + 1) numbers))) (sym c.in_ok-push.ensures.ok) next;
      grows = grows-on was c.loop-number.types c.substitute.new.types c.loop-number.invariant.grows c.in_ok-one.ensures.grows;
    }
