use Rattle.std.proofs.Common.{rules, arith}
use Rattle.literal_values.proofs.BoundedNumbers.{read-digit}
use Rattle.literal_values.proofs.numerals.digits_from.Goals as goal

pub loop-c-preserved : goal.loop-c-preserved
loop-c-preserved c =
    read-digit c.args.radix _ c.args.rest.now c.loop-c.c-index c.loop-c.number c.loop-c.wanted _ c.in_ok-digit.digit c.with_digit-number.result (omega (arith, c.requires.lower_bound))
    c.loop-c.invariant c.loop-c-test.true (search rules) c.if-c-eq95.false c.in_ok-digit.ensures.value c.with_digit-number.ensures.value
