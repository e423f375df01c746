use Rattle.type_numbers.proofs.NumberLaws.{grows-on}
use Rattle.type_overriding.proofs.OverridingSteps.{by-signature}
use Rattle.type_overriding.proofs.overriding.overrides.Goals as goal

pub returns-in_ok-signature-in_default : goal.returns-in_ok-signature-in_default
returns-in_ok-signature-in_default c = record {
  answer =
      by-signature c.args.table.now c.args.within.now c.args.one.now c.args.other.now c.may_override.result c.in_ok-below.below c.in_ok-signature-in_default.signature
      c.and.result c.may_override.ensures c.if-not-may_override.false c.in_ok-below.ensures.answer c.in_ok-signature-in_default.ensures.answer c.and.ensures;
  grows =
      grows-on c.args.types.now c.is_below_both.new.types c.has_subsignature.new.types c.in_ok-below.ensures.grows c.in_ok-signature-in_default.ensures.grows;
}
