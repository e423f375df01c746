use Rattle.type_overriding.proofs.MethodSteps.{by-both, grows-further}
use Rattle.type_overriding.proofs.known_methods.KnownMethods.overrides.Goals as goal

pub returns-in_ok-below-in_default : goal.returns-in_ok-below-in_default
returns-in_ok-below-in_default c =
    record {
      answer = by-both c.args.self.now c.has_subsignature.new.self c.args.one.now c.args.other.now c.allows.result c.in_ok-signature.signature c.in_ok-below-in_default.below c.and.result
          c.in_ok-signature.ensures.grows c.allows.ensures c.if-not-allows.false c.in_ok-signature.ensures.answer c.in_ok-below-in_default.ensures.answer c.and.ensures;
      grows = grows-further c.args.self.now c.has_subsignature.new.self c.is_below_both.new.self c.in_ok-signature.ensures.grows c.in_ok-below-in_default.ensures.grows;
    }
