use Rattle.type_overriding.proofs.MethodSteps.{signature-recalled}
use Rattle.type_overriding.proofs.known_methods.KnownMethods.signature.Goals as goal

pub returns-in-Some-clause-stands : goal.returns-in-Some-clause-stands
returns-in-Some-clause-stands c =
    signature-recalled c.args.self.now c.number.new.self c.in_ok-number.ensures.grows c.in_ok-number.number c.args.at.now c.in-Some.found c.in_ok-number.ensures.stands c.in-Some.ensures
