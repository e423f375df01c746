use Rattle.type_overriding.proofs.MethodSteps.{below-recalled}
use Rattle.type_overriding.proofs.known_methods.KnownMethods.is_below.Goals as goal

pub returns-in-Some-clause-answer : goal.returns-in-Some-clause-answer
returns-in-Some-clause-answer c =
    below-recalled c.args.self.now c.number.new.self c.in_ok-number.ensures.grows c.in_ok-number.number c.args.declaring.now c.in-Some.answer c.in_ok-number.ensures.stands c.in-Some.ensures
