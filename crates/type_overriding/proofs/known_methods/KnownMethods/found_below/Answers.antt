use Rattle.type_overriding.proofs.MethodSteps.{below-later}
use Rattle.type_overriding.proofs.known_methods.KnownMethods.found_below.Goals as goal

pub remember_below-requires : goal.remember_below-requires
remember_below-requires c =
    below-later c.args.self.now c.search.new.self c.in_ok-answer.ensures.grows c.args.number c.args.declaring.now c.in_ok-answer.answer c.requires c.in_ok-answer.ensures.answer
