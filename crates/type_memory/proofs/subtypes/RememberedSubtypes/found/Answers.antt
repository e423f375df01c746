use Rattle.type_memory.proofs.RememberedAnswers.{found-answer}
use Rattle.type_memory.proofs.subtypes.RememberedSubtypes.found.Goals as goal

pub remember-requires : goal.remember-requires
remember-requires c =
    found-answer c.args.self.now c.search.new.self c.args.pair c.args.key c.in_ok-answer.answer c.in_ok-answer.ensures.grows c.requires.key c.requires.known
    c.in_ok-answer.ensures.answer
