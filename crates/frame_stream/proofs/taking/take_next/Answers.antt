use Rattle.frame_stream.proofs.StreamsLemmas.{not_taken, goes_on, turns_bad, given, not_given}
use Rattle.frame_stream.proofs.taking.take_next.Goals as goal

pub returns-in-Err : goal.returns-in-Err
returns-in-Err c = not_taken c.args.scanner.now c.take.new.self c.requires.begun c.in-Err.ensures.err

pub returns-in-Begun : goal.returns-in-Begun
returns-in-Begun c = goes_on c.args.scanner.now c.take.new.self c.args.byte c.found.result c.in-Ok.ensures.ok c.found.ensures.found c.in-Begun.is

pub returns-in-Bad : goal.returns-in-Bad
returns-in-Bad c = turns_bad c.args.scanner.now c.take.new.self c.args.byte c.in-Bad.place c.in-Bad.kind c.found.result c.in-Ok.ensures.ok c.found.ensures.found c.in-Bad.is

pub returns-in-Ok-give : goal.returns-in-Ok-give
returns-in-Ok-give c = given c.args.scanner.now c.take.new.self c.give.new.scanner c.args.byte c.in-Ok-give.frame c.in-Ok.ensures.ok c.in-Ok-give.ensures.frame c.in-Ok-give.ensures.stands c.in-Ok-give.ensures.ok

pub returns-in-Err-give : goal.returns-in-Err-give
returns-in-Err-give c = not_given c.args.scanner.now c.take.new.self c.give.new.scanner c.args.byte c.requires.begun c.in-Ok.ensures.ok c.in-Whole.ensures.frame c.in-Err-give.ensures.err
