use Rattle.decl_parser.proofs.FileAnswers.{crowded-unless, clear-unless, memory-unless}
use Rattle.decl_parser.proofs.parsing.unless_crowded.Goals as goal

pub returns-in-Ok-true : goal.returns-in-Ok-true
returns-in-Ok-true c = crowded-unless c.args.before.now c.args.fault c.in-Ok-true.field-0 c.in-Ok-true.field-0-test c.in-Ok-true.ensures

pub returns-in-Ok-false : goal.returns-in-Ok-false
returns-in-Ok-false c = clear-unless c.args.before.now c.args.fault c.in-Ok-false.field-0 c.in-Ok-false.field-0-test c.in-Ok-false.ensures

pub returns-in-Err : goal.returns-in-Err
returns-in-Err c = memory-unless c.args.before.now c.args.fault
