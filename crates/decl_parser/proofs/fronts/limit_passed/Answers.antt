use Rattle.decl_parser.proofs.FrontAnswers.{memory-settles-symbols}
use Rattle.decl_parser.proofs.fronts.limit_passed.Goals as goal

pub returns-in-Err : goal.returns-in-Err
returns-in-Err c = memory-settles-symbols c.args.info c.args.end c.args.symbols.now
