use Rattle.decl_parser.proofs.FileAnswers.{chars-fault}
use Rattle.decl_parser.proofs.parsing.of_chars.Goals as goal

pub of_reader-requires : goal.of_reader-requires
of_reader-requires c = c.in-Ok.ensures

pub returns-in-Err : goal.returns-in-Err
returns-in-Err c = chars-fault c.args.info c.args.end c.args.chars.now c.in-Err.stop c.text_fault.result c.text_fault.ensures c.in-Err.ensures
