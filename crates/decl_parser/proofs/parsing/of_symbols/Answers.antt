use Rattle.decl_parser.proofs.FileAnswers.{symbols-info, symbols-ordinary}
use Rattle.decl_parser.proofs.parsing.of_symbols.Goals as goal

pub returns-then-info : goal.returns-then-info
returns-then-info c = symbols-info c.args.info c.args.end c.args.symbols.now c.info_of_symbols.result c.if-info.true c.info_of_symbols.ensures

pub returns : goal.returns
returns c = symbols-ordinary c.args.info c.args.end c.args.symbols.now c.ordinary_of_symbols.result c.if-info.false c.ordinary_of_symbols.ensures
