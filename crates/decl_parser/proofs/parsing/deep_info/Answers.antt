use Rattle.decl_parser.proofs.FileAnswers.{info-deep}
use Rattle.decl_parser.proofs.parsing.deep_info.Goals as goal

pub returns : goal.returns
returns c = info-deep c.args.symbols.now c.args.number c.args.end c.requires
