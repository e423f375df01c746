use Rattle.decl_parser.proofs.FileAnswers.{info-bad}
use Rattle.decl_parser.proofs.parsing.bad_info.Goals as goal

pub returns : goal.returns
returns c = info-bad c.args.symbols.now c.args.number c.place_of.result c.args.end c.requires c.place_of.ensures
