use Rattle.decl_parser.proofs.FrontAnswers.{settles-info, settles-ordinary}
use Rattle.decl_parser.proofs.fronts.limit_in.Goals as goal

pub returns-then-info : goal.returns-then-info
returns-then-info c = settles-info c.args.info c.args.end c.args.symbols.now c.info_limit.result c.if-info.true c.info_limit.ensures

pub returns : goal.returns
returns c = settles-ordinary c.args.info c.args.end c.args.symbols.now c.ordinary_limit.result c.if-info.false c.ordinary_limit.ensures
