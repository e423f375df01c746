use Rattle.decl_parser.proofs.FileAnswers.{begins-deep, deep-answers}
use Rattle.decl_parser.proofs.parsing.deep_ordinary.Goals as goal

pub unless_crowded-requires : goal.unless_crowded-requires
unless_crowded-requires c = begins-deep c.args.symbols.now c.front_of.result.now c.args.number c.requires c.front_of.ensures

pub returns : goal.returns
returns c = deep-answers c.args.symbols.now c.front_of.result.now c.args.number c.args.end c.unless_crowded.result c.requires c.front_of.ensures c.unless_crowded.ensures
