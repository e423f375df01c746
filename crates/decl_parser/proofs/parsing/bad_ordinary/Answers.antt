use Rattle.decl_parser.proofs.FileAnswers.{begins-fault, bad-answers}
use Rattle.decl_parser.proofs.parsing.bad_ordinary.Goals as goal

pub unless_crowded-requires : goal.unless_crowded-requires
unless_crowded-requires c = begins-fault c.args.symbols.now c.front_of.result.now c.args.number c.requires c.front_of.ensures

pub returns : goal.returns
returns c =
    bad-answers c.args.symbols.now c.front_of.result.now c.args.number c.place_of-place.result c.args.end c.unless_crowded.result c.requires c.place_of-place.ensures c.front_of.ensures c.unless_crowded.ensures
