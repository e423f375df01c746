use Rattle.decl_grammar.specs.Expressions.{plain_form}
use Rattle.decl_grammar.proofs.Nests.{fewer}
use Rattle.decl_constants.proofs.plain_constants.plain_value_of.Goals as goal

pub meaning_of-requires : goal.meaning_of-requires
meaning_of-requires c = fewer c.args.room plain_form c.args.symbols.now _ c.in_ok-rest.rest.now c.in_ok-rest.ensures
