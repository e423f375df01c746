use Rattle.decl_grammar.specs.Grammar.{ordinary, package_info}
use Rattle.decl_grammar.proofs.Prefixes.{phrase-front, reading-front}
use Rattle.decl_grammar.proofs.laws.fronts_begin.Goals as goal

pub returns-clause-types : goal.returns-clause-types
returns-clause-types c = reading-front ordinary

pub returns-clause-types_begun : goal.returns-clause-types_begun
returns-clause-types_begun c = phrase-front ordinary

pub returns-clause-info : goal.returns-clause-info
returns-clause-info c = reading-front package_info

pub returns-clause-info_begun : goal.returns-clause-info_begun
returns-clause-info_begun c = phrase-front package_info
