use Rattle.decl_grammar.specs.Grammar.{ordinary, package_info}
use Rattle.decl_grammar.proofs.Law.{phrase-unique, ordinary-sound, package_info-sound}
use Rattle.decl_grammar.proofs.laws.one_reading.Goals as goal

pub returns-clause-types : goal.returns-clause-types
returns-clause-types c = phrase-unique ordinary ordinary-sound

pub returns-clause-info : goal.returns-clause-info
returns-clause-info c = phrase-unique package_info package_info-sound
