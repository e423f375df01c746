use Rattle.decl_grammar.specs.Grammar.{ordinary, package_info}
use Rattle.decl_grammar.proofs.Law.{phrase-unique, ordinary-sound, package_info-sound}
use Rattle.decl_limits.specs.Units.{units_of, info_units}
use Rattle.decl_limits.specs.Names.{is_named, info_named}
use Rattle.decl_limits.specs.Children.{IsCrowded}
use Rattle.decl_parser.specs.Parsed.{NoChildren}
use Rattle.decl_parser.proofs.OneAnswer.{one-answer}
use Rattle.decl_parser.proofs.laws.one_answer.Goals as goal

pub returns-clause-types : goal.returns-clause-types
returns-clause-types c = one-answer ordinary (phrase-unique ordinary ordinary-sound) units_of is_named IsCrowded

pub returns-clause-info : goal.returns-clause-info
returns-clause-info c = one-answer package_info (phrase-unique package_info package_info-sound) info_units info_named NoChildren
