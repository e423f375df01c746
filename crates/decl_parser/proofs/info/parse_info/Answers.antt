use Rattle.decl_grammar.specs.Grammar.{package_info}
use Rattle.decl_grammar.proofs.Law.{package_info-sound, phrase-found, phrase-is, phrase-shallow}
use Rattle.decl_parser.specs.FileShown.{info_view}
use Rattle.decl_parser.proofs.FaultPlaces.{fault-among, fault-misses, fault-bad, fault-deep}
use Rattle.decl_parser.proofs.info.parse_info.Goals as goal

pub placed-requires : goal.placed-requires
placed-requires c = fault-among package_info package_info-sound c.args.room c.args.symbols.now _ c.in-Err.ensures

pub returns-in-Ok-clause-found : goal.returns-in-Ok-clause-found
returns-in-Ok-clause-found c = phrase-found package_info c.args.room c.args.symbols.now _ _ c.in-Ok.ensures

pub returns-in-Ok-clause-only : goal.returns-in-Ok-clause-only
returns-in-Ok-clause-only c = λ x is. phrase-is package_info package_info-sound c.args.room c.args.symbols.now x _ c.in-Ok.ensures is

pub returns-in-Ok-clause-shallow : goal.returns-in-Ok-clause-shallow
returns-in-Ok-clause-shallow c = phrase-shallow package_info package_info-sound c.args.room c.args.symbols.now _ _ c.in-Ok.ensures

pub returns-in-Err-clause-only : goal.returns-in-Err-clause-only
returns-in-Err-clause-only c = rw c.placed.ensures (fault-misses package_info package_info-sound info_view c.args.room c.args.symbols.now _ c.in-Err.ensures)

pub returns-in-Err-clause-bad : goal.returns-in-Err-clause-bad
returns-in-Err-clause-bad c = rw c.placed.ensures (fault-bad package_info package_info-sound info_view c.args.room c.args.symbols.now _ c.in-Err.ensures)

pub returns-in-Err-clause-deep : goal.returns-in-Err-clause-deep
returns-in-Err-clause-deep c = rw c.placed.ensures (fault-deep package_info package_info-sound info_view c.args.room c.args.symbols.now _ c.in-Err.ensures)
