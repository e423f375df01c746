use Rattle.decl_grammar.specs.Grammar.{ordinary}
use Rattle.decl_grammar.proofs.Law.{ordinary-sound, phrase-found, phrase-is, phrase-shallow}
use Rattle.decl_parser.specs.FileShown.{ordinary_view}
use Rattle.decl_parser.proofs.FaultPlaces.{fault-among, fault-misses, fault-bad, fault-deep}
use Rattle.decl_parser.proofs.file.parse_ordinary.Goals as goal

pub placed-requires : goal.placed-requires
placed-requires c = fault-among ordinary ordinary-sound c.args.room c.args.symbols.now _ c.in-Err.ensures

pub returns-in-Ok-clause-found : goal.returns-in-Ok-clause-found
returns-in-Ok-clause-found c = phrase-found ordinary c.args.room c.args.symbols.now _ _ c.in-Ok.ensures

pub returns-in-Ok-clause-only : goal.returns-in-Ok-clause-only
returns-in-Ok-clause-only c = λ x is. phrase-is ordinary ordinary-sound c.args.room c.args.symbols.now x _ c.in-Ok.ensures is

pub returns-in-Ok-clause-shallow : goal.returns-in-Ok-clause-shallow
returns-in-Ok-clause-shallow c = phrase-shallow ordinary ordinary-sound c.args.room c.args.symbols.now _ _ c.in-Ok.ensures

pub returns-in-Err-clause-only : goal.returns-in-Err-clause-only
returns-in-Err-clause-only c = rw c.placed.ensures (fault-misses ordinary ordinary-sound ordinary_view c.args.room c.args.symbols.now _ c.in-Err.ensures)

pub returns-in-Err-clause-bad : goal.returns-in-Err-clause-bad
returns-in-Err-clause-bad c = rw c.placed.ensures (fault-bad ordinary ordinary-sound ordinary_view c.args.room c.args.symbols.now _ c.in-Err.ensures)

pub returns-in-Err-clause-deep : goal.returns-in-Err-clause-deep
returns-in-Err-clause-deep c = rw c.placed.ensures (fault-deep ordinary ordinary-sound ordinary_view c.args.room c.args.symbols.now _ c.in-Err.ensures)
