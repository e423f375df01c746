use Rattle.std.proofs.Common.{refl}
use Rattle.decl_parser.specs.Parsed.{given, long, without_memory}
use Rattle.decl_parser.proofs.parsing.named_units.Goals as goal

pub returns-then-not-named : goal.returns-then-not-named
returns-then-not-named c = long refl cc

pub ordinary_declared-requires : goal.ordinary_declared-requires
ordinary_declared-requires c = c.requires cc

pub returns-in-Ok : goal.returns-in-Ok
returns-in-Ok c = given _ refl (cc) c.in-Ok.ensures

pub returns-in-Err : goal.returns-in-Err
returns-in-Err c = without_memory refl
