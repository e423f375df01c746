use Rattle.std.proofs.Common.{◌≡◌, drop}
use Rattle.std.specs.List.{list_all}
use Rattle.decl_limits.specs.Names.{type_named}
use Rattle.decl_parser.proofs.naming.types_fit.Given as goal

-- the types to come decide as all of them do
abbrev pub invariant-loop-each : goal.invariant-loop-each
invariant-loop-each l = list_all (type_named l.start) (drop l.each-index l.types) ≡ list_all (type_named l.start) l.types
