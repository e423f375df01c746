use Rattle.std.proofs.Common.{◌≡◌, drop}
use Rattle.std.specs.List.{list_all}
use Rattle.decl_parser.specs.NamesShown.{member_fits_behind}
use Rattle.decl_parser.proofs.naming.+naming.Given as goal

-- the members to come decide as all of them do
abbrev pub invariant-members_fit-loop-each : goal.invariant-members_fit-loop-each
invariant-members_fit-loop-each l = list_all (member_fits_behind l.start) (drop l.each-index l.members) ≡ list_all (member_fits_behind l.start) l.members
