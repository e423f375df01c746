use Rattle.std.proofs.Common.{◌≡◌, drop}
use Rattle.std.specs.List.{list_all}
use Rattle.type_queries.specs.Verdicts.{are_there}
use Rattle.type_queries.proofs.there.+are_there.Given as goal

-- the rest decides
abbrev pub invariant-all_there-loop-each : goal.invariant-all_there-loop-each
invariant-all_there-loop-each l = list_all (are_there l.table) (drop l.each-index l.mirrors) ≡ list_all (are_there l.table) l.mirrors
