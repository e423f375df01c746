use Rattle.std.proofs.Common.{◌≡◌, drop}
use Rattle.std.specs.List.{list_all}
use Rattle.type_relations.specs.Elements.{is_there}
use Rattle.type_queries.proofs.there.each_is_there.Given as goal

-- the rest decides
abbrev pub invariant-loop-each : goal.invariant-loop-each
invariant-loop-each l = list_all (is_there l.table) (drop l.each-index l.list) ≡ list_all (is_there l.table) l.list
