use Rattle.std.proofs.Common.{◌≡◌, drop}
use Rattle.reach_map.specs.ClosedCuts.{among}
use Rattle.reach_map.proofs.is_among.Given as goal

-- it is among the rest exactly where it is among all
abbrev pub invariant-loop-each : goal.invariant-loop-each
invariant-loop-each l = among (drop l.each-index l.names) l.name ≡ among l.names l.name
