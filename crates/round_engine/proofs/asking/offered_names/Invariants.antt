use Rattle.std.proofs.Common.{◌≡◌, take, map, get_or, []}
use Rattle.round_engine.proofs.asking.offered_names.Given as goal

-- the names so far
abbrev pub invariant-loop-at : goal.invariant-loop-at
invariant-loop-at l = l.names ≡ map (λ at. get_or l.present at []) (take l.at-index l.positions)
