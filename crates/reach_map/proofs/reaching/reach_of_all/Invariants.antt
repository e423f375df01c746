use Rattle.reach_map.specs.Reaching.{IsReaching, to_do}
use Rattle.reach_map.proofs.reaching.reach_of_all.Given as goal

abbrev pub invariant-loop-name : goal.invariant-loop-name
invariant-loop-name l = IsReaching l.table l.units l.reached l.left.items

-- the sources that are not reached yet, and what is left
abbrev pub decreases-loop-name : goal.decreases-loop-name
decreases-loop-name l = to_do l.table l.reached l.left.items
