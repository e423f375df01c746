use Rattle.type_members.specs.Gathered.{IsGathering}
use Rattle.type_members.proofs.reaching.is_reached.Given as goal

-- this many were looked at
abbrev pub invariant-loop-done : goal.invariant-loop-done
invariant-loop-done l = IsGathering l.table l.from l.to l.types l.reached l.done
