use Rattle.std.proofs.Common.{take, map, string_bytes}
use Rattle.tree_store.proofs.Numbers.{AreNumbersOf}
use Rattle.tree_store.proofs.store.taken_numbers.Given as goal

-- the numbers so far are those of the paths so far
abbrev pub invariant-loop-path : goal.invariant-loop-path
invariant-loop-path g l = AreNumbersOf l.numbers.items (map string_bytes (take l.path-index l.path-items))
