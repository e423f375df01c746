use Rattle.std.proofs.Common.{◌≡◌, ◌≤◌, take}
use Rattle.decl_limits.specs.Separators.{separators}
use Rattle.decl_limits.proofs.counting.count_separators.Given as goal

abbrev pub invariant-loop-symbol : goal.invariant-loop-symbol
invariant-loop-symbol l = (l.count ≡ separators (take l.symbol-index l.symbols)) × (l.count ≤ l.symbol-index)
