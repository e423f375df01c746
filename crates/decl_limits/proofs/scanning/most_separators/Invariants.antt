use Rattle.std.proofs.Common.{◌≡◌, take}
use Rattle.decl_limits.specs.Separators.{unscanned, scanned}
use Rattle.decl_limits.specs.ScansShown.{shown_counts, IsWithin}
use Rattle.decl_limits.proofs.scanning.most_separators.Given as goal

abbrev pub invariant-loop-symbol : goal.invariant-loop-symbol
invariant-loop-symbol l = (shown_counts l.counts ≡ scanned unscanned (take l.symbol-index l.symbols)) × IsWithin l.symbol-index (shown_counts l.counts)
