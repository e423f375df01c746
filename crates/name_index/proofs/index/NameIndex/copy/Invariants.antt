use Rattle.std.proofs.Common.{◌≡◌, ℕ, List, map}
use Rattle.std.specs.FinMap as fin
use Rattle.name_index.proofs.TextMaps.{put_all, shown_borrowed}
use Rattle.name_index.proofs.index.NameIndex.copy.Given as goal

-- the copy has what the entries so far put into it
abbrev pub invariant-loop-at : goal.invariant-loop-at
invariant-loop-at l = (q : List ℕ) → fin.get l.index q ≡ put_all (map shown_borrowed l.yielded) q
