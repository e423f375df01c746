use Rattle.std.proofs.Common.{◌≡◌, ℕ, List, map}
use Rattle.std.specs.FinMap as fin
use Rattle.name_index.proofs.TextMaps.{put_all, shown_borrowed}
use Rattle.element_table.specs.MemberTypes.{ranges_of}
use Rattle.element_table.proofs.member_index.MemberIndex.copy.Given as goal

-- the copy has what the entries so far put into it
abbrev pub invariant-loop-key : goal.invariant-loop-key
invariant-loop-key l = (q : List ℕ) → fin.get (ranges_of l.index) q ≡ put_all (map shown_borrowed l.yielded) q
