use Rattle.std.proofs.Common.{◌≡◌, ℕ, List, map}
use Rattle.std.specs.FinMap as fin
use Rattle.name_index.proofs.TextMaps.{put_all, shown_borrowed}
use Rattle.unit_locations.proofs.locations.Locations.copy.Given as goal

-- the copy has what the entries so far put into it
abbrev pub invariant-loop-name : goal.invariant-loop-name
invariant-loop-name l = (q : List ℕ) → fin.get l.locations q ≡ put_all (map shown_borrowed l.yielded) q
