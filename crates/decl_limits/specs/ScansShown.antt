-- What the counts that a scan keeps show, and how great they are.
use Rattle.std.specs.Prelude.{ℕ, ◌≤◌, List, [], ◌∷◌, reverse}
use Rattle.decl_limits.specs.declared.scanning.Counts.{Counts}
use Rattle.decl_limits.specs.Separators.{Scan}

abbrev pub shown_counts : Counts → Scan
shown_counts c = record { count = c.count; around = reverse c.around.items; most = c.most }

abbrev pub AreWithin : ℕ → List ℕ → Type 0
AreWithin n [] = Unit {0}
AreWithin n (k ∷ ks) = (k ≤ n) × AreWithin n ks

-- no count of braces that are open is greater
abbrev pub IsWithin : ℕ → Scan → Type 0
IsWithin n s = (s.count ≤ n) × AreWithin n s.around
