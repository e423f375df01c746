-- How a map in memory whose keys are texts is seen: as a finite map from their bytes.
use Rattle.std.specs.Prelude.{ℕ, List, map, String, string_bytes}
use Rattle.std.specs.BTreeMap.{BTreeMap}
use Rattle.std.specs.Ordering.{nat_cmp}
use Rattle.std.specs.Cmp.Lexicographic.{slice_cmp}
use Rattle.std.specs.FinMap as fin
use Rattle.std.specs.FinMap.{FinMap}
use Rattle.std.specs.declared.alloc.Global.{Global}

-- a value by the bytes of its key
abbrev pub shown_entry : {X : Type 0} → String Global × X → List ℕ × X
shown_entry e = (string_bytes e.0, e.1)

abbrev pub shown_map : {X : Type 0} → BTreeMap (String Global) X → FinMap (slice_cmp nat_cmp) X
shown_map m = fin.from_entries (map shown_entry m.entries)
