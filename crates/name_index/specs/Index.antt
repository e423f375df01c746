-- An index: a set of names for each of some names.
use Rattle.std.specs.Prelude.{ℕ, List, Option, None, Some, String}
use Rattle.std.specs.BTreeMap.{BTreeMap}
use Rattle.std.specs.Coded.{Coded, coded_list, coded_ℕ}
use Rattle.std.specs.Ordering.{nat_cmp}
use Rattle.std.specs.Cmp.Lexicographic.{slice_cmp}
use Rattle.std.specs.FinMap as fin
use Rattle.std.specs.FinMap.{FinMap}
use Rattle.std.specs.declared.alloc.Global.{Global}
use Rattle.apt_base.specs.Names.{NameSet, with_name, names_code}
use Rattle.name_index.specs.ShownMaps.{shown_map}

abbrev pub Index : Type 0
Index = FinMap (slice_cmp nat_cmp) NameSet

abbrev pub or_empty : Option NameSet → NameSet
or_empty None = fin.empty
or_empty (Some names) = names

-- the names at a name
abbrev pub names_at : Index → List ℕ → NameSet
names_at index at = or_empty (fin.get index at)

-- a name more there, and one less; where the last one goes, the empty set stays
abbrev pub with_name_at : Index → List ℕ → List ℕ → Index
with_name_at index at name = fin.insert index at (with_name (names_at index at) name)

abbrev pub without_name_at : Index → List ℕ → List ℕ → Index
without_name_at index at name = fin.insert index at (fin.remove (names_at index at) name)

-- ---- an index in memory

abbrev pub index_of : BTreeMap (String Global) NameSet → Index
index_of held = shown_map held

abbrev pub index_code : Coded Index
index_code = fin.code (coded_list coded_ℕ) names_code
