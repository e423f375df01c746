-- Sets of names, in the order of their bytes.
use Rattle.std.specs.Prelude.{ℕ, List, [], ◌∷◌, map, String, string_bytes}
use Rattle.std.specs.BTreeSet.{BTreeSet}
use Rattle.std.specs.Coded.{Coded, coded_list, coded_ℕ}
use Rattle.std.specs.Ordering.{nat_cmp}
use Rattle.std.specs.Cmp.Lexicographic.{slice_cmp}
use Rattle.std.specs.FinMap as fin
use Rattle.std.specs.FinMap.{FinMap}
use Rattle.std.specs.FinSet as set
use Rattle.std.specs.declared.alloc.Global.{Global}

abbrev pub NameSet : Type 0
NameSet = FinMap (slice_cmp nat_cmp) (Unit {0})

-- one name more
abbrev pub with_name : NameSet → List ℕ → NameSet
with_name names name = fin.insert names name tt

-- each of these names more
abbrev pub with_names : NameSet → List (List ℕ) → NameSet
with_names names [] = names
with_names names (name ∷ more) = with_names (with_name names name) more

-- the names of a set, ascending
abbrev pub names_in : NameSet → List (List ℕ)
names_in names = fin.keys names

-- ---- a set in memory

abbrev pub shown_name : String Global → List ℕ × Unit {0}
shown_name name = (string_bytes name, tt)

abbrev pub names_of : BTreeSet (String Global) → NameSet
names_of held = fin.from_entries (map shown_name held.keys)

abbrev pub names_code : Coded NameSet
names_code = set.code (coded_list coded_ℕ)
