-- The reach of a unit, or of several: the least set of names that holds its own, or theirs, and, with each source unit of the table in it, that unit's candidates. A name of the set may be absent from the table.
use Rattle.std.specs.Prelude.{ℕ, T, List}
use Rattle.std.specs.List.Sorted.{IsStrictlySortedBy}
use Rattle.std.specs.Ordering.{nat_cmp}
use Rattle.std.specs.Cmp.Lexicographic.{slice_cmp}
use Rattle.element_table.specs.TypeTable.{TypeTable}
use Rattle.reach_map.specs.ClosedCuts.{NameSet, among, HoldsAll, IsClosedSet}

-- it holds the unit's name, is closed, and each closed set that holds the name has all of it
pub record IsReach (table : TypeTable) (root : List ℕ) (names : NameSet) : Type 0 where
  pub itself : T (names root)
  pub closed : IsClosedSet table names
  pub least : (other : NameSet) → T (other root) → IsClosedSet table other → (name : List ℕ) → T (names name) → T (other name)

-- the list of it, ascending by the bytes, each name once
pub record IsReachList (table : TypeTable) (root : List ℕ) (names : List (List ℕ)) : Type 0 where
  pub reach : IsReach table root (among names)
  pub ascending : IsStrictlySortedBy (slice_cmp nat_cmp) names

-- the reach of several units together: the set holds the names of all of them, is closed, and each closed set that holds these names has all of it
pub record IsReachOfAll (table : TypeTable) (roots : List (List ℕ)) (names : NameSet) : Type 0 where
  pub themselves : HoldsAll names roots
  pub closed : IsClosedSet table names
  pub least : (other : NameSet) → HoldsAll other roots → IsClosedSet table other → (name : List ℕ) → T (names name) → T (other name)
