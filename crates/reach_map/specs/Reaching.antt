-- How a reach is gathered: names that are reached, and those of them that are sources whose candidates are still to be added.
use Rattle.std.specs.Prelude.{ℕ, suc, ◌+◌, Bool, not, ◌&&◌, T, ◌≡◌, false, List, [], ◌∷◌, ◌++◌, length, Option, None, Some, if◌then◌else◌}
use Rattle.std.specs.FinMap as fin
use Rattle.decl_tree.specs.declared.compilation.UnitText.{UnitText}
use Rattle.apt_base.specs.Names.{NameSet, with_name, with_names}
use Rattle.element_table.specs.TypeTable.{TypeTable}
use Rattle.reach_map.specs.Candidates.{candidates}
use Rattle.reach_map.specs.CandidateSets.{candidate_list}
use Rattle.reach_map.specs.ClosedCuts.{among, HoldsAll, IsClosedSet}

-- whether a name is new and one of a source
abbrev pub is_new_source : TypeTable → NameSet → List ℕ → Bool
is_new_source table reached name = not (fin.contains_key reached name) && fin.contains_key table.source name

-- what is left once a name is reached, and once each of these is
abbrev pub left_with : TypeTable → NameSet → List (List ℕ) → List ℕ → List (List ℕ)
left_with table reached left name = if is_new_source table reached name then left ++ name ∷ [] else left

unfoldable pub left_after : TypeTable → NameSet → List (List ℕ) → List (List ℕ) → List (List ℕ)
left_after table reached left [] = left
left_after table reached left (name ∷ more) = left_after table (with_name reached name) (left_with table reached left name) more

-- the names that a name leads to: the candidates of a source
abbrev pub candidates_of : Option UnitText → List (List ℕ)
candidates_of None = []
candidates_of (Some u) = candidate_list u

abbrev pub candidates_behind : TypeTable → List ℕ → List (List ℕ)
candidates_behind table name = candidates_of (fin.get table.source name)

-- what is reached, and what is left, once those of a name are
abbrev pub reached_behind : TypeTable → NameSet → List ℕ → NameSet
reached_behind table reached name = with_names reached (candidates_behind table name)

abbrev pub left_behind : TypeTable → NameSet → List (List ℕ) → List ℕ → List (List ℕ)
left_behind table reached left name = left_after table reached left (candidates_behind table name)

abbrev pub holds : NameSet → List ℕ → Bool
holds reached name = fin.contains_key reached name

-- where a gathering stands: each closed set with the roots has what is reached, and of each source that is reached and not left the candidates are reached
pub record IsReaching (table : TypeTable) (roots : List (List ℕ)) (reached : NameSet) (left : List (List ℕ)) : Type 0 where
  pub themselves : HoldsAll (holds reached) roots
  pub least :
      (other : List ℕ → Bool) → HoldsAll other roots → IsClosedSet table other → (name : List ℕ) → T (holds reached name) → T (other name)
  pub done :
      (name : List ℕ) (u : UnitText) → T (holds reached name) → fin.get table.source name ≡ Some u → among left name ≡ false
      → HoldsAll (holds reached) (candidates u)
  pub there : HoldsAll (holds reached) left

-- how many of some names are not reached yet
unfoldable pub missing : NameSet → List (List ℕ) → ℕ
missing reached [] = 0
missing reached (name ∷ more) = if holds reached name then missing reached more else suc (missing reached more)

-- what a step makes smaller: the sources that are not reached yet, and the names that are left
abbrev pub to_do : TypeTable → NameSet → List (List ℕ) → ℕ
to_do table reached left = missing reached (fin.keys table.source) + length left
