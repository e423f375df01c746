-- The candidates of a unit as a set: what a set of names has once those of some name chains were added, and the list of all of them.
use Rattle.std.specs.Prelude.{ℕ, List}
use Rattle.std.specs.List.{flat_map}
use Rattle.std.specs.FinMap as fin
use Rattle.decl_tree.specs.declared.compilation.UnitText.{UnitText}
use Rattle.apt_base.specs.Names.{NameSet, with_names, names_in}
use Rattle.reach_map.specs.Chains.{Chains}
use Rattle.reach_map.specs.Candidates.{chain_candidates, candidates}

-- with the candidates of each of these chains in the unit
unfoldable pub with_chains : UnitText → NameSet → Chains → NameSet
with_chains u names chains = with_names names (flat_map (chain_candidates u) chains)

-- the candidates of a unit
unfoldable pub candidate_set : UnitText → NameSet
candidate_set u = with_names fin.empty (candidates u)

-- the same, ascending by their bytes, each of them once
abbrev pub candidate_list : UnitText → List (List ℕ)
candidate_list u = names_in (candidate_set u)
