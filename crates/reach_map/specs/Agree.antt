-- When two tables agree on some names: each is a source unit with the same shape in both, or a source unit in neither. And the law on reaches: tables that agree on
-- the names of a unit's reach give it the same reach, with the same sources in it.
use Rattle.std.specs.Prelude.{◌≡◌, ℕ, T, List, Option, None, Some}
use Rattle.std.specs.List.{AllByRecursion}
use Rattle.std.specs.FinMap as fin
use Rattle.decl_tree.specs.declared.compilation.UnitText.{UnitText}
use Rattle.decl_syntax.specs.Shape.{unit_form}
use Rattle.element_table.specs.TypeTable.{TypeTable}
use Rattle.reach_map.specs.ClosedCuts.{NameSet, among, cut}
use Rattle.reach_map.specs.Reach.{IsReach}

-- both units are there with the same shape, or neither is
abbrev pub HaveSameShape : Option UnitText → Option UnitText → Type 0
HaveSameShape None None = Unit {0}
HaveSameShape None (Some other) = ⊥
HaveSameShape (Some one) None = ⊥
HaveSameShape (Some one) (Some other) = unit_form one ≡ unit_form other

-- the sources of this name; stubs play no part
abbrev pub AgreeOn : TypeTable → TypeTable → List ℕ → Type 0
AgreeOn one other name = HaveSameShape (fin.get one.source name) (fin.get other.source name)

abbrev pub Agree : TypeTable → TypeTable → List (List ℕ) → Type 0
Agree one other names = AllByRecursion (AgreeOn one other) names

-- ---- the law on reaches

-- the same source unit under each name, or none
abbrev pub HaveSameSources : TypeTable → TypeTable → List (List ℕ) → Type 0
HaveSameSources one other names = AllByRecursion (λ name. fin.get one.source name ≡ fin.get other.source name) names

abbrev pub IsWithin : NameSet → NameSet → Type 0
IsWithin some all = (name : List ℕ) → T (some name) → T (all name)

-- over the other table too these names are the reach of the unit, and the cuts to them have the same source part
pub record ShareReach (one other : TypeTable) (root : List ℕ) (names : NameSet) : Type 0 where
  pub reach : IsReach other root names
  pub sources : (cut one names).source ≡ (cut other names).source

-- the other table shares each reach of this one that is within the list
abbrev pub ShareReaches : TypeTable → TypeTable → List (List ℕ) → Type 0
ShareReaches one other list = (root : List ℕ) (names : NameSet) → IsReach one root names → IsWithin names (among list) → ShareReach one other root names
