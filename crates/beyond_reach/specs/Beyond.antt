-- Which questions of a processor are beyond reach: their replies may hang on units that nothing leads to of what the processor was shown.
-- For an isolating processor that is each root that it was shown in the round; for an aggregating one each unit that was annotated for it up to this round. The name of a stub is never so; a package asked for by its name is, and so are the types of one.
use Rattle.std.specs.Prelude.{◌≡◌, ◌⊎◌, ℕ, Bool, true, false, T, List, [], ◌∷◌}
use Rattle.std.specs.List.{list_any, flat_map}
use Rattle.std.specs.FinMap as fin
use Rattle.apt_base.specs.Names.{with_names, names_in}
use Rattle.apt_base.specs.declared.kinds.Kind.{Kind}
use Rattle.apt_base.specs.declared.kinds.Kind.TheVariants.{Isolating, Aggregating, Dynamic, Undeclared}
use Rattle.element_table.specs.TypeTable.{TypeTable}
use Rattle.wire_frames.specs.declared.question.Question.{Question}
use Rattle.named_units.specs.Named.{names_of, is_wide, gathers}
use Rattle.reach_map.specs.ClosedCuts.{NameSet, among, IsClosedSet}

-- ---- reach

-- the unit of one name leads to another name: each closed set that holds the one holds the other
abbrev pub LeadsTo : TypeTable → List ℕ → List ℕ → Type 0
LeadsTo table unit name = (names : NameSet) → T (names unit) → IsClosedSet table names → T (names name)

-- one of these units does
abbrev pub IsReached : TypeTable → List (List ℕ) → List ℕ → Type 0
IsReached table units name = (unit : List ℕ) × (T (among units unit) × LeadsTo table unit name)

-- no stub has the name, and none of these units leads to it
pub record IsOutside (table : TypeTable) (units : List (List ℕ)) (name : List ℕ) : Type 0 where
  pub no_stub : fin.contains_key table.stub name ≡ false
  pub unreached : ¬ IsReached table units name

-- one of these names lies outside
abbrev pub SomeOutside : TypeTable → List (List ℕ) → List (List ℕ) → Type 0
SomeOutside table units names = (name : List ℕ) × (T (among names name) × IsOutside table units name)

-- ---- one question

-- Whether a question counts that asks for the roots, or for an annotation that was not offered. A processor without a kind asks nothing beyond reach.
abbrev pub IsBeyondBy : Kind → Type 0 → Type 0 → Type 0 → Type 0
IsBeyondBy Isolating outside wide gathered = outside ⊎ wide
IsBeyondBy Aggregating outside wide gathered = outside ⊎ (wide ⊎ gathered)
IsBeyondBy Dynamic outside wide gathered = ⊥
IsBeyondBy Undeclared outside wide gathered = ⊥

-- the question of a processor of this kind, where these names were offered
abbrev pub IsBeyond : Kind → TypeTable → List (List ℕ) → List (List ℕ) → Question → Type 0
IsBeyond kind table units offered question =
    IsBeyondBy kind (SomeOutside table units (names_of table question)) (is_wide question ≡ true) (gathers offered question ≡ true)

-- ---- all questions of a round

-- what is noted of them: the names that they named; and whether one asked for a package or for the types of one, and one for the roots or for what was not offered
pub record Noted : Type 0 where
  pub asked : List (List ℕ)
  pub wide : Bool
  pub gathered : Bool

-- one of them is beyond reach
abbrev pub AskedBeyond : Kind → TypeTable → List (List ℕ) → Noted → Type 0
AskedBeyond kind table units noted = IsBeyondBy kind (SomeOutside table units noted.asked) (noted.wide ≡ true) (noted.gathered ≡ true)

-- what is noted of these questions, where these names were offered
abbrev pub noted_by : TypeTable → List (List ℕ) → List Question → Noted
noted_by table offered questions = record {
  asked = names_in (with_names fin.empty (flat_map (names_of table) questions));
  wide = list_any is_wide questions;
  gathered = list_any (gathers offered) questions;
}

-- it is so of one of these questions
abbrev pub OneIs : (Question → Type 0) → List Question → Type 0
OneIs P [] = ⊥
OneIs P (question ∷ questions) = P question ⊎ OneIs P questions

-- one of these questions is beyond reach
abbrev pub SomeBeyond : Kind → TypeTable → List (List ℕ) → List (List ℕ) → List Question → Type 0
SomeBeyond kind table units offered questions = OneIs (IsBeyond kind table units offered) questions
