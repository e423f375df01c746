-- That a question of a round was beyond reach is decided by the set that is found.
use Rattle.std.specs.Prelude.{◌≡◌, ◌↔◌, ℕ, true, T, List}
use Rattle.std.specs.FinMap as fin
use Rattle.apt_base.specs.declared.kinds.Kind.{Kind}
use Rattle.element_table.specs.TypeTable.{TypeTable}
use Rattle.wire_frames.specs.declared.question.Question.{Question}
use Rattle.beyond_reach.specs.Beyond.{IsReached, Noted, AskedBeyond, noted_by, SomeBeyond}
use Rattle.beyond_reach.specs.Reached.{reached_from, asked_beyond}

pub record BeyondLaws (table : TypeTable) (units : List (List ℕ)) : Type 0 where
  -- the set has exactly the names to which one of the units leads
  pub reached : (name : List ℕ) → T (fin.contains_key (reached_from table units) name) ↔ IsReached table units name
  pub decided : (kind : Kind) (noted : Noted) → T (asked_beyond kind table units noted) ↔ AskedBeyond kind table units noted

abbrev pub BeyondIsDecided : Type 0
BeyondIsDecided = (table : TypeTable) (units : List (List ℕ)) → BeyondLaws table units

-- what is noted of questions is beyond reach exactly where one of them is
abbrev pub NotedIsBeyond : Type 0
NotedIsBeyond =
    (kind : Kind) (table : TypeTable) (units offered : List (List ℕ)) (questions : List Question)
    → AskedBeyond kind table units (noted_by table offered questions) ↔ SomeBeyond kind table units offered questions
