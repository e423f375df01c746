-- The questions on types over closed cuts: at elements and mirrors of the cut each comes to the same over the cut as over the table, its fault or its answer, also where
-- they name something that is nowhere. So two tables that have one cut answer them in the same way.
use Rattle.std.specs.Prelude.{◌≡◌, ℕ, List, None}
use Rattle.std.specs.List.{AllByRecursion}
use Rattle.apt_base.specs.declared.element.ElementRef.{ElementRef}
use Rattle.element_table.specs.TypeTable.{TypeTable, unit_of}
use Rattle.element_table.specs.TableElements.{info_package}
use Rattle.type_mirror.specs.declared.mirror.Mirror.{Mirror}
use Rattle.type_members.specs.Reached.{IsReached}
use Rattle.type_queries.specs.Questions.{same_question, print_question, boxed_question, unboxed_question, type_question, direct_question, erasure_question, subtype_question, contains_question, assignable_question, subsignature_question}
use Rattle.type_queries.specs.MemberQuestion.{IsMember}
use Rattle.type_queries.specs.MemberLists.{members_question}
use Rattle.type_queries.specs.Verdicts.{elements_of}
use Rattle.type_queries.specs.OverridingQuestions.{overrides_question}
use Rattle.reach_map.specs.ClosedCuts.{NameSet, cut}
use Rattle.closed_cuts.specs.CutElements.{HasUnit, IsRooted, HaveOneCut}

-- over two tables, at elements of the units whose names have a property
module _ (one other : TypeTable) (Has : List ℕ → Type 0) where
  -- what a question may name: an element of one of these units, or one under a name that has no unit in either table and is no package's
  pub data MayName (at : ElementRef) : Type 0 where
    InUnit : Has at.unit → MayName at
    Nowhere : unit_of one at.unit ≡ None → unit_of other at.unit ≡ None → info_package at.unit ≡ None → MayName at

  -- each element that the mirror names
  abbrev pub MayNameAll : Mirror → Type 0
  MayNameAll m = AllByRecursion MayName (elements_of m)

  pub record TypeQuestionsStay (m : Mirror) : Type 0 where
    pub print : print_question one m ≡ print_question other m
    pub boxed : boxed_question one m ≡ boxed_question other m
    pub unboxed : unboxed_question one m ≡ unboxed_question other m
    pub direct : direct_question one m ≡ direct_question other m
    pub erasure : erasure_question one m ≡ erasure_question other m

  pub record PairQuestionsStay (a b : Mirror) : Type 0 where
    pub same : same_question one a b ≡ same_question other a b
    pub subtype : subtype_question one a b ≡ subtype_question other a b
    pub contains : contains_question one a b ≡ contains_question other a b
    pub assignable : assignable_question one a b ≡ assignable_question other a b
    pub subsignature : subsignature_question one a b ≡ subsignature_question other a b

  pub record ElementQuestionsStay (at : ElementRef) : Type 0 where
    pub type_of : type_question one at ≡ type_question other at
    pub members : members_question one at ≡ members_question other at

  -- all questions
  pub record QuestionsStay : Type 0 where
    pub types : (m : Mirror) → MayNameAll m → TypeQuestionsStay m
    pub pairs : (a b : Mirror) → MayNameAll a → MayNameAll b → PairQuestionsStay a b
    pub elements : (at : ElementRef) → MayName at → ElementQuestionsStay at
    pub overrides :
        (m o t : ElementRef) → MayName m → MayName o → MayName t
        → overrides_question one m o t ≡ overrides_question other m o t
    -- which types are reached by supertypes, by any number of steps; what is reached from one of these units is of one of them
    pub reached_lie : (from to : ElementRef) → Has from.unit → IsReached one from to → Has to.unit
    pub reached : (from to : ElementRef) → MayName from → IsReached one from to → IsReached other from to
    pub reached_back : (from to : ElementRef) → MayName from → IsReached other from to → IsReached one from to
    -- whether a type and an element are what the question on a member in a type wants
    pub is_member :
        (container : Mirror) (at : ElementRef) → MayNameAll container → MayName at
        → IsMember one container at → IsMember other container at
    pub is_member_back :
        (container : Mirror) (at : ElementRef) → MayNameAll container → MayName at
        → IsMember other container at → IsMember one container at

abbrev pub AllQuestionsStay : Type 0
AllQuestionsStay =
    (table : TypeTable) (names : NameSet) → IsRooted table names → QuestionsStay table (cut table names) (HasUnit (cut table names))

abbrev pub AllQuestionsAgree : Type 0
AllQuestionsAgree =
    (one other : TypeTable) (names : NameSet) → HaveOneCut one other names → QuestionsStay one other (HasUnit (cut one names))
