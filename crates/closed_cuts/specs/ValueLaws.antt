-- The law on values over closed cuts: the annotations, the values with their defaults, the default and the
-- constant of an element of the cut or of a stub are the same over the cut, and each element that they name
-- lies in it. So they are the same over two tables that have one cut.
use Rattle.std.specs.Prelude.{ℕ, List, Option}
use Rattle.std.specs.List.{AllByRecursion}
use Rattle.apt_base.specs.declared.element.ElementRef.{ElementRef}
use Rattle.element_table.specs.TypeTable.{TypeTable}
use Rattle.type_mirror.specs.declared.value.Value.{Value}
use Rattle.type_mirror.specs.declared.value.Annotation.{Annotation}
use Rattle.annotation_values.specs.ElementValues.{Named, mirrors, all_mirrors, values_with_defaults}
use Rattle.annotation_values.specs.ElementValues.{constant_of, default_of}
use Rattle.reach_map.specs.ClosedCuts.{NameSet, cut}
use Rattle.closed_cuts.specs.CutElements.{HasUnit, LiesIn, IsRooted, HaveOneCut}
use Rattle.closed_cuts.specs.Kept.{Kept, IfAny}
use Rattle.closed_cuts.specs.NamedElements.{value_elements, annotation_elements}
use Rattle.closed_cuts.specs.TypeLaws.{Lies}

-- over two tables, at elements of the units whose names have a property
module _ (one other : TypeTable) (Has : List ℕ → Type 0) where
  -- each element that it names is of one of these units
  abbrev pub ValueLies : Value → Type 0
  ValueLies v = AllByRecursion (Lies one other Has) (value_elements v)

  abbrev pub AnnotationLies : Annotation → Type 0
  AnnotationLies a = AllByRecursion (Lies one other Has) (annotation_elements a)

  abbrev pub NamedLies : Named → Type 0
  NamedLies named = ValueLies named.1

  abbrev pub SameAnnotations : List Annotation → List Annotation → Type 0
  SameAnnotations = Kept (AllByRecursion AnnotationLies)

  abbrev pub SameValue : Option Value → Option Value → Type 0
  SameValue = Kept (IfAny ValueLies)

  -- of an element
  pub record ValuesStay (at : ElementRef) : Type 0 where
    pub mirrors : SameAnnotations (mirrors one at) (mirrors other at)
    pub all_mirrors : SameAnnotations (all_mirrors one at) (all_mirrors other at)
    -- of the annotation of any number
    pub with_defaults :
        (number : ℕ)
        → Kept (IfAny (AllByRecursion NamedLies)) (values_with_defaults one at number)
        (values_with_defaults other at number)
    pub constant : SameValue (constant_of one at) (constant_of other at)
    pub default : SameValue (default_of one at) (default_of other at)

abbrev pub AllValuesStay : Type 0
AllValuesStay =
    (table : TypeTable) (names : NameSet) → IsRooted table names → (at : ElementRef) → LiesIn table names at
    → ValuesStay table (cut table names) (HasUnit (cut table names)) at

abbrev pub AllValuesAgree : Type 0
AllValuesAgree =
    (one other : TypeTable) (names : NameSet) → HaveOneCut one other names
    → (at : ElementRef) → LiesIn one names at
    → ValuesStay one other (HasUnit (cut one names)) at
