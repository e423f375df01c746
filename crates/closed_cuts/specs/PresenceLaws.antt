-- The law on presence over closed cuts. At an element of the cut or of a stub, the annotations that are
-- written there, those that are present there, inherited ones too, and the annotation interfaces that their
-- names mean are the same over the cut, and lie in it. So are the annotations that are present in a round
-- with such units as its roots, and the elements that carry them. All of it is the same over two tables that
-- have one cut.
use Rattle.std.specs.Prelude.{◌≡◌, ℕ, List}
use Rattle.std.specs.List.{AllByRecursion, Contains}
use Rattle.apt_base.specs.declared.element.ElementRef.{ElementRef}
use Rattle.element_table.specs.TypeTable.{TypeTable}
use Rattle.type_resolve.specs.Scopes.{find_in}
use Rattle.annotation_presence.specs.Carried.{Carried, directly_present, is_inherited, present_on}
use Rattle.round_env.specs.Presence.{present_names, names_present_on, annotated}
use Rattle.reach_map.specs.Chains.{annotation_chains, unit_chains}
use Rattle.reach_map.specs.ClosedCuts.{NameSet, cut}
use Rattle.closed_cuts.specs.CutElements.{HasUnit, IsRooted, HaveOneCut}
use Rattle.closed_cuts.specs.Kept.{Kept, IfAny}
use Rattle.closed_cuts.specs.TypeLaws.{Lies}

-- over two tables, at elements of the units whose names have a property
module _ (one other : TypeTable) (Has : List ℕ → Type 0) where
  -- an annotation that is written on an element of one of these units, where each of its name chains is one
  -- of the unit; its annotation interface, if its name means one, is of one of these units too
  pub record CarriedLies (c : Carried) : Type 0 where
    pub on : ElementRef
    pub lies : Lies one other Has on
    pub is_there : c.at ≡ find_in one on
    pub chains : AllByRecursion (Contains (unit_chains c.at.unit)) (annotation_chains c.text)
    pub annotation_type : IfAny (Lies one other Has) c.annotation_type

  abbrev pub SameCarried : List Carried → List Carried → Type 0
  SameCarried = Kept (AllByRecursion CarriedLies)

  -- on one element; and whether it is an annotation interface whose annotations are inherited
  pub record ElementPresenceStays (at : ElementRef) : Type 0 where
    pub written :
        SameCarried (directly_present one (find_in one at)) (directly_present other (find_in other at))
    pub present : SameCarried (present_on one at) (present_on other at)
    pub inherited : is_inherited one at ≡ is_inherited other at

  -- in a round with these roots
  pub record RoundStays (roots : List (List ℕ)) : Type 0 where
    pub names : present_names one roots ≡ present_names other roots
    pub elements :
        (name : List ℕ)
        → Kept (AllByRecursion (Lies one other Has)) (annotated one roots name) (annotated other roots name)

  -- all of them
  pub record PresenceStays : Type 0 where
    pub elements : (at : ElementRef) → Lies one other Has at → ElementPresenceStays at
    pub roots : (root : List ℕ) → Has root → names_present_on one root ≡ names_present_on other root
    pub rounds : (roots : List (List ℕ)) → AllByRecursion Has roots → RoundStays roots

-- ---- the laws

abbrev pub AllPresenceStays : Type 0
AllPresenceStays =
    (table : TypeTable) (names : NameSet) → IsRooted table names
    → PresenceStays table (cut table names) (HasUnit (cut table names))

abbrev pub AllPresenceAgrees : Type 0
AllPresenceAgrees =
    (one other : TypeTable) (names : NameSet) → HaveOneCut one other names
    → PresenceStays one other (HasUnit (cut one names))
