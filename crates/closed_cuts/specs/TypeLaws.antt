-- The laws on types over closed cuts: at elements and mirrors of the cut each answer over the cut is that over the table, and what it names lies in the cut. So two
-- tables that have one cut give the same answers there.
-- A set of names is closed where it holds the candidates of each source unit in it, and has to hold a source of the table; the stubs are whole in each cut.
use Rattle.std.specs.Prelude.{◌≡◌, ℕ, List, ◌∷◌, Option}
use Rattle.std.specs.List.{AllByRecursion}
use Rattle.apt_base.specs.declared.element.ElementRef.{ElementRef}
use Rattle.element_table.specs.TypeTable.{TypeTable}
use Rattle.element_table.specs.TableElements.{node_at, children_at, modifiers_at, enclosing_at, canonical_at}
use Rattle.type_mirror.specs.declared.mirror.Mirror.{Mirror}
use Rattle.type_resolve.specs.Scopes.{find_in}
use Rattle.name_resolve.specs.Mirrors.{superclass, interfaces}
use Rattle.type_relations.specs.Boxed.{boxed, unboxed}
use Rattle.type_relations.specs.Direct.{direct}
use Rattle.type_relations.specs.Elements.{type_parameters}
use Rattle.type_relations.specs.Erasure.{erasure}
use Rattle.type_relations.specs.Named.{bounds, declared_supertypes}
use Rattle.type_elements.specs.TypeOf.{type_of}
use Rattle.type_subtypes.specs.Assignable.{assignable}
use Rattle.type_subtypes.specs.Subsignature.{subsignature}
use Rattle.type_subtypes.specs.Subtypes.{subtype, contained}
use Rattle.type_members.specs.MemberOf.{member_of}
use Rattle.type_overriding.specs.Overrides.{overrides}
use Rattle.type_listing.specs.Members.{members}
use Rattle.type_texts.specs.Print.{text_of}
use Rattle.type_queries.specs.Verdicts.{elements_of}
use Rattle.reach_map.specs.ClosedCuts.{NameSet, cut}
use Rattle.closed_cuts.specs.CutElements.{HasUnit, IsRooted, HaveOneCut}
use Rattle.closed_cuts.specs.Kept.{Kept, IfAny}

-- over two tables, at elements of the units whose names have a property
module _ (one other : TypeTable) (Has : List ℕ → Type 0) where
  -- an element of one of these units, and a mirror that names such elements alone
  abbrev pub Lies : ElementRef → Type 0
  Lies at = Has at.unit

  abbrev pub Within : Mirror → Type 0
  Within m = AllByRecursion Lies (elements_of m)

  abbrev pub SameMirror : Mirror → Mirror → Type 0
  SameMirror = Kept Within

  abbrev pub SameMirrors : List Mirror → List Mirror → Type 0
  SameMirrors = Kept (AllByRecursion Within)

  -- answers that may be open
  abbrev pub SameOption : Option Mirror → Option Mirror → Type 0
  SameOption = Kept (IfAny Within)

  abbrev pub SameList : Option (List Mirror) → Option (List Mirror) → Type 0
  SameList = Kept (IfAny (AllByRecursion Within))

  abbrev pub SameElements : Option (List ElementRef) → Option (List ElementRef) → Type 0
  SameElements = Kept (IfAny (AllByRecursion Lies))

  -- what stands at an element, the headers of types and the bounds of type parameters
  pub record ElementStays (at : ElementRef) : Type 0 where
    pub node : node_at one at ≡ node_at other at
    pub children : children_at one at ≡ children_at other at
    pub modifiers : modifiers_at one at ≡ modifiers_at other at
    -- of a top-level type this is its package
    pub enclosing : enclosing_at one at ≡ enclosing_at other at
    -- of anything else it lies there too
    pub around : (step : ℕ) (steps : List ℕ) → at.path ≡ step ∷ steps → IfAny Lies (enclosing_at one at)
    pub canonical : canonical_at one at ≡ canonical_at other at
    pub parameters : Kept (AllByRecursion Lies) (type_parameters one at) (type_parameters other at)
    pub superclass : SameMirror (superclass one (find_in one at)) (superclass other (find_in other at))
    pub interfaces : SameMirrors (interfaces one (find_in one at)) (interfaces other (find_in other at))
    pub supertypes : SameMirrors (declared_supertypes one at) (declared_supertypes other at)
    pub bounds : SameMirrors (bounds one at) (bounds other at)
    pub type_of : SameMirror (type_of one at) (type_of other at)

  -- what one type gives, within any number of steps
  pub record TypeStays (m : Mirror) : Type 0 where
    pub direct : SameList (direct one m) (direct other m)
    pub erasure : (n : ℕ) → SameOption (erasure one n m) (erasure other n m)
    pub boxed : SameOption (boxed one m) (boxed other m)
    pub unboxed : SameOption (unboxed one m) (unboxed other m)
    pub text : text_of one m ≡ text_of other m

  -- what two types are to each other
  pub record PairStays (a b : Mirror) : Type 0 where
    pub subtype : (n : ℕ) → subtype one n a b ≡ subtype other n a b
    pub contained : (n : ℕ) → contained one n a b ≡ contained other n a b
    pub assignable : (n : ℕ) → assignable one n a b ≡ assignable other n a b
    pub subsignature : (n : ℕ) → subsignature one n a b ≡ subsignature other n a b

  -- the members of types
  pub record MembersStay : Type 0 where
    pub member_of :
        (n : ℕ) (container : Mirror) (at : ElementRef) → Within container → Lies at
        → SameOption (member_of one n container at) (member_of other n container at)
    pub members : (n : ℕ) (at : ElementRef) → Lies at → SameElements (members one n at) (members other n at)
    pub overrides : (n : ℕ) (m o t : ElementRef) → Lies m → Lies o → Lies t → overrides one n m o t ≡ overrides other n m o t

  -- all of them
  pub record TypesStay : Type 0 where
    pub elements : (at : ElementRef) → Lies at → ElementStays at
    pub types : (m : Mirror) → Within m → TypeStays m
    pub pairs : (a b : Mirror) → Within a → Within b → PairStays a b
    pub members : MembersStay

-- ---- the laws

abbrev pub AllTypesStay : Type 0
AllTypesStay =
    (table : TypeTable) (names : NameSet) → IsRooted table names → TypesStay table (cut table names) (HasUnit (cut table names))

abbrev pub AllTypesAgree : Type 0
AllTypesAgree =
    (one other : TypeTable) (names : NameSet) → HaveOneCut one other names → TypesStay one other (HasUnit (cut one names))
