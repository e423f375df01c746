-- The laws on types over closed cuts.
use Rattle.std.proofs.Common.{ℕ, List, length, Option, ap}
use Rattle.std.specs.Option.{option_map}
use Rattle.apt_base.specs.declared.element.ElementRef.{ElementRef}
use Rattle.decl_elements.specs.Modifiers as modifier
use Rattle.decl_elements.specs.Nodes.{Node, children}
use Rattle.closed_cuts.specs.CutElements.{HasUnit}
use Rattle.closed_cuts.specs.TypeLaws.{Lies, Within, ElementStays, TypeStays, PairStays, MembersStay, TypesStay, AllTypesStay, AllTypesAgree}
use Rattle.element_table.specs.TypeTable.{TypeTable}
use Rattle.type_mirror.specs.declared.mirror.Mirror.{Mirror}
use Rattle.reach_map.specs.ClosedCuts.{cut}
use Rattle.closed_cuts.proofs.AgreeingReads.{SameReads, node-same, enclosing-same, canonical-same, type_parameters-kept, declared_supertypes-kept, bounds-kept}
use Rattle.closed_cuts.proofs.SameErasures.{erasure-kept}
use Rattle.closed_cuts.proofs.SameDirects.{direct-kept}
use Rattle.closed_cuts.proofs.SameSubtypes.{subtype-same, contained-same, boxed-kept, unboxed-kept, assignable-same, subsignature-same}
use Rattle.closed_cuts.proofs.SameTypesOf.{enclosing-lies, type_of-kept, text_of-same}
use Rattle.closed_cuts.proofs.SameMembersOf.{member_of-kept}
use Rattle.closed_cuts.proofs.SameOverriding.{overrides-same}
use Rattle.closed_cuts.proofs.SameMemberLists.{members-kept}
use Rattle.closed_cuts.proofs.CutReads.{cut_reads}
use Rattle.closed_cuts.proofs.AgreeingCuts.{agree_reads}

module _ (one other : TypeTable) (Has : List ℕ → Type 0) (r : SameReads one other Has) where
  elements-by : (at : ElementRef) → Lies one other Has at → ElementStays one other Has at
  elements-by at l =
      let node = node-same one other Has r at l in
      record {
        node = node;
        children = ap (λ (o : Option Node). option_map (λ node. length (children node)) o) node;
        modifiers = ap (λ (o : Option Node). option_map modifier.modifiers o) node;
        enclosing = enclosing-same one other Has r at l;
        around = enclosing-lies one other Has r at l;
        canonical = canonical-same one other Has r at l;
        parameters = type_parameters-kept one other Has r at l;
        superclass = r.superclasses at l;
        interfaces = r.interfaces at l;
        supertypes = declared_supertypes-kept one other Has r at l;
        bounds = bounds-kept one other Has r at l;
        type_of = type_of-kept one other Has r at l;
      }

  types-by : (m : Mirror) → Within one other Has m → TypeStays one other Has m
  types-by m w = record {
    direct = direct-kept one other Has r m w;
    erasure = λ n. erasure-kept one other Has r n m w;
    boxed = boxed-kept one other Has r m;
    unboxed = unboxed-kept one other Has r m;
    text = text_of-same one other Has r m w;
  }

  pairs-by : (a b : Mirror) → Within one other Has a → Within one other Has b → PairStays one other Has a b
  pairs-by a b v w = record {
    subtype = λ n. subtype-same one other Has r n a b v w;
    contained = λ n. contained-same one other Has r n a b v w;
    assignable = λ n. assignable-same one other Has r n a b v w;
    subsignature = λ n. subsignature-same one other Has r n a b w;
  }

  members-by : MembersStay one other Has
  members-by = record {
    member_of = λ n container at w l. member_of-kept one other Has r n container w at l;
    members = λ n at l. members-kept one other Has r n at l;
    overrides = λ n m o t k j l. overrides-same one other Has r n m o t k j l;
  }

  all-by : TypesStay one other Has
  all-by = record { elements = elements-by; types = types-by; pairs = pairs-by; members = members-by }

pub types-stay : AllTypesStay
types-stay table names rooted = all-by table (cut table names) (HasUnit (cut table names)) (cut_reads table names rooted)

pub types-agree : AllTypesAgree
types-agree one other names same = all-by one other (HasUnit (cut one names)) (agree_reads one other names same)
