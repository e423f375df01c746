-- What a question asks next: what two types decide, and else the direct supertypes.
use Rattle.std.proofs.Common.{◌≡◌, ℕ, Bool, true, false, List, map, Option, None, Some, refl, sym, ap, subst, ◌∙◌}
use Rattle.std.specs.Prelude.{Vec}
use Rattle.std.specs.declared.alloc.Global.{Global}
use Rattle.element_table.specs.TypeTable.{TypeTable}
use Rattle.type_mirror.specs.declared.mirror.Mirror.{Mirror}
use Rattle.type_levels.specs.Numbered.{Stands}
use Rattle.type_levels.specs.Steps as steps
use Rattle.type_levels.specs.declared.answer.Answer.TheVariants.{Yes, Open}
use Rattle.type_levels.specs.declared.question.Next.{Next}
use Rattle.type_levels.specs.declared.question.Next.TheVariants as next_by
use Rattle.type_levels.specs.declared.question.Pair.{Pair}
use Rattle.type_numbers.specs.Numbers.{at, AreKnown}
use Rattle.type_relations.specs.Direct.{direct}
use Rattle.type_subtypes.specs.Assignable.{next_raw}
use Rattle.type_steps.specs.Supertypes.{AllMayStand}
use Rattle.type_subtypes.specs.Numbers.{MayStand, TypesDecide, is_reached, numbered, sub_at, sup_at, with_raw_types, with_subtypes}
use Rattle.type_subtypes.specs.Subtypes.{decided, next_of, or_supertypes, yes_if}

module _ (asks : Mirror → Mirror → steps.Next Mirror) (types : List Mirror) where
  -- what was decided
  early : (n : Next) (o : Option (steps.Next Mirror)) (others : Option (List Mirror)) → MayStand (numbered asks types) (Some n) o
      → Stands (numbered asks types) n (or_supertypes o others)
  early n o others s = record { known = s.known.0; next = ap (λ (x : Option (steps.Next Mirror)). or_supertypes x others) s.next }

  -- the direct supertypes
  up : (o : Option (steps.Next Mirror)) (ns : List ℕ) (numbers : Vec ℕ Global) (others : Option (List Mirror)) → None ≡ o → AllMayStand types (Some ns) others → numbers.items ≡ ns
      → Stands (numbered asks types) (next_by.Supertypes numbers) (or_supertypes o others)
  up o ns numbers others e s is = record {
    known = subst (λ (xs : List ℕ). AreKnown types xs) (sym is) s.known;
    next =
        ap (λ (xs : List ℕ). steps.Supertypes (map (at types) xs)) is
        ∙ ap (λ (ms : Option (List Mirror)). or_supertypes None ms) s.types
        ∙ ap (λ (x : Option (steps.Next Mirror)). or_supertypes x others) e;
  }

  up_open : (o : Option (steps.Next Mirror)) (others : Option (List Mirror)) → None ≡ o → AllMayStand types None others
      → Stands (numbered asks types) (next_by.Decided Open) (or_supertypes o others)
  up_open o others e s = record {
    known = tt;
    next =
        ap (λ (ms : Option (List Mirror)). or_supertypes None ms) s.types
        ∙ ap (λ (x : Option (steps.Next Mirror)). or_supertypes x others) e;
  }

-- what a call gave, where the value that it gave is known
pub found : (table table' : TypeTable) (t : List Mirror) (m : Mirror) (o o' : Option (List ℕ)) → table ≡ table' → o ≡ o' → AllMayStand t o (direct table m)
    → AllMayStand t o' (direct table' m)
found table table' t m o o' e is s =
    subst (λ (x : Option (List ℕ)). AllMayStand t x (direct table' m)) is (subst (λ (x : TypeTable). AllMayStand t o (direct x m)) e s)

module _ (table : TypeTable) where
  -- ---- subtypes

  pub known-decided : (types : List Mirror) (pair : Pair) (o o' : Option Next) → o ≡ o' → TypesDecide table types pair o → TypesDecide table types pair o'
  known-decided types pair o o' is s = subst (λ (x : Option Next). TypesDecide table types pair x) is s

  pub not-decided : (types : List Mirror) (pair : Pair) (o : Option Next) → ((n : Next) → o ≡ Some n → ⊥) → TypesDecide table types pair o → TypesDecide table types pair None
  not-decided types pair None denied s = s
  not-decided types pair (Some n) denied s = absurd (denied n refl)

  pub subtypes-decided : (types : List Mirror) (pair : Pair) (n : Next) → TypesDecide table types pair (Some n)
      → Stands (with_subtypes table types) n (next_of table (sub_at types pair) (sup_at types pair))
  unfolding next_of
  subtypes-decided types pair n s = early (next_of table) types n (decided (sub_at types pair) (sup_at types pair)) (direct table (sub_at types pair)) s

  pub subtypes-up : (old new : List Mirror) (pair : Pair) (ns : List ℕ) (numbers : Vec ℕ Global) → TypesDecide table old pair None
      → AllMayStand new (Some ns) (direct table (sub_at old pair)) → numbers.items ≡ ns
      → Stands (with_subtypes table new) (next_by.Supertypes numbers) (next_of table (sub_at old pair) (sup_at old pair))
  unfolding next_of
  subtypes-up old new pair ns numbers none s is =
      up (next_of table) new (decided (sub_at old pair) (sup_at old pair)) ns numbers (direct table (sub_at old pair)) none.next s is

  pub subtypes-open : (old new : List Mirror) (pair : Pair) → TypesDecide table old pair None → AllMayStand new None (direct table (sub_at old pair))
      → Stands (with_subtypes table new) (next_by.Decided Open) (next_of table (sub_at old pair) (sup_at old pair))
  unfolding next_of
  subtypes-open old new pair none s =
      up_open (next_of table) new (decided (sub_at old pair) (sup_at old pair)) (direct table (sub_at old pair)) none.next s

  -- ---- raw types that are reached

  by_reached : List Mirror → Pair → Bool → steps.Next Mirror
  by_reached types pair t = or_supertypes (yes_if t) (direct table (sub_at types pair))

  pub raw-reached : (types : List Mirror) (pair : Pair) (t : Bool) → t ≡ is_reached table types pair → t ≡ true
      → Stands (with_raw_types table types) (next_by.Decided Yes) (next_raw table (sub_at types pair) (sup_at types pair))
  unfolding next_raw by_reached
  raw-reached types pair t is e = record { known = tt; next = sym (ap (by_reached types pair) (sym is ∙ e)) }

  not_reached : (types : List Mirror) (pair : Pair) (t : Bool) → t ≡ is_reached table types pair → t ≡ false → None ≡ yes_if (is_reached table types pair)
  not_reached types pair t is e = sym (ap (λ (b : Bool). yes_if b) (sym is ∙ e))

  pub raw-up : (old new : List Mirror) (pair : Pair) (t : Bool) (ns : List ℕ) (numbers : Vec ℕ Global) → t ≡ is_reached table old pair → t ≡ false
      → AllMayStand new (Some ns) (direct table (sub_at old pair)) → numbers.items ≡ ns
      → Stands (with_raw_types table new) (next_by.Supertypes numbers) (next_raw table (sub_at old pair) (sup_at old pair))
  unfolding next_raw
  raw-up old new pair t ns numbers is e s items =
      up (next_raw table) new (yes_if (is_reached table old pair)) ns numbers (direct table (sub_at old pair)) (not_reached old pair t is e) s items

  pub raw-open : (old new : List Mirror) (pair : Pair) (t : Bool) → t ≡ is_reached table old pair → t ≡ false → AllMayStand new None (direct table (sub_at old pair))
      → Stands (with_raw_types table new) (next_by.Decided Open) (next_raw table (sub_at old pair) (sup_at old pair))
  unfolding next_raw
  raw-open old new pair t is e s =
      up_open (next_raw table) new (yes_if (is_reached table old pair)) (direct table (sub_at old pair)) (not_reached old pair t is e) s
