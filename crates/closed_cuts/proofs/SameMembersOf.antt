-- The type of a member as a member of a type is the same over two tables that agree on what it reads.
use Rattle.std.proofs.Common.{◌≡◌, ℕ, zero, suc, Bool, not, ◌||◌, List, [], ◌∷◌, map, find, flat_map, length, unwrap_or, Option, None, Some, ap, ap₂}
use Rattle.std.specs.List.{AllByRecursion, range_with_len}
use Rattle.std.specs.Option.{option_map, option_and_then, option_or}
use Rattle.apt_base.specs.declared.element.ElementRef.{ElementRef}
use Rattle.decl_elements.specs.Modifiers as modifier
use Rattle.decl_elements.specs.Modifiers.{has, modifiers}
use Rattle.decl_elements.specs.Nodes.{Node}
use Rattle.element_table.specs.TypeTable.{TypeTable}
use Rattle.type_mirror.specs.declared.mirror.Mirror.{Mirror}
use Rattle.type_mirror.specs.Substitution.{Replacements, substituted}
use Rattle.type_relations.specs.Closed.{closed}
use Rattle.type_relations.specs.Direct.{direct}
use Rattle.type_relations.specs.Elements.{around_of, has_type_parameters}
use Rattle.type_relations.specs.Erasure.{erasure}
use Rattle.type_relations.specs.RawTypes.{is_raw}
use Rattle.type_elements.specs.MemberElements.{has_modifier, front, all_around, is_in_parameterized}
use Rattle.type_members.specs.MemberOf.{is_of, further, nearest, supertype_of, is_fixed, seen_in, member_of}
use Rattle.closed_cuts.specs.Kept.{IfAny}
use Rattle.closed_cuts.proofs.Keeping.{Kept, kept, by_equal, chosen, through, map-kept, and_then-kept, option_map-kept, closed-kept, flat-good, find-good, list_any-same}
use Rattle.closed_cuts.proofs.Replacing.{EntriesWithin, substituted-within}
use Rattle.closed_cuts.proofs.AgreeingReads.{Lies, Good, AllGood, SameMirror, SameReads, node-same, has_type_parameters-same}
use Rattle.closed_cuts.proofs.SameErasures.{SameOption, SameList, erasure-kept, replacements-kept}
use Rattle.closed_cuts.proofs.SameDirects.{direct-kept}
use Rattle.closed_cuts.proofs.SameSubtypes.{is_raw-same}
use Rattle.closed_cuts.proofs.SameTypesOf.{around-same, type_of-kept}

module _ (one other : TypeTable) (Has : List ℕ → Type 0) (r : SameReads one other Has) where
  abbrev G : Mirror → Type 0
  G = Good one other Has

  abbrev Gs : List Mirror → Type 0
  Gs = AllGood one other Has

  abbrev L : ElementRef → Type 0
  L = Lies one other Has

  abbrev Options : Option Mirror → Option Mirror → Type 0
  Options = SameOption one other Has r

  abbrev Lists : Option (List Mirror) → Option (List Mirror) → Type 0
  Lists = SameList one other Has r

  -- ---- the supertype that is of an element

  flat_kept : (mss : List (List Mirror)) → AllByRecursion Gs mss → Kept Gs (flat_map (λ supertypes. supertypes) mss) (flat_map (λ supertypes. supertypes) mss)
  flat_kept mss g = kept Gs (flat_map (λ supertypes. supertypes) mss) (flat-good G mss g)

  further_kept : (types : List Mirror) → Gs types → Lists (further one types) (further other types)
  further_kept types g =
      through (IfAny (AllByRecursion Gs)) (IfAny Gs) (option_map (flat_map (λ supertypes. supertypes))) (option_map (flat_map (λ supertypes. supertypes)))
      (closed (map (direct one) types)) (closed (map (direct other) types))
      (closed-kept Gs _ _ (map-kept G (IfAny Gs) (direct one) (direct other) (direct-kept one other Has r) types g))
      (option_map-kept (AllByRecursion Gs) Gs (flat_map (λ supertypes. supertypes)) (flat_map (λ supertypes. supertypes)) flat_kept)

  or_kept : (o : Option Mirror) → IfAny G o → (p p' : Option Mirror) → Options p p' → Options (option_or o p) (option_or o p')
  or_kept None g p p' k = k
  or_kept (Some m) g p p' k = kept (IfAny G) (Some m) g

  pub nearest-kept : (at : ElementRef) (n : ℕ) (types : List Mirror) → Gs types → Options (nearest one at n types) (nearest other at n types)
  unfolding nearest
  nearest-kept at zero types g = kept (IfAny G) (find (is_of at) types) (find-good G (is_of at) types g)
  nearest-kept at (suc n) types g =
      or_kept (find (is_of at) types) (find-good G (is_of at) types g) _ _
      (through (IfAny Gs) (IfAny G) (option_and_then (nearest one at n)) (option_and_then (nearest other at n)) (further one types) (further other types) (further_kept types g)
      (and_then-kept Gs G (nearest one at n) (nearest other at n) (nearest-kept at n)))

  -- ---- members

  pub modifier-same : (wanted : ℕ) (at : ElementRef) → L at → has_modifier one wanted at ≡ has_modifier other wanted at
  modifier-same wanted at l = ap (λ (o : Option Node). has wanted (unwrap_or (option_map modifiers o) modifier.none)) (node-same one other Has r at l)

  fronts_lie : (at : ElementRef) → L at → (numbers : List ℕ) → AllByRecursion L (map (front at) numbers)
  fronts_lie at l [] = tt
  fronts_lie at l (n ∷ numbers) = (l, fronts_lie at l numbers)

  parameterized_same : (at : ElementRef) → L at → is_in_parameterized one at ≡ is_in_parameterized other at
  parameterized_same at l =
      list_any-same L (has_type_parameters one) (has_type_parameters other) (has_type_parameters-same one other Has r) (all_around at) (fronts_lie at l (range_with_len 0 (length at.path)))

  fixed_same : (at : ElementRef) → L at → is_fixed one at ≡ is_fixed other at
  fixed_same at l = ap₂ (λ (a : Bool) (b : Bool). a || not b) (modifier-same modifier.is_static at l) (parameterized_same at l)

  some_kept : (m m' : Mirror) → SameMirror one other Has m m' → Options (Some m) (Some m')
  some_kept m m' k = record { equal = ap (λ (x : Mirror). Some x) k.equal; good = k.good }

  replaced_kept : (by by' : Replacements) (m m' : Mirror) → Kept (EntriesWithin L) by by' → SameMirror one other Has m m' → SameMirror one other Has (substituted by m) (substituted by' m')
  replaced_kept by by' m m' k l = record {
    equal = ap₂ (λ (b : Replacements) (x : Mirror). substituted b x) k.equal l.equal;
    good = substituted-within L by k.good m l.good;
  }

  seen_kept : (n : ℕ) (at : ElementRef) → L at → (declaring : Mirror) → G declaring → Options (seen_in one n at declaring) (seen_in other n at declaring)
  seen_kept n at l declaring g =
      let t = type_of-kept one other Has r at l in
      chosen (IfAny G) (is_raw one declaring) (is_raw other declaring) _ _ _ _ (is_raw-same one other Has r declaring g)
      (through G (IfAny G) (erasure one n) (erasure other n) _ _ t (erasure-kept one other Has r n))
      (some_kept _ _ (replaced_kept _ _ _ _ (replacements-kept one other Has r declaring g) t))

  supertype_kept : (n : ℕ) (at : ElementRef) → L at → (m : Mirror) → G m → Options (supertype_of one n (around_of one at) m) (supertype_of other n (around_of other at) m)
  supertype_kept n at l m g =
      by_equal (IfAny G) (λ (around : ElementRef). supertype_of one n around m) (λ (around : ElementRef). supertype_of other n around m) (around_of one at) (around_of other at)
      (around-same one other Has r at l) (nearest-kept (around_of one at) n (m ∷ []) (g, tt))

  -- a member as a member of a type
  pub member_of-kept : (n : ℕ) (container : Mirror) → G container → (at : ElementRef) → L at → Options (member_of one n container at) (member_of other n container at)
  unfolding member_of
  member_of-kept n container g at l =
      chosen (IfAny G) (is_fixed one at) (is_fixed other at) _ _ _ _ (fixed_same at l)
      (some_kept _ _ (type_of-kept one other Has r at l))
      (through (IfAny G) (IfAny G) (option_and_then (seen_in one n at)) (option_and_then (seen_in other n at)) _ _ (supertype_kept n at l container g)
      (and_then-kept G G (seen_in one n at) (seen_in other n at) (seen_kept n at l)))
