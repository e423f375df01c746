-- Subtypes, contained type arguments, assignable types and subsignatures are the same over two tables that agree on what they read.
use Rattle.std.proofs.Common.{◌≡◌, ℕ, Bool, true, false, cond, ◌&&◌, eqb, length, List, [], ◌∷◌, Option, None, Some, refl, ap, ap₂, ◌∙◌}
use Rattle.std.specs.List.{AllByRecursion}
use Rattle.std.specs.Option.{option_map}
use Rattle.apt_base.specs.declared.element.ElementRef.{ElementRef}
use Rattle.element_table.specs.TypeTable.{TypeTable}
use Rattle.type_mirror.specs.declared.mirror.PrimitiveKind.{PrimitiveKind}
use Rattle.type_mirror.specs.declared.mirror.PrimitiveKind.TheVariants as kind
use Rattle.type_mirror.specs.declared.mirror.Mirror.{Mirror}
use Rattle.apt_base.specs.Elements.{same_element}
use Rattle.type_layers.specs.Layers.{Layer, Primitive, Declared, Error, Variable, Array, Unbounded, Extends, Super, Executable, Nothing, Void, Null, Package, layer, mirror_of}
use Rattle.type_layers.specs.Same as types
use Rattle.type_levels.specs.declared.answer.Answer.{Answer}
use Rattle.type_levels.specs.declared.answer.Answer.TheVariants.{Yes, No}
use Rattle.type_levels.specs.Answers.{of_test, either, both}
use Rattle.type_levels.specs.Containment as argument
use Rattle.type_levels.specs.Containment.{Argument, contains, contains_by, in_extends, in_super, each_contained, by_arguments}
use Rattle.type_levels.specs.Steps.{Next, Decided}
use Rattle.type_relations.specs.Boxed.{box_of, primitive_of, boxed, is_box, boxed_kind, unboxed}
use Rattle.type_relations.specs.Direct.{direct}
use Rattle.type_relations.specs.RawTypes.{is_raw_layer, is_raw}
use Rattle.type_subtypes.specs.Subtypes.{argument_in, type_arguments, has_null, same_enclosing, yes_if, by_layers, decided, or_supertypes, next_of, subtype, contained}
use Rattle.type_subtypes.specs.Assignable.{next_raw, reaches_raw, reaches_erased, converted, otherwise, assignable}
use Rattle.type_subtypes.specs.Subsignature.{same_renamed, is_erased, same_erased, of_executables, subsignature}
use Rattle.closed_cuts.specs.Kept.{IfAny}
use Rattle.closed_cuts.proofs.Keeping.{Kept, kept, through}
use Rattle.closed_cuts.proofs.PartsWithin.{Within, LayerWithin, opened, closed_up}
use Rattle.closed_cuts.proofs.AgreeingReads.{Lies, Good, AllGood, SameReads, is_raw_with-same}
use Rattle.closed_cuts.proofs.SameErasures.{SameOption, erasure-kept}
use Rattle.closed_cuts.proofs.SameDirects.{direct-kept}
use Rattle.closed_cuts.proofs.SameSteps.{GoodQuestion, GoodNext, answer-same, within-same}

-- ---- what is asked of two good types is asked of good ones

module _ (P : ElementRef → Type 0) where
  abbrev W : Mirror → Type 0
  W = Within P

  abbrev ArgumentWithin : Argument Mirror → Type 0
  ArgumentWithin (argument.Extends bound) = W bound
  ArgumentWithin (argument.Super bound) = W bound
  ArgumentWithin argument.Unbounded = Unit {0}
  ArgumentWithin argument.Exact = Unit {0}

  argument_within : (l : Layer Mirror) → LayerWithin P l → ArgumentWithin (argument_in l)
  argument_within (Primitive kind) w = tt
  argument_within (Declared at enclosing arguments) w = tt
  argument_within (Error text) w = tt
  argument_within (Variable at) w = tt
  argument_within (Array item) w = tt
  argument_within Unbounded w = tt
  argument_within (Extends bound) w = w
  argument_within (Super bound) w = w
  argument_within (Executable variables parameters outcome thrown) w = tt
  argument_within Nothing w = tt
  argument_within Void w = tt
  argument_within Null w = tt
  argument_within (Package name) w = tt

  extends_good : (x b : Mirror) → W x → W b → (other : Argument Mirror) → ArgumentWithin other → GoodQuestion W (in_extends x b other)
  extends_good x b g h argument.Unbounded w = tt
  extends_good x b g h (argument.Extends y) w = (w, g)
  extends_good x b g h (argument.Super y) w = tt
  extends_good x b g h argument.Exact w = (h, g)

  super_good : (x b : Mirror) → W x → W b → (other : Argument Mirror) → ArgumentWithin other → GoodQuestion W (in_super x b other)
  super_good x b g h argument.Unbounded w = tt
  super_good x b g h (argument.Extends y) w = tt
  super_good x b g h (argument.Super y) w = (g, w)
  super_good x b g h argument.Exact w = (g, h)

  contains_by_good : (same : Bool) (one : Argument Mirror) → ArgumentWithin one → (b : Mirror) → W b → (other : Argument Mirror) → ArgumentWithin other
      → GoodQuestion W (contains_by same one b other)
  contains_by_good same argument.Unbounded v b h other w = tt
  contains_by_good same (argument.Extends x) v b h other w = extends_good x b v h other w
  contains_by_good same (argument.Super x) v b h other w = super_good x b v h other w
  contains_by_good same argument.Exact v b h other w = tt

  pub contains-good : (a b : Mirror) → W a → W b → GoodQuestion W (contains type_arguments a b)
  unfolding contains
  contains-good a b g h =
      contains_by_good (types.same a b) (argument_in (layer a)) (argument_within (layer a) (opened P a g)) b h (argument_in (layer b)) (argument_within (layer b) (opened P b h))

  each_contained_good : (as' bs : List Mirror) → AllByRecursion W as' → AllByRecursion W bs → AllByRecursion (GoodQuestion W) (each_contained type_arguments as' bs)
  each_contained_good [] bs g h = tt
  each_contained_good (a ∷ as') [] g h = tt
  each_contained_good (a ∷ as') (b ∷ bs) g h = (contains-good b a h.0 g.0, each_contained_good as' bs g.1 h.1)

  by_arguments_good : (as' bs : List Mirror) → AllByRecursion W as' → AllByRecursion W bs → GoodNext W (by_arguments type_arguments as' bs)
  by_arguments_good as' [] g h = tt
  by_arguments_good [] (b ∷ bs) g h = tt
  by_arguments_good (a ∷ as') (b ∷ bs) g h =
      elim (eqb (length (a ∷ as')) (length (b ∷ bs))) as (λ c. GoodNext W (cond c (Next.Arguments (each_contained type_arguments (a ∷ as') (b ∷ bs))) (Decided No))) [
        | true ↦ each_contained_good (a ∷ as') (b ∷ bs) g h
        | false ↦ tt
      ]

  yes_good : (holds : Bool) → IfAny (GoodNext W) (yes_if holds)
  yes_good true = tt
  yes_good false = tt

  declared_good : (at : ElementRef) (o : Option Mirror) (as' : List Mirror) → AllByRecursion W as' → (l : Layer Mirror) → LayerWithin P l → IfAny (GoodNext W) (by_layers (Declared at o as') l)
  declared_good at o as' g (Declared at' o' bs) w =
      elim (same_element at at' && same_enclosing o o') as (λ c. IfAny (GoodNext W) (cond c (Some (by_arguments type_arguments as' bs)) None)) [
        | true ↦ by_arguments_good as' bs g w.1.1
        | false ↦ tt
      ]
  declared_good at o as' g (Primitive kind) w = tt
  declared_good at o as' g (Error text) w = tt
  declared_good at o as' g (Variable at') w = tt
  declared_good at o as' g (Array item) w = tt
  declared_good at o as' g Unbounded w = tt
  declared_good at o as' g (Extends bound) w = tt
  declared_good at o as' g (Super bound) w = tt
  declared_good at o as' g (Executable variables parameters outcome thrown) w = tt
  declared_good at o as' g Nothing w = tt
  declared_good at o as' g Void w = tt
  declared_good at o as' g Null w = tt
  declared_good at o as' g (Package name) w = tt

  layers_good : (l k : Layer Mirror) → LayerWithin P l → LayerWithin P k → IfAny (GoodNext W) (by_layers l k)
  layers_good (Declared at o as') k v w = declared_good at o as' v.1.1 k w
  layers_good Null k v w = yes_good (has_null k)
  layers_good (Primitive kind) k v w = tt
  layers_good (Error text) k v w = tt
  layers_good (Variable at) k v w = tt
  layers_good (Array item) k v w = tt
  layers_good Unbounded k v w = tt
  layers_good (Extends bound) k v w = tt
  layers_good (Super bound) k v w = tt
  layers_good (Executable variables parameters outcome thrown) k v w = tt
  layers_good Nothing k v w = tt
  layers_good Void k v w = tt
  layers_good (Package name) k v w = tt

  decided_good : (a b : Mirror) → W a → W b → IfAny (GoodNext W) (decided a b)
  unfolding decided
  decided_good a b g h =
      elim (types.same a b) as (λ c. IfAny (GoodNext W) (cond c (Some (Decided Yes)) (by_layers (layer a) (layer b)))) [
        | true ↦ tt
        | false ↦ layers_good (layer a) (layer b) (opened P a g) (opened P b h)
      ]

  or_good : (d : Option (Next Mirror)) → IfAny (GoodNext W) d → (o : Option (List Mirror)) → IfAny (AllByRecursion W) o → GoodNext W (or_supertypes d o)
  or_good (Some next) g o h = g
  or_good None g None h = tt
  or_good None g (Some types) h = h

module _ (one other : TypeTable) (Has : List ℕ → Type 0) (r : SameReads one other Has) where
  abbrev G : Mirror → Type 0
  G = Good one other Has

  abbrev Gs : List Mirror → Type 0
  Gs = AllGood one other Has

  abbrev L : ElementRef → Type 0
  L = Lies one other Has

  abbrev SameNext : Next Mirror → Next Mirror → Type 0
  SameNext = Kept (GoodNext G)

  -- ---- subtypes

  or_kept : (d d' : Option (Next Mirror)) → Kept (IfAny (GoodNext G)) d d' → (a : Mirror) → G a → SameNext (or_supertypes d (direct one a)) (or_supertypes d' (direct other a))
  or_kept d d' k a g =
      through (IfAny (GoodNext G)) (GoodNext G) (λ d. or_supertypes d (direct one a)) (λ d. or_supertypes d (direct other a)) d d' k (λ d h.
      through (IfAny Gs) (GoodNext G) (or_supertypes d) (or_supertypes d) (direct one a) (direct other a) (direct-kept one other Has r a g) (λ o i.
      kept (GoodNext G) (or_supertypes d o) (or_good L d h o i)))

  pub next-kept : (a b : Mirror) → G a → G b → SameNext (next_of one a b) (next_of other a b)
  unfolding next_of
  next-kept a b g h = or_kept (decided a b) (decided a b) (kept (IfAny (GoodNext G)) (decided a b) (decided_good L a b g h)) a g

  pub subtype-same : (n : ℕ) (a b : Mirror) → G a → G b → subtype one n a b ≡ subtype other n a b
  subtype-same = within-same G (next_of one) (next_of other) next-kept

  pub contained-same : (n : ℕ) (a b : Mirror) → G a → G b → contained one n a b ≡ contained other n a b
  contained-same n a b g h = answer-same G (subtype one n) (subtype other n) (subtype-same n) (contains type_arguments a b) (contains-good L a b g h)

  -- ---- raw types

  raw_layer_same : (l : Layer Mirror) → LayerWithin L l → is_raw_layer one l ≡ is_raw_layer other l
  raw_layer_same (Declared at enclosing arguments) w = is_raw_with-same one other Has r at w.0 arguments
  raw_layer_same (Primitive kind) w = refl
  raw_layer_same (Error text) w = refl
  raw_layer_same (Variable at) w = refl
  raw_layer_same (Array item) w = refl
  raw_layer_same Unbounded w = refl
  raw_layer_same (Extends bound) w = refl
  raw_layer_same (Super bound) w = refl
  raw_layer_same (Executable variables parameters outcome thrown) w = refl
  raw_layer_same Nothing w = refl
  raw_layer_same Void w = refl
  raw_layer_same Null w = refl
  raw_layer_same (Package name) w = refl

  pub is_raw-same : (m : Mirror) → G m → is_raw one m ≡ is_raw other m
  is_raw-same m g = raw_layer_same (layer m) (opened L m g)

  raw_kept : (a b : Mirror) → G a → G b → SameNext (next_raw one a b) (next_raw other a b)
  unfolding next_raw
  raw_kept a b g h =
      or_kept (yes_if (types.same a b && is_raw one a)) (yes_if (types.same a b && is_raw other a))
      (record {
        equal = ap (λ (c : Bool). yes_if (types.same a b && c)) (is_raw-same a g);
        good = yes_good L (types.same a b && is_raw one a);
      }) a g

  reaches_raw-same : (n : ℕ) (a b : Mirror) → G a → G b → reaches_raw one n a b ≡ reaches_raw other n a b
  reaches_raw-same = within-same G (next_raw one) (next_raw other) raw_kept

  reaches_erased-same : (n : ℕ) (a : Mirror) → G a → (o o' : Option Mirror) → SameOption one other Has r o o' → reaches_erased one n a o ≡ reaches_erased other n a o'
  unfolding reaches_erased
  reaches_erased-same n a g o o' k = at o k.good ∙ ap (reaches_erased other n a) k.equal
    where
      at : (o : Option Mirror) → IfAny G o → reaches_erased one n a o ≡ reaches_erased other n a o
      at None h = refl
      at (Some b) h = reaches_raw-same n a b g h

  -- ---- boxes

  pub boxed-kept : (m : Mirror) → SameOption one other Has r (boxed one m) (boxed other m)
  unfolding boxed
  boxed-kept m = at (primitive_of m)
    where
      at : (o : Option PrimitiveKind) → SameOption one other Has r (option_map (box_of one) o) (option_map (box_of other) o)
      at None = kept (IfAny G) None tt
      at (Some kind) = let b = r.boxes kind in record { equal = ap (λ (m : Mirror). Some m) b.equal; good = b.good }

  is_box_same : (m : Mirror) (kind : PrimitiveKind) → is_box one m kind ≡ is_box other m kind
  is_box_same m kind = ap (λ (b : Mirror). types.same b m) (r.boxes kind).equal

  box_kind_same : (m : Mirror) → boxed_kind one m ≡ boxed_kind other m
  box_kind_same m =
      rw (
        is_box_same m kind.Boolean,
        is_box_same m kind.Byte,
        is_box_same m kind.Short,
        is_box_same m kind.Int,
        is_box_same m kind.Long,
        is_box_same m kind.Char,
        is_box_same m kind.Float,
        is_box_same m kind.Double,
      ) refl

  unboxed_good : (o : Option PrimitiveKind) → IfAny G (option_map (λ kind. mirror_of (Primitive kind)) o)
  unboxed_good None = tt
  unboxed_good (Some kind) = closed_up L (Primitive kind) tt

  pub unboxed-kept : (m : Mirror) → SameOption one other Has r (unboxed one m) (unboxed other m)
  unfolding unboxed
  unboxed-kept m = record {
    equal = ap (option_map (λ kind. mirror_of (Primitive kind))) (box_kind_same m);
    good = unboxed_good (boxed_kind one m);
  }

  -- ---- assignable types

  converted-same : (n : ℕ) (o o' : Option Mirror) → SameOption one other Has r o o' → (b : Mirror) → G b → converted one n o b ≡ converted other n o' b
  unfolding converted
  converted-same n o o' k b h = at o k.good ∙ ap (λ (x : Option Mirror). converted other n x b) k.equal
    where
      at : (o : Option Mirror) → IfAny G o → converted one n o b ≡ converted other n o b
      at None g = refl
      at (Some a) g = subtype-same n a b g h

  otherwise-same : (n : ℕ) (a b : Mirror) → G a → G b → otherwise one n a b ≡ otherwise other n a b
  unfolding otherwise
  otherwise-same n a b g h =
      rw (
        converted-same n _ _ (boxed-kept a) b h,
        converted-same n _ _ (unboxed-kept a) b h,
        reaches_erased-same n a g _ _ (erasure-kept one other Has r n b h),
      ) refl

  pub assignable-same : (n : ℕ) (a b : Mirror) → G a → G b → assignable one n a b ≡ assignable other n a b
  unfolding assignable
  assignable-same n a b g h = rw (subtype-same n a b g h, otherwise-same n a b g h) refl

  -- ---- subsignatures

  same_erased_same : (n : ℕ) (as' bs : List Mirror) → Gs bs → same_erased one n as' bs ≡ same_erased other n as' bs
  same_erased_same n [] [] h = refl
  same_erased_same n [] (b ∷ bs) h = refl
  same_erased_same n (a ∷ as') [] h = refl
  same_erased_same n (a ∷ as') (b ∷ bs) h =
      ap₂ (λ (x : Option Mirror) (y : Answer). both (is_erased a x) y) (erasure-kept one other Has r n b h.0).equal (same_erased_same n as' bs h.1)

  executables_same : (n : ℕ) (l k : Layer Mirror) → LayerWithin L k → of_executables one n l k ≡ of_executables other n l k
  executables_same n (Executable ones as' outcome thrown) (Executable others bs outcome' thrown') w =
      ap (λ (x : Answer). either (of_test (same_renamed ones as' others bs)) x) (same_erased_same n as' bs w.1.0)
  executables_same n (Executable ones as' outcome thrown) (Primitive kind) w = refl
  executables_same n (Executable ones as' outcome thrown) (Declared at enclosing arguments) w = refl
  executables_same n (Executable ones as' outcome thrown) (Error text) w = refl
  executables_same n (Executable ones as' outcome thrown) (Variable at) w = refl
  executables_same n (Executable ones as' outcome thrown) (Array item) w = refl
  executables_same n (Executable ones as' outcome thrown) Unbounded w = refl
  executables_same n (Executable ones as' outcome thrown) (Extends bound) w = refl
  executables_same n (Executable ones as' outcome thrown) (Super bound) w = refl
  executables_same n (Executable ones as' outcome thrown) Nothing w = refl
  executables_same n (Executable ones as' outcome thrown) Void w = refl
  executables_same n (Executable ones as' outcome thrown) Null w = refl
  executables_same n (Executable ones as' outcome thrown) (Package name) w = refl
  executables_same n (Primitive kind) k w = refl
  executables_same n (Declared at enclosing arguments) k w = refl
  executables_same n (Error text) k w = refl
  executables_same n (Variable at) k w = refl
  executables_same n (Array item) k w = refl
  executables_same n Unbounded k w = refl
  executables_same n (Extends bound) k w = refl
  executables_same n (Super bound) k w = refl
  executables_same n Nothing k w = refl
  executables_same n Void k w = refl
  executables_same n Null k w = refl
  executables_same n (Package name) k w = refl

  pub subsignature-same : (n : ℕ) (a b : Mirror) → G b → subsignature one n a b ≡ subsignature other n a b
  unfolding subsignature
  subsignature-same n a b h = executables_same n (layer a) (layer b) (opened L b h)
