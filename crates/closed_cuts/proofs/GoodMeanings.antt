-- The elements of the mirror that a type text means are those that its names, and their fronts, mean.
use Rattle.std.proofs.Common.{◌≡◌, ℕ, suc, ◌+◌, Bool, true, false, cond, ◌||◌, List, [], ◌∷◌, ◌++◌, length, take, map, codes, Option, None, Some, is_some, refl, sym, ap, subst, ◌∙◌, append_assoc, arith}
use Rattle.std.specs.List.{AllByRecursion}
use Rattle.std.specs.Option.{option_to_list}
use Rattle.apt_base.specs.declared.element.ElementRef.{ElementRef}
use Rattle.decl_tree.specs.declared.declaration.TypeDecl.{TypeDecl}
use Rattle.decl_tree.specs.declared.type_text.PrimitiveKind.TheVariants as primitive
use Rattle.decl_tree.specs.declared.type_text.PrimitiveKind.{PrimitiveKind}
use Rattle.decl_tree.specs.declared.type_text.TypeText.{TypeText, roll-TypeText}
use Rattle.decl_tree.specs.declared.type_text.BaseType.{BaseType, roll-BaseType}
use Rattle.decl_tree.specs.declared.type_text.BaseType.TheOpen.{BaseType-F, NamedPart-F, TypeText-F}
use Rattle.decl_tree.specs.declared.type_text.BaseType.TheFolds.{map-BaseType, map-NamedPart, map-TypeText, ind-TypeText}
use Rattle.decl_tree.specs.declared.type_text.NamedPart.{NamedPart, out-NamedPart, roll-NamedPart, roll-out-NamedPart}
use Rattle.type_mirror.specs.declared.mirror.PrimitiveKind.TheVariants as kind
use Rattle.apt_base.specs.declared.around.Around.{Around as Wrapper}
use Rattle.apt_base.specs.declared.around.Around.TheVariants as wrapper
use Rattle.type_mirror.specs.declared.mirror.Mirror.{Mirror, roll-out-Mirror}
use Rattle.type_mirror.specs.Parts.{plain, wrapped}
use Rattle.type_layers.specs.Layers as layers
use Rattle.type_layers.specs.Layers.{mirror_of}
use Rattle.type_numbers.proofs.ReplacedLayers.{wrapped-more}
use Rattle.name_resolve.specs.Ways.{type_at}
use Rattle.name_resolve.specs.Finds.{Finds, Nothing, One, Several}
use Rattle.name_resolve.specs.Mirrors.{Meant, MeantPart, Look, or_none, ref_of, element_mirror, found_mirror, named_mirror, parts_mirror, primitive_base, meant, base_meant, part_meant}
use Rattle.name_resolve.proofs.MirrorsLemmas.{base-rolls, part-rolls, text-rolls}
use Rattle.reach_map.specs.Chains.{Chains, gathered, type_chains}
use Rattle.decl_elements.proofs.Everywhere.{each_of_map, each_of_flat_map}
use Rattle.reach_map.proofs.ChainsLemmas.{base_chains, part_chains, part_name-is, base_chains-roll, part_chains-roll, type_chains-roll}
use Rattle.closed_cuts.specs.Kept.{IfAny}
use Rattle.closed_cuts.proofs.PartsWithin.{Within, AllWithin, closed_up}

-- the first names of a longer chain
front_of : (names : List (List ℕ)) (name : List ℕ) (more : List (List ℕ)) → take (length names + 1) (names ++ name ∷ more) ≡ names ++ name ∷ []
front_of [] name more = refl
front_of (first ∷ names) name more =
    let longer : suc (length names) + 1 ≡ suc (length names + 1) = omega arith in
    rw longer (ap (λ ns. first ∷ ns) (front_of names name more))

module _ (P : ElementRef → Type 0) where
  -- what is found has it
  abbrev pub FindsHave : Finds → Type 0
  FindsHave (One f) = P (ref_of f)
  FindsHave Nothing = Unit {0}
  FindsHave Several = Unit {0}

  abbrev G : Mirror → Type 0
  G = Within P

  list_of : (o : Option Mirror) → IfAny G o → AllWithin P (option_to_list o)
  list_of None g = tt
  list_of (Some m) g = (g, tt)

  element_good : (d : Option TypeDecl) (at : ElementRef) → P at → (enclosing : Option Mirror) → IfAny G enclosing → (arguments : List Mirror) → AllWithin P arguments
      → G (element_mirror d at enclosing arguments)
  unfolding mirror_of
  element_good (Some d) at p enclosing g arguments h = closed_up P (layers.Declared at enclosing arguments) (p, (list_of enclosing g, h))
  element_good None at p enclosing g arguments h = closed_up P (layers.Variable at) p

  pub found-good : (fs : Finds) → FindsHave fs → (text : List ℕ) (enclosing : Option Mirror) → IfAny G enclosing → (arguments : List Mirror) → AllWithin P arguments
      → G (found_mirror fs text enclosing arguments)
  unfolding mirror_of
  found-good (One f) p text enclosing g arguments h = element_good (type_at f.unit f.path) (ref_of f) p enclosing g arguments h
  found-good Nothing p text enclosing g arguments h = closed_up P (layers.Error text) tt
  found-good Several p text enclosing g arguments h = closed_up P (layers.Error text) tt

  one_good : (around : Wrapper) (m : Mirror) → G m → G (wrapped (around ∷ []) m)
  unfolding mirror_of
  one_good wrapper.Array m g = closed_up P (layers.Array m) g
  one_good wrapper.Extends m g = closed_up P (layers.Extends m) g
  one_good wrapper.Super m g = closed_up P (layers.Super m) g

  wrapped_good : (around : List Wrapper) (m : Mirror) → G m → G (wrapped around m)
  wrapped_good [] m g = subst G (sym (roll-out-Mirror m)) g
  wrapped_good (a ∷ around) m g = subst G (wrapped-more a around m) (one_good a (wrapped around m) (wrapped_good around m g))

  primitive_good : (k : PrimitiveKind) → G (plain (primitive_base k))
  unfolding mirror_of
  primitive_good primitive.Boolean = closed_up P (layers.Primitive kind.Boolean) tt
  primitive_good primitive.Byte = closed_up P (layers.Primitive kind.Byte) tt
  primitive_good primitive.Short = closed_up P (layers.Primitive kind.Short) tt
  primitive_good primitive.Int = closed_up P (layers.Primitive kind.Int) tt
  primitive_good primitive.Long = closed_up P (layers.Primitive kind.Long) tt
  primitive_good primitive.Char = closed_up P (layers.Primitive kind.Char) tt
  primitive_good primitive.Float = closed_up P (layers.Primitive kind.Float) tt
  primitive_good primitive.Double = closed_up P (layers.Primitive kind.Double) tt
  primitive_good primitive.Void = closed_up P layers.Void tt

  error_good : (text : List ℕ) → G (mirror_of (layers.Error text))
  error_good text = closed_up P (layers.Error text) tt

  wildcard_good : G (mirror_of layers.Unbounded)
  wildcard_good = closed_up P layers.Unbounded tt

  module _ (look : Look) where
    abbrev NamesHave : List (List ℕ) → Type 0
    NamesHave names = FindsHave (look.whole names) × FindsHave (look.front names)

    -- each front of a chain means what has it
    abbrev pub HaveAt : List (List ℕ) → Type 0
    HaveAt chain = (front : ℕ) → NamesHave (take front chain)

    abbrev AllHave : Chains → Type 0
    AllHave chains = AllByRecursion HaveAt chains

    abbrev PartGood : MeantPart → Type 0
    PartGood part = IfAny (AllWithin P) part.arguments

    names_of : List MeantPart → List (List ℕ)
    names_of parts = map (λ (p : MeantPart). p.name) parts

    front_has : (names : List (List ℕ)) (name : List ℕ) (more : List (List ℕ)) → HaveAt (names ++ name ∷ more) → NamesHave (names ++ name ∷ [])
    front_has names name more has = subst NamesHave (front_of names name more) (has (length names + 1))

    or_none_good : (o : Option (List Mirror)) → IfAny (AllWithin P) o → AllWithin P (or_none o)
    or_none_good None g = tt
    or_none_good (Some list) g = g

    enclosing_good : (b : Bool) (m : Mirror) → G m → IfAny G (cond b (Some m) None)
    enclosing_good true m g = g
    enclosing_good false m g = tt

    named_good : (names : List (List ℕ)) (text : List ℕ) (enclosing : Option Mirror) → IfAny G enclosing → (part : MeantPart) (more : List MeantPart) → PartGood part → AllByRecursion PartGood more
        → HaveAt (names ++ part.name ∷ names_of more) → G (named_mirror look names text enclosing part more)
    unfolding names_of
    named_good names text enclosing g part [] p ps has =
        found-good (look.whole (names ++ part.name ∷ [])) (front_has names part.name [] has).0 (text ++ part.text) enclosing g (or_none part.arguments) (or_none_good part.arguments p)
    named_good names text enclosing g part (next ∷ more) p ps has =
        let longer : List (List ℕ) = names ++ part.name ∷ [] in
        let here : Mirror = found_mirror (look.front longer) (text ++ part.text) enclosing (or_none part.arguments) in
        let good : G here = found-good (look.front longer) (front_has names part.name (next.name ∷ names_of more) has).1 (text ++ part.text) enclosing g (or_none part.arguments) (or_none_good part.arguments p) in
        named_good longer (text ++ part.text ++ codes ".") (cond (is_some enclosing || is_some part.arguments) (Some here) None)
        (enclosing_good (is_some enclosing || is_some part.arguments) here good) next more ps.0 ps.1
        (subst HaveAt (sym (append_assoc names (part.name ∷ []) (next.name ∷ names_of more))) has)

    parts_good : (parts : List MeantPart) → AllByRecursion PartGood parts → HaveAt (names_of parts) → G (parts_mirror look parts)
    unfolding names_of mirror_of
    parts_good [] ps has = error_good []
    parts_good (part ∷ more) ps has = named_good [] [] None tt part more ps.0 ps.1 has

    -- ---- all types

    abbrev BaseGood : BaseType → Type 0
    BaseGood b = AllHave (base_chains b) → G (base_meant look b).mirror

    abbrev PartHas : NamedPart → Type 0
    PartHas p = AllHave (part_chains p).1 → PartGood (part_meant look p)

    abbrev TextGood : TypeText → Type 0
    TextGood t = AllHave (type_chains t) → G (meant look t).mirror

    abbrev KeptBase : Type 0
    KeptBase = (b : BaseType) × BaseGood b

    abbrev KeptPart : Type 0
    KeptPart = (p : NamedPart) × PartHas p

    abbrev Kept : Type 0
    Kept = (t : TypeText) × TextGood t

    abbrev base_layer : BaseType-F KeptBase KeptPart Kept → BaseType-F BaseType NamedPart TypeText
    base_layer = map-BaseType KeptBase KeptPart Kept BaseType NamedPart TypeText (λ e. e.0) (λ e. e.0) (λ e. e.0)

    abbrev part_layer : NamedPart-F KeptBase KeptPart Kept → NamedPart-F BaseType NamedPart TypeText
    part_layer = map-NamedPart KeptBase KeptPart Kept BaseType NamedPart TypeText (λ e. e.0) (λ e. e.0) (λ e. e.0)

    abbrev text_layer : TypeText-F KeptBase KeptPart Kept → TypeText-F BaseType NamedPart TypeText
    text_layer = map-TypeText KeptBase KeptPart Kept BaseType NamedPart TypeText (λ e. e.0) (λ e. e.0) (λ e. e.0)

    abbrev parts_of : List KeptPart → List NamedPart
    parts_of kept = map (λ k. k.0) kept

    abbrev texts_of : List Kept → List TypeText
    texts_of kept = map (λ k. k.0) kept

    each_part : (kept : List KeptPart) → AllByRecursion (λ p. AllHave (part_chains p).1) (parts_of kept) → AllByRecursion PartGood (map (part_meant look) (parts_of kept))
    each_part [] a = tt
    each_part (k ∷ ks) a = (k.1 a.0, each_part ks a.1)

    each_text : (kept : List Kept) → AllByRecursion (λ t. AllHave (type_chains t)) (texts_of kept) → AllWithin P (map (λ m. m.mirror) (map (meant look) (texts_of kept)))
    each_text [] a = tt
    each_text (k ∷ ks) a = (k.1 a.0, each_text ks a.1)

    meant_name : (p : NamedPart) → (part_meant look p).name ≡ (part_chains p).0
    meant_name p =
        ap (λ (q : NamedPart). (part_meant look q).name) (sym (roll-out-NamedPart p)) ∙ ap (λ (m : MeantPart). m.name) (part-rolls look (out-NamedPart p)) ∙ sym (part_name-is p)

    meant_names : (ps : List NamedPart) → names_of (map (part_meant look) ps) ≡ map (λ (p : List ℕ × Chains). p.0) (map part_chains ps)
    unfolding names_of
    meant_names [] = refl
    meant_names (p ∷ ps) = rw (meant_name p, meant_names ps) refl

    abbrev MeantGood : Meant → Type 0
    MeantGood m = G m.mirror

    base_good : (y : BaseType-F KeptBase KeptPart Kept) → BaseGood (roll-BaseType (base_layer y))
    unfolding mirror_of
    base_good (BaseType-F.Primitive k) a = subst MeantGood (sym (base-rolls look (BaseType-F.Primitive k))) (primitive_good k)
    base_good BaseType-F.Wildcard a = subst MeantGood (sym (base-rolls look BaseType-F.Wildcard)) wildcard_good
    base_good (BaseType-F.Named kept) a =
        let ps = parts_of kept in
        let all = subst AllHave (base_chains-roll (BaseType-F.Named ps)) a in
        let goods = each_part kept (each_of_map (λ c. AllHave c.1) part_chains ps (each_of_flat_map HaveAt (λ p. p.1) (map part_chains ps) all.1)) in
        let named : HaveAt (names_of (map (part_meant look) ps)) = subst HaveAt (sym (meant_names ps)) all.0 in
        subst MeantGood (sym (base-rolls look (BaseType-F.Named ps))) (parts_good (map (part_meant look) ps) goods named)

    part_good_with : (name : List ℕ) (arguments : Option (List Kept)) → PartHas (roll-NamedPart (part_layer (record { name = name; arguments = arguments })))
    part_good_with name None a = subst PartGood (sym (part-rolls look (record { name = name; arguments = None }))) tt
    part_good_with name (Some kept) a =
        let ts = texts_of kept in
        let x : NamedPart-F BaseType NamedPart TypeText = record { name = name; arguments = Some ts } in
        let all = subst (λ (c : List ℕ × Chains). AllHave c.1) (part_chains-roll x) a in
        subst PartGood (sym (part-rolls look x)) (each_text kept (each_of_map AllHave type_chains ts (each_of_flat_map HaveAt gathered (map type_chains ts) all)))

    part_good : (y : NamedPart-F KeptBase KeptPart Kept) → PartHas (roll-NamedPart (part_layer y))
    part_good y = part_good_with y.name y.arguments

    text_good : (y : TypeText-F KeptBase KeptPart Kept) → TextGood (roll-TypeText (text_layer y))
    text_good y a =
        let x = text_layer y in
        subst MeantGood (sym (text-rolls look x))
        (wrapped_good y.around (base_meant look y.base.0).mirror (y.base.1 (subst AllHave (type_chains-roll x) a)))

    pub mirror-good : (text : TypeText) → AllHave (type_chains text) → G (meant look text).mirror
    mirror-good = ind-TypeText BaseGood PartHas TextGood
        (λ x y same. subst (λ (x : BaseType-F BaseType NamedPart TypeText). BaseGood (roll-BaseType x)) same (base_good y))
        (λ x y same. subst (λ (x : NamedPart-F BaseType NamedPart TypeText). PartHas (roll-NamedPart x)) same (part_good y))
        (λ x y same. subst (λ (x : TypeText-F BaseType NamedPart TypeText). TextGood (roll-TypeText x)) same (text_good y))
