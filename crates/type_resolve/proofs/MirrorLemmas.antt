-- The mirror of a type by what the type is made of, and that its text is the spelling.
use Rattle.std.proofs.Common.{◌≡◌, ℕ, ◌+◌, ◌<◌, ◌≤◌, length, take, drop, get_or, length-drop, length-take-le, List, [], ◌∷◌, ◌++◌, map, Option, None, Some, Result, Ok, Err, IfOk, codes, refl, sym, ap, ap₂, subst, ◌∙◌, append_assoc, append-nil, arith}
use Rattle.std.proofs.lemmas.List.{map-append, length-map, drop_more, take_more, nil_from_length}
use denote.Ref.{Bor}
use Rattle.name_resolve.specs.Parts.{lent}
use Rattle.std.proofs.lemmas.List.Concat.{flat_map-append}
use Rattle.std.specs.List.{join_with_byte}
use Rattle.std.specs.Option.{option_map}
use Rattle.decl_tree.specs.declared.type_text.PrimitiveKind.{PrimitiveKind}
use Rattle.decl_tree.specs.declared.type_text.BaseType.{BaseType, roll-BaseType}
use Rattle.decl_tree.specs.declared.type_text.BaseType.TheVariants as of
use Rattle.decl_tree.specs.declared.type_text.BaseType.TheOpen.{BaseType-F, NamedPart-F, TypeText-F}
use Rattle.decl_tree.specs.declared.type_text.BaseType.TheFolds.{map-BaseType, map-NamedPart, map-TypeText, ind-NamedPart}
use Rattle.decl_tree.specs.declared.type_text.NamedPart.{NamedPart, out-NamedPart, roll-NamedPart, roll-out-NamedPart}
use Rattle.decl_tree.specs.declared.type_text.TypeText.{TypeText, out-TypeText, roll-TypeText, roll-out-TypeText}
use Rattle.type_mirror.specs.declared.mirror.BaseMirror.TheVariants as base
use Rattle.type_mirror.specs.declared.mirror.Mirror.{Mirror}
use Rattle.type_mirror.specs.Parts.{plain, wrapped}
use Rattle.name_resolve.specs.Mirrors as means
use Rattle.name_resolve.specs.Mirrors.{Meant, MeantPart, Look, meant, base_meant, part_meant, primitive_base, parts_mirror, named_mirror, found_mirror, or_none}
use Rattle.name_resolve.specs.Supertypes.{part_name}
use Rattle.name_resolve.proofs.MirrorsLemmas.{base-rolls, part-rolls, text-rolls}
use Rattle.type_resolve.specs.MirrorParts.{whole_mirror, next_enclosing, fronts_text, class_from}
use Rattle.type_resolve.specs.Spelling.{base_spelled, part_spelled, type_spelled, parts_spelled}
use Rattle.type_resolve.proofs.SpellingLemmas.{base_spelled-Primitive, base_spelled-Named, base_spelled-Wildcard, part_spelled-at, type_spelled-at}

-- the same mirror by another expression
pub gives_as : {E : Type 0} (r : Result Mirror E) (value whole : Mirror) → value ≡ whole → IfOk r (λ m. m ≡ value) → IfOk r (λ m. m ≡ whole)
gives_as (Ok m) value whole e h = h ∙ e
gives_as (Err e) value whole same h = tt

module _ (look : Look) where
  -- ---- equations

  pub type_mirror-is : (text : TypeText) → (meant look text).mirror ≡ wrapped (out-TypeText text).around (base_meant look (out-TypeText text).base).mirror
  type_mirror-is text =
      ap (λ (t : TypeText). (meant look t).mirror) (sym (roll-out-TypeText text)) ∙ ap (λ (m : Meant). m.mirror) (text-rolls look (out-TypeText text))

  pub base_mirror-Primitive : (kind : PrimitiveKind) → (base_meant look (of.Primitive kind)).mirror ≡ plain (primitive_base kind)
  base_mirror-Primitive kind =
      ap (λ (b : BaseType). (base_meant look b).mirror) (sym (of.rolls-Primitive kind)) ∙ ap (λ (m : Meant). m.mirror) (base-rolls look (BaseType-F.Primitive kind))

  pub base_mirror-Named : (parts : List NamedPart) → (base_meant look (of.Named parts)).mirror ≡ parts_mirror look (map (part_meant look) parts)
  base_mirror-Named parts =
      ap (λ (b : BaseType). (base_meant look b).mirror) (sym (of.rolls-Named parts)) ∙ ap (λ (m : Meant). m.mirror) (base-rolls look (BaseType-F.Named parts))

  pub base_mirror-Wildcard : (base_meant look of.Wildcard).mirror ≡ plain base.Wildcard
  base_mirror-Wildcard =
      ap (λ (b : BaseType). (base_meant look b).mirror) (sym of.rolls-Wildcard) ∙ ap (λ (m : Meant). m.mirror) (base-rolls look BaseType-F.Wildcard)

  part-is : (part : NamedPart) → part_meant look part
      ≡ means.part_step (map-NamedPart BaseType NamedPart TypeText Meant MeantPart Meant (base_meant look) (part_meant look) (meant look) (out-NamedPart part))
  part-is part = ap (part_meant look) (sym (roll-out-NamedPart part)) ∙ part-rolls look (out-NamedPart part)

  pub name-is : (part : NamedPart) → (part_meant look part).name ≡ part_name part
  name-is part = ap (λ (m : MeantPart). m.name) (part-is part)

  map_map : {A B C : Type 0} (f : B → C) (g : A → B) (xs : List A) → map f (map g xs) ≡ map (λ x. f (g x)) xs
  map_map f g [] = refl
  map_map f g (x ∷ xs) = ap (λ t. f (g x) ∷ t) (map_map f g xs)

  arguments-at : (name : List ℕ) (arguments : Option (List TypeText)) → (part_meant look (roll-NamedPart (record { name = name; arguments = arguments }))).arguments
      ≡ option_map (map (λ t. (meant look t).mirror)) arguments
  arguments-at name None = ap (λ (m : MeantPart). m.arguments) (part-rolls look (record { name = name; arguments = None }))
  arguments-at name (Some list) =
      ap (λ (m : MeantPart). m.arguments) (part-rolls look (record { name = name; arguments = Some list }))
      ∙ ap (λ (ms : List Mirror). Some ms) (map_map (λ (m : Meant). m.mirror) (meant look) list)

  pub arguments-is : (part : NamedPart) → (part_meant look part).arguments ≡ option_map (map (λ t. (meant look t).mirror)) (out-NamedPart part).arguments
  arguments-is part =
      ap (λ (p : NamedPart). (part_meant look p).arguments) (sym (roll-out-NamedPart part)) ∙ arguments-at (out-NamedPart part).name (out-NamedPart part).arguments

  -- ---- the text that a type is read with is its spelling

  abbrev BaseText : BaseType → Type 0
  BaseText b = (base_meant look b).text ≡ base_spelled b

  abbrev PartText : NamedPart → Type 0
  PartText p = (part_meant look p).text ≡ part_spelled p

  abbrev TypeTexts : TypeText → Type 0
  TypeTexts t = (meant look t).text ≡ type_spelled t

  abbrev KeptBase : Type 0
  KeptBase = (b : BaseType) × BaseText b

  abbrev KeptPart : Type 0
  KeptPart = (p : NamedPart) × PartText p

  abbrev Kept : Type 0
  Kept = (t : TypeText) × TypeTexts t

  abbrev base_layer : BaseType-F KeptBase KeptPart Kept → BaseType-F BaseType NamedPart TypeText
  base_layer = map-BaseType KeptBase KeptPart Kept BaseType NamedPart TypeText (λ e. e.0) (λ e. e.0) (λ e. e.0)

  abbrev part_layer : NamedPart-F KeptBase KeptPart Kept → NamedPart-F BaseType NamedPart TypeText
  part_layer = map-NamedPart KeptBase KeptPart Kept BaseType NamedPart TypeText (λ e. e.0) (λ e. e.0) (λ e. e.0)

  abbrev text_layer : TypeText-F KeptBase KeptPart Kept → TypeText-F BaseType NamedPart TypeText
  text_layer = map-TypeText KeptBase KeptPart Kept BaseType NamedPart TypeText (λ e. e.0) (λ e. e.0) (λ e. e.0)

  abbrev parts_of : List KeptPart → List NamedPart
  parts_of kept = map (λ k. k.0) kept

  abbrev texts_of : List Kept → List TypeText
  texts_of kept = map (λ k. k.0) kept

  each_part : (kept : List KeptPart) → map (λ (m : MeantPart). m.text) (map (part_meant look) (parts_of kept)) ≡ map part_spelled (parts_of kept)
  each_part [] = refl
  each_part (k ∷ ks) = rw (k.1, each_part ks) refl

  each_text : (kept : List Kept) → map (λ (m : Meant). m.text) (map (meant look) (texts_of kept)) ≡ map type_spelled (texts_of kept)
  each_text [] = refl
  each_text (k ∷ ks) = rw (k.1, each_text ks) refl

  base_text : (y : BaseType-F KeptBase KeptPart Kept) → BaseText (roll-BaseType (base_layer y))
  base_text (BaseType-F.Primitive kind) =
      ap (λ (m : Meant). m.text) (base-rolls look (BaseType-F.Primitive kind)) ∙ sym (base_spelled-Primitive kind) ∙ ap base_spelled (sym (of.rolls-Primitive kind))
  base_text BaseType-F.Wildcard =
      ap (λ (m : Meant). m.text) (base-rolls look BaseType-F.Wildcard) ∙ sym base_spelled-Wildcard ∙ ap base_spelled (sym of.rolls-Wildcard)
  base_text (BaseType-F.Named kept) =
      let ps = parts_of kept in
      ap (λ (m : Meant). m.text) (base-rolls look (BaseType-F.Named ps)) ∙ ap (join_with_byte 46) (each_part kept) ∙ sym (base_spelled-Named ps) ∙ ap base_spelled (sym (of.rolls-Named ps))

  part_text_with : (name : List ℕ) (arguments : Option (List Kept)) → PartText (roll-NamedPart (part_layer (record { name = name; arguments = arguments })))
  part_text_with name None = ap (λ (m : MeantPart). m.text) (part-rolls look (record { name = name; arguments = None })) ∙ sym (part_spelled-at name None)
  part_text_with name (Some kept) =
      let ts = texts_of kept in
      ap (λ (m : MeantPart). m.text) (part-rolls look (record { name = name; arguments = Some ts }))
      ∙ ap (λ (ls : List (List ℕ)). name ++ (codes "<" ++ join_with_byte 44 ls ++ codes ">")) (each_text kept)
      ∙ sym (part_spelled-at name (Some ts))

  part_text : (y : NamedPart-F KeptBase KeptPart Kept) → PartText (roll-NamedPart (part_layer y))
  part_text y = part_text_with y.name y.arguments

  type_text : (y : TypeText-F KeptBase KeptPart Kept) → TypeTexts (roll-TypeText (text_layer y))
  type_text y =
      let x = text_layer y in
      ap (λ (m : Meant). m.text) (text-rolls look x) ∙ ap (means.text_around y.around) y.base.1 ∙ sym (type_spelled-at y.around y.base.0)

  pub part-spelled : (part : NamedPart) → (part_meant look part).text ≡ part_spelled part
  part-spelled = ind-NamedPart BaseText PartText TypeTexts
      (λ x y same. subst (λ (x : BaseType-F BaseType NamedPart TypeText). BaseText (roll-BaseType x)) same (base_text y))
      (λ x y same. subst (λ (x : NamedPart-F BaseType NamedPart TypeText). PartText (roll-NamedPart x)) same (part_text y))
      (λ x y same. subst (λ (x : TypeText-F BaseType NamedPart TypeText). TypeTexts (roll-TypeText x)) same (type_text y))

  -- ---- class types, name by name

  joined-fronts : (before : List NamedPart) (part : NamedPart) → fronts_text before ++ part_spelled part ≡ parts_spelled (before ++ part ∷ [])
  joined-fronts [] part = refl
  joined-fronts (first ∷ []) part =
      ap (λ (t : List ℕ). t ++ part_spelled part) (append-nil (part_spelled first ++ 46 ∷ [])) ∙ append_assoc (part_spelled first) (46 ∷ []) (part_spelled part)
  joined-fronts (first ∷ next ∷ more) part =
      append_assoc (part_spelled first ++ 46 ∷ []) (fronts_text (next ∷ more)) (part_spelled part)
      ∙ append_assoc (part_spelled first) (46 ∷ []) (fronts_text (next ∷ more) ++ part_spelled part)
      ∙ ap (λ (t : List ℕ). part_spelled first ++ (46 ∷ t)) (joined-fronts (next ∷ more) part)

  text_with : (before : List NamedPart) (part : NamedPart) → fronts_text before ++ (part_meant look part).text ≡ parts_spelled (before ++ part ∷ [])
  text_with before part = ap (λ (t : List ℕ). fronts_text before ++ t) (part-spelled part) ∙ joined-fronts before part

  names_with : (before : List NamedPart) (part : NamedPart) → map part_name before ++ (part_meant look part).name ∷ [] ≡ map part_name (before ++ part ∷ [])
  names_with before part =
      ap (λ (n : List ℕ). map part_name before ++ n ∷ []) (name-is part) ∙ sym (map-append part_name before (part ∷ []))

  fronts_with : (before : List NamedPart) (part : NamedPart) → (fronts_text before ++ (part_meant look part).text) ++ codes "." ≡ fronts_text (before ++ part ∷ [])
  fronts_with before part =
      append_assoc (fronts_text before) (part_meant look part).text (codes ".")
      ∙ ap (λ (t : List ℕ). fronts_text before ++ (t ++ 46 ∷ [])) (part-spelled part)
      ∙ ap (λ (t : List ℕ). fronts_text before ++ t) (sym (append-nil (part_spelled part ++ 46 ∷ [])))
      ∙ sym (flat_map-append (λ (p : NamedPart). part_spelled p ++ 46 ∷ []) before (part ∷ []))

  pub class-ends : (before : List NamedPart) (enclosing : Option Mirror) (part : NamedPart)
      → class_from look (map part_name before) (fronts_text before) enclosing (map (part_meant look) (part ∷ []))
      ≡ whole_mirror look (map part_name (before ++ part ∷ [])) (parts_spelled (before ++ part ∷ [])) enclosing (part_meant look part).arguments
  class-ends before enclosing part =
      ap₂ (λ (names : List (List ℕ)) (text : List ℕ). whole_mirror look names text enclosing (part_meant look part).arguments) (names_with before part) (text_with before part)

  -- the texts in front of the next name, and those of the names so far
  moved : (before : List NamedPart) (enclosing : Option Mirror) (part next : NamedPart) (more : List NamedPart) (names : List (List ℕ)) (text fronts : List ℕ)
      → map part_name before ++ (part_meant look part).name ∷ [] ≡ names → fronts_text before ++ (part_meant look part).text ≡ text
      → (fronts_text before ++ (part_meant look part).text) ++ codes "." ≡ fronts
      → class_from look (map part_name before) (fronts_text before) enclosing (map (part_meant look) (part ∷ next ∷ more))
      ≡ class_from look names fronts (next_enclosing look names text enclosing (part_meant look part).arguments) (map (part_meant look) (next ∷ more))
  moved before enclosing part next more names text fronts n t f = rw (sym n, sym t, sym f) refl

  pub class-goes_on : (before : List NamedPart) (enclosing : Option Mirror) (part : NamedPart) (after : List NamedPart) → 0 < length after
      → class_from look (map part_name before) (fronts_text before) enclosing (map (part_meant look) (part ∷ after))
      ≡ class_from look (map part_name (before ++ part ∷ [])) (fronts_text (before ++ part ∷ []))
      (next_enclosing look (map part_name (before ++ part ∷ [])) (parts_spelled (before ++ part ∷ [])) enclosing (part_meant look part).arguments) (map (part_meant look) after)
  class-goes_on before enclosing part [] some = absurd (omega (arith, some))
  class-goes_on before enclosing part (next ∷ more) some =
      moved before enclosing part next more _ _ _ (names_with before part) (text_with before part) (fronts_with before part)

  -- ---- the same by the number of the name

  module _ (parts : List NamedPart) (i : ℕ) (part : NamedPart) (within : i < length parts) (here : part ≡ get_or parts i part) where
    rest-is : drop i parts ≡ part ∷ drop (i + 1) parts
    rest-is = drop_more parts i part within ∙ ap (λ p. p ∷ drop (i + 1) parts) (sym here)

    front-is : take (i + 1) parts ≡ take i parts ++ part ∷ []
    front-is = take_more parts i part within ∙ ap (λ p. take i parts ++ p ∷ []) (sym here)

    pub class-last : (enclosing : Option Mirror) → i + 1 ≡ length parts
        → class_from look (map part_name (take i parts)) (fronts_text (take i parts)) enclosing (map (part_meant look) (drop i parts))
        ≡ whole_mirror look (map part_name (take (i + 1) parts)) (parts_spelled (take (i + 1) parts)) enclosing (part_meant look part).arguments
    class-last enclosing last =
        let none : drop (i + 1) parts ≡ [] = nil_from_length (drop (i + 1) parts) (omega (arith, length-drop (i + 1) parts, last)) in
        ap (λ (ps : List NamedPart). class_from look (map part_name (take i parts)) (fronts_text (take i parts)) enclosing (map (part_meant look) ps))
        (rest-is ∙ ap (λ ps. part ∷ ps) none)
        ∙ class-ends (take i parts) enclosing part
        ∙ ap (λ (ps : List NamedPart). whole_mirror look (map part_name ps) (parts_spelled ps) enclosing (part_meant look part).arguments) (sym front-is)

    pub class-next : (enclosing : Option Mirror) → i + 1 < length parts
        → class_from look (map part_name (take i parts)) (fronts_text (take i parts)) enclosing (map (part_meant look) (drop i parts))
        ≡ class_from look (map part_name (take (i + 1) parts)) (fronts_text (take (i + 1) parts))
        (next_enclosing look (map part_name (take (i + 1) parts)) (parts_spelled (take (i + 1) parts)) enclosing (part_meant look part).arguments)
        (map (part_meant look) (drop (i + 1) parts))
    class-next enclosing more =
        let some : 0 < length (drop (i + 1) parts) = omega (arith, length-drop (i + 1) parts, more) in
        let after = map (part_meant look) (drop (i + 1) parts) in
        ap (λ (ps : List NamedPart). class_from look (map part_name (take i parts)) (fronts_text (take i parts)) enclosing (map (part_meant look) ps)) rest-is
        ∙ class-goes_on (take i parts) enclosing part (drop (i + 1) parts) some
        ∙ ap (λ (ps : List NamedPart). class_from look (map part_name ps) (fronts_text ps) (next_enclosing look (map part_name ps) (parts_spelled ps) enclosing (part_meant look part).arguments) after)
        (sym front-is)

    pub names-more : (names more : List (Bor (List ℕ))) (name : Bor (List ℕ)) → lent names ≡ map part_name (take i parts) → more ≡ names ++ name ∷ [] → name.now ≡ part_name part
        → lent more ≡ map part_name (take (i + 1) parts)
    names-more names more name so_far pushed same =
        ap lent pushed ∙ map-append (λ (n : Bor (List ℕ)). n.now) names (name ∷ [])
        ∙ ap₂ (λ (ns : List (List ℕ)) (n : List ℕ). ns ++ n ∷ []) so_far same
        ∙ sym (map-append part_name (take i parts) (part ∷ [])) ∙ ap (map part_name) (sym front-is)

  -- as many names as parts
  pub counted : (names : List (Bor (List ℕ))) (parts : List NamedPart) (n : ℕ) → lent names ≡ map part_name (take n parts) → n ≤ length parts → length names ≡ n
  counted names parts n e within =
      sym (length-map names (λ (b : Bor (List ℕ)). b.now)) ∙ ap length e ∙ length-map (take n parts) part_name ∙ length-take-le n parts within

pub ruleset by_parts = (type_mirror-is, base_mirror-Primitive, base_mirror-Named, base_mirror-Wildcard, arguments-is)
