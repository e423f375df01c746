-- The name chains that are written in a part of a unit, by equations.
use Rattle.std.proofs.Common.{◌≡◌, ℕ, List, [], ◌∷◌, ◌++◌, map, Option, None, Some, refl, sym, ap, ◌∙◌}
use Rattle.std.specs.List.{flat_map}
use Rattle.apt_base.specs.Identifiers.{parts}
use Rattle.decl_tree.specs.declared.type_text.PrimitiveKind.{PrimitiveKind}
use Rattle.decl_tree.specs.declared.type_text.TypeText.{TypeText, out-TypeText, roll-TypeText, roll-out-TypeText}
use Rattle.decl_tree.specs.declared.type_text.BaseType.{BaseType, roll-BaseType}
use Rattle.decl_tree.specs.declared.type_text.BaseType.TheVariants as base
use Rattle.decl_tree.specs.declared.type_text.BaseType.TheOpen.{BaseType-F, NamedPart-F, TypeText-F}
use Rattle.decl_tree.specs.declared.type_text.BaseType.TheFolds.{map-BaseType, map-NamedPart, fold-BaseType, fold-NamedPart, fold-roll-BaseType, fold-roll-NamedPart, fold-roll-TypeText}
use Rattle.decl_tree.specs.declared.type_text.NamedPart.{NamedPart, out-NamedPart, roll-NamedPart, roll-out-NamedPart}
use Rattle.decl_tree.specs.declared.annotation.ValueText.{ValueText}
use Rattle.decl_tree.specs.declared.annotation.ValueText.TheVariants as value
use Rattle.decl_tree.specs.declared.annotation.ValueText.TheOpen.{ValueText-F}
use Rattle.decl_tree.specs.declared.annotation.ValueText.TheFolds.{fold-ElementValuePair, fold-roll-ValueText, fold_out-AnnotationText, fold_out-ElementValuePair}
use Rattle.decl_tree.specs.declared.annotation.AnnotationText.{AnnotationText, out-AnnotationText}
use Rattle.decl_tree.specs.declared.annotation.ElementValuePair.{ElementValuePair}
use Rattle.name_resolve.specs.Supertypes.{part_name}
use Rattle.reach_map.specs.Chains.{Chains, gathered, of_option, base_step, part_step, type_step, type_chains, argument_chains, named_chains, value_step, annotation_step, pair_step, value_chains, annotation_chains, pair_chains}

-- chains that were gathered of each item
flat_map-gathered : {A : Type 0} (chains : A → Chains) (items : List A) → flat_map gathered (map chains items) ≡ flat_map chains items
flat_map-gathered chains [] = refl
flat_map-gathered chains (item ∷ items) = ap (λ (more : Chains). chains item ++ more) (flat_map-gathered chains items)

-- ---- types

abbrev pub base_chains : BaseType → Chains
base_chains = fold-BaseType Chains (List ℕ × Chains) Chains base_step part_step type_step

abbrev pub part_chains : NamedPart → List ℕ × Chains
part_chains = fold-NamedPart Chains (List ℕ × Chains) Chains base_step part_step type_step

pub base_chains-roll : (x : BaseType-F BaseType NamedPart TypeText) → base_chains (roll-BaseType x)
    ≡ base_step (map-BaseType BaseType NamedPart TypeText Chains (List ℕ × Chains) Chains base_chains part_chains type_chains x)
unfolding type_chains
base_chains-roll x = fold-roll-BaseType Chains (List ℕ × Chains) Chains base_step part_step type_step x

pub part_chains-roll : (x : NamedPart-F BaseType NamedPart TypeText) → part_chains (roll-NamedPart x)
    ≡ part_step (map-NamedPart BaseType NamedPart TypeText Chains (List ℕ × Chains) Chains base_chains part_chains type_chains x)
unfolding type_chains
part_chains-roll x = fold-roll-NamedPart Chains (List ℕ × Chains) Chains base_step part_step type_step x

pub type_chains-roll : (x : TypeText-F BaseType NamedPart TypeText) → type_chains (roll-TypeText x) ≡ base_chains x.base
unfolding type_chains
type_chains-roll x = fold-roll-TypeText Chains (List ℕ × Chains) Chains base_step part_step type_step x

-- the first component of a fold over a part is its name
pub part_name-is : (p : NamedPart) → (part_chains p).0 ≡ part_name p
part_name-is p =
    ap (λ (q : NamedPart). (part_chains q).0) (sym (roll-out-NamedPart p))
    ∙ ap (λ (q : List ℕ × Chains). q.0) (part_chains-roll (out-NamedPart p))

pub part_names : (ps : List NamedPart) → map (λ (p : List ℕ × Chains). p.0) (map part_chains ps) ≡ map part_name ps
part_names [] = refl
part_names (p ∷ ps) = rw (part_name-is p, part_names ps) refl

pub type_chains-base : (text : TypeText) → type_chains text ≡ base_chains (out-TypeText text).base
type_chains-base text = ap type_chains (sym (roll-out-TypeText text)) ∙ type_chains-roll (out-TypeText text)

-- the second component is the chains of its type arguments
part_arguments-at : (name : List ℕ) (arguments : Option (List TypeText)) → (part_chains (roll-NamedPart (record { name = name; arguments = arguments }))).1 ≡ of_option (flat_map type_chains) arguments
part_arguments-at name None = ap (λ (q : List ℕ × Chains). q.1) (part_chains-roll (record { name = name; arguments = None }))
part_arguments-at name (Some texts) = ap (λ (q : List ℕ × Chains). q.1) (part_chains-roll (record { name = name; arguments = Some texts })) ∙ flat_map-gathered type_chains texts

part_arguments-is : (p : NamedPart) → (part_chains p).1 ≡ argument_chains p
part_arguments-is p =
    ap (λ (q : NamedPart). (part_chains q).1) (sym (roll-out-NamedPart p)) ∙ part_arguments-at (out-NamedPart p).name (out-NamedPart p).arguments

part_arguments : (ps : List NamedPart) → flat_map (λ (p : List ℕ × Chains). p.1) (map part_chains ps) ≡ flat_map argument_chains ps
part_arguments [] = refl
part_arguments (p ∷ ps) =
    ap (λ (c : Chains). c ++ flat_map (λ (p : List ℕ × Chains). p.1) (map part_chains ps)) (part_arguments-is p) ∙ ap (λ (c : Chains). argument_chains p ++ c) (part_arguments ps)

base_chains-Named : (parts : List NamedPart) → base_chains (base.Named parts) ≡ named_chains parts
base_chains-Named parts =
    ap base_chains (sym (base.rolls-Named parts)) ∙ base_chains-roll (BaseType-F.Named parts)
    ∙ ap (λ (names : List (List ℕ)). names ∷ flat_map (λ (p : List ℕ × Chains). p.1) (map part_chains parts)) (part_names parts)
    ∙ ap (λ (chains : Chains). map part_name parts ∷ chains) (part_arguments parts)

pub type_chains-Named : (text : TypeText) (parts : List NamedPart) → (out-TypeText text).base ≡ base.Named parts → type_chains text ≡ named_chains parts
type_chains-Named text parts is = type_chains-base text ∙ ap base_chains is ∙ base_chains-Named parts

pub type_chains-Primitive : (text : TypeText) (kind : PrimitiveKind) → (out-TypeText text).base ≡ base.Primitive kind → type_chains text ≡ []
type_chains-Primitive text kind is =
    type_chains-base text ∙ ap base_chains (is ∙ sym (base.rolls-Primitive kind)) ∙ base_chains-roll (BaseType-F.Primitive kind)

pub type_chains-Wildcard : (text : TypeText) → (out-TypeText text).base ≡ base.Wildcard → type_chains text ≡ []
type_chains-Wildcard text is = type_chains-base text ∙ ap base_chains (is ∙ sym base.rolls-Wildcard) ∙ base_chains-roll BaseType-F.Wildcard

-- ---- values and annotations

pub value_chains-Literal : (text : List ℕ) → value_chains (value.Literal text) ≡ []
unfolding value_chains annotation_chains
value_chains-Literal text = ap value_chains (sym (value.rolls-Literal text)) ∙ fold-roll-ValueText Chains Chains Chains value_step annotation_step pair_step (ValueText-F.Literal text)

pub value_chains-Negated : (text : List ℕ) → value_chains (value.Negated text) ≡ []
unfolding value_chains annotation_chains
value_chains-Negated text = ap value_chains (sym (value.rolls-Negated text)) ∙ fold-roll-ValueText Chains Chains Chains value_step annotation_step pair_step (ValueText-F.Negated text)

pub value_chains-Joined : (items : List ValueText) → value_chains (value.Joined items) ≡ flat_map value_chains items
unfolding value_chains annotation_chains
value_chains-Joined items = ap value_chains (sym (value.rolls-Joined items)) ∙ fold-roll-ValueText Chains Chains Chains value_step annotation_step pair_step (ValueText-F.Joined items) ∙ flat_map-gathered value_chains items

pub value_chains-Class : (of : TypeText) → value_chains (value.Class of) ≡ type_chains of
unfolding value_chains annotation_chains
value_chains-Class of = ap value_chains (sym (value.rolls-Class of)) ∙ fold-roll-ValueText Chains Chains Chains value_step annotation_step pair_step (ValueText-F.Class of)

pub value_chains-Chain : (text : List ℕ) → value_chains (value.Chain text) ≡ parts text ∷ []
unfolding value_chains annotation_chains
value_chains-Chain text = ap value_chains (sym (value.rolls-Chain text)) ∙ fold-roll-ValueText Chains Chains Chains value_step annotation_step pair_step (ValueText-F.Chain text)

pub value_chains-Array : (items : List ValueText) → value_chains (value.Array items) ≡ flat_map value_chains items
unfolding value_chains annotation_chains
value_chains-Array items = ap value_chains (sym (value.rolls-Array items)) ∙ fold-roll-ValueText Chains Chains Chains value_step annotation_step pair_step (ValueText-F.Array items) ∙ flat_map-gathered value_chains items

pub value_chains-Nested : (annotation : AnnotationText) → value_chains (value.Nested annotation) ≡ annotation_chains annotation
unfolding value_chains annotation_chains
value_chains-Nested annotation = ap value_chains (sym (value.rolls-Nested annotation)) ∙ fold-roll-ValueText Chains Chains Chains value_step annotation_step pair_step (ValueText-F.Nested annotation)

pub value_chains-Other : (text : List ℕ) → value_chains (value.Other text) ≡ []
unfolding value_chains annotation_chains
value_chains-Other text = ap value_chains (sym (value.rolls-Other text)) ∙ fold-roll-ValueText Chains Chains Chains value_step annotation_step pair_step (ValueText-F.Other text)

abbrev folded_pair : ElementValuePair → Chains
folded_pair = fold-ElementValuePair Chains Chains Chains value_step annotation_step pair_step

folded_pairs : (pairs : List ElementValuePair) → flat_map gathered (map folded_pair pairs) ≡ flat_map pair_chains pairs
unfolding value_chains
folded_pairs [] = refl
folded_pairs (pair ∷ pairs) =
    ap (λ (c : Chains). c ++ flat_map gathered (map folded_pair pairs)) (fold_out-ElementValuePair Chains Chains Chains value_step annotation_step pair_step pair)
    ∙ ap (λ (c : Chains). pair_chains pair ++ c) (folded_pairs pairs)

pub annotation_chains-is : (annotation : AnnotationText) → annotation_chains annotation ≡ parts (out-AnnotationText annotation).name ∷ flat_map pair_chains (out-AnnotationText annotation).values
unfolding annotation_chains
annotation_chains-is annotation =
    fold_out-AnnotationText Chains Chains Chains value_step annotation_step pair_step annotation
    ∙ ap (λ (chains : Chains). parts (out-AnnotationText annotation).name ∷ chains) (folded_pairs (out-AnnotationText annotation).values)
