-- The texts of types, by equations, and what was written of a list so far.
use Rattle.std.proofs.Common.{◌≡◌, ℕ, ◌+◌, ◌<◌, length, get_or, drop, Bool, true, false, List, [], ◌∷◌, ◌++◌, map, flat_map, Option, None, Some, codes, refl, sym, ap, ◌∙◌, append_assoc, append-nil}
use Rattle.std.specs.List.{join_with_byte}
use Rattle.std.proofs.lemmas.List.{drop_more}
use Rattle.decl_tree.specs.declared.type_text.PrimitiveKind.{PrimitiveKind}
use Rattle.apt_base.specs.declared.around.Around.{Around}
use Rattle.apt_base.specs.declared.around.Around.TheVariants as around
use Rattle.decl_tree.specs.declared.type_text.BaseType.{BaseType}
use Rattle.decl_tree.specs.declared.type_text.BaseType.TheVariants as base
use Rattle.decl_tree.specs.declared.type_text.BaseType.TheOpen.{BaseType-F}
use Rattle.decl_tree.specs.declared.type_text.BaseType.TheFolds.{fold-roll-BaseType, fold-roll-NamedPart, fold-roll-TypeText}
use Rattle.decl_tree.specs.declared.type_text.NamedPart.{NamedPart, out-NamedPart, roll-NamedPart, roll-out-NamedPart}
use Rattle.decl_tree.specs.declared.type_text.TypeText.{TypeText, out-TypeText, roll-TypeText, roll-out-TypeText}
use Rattle.name_resolve.specs.Mirrors.{primitive_text, text_around}
use Rattle.type_resolve.specs.Spelling.{base_step, part_step, type_step, base_spelled, part_spelled, type_spelled, parts_spelled, arguments_spelled, front_of, back_of, separator, behind, joined_from}

-- ---- equations

pub base_spelled-Primitive : (kind : PrimitiveKind) → base_spelled (base.Primitive kind) ≡ primitive_text kind
unfolding base_spelled part_spelled type_spelled
base_spelled-Primitive kind = ap base_spelled (sym (base.rolls-Primitive kind)) ∙ fold-roll-BaseType (List ℕ) (List ℕ) (List ℕ) base_step part_step type_step (BaseType-F.Primitive kind)

pub base_spelled-Named : (parts : List NamedPart) → base_spelled (base.Named parts) ≡ parts_spelled parts
unfolding base_spelled part_spelled type_spelled
base_spelled-Named parts = ap base_spelled (sym (base.rolls-Named parts)) ∙ fold-roll-BaseType (List ℕ) (List ℕ) (List ℕ) base_step part_step type_step (BaseType-F.Named parts)

pub base_spelled-Wildcard : base_spelled base.Wildcard ≡ codes "?"
unfolding base_spelled part_spelled type_spelled
base_spelled-Wildcard = ap base_spelled (sym base.rolls-Wildcard) ∙ fold-roll-BaseType (List ℕ) (List ℕ) (List ℕ) base_step part_step type_step BaseType-F.Wildcard

pub part_spelled-at : (name : List ℕ) (arguments : Option (List TypeText)) → part_spelled (roll-NamedPart (record { name = name; arguments = arguments })) ≡ name ++ arguments_spelled arguments
unfolding base_spelled part_spelled type_spelled
part_spelled-at name None = fold-roll-NamedPart (List ℕ) (List ℕ) (List ℕ) base_step part_step type_step (record { name = name; arguments = None })
part_spelled-at name (Some types) = fold-roll-NamedPart (List ℕ) (List ℕ) (List ℕ) base_step part_step type_step (record { name = name; arguments = Some types })

pub part_spelled-is : (part : NamedPart) → part_spelled part ≡ (out-NamedPart part).name ++ arguments_spelled (out-NamedPart part).arguments
part_spelled-is part = ap part_spelled (sym (roll-out-NamedPart part)) ∙ part_spelled-at (out-NamedPart part).name (out-NamedPart part).arguments

pub type_spelled-at : (around : List Around) (of : BaseType) → type_spelled (roll-TypeText (record { around = around; base = of })) ≡ text_around around (base_spelled of)
unfolding base_spelled part_spelled type_spelled
type_spelled-at around of = fold-roll-TypeText (List ℕ) (List ℕ) (List ℕ) base_step part_step type_step (record { around = around; base = of })

type_spelled-out : (text : TypeText) → type_spelled text ≡ text_around (out-TypeText text).around (base_spelled (out-TypeText text).base)
type_spelled-out text = ap type_spelled (sym (roll-out-TypeText text)) ∙ type_spelled-at (out-TypeText text).around (out-TypeText text).base

-- ---- what stands around a base

brackets_turn : (around : List Around) → flat_map back_of around ++ codes "[]" ≡ codes "[]" ++ flat_map back_of around
brackets_turn [] = refl
brackets_turn (around.Array ∷ inner) = ap (λ (t : List ℕ). codes "[]" ++ t) (brackets_turn inner)
brackets_turn (around.Extends ∷ inner) = brackets_turn inner
brackets_turn (around.Super ∷ inner) = brackets_turn inner

around-is : (around : List Around) (text : List ℕ) → text_around around text ≡ flat_map front_of around ++ (text ++ flat_map back_of around)
around-is [] text = sym (append-nil text)
around-is (around.Array ∷ inner) text =
    let fronts = flat_map front_of inner in
    let backs = flat_map back_of inner in
    ap (λ (t : List ℕ). t ++ codes "[]") (around-is inner text)
    ∙ append_assoc fronts (text ++ backs) (codes "[]")
    ∙ ap (λ (t : List ℕ). fronts ++ t) (append_assoc text backs (codes "[]") ∙ ap (λ (t : List ℕ). text ++ t) (brackets_turn inner))
around-is (around.Extends ∷ inner) text =
    ap (λ (t : List ℕ). codes "? extends " ++ t) (around-is inner text) ∙ sym (append_assoc (codes "? extends ") (flat_map front_of inner) (text ++ flat_map back_of inner))
around-is (around.Super ∷ inner) text =
    ap (λ (t : List ℕ). codes "? super " ++ t) (around-is inner text) ∙ sym (append_assoc (codes "? super ") (flat_map front_of inner) (text ++ flat_map back_of inner))

pub type_spelled-is : (text : TypeText) → type_spelled text
    ≡ flat_map front_of (out-TypeText text).around ++ (base_spelled (out-TypeText text).base ++ flat_map back_of (out-TypeText text).around)
type_spelled-is text = type_spelled-out text ∙ around-is (out-TypeText text).around (base_spelled (out-TypeText text).base)

-- ---- lists

pub joined-behind : (c : ℕ) (x : List ℕ) (xs : List (List ℕ)) → join_with_byte c (x ∷ xs) ≡ x ++ behind c xs
joined-behind c x [] = sym (append-nil x)
joined-behind c x (y ∷ ys) = ap (λ (t : List ℕ). x ++ (c ∷ t)) (joined-behind c y ys)

pub joined_from-more : (is_first : Bool) (c : ℕ) (x : List ℕ) (xs : List (List ℕ)) → joined_from is_first c (x ∷ xs) ≡ separator is_first (c ∷ []) ++ (x ++ joined_from false c xs)
joined_from-more true c x xs = joined-behind c x xs
joined_from-more false c x xs = refl

pub joined_from-end : (is_first : Bool) (c : ℕ) → joined_from is_first c [] ≡ []
joined_from-end true c = refl
joined_from-end false c = refl

-- a loop over a list that writes a separator and an item each time
pub joined-step : {A : Type 0} (form : A → List ℕ) (c : ℕ) (xs : List A) (i : ℕ) (x : A) (is_first : Bool) (begun first second : List ℕ) → i < length xs → x ≡ get_or xs i x
    → first ≡ begun ++ separator is_first (c ∷ []) → second ≡ first ++ form x
    → second ++ joined_from false c (map form (drop (i + 1) xs)) ≡ begun ++ joined_from is_first c (map form (drop i xs))
joined-step form c xs i x is_first begun first second l e one two =
    let rest = joined_from false c (map form (drop (i + 1) xs)) in
    let left : drop i xs ≡ x ∷ drop (i + 1) xs = drop_more xs i x l ∙ ap (λ y. y ∷ drop (i + 1) xs) (sym e) in
    ap (λ (t : List ℕ). t ++ rest) (two ∙ ap (λ (t : List ℕ). t ++ form x) one)
    ∙ append_assoc (begun ++ separator is_first (c ∷ [])) (form x) rest
    ∙ append_assoc begun (separator is_first (c ∷ [])) (form x ++ rest)
    ∙ ap (λ (t : List ℕ). begun ++ t) (sym (joined_from-more is_first c (form x) (map form (drop (i + 1) xs))) ∙ ap (λ ys. joined_from is_first c (map form ys)) (sym left))

-- a name, and what stands behind it
pub three_written : (old name a b one two three : List ℕ) → one ≡ old ++ name → two ≡ one ++ a → three ≡ two ++ b → three ≡ old ++ (name ++ (a ++ b))
three_written old name a b one two three e f g =
    g ∙ ap (λ (t : List ℕ). t ++ b) (f ∙ ap (λ (t : List ℕ). t ++ a) e) ∙ append_assoc (old ++ name) a b ∙ append_assoc old name (a ++ b)

pub ruleset spellings = (base_spelled-Primitive, base_spelled-Named, base_spelled-Wildcard, part_spelled-is, type_spelled-is)

pub ruleset joined = (joined_from-more, joined_from-end)
