-- What is legal with some room is legal with more.
use Rattle.std.proofs.Common.{◌≡◌, ℕ, zero, suc, Bool, true, [], ◌∷◌, None, Some, refl}
use Rattle.std.specs.List.{list_all}
use Rattle.apt_base.specs.Forms.{is_name, is_short, all_fit, fits_if_some}
use Rattle.decl_tree.specs.Legal.{part_fits, base_fits, inside_type, is_legal_type, pair_fits, annotation_fits, value_fits, is_legal_value, is_legal_annotation}
use Rattle.decl_tree.specs.declared.annotation.AnnotationText.{AnnotationText, out-AnnotationText}
use Rattle.decl_tree.specs.declared.annotation.ElementValuePair.{ElementValuePair}
use Rattle.decl_tree.specs.declared.annotation.ValueText.{ValueText, out-ValueText}
use Rattle.decl_tree.specs.declared.annotation.ValueText.TheOpen.{ValueText-F}
use Rattle.decl_tree.specs.declared.type_text.BaseType.{BaseType, out-BaseType}
use Rattle.decl_tree.specs.declared.type_text.BaseType.TheOpen.{BaseType-F}
use Rattle.decl_tree.specs.declared.type_text.NamedPart.{NamedPart, out-NamedPart}
use Rattle.decl_tree.specs.declared.type_text.TypeText.{TypeText, out-TypeText}
use Rattle.decl_grammar.proofs.OneToken.{both}
use Rattle.decl_limits.proofs.LegalTexts.{and-true}

-- one test implies another
abbrev pub Implies : {A : Type 0} → (A → Bool) → (A → Bool) → Type 0
Implies {A} p q = (x : A) → p x ≡ true → q x ≡ true

pub all-up : {A : Type 0} (p q : A → Bool) → Implies p q → Implies (list_all p) (list_all q)
all-up p q up [] e = refl
all-up p q up (x ∷ xs) e = let z = both (p x) (list_all p xs) e in and-true (up x z.0) (all-up p q up xs z.1)

pub fit-up : {A : Type 0} (p q : A → Bool) → Implies p q → Implies (all_fit p) (all_fit q)
fit-up p q up xs e = let z = both (is_short xs) (list_all p xs) e in and-true z.0 (all-up p q up xs z.1)

some-up : {A : Type 0} (p q : A → Bool) → Implies p q → Implies (fits_if_some p) (fits_if_some q)
some-up p q up None e = refl
some-up p q up (Some x) e = up x e

part-up : (p q : TypeText → Bool) → Implies p q → Implies (part_fits p) (part_fits q)
part-up p q up part e =
    let z = both (is_name (out-NamedPart part).name) (fits_if_some (all_fit p) (out-NamedPart part).arguments) e in
    and-true z.0 (some-up (all_fit p) (all_fit q) (fit-up p q up) (out-NamedPart part).arguments z.1)

base-up : (p q : TypeText → Bool) → Implies p q → (x : BaseType-F BaseType NamedPart TypeText) → base_fits p x ≡ true → base_fits q x ≡ true
base-up p q up (BaseType-F.Primitive kind) e = refl
base-up p q up (BaseType-F.Named parts) e = fit-up (part_fits p) (part_fits q) (part-up p q up) parts e
base-up p q up BaseType-F.Wildcard e = refl

inside-up : (room : ℕ) → Implies (inside_type room) (inside_type (suc room))
unfolding inside_type
inside-up zero text e = absurd cc
inside-up (suc room) text e = base-up (inside_type room) (inside_type (suc room)) (inside-up room) (out-BaseType (out-TypeText text).base) e

pub type-up : (room : ℕ) → Implies (is_legal_type room) (is_legal_type (suc room))
unfolding is_legal_type
type-up room text e = base-up (inside_type room) (inside_type (suc room)) (inside-up room) (out-BaseType (out-TypeText text).base) e

pair-up : (p q : ValueText → Bool) → Implies p q → Implies (pair_fits p) (pair_fits q)
pair-up p q up pair e = let z = both (is_name pair.name) (p pair.value) e in and-true z.0 (up pair.value z.1)

mark-up : (p q : ValueText → Bool) → Implies p q → Implies (annotation_fits p) (annotation_fits q)
mark-up p q up a e =
    let z = both (is_name (out-AnnotationText a).name) (all_fit (pair_fits p) (out-AnnotationText a).values) e in
    and-true z.0 (fit-up (pair_fits p) (pair_fits q) (pair-up p q up) (out-AnnotationText a).values z.1)

layer-up : (s t : TypeText → Bool) (p q : ValueText → Bool) → Implies s t → Implies p q → (x : ValueText-F ValueText AnnotationText ElementValuePair) → value_fits s p x ≡ true → value_fits t q x ≡ true
layer-up s t p q types values (ValueText-F.Literal text) e = e
layer-up s t p q types values (ValueText-F.Negated text) e = e
layer-up s t p q types values (ValueText-F.Joined items) e = e
layer-up s t p q types values (ValueText-F.Class of) e = types of e
layer-up s t p q types values (ValueText-F.Chain text) e = e
layer-up s t p q types values (ValueText-F.Array items) e = fit-up p q values items e
layer-up s t p q types values (ValueText-F.Nested a) e = mark-up p q values a e
layer-up s t p q types values (ValueText-F.Other text) e = e

pub value-up : (room : ℕ) → Implies (is_legal_value room) (is_legal_value (suc room))
unfolding is_legal_value
value-up zero v e = absurd cc
value-up (suc room) v e = layer-up (is_legal_type room) (is_legal_type (suc room)) (is_legal_value room) (is_legal_value (suc room)) (type-up room) (value-up room) (out-ValueText v) e

pub annotation-up : (room : ℕ) → Implies (is_legal_annotation room) (is_legal_annotation (suc room))
unfolding is_legal_annotation
annotation-up room a e = mark-up (is_legal_value room) (is_legal_value (suc room)) (value-up room) a e
