-- The numbers and the meanings of all forms of the table are sound.
use Rattle.std.proofs.Common.{◌≡◌, ℕ, zero, suc, ◌+◌, Bool, true, false, cond, eqb, ltb, List, [], ◌∷◌, Option, Some, None, refl, sym, ap, ◌∙◌, arith}
use Rattle.std.specs.Prelude.{find, option_map}
use Rattle.std.specs.List.{slice_get}
use Rattle.std.specs.Option.{option_or}
use Rattle.std.proofs.lemmas.Bool.{eqb-true}
use Rattle.apt_base.specs.declared.kinds.Claim.TheVariants.{Always, Never, Varies}
use Rattle.type_mirror.specs.declared.mirror.PrimitiveKind.TheVariants.{Boolean, Byte, Short, Int, Long, Char, Float, Double}
use Rattle.apt_base.specs.declared.around.Around.{Around}
use Rattle.apt_base.specs.declared.around.Around.TheVariants as around
use Rattle.type_mirror.specs.declared.mirror.BaseMirror.{BaseMirror, roll-BaseMirror, out-BaseMirror, roll-out-BaseMirror}
use Rattle.type_mirror.specs.declared.mirror.BaseMirror.TheVariants as base
use Rattle.type_mirror.specs.declared.mirror.BaseMirror.TheOpen.{BaseMirror-F, DeclaredMirror-F, ExecutableMirror-F}
use Rattle.type_mirror.specs.declared.mirror.Mirror.{Mirror, roll-Mirror, out-Mirror, roll-out-Mirror, out-roll-Mirror}
use Rattle.type_mirror.specs.declared.mirror.DeclaredMirror.{DeclaredMirror, roll-DeclaredMirror, roll-out-DeclaredMirror, out-roll-DeclaredMirror}
use Rattle.type_mirror.specs.declared.mirror.ExecutableMirror.{ExecutableMirror, roll-ExecutableMirror, roll-out-ExecutableMirror, out-roll-ExecutableMirror}
use Rattle.type_mirror.specs.declared.value.WholeKind.{WholeKind}
use Rattle.type_mirror.specs.declared.value.WholeKind.TheVariants as wholes
use Rattle.type_mirror.specs.declared.value.Value.{Value, roll-Value, out-Value, roll-out-Value}
use Rattle.type_mirror.specs.declared.value.Value.TheVariants as values
use Rattle.type_mirror.specs.declared.value.Value.TheOpen.{Value-F}
use Rattle.type_mirror.specs.declared.value.Annotation.{Annotation, roll-out-Annotation, out-roll-Annotation}
use Rattle.type_mirror.specs.declared.value.NamedValue.{NamedValue, roll-out-NamedValue, out-roll-NamedValue}
use Rattle.type_mirror.specs.Parts.{plain, wrapped}
use Rattle.frame_forms.specs.Forms.{Code, El, Part, FrameKind, plain_frame, question_frame, mirror_part, value_part}
use Rattle.frame_forms.specs.Forms.{MirrorVariant, primitive, declared, error, variable, array, wildcard, executable, nothing_there, void, null, package_mirror, BoundKind, unbounded, upper, lower, ValueVariant, truth_value, whole_value, character, text_value, class_value, constant, array_value, nested, other, floating}
use Rattle.frame_forms.specs.MirrorForms as shapes
use Rattle.frame_forms.specs.MirrorForms.{in_order, below, certainly, bool, u8_below, exactly, element, mirror_fields, mirror_form, mirror_made, mirror_shown, MirrorShown, base_shown, around_shown, bound_fields, bound_form, bounded, value_fields, value_form, value_made, value_shown, ValueShown, variant_shown, annotation, named_value, named_of, named_shown, annotation_of, annotation_shown, whole_at, whole_number, grammar}
use Rattle.frame_forms.specs.declared.question_row.QuestionRow.{QuestionRow}
use Rattle.frame_forms.specs.declared.question_row.QuestionRow.TheVariants as rows
use Rattle.frame_forms.specs.QuestionTable.{question_tag, question_at, all_rows}
use Rattle.frame_forms.specs.FrameTable.{Row, table, row_with, row_of, form_in, kind_in, tag_of, question_form, form_of, frame_form, claim_number, claim}
use Rattle.frame_forms.proofs.FormsMeet.{IsNumbered, IsSound}

-- ---- numbers

-- each thing has the number of its place, from this one on
abbrev ArePlaced : {A : Type 0} → (A → ℕ) → ℕ → List A → Type 0
ArePlaced number_of n [] = Unit {0}
ArePlaced number_of n (thing ∷ things) = (number_of thing ≡ n) × ArePlaced number_of (suc n) things

placed_at : {A : Type 0} (number_of : A → ℕ) (n : ℕ) (things : List A) → ArePlaced number_of n things → (i : ℕ) (x : A) → slice_get things i ≡ Some x → number_of x ≡ n + i
placed_at number_of n [] placed i x e = absurd cc
placed_at number_of n (thing ∷ things) placed zero x e = let same : thing ≡ x = cc in ap number_of (sym same) ∙ placed.0 ∙ omega arith
placed_at number_of n (thing ∷ things) placed (suc i) x e = placed_at number_of (suc n) things placed.1 i x e ∙ omega arith

in_order_sound : {A : Type 0} (number_of : A → ℕ) (things : List A) → ArePlaced number_of 0 things → (some : A) → slice_get things (number_of some) ≡ Some some → IsNumbered (in_order number_of things)
in_order_sound number_of things placed some there = record { back = λ n x e. placed_at number_of 0 things placed n x e ∙ omega arith; some = some; there = there }

kept : {A : Type 0} (b : Bool) (x y : A) → cond b (Some x) None ≡ Some y → (b ≡ true) × (x ≡ y)
kept true x y e = (refl, cc)
kept false x y e = absurd cc

below_sound : (bound : ℕ) → (below bound).at 0 ≡ Some 0 → IsNumbered (below bound)
below_sound bound there = record { back = λ n x e. sym (kept (ltb n bound) n x e).1; some = 0; there = there }

certainly_sound : (only : ℕ) → (certainly only).at only ≡ Some tt → IsNumbered (certainly only)
certainly_sound only there = record { back = λ n u e. sym (eqb-true n only (kept (eqb n only) tt u e).0); some = tt; there = there }

whole_cases : (n : ℕ) (a b : Bool) → eqb n 3 ≡ a → eqb n 4 ≡ b → (x : WholeKind) → cond a (Some wholes.Int) (cond b (Some wholes.Long) None) ≡ Some x → whole_number x ≡ n
whole_cases n true b p q x e = let same : wholes.Int ≡ x = cc in ap whole_number (sym same) ∙ sym (eqb-true n 3 p)
whole_cases n false true p q x e = let same : wholes.Long ≡ x = cc in ap whole_number (sym same) ∙ sym (eqb-true n 4 q)
whole_cases n false false p q x e = absurd cc

whole_sound : IsNumbered shapes.whole_kinds
whole_sound = record { back = λ n x e. whole_cases n (eqb n 3) (eqb n 4) refl refl x e; some = wholes.Int; there = refl }

bool_sound : IsSound bool
bool_sound = in_order_sound shapes.bool_number (false ∷ true ∷ []) (refl, (refl, tt)) false refl

primitives_sound : IsNumbered shapes.primitives
primitives_sound = in_order_sound shapes.primitive_number (Boolean ∷ Byte ∷ Short ∷ Int ∷ Long ∷ Char ∷ Float ∷ Double ∷ []) (refl, (refl, (refl, (refl, (refl, (refl, (refl, (refl, tt)))))))) Boolean refl

bounds_sound : IsNumbered shapes.bounds
bounds_sound = in_order_sound shapes.bound_number (unbounded ∷ upper ∷ lower ∷ []) (refl, (refl, (refl, tt))) unbounded refl

mirrors_sound : IsNumbered shapes.mirror_variants
mirrors_sound = in_order_sound shapes.mirror_number (primitive ∷ declared ∷ error ∷ variable ∷ array ∷ wildcard ∷ executable ∷ nothing_there ∷ void ∷ null ∷ package_mirror ∷ [])
    (refl, (refl, (refl, (refl, (refl, (refl, (refl, (refl, (refl, (refl, (refl, tt))))))))))) nothing_there refl

values_sound : IsNumbered shapes.value_variants
values_sound = in_order_sound shapes.value_number (truth_value ∷ whole_value ∷ character ∷ text_value ∷ class_value ∷ constant ∷ array_value ∷ nested ∷ other ∷ floating ∷ [])
    (refl, (refl, (refl, (refl, (refl, (refl, (refl, (refl, (refl, (refl, tt)))))))))) truth_value refl

claim_sound : IsSound claim
claim_sound = in_order_sound claim_number (Always ∷ Never ∷ Varies ∷ []) (refl, (refl, (refl, tt))) Always refl

-- ---- mirrors

element_sound : IsSound element
element_sound = ((tt, λ before. tt), (λ u. refl), λ v. refl)

bound_form_sound : (x : BoundKind) → IsSound (bound_form x)
bound_form_sound unbounded = certainly_sound 0 refl
bound_form_sound upper = (certainly_sound 1 refl, tt)
bound_form_sound lower = (certainly_sound 1 refl, tt)

mirror_form_sound : (x : MirrorVariant) → IsSound (mirror_form x)
mirror_form_sound primitive = primitives_sound
mirror_form_sound declared = (element_sound, (tt, λ before. tt))
mirror_form_sound error = tt
mirror_form_sound variable = element_sound
mirror_form_sound array = tt
mirror_form_sound wildcard = (bounds_sound, bound_form_sound)
mirror_form_sound executable = ((λ before. element_sound), ((λ before. tt), (tt, λ before. tt)))
mirror_form_sound nothing_there = tt
mirror_form_sound void = tt
mirror_form_sound null = tt
mirror_form_sound package_mirror = tt

-- what a mirror shows, by what it is made of
shown-roll : (all : List Around) (b : BaseMirror) → mirror_shown (roll-Mirror (record { around = all; base = b })) ≡ around_shown all b
shown-roll all b = ap (λ o. around_shown o.around o.base) (out-roll-Mirror (record { around = all; base = b }))

shown-wrapped : (one : Around) (m : Mirror) → mirror_shown (wrapped (one ∷ []) m) ≡ around_shown (one ∷ (out-Mirror m).around) (out-Mirror m).base
shown-wrapped one m = shown-roll (one ∷ (out-Mirror m).around) (out-Mirror m).base

bound-shown : (x : BoundKind) (v : El (bound_fields x)) → mirror_shown (bounded x v) ≡ (wildcard, (x, v))
bound-shown unbounded v = shown-roll [] base.Wildcard ∙ ap base_shown base.outs-Wildcard
bound-shown upper v = shown-wrapped around.Extends v.1 ∙ ap (λ (m : Mirror). (let t : MirrorShown = (wildcard, (upper, (tt, m))) in t)) (roll-out-Mirror v.1)
bound-shown lower v = shown-wrapped around.Super v.1 ∙ ap (λ (m : Mirror). (let t : MirrorShown = (wildcard, (lower, (tt, m))) in t)) (roll-out-Mirror v.1)

pub mirror-shown : (x : MirrorVariant) (v : El (mirror_fields x)) → mirror_shown (mirror_made x v) ≡ (x, v)
mirror-shown primitive kind = shown-roll [] (base.Primitive kind) ∙ ap base_shown (base.outs-Primitive kind)
mirror-shown declared v =
    let inner : DeclaredMirror-F BaseMirror DeclaredMirror ExecutableMirror Mirror = record { element = v.0; enclosing = v.1.0; arguments = v.1.1 } in
    shown-roll [] (base.Declared (roll-DeclaredMirror inner)) ∙ ap base_shown (base.outs-Declared (roll-DeclaredMirror inner))
    ∙ ap (λ o. (let t : MirrorShown = (declared, (o.element, (o.enclosing, o.arguments))) in t)) (out-roll-DeclaredMirror inner)
mirror-shown error name = shown-roll [] (base.Error name) ∙ ap base_shown (base.outs-Error name)
mirror-shown variable at = shown-roll [] (base.Variable at) ∙ ap base_shown (base.outs-Variable at)
mirror-shown array item = shown-wrapped around.Array item ∙ ap (λ (m : Mirror). (let t : MirrorShown = (array, m) in t)) (roll-out-Mirror item)
mirror-shown wildcard v = bound-shown v.0 v.1
mirror-shown executable v =
    let inner : ExecutableMirror-F BaseMirror DeclaredMirror ExecutableMirror Mirror = record { variables = v.0; parameters = v.1.0; result = v.1.1.0; thrown = v.1.1.1 } in
    shown-roll [] (base.Executable (roll-ExecutableMirror inner)) ∙ ap base_shown (base.outs-Executable (roll-ExecutableMirror inner))
    ∙ ap (λ o. (let t : MirrorShown = (executable, (o.variables, (o.parameters, (o.result, o.thrown)))) in t)) (out-roll-ExecutableMirror inner)
mirror-shown nothing_there v = shown-roll [] base.Nothing ∙ ap base_shown base.outs-Nothing
mirror-shown void v = shown-roll [] base.Void ∙ ap base_shown base.outs-Void
mirror-shown null v = shown-roll [] base.Null ∙ ap base_shown base.outs-Null
mirror-shown package_mirror name = shown-roll [] (base.Package name) ∙ ap base_shown (base.outs-Package name)

abbrev made : MirrorShown → Mirror
made v = mirror_made v.0 v.1

base-made : (x : BaseMirror-F BaseMirror DeclaredMirror ExecutableMirror Mirror) → made (base_shown x) ≡ plain (roll-BaseMirror x)
base-made (BaseMirror-F.Primitive kind) = ap plain (sym (base.rolls-Primitive kind))
base-made (BaseMirror-F.Declared d) = ap (λ (e : DeclaredMirror). plain (base.Declared e)) (roll-out-DeclaredMirror d) ∙ ap plain (sym (base.rolls-Declared d))
base-made (BaseMirror-F.Error name) = ap plain (sym (base.rolls-Error name))
base-made (BaseMirror-F.Variable at) = ap plain (sym (base.rolls-Variable at))
base-made BaseMirror-F.Wildcard = ap plain (sym base.rolls-Wildcard)
base-made (BaseMirror-F.Executable d) = ap (λ (e : ExecutableMirror). plain (base.Executable e)) (roll-out-ExecutableMirror d) ∙ ap plain (sym (base.rolls-Executable d))
base-made BaseMirror-F.Nothing = ap plain (sym base.rolls-Nothing)
base-made BaseMirror-F.Void = ap plain (sym base.rolls-Void)
base-made BaseMirror-F.Null = ap plain (sym base.rolls-Null)
base-made (BaseMirror-F.Package name) = ap plain (sym (base.rolls-Package name))

wrapped-roll : (one : Around) (others : List Around) (b : BaseMirror) → wrapped (one ∷ []) (roll-Mirror (record { around = others; base = b })) ≡ roll-Mirror (record { around = one ∷ others; base = b })
wrapped-roll one others b = ap (λ o. roll-Mirror (record { around = one ∷ o.around; base = o.base })) (out-roll-Mirror (record { around = others; base = b }))

around-made : (all : List Around) (b : BaseMirror) → made (around_shown all b) ≡ roll-Mirror (record { around = all; base = b })
around-made [] b = base-made (out-BaseMirror b) ∙ ap plain (roll-out-BaseMirror b)
around-made (around.Array ∷ others) b = wrapped-roll around.Array others b
around-made (around.Extends ∷ others) b = wrapped-roll around.Extends others b
around-made (around.Super ∷ others) b = wrapped-roll around.Super others b

mirror-made : (m : Mirror) → made (mirror_shown m) ≡ m
mirror-made m = around-made (out-Mirror m).around (out-Mirror m).base ∙ roll-out-Mirror m

-- ---- values

named_sound : IsSound named_value
named_sound = ((tt, tt), (λ u. ap (λ o. (o.name, o.value)) (out-roll-NamedValue (record { name = u.0; value = u.1 }))), λ v. roll-out-NamedValue v)

annotation_sound : IsSound annotation
annotation_sound = ((tt, λ before. named_sound), (λ u. ap (λ o. (o.annotation_type, o.values)) (out-roll-Annotation (record { annotation_type = u.0; values = u.1 }))), λ v. roll-out-Annotation v)

value_form_sound : (x : ValueVariant) → IsSound (value_form x)
value_form_sound truth_value = bool_sound
value_form_sound whole_value = (whole_sound, tt)
value_form_sound character = tt
value_form_sound text_value = tt
value_form_sound class_value = tt
value_form_sound constant = element_sound
value_form_sound array_value = λ before. tt
value_form_sound nested = annotation_sound
value_form_sound other = tt
value_form_sound floating = tt

pub value-shown : (x : ValueVariant) (v : El (value_fields x)) → value_shown (value_made x v) ≡ (x, v)
value-shown truth_value b = ap variant_shown (values.outs-Truth b)
value-shown whole_value v = ap variant_shown (values.outs-Whole v.0 v.1)
value-shown character n = ap variant_shown (values.outs-Character n)
value-shown text_value name = ap variant_shown (values.outs-Text name)
value-shown class_value of = ap variant_shown (values.outs-Class of)
value-shown constant at = ap variant_shown (values.outs-Constant at)
value-shown array_value items = ap variant_shown (values.outs-Array items)
value-shown nested a = ap variant_shown (values.outs-Nested a)
value-shown other name = ap variant_shown (values.outs-Other name)
value-shown floating name = ap variant_shown (values.outs-Floating name)

abbrev value_of : ValueShown → Value
value_of v = value_made v.0 v.1

variant-made : (x : Value-F Value Annotation NamedValue) → value_of (variant_shown x) ≡ roll-Value x
variant-made (Value-F.Truth b) = sym (values.rolls-Truth b)
variant-made (Value-F.Whole kind n) = sym (values.rolls-Whole kind n)
variant-made (Value-F.Character n) = sym (values.rolls-Character n)
variant-made (Value-F.Text name) = sym (values.rolls-Text name)
variant-made (Value-F.Class of) = sym (values.rolls-Class of)
variant-made (Value-F.Constant at) = sym (values.rolls-Constant at)
variant-made (Value-F.Array items) = sym (values.rolls-Array items)
variant-made (Value-F.Nested a) = sym (values.rolls-Nested a)
variant-made (Value-F.Other name) = sym (values.rolls-Other name)
variant-made (Value-F.Floating name) = sym (values.rolls-Floating name)

value-made : (v : Value) → value_of (value_shown v) ≡ v
value-made v = variant-made (out-Value v) ∙ roll-out-Value v

pub grammar_sound : (c : Code) (p : Part c) → IsSound (grammar p)
grammar_sound _ mirror_part = ((mirrors_sound, mirror_form_sound), (λ u. mirror-shown u.0 u.1), mirror-made)
grammar_sound _ value_part = ((values_sound, value_form_sound), (λ u. value-shown u.0 u.1), value-made)

-- ---- frames

abbrev AllSound : List Row → Type 0
AllSound [] = Unit {0}
AllSound (first ∷ others) = IsSound first.form × AllSound others

row_sound : (tag : ℕ) (rows : List Row) → AllSound rows → IsSound (form_in (row_with tag rows))
row_sound tag [] sound = tt
row_sound tag (first ∷ others) sound =
    let P : Bool → Type 0 = λ b. IsSound (form_in (cond b (Some first) (row_with tag others))) in
    let both : P (eqb first.tag tag) = elim (eqb first.tag tag) as P [ true ↦ sound.0 | false ↦ row_sound tag others sound.1 ] in
    both

infixr 30 ◌and◌
◌and◌ : {A B : Type 0} → A → B → A × B
a and b = (a, b)

-- the same for each form of an item
each : {A B : Type 0} → B → A → B
each b before = b

-- the forms of the table, one line for each row
table_sound : AllSound table
table_sound =
    (tt and tt and each (tt and tt)) and
    (tt and bool_sound and bool_sound and each tt and each tt) and
    (each element_sound) and
    (below_sound 11 refl and tt and tt and tt and bool_sound) and
    (each tt) and
    (each annotation_sound) and
    (each (tt and tt)) and
    (each tt) and
    bool_sound and
    (below_sound 5 refl) and
    tt and
    (below_sound 4 refl) and
    (each tt and each tt and claim_sound) and
    bool_sound and
    (tt and tt and each element_sound) and
    (below_sound 3 refl and tt and tt and tt and each element_sound) and
    (tt and tt and each element_sound) and
    (below_sound 5 refl and element_sound and tt) and tt

-- the forms of the questions, by their arguments
question_sound : (row : QuestionRow) → IsSound (question_form row)
question_sound (rows.Name of) = tt
question_sound (rows.Element of) = element_sound
question_sound (rows.Mirror of) = tt
question_sound (rows.Mirrors of) = tt and tt
question_sound rows.ValuesWithDefaults = element_sound and tt
question_sound rows.Overrides = element_sound and element_sound and element_sound
question_sound rows.MemberType = tt and element_sound
question_sound rows.DeclaredType = element_sound and each tt
question_sound rows.Roots = tt

-- what is found passes
found_passes : {A : Type 0} (test : A → Bool) (xs : List A) (x : A) → find test xs ≡ Some x → test x ≡ true
found_passes test [] x e = absurd cc
found_passes {A} test (first ∷ others) x e = cases (test first) refl e (found_passes test others x)
  where
    cases : (b : Bool) → test first ≡ b → cond b (Some first) (find test others) ≡ Some x → (find test others ≡ Some x → test x ≡ true) → test x ≡ true
    cases true passes found later = let same : first ≡ x = cc in ap test (sym same) ∙ passes
    cases false fails found later = later found

-- the question that is found for a tag has it
pub question_back : (n : ℕ) (row : QuestionRow) → question_at n ≡ Some row → question_tag row ≡ n
unfolding question_at
question_back n row e = eqb-true (question_tag row) n (found_passes (λ each. eqb (question_tag each) n) all_rows row e)

kind_sound : (n : ℕ) (of : Option Row) (asked : Option QuestionRow) → question_at n ≡ asked → (kind : FrameKind) → option_or (kind_in n of) (option_map (λ row. question_frame row) asked) ≡ Some kind → tag_of kind ≡ n
kind_sound n (Some of) asked e kind h = let same : plain_frame n ≡ kind = cc in ap tag_of (sym same)
kind_sound n None None e kind h = absurd cc
kind_sound n None (Some row) e kind h = let same : question_frame row ≡ kind = cc in ap tag_of (sym same) ∙ question_back n row e

form_sound : (kind : FrameKind) → IsSound (form_of kind)
form_sound (plain_frame tag) = row_sound tag table table_sound
form_sound (question_frame row) = question_sound row

pub frame_sound : IsSound frame_form
frame_sound = (record { back = λ n kind e. kind_sound n (row_of n) (question_at n) refl kind e; some = plain_frame 24; there = refl }, form_sound)
