-- What fields are made of, by equations: elements, mirrors, values and annotations.
use Rattle.std.proofs.Common.{◌≡◌, ℕ, ℤ, zero, suc, ◌⊎◌, inl, inr, ◌-◌, ◌<◌, ◌≤◌, min, Bool, List, [], ◌∷◌, ◌++◌, length, take, refl, sym, ap, ◌∙◌, arith}
use Rattle.std.specs.List.{flat_map}
use Rattle.std.specs.Int.{w16, w32, to_be_bytes}
use Rattle.std.proofs.lemmas.Bool.{cases_lt}
use Rattle.std.proofs.lemmas.List.Concat.{flat_map-cons}
use Rattle.apt_base.specs.Fields.{i64_form, bytes_form}
use Rattle.apt_base.specs.declared.element.ElementRef.{ElementRef}
use Rattle.type_mirror.specs.declared.mirror.PrimitiveKind.{PrimitiveKind}
use Rattle.apt_base.specs.declared.around.Around.{Around}
use Rattle.apt_base.specs.declared.around.Around.TheVariants as around
use Rattle.type_mirror.specs.declared.mirror.BaseMirror.{BaseMirror}
use Rattle.type_mirror.specs.declared.mirror.BaseMirror.TheVariants as base
use Rattle.type_mirror.specs.declared.mirror.Mirror.{Mirror, roll-Mirror, out-Mirror, roll-out-Mirror, out-roll-Mirror}
use Rattle.type_mirror.specs.declared.mirror.DeclaredMirror.{DeclaredMirror, out-DeclaredMirror}
use Rattle.type_mirror.specs.declared.mirror.ExecutableMirror.{ExecutableMirror, out-ExecutableMirror}
use Rattle.type_mirror.specs.declared.value.WholeKind.{WholeKind}
use Rattle.type_mirror.specs.declared.value.Value.{Value}
use Rattle.type_mirror.specs.declared.value.Value.TheVariants as values
use Rattle.type_mirror.specs.declared.value.Annotation.{Annotation, out-Annotation}
use Rattle.type_mirror.specs.declared.value.NamedValue.{NamedValue, out-NamedValue}
use Rattle.frame_forms.specs.Forms.{items_spelling, opt_spelling, spelled_with, primitive, error, variable, wildcard, nothing_there, void, null, package_mirror, unbounded, truth_value, whole_value, character, text_value, class_value, constant, array_value, nested, other, floating}
use Rattle.frame_forms.specs.MirrorForms.{MirrorShown, ValueShown, mirror_number, mirror_form, mirror_shown, around_shown, base_shown, declared_shown, executable_shown, value_number, value_form, value_shown, primitive_number, whole_number, bool_number}
use Rattle.frame_forms.specs.Frames.{part_spelling}
use Rattle.frame_forms.proofs.Sound.{value-shown}
use Rattle.wire_frames.specs.Spellings.{list_spelled, element_spelled, around_spelled, mirror_spelled, base_spelled, declared_spelled, executable_spelled, value_spelled, named_spelled, annotation_spelled}

-- items whose forms do not depend on those before
pub items_alike : {A : Type 0} (f g : A → List ℕ) → ((a : A) → f a ≡ g a) → (before items : List A) → flat_map f items ≡ items_spelling (λ earlier. g) before items
items_alike f g same before [] = refl
items_alike f g same before (a ∷ items) = flat_map-cons f a items ∙ ap (λ (t : List ℕ). t ++ flat_map f items) (same a) ∙ ap (λ (t : List ℕ). g a ++ t) (items_alike f g same (a ∷ before) items)

-- a list as the table has it
abbrev pub plain_list : {A : Type 0} → (A → List ℕ) → List A → List ℕ
plain_list {A} g items = to_be_bytes w32 (length items) ++ items_spelling {A = A} (λ earlier. g) [] items

pub list_alike : {A : Type 0} (f g : A → List ℕ) → ((a : A) → f a ≡ g a) → (items : List A) → list_spelled f items ≡ to_be_bytes w32 (length items) ++ items_spelling (λ earlier. g) [] items
list_alike f g same items = ap (λ (t : List ℕ). to_be_bytes w32 (length items) ++ t) (items_alike f g same [] items)

-- ---- elements

pub element_spelled-is : (e : ElementRef) → element_spelled e ≡ bytes_form e.unit ++ list_spelled (to_be_bytes w16) e.path
unfolding element_spelled
element_spelled-is e = ap (λ (t : List ℕ). bytes_form e.unit ++ t) (sym (list_alike (to_be_bytes w16) (to_be_bytes w16) (λ n. refl) e.path))

-- ---- mirrors

-- the number of a variant, and its fields
abbrev variant_spelled : ℕ → MirrorShown → List ℕ
variant_spelled room v = mirror_number v.0 ∷ spelled_with (part_spelling room) (mirror_form v.0) v.1

mirror_spelled-suc : (room : ℕ) (m : Mirror) → mirror_spelled (suc room) m ≡ variant_spelled room (mirror_shown m)
unfolding mirror_spelled part_spelling
mirror_spelled-suc room m = refl

shown-roll : (all : List Around) (b : BaseMirror) → mirror_shown (roll-Mirror (record { around = all; base = b })) ≡ around_shown all b
shown-roll all b = ap (λ o. around_shown o.around o.base) (out-roll-Mirror (record { around = all; base = b }))

abbrev of_parts : List Around → BaseMirror → Mirror
of_parts all b = roll-Mirror (record { around = all; base = b })

one_less : (room : ℕ) (all : List Around) → room - length all ≡ suc room - suc (length all)
one_less room all = omega arith

-- what stands around a base, and the base, where there is room
roll-is : (room : ℕ) (all : List Around) (b : BaseMirror) → mirror_spelled room (of_parts all b) ≡ flat_map around_spelled (take room all) ++ base_spelled (room - length all) b
unfolding mirror_spelled base_spelled part_spelling around_spelled
roll-is zero [] b = refl
roll-is zero (one ∷ all) b = let none : 0 ≡ 0 - suc (length all) = omega arith in ap (λ (n : ℕ). base_spelled n b) none
roll-is (suc room) [] b = let same : suc room ≡ suc room - 0 = omega arith in ap (λ (n : ℕ). base_spelled n b) same
roll-is (suc room) (around.Array ∷ all) b = ap (variant_spelled room) (shown-roll (around.Array ∷ all) b) ∙ ap (λ (t : List ℕ). 4 ∷ t) (roll-is room all b) ∙ ap (λ (n : ℕ). 4 ∷ (flat_map around_spelled (take room all) ++ base_spelled n b)) (one_less room all)
roll-is (suc room) (around.Extends ∷ all) b = ap (variant_spelled room) (shown-roll (around.Extends ∷ all) b) ∙ ap (λ (t : List ℕ). 5 ∷ 1 ∷ 1 ∷ t) (roll-is room all b) ∙ ap (λ (n : ℕ). 5 ∷ 1 ∷ 1 ∷ (flat_map around_spelled (take room all) ++ base_spelled n b)) (one_less room all)
roll-is (suc room) (around.Super ∷ all) b = ap (variant_spelled room) (shown-roll (around.Super ∷ all) b) ∙ ap (λ (t : List ℕ). 5 ∷ 2 ∷ 1 ∷ t) (roll-is room all b) ∙ ap (λ (n : ℕ). 5 ∷ 2 ∷ 1 ∷ (flat_map around_spelled (take room all) ++ base_spelled n b)) (one_less room all)

pub mirror_spelled-is : (room : ℕ) (m : Mirror) → mirror_spelled room m ≡ flat_map around_spelled (take room (out-Mirror m).around) ++ base_spelled (room - length (out-Mirror m).around) (out-Mirror m).base
mirror_spelled-is room m = ap (mirror_spelled room) (sym (roll-out-Mirror m)) ∙ roll-is room (out-Mirror m).around (out-Mirror m).base

take-all : {A : Type 0} (xs : List A) (n : ℕ) → length xs ≤ n → take n xs ≡ take (length xs) xs
take-all [] zero le = refl
take-all [] (suc n) le = refl
take-all (x ∷ xs) zero le = absurd (omega (arith, le))
take-all (x ∷ xs) (suc n) le = ap (λ (t : List _). x ∷ t) (take-all xs n (omega (arith, le)))

-- the same, by how much of it there is room for
pub mirror_spelled-room : (room count : ℕ) (m : Mirror) → count ≡ min (length (out-Mirror m).around) room → mirror_spelled room m ≡ flat_map around_spelled (take count (out-Mirror m).around) ++ base_spelled (room - count) (out-Mirror m).base
mirror_spelled-room room count m is = mirror_spelled-is room m ∙ cases (cases_lt (length (out-Mirror m).around) room)
  where
    all : List Around
    all = (out-Mirror m).around

    inner : BaseMirror
    inner = (out-Mirror m).base

    cases : (length all < room) ⊎ (room ≤ length all) → flat_map around_spelled (take room all) ++ base_spelled (room - length all) inner ≡ flat_map around_spelled (take count all) ++ base_spelled (room - count) inner
    cases (inl le) =
        let same : length all ≡ count = omega (arith, is, le) in
        ap (λ (t : List Around). flat_map around_spelled t ++ base_spelled (room - length all) inner) (take-all all room (omega (arith, le))) ∙ ap (λ (n : ℕ). flat_map around_spelled (take n all) ++ base_spelled (room - n) inner) same
    cases (inr ge) =
        let same : room ≡ count = omega (arith, is, ge) in
        let none : room - length all ≡ room - count = omega (arith, is, ge) in
        ap (λ (n : ℕ). flat_map around_spelled (take n all) ++ base_spelled (room - length all) inner) same ∙ ap (λ (n : ℕ). flat_map around_spelled (take count all) ++ base_spelled n inner) none

-- where there is no room
pub base_spelled-zero : (b : BaseMirror) → base_spelled 0 b ≡ []
unfolding base_spelled mirror_spelled part_spelling
base_spelled-zero b = refl

some_room : (room : ℕ) → 0 < room → room ≡ suc (room - 1)
some_room room some = omega arith

-- where there is room, by what the base shows
base_spelled-shown : (room : ℕ) (b : BaseMirror) (v : MirrorShown) → 0 < room → around_shown [] b ≡ v → base_spelled room b ≡ variant_spelled (room - 1) v
unfolding base_spelled
base_spelled-shown room b v some is =
    ap (λ (n : ℕ). mirror_spelled n (of_parts [] b)) (some_room room some) ∙ mirror_spelled-suc (room - 1) (of_parts [] b) ∙ ap (variant_spelled (room - 1)) (shown-roll [] b ∙ is)

pub base_spelled-Primitive : (room : ℕ) (kind : PrimitiveKind) → 0 < room → base_spelled room (base.Primitive kind) ≡ 0 ∷ primitive_number kind ∷ []
base_spelled-Primitive room kind some = base_spelled-shown room (base.Primitive kind) (primitive, kind) some (ap base_shown (base.outs-Primitive kind))

pub base_spelled-Declared : (room : ℕ) (d : DeclaredMirror) → 0 < room → base_spelled room (base.Declared d) ≡ 1 ∷ declared_spelled (room - 1) d
unfolding element_spelled mirror_spelled
base_spelled-Declared room d some =
    base_spelled-shown room (base.Declared d) (declared_shown d) some (ap base_shown (base.outs-Declared d))
    ∙ ap (λ (t : List ℕ). 1 ∷ (element_spelled (out-DeclaredMirror d).element ++ (opt_spelling {A = Mirror} (mirror_spelled (room - 1)) (out-DeclaredMirror d).enclosing ++ t)))
    (sym (list_alike (mirror_spelled (room - 1)) (mirror_spelled (room - 1)) (λ m. refl) (out-DeclaredMirror d).arguments))

pub base_spelled-Error : (room : ℕ) (name : List ℕ) → 0 < room → base_spelled room (base.Error name) ≡ 2 ∷ bytes_form name
base_spelled-Error room name some = base_spelled-shown room (base.Error name) (error, name) some (ap base_shown (base.outs-Error name))

pub base_spelled-Variable : (room : ℕ) (at : ElementRef) → 0 < room → base_spelled room (base.Variable at) ≡ 3 ∷ element_spelled at
unfolding element_spelled
base_spelled-Variable room at some = base_spelled-shown room (base.Variable at) (variable, at) some (ap base_shown (base.outs-Variable at))

pub base_spelled-Wildcard : (room : ℕ) → 0 < room → base_spelled room base.Wildcard ≡ 5 ∷ 0 ∷ 0 ∷ []
base_spelled-Wildcard room some = base_spelled-shown room base.Wildcard (wildcard, (unbounded, tt)) some (ap base_shown base.outs-Wildcard)

pub base_spelled-Executable : (room : ℕ) (e : ExecutableMirror) → 0 < room → base_spelled room (base.Executable e) ≡ 6 ∷ executable_spelled (room - 1) e
unfolding element_spelled mirror_spelled
base_spelled-Executable room e some =
    let o = out-ExecutableMirror e in
    let inner = mirror_spelled (room - 1) in
    base_spelled-shown room (base.Executable e) (executable_shown e) some (ap base_shown (base.outs-Executable e))
    ∙ ap (λ (t : List ℕ). 6 ∷ (t ++ (plain_list inner o.parameters ++ (inner o.result ++ plain_list inner o.thrown)))) (sym (list_alike element_spelled element_spelled (λ a. refl) o.variables))
    ∙ ap (λ (t : List ℕ). 6 ∷ (list_spelled element_spelled o.variables ++ (t ++ (inner o.result ++ plain_list inner o.thrown)))) (sym (list_alike inner inner (λ a. refl) o.parameters))
    ∙ ap (λ (t : List ℕ). 6 ∷ (list_spelled element_spelled o.variables ++ (list_spelled inner o.parameters ++ (inner o.result ++ t)))) (sym (list_alike inner inner (λ a. refl) o.thrown))

pub base_spelled-Nothing : (room : ℕ) → 0 < room → base_spelled room base.Nothing ≡ 7 ∷ []
base_spelled-Nothing room some = base_spelled-shown room base.Nothing (nothing_there, tt) some (ap base_shown base.outs-Nothing)

pub base_spelled-Void : (room : ℕ) → 0 < room → base_spelled room base.Void ≡ 8 ∷ []
base_spelled-Void room some = base_spelled-shown room base.Void (void, tt) some (ap base_shown base.outs-Void)

pub base_spelled-Null : (room : ℕ) → 0 < room → base_spelled room base.Null ≡ 9 ∷ []
base_spelled-Null room some = base_spelled-shown room base.Null (null, tt) some (ap base_shown base.outs-Null)

pub base_spelled-Package : (room : ℕ) (name : List ℕ) → 0 < room → base_spelled room (base.Package name) ≡ 10 ∷ bytes_form name
base_spelled-Package room name some = base_spelled-shown room (base.Package name) (package_mirror, name) some (ap base_shown (base.outs-Package name))

-- ---- values and annotations

abbrev value_variant_spelled : ℕ → ValueShown → List ℕ
value_variant_spelled room v = value_number v.0 ∷ spelled_with (part_spelling room) (value_form v.0) v.1

value_spelled-suc : (room : ℕ) (v : Value) → value_spelled (suc room) v ≡ value_variant_spelled room (value_shown v)
unfolding value_spelled part_spelling
value_spelled-suc room v = refl

pub value_spelled-zero : (v : Value) → value_spelled 0 v ≡ []
unfolding value_spelled part_spelling
value_spelled-zero v = refl

value_spelled-shown : (room : ℕ) (v : Value) (x : ValueShown) → 0 < room → value_shown v ≡ x → value_spelled room v ≡ value_variant_spelled (room - 1) x
value_spelled-shown room v x some is = ap (λ (n : ℕ). value_spelled n v) (some_room room some) ∙ value_spelled-suc (room - 1) v ∙ ap (value_variant_spelled (room - 1)) is

pub value_spelled-Truth : (room : ℕ) (truth : Bool) → 0 < room → value_spelled room (values.Truth truth) ≡ 0 ∷ bool_number truth ∷ []
value_spelled-Truth room truth some = value_spelled-shown room (values.Truth truth) (truth_value, truth) some (value-shown truth_value truth)

pub value_spelled-Whole : (room : ℕ) (kind : WholeKind) (number : ℤ) → 0 < room → value_spelled room (values.Whole kind number) ≡ 1 ∷ whole_number kind ∷ i64_form number
value_spelled-Whole room kind number some = value_spelled-shown room (values.Whole kind number) (whole_value, (kind, number)) some (value-shown whole_value (kind, number))

pub value_spelled-Character : (room number : ℕ) → 0 < room → value_spelled room (values.Character number) ≡ 2 ∷ to_be_bytes w32 number
value_spelled-Character room number some = value_spelled-shown room (values.Character number) (character, number) some (value-shown character number)

pub value_spelled-Text : (room : ℕ) (text : List ℕ) → 0 < room → value_spelled room (values.Text text) ≡ 3 ∷ bytes_form text
value_spelled-Text room text some = value_spelled-shown room (values.Text text) (text_value, text) some (value-shown text_value text)

pub value_spelled-Class : (room : ℕ) (of : Mirror) → 0 < room → value_spelled room (values.Class of) ≡ 4 ∷ mirror_spelled (room - 1) of
unfolding mirror_spelled
value_spelled-Class room of some = value_spelled-shown room (values.Class of) (class_value, of) some (value-shown class_value of)

pub value_spelled-Constant : (room : ℕ) (at : ElementRef) → 0 < room → value_spelled room (values.Constant at) ≡ 5 ∷ element_spelled at
unfolding element_spelled
value_spelled-Constant room at some = value_spelled-shown room (values.Constant at) (constant, at) some (value-shown constant at)

pub value_spelled-Array : (room : ℕ) (items : List Value) → 0 < room → value_spelled room (values.Array items) ≡ 6 ∷ list_spelled (value_spelled (room - 1)) items
unfolding value_spelled
value_spelled-Array room items some = value_spelled-shown room (values.Array items) (array_value, items) some (value-shown array_value items)
    ∙ ap (λ (t : List ℕ). 6 ∷ t) (sym (list_alike (value_spelled (room - 1)) (value_spelled (room - 1)) (λ v. refl) items))

pub value_spelled-Nested : (room : ℕ) (a : Annotation) → 0 < room → value_spelled room (values.Nested a) ≡ 7 ∷ annotation_spelled (room - 1) a
unfolding annotation_spelled
value_spelled-Nested room a some = value_spelled-shown room (values.Nested a) (nested, a) some (value-shown nested a)

pub value_spelled-Other : (room : ℕ) (text : List ℕ) → 0 < room → value_spelled room (values.Other text) ≡ 8 ∷ bytes_form text
value_spelled-Other room text some = value_spelled-shown room (values.Other text) (other, text) some (value-shown other text)

pub value_spelled-Floating : (room : ℕ) (text : List ℕ) → 0 < room → value_spelled room (values.Floating text) ≡ 9 ∷ bytes_form text
value_spelled-Floating room text some = value_spelled-shown room (values.Floating text) (floating, text) some (value-shown floating text)

pub named_spelled-is : (room : ℕ) (named : NamedValue) → named_spelled room named ≡ bytes_form (out-NamedValue named).name ++ value_spelled room (out-NamedValue named).value
unfolding named_spelled value_spelled
named_spelled-is room named = refl

pub annotation_spelled-is : (room : ℕ) (a : Annotation) → annotation_spelled room a ≡ mirror_spelled room (out-Annotation a).annotation_type ++ list_spelled (named_spelled room) (out-Annotation a).values
unfolding annotation_spelled mirror_spelled named_spelled
annotation_spelled-is room a = ap (λ (t : List ℕ). mirror_spelled room (out-Annotation a).annotation_type ++ t) (sym (list_alike (named_spelled room) (named_spelled room) (λ v. refl) (out-Annotation a).values))

pub ruleset base_parts = (
  base_spelled-Primitive,
  base_spelled-Declared,
  base_spelled-Error,
  base_spelled-Variable,
  base_spelled-Wildcard,
  base_spelled-Executable,
  base_spelled-Nothing,
  base_spelled-Void,
  base_spelled-Null,
  base_spelled-Package,
)

pub ruleset value_parts = (
  value_spelled-Truth,
  value_spelled-Whole,
  value_spelled-Character,
  value_spelled-Text,
  value_spelled-Class,
  value_spelled-Constant,
  value_spelled-Array,
  value_spelled-Nested,
  value_spelled-Other,
  value_spelled-Floating,
)
