-- A value fits with this much room exactly where it fits with some, and is nested at most so deep: one induction over forms.
use Rattle.std.proofs.Common.{◌≡◌, ℕ, zero, suc, ◌+◌, ◌≤◌, max, List, [], ◌∷◌, length, map, Option, Some, None, refl, sym, ap, ◌∙◌, arith}
use Rattle.apt_base.specs.declared.element.ElementRef.{ElementRef}
use Rattle.apt_base.specs.declared.around.Around.{Around}
use Rattle.apt_base.specs.declared.around.Around.TheVariants as around
use Rattle.type_mirror.specs.declared.mirror.BaseMirror.{BaseMirror, roll-BaseMirror, out-BaseMirror, roll-out-BaseMirror}
use Rattle.type_mirror.specs.declared.mirror.BaseMirror.TheVariants as base
use Rattle.type_mirror.specs.declared.mirror.BaseMirror.TheOpen.{BaseMirror-F}
use Rattle.type_mirror.specs.declared.mirror.Mirror.{Mirror, roll-Mirror, out-Mirror, out-roll-Mirror}
use Rattle.type_mirror.specs.declared.mirror.DeclaredMirror.{DeclaredMirror, out-DeclaredMirror}
use Rattle.type_mirror.specs.declared.mirror.ExecutableMirror.{ExecutableMirror, out-ExecutableMirror}
use Rattle.type_mirror.specs.declared.value.Value.{Value, roll-Value, out-Value, roll-out-Value}
use Rattle.type_mirror.specs.declared.value.Value.TheVariants as values
use Rattle.type_mirror.specs.declared.value.Value.TheOpen.{Value-F}
use Rattle.type_mirror.specs.declared.value.Annotation.{Annotation, out-Annotation}
use Rattle.type_mirror.specs.declared.value.NamedValue.{NamedValue}
use Rattle.type_mirror.specs.Nesting.{deepest, nesting, base_nesting, value_nesting, named_nesting, annotation_nesting}
use Rattle.type_mirror.proofs.Nestings.{nesting-is, base_nesting-Primitive, base_nesting-Declared, base_nesting-Error, base_nesting-Variable, base_nesting-Wildcard, base_nesting-Executable, base_nesting-Nothing, base_nesting-Void, base_nesting-Null, base_nesting-Package, deepest-declared-None, deepest-declared-Some, deepest-executable}
use Rattle.type_mirror.proofs.ValueNestings.{value_nesting-Truth, value_nesting-Whole, value_nesting-Character, value_nesting-Text, value_nesting-Class, value_nesting-Constant, value_nesting-Array, value_nesting-Nested, value_nesting-Other, value_nesting-Floating, named_nesting-is, annotation_nesting-is}
use Rattle.frame_forms.specs.Forms.{Code, El, Form, Part, PartFits, OptFits, EachFits, mirror_part, value_part, empty, byte, u16, u32, i64, run, both, choice, opt, list, part, means, fits_with}
use Rattle.frame_forms.specs.MirrorForms.{element, mirror, annotation, named_value, mirror_form, MirrorShown, base_shown, around_shown, declared_shown, executable_shown, value_form, ValueShown, variant_shown, grammar}
use Rattle.frame_forms.specs.FrameTable.{frame_form}
use Rattle.frame_forms.specs.Frames.{part_fits, most_nested}
use Rattle.frame_forms.specs.Depths.{part_depth, opt_depth, items_depth, depth_in, NestingDecides}

-- ---- lists

-- lists whose items' forms do not depend on those before
pub items_depth-map : {A : Type 0} (depth : A → ℕ) (before items : List A) → items_depth (λ earlier. depth) before items ≡ deepest (map depth items)
items_depth-map depth before [] = refl
items_depth-map depth before (first ∷ others) = ap (max (depth first)) (items_depth-map depth (first ∷ before) others)

pub items_depth-none : {A : Type 0} (before items : List A) → items_depth (λ earlier item. 0) before items ≡ 0
items_depth-none before [] = refl
items_depth-none before (first ∷ others) = omega (arith, items_depth-none (first ∷ before) others)

pub items_depth-same : {A : Type 0} (depth other : A → ℕ) → ((a : A) → depth a ≡ other a) → (before items : List A) → items_depth (λ earlier. depth) before items ≡ items_depth (λ earlier. other) before items
items_depth-same depth other same before [] = refl
items_depth-same depth other same before (first ∷ others) = omega (arith, same first, items_depth-same depth other same (first ∷ before) others)

-- ---- mirrors

pub element_depth : (e : ElementRef) → depth_in element e ≡ 0
element_depth e = omega (arith, items_depth-none [] e.path)

pub elements_depth : (es : List ElementRef) → items_depth {A = ElementRef} (λ earlier. depth_in element) [] es ≡ 0
elements_depth es = items_depth-same {A = ElementRef} (depth_in element) (λ e. 0) element_depth [] es ∙ items_depth-none [] es

abbrev shown_depth : MirrorShown → ℕ
shown_depth v = depth_in (mirror_form v.0) v.1

declared_depth : (d : DeclaredMirror) (enclosing : Option Mirror) → (out-DeclaredMirror d).enclosing ≡ enclosing → base_nesting (base.Declared d) ≡ suc (shown_depth (declared_shown d))
declared_depth d None e =
    let o = out-DeclaredMirror d in
    let none : opt_depth {A = Mirror} (depth_in mirror) o.enclosing ≡ 0 = ap (opt_depth {A = Mirror} (depth_in mirror)) e in
    omega (arith, base_nesting-Declared d, deepest-declared-None d e, element_depth o.element, none, items_depth-map nesting [] o.arguments)
declared_depth d (Some m) e =
    let o = out-DeclaredMirror d in
    let some : opt_depth {A = Mirror} (depth_in mirror) o.enclosing ≡ nesting m = ap (opt_depth {A = Mirror} (depth_in mirror)) e in
    omega (arith, base_nesting-Declared d, deepest-declared-Some d m e, element_depth o.element, some, items_depth-map nesting [] o.arguments)

executable_depth : (x : ExecutableMirror) → base_nesting (base.Executable x) ≡ suc (shown_depth (executable_shown x))
executable_depth x =
    let o = out-ExecutableMirror x in
    omega (arith, base_nesting-Executable x, deepest-executable x, elements_depth o.variables, items_depth-map nesting [] o.parameters, items_depth-map nesting [] o.thrown)

base_depth : (x : BaseMirror-F BaseMirror DeclaredMirror ExecutableMirror Mirror) → base_nesting (roll-BaseMirror x) ≡ suc (shown_depth (base_shown x))
base_depth (BaseMirror-F.Primitive kind) = ap base_nesting (base.rolls-Primitive kind) ∙ base_nesting-Primitive kind
base_depth (BaseMirror-F.Declared d) = ap base_nesting (base.rolls-Declared d) ∙ declared_depth d (out-DeclaredMirror d).enclosing refl
base_depth (BaseMirror-F.Error name) = ap base_nesting (base.rolls-Error name) ∙ base_nesting-Error name
base_depth (BaseMirror-F.Variable at) = ap base_nesting (base.rolls-Variable at) ∙ base_nesting-Variable at ∙ ap suc (sym (element_depth at))
base_depth BaseMirror-F.Wildcard = ap base_nesting base.rolls-Wildcard ∙ base_nesting-Wildcard
base_depth (BaseMirror-F.Executable x) = ap base_nesting (base.rolls-Executable x) ∙ executable_depth x
base_depth BaseMirror-F.Nothing = ap base_nesting base.rolls-Nothing ∙ base_nesting-Nothing
base_depth BaseMirror-F.Void = ap base_nesting base.rolls-Void ∙ base_nesting-Void
base_depth BaseMirror-F.Null = ap base_nesting base.rolls-Null ∙ base_nesting-Null
base_depth (BaseMirror-F.Package name) = ap base_nesting (base.rolls-Package name) ∙ base_nesting-Package name

nesting-roll : (all : List Around) (b : BaseMirror) → nesting (roll-Mirror (record { around = all; base = b })) ≡ length all + base_nesting b
nesting-roll all b = nesting-is (roll-Mirror (record { around = all; base = b })) ∙ ap (λ o. length o.around + base_nesting o.base) (out-roll-Mirror (record { around = all; base = b }))

around_depth : (all : List Around) (b : BaseMirror) → length all + base_nesting b ≡ suc (shown_depth (around_shown all b))
around_depth [] b = omega (arith, ap base_nesting (sym (roll-out-BaseMirror b)) ∙ base_depth (out-BaseMirror b))
around_depth (around.Array ∷ others) b = omega (arith, nesting-roll others b)
around_depth (around.Extends ∷ others) b = omega (arith, nesting-roll others b)
around_depth (around.Super ∷ others) b = omega (arith, nesting-roll others b)

mirror_depth : (m : Mirror) → nesting m ≡ suc (depth_in (grammar mirror_part) m)
mirror_depth m = nesting-is m ∙ around_depth (out-Mirror m).around (out-Mirror m).base

-- ---- values

abbrev variant_depth : ValueShown → ℕ
variant_depth v = depth_in (value_form v.0) v.1

named_depth : (n : NamedValue) → depth_in named_value n ≡ named_nesting n
named_depth n = omega (arith, named_nesting-is n)

pub annotation_depth : (a : Annotation) → depth_in annotation a ≡ annotation_nesting a
annotation_depth a =
    let o = out-Annotation a in
    omega (arith, annotation_nesting-is a, items_depth-same {A = NamedValue} (depth_in named_value) named_nesting named_depth [] o.values, items_depth-map named_nesting [] o.values)

variant_is : (x : Value-F Value Annotation NamedValue) → value_nesting (roll-Value x) ≡ suc (variant_depth (variant_shown x))
variant_is (Value-F.Truth b) = ap value_nesting (values.rolls-Truth b) ∙ value_nesting-Truth b
variant_is (Value-F.Whole kind n) = ap value_nesting (values.rolls-Whole kind n) ∙ value_nesting-Whole kind n
variant_is (Value-F.Character n) = ap value_nesting (values.rolls-Character n) ∙ value_nesting-Character n
variant_is (Value-F.Text name) = ap value_nesting (values.rolls-Text name) ∙ value_nesting-Text name
variant_is (Value-F.Class of) = ap value_nesting (values.rolls-Class of) ∙ omega (arith, value_nesting-Class of)
variant_is (Value-F.Constant at) = ap value_nesting (values.rolls-Constant at) ∙ value_nesting-Constant at ∙ ap suc (sym (element_depth at))
variant_is (Value-F.Array items) = ap value_nesting (values.rolls-Array items) ∙ omega (arith, value_nesting-Array items, items_depth-map value_nesting [] items)
variant_is (Value-F.Nested a) = ap value_nesting (values.rolls-Nested a) ∙ omega (arith, value_nesting-Nested a, annotation_depth a)
variant_is (Value-F.Other name) = ap value_nesting (values.rolls-Other name) ∙ value_nesting-Other name
variant_is (Value-F.Floating name) = ap value_nesting (values.rolls-Floating name) ∙ value_nesting-Floating name

value_depth : (v : Value) → value_nesting v ≡ suc (depth_in (grammar value_part) v)
value_depth v = ap value_nesting (sym (roll-out-Value v)) ∙ variant_is (out-Value v)

pub part_depth-is : (c : Code) (p : Part c) (v : El c) → part_depth c p v ≡ suc (depth_in (grammar p) v)
part_depth-is _ mirror_part m = mirror_depth m
part_depth-is _ value_part v = value_depth v

-- ---- room

max_at_most : (a b n : ℕ) → a ≤ n → b ≤ n → max a b ≤ n
max_at_most a b n p q = omega (arith, p, q)

max_left : (a b n : ℕ) → max a b ≤ n → a ≤ n
max_left a b n h = omega (arith, h)

max_right : (a b n : ℕ) → max a b ≤ n → b ≤ n
max_right a b n h = omega (arith, h)

abbrev Shallow : ℕ → PartFits → Type 0
Shallow n P = (c : Code) (p : Part c) (v : El c) → P c p v → part_depth c p v ≤ n

opt_shallow : {A : Type 0} (fits : A → Type 0) (depth : A → ℕ) (n : ℕ) → ((a : A) → fits a → depth a ≤ n) → (v : Option A) → OptFits fits v → opt_depth depth v ≤ n
opt_shallow fits depth n each None h = omega arith
opt_shallow fits depth n each (Some a) h = each a h

items_shallow : {A : Type 0} (fits : List A → A → Type 0) (depth : List A → A → ℕ) (n : ℕ) → ((before : List A) (a : A) → fits before a → depth before a ≤ n) → (before v : List A) → EachFits fits before v → items_depth depth before v ≤ n
items_shallow fits depth n each before [] h = omega arith
items_shallow fits depth n each before (a ∷ v) h = max_at_most (depth before a) (items_depth depth (a ∷ before) v) n (each before a h.0) (items_shallow fits depth n each (a ∷ before) v h.1)

-- what fits with parts that are nested at most so deep
shallow_with : (n : ℕ) (P : PartFits) → Shallow n P → {c : Code} (f : Form c) (v : El c) → fits_with P f v → depth_in f v ≤ n
shallow_with n P parts empty v h = omega arith
shallow_with n P parts (byte s kind numbers) v h = omega arith
shallow_with n P parts u16 v h = omega arith
shallow_with n P parts u32 v h = omega arith
shallow_with n P parts i64 v h = omega arith
shallow_with n P parts (run fault) v h = omega arith
shallow_with n P parts (both f g) v h = max_at_most (depth_in f v.0) (depth_in g v.1) n (shallow_with n P parts f v.0 h.0) (shallow_with n P parts g v.1 h.1)
shallow_with n P parts (choice s kind numbers of f) v h = shallow_with n P parts (f v.0) v.1 h.1
shallow_with n P parts (opt {c} f) v h = opt_shallow {A = El c} (fits_with P f) (depth_in f) n (shallow_with n P parts f) v h
shallow_with n P parts (list {c} f) v h = items_shallow {A = El c} (λ before. fits_with P (f before)) (λ before. depth_in (f before)) n (λ before. shallow_with n P parts (f before)) [] v h.1
shallow_with n P parts (part {c} p) v h = parts c p v h
shallow_with n P parts (means make show f) v h = shallow_with n P parts f (show v) h

part_shallow : (n : ℕ) → Shallow n (part_fits n)
unfolding part_fits
part_shallow zero c p v h = absurd h
part_shallow (suc n) c p v h = omega (arith, part_depth-is c p v, shallow_with n (part_fits n) (part_shallow n) (grammar p) v h)

-- from one room to another that is enough
abbrev Moves : ℕ → PartFits → PartFits → Type 0
Moves n P Q = (c : Code) (p : Part c) (v : El c) → P c p v → part_depth c p v ≤ n → Q c p v

opt_moves : {A : Type 0} (fits other : A → Type 0) (depth : A → ℕ) (n : ℕ) → ((a : A) → fits a → depth a ≤ n → other a) → (v : Option A) → OptFits fits v → opt_depth depth v ≤ n → OptFits other v
opt_moves fits other depth n each None h le = tt
opt_moves fits other depth n each (Some a) h le = each a h le

items_move : {A : Type 0} (fits other : List A → A → Type 0) (depth : List A → A → ℕ) (n : ℕ) → ((before : List A) (a : A) → fits before a → depth before a ≤ n → other before a) → (before v : List A) → EachFits fits before v → items_depth depth before v ≤ n → EachFits other before v
items_move fits other depth n each before [] h le = tt
items_move fits other depth n each before (a ∷ v) h le =
    (each before a h.0 (max_left (depth before a) (items_depth depth (a ∷ before) v) n le), items_move fits other depth n each (a ∷ before) v h.1 (max_right (depth before a) (items_depth depth (a ∷ before) v) n le))

moves_with : (n : ℕ) (P Q : PartFits) → Moves n P Q → {c : Code} (f : Form c) (v : El c) → fits_with P f v → depth_in f v ≤ n → fits_with Q f v
moves_with n P Q parts empty v h le = h
moves_with n P Q parts (byte s kind numbers) v h le = h
moves_with n P Q parts u16 v h le = h
moves_with n P Q parts u32 v h le = h
moves_with n P Q parts i64 v h le = h
moves_with n P Q parts (run fault) v h le = h
moves_with n P Q parts (both f g) v h le =
    (moves_with n P Q parts f v.0 h.0 (max_left (depth_in f v.0) (depth_in g v.1) n le), moves_with n P Q parts g v.1 h.1 (max_right (depth_in f v.0) (depth_in g v.1) n le))
moves_with n P Q parts (choice s kind numbers of f) v h le = (h.0, moves_with n P Q parts (f v.0) v.1 h.1 le)
moves_with n P Q parts (opt {c} f) v h le = opt_moves {A = El c} (fits_with P f) (fits_with Q f) (depth_in f) n (moves_with n P Q parts f) v h le
moves_with n P Q parts (list {c} f) v h le =
    (h.0, items_move {A = El c} (λ before. fits_with P (f before)) (λ before. fits_with Q (f before)) (λ before. depth_in (f before)) n (λ before. moves_with n P Q parts (f before)) [] v h.1 le)
moves_with n P Q parts (part {c} p) v h le = parts c p v h le
moves_with n P Q parts (means make show f) v h le = moves_with n P Q parts f (show v) h le

part_moves : (room n : ℕ) → Moves n (part_fits room) (part_fits n)
unfolding part_fits
part_moves zero n c p v h le = absurd h
part_moves (suc room) zero c p v h le = absurd (omega (arith, le, part_depth-is c p v))
part_moves (suc room) (suc n) c p v h le = moves_with n (part_fits room) (part_fits n) (part_moves room n) (grammar p) v h (omega (arith, le, part_depth-is c p v))

pub nesting_decides : NestingDecides
nesting_decides fields = (
  λ h. ((most_nested, h), shallow_with most_nested (part_fits most_nested) (part_shallow most_nested) frame_form fields h),
  λ h. moves_with most_nested (part_fits h.0.0) (part_fits most_nested) (part_moves h.0.0 most_nested) frame_form fields h.0.1 h.1,
)
