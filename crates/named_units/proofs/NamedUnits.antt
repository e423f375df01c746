-- The units of elements that are named one after another.
use Rattle.std.proofs.Common.{◌≡◌, ◌<◌, ◌+◌, ℕ, List, [], ◌∷◌, ◌++◌, map, length, drop, get_or, Option, None, Some, refl, sym, ap, ◌∙◌}
use Rattle.std.specs.List.{flat_map}
use Rattle.std.specs.Option.{option_map, option_to_list}
use Rattle.std.proofs.lemmas.List.{drop_more}
use Rattle.apt_base.specs.Names.{NameSet, with_name, with_names}
use Rattle.apt_base.specs.declared.element.ElementRef.{ElementRef}
use Rattle.apt_base.specs.declared.around.Around.{Around}
use Rattle.apt_base.specs.declared.around.Around.TheVariants as around
use Rattle.type_mirror.specs.declared.mirror.PrimitiveKind.{PrimitiveKind}
use Rattle.type_mirror.specs.declared.mirror.Mirror.{Mirror, out-Mirror}
use Rattle.type_mirror.specs.declared.mirror.BaseMirror.TheVariants as base
use Rattle.type_mirror.specs.declared.mirror.DeclaredMirror.{DeclaredMirror, out-DeclaredMirror}
use Rattle.type_mirror.specs.declared.mirror.ExecutableMirror.{ExecutableMirror, out-ExecutableMirror}
use Rattle.type_layers.specs.Layers.{around_step}
use Rattle.type_layers.proofs.BaseLayers.{by_layers-around, by_layers-Primitive, by_layers-Declared, by_layers-Error, by_layers-Variable, by_layers-Wildcard, by_layers-Executable, by_layers-Nothing, by_layers-Void, by_layers-Null, by_layers-Package}
use Rattle.child_questions.specs.Verdicts.{parts_elements, layer_elements, elements_of}
use Rattle.named_units.specs.Named.{units_of, with_units, in_base, in_declared, in_executable}

-- ---- one after another

pub with_names-append : (names : NameSet) (xs ys : List (List ℕ)) → with_names names (xs ++ ys) ≡ with_names (with_names names xs) ys
with_names-append names [] ys = refl
with_names-append names (x ∷ xs) ys = with_names-append (with_name names x) xs ys

units_of-append : (xs ys : List ElementRef) → units_of (xs ++ ys) ≡ units_of xs ++ units_of ys
units_of-append [] ys = refl
units_of-append (x ∷ xs) ys = ap (λ (units : List (List ℕ)). x.unit ∷ units) (units_of-append xs ys)

pub with_units-append : (names : NameSet) (xs ys : List ElementRef) → with_units names (xs ++ ys) ≡ with_units (with_units names xs) ys
with_units-append names xs ys =
    ap (with_names names) (units_of-append xs ys) ∙ with_names-append names (units_of xs) (units_of ys)

-- the elements of the mirrors from one on are those of this one and then of the later ones
pub mirrors_left : (names : NameSet) (ms : List Mirror) (i : ℕ) (m : Mirror) → i < length ms → m ≡ get_or ms i m
    → with_units names (flat_map elements_of (drop i ms)) ≡ with_units (with_units names (elements_of m)) (flat_map elements_of (drop (i + 1) ms))
mirrors_left names ms i m within is =
    ap (λ (rest : List Mirror). with_units names (flat_map elements_of rest)) (drop_more ms i m within ∙ ap (λ (x : Mirror). x ∷ drop (i + 1) ms) (sym is))
    ∙ with_units-append names (elements_of m) (flat_map elements_of (drop (i + 1) ms))

-- ---- by what a mirror is made of

-- what stands around a base names nothing
around_names : (around : List Around) (elements : List ElementRef) → around_step layer_elements around elements ≡ elements
around_names [] elements = refl
around_names (around.Array ∷ inner) elements = around_names inner elements
around_names (around.Extends ∷ inner) elements = around_names inner elements
around_names (around.Super ∷ inner) elements = around_names inner elements

parts_listed : (ms : List Mirror) → parts_elements (map elements_of ms) ≡ flat_map elements_of ms
parts_listed [] = refl
parts_listed (m ∷ ms) = ap (λ (more : List ElementRef). elements_of m ++ more) (parts_listed ms)

enclosing_listed : (o : Option Mirror) → parts_elements (option_to_list (option_map elements_of o)) ≡ flat_map elements_of (option_to_list o)
enclosing_listed None = refl
enclosing_listed (Some m) = refl

pub elements-base : (m : Mirror) → elements_of m ≡ in_base (out-Mirror m).base
unfolding elements_of
elements-base m = by_layers-around layer_elements m ∙ around_names (out-Mirror m).around (in_base (out-Mirror m).base)

pub elements-Primitive : (kind : PrimitiveKind) → in_base (base.Primitive kind) ≡ []
unfolding elements_of
elements-Primitive kind = by_layers-Primitive layer_elements kind

pub elements-Error : (text : List ℕ) → in_base (base.Error text) ≡ []
unfolding elements_of
elements-Error text = by_layers-Error layer_elements text

pub elements-Variable : (at : ElementRef) → in_base (base.Variable at) ≡ at ∷ []
unfolding elements_of
elements-Variable at = by_layers-Variable layer_elements at

pub elements-Wildcard : in_base base.Wildcard ≡ []
unfolding elements_of
elements-Wildcard = by_layers-Wildcard layer_elements

pub elements-Nothing : in_base base.Nothing ≡ []
unfolding elements_of
elements-Nothing = by_layers-Nothing layer_elements

pub elements-Void : in_base base.Void ≡ []
unfolding elements_of
elements-Void = by_layers-Void layer_elements

pub elements-Null : in_base base.Null ≡ []
unfolding elements_of
elements-Null = by_layers-Null layer_elements

pub elements-Package : (name : List ℕ) → in_base (base.Package name) ≡ []
unfolding elements_of
elements-Package name = by_layers-Package layer_elements name

elements-Declared : (d : DeclaredMirror) → in_declared d
    ≡ (out-DeclaredMirror d).element ∷ (parts_elements (option_to_list (option_map elements_of (out-DeclaredMirror d).enclosing)) ++ parts_elements (map elements_of (out-DeclaredMirror d).arguments))
unfolding elements_of
elements-Declared d = by_layers-Declared layer_elements d

elements-Executable : (e : ExecutableMirror) → in_executable e
    ≡ (out-ExecutableMirror e).variables ++ (parts_elements (map elements_of (out-ExecutableMirror e).parameters)
    ++ (elements_of (out-ExecutableMirror e).result ++ parts_elements (map elements_of (out-ExecutableMirror e).thrown)))
unfolding elements_of
elements-Executable e = by_layers-Executable layer_elements e

-- ---- added part by part

pub with-Declared : (names : NameSet) (d : DeclaredMirror) → with_units names (in_declared d)
    ≡ with_units (with_units (with_units names ((out-DeclaredMirror d).element ∷ [])) (flat_map elements_of (option_to_list (out-DeclaredMirror d).enclosing)))
    (flat_map elements_of (out-DeclaredMirror d).arguments)
with-Declared names d =
    let o = out-DeclaredMirror d in
    let enclosing = parts_elements (option_to_list (option_map elements_of o.enclosing)) in
    let arguments = parts_elements (map elements_of o.arguments) in
    let first : NameSet = with_units names (o.element ∷ []) in
    ap (with_units names) (elements-Declared d) ∙ with_units-append first enclosing arguments
    ∙ ap (λ (es : List ElementRef). with_units (with_units first es) arguments) (enclosing_listed o.enclosing)
    ∙ ap (with_units (with_units first (flat_map elements_of (option_to_list o.enclosing)))) (parts_listed o.arguments)

pub with-Executable : (names : NameSet) (e : ExecutableMirror) → with_units names (in_executable e)
    ≡ with_units (with_units (with_units (with_units names (out-ExecutableMirror e).variables) (flat_map elements_of (out-ExecutableMirror e).parameters)) (elements_of (out-ExecutableMirror e).result))
    (flat_map elements_of (out-ExecutableMirror e).thrown)
with-Executable names e =
    let o = out-ExecutableMirror e in
    let parameters = parts_elements (map elements_of o.parameters) in
    let thrown = parts_elements (map elements_of o.thrown) in
    let outcome : List ElementRef = elements_of o.result in
    let first : NameSet = with_units names o.variables in
    let second : NameSet = with_units first (flat_map elements_of o.parameters) in
    ap (with_units names) (elements-Executable e) ∙ with_units-append names o.variables (parameters ++ (outcome ++ thrown))
    ∙ with_units-append first parameters (outcome ++ thrown)
    ∙ ap (λ (es : List ElementRef). with_units (with_units first es) (outcome ++ thrown)) (parts_listed o.parameters)
    ∙ with_units-append second outcome thrown ∙ ap (with_units (with_units second outcome)) (parts_listed o.thrown)

pub with-enclosing : (names : NameSet) (m : Mirror) → with_units names (flat_map elements_of (m ∷ [])) ≡ with_units names (elements_of m)
with-enclosing names m = with_units-append names (elements_of m) []

pub ruleset naming = (
  elements-base,
  elements-Primitive,
  elements-Error,
  elements-Variable,
  elements-Wildcard,
  elements-Nothing,
  elements-Void,
  elements-Null,
  elements-Package,
  with-Declared,
  with-Executable,
  with-enclosing,
)

pub ruleset adding = (with_units-append)
