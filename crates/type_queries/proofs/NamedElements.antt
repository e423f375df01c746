-- Which elements a mirror names, by what it is made of.
use Rattle.std.proofs.Common.{◌≡◌, ℕ, Bool, true, false, ◌&&◌, List, [], ◌∷◌, ◌++◌, map, Option, None, Some, refl, ap, ◌∙◌}
use Rattle.std.specs.List.{list_all}
use Rattle.std.specs.Option.{option_map, option_to_list}
use Rattle.std.proofs.lemmas.List.Folds.{list_all-append}
use Rattle.apt_base.specs.declared.element.ElementRef.{ElementRef}
use Rattle.element_table.specs.TypeTable.{TypeTable}
use Rattle.type_mirror.specs.declared.mirror.PrimitiveKind.{PrimitiveKind}
use Rattle.apt_base.specs.declared.around.Around.{Around}
use Rattle.apt_base.specs.declared.around.Around.TheVariants as around
use Rattle.type_mirror.specs.declared.mirror.Mirror.{Mirror, out-Mirror}
use Rattle.type_mirror.specs.declared.mirror.BaseMirror.TheVariants as base
use Rattle.type_mirror.specs.declared.mirror.DeclaredMirror.{DeclaredMirror, out-DeclaredMirror}
use Rattle.type_mirror.specs.declared.mirror.ExecutableMirror.{ExecutableMirror, out-ExecutableMirror}
use Rattle.type_mirror.specs.Parts.{plain}
use Rattle.type_layers.specs.Layers.{around_step}
use Rattle.type_layers.proofs.BaseLayers.{by_layers-around, by_layers-Primitive, by_layers-Declared, by_layers-Error, by_layers-Variable, by_layers-Wildcard, by_layers-Executable, by_layers-Nothing, by_layers-Void, by_layers-Null, by_layers-Package}
use Rattle.type_relations.specs.Elements.{is_there}
use Rattle.type_queries.specs.Verdicts.{parts_elements, layer_elements, elements_of, are_there}

-- what stands around a base names nothing
around_names : (around : List Around) (elements : List ElementRef) → around_step layer_elements around elements ≡ elements
around_names [] elements = refl
around_names (around.Array ∷ inner) elements = around_names inner elements
around_names (around.Extends ∷ inner) elements = around_names inner elements
around_names (around.Super ∷ inner) elements = around_names inner elements

and_true : (b : Bool) → (b && true) ≡ b
and_true true = refl
and_true false = refl

and_assoc : (a b c : Bool) → (a && (b && c)) ≡ (a && b && c)
and_assoc true b c = refl
and_assoc false b c = refl

option_listed : (o : Option Mirror) → option_to_list (option_map elements_of o) ≡ map elements_of (option_to_list o)
option_listed None = refl
option_listed (Some m) = refl

module _ (table : TypeTable) where
  abbrev all_named : List ElementRef → Bool
  all_named = list_all (is_there table)

  parts_named : (ms : List Mirror) → all_named (parts_elements (map elements_of ms)) ≡ list_all (are_there table) ms
  parts_named [] = refl
  parts_named (m ∷ ms) =
      list_all-append (is_there table) (elements_of m) (parts_elements (map elements_of ms)) ∙ ap (λ (b : Bool). are_there table m && b) (parts_named ms)

  option_named : (o : Option Mirror) → all_named (parts_elements (option_to_list (option_map elements_of o))) ≡ list_all (are_there table) (option_to_list o)
  option_named o = ap (λ (parts : List (List ElementRef)). all_named (parts_elements parts)) (option_listed o) ∙ parts_named (option_to_list o)

  pub are_there-is : (m : Mirror) → are_there table m ≡ are_there table (plain (out-Mirror m).base)
  unfolding elements_of
  are_there-is m =
      ap (list_all (is_there table)) (by_layers-around layer_elements m ∙ around_names (out-Mirror m).around (elements_of (plain (out-Mirror m).base)))

  pub are_there-Primitive : (kind : PrimitiveKind) → are_there table (plain (base.Primitive kind)) ≡ true
  unfolding elements_of
  are_there-Primitive kind = ap (list_all (is_there table)) (by_layers-Primitive layer_elements kind)

  pub are_there-Error : (text : List ℕ) → are_there table (plain (base.Error text)) ≡ true
  unfolding elements_of
  are_there-Error text = ap (list_all (is_there table)) (by_layers-Error layer_elements text)

  pub are_there-Variable : (at : ElementRef) → are_there table (plain (base.Variable at)) ≡ is_there table at
  unfolding elements_of
  are_there-Variable at = ap (list_all (is_there table)) (by_layers-Variable layer_elements at) ∙ and_true (is_there table at)

  pub are_there-Wildcard : are_there table (plain base.Wildcard) ≡ true
  unfolding elements_of
  are_there-Wildcard = ap (list_all (is_there table)) (by_layers-Wildcard layer_elements)

  pub are_there-Nothing : are_there table (plain base.Nothing) ≡ true
  unfolding elements_of
  are_there-Nothing = ap (list_all (is_there table)) (by_layers-Nothing layer_elements)

  pub are_there-Void : are_there table (plain base.Void) ≡ true
  unfolding elements_of
  are_there-Void = ap (list_all (is_there table)) (by_layers-Void layer_elements)

  pub are_there-Null : are_there table (plain base.Null) ≡ true
  unfolding elements_of
  are_there-Null = ap (list_all (is_there table)) (by_layers-Null layer_elements)

  pub are_there-Package : (name : List ℕ) → are_there table (plain (base.Package name)) ≡ true
  unfolding elements_of
  are_there-Package name = ap (list_all (is_there table)) (by_layers-Package layer_elements name)

  elements-Declared : (d : DeclaredMirror) → elements_of (plain (base.Declared d))
      ≡ (out-DeclaredMirror d).element ∷ (parts_elements (option_to_list (option_map elements_of (out-DeclaredMirror d).enclosing)) ++ parts_elements (map elements_of (out-DeclaredMirror d).arguments))
  unfolding elements_of
  elements-Declared d = by_layers-Declared layer_elements d

  pub are_there-Declared : (d : DeclaredMirror) → are_there table (plain (base.Declared d))
      ≡ (is_there table (out-DeclaredMirror d).element && list_all (are_there table) (option_to_list (out-DeclaredMirror d).enclosing)
      && list_all (are_there table) (out-DeclaredMirror d).arguments)
  are_there-Declared d =
      let o = out-DeclaredMirror d in
      let enclosing = parts_elements (option_to_list (option_map elements_of o.enclosing)) in
      let arguments = parts_elements (map elements_of o.arguments) in
      ap all_named (elements-Declared d)
      ∙ ap (λ (b : Bool). is_there table o.element && b) (list_all-append (is_there table) enclosing arguments)
      ∙ ap (λ (b : Bool). is_there table o.element && (b && all_named arguments)) (option_named o.enclosing)
      ∙ ap (λ (b : Bool). is_there table o.element && (list_all (are_there table) (option_to_list o.enclosing) && b)) (parts_named o.arguments)
      ∙ and_assoc (is_there table o.element) (list_all (are_there table) (option_to_list o.enclosing)) (list_all (are_there table) o.arguments)

  elements-Executable : (e : ExecutableMirror) → elements_of (plain (base.Executable e))
      ≡ (out-ExecutableMirror e).variables ++ (parts_elements (map elements_of (out-ExecutableMirror e).parameters)
      ++ (elements_of (out-ExecutableMirror e).result ++ parts_elements (map elements_of (out-ExecutableMirror e).thrown)))
  unfolding elements_of
  elements-Executable e = by_layers-Executable layer_elements e

  pub are_there-Executable : (e : ExecutableMirror) → are_there table (plain (base.Executable e))
      ≡ (list_all (is_there table) (out-ExecutableMirror e).variables && (list_all (are_there table) (out-ExecutableMirror e).parameters
      && (are_there table (out-ExecutableMirror e).result && list_all (are_there table) (out-ExecutableMirror e).thrown)))
  are_there-Executable e =
      let o = out-ExecutableMirror e in
      let parameters = parts_elements (map elements_of o.parameters) in
      let thrown = parts_elements (map elements_of o.thrown) in
      ap all_named (elements-Executable e)
      ∙ list_all-append (is_there table) o.variables (parameters ++ (elements_of o.result ++ thrown))
      ∙ ap (λ (b : Bool). all_named o.variables && b) (list_all-append (is_there table) parameters (elements_of o.result ++ thrown))
      ∙ ap (λ (b : Bool). all_named o.variables && (b && all_named (elements_of o.result ++ thrown))) (parts_named o.parameters)
      ∙ ap (λ (b : Bool). all_named o.variables && (list_all (are_there table) o.parameters && b)) (list_all-append (is_there table) (elements_of o.result) thrown)
      ∙ ap (λ (b : Bool). all_named o.variables && (list_all (are_there table) o.parameters && (are_there table o.result && b))) (parts_named o.thrown)

pub ruleset named = (
  are_there-is,
  are_there-Primitive,
  are_there-Error,
  are_there-Variable,
  are_there-Wildcard,
  are_there-Nothing,
  are_there-Void,
  are_there-Null,
  are_there-Package,
  are_there-Declared,
  are_there-Executable,
)
