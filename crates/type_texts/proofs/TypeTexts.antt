-- The texts of types, by what they are made of.
use Rattle.std.proofs.Common.{◌≡◌, ◌==◌, ℕ, false, length, List, [], ◌∷◌, ◌++◌, map, flat_map, codes, refl, sym, ap, ◌∙◌, append_assoc, append-nil}
use Rattle.std.specs.List.{join_with_byte}
use Rattle.std.specs.Option.{option_map}
use Rattle.apt_base.specs.declared.element.ElementRef.{ElementRef}
use Rattle.element_table.specs.TypeTable.{TypeTable}
use Rattle.type_mirror.specs.declared.mirror.PrimitiveKind.{PrimitiveKind}
use Rattle.apt_base.specs.declared.around.Around.{Around}
use Rattle.apt_base.specs.declared.around.Around.TheVariants as around
use Rattle.type_mirror.specs.declared.mirror.Mirror.{Mirror, out-Mirror}
use Rattle.type_mirror.specs.declared.mirror.BaseMirror.TheVariants as base
use Rattle.type_mirror.specs.declared.mirror.DeclaredMirror.{DeclaredMirror, out-DeclaredMirror}
use Rattle.type_mirror.specs.declared.mirror.ExecutableMirror.{ExecutableMirror, out-ExecutableMirror}
use Rattle.type_layers.specs.Layers.{around_step}
use Rattle.type_layers.proofs.BaseLayers.{by_layers-around, by_layers-Primitive, by_layers-Declared, by_layers-Error, by_layers-Variable, by_layers-Wildcard, by_layers-Executable, by_layers-Nothing, by_layers-Void, by_layers-Null, by_layers-Package}
use Rattle.type_relations.specs.Elements.{parameter_name, name_by}
use Rattle.type_texts.specs.Print.{primitive_text, class_text, arguments_text, layer_text, text_of}
use Rattle.type_texts.specs.Spelling.{front_of, back_of, base_text, declared_text, executable_text, types_text}

-- ---- what stands around a base

brackets_turn : (around : List Around) → flat_map back_of around ++ codes "[]" ≡ codes "[]" ++ flat_map back_of around
brackets_turn [] = refl
brackets_turn (around.Array ∷ inner) = ap (λ (t : List ℕ). codes "[]" ++ t) (brackets_turn inner)
brackets_turn (around.Extends ∷ inner) = brackets_turn inner
brackets_turn (around.Super ∷ inner) = brackets_turn inner

module _ (table : TypeTable) where
  around-is : (around : List Around) (text : List ℕ) → around_step (layer_text table) around text ≡ flat_map front_of around ++ (text ++ flat_map back_of around)
  around-is [] text = sym (append-nil text)
  around-is (around.Array ∷ inner) text =
      let fronts = flat_map front_of inner in
      let backs = flat_map back_of inner in
      ap (λ (t : List ℕ). t ++ codes "[]") (around-is inner text)
      ∙ append_assoc fronts (text ++ backs) (codes "[]")
      ∙ ap (λ (t : List ℕ). fronts ++ t) (append_assoc text backs (codes "[]") ∙ ap (λ (t : List ℕ). text ++ t) (brackets_turn inner))
  around-is (around.Extends ∷ inner) text =
      ap (λ (t : List ℕ). codes "? extends " ++ t) (around-is inner text) ∙ sym (append_assoc (codes "? extends ") (flat_map front_of inner) (text ++ flat_map back_of inner))
  around-is (around.Super ∷ inner) text =
      ap (λ (t : List ℕ). codes "? super " ++ t) (around-is inner text) ∙ sym (append_assoc (codes "? super ") (flat_map front_of inner) (text ++ flat_map back_of inner))

  pub text_of-is : (m : Mirror) → text_of table m ≡ flat_map front_of (out-Mirror m).around ++ (base_text table (out-Mirror m).base ++ flat_map back_of (out-Mirror m).around)
  unfolding text_of
  text_of-is m = by_layers-around (layer_text table) m ∙ around-is (out-Mirror m).around (base_text table (out-Mirror m).base)

  -- ---- bases

  pub base_text-Primitive : (kind : PrimitiveKind) → base_text table (base.Primitive kind) ≡ primitive_text kind
  unfolding text_of
  base_text-Primitive kind = by_layers-Primitive (layer_text table) kind

  pub base_text-Error : (text : List ℕ) → base_text table (base.Error text) ≡ text
  unfolding text_of
  base_text-Error text = by_layers-Error (layer_text table) text

  pub base_text-Variable : (at : ElementRef) → base_text table (base.Variable at) ≡ name_by table parameter_name at
  unfolding text_of
  base_text-Variable at = by_layers-Variable (layer_text table) at

  pub base_text-Wildcard : base_text table base.Wildcard ≡ codes "?"
  unfolding text_of
  base_text-Wildcard = by_layers-Wildcard (layer_text table)

  pub base_text-Nothing : base_text table base.Nothing ≡ codes "none"
  unfolding text_of
  base_text-Nothing = by_layers-Nothing (layer_text table)

  pub base_text-Void : base_text table base.Void ≡ codes "void"
  unfolding text_of
  base_text-Void = by_layers-Void (layer_text table)

  pub base_text-Null : base_text table base.Null ≡ codes "null"
  unfolding text_of
  base_text-Null = by_layers-Null (layer_text table)

  pub base_text-Package : (name : List ℕ) → base_text table (base.Package name) ≡ name
  unfolding text_of
  base_text-Package name = by_layers-Package (layer_text table) name

  pub declared_text-is : (d : DeclaredMirror) → declared_text table d
      ≡ class_text table (out-DeclaredMirror d).element (option_map (text_of table) (out-DeclaredMirror d).enclosing)
      ++ arguments_text (map (text_of table) (out-DeclaredMirror d).arguments)
  unfolding text_of
  declared_text-is d = by_layers-Declared (layer_text table) d

  pub executable_text-is : (e : ExecutableMirror) → executable_text table e
      ≡ codes "(" ++ (types_text table (out-ExecutableMirror e).parameters ++ (codes ")" ++ text_of table (out-ExecutableMirror e).result))
  unfolding text_of
  executable_text-is e = by_layers-Executable (layer_text table) e

-- ---- type arguments

-- in angle brackets where there is one
pub arguments-in_brackets : {A : Type 0} (form : A → List ℕ) (xs : List A) → (length xs == 0) ≡ false → arguments_text (map form xs) ≡ codes "<" ++ (join_with_byte 44 (map form xs) ++ codes ">")
arguments-in_brackets form [] h = absurd cc
arguments-in_brackets form (x ∷ xs) h = refl

-- ---- types in brackets

-- what was written once the second bracket is
pub bracketed : (old types one two three : List ℕ) → one ≡ old ++ codes "(" → two ≡ one ++ types → three ≡ two ++ codes ")" → three ≡ old ++ (codes "(" ++ (types ++ codes ")"))
bracketed old types one two three e f g =
    g ∙ ap (λ (t : List ℕ). t ++ codes ")") (f ∙ ap (λ (t : List ℕ). t ++ types) e) ∙ append_assoc (old ++ codes "(") types (codes ")") ∙ append_assoc old (codes "(") (types ++ codes ")")

pub ruleset texts = (
  text_of-is,
  base_text-Primitive,
  base_text-Error,
  base_text-Variable,
  base_text-Wildcard,
  base_text-Nothing,
  base_text-Void,
  base_text-Null,
  base_text-Package,
  declared_text-is,
  executable_text-is,
)
