-- The values of constant forms (JLS 9.7.1, 15.28) where they are written, and annotations as mirrors. Nothing is
-- converted to the type that is wanted.
use Rattle.std.specs.Prelude.{ℕ, zero, suc, Bool, true, false, List, [], ◌∷◌, ◌++◌, map, codes}
use Rattle.std.specs.Prelude.{Option, None, Some, unwrap_or, option_map, option_and_then, if◌then◌else◌}
use Rattle.std.specs.List.{join_by}
use Rattle.std.specs.Option.{option_map_or}
use Rattle.apt_base.specs.Identifiers.{parts}
use Rattle.apt_base.specs.declared.element.ElementRef.{ElementRef}
use Rattle.decl_tree.specs.declared.type_text.TypeText.{TypeText}
use Rattle.decl_tree.specs.declared.annotation.AnnotationText.{AnnotationText}
use Rattle.decl_tree.specs.declared.annotation.ValueText.{ValueText, out-ValueText}
use Rattle.decl_tree.specs.declared.annotation.ElementValuePair.{ElementValuePair}
use Rattle.decl_tree.specs.declared.annotation.ValueText.TheOpen.{ValueText-F, AnnotationText-F, ElementValuePair-F}
use Rattle.decl_tree.specs.declared.annotation.ValueText.TheFolds.{fold-ValueText, fold-AnnotationText}
use Rattle.decl_tree.specs.declared.declaration.Member.{Member, out-Member}
use Rattle.decl_tree.specs.declared.declaration.Member.TheOpen.{Member-F}
use Rattle.decl_tree.specs.declared.declaration.TypeDecl.{TypeDecl}
use Rattle.decl_elements.specs.Nodes.{Node, Inside}
use Rattle.decl_elements.specs.Modifiers.{has, is_final, modifiers}
use Rattle.decl_elements.specs.Written.{field_of}
use Rattle.element_table.specs.TypeTable.{TypeTable}
use Rattle.type_mirror.specs.declared.mirror.Mirror.{Mirror}
use Rattle.type_mirror.specs.declared.mirror.BaseMirror.TheVariants as base
use Rattle.type_mirror.specs.declared.value.Value.{Value, out-Value}
use Rattle.type_mirror.specs.declared.value.Value.TheOpen.{Value-F}
use Rattle.type_mirror.specs.declared.value.Value.TheVariants as value
use Rattle.type_mirror.specs.declared.value.Annotation.{Annotation, roll-Annotation}
use Rattle.type_mirror.specs.declared.value.NamedValue.{NamedValue, roll-NamedValue}
use Rattle.type_mirror.specs.Parts.{plain}
use Rattle.name_resolve.specs.Ways.{node_at}
use Rattle.name_resolve.specs.Finds.{Find, Finds, One}
use Rattle.name_resolve.specs.Meaning.{Within}
use Rattle.name_resolve.specs.Mirrors.{class_mirror, ref_of, type_meaning}
use Rattle.name_resolve.specs.Annotations.{annotation_meaning}
use Rattle.literal_values.specs.Literals.{literal_value, negated_value}
use Rattle.expression_names.specs.Fields.{field_meaning}

-- what the names in a value mean where it is written
pub record Meanings : Type 0 where
  -- the constant that a name is, if it is one
  pub constant : List ℕ → Option Value
  -- the type that a class literal names
  pub class_type : TypeText → Mirror
  -- the annotation interface that the name of an annotation means, if it means one
  pub annotation_type : List ℕ → Option ElementRef

-- ---- one value

-- a value, and the text of a literal or a name, which are what may be joined
pub record Meant : Type 0 where
  pub value : Value
  pub text : List ℕ

abbrev pub meant : Value → List ℕ → Meant
meant v text = record { value = v; text = text }

abbrev pub text_in : Value-F Value Annotation NamedValue → Option (List ℕ)
text_in (Value-F.Text text) = Some text
text_in _ = None

-- the text that a value is, if it is one
abbrev pub text_value : Value → Option (List ℕ)
text_value v = text_in (out-Value v)

-- the texts one behind the other, where each is a text
abbrev pub all_texts : List Meant → Option (List ℕ)
all_texts [] = Some []
all_texts (m ∷ ms) = option_and_then (λ text. option_map (λ more. text ++ more) (all_texts ms)) (text_value m.value)

-- what is written, with ` + ` between any two
abbrev pub sum_text : List Meant → List ℕ
sum_text ms = join_by (λ m. m.text) (codes " + ") ms

abbrev pub joined : List Meant → Value
joined ms = option_map_or value.Text (all_texts ms) (value.Other (sum_text ms))

abbrev pub value_step : Meanings → ValueText-F Meant Annotation NamedValue → Meant
value_step m (ValueText-F.Literal text) = meant (literal_value text) text
value_step m (ValueText-F.Negated text) = meant (negated_value text) []
value_step m (ValueText-F.Joined items) = meant (joined items) []
value_step m (ValueText-F.Class of) = meant (value.Class (m.class_type of)) []
-- a name that is no constant is handed on as it is written
value_step m (ValueText-F.Chain text) = meant (unwrap_or (m.constant text) (value.Other text)) text
value_step m (ValueText-F.Array items) = meant (value.Array (map (λ i. i.value) items)) []
value_step m (ValueText-F.Nested annotation) = meant (value.Nested annotation) []
value_step m (ValueText-F.Other text) = meant (value.Other text) []

abbrev pub annotation_mirror : List ℕ → Option ElementRef → Mirror
annotation_mirror name None = plain (base.Error name)
annotation_mirror name (Some at) = class_mirror at None []

-- its type, and its values as they are written, whether the annotation interface declares such elements or not
abbrev pub annotation_step : Meanings → AnnotationText-F Meant Annotation NamedValue → Annotation
annotation_step m a = roll-Annotation (record {
  annotation_type = annotation_mirror a.name (m.annotation_type a.name);
  values = a.values;
})

abbrev pub pair_step : ElementValuePair-F Meant Annotation NamedValue → NamedValue
pair_step pair = roll-NamedValue (record { name = pair.name; value = pair.value.value })

unfoldable pub meant_in : Meanings → ValueText → Meant
meant_in m = fold-ValueText Meant Annotation NamedValue (value_step m) (annotation_step m) pair_step

abbrev pub value_in : Meanings → ValueText → Value
value_in m text = (meant_in m text).value

unfoldable pub annotation_in : Meanings → AnnotationText → Annotation
annotation_in m = fold-AnnotationText Meant Annotation NamedValue (value_step m) (annotation_step m) pair_step

-- ---- names that are constants

abbrev pub chain_in : ValueText-F ValueText AnnotationText ElementValuePair → Option (List ℕ)
chain_in (ValueText-F.Chain text) = Some text
chain_in _ = None

-- a name that stands as an initialiser has to be a constant itself; any other constant form is one
abbrev pub value_of_initialiser : Meanings → ValueText → Option Value
value_of_initialiser m form = option_map_or m.constant (chain_in (out-ValueText form)) (Some (value_in m form))

abbrev pub is_enum_member : Member-F Member TypeDecl → Bool
is_enum_member (Member-F.Constant constant) = true
is_enum_member _ = false

abbrev pub is_enum_constant : Node → Bool
is_enum_constant (Inside kind member) = is_enum_member (out-Member member)
is_enum_constant _ = false

-- the initialiser of a field that is final, as written or implied, where it is a constant form
abbrev pub initialiser : Node → Option ValueText
initialiser node =
    if has is_final (modifiers node) then option_and_then (λ field. field.constant) (field_of node) else None

-- an enum constant is one, and a field with such an initialiser, by what names mean where it is written
abbrev pub value_of_node : Meanings → Find → Node → Option Value
value_of_node m f node =
    if is_enum_constant node then Some (value.Constant (ref_of f))
    else option_and_then (value_of_initialiser m) (initialiser node)

abbrev pub value_of_find : Meanings → Find → Option Value
value_of_find m f = option_and_then (value_of_node m f) (node_at f.unit f.path)

abbrev pub value_of_finds : (Find → Meanings) → Finds → Option Value
value_of_finds meanings (One f) = value_of_find (meanings f) f
value_of_finds meanings _ = None

-- ---- what names mean within an element

-- how many names lead to a constant: each next one is the initialiser of the field before
abbrev pub max_names : ℕ
max_names = 64

abbrev pub meanings_by : TypeTable → (Find → List ℕ → Option Value) → Find → Meanings
meanings_by table constant f = record {
  constant = constant f;
  class_type = type_meaning table (Within f);
  annotation_type = annotation_meaning table (Within f);
}

-- the constant that a name is through this many names, itself included
unfoldable pub constant_within : TypeTable → ℕ → Find → List ℕ → Option Value
constant_within table zero f text = None
constant_within table (suc names) f text =
    value_of_finds (meanings_by table (constant_within table names)) (field_meaning table f (parts text))

abbrev pub meanings_within : TypeTable → ℕ → Find → Meanings
meanings_within table names f = meanings_by table (constant_within table names) f

unfoldable pub meanings : TypeTable → Find → Meanings
meanings table f = meanings_within table max_names f
