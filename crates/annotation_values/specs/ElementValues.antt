-- What is asked of the annotations and the constants of an element (JSR 269: `getAnnotationMirrors`,
-- `getAllAnnotationMirrors`, `getElementValuesWithDefaults`, `ExecutableElement.getDefaultValue`,
-- `VariableElement.getConstantValue`). Where nothing stands there are none.
use Rattle.std.specs.Prelude.{ℕ, Bool, true, false, not, ◌||◌, List, [], ◌++◌, map, filter, filter_map, slice_get}
use Rattle.std.specs.Prelude.{codes, Option, None, Some, option_map, option_and_then, if◌then◌else◌}
use Rattle.std.specs.List.{enumerate_from, list_any}
use Rattle.std.specs.Option.{option_map_or}
use Rattle.std.specs.Str.{bytes_eq}
use Rattle.apt_base.specs.declared.element.ElementRef.{ElementRef}
use Rattle.decl_tree.specs.declared.annotation.ValueText.{ValueText}
use Rattle.decl_tree.specs.declared.member.FieldDecl.{FieldDecl}
use Rattle.decl_elements.specs.Nodes.{Node, children}
use Rattle.decl_elements.specs.Modifiers.{has, is_final, modifiers}
use Rattle.decl_elements.specs.SimpleNames.{simple_name}
use Rattle.decl_elements.specs.Written.{default, field_of}
use Rattle.element_table.specs.TypeTable.{TypeTable}
use Rattle.type_mirror.specs.declared.mirror.Mirror.{Mirror}
use Rattle.type_mirror.specs.declared.value.Value.{Value, out-Value}
use Rattle.type_mirror.specs.declared.value.Value.TheOpen.{Value-F}
use Rattle.type_mirror.specs.declared.value.Annotation.{Annotation, out-Annotation}
use Rattle.type_mirror.specs.declared.value.NamedValue.{NamedValue, out-NamedValue}
use Rattle.type_layers.specs.Layers.{layer}
use Rattle.name_resolve.specs.Ways.{node_at}
use Rattle.name_resolve.specs.Finds.{Find, find_at}
use Rattle.name_resolve.specs.Meaning.{Within}
use Rattle.name_resolve.specs.Mirrors.{type_meaning}
use Rattle.type_resolve.specs.Scopes.{find_in}
use Rattle.type_relations.specs.Direct.{is_primitive}
use Rattle.type_texts.specs.Print.{text_of}
use Rattle.annotation_presence.specs.Carried.{Carried, directly_present, present}
use Rattle.annotation_values.specs.Values.{value_in, annotation_in, meanings}

-- a value under the name of its element
abbrev pub Named : Type 0
Named = List ℕ × Value

-- ---- mirrors

abbrev pub mirror_of : TypeTable → Carried → Annotation
mirror_of table c = annotation_in (meanings table c.at) c.text

-- the written ones, in order
unfoldable pub mirrors : TypeTable → ElementRef → List Annotation
mirrors table at = map (mirror_of table) (directly_present table (find_in table at))

-- the written ones, and then the inherited ones, the nearest first
unfoldable pub all_mirrors : TypeTable → ElementRef → List Annotation
all_mirrors table at = map (mirror_of table) (present table (find_in table at))

-- ---- defaults (JLS 9.6.2)

-- what is written as the default of what stands there
abbrev pub default_at : TypeTable → Find → Option Node → Option Value
default_at table f node = option_map (value_in (meanings table f)) (option_and_then default node)

unfoldable pub default_of : TypeTable → ElementRef → Option Value
default_of table at = default_at table (find_in table at) (node_at (find_in table at).unit (find_in table at).path)

abbrev pub child_default : TypeTable → Find → ℕ × Node → Option Named
child_default table f child =
    option_map (λ v. (simple_name child.1, v)) (default_at table (find_at f.part f.unit f.path child.0) (Some child.1))

-- the elements of an annotation interface that have a default, in the order of their declaration
abbrev pub node_defaults : TypeTable → Find → Node → List Named
node_defaults table f node = filter_map (child_default table f) (enumerate_from 0 (children node))

abbrev pub defaults_in : TypeTable → Find → List Named
defaults_in table f = option_map_or (node_defaults table f) (node_at f.unit f.path) []

abbrev pub defaults : TypeTable → Option ElementRef → List Named
defaults table None = []
defaults table (Some at) = defaults_in table (find_in table at)

abbrev pub named : NamedValue → Named
named v = ((out-NamedValue v).name, (out-NamedValue v).value)

abbrev pub values_of : Annotation → List Named
values_of a = map named (out-Annotation a).values

abbrev pub has_name : List Named → List ℕ → Bool
has_name values name = list_any (λ v. bytes_eq name v.0) values

-- values, and those of other names behind them
abbrev pub with_others : List Named → List Named → List Named
with_others values others = values ++ filter (λ d. not (has_name values d.0)) others

-- the written values in order, and then the defaults of the elements that no value is written for
abbrev pub with_defaults : TypeTable → Carried → List Named
with_defaults table c = with_others (values_of (mirror_of table c)) (defaults table c.annotation_type)

-- of the annotation of this number among all that are present there, the written ones first
unfoldable pub values_with_defaults : TypeTable → ElementRef → ℕ → Option (List Named)
values_with_defaults table at number =
    option_map (with_defaults table) (slice_get (present table (find_in table at)) number)

-- ---- constants (JLS 4.12.4)

-- the kinds of values that a constant variable may have
abbrev pub is_constant_kind : Value-F Value Annotation NamedValue → Bool
is_constant_kind (Value-F.Truth truth) = true
is_constant_kind (Value-F.Whole kind number) = true
is_constant_kind (Value-F.Character number) = true
is_constant_kind (Value-F.Text text) = true
is_constant_kind (Value-F.Floating text) = true
is_constant_kind _ = false

abbrev pub constant_or_none : Value → Option Value
constant_or_none v = if is_constant_kind (out-Value v) then Some v else None

-- a type by the text that it prints as
abbrev pub is_text_type : List ℕ → Bool
is_text_type text = bytes_eq text (codes "java.lang.String") || bytes_eq text (codes "String")

abbrev pub is_constant_type : TypeTable → Mirror → Bool
is_constant_type table m = is_primitive (layer m) || is_text_type (text_of table m)

-- the value of an initialiser, where it is of such a kind
abbrev pub constant_value : TypeTable → Find → ValueText → Option Value
constant_value table f form = constant_or_none (value_in (meanings table f) form)

-- of a field of such a type
abbrev pub typed_constant : TypeTable → Find → FieldDecl → Option Value
typed_constant table f field =
    if is_constant_type table (type_meaning table (Within f) field.of)
    then option_and_then (constant_value table f) field.constant else None

-- of a field that is final, as written or implied; nothing else has one
abbrev pub constant_at : TypeTable → Find → Node → Option Value
constant_at table f node =
    if has is_final (modifiers node) then option_and_then (typed_constant table f) (field_of node) else None

unfoldable pub constant_of : TypeTable → ElementRef → Option Value
constant_of table at =
    option_and_then (constant_at table (find_in table at)) (node_at (find_in table at).unit (find_in table at).path)
