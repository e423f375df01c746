-- What a question on members reads of an element: its name, its access, what is around it and what it encloses.
use Rattle.std.specs.Prelude.{ℕ, ◌-◌, Bool, true, false, not, ◌&&◌, ◌||◌, List, [], map, filter_map, length, take, codes, Option, None, Some, unwrap_or}
use Rattle.std.specs.List.{list_any, range_with_len}
use Rattle.std.specs.Str.{bytes_eq}
use Rattle.apt_base.specs.Elements.{same_element}
use Rattle.apt_base.specs.declared.element.ElementRef.{ElementRef}
use Rattle.decl_tree.specs.declared.compilation.UnitText.{UnitText}
use Rattle.decl_tree.specs.declared.declaration.Member.{Member, out-Member}
use Rattle.decl_tree.specs.declared.declaration.Member.TheOpen.{Member-F}
use Rattle.decl_tree.specs.declared.declaration.TypeDecl.{TypeDecl}
use Rattle.decl_elements.specs.Modifiers as modifier
use Rattle.decl_elements.specs.Modifiers.{has}
use Rattle.decl_elements.specs.Nodes.{Node, Inside, DefaultConstructor, Values, ValueOf}
use Rattle.element_table.specs.TypeTable.{TypeTable, unit_of}
use Rattle.element_table.specs.TableElements.{node_at, modifiers_at, children_at}
use Rattle.type_mirror.specs.declared.mirror.Mirror.{Mirror}
use Rattle.type_layers.specs.Layers.{Layer, Declared, layer}
use Rattle.type_relations.specs.Elements.{child, parameters_of, has_type_parameters}

-- ---- what a member goes by

-- a field, a member type and a method may have one name, and are told apart (JLS 6.5)
pub data MemberName : Type 0 where
  -- enum constants too (JLS 8.9.3)
  FieldName : (name : List ℕ) → MemberName
  TypeName : (name : List ℕ) → MemberName
  MethodName : (name : List ℕ) → MemberName
  OfConstructor : MemberName
  -- of what is no member of a type
  NoName : MemberName

abbrev pub written_name : Member-F Member TypeDecl → MemberName
written_name (Member-F.Field field) = FieldName field.name
written_name (Member-F.Method method) = MethodName method.name
written_name (Member-F.Constructor constructor) = OfConstructor
written_name (Member-F.Constant constant) = FieldName constant.name
written_name (Member-F.Nested d) = TypeName d.name

abbrev pub node_name : Node → MemberName
node_name (Inside kind member) = written_name (out-Member member)
node_name (DefaultConstructor around d) = OfConstructor
node_name Values = MethodName (codes "values")
node_name ValueOf = MethodName (codes "valueOf")
node_name _ = NoName

abbrev pub name_in : Option Node → MemberName
name_in None = NoName
name_in (Some node) = node_name node

unfoldable pub member_name : TypeTable → ElementRef → MemberName
member_name table at = name_in (node_at table at)

abbrev pub is_method_name : MemberName → Bool
is_method_name (MethodName name) = true
is_method_name _ = false

abbrev pub is_constructor_name : MemberName → Bool
is_constructor_name OfConstructor = true
is_constructor_name _ = false

abbrev pub is_method : TypeTable → ElementRef → Bool
is_method table at = is_method_name (member_name table at)

abbrev pub is_constructor : TypeTable → ElementRef → Bool
is_constructor table at = is_constructor_name (member_name table at)

abbrev pub same_method_name : MemberName → MemberName → Bool
same_method_name (MethodName one) (MethodName other) = bytes_eq one other
same_method_name _ _ = false

-- two different methods of one name
abbrev pub are_namesakes : TypeTable → ElementRef → ElementRef → Bool
are_namesakes table one other =
    not (same_element one other) && same_method_name (member_name table one) (member_name table other)

-- ---- access, by the modifiers that are written or implied

abbrev pub has_modifier : TypeTable → ℕ → ElementRef → Bool
has_modifier table wanted at = has wanted (unwrap_or (modifiers_at table at) modifier.none)

abbrev pub is_static : TypeTable → ElementRef → Bool
is_static table at = has_modifier table modifier.is_static at

abbrev pub is_private : TypeTable → ElementRef → Bool
is_private table at = has_modifier table modifier.is_private at

-- the package of the unit
abbrev pub package_in : Option UnitText → List ℕ
package_in None = []
package_in (Some unit) = unit.«package»

abbrev pub package_name : TypeTable → ElementRef → List ℕ
package_name table at = package_in (unit_of table at.unit)

abbrev pub in_one_package : TypeTable → ElementRef → ElementRef → Bool
in_one_package table one other = bytes_eq (package_name table one) (package_name table other)

-- what is none of public, protected and private is for its package alone (JLS 6.6.1)
abbrev pub package_allows : TypeTable → ElementRef → ElementRef → Bool
package_allows table other at = has_modifier table modifier.is_access at || in_one_package table other at

-- ---- what is around it

-- what stands at a front of its path
abbrev pub front : ElementRef → ℕ → ElementRef
front at steps = record { unit = at.unit; path = take steps at.path }

-- at each front that is shorter, the outermost first
abbrev pub all_around : ElementRef → List ElementRef
all_around at = map (front at) (range_with_len 0 (length at.path))

-- the type that declares a member, or a type around that one, has type parameters
abbrev pub is_in_parameterized : TypeTable → ElementRef → Bool
is_in_parameterized table at = list_any (has_type_parameters table) (all_around at)

-- ---- what it encloses

abbrev pub children_from : ElementRef → ℕ → ℕ → List ElementRef
children_from at first count = map (child at) (range_with_len first (count - first))

-- the children behind the type parameters
unfoldable pub enclosed : TypeTable → ElementRef → List ElementRef
enclosed table at =
    children_from at (length (parameters_of (node_at table at))) (unwrap_or (children_at table at) 0)

-- ---- the elements of class types

abbrev pub element_in : {M : Type 0} → Layer M → Option ElementRef
element_in (Declared at enclosing arguments) = Some at
element_in _ = None

-- None of what is no class type
abbrev pub class_element : Mirror → Option ElementRef
class_element m = element_in (layer m)

abbrev pub class_elements : List Mirror → List ElementRef
class_elements types = filter_map class_element types

abbrev pub same_class : Option ElementRef → Option ElementRef → Bool
same_class (Some one) (Some other) = same_element one other
same_class _ _ = false
