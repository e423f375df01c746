-- What an element is (JSR 269, `Element`).
use Rattle.std.specs.Prelude.{ℕ, ◌-◌, Bool, false, List, [], length, slice_get, Option, unwrap_or}
use Rattle.std.specs.Option.{option_map}
use Rattle.apt_base.specs.Identifiers.{parts}
use Rattle.apt_base.specs.declared.element.ElementRef.{ElementRef}
use Rattle.decl_tree.specs.declared.declaration.Member.{Member, out-Member}
use Rattle.decl_tree.specs.declared.declaration.Member.TheOpen.{Member-F}
use Rattle.decl_tree.specs.declared.declaration.TypeDecl.{TypeDecl}
use Rattle.decl_elements.specs.Modifiers.{modifiers}
use Rattle.decl_elements.specs.Nodes.{Node, OfPackage, Inside}
use Rattle.decl_elements.specs.Shown as shown
use Rattle.decl_elements.specs.Shown.{Shown, element_of}
use Rattle.decl_elements.specs.SimpleNames.{simple_name}
use Rattle.element_table.specs.TypeTable.{TypeTable}
use Rattle.element_table.specs.TableElements.{node_at}
use Rattle.type_relations.specs.Elements.{canonical_name}
use Rattle.element_facts.specs.declared.element_info.ElementInfo.{ElementInfo}

-- ---- its kind

abbrev pub kind_number : Shown → ℕ
kind_number (shown.Package info) = 0
kind_number (shown.Enum d) = 1
kind_number (shown.Class d) = 2
kind_number (shown.AnnotationType d) = 3
kind_number (shown.Interface d) = 4
kind_number (shown.EnumConstant member) = 5
kind_number (shown.Field member) = 6
kind_number (shown.Parameter parameter) = 7
kind_number (shown.Method member) = 8
kind_number (shown.Constructor member) = 9
kind_number (shown.TypeParameter parameter) = 10

-- ---- its simple name

-- the last of the names that dots join; that of the unnamed package is empty
abbrev pub last_name : List ℕ → List ℕ
last_name name = unwrap_or (slice_get (parts name) (length (parts name) - 1)) []

-- a package goes by the last of its names
abbrev pub name_of : List ℕ → Node → List ℕ
name_of canonical (OfPackage info) = last_name canonical
name_of canonical node = simple_name node

-- ---- variable arity

abbrev pub is_varargs_member : Member-F Member TypeDecl → Bool
is_varargs_member (Member-F.Method method) = method.varargs
is_varargs_member (Member-F.Constructor constructor) = constructor.varargs
is_varargs_member _ = false

-- a method or a constructor of variable arity (JLS 8.4.1); what no source has is none
abbrev pub is_varargs : Node → Bool
is_varargs (Inside kind member) = is_varargs_member (out-Member member)
is_varargs _ = false

-- ---- all of it

abbrev pub info_of : List ℕ → Node → ElementInfo
info_of canonical node = record {
  kind = kind_number (element_of node);
  modifiers = modifiers node;
  simple = name_of canonical node;
  canonical = canonical;
  varargs = is_varargs node;
}

-- the canonical name is empty of what is no type and no package
unfoldable pub info_at : TypeTable → ElementRef → Option ElementInfo
info_at table at = option_map (info_of (canonical_name table at)) (node_at table at)
