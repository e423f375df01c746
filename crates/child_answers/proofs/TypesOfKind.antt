-- An element that is a type by its kind (JSR 269) is one whose header is looked up.
use Rattle.std.proofs.Common.{◌≡◌, ℕ, Bool, true, false, List, [], ◌∷◌, Option, None, Some, is_some, refl, sym, ◌∙◌}
use Rattle.std.specs.Option.{option_map, option_and_then}
use Rattle.apt_base.specs.declared.element.ElementRef.{ElementRef}
use Rattle.decl_tree.specs.declared.compilation.UnitText.{UnitText}
use Rattle.decl_tree.specs.declared.declaration.TypeDecl.{TypeDecl}
use Rattle.decl_tree.specs.declared.declaration.TypeKind.{TypeKind}
use Rattle.decl_tree.specs.declared.declaration.TypeKind.TheVariants as kind
use Rattle.decl_tree.specs.declared.declaration.Member.{Member, out-Member}
use Rattle.decl_tree.specs.declared.declaration.Member.TheOpen.{Member-F}
use Rattle.decl_elements.specs.Nodes.{Node, OfPackage, Top, Inside, OfTypeParam, OfParam, children, down, root}
use Rattle.decl_elements.specs.Nodes.{DefaultConstructor, Values, ValueOf, ValueOfName}
use Rattle.decl_elements.specs.Shown.{element_of, type_element, member_element}
use Rattle.decl_elements.specs.Written.{declaration_of, member_type}
use Rattle.element_table.specs.TypeTable.{TypeTable, unit_of}
use Rattle.element_table.specs.TableElements.{node_at, node_from, info_package, typed_package}
use Rattle.name_resolve.specs.Ways as ways
use Rattle.type_resolve.specs.Scopes.{IsType, is_type, is_type_in}
use Rattle.frame_forms.specs.declared.question_row.WantedElement.TheVariants as wanted
use Rattle.child_questions.specs.WantedKinds.{fits_any, is_element, is_type_element}

declared-is_type : (k : TypeKind) (d : TypeDecl) → is_type_element (type_element k d) ≡ true
declared-is_type kind.Enum d = refl
declared-is_type kind.Class d = refl
declared-is_type kind.AnnotationType d = refl
declared-is_type kind.Interface d = refl

member-is_type : (member : Member) (m : Member-F Member TypeDecl) → is_type_element (member_element member m) ≡ is_some (member_type m)
member-is_type member (Member-F.Field field) = refl
member-is_type member (Member-F.Method method) = refl
member-is_type member (Member-F.Constructor constructor) = refl
member-is_type member (Member-F.Constant constant) = refl
member-is_type member (Member-F.Nested d) = declared-is_type d.kind d

node-is_type : (node : Node) → is_type_element (element_of node) ≡ is_some (declaration_of node)
unfolding element_of
node-is_type (OfPackage info) = refl
node-is_type (Top d) = declared-is_type d.kind d
node-is_type (Inside k member) = member-is_type member (out-Member member)
node-is_type (OfTypeParam parameter) = refl
node-is_type (OfParam parameter) = refl
node-is_type (DefaultConstructor around d) = refl
node-is_type Values = refl
node-is_type ValueOf = refl
node-is_type ValueOfName = refl

any-is_type : (o : Option Node) → fits_any wanted.TypeElement (option_map element_of o) ≡ is_some (option_and_then declaration_of o)
any-is_type None = refl
any-is_type (Some node) = node-is_type node

package-is_none : (path : List ℕ) → fits_any wanted.TypeElement (option_map element_of (down path (OfPackage None))) ≡ false
unfolding element_of children
package-is_none [] = refl
package-is_none (at ∷ path) = refl

bare-is_none : (path : List ℕ) (o : Option (List ℕ))
    → fits_any wanted.TypeElement (option_map element_of (option_and_then (λ (p : List ℕ). down path (OfPackage None)) o)) ≡ false
bare-is_none path None = refl
bare-is_none path (Some name) = package-is_none path

from-is_type : (table : TypeTable) (u : Option UnitText) (name path : List ℕ)
    → fits_any wanted.TypeElement (option_map element_of (node_from table u name path)) ≡ is_type_in u path
unfolding ways.node_at
from-is_type table None name path = bare-is_none path (typed_package table (info_package name))
from-is_type table (Some unit) name path = any-is_type (down path (root unit))

module _ (table : TypeTable) (at : ElementRef) where
  pub element-is_type : is_element table wanted.TypeElement at ≡ is_type table at
  unfolding is_element node_at
  element-is_type = from-is_type table (unit_of table at.unit) at.unit at.path

  pub of_kind : is_element table wanted.TypeElement at ≡ true → IsType table at
  of_kind e = sym element-is_type ∙ e

pub ruleset kinds = (of_kind)
