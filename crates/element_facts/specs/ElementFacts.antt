-- What an element encloses, its package and its doc comment (JSR 269, `Element` and `Elements`).
use Rattle.std.specs.Prelude.{ℕ, List, [], map, Option, None, Some}
use Rattle.std.specs.Option.{option_and_then}
use Rattle.apt_base.specs.declared.element.ElementRef.{ElementRef}
use Rattle.decl_tree.specs.declared.compilation.Body.{Body}
use Rattle.decl_tree.specs.declared.compilation.Body.TheVariants.{Declared, Info}
use Rattle.decl_tree.specs.declared.compilation.UnitText.{UnitText}
use Rattle.decl_tree.specs.declared.declaration.Member.{Member, out-Member}
use Rattle.decl_tree.specs.declared.declaration.Member.TheOpen.{Member-F}
use Rattle.decl_tree.specs.declared.declaration.TypeDecl.{TypeDecl}
use Rattle.decl_elements.specs.Nodes.{Node, OfPackage, Top, Inside}
use Rattle.decl_elements.specs.Shown.{Shown, Package, Enum, Class, AnnotationType, Interface, element_of}
use Rattle.element_table.specs.PackageTypes.{package_types}
use Rattle.element_table.specs.TypeTable.{TypeTable, unit_of}
use Rattle.element_table.specs.TableElements.{node_at, reference}
use Rattle.type_relations.specs.Elements.{canonical_name}
use Rattle.type_elements.specs.MemberElements.{enclosed}
use Rattle.element_facts.specs.NamedTypes.{info_reference}

-- ---- what it encloses

abbrev pub top_type : List ℕ → ElementRef
top_type name = reference name []

abbrev pub package_enclosed : TypeTable → ElementRef → List ElementRef
package_enclosed table at = map top_type (package_types table (canonical_name table at))

abbrev pub enclosed_by : TypeTable → ElementRef → Shown → List ElementRef
enclosed_by table at (Package info) = package_enclosed table at
enclosed_by table at (Enum d) = enclosed table at
enclosed_by table at (Class d) = enclosed table at
enclosed_by table at (AnnotationType d) = enclosed table at
enclosed_by table at (Interface d) = enclosed table at
enclosed_by table at _ = []

abbrev pub enclosed_in : TypeTable → ElementRef → Option Node → List ElementRef
enclosed_in table at None = []
enclosed_in table at (Some node) = enclosed_by table at (element_of node)

-- of a type all but its type parameters, of a package its top-level types, of sources and of stubs,
-- ascending; of any other element none
unfoldable pub enclosed_at : TypeTable → ElementRef → List ElementRef
enclosed_at table at = enclosed_in table at (node_at table at)

-- ---- its package

-- that of its unit; what has none is a package
abbrev pub package_from : Option UnitText → ElementRef → ElementRef
package_from None at = at
package_from (Some unit) at = info_reference unit.package

unfoldable pub package_at : TypeTable → ElementRef → ElementRef
package_at table at = package_from (unit_of table at.unit) at

-- ---- its doc comment

abbrev pub member_doc : Member-F Member TypeDecl → Option (List ℕ)
member_doc (Member-F.Field field) = field.doc
member_doc (Member-F.Method method) = method.doc
member_doc (Member-F.Constructor constructor) = constructor.doc
member_doc (Member-F.Constant constant) = constant.doc
member_doc (Member-F.Nested d) = d.doc

abbrev pub body_doc : Body → Option (List ℕ)
body_doc (Declared d) = None
body_doc (Info annotations doc) = doc

abbrev pub package_doc : Option UnitText → Option (List ℕ)
package_doc None = None
package_doc (Some unit) = body_doc unit.body

-- parameters, type parameters and what no source has have none
abbrev pub doc : Node → Option (List ℕ)
doc (OfPackage info) = package_doc info
doc (Top d) = d.doc
doc (Inside kind member) = member_doc (out-Member member)
doc _ = None

unfoldable pub doc_at : TypeTable → ElementRef → Option (List ℕ)
doc_at table at = option_and_then doc (node_at table at)
