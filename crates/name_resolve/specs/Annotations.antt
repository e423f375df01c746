-- The annotation interface that the name of an annotation means (JLS 9.7).
use Rattle.std.specs.Prelude.{ℕ, List, Option, None, Some}
use Rattle.apt_base.specs.Identifiers.{parts}
use Rattle.apt_base.specs.declared.element.ElementRef.{ElementRef}
use Rattle.decl_tree.specs.declared.declaration.TypeKind.{TypeKind}
use Rattle.decl_tree.specs.declared.declaration.TypeKind.TheVariants as kind
use Rattle.decl_tree.specs.declared.declaration.TypeDecl.{TypeDecl}
use Rattle.element_table.specs.TypeTable.{TypeTable}
use Rattle.name_resolve.specs.Ways.{type_at}
use Rattle.name_resolve.specs.Finds.{Finds, One}
use Rattle.name_resolve.specs.Meaning.{Scope, meaning}
use Rattle.name_resolve.specs.Mirrors.{ref_of}

abbrev pub if_annotation : TypeKind → ElementRef → Option ElementRef
if_annotation kind.AnnotationType at = Some at
if_annotation kind.Class at = None
if_annotation kind.Enum at = None
if_annotation kind.Interface at = None

-- what has no declaration of a type is a type parameter
abbrev pub annotation_of : Option TypeDecl → ElementRef → Option ElementRef
annotation_of (Some d) at = if_annotation d.kind at
annotation_of None at = None

abbrev pub found_annotation : Finds → Option ElementRef
found_annotation (One f) = annotation_of (type_at f.unit f.path) (ref_of f)
found_annotation _ = None

-- the annotation interface that the name means there; None where the name has no meaning, or means another kind of type or a type parameter
unfoldable pub annotation_meaning : TypeTable → Scope → List ℕ → Option ElementRef
annotation_meaning table scope name = found_annotation (meaning table scope (parts name))
