-- The annotations of an element: those that are directly present, as they are written on it, and those that a class inherits (JLS 9.6.4.3; JSR 269,
-- `Elements.getAllAnnotationMirrors`). An annotation whose interface carries `java.lang.annotation.Inherited` and that is present on the superclass is
-- present on the class, unless one of its interface is written there. Only a name that means an annotation interface of the table counts, `Inherited` too.
use Rattle.std.specs.Prelude.{ℕ, zero, suc, Bool, true, false, not, ◌&&◌, List, [], ◌++◌, map, filter, filter_map, codes, Option, None, Some, if◌then◌else◌}
use Rattle.std.specs.List.{list_any}
use Rattle.std.specs.Option.{option_map, option_map_or}
use Rattle.apt_base.specs.Elements.{same_element}
use Rattle.apt_base.specs.declared.element.ElementRef.{ElementRef}
use Rattle.decl_tree.specs.declared.annotation.AnnotationText.{AnnotationText, out-AnnotationText}
use Rattle.decl_tree.specs.declared.declaration.TypeKind.{TypeKind}
use Rattle.decl_tree.specs.declared.declaration.TypeKind.TheVariants as kind
use Rattle.decl_tree.specs.declared.declaration.TypeDecl.{TypeDecl}
use Rattle.decl_elements.specs.Written.{annotations}
use Rattle.element_table.specs.TypeTable.{TypeTable}
use Rattle.element_table.specs.TableElements.{reference}
use Rattle.name_resolve.specs.Ways.{node_at, type_at}
use Rattle.name_resolve.specs.Finds.{Find}
use Rattle.name_resolve.specs.Meaning.{Within}
use Rattle.name_resolve.specs.Mirrors.{superclass}
use Rattle.name_resolve.specs.Annotations.{annotation_meaning}
use Rattle.type_resolve.specs.Scopes.{find_in}
use Rattle.type_elements.specs.MemberElements.{class_element}

-- an annotation: the element on which it is written, its text, and the annotation interface that its name means there, if it means one
pub record Carried : Type 0 where
  pub at : Find
  pub text : AnnotationText
  pub annotation_type : Option ElementRef

-- ---- written

abbrev pub carried : TypeTable → Find → AnnotationText → Carried
carried table f text = record {
  at = f;
  text = text;
  annotation_type = annotation_meaning table (Within f) (out-AnnotationText text).name;
}

-- as they are written on what stands there, in order; one that is written twice is there twice
unfoldable pub texts_at : Find → List AnnotationText
texts_at f = option_map_or annotations (node_at f.unit f.path) []

unfoldable pub directly_present : TypeTable → Find → List Carried
directly_present table f = map (carried table f) (texts_at f)

-- ---- inherited

abbrev pub is_of_type : ElementRef → Carried → Bool
is_of_type at c = option_map_or (same_element at) c.annotation_type false

-- one of these is of that annotation interface
abbrev pub has_type : ElementRef → List Carried → Bool
has_type at list = list_any (is_of_type at) list

-- where the annotation interface is declared
abbrev pub inherited : ElementRef
inherited = reference (codes "java.lang.annotation.Inherited") []

-- whether an annotation interface carries `Inherited`
unfoldable pub is_inherited : TypeTable → ElementRef → Bool
is_inherited table at = has_type inherited (directly_present table (find_in table at))

-- whether a class inherits it: its interface carries `Inherited`, and of the annotations that are written on the class none is of that interface
abbrev pub is_passed_on : TypeTable → List Carried → Carried → Bool
is_passed_on table own c = option_map_or (λ at. not (has_type at own) && is_inherited table at) c.annotation_type false

abbrev pub is_class : TypeKind → Bool
is_class kind.Class = true
is_class kind.Enum = false
is_class kind.AnnotationType = false
is_class kind.Interface = false

-- the superclass of a class, if it is one of the table; an enum, an interface and an annotation interface inherit no annotations
abbrev pub superclass_of : TypeTable → Find → Option TypeDecl → Option ElementRef
superclass_of table f None = None
superclass_of table f (Some d) = if is_class d.kind then class_element (superclass table f) else None

unfoldable pub superclass_element : TypeTable → Find → Option ElementRef
superclass_element table f = superclass_of table f (type_at f.unit f.path)

-- through this many superclasses: the written ones, and then those of the superclass that it passes on, the nearest first
unfoldable pub present_within : TypeTable → ℕ → Find → List Carried
present_within table zero f = directly_present table f
present_within table (suc levels) f =
    directly_present table f
    ++ filter (is_passed_on table (directly_present table f))
    (option_map_or (λ at. present_within table levels (find_in table at)) (superclass_element table f) [])

-- through how many superclasses an annotation is inherited
abbrev pub max_superclasses : ℕ
max_superclasses = 64

-- all that are present on what stands there
unfoldable pub present : TypeTable → Find → List Carried
present table f = present_within table max_superclasses f

-- ---- of an element

-- those that are present on an element of the table; where nothing stands there are none
abbrev pub present_on : TypeTable → ElementRef → List Carried
present_on table at = present table (find_in table at)

abbrev pub types_of : List Carried → List ElementRef
types_of list = filter_map (λ c. c.annotation_type) list
