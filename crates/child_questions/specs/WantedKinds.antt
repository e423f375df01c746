-- Whether the arguments of a question are what its row of the table wants them to be, where all elements that they
-- name are there.
use Rattle.std.specs.Prelude.{ℕ, Bool, true, false, not, ◌&&◌, ◌||◌, ◌==◌, nat_lt, List, length}
use Rattle.std.specs.Prelude.{Option, None, Some, is_some}
use Rattle.apt_base.specs.declared.element.ElementRef.{ElementRef}
use Rattle.decl_elements.specs.Shown.{Shown, Enum, Class, AnnotationType, Interface}
use Rattle.decl_elements.specs.Shown.{Field, Method, Constructor, TypeParameter}
use Rattle.element_table.specs.TypeTable.{TypeTable}
use Rattle.element_table.specs.TableElements.{node_at, element_at}
use Rattle.type_mirror.specs.declared.mirror.Mirror.{Mirror}
use Rattle.type_layers.specs.Layers.{Layer, Unbounded, Extends, Super, Nothing, Void, layer}
use Rattle.type_relations.specs.Boxed.{primitive_of, boxed_kind}
use Rattle.type_relations.specs.Elements.{parameters_of}
use Rattle.type_queries.specs.Questions.{is_executable, is_package, is_type_layer}
use Rattle.type_queries.specs.MemberQuestion.{is_member_of}
use Rattle.annotation_values.specs.ElementValues.{all_mirrors}
use Rattle.frame_forms.specs.declared.question_row.WantedElement.{WantedElement}
use Rattle.frame_forms.specs.declared.question_row.WantedElement.TheVariants as wanted
use Rattle.frame_forms.specs.declared.question_row.WantedMirror.{WantedMirror}
use Rattle.frame_forms.specs.declared.question_row.WantedMirror.TheVariants as mirror
use Rattle.frame_forms.specs.QuestionTable.{asked_of_element, asked_of_mirror, asked_of_mirrors}
use Rattle.wire_frames.specs.declared.question.Question.{Question}
use Rattle.wire_frames.specs.declared.question.Question.TheVariants as questions

-- ---- elements, by the kinds of JSR 269

abbrev pub is_type_element : Shown → Bool
is_type_element (Enum d) = true
is_type_element (Class d) = true
is_type_element (AnnotationType d) = true
is_type_element (Interface d) = true
is_type_element _ = false

abbrev pub is_method_element : Shown → Bool
is_method_element (Method member) = true
is_method_element _ = false

abbrev pub is_executable_element : Shown → Bool
is_executable_element (Method member) = true
is_executable_element (Constructor member) = true
is_executable_element _ = false

-- an enum constant is no field
abbrev pub is_field_element : Shown → Bool
is_field_element (Field member) = true
is_field_element _ = false

abbrev pub is_type_parameter_element : Shown → Bool
is_type_parameter_element (TypeParameter parameter) = true
is_type_parameter_element _ = false

abbrev pub fits : WantedElement → Shown → Bool
fits wanted.Any e = true
fits wanted.TypeElement e = is_type_element e
fits wanted.Executable e = is_executable_element e
fits wanted.Parameterizable e = is_type_element e || is_executable_element e
fits wanted.Method e = is_method_element e
fits wanted.Field e = is_field_element e
fits wanted.TypeParameter e = is_type_parameter_element e

-- where nothing stands, it is of no kind
abbrev pub fits_any : WantedElement → Option Shown → Bool
fits_any kind None = false
fits_any kind (Some e) = fits kind e

unfoldable pub is_element : TypeTable → WantedElement → ElementRef → Bool
is_element table kind at = fits_any kind (element_at table at)

-- ---- mirrors, by themselves but for the boxes

-- what an array may have as its item
abbrev pub is_item : {M : Type 0} → Layer M → Bool
is_item Unbounded = false
is_item (Extends bound) = false
is_item (Super bound) = false
is_item Nothing = false
is_item Void = false
is_item l = is_type_layer l

abbrev pub is_box : TypeTable → Mirror → Bool
is_box table m = is_some (boxed_kind table m)

unfoldable pub is_mirror : TypeTable → WantedMirror → Mirror → Bool
is_mirror table mirror.Any m = true
is_mirror table mirror.NoPackage m = not (is_package (layer m))
is_mirror table mirror.NoPackageOrExecutable m = is_type_layer (layer m)
is_mirror table mirror.Executable m = is_executable (layer m)
is_mirror table mirror.Primitive m = is_some (primitive_of m)
is_mirror table mirror.PrimitiveBox m = is_box table m
is_mirror table mirror.ArrayItem m = is_item (layer m)

-- ---- arguments together

-- an annotation of this number is there: the written ones first and then the inherited ones, from 0
abbrev pub has_annotation : TypeTable → ElementRef → ℕ → Bool
has_annotation table at number = nat_lt number (length (all_mirrors table at))

-- none, or as many as the type has type parameters
abbrev pub are_as_many : TypeTable → ElementRef → List Mirror → Bool
are_as_many table at arguments =
    length arguments == 0 || length arguments == length (parameters_of (node_at table at))

-- ---- all rows

unfoldable pub is_admitted : TypeTable → Question → Bool
is_admitted table (questions.Name of name) = true
is_admitted table (questions.Element of at) = is_element table (asked_of_element of).wanted at
is_admitted table (questions.Mirror of m) = is_mirror table (asked_of_mirror of).wanted m
is_admitted table (questions.Mirrors of one other) =
    is_mirror table (asked_of_mirrors of).wanted one && is_mirror table (asked_of_mirrors of).wanted other
is_admitted table (questions.ValuesWithDefaults at number) = has_annotation table at number
is_admitted table (questions.Overrides overrider overridden in_type) =
    is_element table wanted.Method overrider
    && (is_element table wanted.Method overridden && is_element table wanted.TypeElement in_type)
-- an element that is no type parameter, in a type that is reached from the element of the class type
is_admitted table (questions.MemberType container at) = is_member_of table container at
is_admitted table (questions.DeclaredType at arguments) =
    is_element table wanted.TypeElement at && are_as_many table at arguments
is_admitted table questions.Roots = true
