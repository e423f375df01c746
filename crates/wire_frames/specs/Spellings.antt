-- The spellings of what fields are made of, by the forms of the table.
use Rattle.std.specs.Prelude.{ℕ, Bool, List, [], ◌∷◌, ◌++◌, length, Result}
use Rattle.std.specs.List.{flat_map}
use Rattle.std.specs.Int.{w16, w32, to_be_bytes}
use Rattle.apt_base.specs.Fields.{bytes_form}
use Rattle.apt_base.specs.declared.element.ElementRef.{ElementRef}
use Rattle.apt_base.specs.declared.around.Around.{Around}
use Rattle.apt_base.specs.declared.around.Around.TheVariants as around
use Rattle.type_mirror.specs.declared.mirror.BaseMirror.{BaseMirror}
use Rattle.type_mirror.specs.declared.mirror.Mirror.{Mirror}
use Rattle.type_mirror.specs.declared.mirror.DeclaredMirror.{DeclaredMirror, out-DeclaredMirror}
use Rattle.type_mirror.specs.declared.mirror.ExecutableMirror.{ExecutableMirror, out-ExecutableMirror}
use Rattle.type_mirror.specs.declared.value.Value.{Value}
use Rattle.type_mirror.specs.declared.value.Annotation.{Annotation}
use Rattle.type_mirror.specs.declared.value.NamedValue.{NamedValue}
use Rattle.type_mirror.specs.Parts.{plain}
use Rattle.frame_forms.specs.Forms as forms
use Rattle.frame_forms.specs.Forms.{mirror_part, value_part, spelled_with, opt_spelling, plain_frame}
use Rattle.frame_forms.specs.MirrorForms.{element, named_value, annotation, bool_number}
use Rattle.frame_forms.specs.FrameTable.{frame_form, Fields}
use Rattle.frame_forms.specs.Frames.{part_spelling, spelled, most_nested}
use Rattle.wire_frames.specs.declared.output.Output.{Output}
use Rattle.wire_frames.specs.declared.question.Question.{Question}
use Rattle.wire_frames.specs.declared.question.Question.TheVariants as questions
use Rattle.wire_frames.specs.Outputs.{Adds}

-- the tag and the fields of a frame
unfoldable pub fields_spelled : Fields → List ℕ
fields_spelled fields = spelled frame_form fields

-- how many items there are, and the items, of which none depends on those before it
abbrev pub list_spelled : {A : Type 0} → (A → List ℕ) → List A → List ℕ
list_spelled spelling items = to_be_bytes w32 (length items) ++ flat_map spelling items

unfoldable pub element_spelled : ElementRef → List ℕ
element_spelled at = spelled element at

-- an option: its key and its value
abbrev pub option_spelled : List ℕ × List ℕ → List ℕ
option_spelled option = bytes_form option.0 ++ bytes_form option.1

-- mirrors and values, nested at most so deep; what is nested deeper is left out
unfoldable pub mirror_spelled : ℕ → Mirror → List ℕ
mirror_spelled room m = part_spelling room forms.mirror mirror_part m

unfoldable pub base_spelled : ℕ → BaseMirror → List ℕ
base_spelled room base = mirror_spelled room (plain base)

-- what stands around a mirror
unfoldable pub around_spelled : Around → List ℕ
around_spelled around.Array = 4 ∷ []
around_spelled around.Extends = 5 ∷ 1 ∷ 1 ∷ []
around_spelled around.Super = 5 ∷ 2 ∷ 1 ∷ []

unfoldable pub value_spelled : ℕ → Value → List ℕ
value_spelled room v = part_spelling room forms.value value_part v

-- a value with a name
abbrev pub value_with_name_spelled : ℕ → List ℕ × Value → List ℕ
value_with_name_spelled room named = bytes_form named.0 ++ value_spelled room named.1

unfoldable pub named_spelled : ℕ → NamedValue → List ℕ
named_spelled room named = spelled_with (part_spelling room) named_value named

unfoldable pub annotation_spelled : ℕ → Annotation → List ℕ
annotation_spelled room a = spelled_with (part_spelling room) annotation a

-- what is behind the number of a class or interface type, and of an executable
abbrev pub enclosing_spelled : ℕ → DeclaredMirror → List ℕ
enclosing_spelled room d = opt_spelling {A = Mirror} (mirror_spelled room) (out-DeclaredMirror d).enclosing

abbrev pub declared_spelled : ℕ → DeclaredMirror → List ℕ
declared_spelled room d = element_spelled (out-DeclaredMirror d).element ++ (enclosing_spelled room d ++ list_spelled (mirror_spelled room) (out-DeclaredMirror d).arguments)

abbrev pub executable_spelled : ℕ → ExecutableMirror → List ℕ
executable_spelled room e =
    list_spelled element_spelled (out-ExecutableMirror e).variables
    ++ (list_spelled (mirror_spelled room) (out-ExecutableMirror e).parameters
    ++ (mirror_spelled room (out-ExecutableMirror e).result ++ list_spelled (mirror_spelled room) (out-ExecutableMirror e).thrown))

-- ---- what frames hold

-- the number of a round and its flags
abbrev pub heading_spelled : ℕ → Bool → Bool → List ℕ
heading_spelled number over error = to_be_bytes w32 number ++ (bool_number over ∷ bool_number error ∷ [])

abbrev pub texts_spelled : List (List ℕ) → List ℕ
texts_spelled texts = list_spelled bytes_form texts

-- a frame that begins a round
abbrev pub round_spelled : ℕ → Bool → Bool → List (List ℕ) → List (List ℕ) → List ℕ
round_spelled number over error offered roots = fields_spelled (plain_frame 2, (number, (over, (error, (offered, roots)))))

-- values with their names, as the values of an annotation with its defaults
abbrev pub values_with_names_spelled : List (List ℕ × Value) → List ℕ
values_with_names_spelled values = list_spelled (value_with_name_spelled most_nested) values

-- a source or class file that is created: its name, its bytes and its originating elements
abbrev pub file_spelled : List ℕ → List ℕ → List ElementRef → List ℕ
file_spelled name content origins = bytes_form name ++ (bytes_form content ++ list_spelled element_spelled origins)

-- a resource that is created
abbrev pub resource_spelled : ℕ → List ℕ → List ℕ → List ℕ → List ElementRef → List ℕ
resource_spelled location folder path content origins = fields_spelled (plain_frame 67, (location, (folder, (path, (content, origins)))))

-- where a call went well, such a resource was added
abbrev pub AddsResource : {T E : Type 0} → Result T E → Output → Output → ℕ → List ℕ → List ℕ → List ℕ → List ElementRef → Type 0
AddsResource result old new location folder path content origins =
    Adds result old new (resource_spelled location folder path content origins)

-- ---- what questions hold

abbrev pub three_elements_spelled : ElementRef → ElementRef → ElementRef → List ℕ
three_elements_spelled one other third = element_spelled one ++ (element_spelled other ++ element_spelled third)

abbrev pub two_mirrors_spelled : Mirror → Mirror → List ℕ
two_mirrors_spelled one other = mirror_spelled most_nested one ++ mirror_spelled most_nested other

-- the arguments of a question, behind its tag
unfoldable pub arguments_spelled : Question → List ℕ
arguments_spelled (questions.Name of name) = bytes_form name
arguments_spelled (questions.Element of at) = element_spelled at
arguments_spelled (questions.Mirror of m) = mirror_spelled most_nested m
arguments_spelled (questions.Mirrors of one other) = two_mirrors_spelled one other
arguments_spelled (questions.ValuesWithDefaults at number) = element_spelled at ++ to_be_bytes w16 number
arguments_spelled (questions.Overrides overrider overridden in_type) = three_elements_spelled overrider overridden in_type
arguments_spelled (questions.MemberType container at) = mirror_spelled most_nested container ++ element_spelled at
arguments_spelled (questions.DeclaredType at arguments) = element_spelled at ++ list_spelled (mirror_spelled most_nested) arguments
arguments_spelled questions.Roots = []
