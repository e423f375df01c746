-- What a reply holds. One that was not expected holds nothing.
use Rattle.std.specs.Prelude.{ℕ, Bool, true, false, ◌&&◌, ◌==◌, length, List, [], ◌∷◌, Option, None, Some}
use Rattle.std.specs.List.{list_any}
use Rattle.std.specs.Str.{bytes_eq}
use Rattle.apt_base.specs.declared.element.ElementRef.{ElementRef}
use Rattle.type_mirror.specs.declared.mirror.Mirror.{Mirror, out-Mirror}
use Rattle.type_mirror.specs.declared.mirror.BaseMirror.{BaseMirror, out-BaseMirror}
use Rattle.type_mirror.specs.declared.mirror.BaseMirror.TheOpen.{BaseMirror-F}
use Rattle.type_mirror.specs.declared.mirror.DeclaredMirror.{DeclaredMirror, out-DeclaredMirror}
use Rattle.type_mirror.specs.declared.mirror.ExecutableMirror.{ExecutableMirror}
use Rattle.type_mirror.specs.declared.value.Annotation.{Annotation, out-Annotation}
use Rattle.frame_forms.specs.declared.question_row.ElementQuestion.{ElementQuestion}
use Rattle.wire_frames.specs.declared.frame.Frame.{Frame}
use Rattle.wire_frames.specs.declared.frame.Frame.TheVariants as frame
use Rattle.wire_frames.specs.declared.question.Question.TheVariants as question
use Rattle.wire_frames.specs.declared.reply.Created.TheVariants as created
use Rattle.wire_frames.specs.declared.reply.Info.{Info}
use Rattle.wire_frames.specs.declared.reply.Reply.{Reply}
use Rattle.wire_frames.specs.declared.reply.Reply.TheVariants as reply

abbrev pub first_in : {A : Type 0} → List A → Option A
first_in [] = None
first_in (item ∷ others) = Some item

abbrev pub elements_in : Reply → List ElementRef
elements_in (reply.Elements elements) = elements
elements_in answer = []

abbrev pub info_in : Reply → Option Info
info_in (reply.Info info) = Some info
info_in answer = None

abbrev pub annotations_in : Reply → List Annotation
annotations_in (reply.Annotations annotations) = annotations
annotations_in answer = []

abbrev pub text_in : Reply → Option (List ℕ)
text_in (reply.Texts texts) = first_in texts
text_in answer = None

abbrev pub mirror_in : Reply → Option Mirror
mirror_in (reply.Mirrors mirrors) = first_in mirrors
mirror_in answer = None

abbrev pub is_accepted : Reply → Bool
is_accepted (reply.Created created.Accepted) = true
is_accepted answer = false

-- ---- annotations

abbrev pub is_empty : {A : Type 0} → List A → Bool
is_empty items = length items == 0

-- the top-level type of this name
abbrev pub is_unit_itself : List ℕ → ElementRef → Bool
is_unit_itself name element = bytes_eq element.unit name && is_empty element.path

abbrev pub is_declared_of : List ℕ → BaseMirror-F BaseMirror DeclaredMirror ExecutableMirror Mirror → Bool
is_declared_of name (BaseMirror-F.Declared declared) = is_unit_itself name (out-DeclaredMirror declared).element
is_declared_of name _ = false

-- a class or interface type by the name of its unit
abbrev pub is_type_of : List ℕ → Mirror → Bool
is_type_of name mirror = is_empty (out-Mirror mirror).around && is_declared_of name (out-BaseMirror (out-Mirror mirror).base)

abbrev pub is_annotation_of : List ℕ → Annotation → Bool
is_annotation_of name annotation = is_type_of name (out-Annotation annotation).annotation_type

-- an annotation of this name is among those of the reply
unfoldable pub carries : List ℕ → Reply → Bool
carries name answer = list_any (is_annotation_of name) (annotations_in answer)

-- ---- frames

abbrev pub about : ElementQuestion → ElementRef → Frame
about asked element = frame.Ask (question.Element asked element)

abbrev pub roots_frame : Frame
roots_frame = frame.Ask question.Roots

-- a message at an element: 0 is an error, 1 a warning
abbrev pub message_at : ℕ → ElementRef → List ℕ → Frame
message_at kind element text = frame.Message (record { kind = kind; element = Some element; text = text })
