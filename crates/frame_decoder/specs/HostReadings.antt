-- The frames of the host that stand next at the front of bytes.
use Rattle.std.specs.Prelude.{ℕ, Bool, true, ◌&&◌, List, [], ◌∷◌, ◌==◌, slice_get, Option, Some, None, if◌then◌else◌}
use Rattle.std.specs.Ordering.{is_lt, nat_cmp}
use Rattle.std.specs.Cmp.Lexicographic.{slice_cmp}
use Rattle.apt_base.specs.Fields.{u16_next, u32_next, bool_next, text_next}
use Rattle.apt_base.specs.Forms.{Reader, none_next, ◌>>◌, mapped, checked, numbered, list_next}
use Rattle.apt_base.specs.declared.element.ElementRef.{ElementRef}
use Rattle.type_mirror.specs.declared.mirror.Mirror.{Mirror}
use Rattle.type_mirror.specs.declared.value.Value.{Value}
use Rattle.type_mirror.specs.declared.value.Annotation.{Annotation}
use Rattle.frame_forms.specs.Frames.{most_nested}
use Rattle.wire_frames.specs.declared.reply.Created.{Created}
use Rattle.wire_frames.specs.declared.reply.Created.TheVariants as created
use Rattle.wire_frames.specs.declared.reply.Refused.{Refused}
use Rattle.wire_frames.specs.declared.reply.Refused.TheVariants as refused
use Rattle.wire_frames.specs.declared.reply.Reply.{Reply}
use Rattle.wire_frames.specs.declared.reply.Reply.TheVariants as replies
use Rattle.wire_frames.specs.declared.frame.Frame.{Frame}
use Rattle.wire_frames.specs.declared.frame.Frame.TheVariants as frames
use Rattle.wire_frames.specs.Readings.{below_next, element_next}
use Rattle.frame_decoder.specs.PartReadings.{nothing_next, mirror_next, value_next, annotation_in}

-- ---- lists that ascend

-- the text is greater than the one before it, where there is one
abbrev pub is_above : Option (List ℕ) → List ℕ → Bool
is_above None text = true
is_above (Some last) text = is_lt (slice_cmp nat_cmp last text)

-- each item is greater than the one before it by this text of theirs, and the first one greater than the last text
abbrev pub ascend_by : {A : Type 0} → (A → List ℕ) → Option (List ℕ) → List A → Bool
ascend_by key last [] = true
ascend_by key last (item ∷ others) = is_above last (key item) && ascend_by key (Some (key item)) others

abbrev pub texts_ascend : Option (List ℕ) → List (List ℕ) → Bool
texts_ascend last texts = ascend_by {A = List ℕ} (λ text. text) last texts

abbrev pub options_ascend : Option (List ℕ) → List (List ℕ × List ℕ) → Bool
options_ascend last options = ascend_by {A = List ℕ × List ℕ} (λ option. option.0) last options

unfoldable pub ascending_next : Reader (List (List ℕ))
ascending_next = checked (texts_ascend None) (list_next text_next)

unfoldable pub option_next : Reader (List ℕ × List ℕ)
option_next = text_next >> text_next

unfoldable pub options_next : Reader (List (List ℕ × List ℕ))
options_next = checked (options_ascend None) (list_next option_next)

-- ---- Init and Round

abbrev pub init_of : List ℕ × (ℕ × List (List ℕ × List ℕ)) → Frame
init_of v = frames.Init (record { name = v.0; level = v.1.0; options = v.1.1 })

unfoldable pub init_next : Reader Frame
init_next = mapped init_of (text_next >> (u16_next >> options_next))

abbrev pub round_of : ℕ × (Bool × (Bool × (List (List ℕ) × List (List ℕ)))) → Frame
round_of v = frames.Round v.0 v.1.0 v.1.1.0 v.1.1.1.0 v.1.1.1.1

unfoldable pub round_next : Reader Frame
round_next = mapped round_of (u32_next >> (bool_next >> (bool_next >> (ascending_next >> ascending_next))))

-- ---- replies

abbrev pub elements_of : List ElementRef → Reply
elements_of elements = replies.Elements elements

abbrev pub info_of : ℕ × (ℕ × (List ℕ × (List ℕ × Bool))) → Reply
info_of v = replies.Info (record { kind = v.0; modifiers = v.1.0; simple = v.1.1.0; canonical = v.1.1.1.0; varargs = v.1.1.1.1 })

unfoldable pub info_next : Reader Reply
info_next = mapped info_of (below_next 11 >> (u16_next >> (text_next >> (text_next >> bool_next))))

abbrev pub texts_of : List (List ℕ) → Reply
texts_of texts = replies.Texts texts

abbrev pub annotations_of : List Annotation → Reply
annotations_of annotations = replies.Annotations annotations

unfoldable pub annotation_next : ℕ → Reader Annotation
annotation_next room = annotation_in (mirror_next room) (value_next room)

abbrev pub values_of : List (List ℕ × Value) → Reply
values_of values = replies.Values values

-- a value with a name
unfoldable pub entry_next : ℕ → Reader (List ℕ × Value)
entry_next room = text_next >> value_next room

abbrev pub mirrors_of : List Mirror → Reply
mirrors_of mirrors = replies.Mirrors mirrors

abbrev pub truth_of : Bool → Reply
truth_of truth = replies.Truth truth

abbrev pub all_created : List Created
all_created = created.Accepted ∷ created.Exists ∷ created.Unsupported ∷ created.BadName ∷ created.TooLarge ∷ []

abbrev pub created_of : Created → Reply
created_of became = replies.Created became

abbrev pub noted_of : Unit {0} → Reply
noted_of v = replies.Noted

abbrev pub all_refused : List Refused
all_refused = refused.NoSuch ∷ refused.WrongKind ∷ refused.TooDeep ∷ refused.TooLarge ∷ []

abbrev pub refused_of : Refused → Reply
refused_of why = replies.Refused why

abbrev pub reply_next : ℕ → Reader Reply
reply_next tag =
    if tag == 16 then mapped elements_of (list_next element_next)
    else (if tag == 17 then info_next
    else (if tag == 18 then mapped texts_of (list_next text_next)
    else (if tag == 19 then mapped annotations_of (list_next (annotation_next most_nested))
    else (if tag == 20 then mapped values_of (list_next (entry_next most_nested))
    else (if tag == 21 then mapped mirrors_of (list_next (mirror_next most_nested))
    else (if tag == 22 then mapped truth_of bool_next
    else (if tag == 23 then mapped created_of (numbered (slice_get all_created))
    else (if tag == 24 then mapped noted_of nothing_next
    else (if tag == 25 then mapped refused_of (numbered (slice_get all_refused))
    else none_next)))))))))
