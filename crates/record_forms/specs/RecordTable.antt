-- The forms of a record, each with its fields in order. Lists of names, of paths and of entries ascend strictly; nothing is asked so of processors, of the words of a command, of the lists of a Hello, of originating elements, of messages and of notes.
use Rattle.std.specs.Prelude.{ℕ, Bool, true, false, ◌&&◌, ◌||◌, ◌==◌, nat_lt, List, [], ◌∷◌, ◌++◌, length, codes, Option, Some, None, if◌then◌else◌}
use Rattle.std.specs.List.{list_all}
use Rattle.std.specs.Int.{w16, to_be_bytes}
use Rattle.apt_base.specs.Fields.{◌>>=◌, u16_next, u32_next}
use Rattle.apt_base.specs.Forms.{Reader, name_form, list_form, is_name, all_fit}
use Rattle.apt_base.specs.Identifiers.{is_pattern}
use Rattle.apt_base.specs.declared.element.ElementRef.{ElementRef}
use Rattle.apt_base.specs.declared.kinds.Kind.{Kind}
use Rattle.apt_base.specs.declared.kinds.Kind.TheVariants.{Isolating, Aggregating, Dynamic, Undeclared}
use Rattle.frame_forms.specs.FrameTable.{claim_number}
use Rattle.wire_frames.specs.Readings.{are_distinct, fields_next}
use Rattle.wire_frames.specs.declared.frame.Hello.{Hello}
use Rattle.wire_frames.specs.declared.frame.Frame.{Frame}
use Rattle.wire_frames.specs.declared.frame.Frame.TheVariants as frames
use Rattle.record_forms.specs.Forms.{Form, u16, u32, text, octets, u8_below, in_order, opt, list, ◌then◌, made, ascending, text_less}
use Rattle.record_forms.specs.declared.record.Record.{Record}
use Rattle.record_forms.specs.declared.record.Key.{Key}
use Rattle.record_forms.specs.declared.record.KeyProcessor.{KeyProcessor}
use Rattle.record_forms.specs.declared.record.OldRound.{OldRound}
use Rattle.record_forms.specs.declared.record.Entry.{Entry}
use Rattle.record_forms.specs.declared.record.StoredFile.{StoredFile}
use Rattle.record_forms.specs.declared.record.StoredMessage.{StoredMessage}
use Rattle.record_forms.specs.declared.record.Note.{Note}
use Rattle.record_forms.specs.declared.record.NoteKind.{NoteKind}
use Rattle.record_forms.specs.declared.record.NoteKind.TheVariants.{Beyond, Unattributed, Refused}

-- ---- names

-- names, or paths
abbrev pub names : Form (List (List ℕ))
names = ascending text_less text

-- a key and its value
abbrev pub pair_less : {A : Type 0} → List ℕ × A → List ℕ × A → Bool
pair_less a b = text_less a.0 b.0

abbrev pub option : Form (List ℕ × List ℕ)
option = text then text

-- a path and the bytes of its file, or the name of a unit and its shape
abbrev pub named : Form (List ℕ × List ℕ)
named = text then octets

-- ---- the key

abbrev pub kind_number : Kind → ℕ
kind_number Isolating = 0
kind_number Aggregating = 1
kind_number Dynamic = 2
kind_number Undeclared = 3

abbrev pub kind : Form Kind
kind = in_order kind_number (Isolating ∷ Aggregating ∷ Dynamic ∷ Undeclared ∷ [])

abbrev pub processor_of : ((List ℕ × List (List ℕ)) × List ℕ) × Kind → KeyProcessor
processor_of v = record { name = v.0.0.0; command = v.0.0.1; version = v.0.1; kind = v.1 }

abbrev pub processor_parts : KeyProcessor → ((List ℕ × List (List ℕ)) × List ℕ) × Kind
processor_parts p = (((p.name, p.command), p.version), p.kind)

unfoldable pub processor : Form KeyProcessor
processor = made processor_of processor_parts (text then list text then text then kind)

abbrev pub key_of : ((ℕ × List (List ℕ × List ℕ)) × List KeyProcessor) × List (List ℕ × List ℕ) → Key
key_of v = record { level = v.0.0.0; options = v.0.0.1; processors = v.0.1; stubs = v.1 }

abbrev pub key_parts : Key → ((ℕ × List (List ℕ × List ℕ)) × List KeyProcessor) × List (List ℕ × List ℕ)
key_parts k = (((k.level, k.options), k.processors), k.stubs)

unfoldable pub key : Form Key
key = made key_of key_parts (u16 then ascending pair_less option then list processor then ascending pair_less named)

-- ---- Hellos

abbrev pub hello_in : Frame → Option Hello
hello_in (frames.Hello hello) = Some hello
hello_in frame = None

-- the fields of frame 64, by the rules of that frame
unfoldable pub hello_next : Reader Hello
hello_next bytes = do
  frame ← fields_next 64 bytes
  hello ← hello_in frame.0
  Some (hello, frame.1)

-- patterns of which none stands there twice, texts of which none does, and a claim
unfoldable pub hello : Form Hello
hello = record {
  spelling = λ h. list_form name_form h.patterns ++ (list_form name_form h.options ++ (claim_number h.claim ∷ []));
  fits = λ h. all_fit is_name h.patterns && are_distinct h.patterns && list_all is_pattern h.patterns && (all_fit is_name h.options && are_distinct h.options);
  next = hello_next;
}

-- ---- rounds

abbrev pub round_of : (List (List ℕ) × List (List ℕ × List ℕ)) × List (List ℕ) → OldRound
round_of v = record { roots = v.0.0; entered = v.0.1; present = v.1 }

abbrev pub round_parts : OldRound → (List (List ℕ) × List (List ℕ × List ℕ)) × List (List ℕ)
round_parts r = ((r.roots, r.entered), r.present)

unfoldable pub round : Form OldRound
round = made round_of round_parts (names then ascending pair_less named then names)

-- ---- entries

abbrev pub element_of : List ℕ × List ℕ → ElementRef
element_of v = record { unit = v.0; path = v.1 }

abbrev pub element_parts : ElementRef → List ℕ × List ℕ
element_parts e = (e.unit, e.path)

unfoldable pub element : Form ElementRef
element = made element_of element_parts (text then list u16)

abbrev pub file_of : (((List ℕ × List ℕ) × ℕ) × ℕ) × List ElementRef → StoredFile
file_of v = record { path = v.0.0.0.0; type_name = v.0.0.0.1; store = v.0.0.1; length = v.0.1; origins = v.1 }

abbrev pub file_parts : StoredFile → (((List ℕ × List ℕ) × ℕ) × ℕ) × List ElementRef
file_parts f = ((((f.path, f.type_name), f.store), f.length), f.origins)

unfoldable pub file : Form StoredFile
file = made file_of file_parts (text then text then u32 then u32 then list element)

abbrev pub file_less : StoredFile → StoredFile → Bool
file_less a b = text_less a.path b.path

-- what a message may be: an error, a warning, a mandatory warning, a note, or another
abbrev pub message_kinds : ℕ
message_kinds = 5

abbrev pub message_of : ((ℕ × ℕ) × Option ElementRef) × List ℕ → StoredMessage
message_of v = record { number = v.0.0.0; kind = v.0.0.1; element = v.0.1; text = v.1 }

abbrev pub message_parts : StoredMessage → ((ℕ × ℕ) × Option ElementRef) × List ℕ
message_parts m = (((m.number, m.kind), m.element), m.text)

unfoldable pub message : Form StoredMessage
message = made message_of message_parts (u32 then u8_below message_kinds then opt element then text)

abbrev pub entry_of : (((((ℕ × ℕ) × Option (List ℕ)) × List (List ℕ)) × List (List ℕ)) × List StoredFile) × List StoredMessage → Entry
entry_of v = record { round = v.0.0.0.0.0.0; processor = v.0.0.0.0.0.1; origin = v.0.0.0.0.1; offered = v.0.0.0.1; annotated = v.0.0.1; files = v.0.1; messages = v.1 }

abbrev pub entry_parts : Entry → (((((ℕ × ℕ) × Option (List ℕ)) × List (List ℕ)) × List (List ℕ)) × List StoredFile) × List StoredMessage
entry_parts e = ((((((e.round, e.processor), e.origin), e.offered), e.annotated), e.files), e.messages)

unfoldable pub entry : Form Entry
entry = made entry_of entry_parts (u32 then u16 then opt text then names then names then ascending file_less file then list message)

-- none is less than each
abbrev pub origin_less : Option (List ℕ) → Option (List ℕ) → Bool
origin_less a None = false
origin_less None (Some b) = true
origin_less (Some a) (Some b) = text_less a b

-- by round, processor and origin
unfoldable pub entry_less : Entry → Entry → Bool
entry_less a b =
    nat_lt a.round b.round
    || (a.round == b.round && (nat_lt a.processor b.processor || (a.processor == b.processor && origin_less a.origin b.origin)))

-- ---- notes

abbrev pub note_number : NoteKind → ℕ
note_number Beyond = 0
note_number Unattributed = 1
note_number Refused = 2

abbrev pub note_kind : Form NoteKind
note_kind = in_order note_number (Beyond ∷ Unattributed ∷ Refused ∷ [])

abbrev pub note_of : ℕ × NoteKind → Note
note_of v = record { processor = v.0; kind = v.1 }

abbrev pub note_parts : Note → ℕ × NoteKind
note_parts n = (n.processor, n.kind)

unfoldable pub note : Form Note
note = made note_of note_parts (u16 then note_kind)

-- ---- the whole

-- `APTR`, and the format 1
unfoldable pub record_head : List ℕ
record_head = codes "APTR" ++ to_be_bytes w16 1

unfoldable pub head_next : Reader (Unit {0})
head_next bytes = do
  magic ← u32_next bytes
  format ← u16_next magic.1
  if magic.0 == 0x4150_5452 && format.0 == 1 then Some (tt, format.1) else None

abbrev pub head : Form (Unit {0})
head = record { spelling = λ u. record_head; fits = λ u. true; next = head_next }

abbrev pub Front : Type 0
Front = ((Unit {0} × Key) × List Hello) × List (List ℕ × List ℕ)

abbrev pub record_of : ((Front × List OldRound) × List Entry) × List Note → Record
record_of v = record { key = v.0.0.0.0.0.1; hellos = v.0.0.0.0.1; initial = v.0.0.0.1; rounds = v.0.0.1; entries = v.0.1; notes = v.1 }

abbrev pub record_parts : Record → ((Front × List OldRound) × List Entry) × List Note
record_parts r = ((((((tt, r.key), r.hellos), r.initial), r.rounds), r.entries), r.notes)

unfoldable pub record_form : Form Record
record_form =
    made record_of record_parts
    (head then key then list hello then ascending pair_less named then list round then ascending entry_less entry then list note)

-- ---- whole bytes

abbrev pub spelling : Record → List ℕ
spelling value = record_form.spelling value

-- whether its fields are as their forms ask
abbrev pub fits : Record → Bool
fits value = record_form.fits value

-- the record that the bytes are, with nothing behind it
unfoldable pub whole_record : List ℕ → Option Record
whole_record bytes = do
  value ← record_form.next bytes
  if length value.1 == 0 then Some value.0 else None
