-- The forms of a record keep to the two laws, so that a record is read from its one spelling and from nothing else.
use Rattle.std.proofs.Common.{◌≡◌, ℕ, zero, suc, Bool, true, false, cond, eqb, ◌&&◌, List, [], ◌∷◌, ◌++◌, length, slice_get, Option, Some, None, Result, Err, refl, sym, ap, subst, ◌∙◌, arith}
use Rattle.std.specs.Int.{w16, w32, to_be_bytes}
use Rattle.std.specs.List.{list_all}
use Rattle.std.proofs.lemmas.Bool.{eqb-true}
use Rattle.std.proofs.lemmas.List.{append-nil, nil_from_length}
use Rattle.apt_base.specs.Fields.{◌>>=◌, u16_next, u32_next, text_next}
use Rattle.apt_base.specs.Forms.{Reader, ◌>>◌, mapped, list_form, name_form, is_name, all_fit}
use Rattle.apt_base.specs.Identifiers.{is_pattern}
use Rattle.apt_base.specs.Readings.{GivesAll}
use Rattle.apt_base.specs.declared.fault.FormFault.{FormFault}
use Rattle.apt_base.specs.declared.fault.FormFault.TheVariants.{Bad, Memory}
use Rattle.apt_base.specs.declared.kinds.Kind.{Kind}
use Rattle.apt_base.specs.declared.kinds.Kind.TheVariants.{Isolating, Aggregating, Dynamic, Undeclared}
use Rattle.apt_base.specs.declared.kinds.Claim.{Claim}
use Rattle.apt_base.specs.declared.kinds.Claim.TheVariants.{Always, Never, Varies}
use Rattle.apt_base.proofs.FieldsLemmas.{IsBytes, IsBytes-rest, bind_some, some_is, u16_next-again, u16_next-spelled, u32_next-again, u32_next-spelled}
use Rattle.apt_base.proofs.Readers.{Reads, Reads-text, Reads-numbered, and_reads, list_reads, check_reads, map_reads, same_reads, both, both_from}
use Rattle.frame_forms.specs.FrameTable.{claim_number}
use Rattle.wire_frames.specs.Readings as wire
use Rattle.wire_frames.specs.declared.frame.Hello.{Hello}
use Rattle.wire_frames.specs.declared.frame.Frame.{Frame}
use Rattle.record_forms.specs.Forms.{Form, text_less}
use Rattle.record_forms.specs.RecordTable.{names, named, option, pair_less, kind_number, kind, processor_of, processor_parts, processor, key_of, key_parts, key, hello_in, hello_next, hello, round_of, round_parts, round, element_of, element_parts, element, file_of, file_parts, file, file_less, message_kinds, message_of, message_parts, message, entry_of, entry_parts, entry, entry_less, note_number, note_kind, note_of, note_parts, note, record_head, head_next, head, record_of, record_parts, record_form, spelling, fits, whole_record}
use Rattle.record_forms.specs.Records.{IsSpelled, IsOnlySpelled, IsNoRecord}
use Rattle.record_forms.specs.declared.record.Record.{Record}
use Rattle.record_forms.specs.declared.record.NoteKind.{NoteKind}
use Rattle.record_forms.specs.declared.record.NoteKind.TheVariants.{Beyond, Unattributed, Refused}
use Rattle.record_forms.proofs.FormsLemmas.{IsForm, u16-is, u32-is, text-is, octets-is, u8_below-is, in_order-is, opt-is, list-is, ◌and◌, made-is, ascending-is}

-- ---- names and kinds

names-is : IsForm names
names-is = ascending-is text_less text-is

named-is : IsForm named
named-is = text-is and octets-is

option-is : IsForm option
option-is = text-is and text-is

kind_back : (k : Kind) → slice_get (Isolating ∷ Aggregating ∷ Dynamic ∷ Undeclared ∷ []) (kind_number k) ≡ Some k
kind_back Isolating = refl
kind_back Aggregating = refl
kind_back Dynamic = refl
kind_back Undeclared = refl

kind_on : (n : ℕ) (k : Kind) → slice_get (Isolating ∷ Aggregating ∷ Dynamic ∷ Undeclared ∷ []) n ≡ Some k → n ≡ kind_number k
kind_on zero k e = ap kind_number (some_is Isolating k e)
kind_on (suc zero) k e = ap kind_number (some_is Aggregating k e)
kind_on (suc (suc zero)) k e = ap kind_number (some_is Dynamic k e)
kind_on (suc (suc (suc zero))) k e = ap kind_number (some_is Undeclared k e)
kind_on (suc (suc (suc (suc n)))) k e = absurd cc

kind-is : IsForm kind
kind-is = in_order-is kind_number (Isolating ∷ Aggregating ∷ Dynamic ∷ Undeclared ∷ []) kind_back kind_on

note_back : (k : NoteKind) → slice_get (Beyond ∷ Unattributed ∷ Refused ∷ []) (note_number k) ≡ Some k
note_back Beyond = refl
note_back Unattributed = refl
note_back Refused = refl

note_on : (n : ℕ) (k : NoteKind) → slice_get (Beyond ∷ Unattributed ∷ Refused ∷ []) n ≡ Some k → n ≡ note_number k
note_on zero k e = ap note_number (some_is Beyond k e)
note_on (suc zero) k e = ap note_number (some_is Unattributed k e)
note_on (suc (suc zero)) k e = ap note_number (some_is Refused k e)
note_on (suc (suc (suc n))) k e = absurd cc

note_kind-is : IsForm note_kind
note_kind-is = in_order-is note_number (Beyond ∷ Unattributed ∷ Refused ∷ []) note_back note_on

-- ---- the key

processor-is : IsForm processor
unfolding processor
processor-is = made-is processor_of processor_parts (λ p. refl) (λ x. refl) (text-is and list-is text-is and text-is and kind-is)

key-is : IsForm key
unfolding key
key-is = made-is key_of key_parts (λ k. refl) (λ x. refl) (u16-is and ascending-is pair_less option-is and list-is processor-is and ascending-is pair_less named-is)

-- ---- Hellos

claim_back : (k : Claim) → slice_get (Always ∷ Never ∷ Varies ∷ []) (claim_number k) ≡ Some k
claim_back Always = refl
claim_back Never = refl
claim_back Varies = refl

claim_on : (n : ℕ) (k : Claim) → slice_get (Always ∷ Never ∷ Varies ∷ []) n ≡ Some k → n ≡ claim_number k
claim_on zero k e = ap claim_number (some_is Always k e)
claim_on (suc zero) k e = ap claim_number (some_is Never k e)
claim_on (suc (suc zero)) k e = ap claim_number (some_is Varies k e)
claim_on (suc (suc (suc n))) k e = absurd cc

abbrev HelloParts : Type 0
HelloParts = List (List ℕ) × (List (List ℕ) × Claim)

abbrev hello_made : HelloParts → Hello
hello_made v = record { patterns = v.0; options = v.1.0; claim = v.1.1 }

abbrev parts_next : Reader HelloParts
parts_next = wire.patterns_next >> (wire.distinct_next >> wire.claim_next)

abbrev frame_made : HelloParts × List ℕ → Option (Frame × List ℕ)
frame_made v = Some (wire.hello_of v.0, v.1)

abbrev with_rest : List ℕ → Hello → Option (Hello × List ℕ)
with_rest rest h = Some (h, rest)

abbrev hello_taken : Frame × List ℕ → Option (Hello × List ℕ)
hello_taken frame = hello_in frame.0 >>= with_rest frame.1

abbrev parts_made : HelloParts × List ℕ → Option (Hello × List ℕ)
parts_made v = Some (hello_made v.0, v.1)

-- what the frame is made of, as the fields of a Hello
in_frame : (read : Option (HelloParts × List ℕ)) → ((read >>= frame_made) >>= hello_taken) ≡ (read >>= parts_made)
in_frame None = refl
in_frame (Some v) = refl

hello_next-is : (bytes : List ℕ) → hello_next bytes ≡ mapped hello_made parts_next bytes
unfolding hello_next wire.hello_next
hello_next-is bytes = in_frame (parts_next bytes)

abbrev hello_fits : Hello → Bool
hello_fits h = all_fit is_name h.patterns && wire.are_distinct h.patterns && list_all is_pattern h.patterns && (all_fit is_name h.options && wire.are_distinct h.options)

abbrev hello_form : Hello → List ℕ
hello_form h = list_form name_form h.patterns ++ (list_form name_form h.options ++ (claim_number h.claim ∷ []))

with_true : (a b : Bool) → (a && (b && true)) ≡ (a && b)
with_true true true = refl
with_true true false = refl
with_true false b = refl

parts-read : Reads (mapped hello_made parts_next) hello_form hello_fits
unfolding wire.patterns_next wire.distinct_next wire.claim_next
parts-read =
    same_reads hello_form hello_fits (λ h. refl) (λ h. with_true _ _)
    (map_reads hello_made (λ h. (h.patterns, (h.options, h.claim))) (λ h. refl) (λ x. refl)
    (and_reads (check_reads (λ texts. list_all is_pattern texts) (check_reads wire.are_distinct (list_reads Reads-text)))
    (and_reads (check_reads wire.are_distinct (list_reads Reads-text)) (Reads-numbered (slice_get (Always ∷ Never ∷ Varies ∷ [])) claim_number claim_back claim_on))))

hello-is : IsForm hello
unfolding hello
hello-is = record {
  again = λ h rest fit. hello_next-is (hello_form h ++ rest) ∙ parts-read.again h rest fit;
  spelled = λ bytes h rest bs e. parts-read.spelled bytes h rest bs (sym (hello_next-is bytes) ∙ e);
}

-- ---- rounds, entries and notes

round-is : IsForm round
unfolding round
round-is = made-is round_of round_parts (λ r. refl) (λ x. refl) (names-is and ascending-is pair_less named-is and names-is)

element-is : IsForm element
unfolding element
element-is = made-is element_of element_parts (λ e. refl) (λ x. refl) (text-is and list-is u16-is)

file-is : IsForm file
unfolding file
file-is = made-is file_of file_parts (λ f. refl) (λ x. refl) (text-is and text-is and u32-is and u32-is and list-is element-is)

message-is : IsForm message
unfolding message
message-is = made-is message_of message_parts (λ m. refl) (λ x. refl) (u32-is and u8_below-is message_kinds and opt-is element-is and text-is)

entry-is : IsForm entry
unfolding entry
entry-is =
    made-is entry_of entry_parts (λ e. refl) (λ x. refl)
    (u32-is and u16-is and opt-is text-is and names-is and names-is and ascending-is file_less file-is and list-is message-is)

note-is : IsForm note
unfolding note
note-is = made-is note_of note_parts (λ n. refl) (λ x. refl) (u16-is and note_kind-is)

-- ---- the whole

head_again : (rest : List ℕ) → head_next (record_head ++ rest) ≡ Some (tt, rest)
unfolding record_head head_next
head_again rest =
    let magic : u32_next (record_head ++ rest) ≡ Some (0x4150_5452, to_be_bytes w16 1 ++ rest) = u32_next-again 0x4150_5452 (to_be_bytes w16 1 ++ rest) (omega arith) in
    rw (magic, u16_next-again 1 rest (omega arith)) refl

kept : {A : Type 0} (b : Bool) (x y : A) → cond b (Some x) None ≡ Some y → (b ≡ true) × (x ≡ y)
kept true x y e = (refl, some_is x y e)
kept false x y e = absurd cc

head_spelled : (bytes : List ℕ) (u : Unit {0}) (rest : List ℕ) → IsBytes bytes → head_next bytes ≡ Some (u, rest) → bytes ≡ record_head ++ rest
unfolding record_head head_next
head_spelled bytes u rest bs e =
    let b = bind_some (u32_next bytes) (λ magic. u16_next magic.1 >>= λ format. cond (eqb magic.0 0x4150_5452 && eqb format.0 1) (Some (tt, format.1)) None) (u, rest) e in
    let c = bind_some (u16_next b.0.1) (λ format. cond (eqb b.0.0 0x4150_5452 && eqb format.0 1) (Some (tt, format.1)) None) (u, rest) b.2 in
    let k = kept (eqb b.0.0 0x4150_5452 && eqb c.0.0 1) (tt, c.0.1) (u, rest) c.2 in
    let t = both (eqb b.0.0 0x4150_5452) (eqb c.0.0 1) k.0 in
    let one = u32_next-spelled bytes b.0.0 b.0.1 bs b.1 in
    let two = u16_next-spelled b.0.1 c.0.0 c.0.1 (IsBytes-rest bytes (to_be_bytes w32 b.0.0) b.0.1 one.0 bs) c.1 in
    let here : bytes ≡ to_be_bytes w32 0x4150_5452 ++ b.0.1 = one.0 ∙ ap (λ (n : ℕ). to_be_bytes w32 n ++ b.0.1) (eqb-true _ _ t.0) in
    let there : b.0.1 ≡ to_be_bytes w16 1 ++ rest = two.0 ∙ ap (λ (n : ℕ). to_be_bytes w16 n ++ c.0.1) (eqb-true _ _ t.1) ∙ ap (λ (y : Unit {0} × List ℕ). to_be_bytes w16 1 ++ y.1) k.1 in
    here ∙ ap (λ (t : List ℕ). to_be_bytes w32 0x4150_5452 ++ t) there

head-is : IsForm head
head-is = record {
  again = λ u rest h. head_again rest;
  spelled = λ bytes u rest bs e. (head_spelled bytes u rest bs e, refl);
}

pub record_form-is : IsForm record_form
unfolding record_form
record_form-is =
    made-is record_of record_parts (λ r. refl) (λ x. refl)
    (head-is and key-is and list-is hello-is and ascending-is pair_less named-is and list-is round-is and ascending-is entry_less entry-is and list-is note-is)

-- ---- whole bytes

-- what is read fits, and is spelled so
pub whole_record-spelled : (bytes : List ℕ) (value : Record) → IsBytes bytes → whole_record bytes ≡ Some value → (bytes ≡ spelling value) × (fits value ≡ true)
unfolding whole_record
whole_record-spelled bytes value bs e =
    let b = bind_some (record_form.next bytes) (λ v. cond (eqb (length v.1) 0) (Some v.0) None) value e in
    let k = kept (eqb (length b.0.1) 0) b.0.0 value b.2 in
    let one = record_form-is.spelled bytes b.0.0 b.0.1 bs b.1 in
    let nothing : b.0.1 ≡ [] = nil_from_length b.0.1 (eqb-true _ _ k.0) in
    let whole : bytes ≡ spelling b.0.0 = one.0 ∙ ap (λ (rest : List ℕ). spelling b.0.0 ++ rest) nothing ∙ append-nil (spelling b.0.0) in
    subst (λ (v : Record). (bytes ≡ spelling v) × (fits v ≡ true)) k.1 (whole, one.1)

-- what fits is read from its spelling
pub whole_record-again : (value : Record) → fits value ≡ true → whole_record (spelling value) ≡ Some value
unfolding whole_record
whole_record-again value fit =
    let read : record_form.next (spelling value) ≡ Some (value, []) = ap record_form.next (sym (append-nil (spelling value))) ∙ record_form-is.again value [] fit in
    rw read refl

-- ---- which bytes spell a record

no_both : {A : Type 0} (o : Option A) (x : A) → o ≡ None → o ≡ Some x → ⊥
no_both o x e f = cc

abbrev failed : (A : Type 0) → FormFault → Result A FormFault
failed A fault = Err fault

pub is_none : {A : Type 0} (bytes : List ℕ) (fault : FormFault) → GivesAll (failed Record fault) (whole_record bytes) → failed A fault ≡ Err Bad → IsNoRecord bytes
is_none bytes Memory given e = absurd cc
is_none bytes Bad given e = λ value spelled. no_both (whole_record bytes) value given (ap whole_record spelled.1 ∙ whole_record-again value spelled.0)

pub is_only : (bytes : List ℕ) (value : Record) → whole_record bytes ≡ Some value → IsOnlySpelled bytes value
is_only bytes value read other spelled = some_is other value (sym (ap whole_record spelled.1 ∙ whole_record-again other spelled.0) ∙ read)

pub is_spelled : (bytes : List ℕ) (value : Record) → IsBytes bytes → whole_record bytes ≡ Some value → IsSpelled value bytes
is_spelled bytes value bs read = let t = whole_record-spelled bytes value bs read in (t.1, t.0)
