-- Each entry has a byte at least, so that there are no more entries than bytes.
use Rattle.std.proofs.Common.{◌≡◌, ℕ, ◌+◌, ◌≤◌, List, [], ◌∷◌, ◌++◌, length, refl, length-append, arith}
use Rattle.std.specs.List.{flat_map}
use Rattle.std.proofs.lemmas.Bool.{lt-ltb}
use Rattle.apt_base.specs.Forms.{count_form, u16_form, list_form, opt_form, name_form}
use Rattle.record_forms.specs.Forms.{u32_form}
use Rattle.record_forms.specs.RecordTable as form
use Rattle.record_forms.specs.RecordTable.{entry, record_form, spelling}
use Rattle.record_forms.specs.declared.record.Entry.{Entry}
use Rattle.entry_laws.specs.RecordLaws.{EntriesAreShort}

longer : {A : Type 0} (xs ys : List A) → 1 ≤ length xs → 1 ≤ length (xs ++ ys)
longer xs ys le = let both = length-append xs ys in omega (arith, both, le)

no_more_items : {A : Type 0} (f : A → List ℕ) → ((x : A) → 1 ≤ length (f x)) → (xs : List A) → length xs ≤ length (flat_map f xs)
no_more_items f some [] = omega arith
no_more_items f some (x ∷ xs) =
    let here = some x in
    let others = no_more_items f some xs in
    let both = length-append (f x) (flat_map f xs) in
    omega (arith, here, others, both)

has_bytes : (n : ℕ) → 1 ≤ length (u32_form n)
unfolding u32_form
has_bytes n = let four : length (u32_form n) ≡ 4 = refl in omega (arith, four)

some_bytes : (e : Entry) → 1 ≤ length (form.entry.spelling e)
unfolding entry
some_bytes e =
    longer _ (list_form form.message.spelling e.messages)
    (longer _ (list_form form.file.spelling e.files)
    (longer _ (list_form name_form e.annotated)
    (longer _ (list_form name_form e.offered)
    (longer _ (opt_form name_form e.origin)
    (longer (u32_form e.round) (u16_form e.processor) (has_bytes e.round))))))

-- a part in the middle is no longer than the whole
pub within : (before count items behind : List ℕ) → length items ≤ length ((before ++ (count ++ items)) ++ behind)
within before count items behind =
    let one = length-append count items in
    let two = length-append before (count ++ items) in
    let three = length-append (before ++ (count ++ items)) behind in
    omega (arith, one, two, three)

pub entries_are_short : EntriesAreShort
unfolding record_form
entries_are_short value most =
    let part : length (flat_map form.entry.spelling value.entries) ≤ length (spelling value) = within _ (count_form (length value.entries)) (flat_map form.entry.spelling value.entries) _ in
    let items = no_more_items form.entry.spelling some_bytes value.entries in
    lt-ltb (length value.entries) 0x1_0000_0000 (omega (arith, part, items, most))
