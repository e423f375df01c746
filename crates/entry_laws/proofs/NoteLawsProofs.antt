-- The laws on notes.
use Rattle.std.proofs.Common.{◌≡◌, ℕ, zero, suc, ◌+◌, ◌*◌, ◌≤◌, ◌<◌, Bool, true, List, length, refl, length-append, arith}
use Rattle.std.specs.Prelude.{nat_lt}
use Rattle.std.specs.List.{flat_map, list_any, list_all, range_with_len, AllByRecursion}
use Rattle.std.proofs.lemmas.Bool.{and_from, lt-ltb, leb-true}
use Rattle.apt_base.specs.Forms.{is_short}
use Rattle.record_forms.specs.RecordTable as form
use Rattle.record_forms.specs.RecordTable.{note}
use Rattle.record_forms.specs.declared.record.Note.{Note}
use Rattle.origin_record.specs.Conditions.{is_below}
use Rattle.run_entries.specs.Notes.{is_note, noted, each_note, notes_on, notes_of}
use Rattle.run_entries.proofs.FoundNotes.{found_ascend}
use Rattle.entry_laws.specs.NoteLaws.{NotesAscend, NotesAreBelow, NotesFit}
use Rattle.entry_laws.proofs.Ascending.{all_append, all_to, all_of_test}
use Rattle.entry_laws.proofs.EntryFields.{all_those, fewer}

pub notes_ascend : NotesAscend
unfolding notes_of
notes_ascend count processed = found_ascend (flat_map noted processed) count

module _ (found : List Note) where
  abbrev is_found : Note → Bool
  is_found x = list_any (is_note x) found

  -- each is on one of the processors
  on_processors : (n count total : ℕ) → n + count ≤ total → AllByRecursion (λ (x : Note). x.processor < total) (flat_map (notes_on found) (range_with_len n count))
  on_processors n zero total le = tt
  on_processors n (suc count) total le =
      all_append (λ (x : Note). x.processor < total) (notes_on found n) (flat_map (notes_on found) (range_with_len (n + 1) count))
      (all_those (λ (x : Note). x.processor < total) is_found (each_note n) (omega (arith, le), (omega (arith, le), (omega (arith, le), tt))))
      (on_processors (n + 1) count total (omega (arith, le)))

  -- there are three on each at most
  at_most_three : (n count : ℕ) → length (flat_map (notes_on found) (range_with_len n count)) ≤ 3 * count
  at_most_three n zero = omega arith
  at_most_three n (suc count) =
      let three : length (notes_on found n) ≤ 3 = fewer is_found (each_note n) in
      let others = at_most_three (n + 1) count in
      let both = length-append (notes_on found n) (flat_map (notes_on found) (range_with_len (n + 1) count)) in
      omega (arith, three, others, both)

pub notes_are_below : NotesAreBelow
unfolding notes_of
notes_are_below count processed =
    let notes = flat_map (notes_on (flat_map noted processed)) (range_with_len 0 count) in
    all_of_test (is_below count) notes (all_to (λ (x : Note) lt. lt-ltb x.processor count lt) notes (on_processors (flat_map noted processed) 0 count count (omega arith)))

fits_below : (count : ℕ) → count ≤ 0x1_0000 → (x : Note) → x.processor < count → form.note.fits x ≡ true
unfolding note
fits_below count most x lt = and_from (nat_lt x.processor 0x1_0000) true (lt-ltb x.processor 0x1_0000 (omega (arith, most, lt))) refl

pub notes_fit : NotesFit
unfolding notes_of
notes_fit count processed few =
    let notes = flat_map (notes_on (flat_map noted processed)) (range_with_len 0 count) in
    let most = leb-true count 0x1_0000 few in
    let length_most = at_most_three (flat_map noted processed) 0 count in
    and_from (is_short notes) (list_all form.note.fits notes) (lt-ltb (length notes) 0x1_0000_0000 (omega (arith, most, length_most)))
    (all_of_test form.note.fits notes (all_to (fits_below count most) notes (on_processors (flat_map noted processed) 0 count count (omega arith))))
