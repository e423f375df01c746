-- The laws on the notes of what processors did, in the words that say which records can be read.
use Rattle.std.specs.Prelude.{◌≡◌, ℕ, true, nat_le, List}
use Rattle.std.specs.List.{list_all}
use Rattle.record_forms.specs.Forms.{ascends, list}
use Rattle.record_forms.specs.RecordTable as form
use Rattle.origin_record.specs.Conditions.{is_below}
use Rattle.run_entries.specs.declared.processed.Processed.{Processed}
use Rattle.run_entries.specs.Notes.{notes_of}
use Rattle.run_entries.specs.Stands.{note_less}

-- they ascend strictly by processor and kind
abbrev pub NotesAscend : Type 0
NotesAscend = (count : ℕ) (processed : List Processed) → ascends note_less (notes_of count processed) ≡ true

-- each is on one of so many processors
abbrev pub NotesAreBelow : Type 0
NotesAreBelow = (count : ℕ) (processed : List Processed) → list_all (is_below count) (notes_of count processed) ≡ true

-- where there are at most 65,536 processors, they are a list as the form of a record asks
abbrev pub NotesFit : Type 0
NotesFit = (count : ℕ) (processed : List Processed) → nat_le count 0x1_0000 ≡ true → (list form.note).fits (notes_of count processed) ≡ true
