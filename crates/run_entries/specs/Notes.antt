-- The notes of a record, which stand against keeping what a processor did: each once, ascending by processor and kind.
use Rattle.std.specs.Prelude.{ℕ, Bool, true, false, ◌&&◌, ◌==◌, List, [], ◌∷◌, ◌++◌, filter, if◌then◌else◌}
use Rattle.std.specs.List.{flat_map, list_any, range_with_len}
use Rattle.record_forms.specs.RecordTable.{note_number}
use Rattle.record_forms.specs.declared.record.Note.{Note}
use Rattle.record_forms.specs.declared.record.NoteKind.{NoteKind}
use Rattle.record_forms.specs.declared.record.NoteKind.TheVariants.{Beyond, Unattributed, Refused}
use Rattle.run_entries.specs.declared.processed.Processed.{Processed}
use Rattle.run_entries.specs.Kinds.{is_isolating}
use Rattle.run_entries.specs.Outputs.{leaves_some}

-- ---- of one processor in one round

-- an output of an isolating processor is of no root to which something was offered
abbrev pub is_unattributed : Processed → Bool
is_unattributed done = is_isolating done.kind && leaves_some done

abbrev pub note_of : Processed → NoteKind → Note
note_of done kind = record { processor = done.processor; kind = kind }

abbrev pub note_where : Bool → Note → List Note
note_where holds note = if holds then note ∷ [] else []

unfoldable pub noted : Processed → List Note
noted done =
    note_where done.beyond (note_of done Beyond)
    ++ note_where (is_unattributed done) (note_of done Unattributed)
    ++ note_where done.refused (note_of done Refused)

-- ---- of a run

-- all notes that there may be on a processor
abbrev pub each_note : ℕ → List Note
each_note number =
    record { processor = number; kind = Beyond } ∷ record { processor = number; kind = Unattributed } ∷ record { processor = number; kind = Refused } ∷ []

abbrev pub is_note : Note → Note → Bool
is_note note other = (note.processor == other.processor) && (note_number note.kind == note_number other.kind)

-- those of these that were found
abbrev pub notes_found : List Note → List Note → List Note
notes_found found notes = filter (λ note. list_any (is_note note) found) notes

-- on one processor
abbrev pub notes_on : List Note → ℕ → List Note
notes_on found number = notes_found found (each_note number)

-- on this many processors
unfoldable pub notes_of : ℕ → List Processed → List Note
notes_of count processed = flat_map (notes_on (flat_map noted processed)) (range_with_len 0 count)
