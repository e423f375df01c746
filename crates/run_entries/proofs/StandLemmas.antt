-- A record with the entries and notes of a run stands for it.
use Rattle.std.proofs.Common.{◌≡◌, ℕ, T, true, List, [], map, ◌<◌, refl, sym, ap, ◌∙◌, subst}
use Rattle.std.specs.List.{flat_map, range_with_len, AllByRecursion}
use Rattle.std.specs.FinMap as fin
use Rattle.record_forms.specs.Forms.{ascends}
use Rattle.record_forms.specs.declared.record.Entry.{Entry}
use Rattle.record_forms.specs.declared.record.Note.{Note}
use Rattle.record_forms.specs.declared.record.NoteKind.{NoteKind}
use Rattle.record_forms.specs.declared.record.NoteKind.TheVariants.{Beyond, Unattributed, Refused}
use Rattle.run_entries.specs.declared.processed.Processed.{Processed}
use Rattle.run_entries.specs.Entries.{entries_of}
use Rattle.run_entries.specs.Notes.{noted, notes_on, notes_of}
use Rattle.run_entries.specs.Stands.{unnumbered, HasAscendingNumbers, note_on, note_less, has_note, NotesStand, EntriesStand}
use Rattle.run_entries.proofs.NumberLemmas.{same_entries, entries_numbered}
use Rattle.run_entries.proofs.FoundNotes.{found_ascend, found_are}

notes_stand : (processed : List Processed) (count : ℕ) → AllByRecursion (λ (done : Processed). done.processor < count) processed → NotesStand (flat_map noted processed) (notes_of count processed)
unfolding notes_of
notes_stand processed count few = record {
  ascending = found_ascend (flat_map noted processed) count;
  refused = λ number. found_are processed count number Refused few;
  unattributed = λ number. found_are processed count number Unattributed few;
  beyond = λ number t. subst T (found_are processed count number Beyond few) t;
}

pub entries_stand : EntriesStand
entries_stand run stores count store value all stored = record {
  hellos = all.hellos;
  rounds = all.rounds;
  entries = ap (map unnumbered) all.entries ∙ same_entries stores fin.empty run.processed;
  numbers = subst (AllByRecursion HasAscendingNumbers) (sym all.entries) (entries_numbered stores run.processed);
  stored = stored;
  notes = subst (NotesStand (flat_map noted run.processed)) (sym all.notes) (notes_stand run.processed count all.few);
}
