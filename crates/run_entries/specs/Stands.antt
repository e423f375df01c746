-- When a record stands for what a run left and for a store: it says of the run what the run left, and the store has the run's files under the numbers that the record gives them.
-- Two things are free: the numbers of store files; and the numbers of messages, as long as they ascend within an entry.
use Rattle.std.specs.Prelude.{◌≡◌, ℕ, Bool, true, ◌&&◌, ◌||◌, ◌==◌, nat_lt, ◌<◌, T, List, map, Option, Some, IsSomeAnd}
use Rattle.std.specs.List.{flat_map, list_any, AllByRecursion}
use Rattle.std.specs.Ordering.{nat_cmp}
use Rattle.std.specs.Cmp.Lexicographic.{slice_cmp}
use Rattle.std.specs.FinMap as fin
use Rattle.std.specs.FinMap.{FinMap}
use Rattle.wire_frames.specs.declared.frame.Hello.{Hello}
use Rattle.record_forms.specs.Forms.{ascends}
use Rattle.record_forms.specs.RecordTable.{note_number}
use Rattle.record_forms.specs.declared.record.Record.{Record}
use Rattle.record_forms.specs.declared.record.OldRound.{OldRound}
use Rattle.record_forms.specs.declared.record.Entry.{Entry}
use Rattle.record_forms.specs.declared.record.Note.{Note}
use Rattle.record_forms.specs.declared.record.NoteKind.{NoteKind}
use Rattle.record_forms.specs.declared.record.NoteKind.TheVariants.{Beyond, Unattributed, Refused}
use Rattle.record_forms.specs.declared.record.StoredFile.{StoredFile}
use Rattle.record_forms.specs.declared.record.StoredMessage.{StoredMessage}
use Rattle.run_entries.specs.declared.processed.Processed.{Processed}
use Rattle.run_entries.specs.Entries.{entries_of}
use Rattle.run_entries.specs.Maps.{Stores}
use Rattle.run_entries.specs.Notes.{is_note, noted, notes_of}

-- What a run without a refusal leaves: the Hellos of its processors; of each round its roots, the units that entered before it and the names that are present on its roots; what was done in the rounds; and its files, by their paths.
pub record Remembered : Type 0 where
  pub hellos : List Hello
  pub rounds : List OldRound
  pub processed : List Processed
  pub files : FinMap (slice_cmp nat_cmp) (List ℕ)

-- ---- entries

abbrev pub unnumbered_file : StoredFile → StoredFile
unnumbered_file file = record file { store = 0 }

abbrev pub unnumbered_message : StoredMessage → StoredMessage
unnumbered_message message = record message { number = 0 }

-- an entry but for its numbers
abbrev pub unnumbered : Entry → Entry
unnumbered entry = record entry { files = map unnumbered_file entry.files; messages = map unnumbered_message entry.messages }

abbrev pub number_of : StoredMessage → ℕ
number_of message = message.number

-- the numbers of its messages ascend
abbrev pub HasAscendingNumbers : Entry → Type 0
HasAscendingNumbers entry = ascends nat_lt (map number_of entry.messages) ≡ true

-- ---- store files

-- the store has under the file's number what the run's file at its path holds
abbrev pub IsStored : (ℕ → Option (List ℕ)) → FinMap (slice_cmp nat_cmp) (List ℕ) → StoredFile → Type 0
IsStored store files file = IsSomeAnd (fin.get files file.path) (λ bytes. store file.store ≡ Some bytes)

abbrev pub AreStored : (ℕ → Option (List ℕ)) → FinMap (slice_cmp nat_cmp) (List ℕ) → Entry → Type 0
AreStored store files entry = AllByRecursion (IsStored store files) entry.files

-- ---- notes

abbrev pub note_on : ℕ → NoteKind → Note
note_on number kind = record { processor = number; kind = kind }

-- by processor, and then by kind
abbrev pub note_less : Note → Note → Bool
note_less a b = nat_lt a.processor b.processor || ((a.processor == b.processor) && nat_lt (note_number a.kind) (note_number b.kind))

-- a note is one of these
abbrev pub has_note : List Note → Note → Bool
has_note notes note = list_any (is_note note) notes

-- Each note is there once. Of two kinds there are exactly those that were found. Of questions beyond reach there are none but such; one may be left out.
pub record NotesStand (found notes : List Note) : Type 0 where
  pub ascending : ascends note_less notes ≡ true
  pub refused : (number : ℕ) → has_note notes (note_on number Refused) ≡ has_note found (note_on number Refused)
  pub unattributed : (number : ℕ) → has_note notes (note_on number Unattributed) ≡ has_note found (note_on number Unattributed)
  pub beyond : (number : ℕ) → T (has_note notes (note_on number Beyond)) → T (has_note found (note_on number Beyond))

-- ---- the whole

pub record StandsFor (run : Remembered) (store : ℕ → Option (List ℕ)) (value : Record) : Type 0 where
  pub hellos : value.hellos ≡ run.hellos
  pub rounds : value.rounds ≡ run.rounds
  pub entries : map unnumbered value.entries ≡ map unnumbered (entries_of fin.empty run.processed)
  pub numbers : AllByRecursion HasAscendingNumbers value.entries
  pub stored : AllByRecursion (AreStored store run.files) value.entries
  pub notes : NotesStand (flat_map noted run.processed) value.notes

-- ---- the law

-- a record that has what the run left, with its entries under these numbers of store files, and its notes, of this many processors
pub record HasAll (run : Remembered) (stores : Stores) (count : ℕ) (value : Record) : Type 0 where
  pub hellos : value.hellos ≡ run.hellos
  pub rounds : value.rounds ≡ run.rounds
  pub entries : value.entries ≡ entries_of stores run.processed
  pub notes : value.notes ≡ notes_of count run.processed
  -- no other processor did anything
  pub few : AllByRecursion (λ (done : Processed). done.processor < count) run.processed

-- such a record stands where the store has the files of its entries
abbrev pub EntriesStand : Type 0
EntriesStand =
    (run : Remembered) (stores : Stores) (count : ℕ) (store : ℕ → Option (List ℕ)) (value : Record)
    → HasAll run stores count value → AllByRecursion (AreStored store run.files) value.entries → StandsFor run store value
