-- The laws on the entries that come of what processors did, in the words that say which records can be read.
use Rattle.std.specs.Prelude.{◌≡◌, ℕ, true, List, map}
use Rattle.std.specs.List.{flat_map, list_all, AllByRecursion}
use Rattle.std.specs.List.Sorted.{IsPermutation}
use Rattle.apt_base.specs.Forms.{is_short}
use Rattle.wire_frames.specs.Readings.{are_distinct}
use Rattle.record_forms.specs.Forms.{ascends, ascending, text_less}
use Rattle.record_forms.specs.RecordTable as form
use Rattle.record_forms.specs.RecordTable.{file_less, entry_less}
use Rattle.record_forms.specs.declared.record.Entry.{Entry}
use Rattle.record_forms.specs.declared.record.StoredFile.{StoredFile}
use Rattle.origin_record.specs.Conditions.{is_numbered, stores_in, paths_in, are_different}
use Rattle.run_entries.specs.declared.processed.Processed.{Processed}
use Rattle.run_entries.specs.Entries.{stored_file, entries_of}
use Rattle.run_entries.specs.Maps.{Stores}
use Rattle.run_entries.specs.Stands.{HasAscendingNumbers}
use Rattle.entry_laws.specs.Asked.{AreInOrder, files_of, HaveOwnPaths, HaveOwnNumbers, is_within, HasFields}

-- ---- order

-- the entries ascend strictly by round, processor and origin, an absent origin before all others
abbrev pub EntriesAscend : Type 0
EntriesAscend = (stores : Stores) (processed : List Processed) → AreInOrder processed → ascends entry_less (entries_of stores processed) ≡ true

-- within an entry the names that were offered, the roots, and the files by their paths ascend strictly
pub record HasOrder (entry : Entry) : Type 0 where
  pub offered : ascends text_less entry.offered ≡ true
  pub annotated : ascends text_less entry.annotated ≡ true
  pub files : ascends file_less entry.files ≡ true

abbrev pub EntriesHaveOrder : Type 0
EntriesHaveOrder =
    (stores : Stores) (processed : List Processed) → AreInOrder processed → HaveOwnPaths processed
    → AllByRecursion HasOrder (entries_of stores processed)

-- the numbers of the messages of an entry ascend
abbrev pub MessagesAreNumbered : Type 0
MessagesAreNumbered = (stores : Stores) (processed : List Processed) → AllByRecursion HasAscendingNumbers (entries_of stores processed)

-- ---- files

-- the files of all entries, in order
abbrev pub stored_in : List Entry → List StoredFile
stored_in entries = flat_map (λ (entry : Entry). entry.files) entries

-- the files of the entries are those that were given: each of them stands in exactly one entry, once, and no other file is there
abbrev pub FilesAreKept : Type 0
FilesAreKept =
    (stores : Stores) (processed : List Processed) → AreInOrder processed
    → IsPermutation (map (stored_file stores) (files_of processed)) (stored_in (entries_of stores processed))

-- no path comes twice
abbrev pub PathsAreDistinct : Type 0
PathsAreDistinct =
    (stores : Stores) (processed : List Processed) → AreInOrder processed → HaveOwnPaths processed
    → are_distinct (paths_in (entries_of stores processed)) ≡ true

-- the numbers of the store files are distinct
abbrev pub StoresAreDistinct : Type 0
StoresAreDistinct =
    (stores : Stores) (processed : List Processed) → AreInOrder processed → HaveOwnNumbers stores processed
    → are_different (stores_in (entries_of stores processed)) ≡ true

-- ---- counts

-- each entry has the number of one of so many processors, and of one of so many rounds
abbrev pub EntriesAreNumbered : Type 0
EntriesAreNumbered =
    (stores : Stores) (processed : List Processed) (processors rounds : ℕ) → list_all (is_within processors rounds) processed ≡ true
    → list_all (is_numbered processors rounds) (entries_of stores processed) ≡ true

-- ---- fields

-- the entries are a list as the form of a record asks, where they are not too many to be counted
abbrev pub EntriesFit : Type 0
EntriesFit =
    (stores : Stores) (processed : List Processed) → AreInOrder processed → HaveOwnPaths processed
    → AllByRecursion (HasFields stores) processed → is_short (entries_of stores processed) ≡ true
    → (ascending entry_less form.entry).fits (entries_of stores processed) ≡ true
