-- The laws on records: one that can be read without entries and notes can be read with those of a run.
use Rattle.std.specs.Prelude.{◌≡◌, ◌≤◌, true, nat_le, List, [], length}
use Rattle.std.specs.List.{list_all, AllByRecursion}
use Rattle.apt_base.specs.Forms.{is_short}
use Rattle.record_forms.specs.RecordTable.{spelling}
use Rattle.record_forms.specs.declared.record.Record.{Record}
use Rattle.origin_record.specs.Conditions.{most_bytes}
use Rattle.origin_record.specs.RecordReadings.{IsRecord}
use Rattle.run_entries.specs.declared.processed.Processed.{Processed}
use Rattle.run_entries.specs.Entries.{entries_of}
use Rattle.run_entries.specs.Maps.{Stores}
use Rattle.run_entries.specs.Notes.{notes_of}
use Rattle.entry_laws.specs.Asked.{AreInOrder, HaveOwnPaths, HaveOwnNumbers, is_within, HasFields}

-- without entries and notes
abbrev pub bare : Record → Record
bare value = record value { entries = []; notes = [] }

-- with those of what was done, of as many processors as its key has
abbrev pub with_run : Record → Stores → List Processed → Record
with_run value stores processed = record value { entries = entries_of stores processed; notes = notes_of (length value.key.processors) processed }

-- all that is asked of what was done
pub record CanBeRecorded (value : Record) (stores : Stores) (processed : List Processed) : Type 0 where
  pub order : AreInOrder processed
  pub paths : HaveOwnPaths processed
  pub numbers : HaveOwnNumbers stores processed
  pub within : list_all (is_within (length value.key.processors) (length value.rounds)) processed ≡ true
  pub fields : AllByRecursion (HasFields stores) processed
  pub short : is_short (entries_of stores processed) ≡ true
  pub few : nat_le (length value.key.processors) 0x1_0000 ≡ true

abbrev pub RunsAreRecorded : Type 0
RunsAreRecorded =
    (value : Record) (stores : Stores) (processed : List Processed) → IsRecord (bare value) → CanBeRecorded value stores processed
    → IsRecord (with_run value stores processed)

-- the entries of a record are not too many to be counted where its bytes are not too many
abbrev pub EntriesAreShort : Type 0
EntriesAreShort = (value : Record) → length (spelling value) ≤ most_bytes → is_short value.entries ≡ true
