-- The record that a finished run leaves for the next build.
use Rattle.std.specs.Prelude.{◌≡◌, ℕ, ◌+◌, List, [], ◌∷◌, length, Option, Some}
use Rattle.std.specs.List.{AllByRecursion}
use Rattle.std.specs.FinMap as fin
use Rattle.element_table.specs.TypeTable.{TypeTable}
use Rattle.record_forms.specs.declared.record.Key.{Key}
use Rattle.record_forms.specs.declared.record.Record.{Record}
use Rattle.run_entries.specs.Entries.{entries_of}
use Rattle.run_entries.specs.Notes.{notes_of}
use Rattle.run_entries.specs.Maps.{Stores}
use Rattle.round_engine.specs.declared.numbering.Made.{Made}
use Rattle.round_engine.specs.declared.running.Finished.{Finished}
use Rattle.run_record.specs.Shapes.{sources_shaped, rounds_of, shapes_length, entered_length}

-- ---- numbers

-- numbers of files by their paths, with that of one more, and with those of several
abbrev pub with_store : Stores → Made → Stores
with_store stores file = fin.insert stores file.path file.store

abbrev pub with_stores : Stores → List Made → Stores
with_stores stores [] = stores
with_stores stores (file ∷ files) = with_stores (with_store stores file) files

-- the numbers of these files
abbrev pub stores_in : List Made → Stores
stores_in files = with_stores fin.empty files

-- the store has the file under its number
abbrev pub IsIn : (ℕ → Option (List ℕ)) → Made → Type 0
IsIn store file = store file.store ≡ Some file.bytes

-- ---- the record

-- The record of a build with this key, over a table with these initial units, whose run this is. Its entries have the numbers of their files in the store.
abbrev pub record_of : Key → TypeTable → Finished → Record
record_of key initial run = record {
  key = key;
  hellos = run.hellos;
  initial = sources_shaped initial;
  rounds = rounds_of run.table.table run.past;
  entries = entries_of (stores_in run.files) run.processed;
  notes = notes_of (length key.processors) run.processed;
}

-- how many of its bytes the shapes of units have
abbrev pub shapes_within : TypeTable → Finished → ℕ
shapes_within initial run = shapes_length initial (fin.keys initial.source) + entered_length run.table.table run.past
