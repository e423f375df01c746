-- What the reading of a published output comes to, and what it removes.
use Rattle.std.specs.Prelude.{◌≡◌, ℕ, Bool, true, false, not, is_none, List, [], ◌++◌, length, map, filter, filter_map, find, Option, None, Some, option_map, option_to_list, Contains, ⊤}
use Rattle.std.specs.List.{list_any}
use Rattle.std.specs.Option.{option_or}
use Rattle.std.specs.Str.{bytes_eq}
use Rattle.std.specs.FinMap as fin
use Rattle.apt_outside.specs.Files.{Files, file_at, is_below, paths_below}
use Rattle.apt_base.specs.Names.{NameSet}
use Rattle.record_forms.specs.RecordTable.{spelling}
use Rattle.record_forms.specs.declared.record.Record.{Record}
use Rattle.origin_record.specs.RecordReadings.{IsReading}
use Rattle.output_store.specs.Output.{record_path, store_folder, store_path, record_in, named_files, files_named, bytes_of, RemovesAll, RemovesFirst}
use Rattle.output_store.specs.declared.named.NamedFile.{NamedFile}
use Rattle.output_store.specs.declared.recorded.RecordFile.{RecordFile}
use Rattle.output_store.specs.declared.recorded.RecordFile.TheVariants as found
use Rattle.output_store.specs.declared.output.RawOutput.{RawOutput}
use Rattle.output_store.specs.declared.output.RawOutput.TheVariants.{Absent, Damaged, Missing, Whole}

-- ---- the file of the record

abbrev pub read_as : Option Record → RecordFile
read_as None = found.Damaged
read_as (Some value) = found.Present value

-- what the bytes are that stand in the place of the record
abbrev pub found_as : Option (List ℕ) → RecordFile
found_as None = found.Absent
found_as (Some bytes) = read_as (record_in bytes)

-- the file of the record of a tree
abbrev pub record_file : Files → RecordFile
record_file files = found_as (file_at files record_path)

-- the record that it is, if it is one
abbrev pub record_held : RecordFile → Option Record
record_held found.Absent = None
record_held found.Damaged = None
record_held (found.Present value) = Some value

-- the files that it names; none where it is no record
abbrev pub named_by : RecordFile → List NamedFile
named_by found.Absent = []
named_by found.Damaged = []
named_by (found.Present value) = named_files value

-- ---- the store files

-- the path of the first of the files of which there is no store file of its length
abbrev pub missing_of : Files → List NamedFile → Option (List ℕ)
missing_of files named = option_map (λ file. file.path) (find (λ file. is_none (bytes_of files file)) named)

-- a store file by its number, where it has its length
abbrev pub numbered : Files → NamedFile → Option (ℕ × List ℕ)
numbered files file = option_map (λ bytes. (file.store, bytes)) (bytes_of files file)

-- the store files that have their lengths, in order
abbrev pub stored_of : Files → List NamedFile → List (ℕ × List ℕ)
stored_of files named = filter_map (numbered files) named

-- with what was found of one file more
abbrev pub missing_with : Option (List ℕ) → NamedFile → Option (List ℕ) → Option (List ℕ)
missing_with missing file None = option_or missing (Some file.path)
missing_with missing file (Some bytes) = missing

abbrev pub stored_with : List (ℕ × List ℕ) → NamedFile → Option (List ℕ) → List (ℕ × List ℕ)
stored_with stored file found = stored ++ option_to_list (option_map (λ bytes. (file.store, bytes)) found)

-- ---- what it comes to

abbrev pub whole_or_missing : Record → Option (List ℕ) → List (ℕ × List ℕ) → RawOutput
whole_or_missing old None stored = Whole old stored
whole_or_missing old (Some path) stored = Missing old path

abbrev pub output_with : RecordFile → Option (List ℕ) → List (ℕ × List ℕ) → RawOutput
output_with found.Absent missing stored = Absent
output_with found.Damaged missing stored = Damaged
output_with (found.Present old) missing stored = whole_or_missing old missing stored

-- the output of a tree as a build reads it
abbrev pub raw_output : Files → RawOutput
raw_output files = output_with (record_file files) (missing_of files (files_named files)) (stored_of files (files_named files))

-- ---- what is given, whatever the tree tells

-- a record that is read from its bytes
abbrev pub IsReadable : Record → Type 0
IsReadable value = IsReading (spelling value) value

-- store files by their numbers and lengths, as they are named and as they are
abbrev pub sizes_named : List NamedFile → List (ℕ × ℕ)
sizes_named named = map (λ file. (file.store, file.length)) named

abbrev pub sizes_of : List (ℕ × List ℕ) → List (ℕ × ℕ)
sizes_of stored = map (λ file. (file.0, length file.1)) stored

-- where none is missing, each of the files has its store file in its length; and what is missing is one of them
abbrev pub FitNamed : List NamedFile → Option (List ℕ) → List (ℕ × List ℕ) → Type 0
FitNamed named None stored = sizes_of stored ≡ sizes_named named
FitNamed named (Some path) stored = Contains (map (λ file. file.path) named) path

-- the record of an output is one that is read, and its store files have their numbers and lengths
abbrev pub KeepsToRecord : RawOutput → Type 0
KeepsToRecord Absent = ⊤
KeepsToRecord Damaged = ⊤
KeepsToRecord (Missing old path) = IsReadable old × FitNamed (named_files old) (Some path) []
KeepsToRecord (Whole old stored) = IsReadable old × FitNamed (named_files old) None stored

-- ---- what it removes

-- where the store files of these stand
abbrev pub store_paths : List NamedFile → List (List ℕ)
store_paths named = map (λ file. store_path file.store) named

-- the paths that are not kept, in order
abbrev pub unkept : NameSet → List (List ℕ) → List (List ℕ)
unkept kept paths = filter (λ path. not (fin.contains_key kept path)) paths

-- one of the files has this store path
abbrev pub has_path : List NamedFile → List ℕ → Bool
has_path named path = list_any (bytes_eq path) (store_paths named)

-- the paths of the files below the folder of the store that the record does not name, ascending
unfoldable pub unnamed_paths : Files → List (List ℕ)
unnamed_paths files = filter (λ path. not (has_path (files_named files) path)) (paths_below files store_folder)

-- all of these were removed, and nothing else changed
abbrev pub RemovesUnnamed : Files → Files → Type 0
RemovesUnnamed old new = RemovesAll (unnamed_paths old) old new

-- the first ones of these were removed, and nothing else changed
abbrev pub RemovesFirstUnnamed : Files → Files → Type 0
RemovesFirstUnnamed old new = RemovesFirst (unnamed_paths old) old new

-- each file below the folder of the store is named by the record
pub record StoreIsNamed (files : Files) : Type 0 where
  pub named : (path : List ℕ) → is_below store_folder path ≡ true → has_path (files_named files) path ≡ false → file_at files path ≡ None
