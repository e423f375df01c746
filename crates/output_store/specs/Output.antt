-- The published output of a tree: the files that its record names, with the bytes of their store files.
use Rattle.std.specs.Prelude.{◌≡◌, ◌==◌, ◌↔◌, ℕ, Bool, ◌&&◌, nat_le, false, List, [], ◌∷◌, ◌++◌, length, map, filter_map, codes, decimal, Option, None, Some, option_and_then, option_map, unwrap_or, if◌then◌else◌, Contains}
use Rattle.std.specs.List.{flat_map}
use Rattle.std.specs.FinMap as fin
use Rattle.apt_outside.specs.Files.{Files, file_at, is_below}
use Rattle.apt_base.specs.Fields.{◌>>=◌}
use Rattle.apt_filer.specs.Orders.{in_order}
use Rattle.record_forms.specs.Forms.{text_less}
use Rattle.record_forms.specs.RecordTable.{whole_record}
use Rattle.record_forms.specs.declared.record.Record.{Record}
use Rattle.record_forms.specs.declared.record.Entry.{Entry}
use Rattle.record_forms.specs.declared.record.StoredFile.{StoredFile}
use Rattle.origin_record.specs.Conditions.{most_bytes, meets, stores_in}
use Rattle.output_store.specs.declared.named.NamedFile.{NamedFile}

-- where the record stands
abbrev pub record_path : List ℕ
record_path = codes "out/record"

-- the folder of the store files
abbrev pub store_folder : List ℕ
store_folder = codes "out/store"

-- where the store file of a number stands
unfoldable pub store_path : ℕ → List ℕ
store_path n = codes "out/store/" ++ decimal n

-- ---- the record

-- the record of which the bytes are the spelling, where they are not too many and it meets the conditions of a record
unfoldable pub record_in : List ℕ → Option Record
record_in bytes = do
  value ← whole_record bytes
  if nat_le (length bytes) most_bytes && meets value then Some value else None

-- the record of a tree; none where there is no such file, and where its bytes are those of no record
abbrev pub record_of : Files → Option Record
record_of files = option_and_then record_in (file_at files record_path)

-- a stored file by its path, its number and its length
abbrev pub named_file : StoredFile → NamedFile
named_file file = record { path = file.path; store = file.store; length = file.length }

abbrev pub named_in : List Entry → List NamedFile
named_in entries = flat_map (λ entry. map named_file entry.files) entries

-- before another one, by their paths
abbrev pub named_less : NamedFile → NamedFile → Bool
named_less one other = text_less one.path other.path

-- the files that a record names: those of all its entries, in the order of their paths
unfoldable pub named_files : Record → List NamedFile
named_files value = in_order named_less (named_in value.entries)

-- the files that the record of a tree names; none where there is no record
unfoldable pub files_named : Files → List NamedFile
files_named files = unwrap_or (option_map named_files (record_of files)) []

-- the numbers of the store files that a record names
abbrev pub AreNumbersOf : Record → List ℕ → Type 0
AreNumbersOf value numbers = (n : ℕ) → Contains numbers n ↔ Contains (stores_in value.entries) n

-- ---- the output

-- the bytes of a store file, where it stands in the length that the record says
abbrev pub of_length : ℕ → List ℕ → Option (List ℕ)
of_length size bytes = if length bytes == size then Some bytes else None

abbrev pub bytes_of : Files → NamedFile → Option (List ℕ)
bytes_of files file = option_and_then (of_length file.length) (file_at files (store_path file.store))

-- with its path
abbrev pub published : Files → NamedFile → Option (List ℕ × List ℕ)
published files file = option_map (λ bytes. (file.path, bytes)) (bytes_of files file)

-- the files that these publish over a tree, in order
abbrev pub published_by : Files → List NamedFile → List (List ℕ × List ℕ)
published_by files named = filter_map (published files) named

-- the published output
unfoldable pub output_of : Files → Files
output_of files = fin.from_entries (published_by files (files_named files))

-- ---- changes

-- each file that is not below the folder is as it was
pub record ChangesBelow (folder : List ℕ) (old new : Files) : Type 0 where
  pub others : (q : List ℕ) → is_below folder q ≡ false → file_at new q ≡ file_at old q

-- each file that is not below `out` is as it was
abbrev pub SameOutside : Files → Files → Type 0
SameOutside old new = ChangesBelow (codes "out") old new

-- the files without those at these paths
unfoldable pub without : Files → List (List ℕ) → Files
without files [] = files
without files (path ∷ paths) = without (fin.remove files path) paths

-- the files at these paths were removed, and nothing else changed
abbrev pub RemovesAll : List (List ℕ) → Files → Files → Type 0
RemovesAll paths old new = new ≡ without old paths

-- the first ones of the files at these paths were removed, and nothing else changed
pub record RemovesFirst (paths : List (List ℕ)) (old new : Files) : Type 0 where
  pub first : List (List ℕ)
  pub rest : List (List ℕ)
  pub all : first ++ rest ≡ paths
  pub removed : new ≡ without old first
