-- The published output of a tree: the files that its record names, with the bytes of their store files.
use Rattle.std.specs.Prelude.{◌≡◌, ◌==◌, ℕ, false, List, [], ◌++◌, length, map, filter_map, codes, decimal, Option, None, Some, option_and_then, unwrap_or, if◌then◌else◌, All, IsSome}
use Rattle.std.specs.FinMap as fin
use Rattle.apt_outside.specs.Files.{Files, file_at, is_below}
use Rattle.tree_store.specs.declared.record.StoredFile.{StoredFile}
use Rattle.tree_store.specs.RecordFormat.{read_record}

-- where the store file of a number stands
unfoldable pub store_path : ℕ → List ℕ
store_path n = codes "out/store/" ++ decimal n

-- where the record stands
abbrev pub record_path : List ℕ
record_path = codes "out/record"

-- the entries of the record; none where there is no record or no reading of it
unfoldable pub entries_of : Files → List StoredFile
entries_of files = unwrap_or (option_and_then read_record (file_at files record_path)) []

-- an entry's file, where its store file stands in the length that the record says
abbrev pub stored : Files → StoredFile → Option (List ℕ × List ℕ)
stored files entry = option_and_then (λ bytes. if length bytes == entry.length then Some (entry.path, bytes) else None) (file_at files (store_path entry.store))

-- the published output
unfoldable pub output_of : Files → Files
output_of files = fin.from_entries (filter_map (stored files) (entries_of files))

-- the paths of the store files that the record names
abbrev pub named_paths : Files → List (List ℕ)
named_paths files = map (λ entry. store_path entry.store) (entries_of files)

-- each store file that the record names is there, whatever its length
abbrev pub StoresStand : Files → Type 0
StoresStand files = All (λ path. IsSome (file_at files path)) (named_paths files)

-- each file that is not below the folder is as it was
pub record ChangesBelow (folder : List ℕ) (old new : Files) : Type 0 where
  pub others : (q : List ℕ) → is_below folder q ≡ false → file_at new q ≡ file_at old q

-- each file that is not below `out` is as it was
abbrev pub SameOutside : Files → Files → Type 0
SameOutside old new = ChangesBelow (codes "out") old new
