-- What is removed from `out`.
use Rattle.std.specs.Prelude.{◌≡◌, ◌⊎◌, ℕ, true, List, ◌∷◌, length, None}
use Rattle.std.specs.FinMap as fin
use Rattle.apt_outside.specs.Files.{Files, file_at, is_below, paths_below}
use Rattle.output_store.specs.Output.{record_path, store_folder, output_of}

-- the paths of all files of the store, ascending
abbrev pub store_files : Files → List (List ℕ)
store_files files = paths_below files store_folder

-- how many there are
abbrev pub store_count : Files → ℕ
store_count files = length (store_files files)

-- the path of the record, and behind it those of all files of the store, ascending
abbrev pub paths_in_out : Files → List (List ℕ)
paths_in_out files = record_path ∷ store_files files

-- neither the record nor a file of the store stands
pub record HasNoOutput (files : Files) : Type 0 where
  pub record_gone : file_at files record_path ≡ None
  pub store_gone : (path : List ℕ) → is_below store_folder path ≡ true → file_at files path ≡ None

-- the published output is as it was, or empty
abbrev pub KeepsOrEmpties : Files → Files → Type 0
KeepsOrEmpties old new = (output_of new ≡ output_of old) ⊎ (output_of new ≡ fin.empty)
