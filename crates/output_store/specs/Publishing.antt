-- What is put into the store, and what is published.
use Rattle.std.specs.Prelude.{◌≡◌, ◌≢◌, ℕ, ◌<◌, ◌^◌, false, List, [], map, None, Some, Contains, All, AllPairs, IsSome, unwrap_or, option_map}
use Rattle.std.specs.FinMap as fin
use Rattle.apt_outside.specs.Files.{Files, file_at}
use Rattle.record_forms.specs.declared.record.Record.{Record}
use Rattle.output_store.specs.Output.{store_path, record_path, record_in, named_files, files_named, published_by, output_of}
use Rattle.output_store.specs.Reading.{has_path}

-- the bytes of store files, by their numbers
abbrev pub Numbered : Type 0
Numbered = List (ℕ × List ℕ)

-- where they stand
abbrev pub paths_of : Numbered → List (List ℕ)
paths_of files = map (λ file. store_path file.0) files

-- no two have one number
abbrev pub AreDistinct : Numbered → Type 0
AreDistinct files = AllPairs (λ a b. a.0 ≢ b.0) files

-- no file stands at their paths
abbrev pub AreAbsent : Files → Numbered → Type 0
AreAbsent tree files = All (λ path. file_at tree path ≡ None) (paths_of files)

-- the record of the tree, if it has one, names none of them
abbrev pub AreUnnamed : Files → Numbered → Type 0
AreUnnamed tree files = All (λ path. has_path (files_named tree) path ≡ false) (paths_of files)

-- the store files of all other numbers are free: the record names none of them
abbrev pub LeaveFree : Record → List ℕ → Type 0
LeaveFree value numbers = (n : ℕ) → n < 2 ^ 32 → ¬ Contains numbers n → has_path (named_files value) (store_path n) ≡ false

-- the store file of this number stands with these bytes
abbrev pub StandsUnder : ℕ → List ℕ → Files → Type 0
StandsUnder number bytes tree = file_at tree (store_path number) ≡ Some bytes

-- each stands with its bytes
abbrev pub AreWritten : Files → Numbered → Type 0
AreWritten tree files = All (λ file. file_at tree (store_path file.0) ≡ Some file.1) files

-- each file at none of the paths is as it was
pub record ChangesAmong (paths : List (List ℕ)) (old new : Files) : Type 0 where
  pub others : (q : List ℕ) → ¬ Contains paths q → file_at new q ≡ file_at old q

-- each file that stood is as it was
pub record KeepsFiles (old new : Files) : Type 0 where
  pub kept : (q : List ℕ) → IsSome (file_at old q) → file_at new q ≡ file_at old q

-- ---- the record

-- these bytes were put in the place of the record
abbrev pub PutsRecord : List ℕ → Files → Files → Type 0
PutsRecord bytes old new = new ≡ fin.insert old record_path bytes

-- the output that these bytes publish as a record, over the store files of a tree
abbrev pub output_by : List ℕ → Files → Files
output_by bytes tree = fin.from_entries (published_by tree (unwrap_or (option_map named_files (record_in bytes)) []))

-- the output is now that of these bytes, with the store files that stood
abbrev pub Publishes : List ℕ → Files → Files → Type 0
Publishes bytes old new = output_of new ≡ output_by bytes old
