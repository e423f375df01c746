-- What is put into the store, and what is published.
use Rattle.std.specs.Prelude.{◌≡◌, ◌≢◌, ◌↔◌, ℕ, ◌<◌, ◌≤◌, ◌^◌, List, length, map, codes, slice_index, Option, None, Some, MatchOption, Contains, All, AllPairs, IsSome}
use Rattle.std.specs.List.{AllZip}
use Rattle.std.specs.FinMap as fin
use Rattle.apt_outside.specs.Files.{Files, file_at}
use Rattle.tree_store.specs.declared.record.StoredFile.{StoredFile}
use Rattle.tree_store.specs.RecordFormat.{read_record}
use Rattle.tree_store.specs.Output.{store_path, record_path, output_of, StoresStand, ChangesBelow}

-- ---- numbers

-- digits without a sign, which is 43, and without a zero, which is 48, before others
abbrev pub IsPlain : List ℕ → Type 0
IsPlain digits = (slice_index digits 0 ≢ 43) × (slice_index digits 0 ≡ 48 → length digits ≤ 1)

-- the number below 2^32 that is spelled so; none where there is none
abbrev pub FindsNumber : (ℕ → List ℕ) → List ℕ → Option ℕ → Type 0
FindsNumber spelled text found = MatchOption found ((n : ℕ) → n < 2 ^ 32 → spelled n ≢ text) (λ n. spelled n ≡ text)

-- the numbers below 2^32 at whose store paths files stand
abbrev pub AreTaken : Files → List ℕ → Type 0
AreTaken tree numbers = (n : ℕ) → n < 2 ^ 32 → (Contains numbers n ↔ IsSome (file_at tree (store_path n)))

-- the bytes of store files, by their numbers
abbrev pub Numbered : Type 0
Numbered = List (ℕ × List ℕ)

-- where they stand
abbrev pub paths_of : Numbered → List (List ℕ)
paths_of files = map (λ file. store_path file.0) files

-- ---- files of the store

-- no two have one number
abbrev pub AreDistinct : Numbered → Type 0
AreDistinct files = AllPairs (λ a b. a.0 ≢ b.0) files

-- no file stands at their paths
abbrev pub AreAbsent : Files → Numbered → Type 0
AreAbsent tree files = All (λ path. file_at tree path ≡ None) (paths_of files)

-- the store file of this number stands with these bytes
abbrev pub StandsUnder : ℕ → List ℕ → Files → Type 0
StandsUnder number bytes tree = file_at tree (store_path number) ≡ Some bytes

-- each stands with its bytes
abbrev pub AreWritten : Files → Numbered → Type 0
AreWritten tree files = All (λ file. file_at tree (store_path file.0) ≡ Some file.1) files

-- each file at none of the paths is as it was
pub record ChangesAmong (paths : List (List ℕ)) (old new : Files) : Type 0 where
  pub others : (q : List ℕ) → ¬ Contains paths q → file_at new q ≡ file_at old q

-- the store gained files, and nothing else changed: each file that stood is as it was, and, where each store file that
-- the record names stood, so is the published output
pub record AddsToStore (old new : Files) : Type 0 where
  pub kept : (q : List ℕ) → IsSome (file_at old q) → file_at new q ≡ file_at old q
  pub inside : ChangesBelow (codes "out/store") old new
  pub output : StoresStand old → output_of new ≡ output_of old
  pub stand : StoresStand old → StoresStand new

-- ---- the record

-- these bytes were put in the place of the record
abbrev pub PutsRecord : List ℕ → Files → Files → Type 0
PutsRecord bytes old new = new ≡ fin.insert old record_path bytes

-- the entry has the path and the length of the file, and its store file stands with the file's bytes
pub record IsEntryOf (tree : Files) (entry : StoredFile) (file : List ℕ × List ℕ) : Type 0 where
  pub path : entry.path ≡ file.0
  pub size : entry.length ≡ length file.1
  pub bytes : file_at tree (store_path entry.store) ≡ Some file.1

-- the entries are those of the files, in order
abbrev pub Holds : Files → List StoredFile → Files → Type 0
Holds tree entries files = AllZip (IsEntryOf tree) entries (fin.entries files)

-- where the bytes are read as entries that hold these files, these files are the published output, and each store file stands
abbrev pub Outputs : List ℕ → Files → Files → Type 0
Outputs bytes old new =
    (entries : List StoredFile) (files : Files) → read_record bytes ≡ Some entries → Holds old entries files → (output_of new ≡ files) × StoresStand new
