-- A copy of the published output in a folder.
use Rattle.std.specs.Prelude.{◌≡◌, ℕ, false, List, [], ◌∷◌, ◌++◌, length, map, codes, Option, Some, None}
use Rattle.std.specs.FinMap as fin
use Rattle.apt_outside.specs.Files.{Files, is_below}
use Rattle.output_store.specs.Output.{bytes_of, published_by, output_of}
use Rattle.output_store.specs.declared.named.NamedFile.{NamedFile}

-- the folder is neither `out` nor below it
abbrev pub IsApart : List ℕ → Type 0
IsApart folder = is_below (codes "out") (folder ++ codes "/") ≡ false

-- where the file of a path stands in a folder
abbrev pub path_under : List ℕ → List ℕ → List ℕ
path_under folder path = folder ++ (codes "/" ++ path)

-- with the file put in the folder, if its store file has its length
abbrev pub with_bytes : List ℕ → Files → List ℕ → Option (List ℕ) → Files
with_bytes folder files path None = files
with_bytes folder files path (Some bytes) = fin.insert files (path_under folder path) bytes

abbrev pub with_one : List ℕ → Files → NamedFile → Files
with_one folder files file = with_bytes folder files file.path (bytes_of files file)

-- files, each a path and its bytes, by their places in a folder
abbrev pub exported : List ℕ → List (List ℕ × List ℕ) → List (List ℕ × List ℕ)
exported folder files = map (λ file. (path_under folder file.0, file.1)) files

-- the files with these in the places of what is there
unfoldable pub with_files : Files → List (List ℕ × List ℕ) → Files
with_files files [] = files
with_files files (file ∷ others) = with_files (fin.insert files file.0 file.1) others

-- the files of the published output, in the order of their paths
abbrev pub published_of : Files → List (List ℕ × List ℕ)
published_of files = fin.entries (output_of files)

-- how many there are
abbrev pub published_count : Files → ℕ
published_count files = length (published_of files)

-- these files were put in the folder, and nothing else changed
abbrev pub Exports : List ℕ → List (List ℕ × List ℕ) → Files → Files → Type 0
Exports folder files old new = new ≡ with_files old (exported folder files)

-- those of the files whose store files have their lengths were put, and nothing else changed
abbrev pub ExportsWhole : List ℕ → List NamedFile → Files → Files → Type 0
ExportsWhole folder named old new = Exports folder (published_by old named) old new

-- the first ones of these files were put, and nothing else changed
pub record ExportsFirst (folder : List ℕ) (files : List (List ℕ × List ℕ)) (old new : Files) : Type 0 where
  pub first : List (List ℕ × List ℕ)
  pub rest : List (List ℕ × List ℕ)
  pub all : first ++ rest ≡ files
  pub put : Exports folder first old new
