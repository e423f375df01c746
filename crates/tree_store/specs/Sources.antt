-- The sources and the stubs of a project: the `.java` files below `src` and those below `stubs`, with the limits on how many there are of each, on the bytes of one and on those of all in one folder.
use Rattle.std.specs.Prelude.{◌≡◌, ℕ, ◌-◌, ◌≤◌, nat_lt, nat_eq, Bool, List, [], ◌∷◌, length, map, codes, filter, filter_map, Option, None, Some, option_map, Result, Ok, Err, String, Vec, string_bytes, if◌then◌else◌}
use Rattle.std.specs.List.{ends_with, AllByRecursion}
use Rattle.std.specs.Ordering.{nat_cmp}
use Rattle.std.specs.Cmp.Lexicographic.{slice_cmp}
use Rattle.std.specs.declared.cmp.Ordering.TheVariants.{Less}
use Rattle.std.specs.declared.alloc.Global.{Global}
use Rattle.apt_base.specs.declared.kinds.What.{What}
use Rattle.apt_base.specs.declared.kinds.What.TheVariants as what
use Rattle.apt_base.specs.Limits.{max_file_bytes}
use Rattle.apt_outside.specs.Files.{Files, file_at, paths_below}
use Rattle.tree_store.specs.declared.fault.SourceReadFault.{SourceReadFault}
use Rattle.tree_store.specs.declared.fault.SourceReadFault.TheVariants.{Failed, TooLarge, Memory}
use Rattle.tree_store.specs.declared.sources.Folder.{Folder}
use Rattle.tree_store.specs.declared.sources.Folder.TheVariants.{Sources, Stubs}
use Rattle.tree_store.specs.declared.sources.RawSource.{RawSource}
use Rattle.tree_store.specs.declared.sources.RawSources.{RawSources}

-- the most files in one folder
abbrev pub most_files : ℕ
most_files = 20000

-- ---- the folders

-- where a folder stands
abbrev pub folder_path : Folder → List ℕ
folder_path Sources = codes "src"
folder_path Stubs = codes "stubs"

-- the most bytes of all its files together, and the limit that more of them pass
abbrev pub most_in_all : Folder → ℕ
most_in_all Sources = 67108864
most_in_all Stubs = 16777216

abbrev pub limit_in_all : Folder → What
limit_in_all Sources = what.SourceBytes
limit_in_all Stubs = what.StubBytes

-- ---- the files

-- the path ends in `.java`
abbrev pub is_java : List ℕ → Bool
is_java path = ends_with nat_eq path (codes ".java")

abbrev pub is_java_text : String Global → Bool
is_java_text path = is_java (string_bytes path)

abbrev pub source_of : List ℕ → List ℕ → RawSource
source_of path bytes = record { path = path; bytes = bytes }

-- the file at this path, where it is a Java file
abbrev pub source_at : Files → List ℕ → Option RawSource
source_at files path = if is_java path then option_map (source_of path) (file_at files path) else None

-- those at these paths
abbrev pub sources_at : Files → List (List ℕ) → List RawSource
sources_at files paths = filter_map (source_at files) paths

-- the same paths as texts
abbrev pub files_at : Files → List (String Global) → List RawSource
files_at files paths = sources_at files (map string_bytes paths)

-- what was found at a path, by its bytes
abbrev pub found_at : List ℕ → Option (Vec ℕ Global) → Option RawSource
found_at path found = option_map (source_of path) (option_map (λ (bytes : Vec ℕ Global). bytes.items) found)

-- the paths of the Java files below a folder, ascending
abbrev pub java_paths : Folder → Files → List (List ℕ)
java_paths folder files = filter is_java (paths_below files (folder_path folder))

-- these files
abbrev pub java_files : Folder → Files → List RawSource
java_files folder files = sources_at files (paths_below files (folder_path folder))

-- ---- the limits

-- The first limit that files of a folder pass, where all of them may have this many bytes together: one by its own bytes, or all up to it by theirs.
abbrev pub passed : Folder → ℕ → List RawSource → Option What
passed folder left [] = None
passed folder left (source ∷ sources) =
    if nat_lt max_file_bytes (length source.bytes) then Some what.FileBytes
    else if nat_lt left (length source.bytes) then Some (limit_in_all folder)
    else passed folder (left - length source.bytes) sources

abbrev pub unless_passed : Option What → List RawSource → Result (List RawSource) What
unless_passed None sources = Ok sources
unless_passed (Some limit) sources = Err limit

abbrev pub limited : Folder → List RawSource → Result (List RawSource) What
limited folder sources = unless_passed (passed folder (most_in_all folder) sources) sources

-- The Java files of a folder, or the first limit that they pass. How many there are is known before the first is read.
unfoldable pub files_in : Folder → Files → Result (List RawSource) What
files_in folder files = if nat_lt most_files (length (java_paths folder files)) then Err what.Files else limited folder (java_files folder files)

-- the sources and the stubs, or the first limit that they pass, the sources before the stubs
abbrev pub both : Result (List RawSource) What → Result (List RawSource) What → Result RawSources What
both (Err limit) stubs = Err limit
both (Ok sources) (Err limit) = Err limit
both (Ok sources) (Ok stubs) = Ok (record { sources = sources; stubs = stubs })

abbrev pub sources_of : Files → Result RawSources What
sources_of files = both (files_in Sources files) (files_in Stubs files)

-- ---- what reading gives

-- a call gave this, or the tree failed in it, or memory was wanted
abbrev pub Gives : {A : Type 0} → Result A What → Result A SourceReadFault → Type 0
Gives due (Ok given) = due ≡ Ok given
Gives due (Err (TooLarge limit)) = due ≡ Err limit
Gives due (Err Failed) = Unit {0}
Gives due (Err Memory) = Unit {0}

-- whatever the tree tells, none of these has more bytes than one file may have
abbrev pub AreShort : List RawSource → Type 0
AreShort sources = AllByRecursion (λ (source : RawSource). length source.bytes ≤ max_file_bytes) sources

-- nor has any of both
pub record AreAllShort (raw : RawSources) : Type 0 where
  pub sources : AreShort raw.sources
  pub stubs : AreShort raw.stubs

-- of one path, where this many bytes are left for its folder, a call gave the file, or nothing where there is none, or the limit that it passes
abbrev pub GivesOne : Folder → ℕ → Option RawSource → Result (Option RawSource) SourceReadFault → Type 0
GivesOne folder left found (Ok source) = found ≡ source
GivesOne folder left found (Err (TooLarge limit)) = (source : RawSource) × (found ≡ Some source) × (passed folder left (source ∷ []) ≡ Some limit)
GivesOne folder left found (Err Failed) = Unit {0}
GivesOne folder left found (Err Memory) = Unit {0}

-- and what it gave passes none
abbrev pub IsWithin : ℕ → Option RawSource → Type 0
IsWithin left None = Unit {0}
IsWithin left (Some source) = (length source.bytes ≤ max_file_bytes) × (length source.bytes ≤ left)

-- ---- the order of the files

-- the first path is the lesser one, by its bytes
abbrev pub IsBefore : List ℕ → List ℕ → Type 0
IsBefore path other = slice_cmp nat_cmp path other ≡ Less

-- each of these has a lesser path than all behind it
abbrev pub Ascend : List RawSource → Type 0
Ascend [] = Unit {0}
Ascend (source ∷ sources) = AllByRecursion (λ (later : RawSource). IsBefore source.path later.path) sources × Ascend sources

-- the sources of a project ascend, and so do its stubs
abbrev pub FilesAscend : Type 0
FilesAscend = (files : Files) (raw : RawSources) → sources_of files ≡ Ok raw → Ascend raw.sources × Ascend raw.stubs
