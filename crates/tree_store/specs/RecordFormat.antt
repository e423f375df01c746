-- The record of a published output: `APTR`, the format 0 in two bytes, and a list of the files, ascending by path.
-- A list is its count in four bytes and its items. Numbers have their big end first.
use Rattle.std.specs.Prelude.{◌≡◌, ◌==◌, ℕ, ◌<◌, ◌^◌, zero, suc, Bool, true, ◌&&◌, List, [], ◌∷◌, ◌++◌, length, map, codes, bytes_eq, slice_index, Option, Some, None, if◌then◌else◌, All}
use Rattle.std.specs.List.{flat_map}
use Rattle.std.specs.Int.{w16, w32, to_be_bytes}
use Rattle.std.specs.Ordering.{nat_cmp}
use Rattle.std.specs.Cmp.Lexicographic.{slice_cmp}
use Rattle.std.specs.FinMap as fin
use Rattle.apt_base.specs.Fields.{◌>>=◌, text_form, front_next, u32_next, text_next, is_text}
use Rattle.tree_store.specs.declared.record.StoredFile.{StoredFile}

-- ---- spelling

unfoldable pub record_head : List ℕ
record_head = codes "APTR" ++ to_be_bytes w16 0

-- the path, the number of the store file, and the length of that file
abbrev pub entry_form : StoredFile → List ℕ
entry_form file = text_form file.path ++ to_be_bytes w32 file.store ++ to_be_bytes w32 file.length

unfoldable pub record_form : List StoredFile → List ℕ
record_form files = record_head ++ to_be_bytes w32 (length files) ++ flat_map entry_form files

-- what fits its fields: fewer than 2^32 files, each with a path of fewer than 2^32 bytes
pub record Fits (files : List StoredFile) : Type 0 where
  pub count : length files < 2 ^ 32
  pub paths : All (λ file. length file.path < 2 ^ 32) files

-- ---- reading

unfoldable pub entry_next : List ℕ → Option (StoredFile × List ℕ)
entry_next bytes = do
  path ← text_next bytes
  store ← u32_next path.1
  size ← u32_next store.1
  Some (record { path = path.0; store = store.0; length = size.0 }, size.1)

-- this many entries
unfoldable pub entries_next : ℕ → List ℕ → Option (List StoredFile × List ℕ)
entries_next zero bytes = Some ([], bytes)
entries_next (suc count) bytes = do
  first ← entry_next bytes
  others ← entries_next count first.1
  Some (first.0 ∷ others.0, others.1)

-- the paths ascend strictly by their bytes
abbrev pub ascends : List StoredFile → Bool
ascends files = fin.is_sorted (slice_cmp nat_cmp) (map (λ file. (file.path, file.store)) files)

-- the files of a record, where the bytes are the head and such a list, and nothing behind it
unfoldable pub read_record : List ℕ → Option (List StoredFile)
read_record bytes = do
  head ← front_next 6 bytes
  count ← u32_next head.1
  files ← entries_next count.0 count.1
  if bytes_eq head.0 record_head && (length files.1 == 0) && ascends files.0 then Some files.0 else None

-- no other bytes are read as these files
abbrev pub IsOnlySpelling : List StoredFile → List ℕ → Type 0
IsOnlySpelling files bytes = (other : List ℕ) → ((i : ℕ) → slice_index other i < 256) → read_record other ≡ Some files → other ≡ bytes

-- an entry that is read again: it fits its fields, and its path is a text in UTF-8
pub record IsEntry (file : StoredFile) : Type 0 where
  pub path : length file.path < 2 ^ 32
  pub text : is_text file.path ≡ true
  pub store : file.store < 2 ^ 32
  pub size : file.length < 2 ^ 32

-- files that are read again
pub record IsRecord (files : List StoredFile) : Type 0 where
  pub count : length files < 2 ^ 32
  pub entries : All IsEntry files
  pub ascending : ascends files ≡ true
