-- How files in memory are seen: by the bytes of their paths.
use Rattle.std.specs.Prelude.{ℕ, List, map, String, string_bytes}
use Rattle.std.specs.Borrow.{Bor}
use Rattle.std.specs.BTreeMap.{BTreeMap}
use Rattle.std.specs.Coded.{Coded, coded_list, coded_ℕ}
use Rattle.std.specs.FinMap as fin
use Rattle.std.specs.declared.alloc.Global.{Global}
use Rattle.apt_outside.specs.Files.{Files}

abbrev pub files_code : Coded Files
files_code = fin.code (coded_list coded_ℕ) (coded_list coded_ℕ)

-- a path and the bytes of its file, which are borrowed
abbrev pub shown_lent : String Global × Bor (List ℕ) → List ℕ × List ℕ
shown_lent e = (string_bytes e.0, e.1.now)

-- the files of a map that borrows their bytes
abbrev pub files_lent : BTreeMap (String Global) (Bor (List ℕ)) → Files
files_lent m = fin.from_entries (map shown_lent m.entries)
