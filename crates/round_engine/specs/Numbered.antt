-- Files that a run made, under their numbers.
use Rattle.std.specs.Prelude.{◌≡◌, ℕ, ◌<◌, ◌^◌, true, List, length, All}
use Rattle.apt_base.specs.Fields.{is_text}
use Rattle.round_engine.specs.declared.numbering.Made.{Made}

-- a file by its path, with its bytes
abbrev pub shown_made : Made → List ℕ × List ℕ
shown_made file = (file.path, file.bytes)

abbrev pub number_of : Made → ℕ
number_of file = file.store

-- a file that is to be written
abbrev pub made_with : List ℕ → ℕ → List ℕ → Made
made_with path store bytes = record { path = path; store = store; written = true; bytes = bytes }

-- its path is a text
abbrev pub HasText : Made → Type 0
HasText file = is_text file.path ≡ true

-- it is to be written
abbrev pub IsWritten : Made → Type 0
IsWritten file = file.written ≡ true

-- the lengths of these fit 32 bits
abbrev pub BothFit : List ℕ → List ℕ → Type 0
BothFit path bytes = (length path < 2 ^ 32) × (length bytes < 2 ^ 32)

-- so do a file's number and the lengths of its path and of what it holds
abbrev pub Fits : Made → Type 0
Fits file = (file.store < 2 ^ 32) × (length file.path < 2 ^ 32) × (length file.bytes < 2 ^ 32)

-- so do those of all files, and how many there are
abbrev pub AllFit : List Made → Type 0
AllFit files = (length files < 2 ^ 32) × All Fits files
