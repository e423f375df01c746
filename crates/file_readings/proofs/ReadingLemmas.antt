-- From what a call answers to what the file reads as.
use Rattle.std.proofs.Common.{◌≡◌, ℕ, List, Result, Ok, Err, inl, inr, ap}
use Rattle.decl_parser.specs.declared.parsing.Parsed.{Parsed}
use Rattle.decl_parser.specs.declared.parsing.FileFault.{FileFault}
use Rattle.decl_parser.specs.declared.parsing.FileFault.TheVariants as faults
use Rattle.decl_limits.specs.Units.{Declared}
use Rattle.decl_parser.specs.Parsed.{SameAnswer, AnswersFile}
use Rattle.file_answers.specs.Flaws.{Bad, TooLarge, Reading, parsed_of, ReadsAs}
use Rattle.file_readings.specs.FileReadings.{reading_of, Parses}
use Rattle.file_answers.proofs.EachFile.{each-file, one-file}

-- what `parse` returns where a file reads so
abbrev as_result : Reading → Result Parsed FileFault
as_result (Ok declared) = Ok (parsed_of declared)
as_result (Err (Bad place)) = Err (faults.Bad place)
as_result (Err (TooLarge what)) = Err (faults.TooLarge what)

answers_so : (path bytes : List ℕ) (reading : Reading) → ReadsAs path bytes reading → AnswersFile path bytes (as_result reading)
answers_so path bytes (Ok declared) is = is
answers_so path bytes (Err (Bad place)) is = is
answers_so path bytes (Err (TooLarge what)) is = is

-- two results that are the same, of which the first is a reading
same_reading : (reading : Reading) (result : Result Parsed FileFault) → SameAnswer (as_result reading) result → Parses reading result
same_reading reading (Err faults.Memory) same = tt
same_reading (Ok declared) (Ok parsed) (inl same) = ap read_back same
  where
    read_back : Result Declared FileFault → Reading
    read_back (Ok read) = Ok read
    read_back (Err fault) = Ok declared
same_reading (Ok declared) (Err (faults.Bad place)) (inl same) = absurd (let e : Ok declared ≡ Err (faults.Bad place) = same in cc)
same_reading (Ok declared) (Err (faults.TooLarge what)) (inl same) = absurd (let e : Ok declared ≡ Err (faults.TooLarge what) = same in cc)
same_reading (Err (Bad place)) (Ok parsed) (inl same) = absurd (let e : Err (faults.Bad place) ≡ Ok (parsed.units, parsed.lines) = same in cc)
same_reading (Err (Bad place)) (Err (faults.Bad other)) (inl same) = (let e : Err (faults.Bad place) ≡ Err (faults.Bad other) = same in cc)
same_reading (Err (Bad place)) (Err (faults.TooLarge what)) (inl same) = absurd (let e : Err (faults.Bad place) ≡ Err (faults.TooLarge what) = same in cc)
same_reading (Err (TooLarge what)) (Ok parsed) (inl same) = absurd (let e : Err (faults.TooLarge what) ≡ Ok (parsed.units, parsed.lines) = same in cc)
same_reading (Err (TooLarge what)) (Err (faults.Bad place)) (inl same) = absurd (let e : Err (faults.TooLarge what) ≡ Err (faults.Bad place) = same in cc)
same_reading (Err (TooLarge what)) (Err (faults.TooLarge other)) (inl same) = (let e : Err (faults.TooLarge what) ≡ Err (faults.TooLarge other) = same in cc)
same_reading (Ok declared) result (inr (inl memory)) = absurd (let e : Ok (parsed_of declared) ≡ Err faults.Memory = memory in cc)
same_reading (Err (Bad place)) result (inr (inl memory)) = absurd (let e : Err (faults.Bad place) ≡ Err faults.Memory = memory in cc)
same_reading (Err (TooLarge what)) result (inr (inl memory)) = absurd (let e : Err (faults.TooLarge what) ≡ Err faults.Memory = memory in cc)
same_reading reading (Ok parsed) (inr (inr memory)) = absurd (let e : Ok parsed ≡ Err faults.Memory = memory in cc)
same_reading reading (Err (faults.Bad place)) (inr (inr memory)) = absurd (let e : Err (faults.Bad place) ≡ Err faults.Memory = memory in cc)
same_reading reading (Err (faults.TooLarge what)) (inr (inr memory)) = absurd (let e : Err (faults.TooLarge what) ≡ Err faults.Memory = memory in cc)

-- what a call answers is what the file reads as
pub parses-from : (path bytes : List ℕ) (result : Result Parsed FileFault) → AnswersFile path bytes result → Parses (reading_of path bytes) result
unfolding reading_of
parses-from path bytes result answers =
    let each = each-file path bytes in
    same_reading each.0 result (one-file path bytes (as_result each.0) result (answers_so path bytes each.0 each.1) answers)

-- each file reads as its reading
pub reads : (path bytes : List ℕ) → ReadsAs path bytes (reading_of path bytes)
unfolding reading_of
reads path bytes = (each-file path bytes).1

-- and as nothing else
parses_same : (read reading : Reading) → Parses read (as_result reading) → read ≡ reading
parses_same read (Ok declared) is = is
parses_same read (Err (Bad place)) is = is
parses_same read (Err (TooLarge what)) is = is

pub reads-once : (path bytes : List ℕ) (reading : Reading) → ReadsAs path bytes reading → reading_of path bytes ≡ reading
reads-once path bytes reading is = parses_same (reading_of path bytes) reading (parses-from path bytes (as_result reading) (answers_so path bytes reading is))
