-- What a build writes: the mode line, the messages, the closing lines, the files and the end line.
use Rattle.std.specs.Prelude.{ℕ, ◌==◌, List, [], ◌∷◌, ◌++◌, length, map, codes, decimal, slice_index_or, if◌then◌else◌, Option, None, Some}
use Rattle.std.specs.List.{flat_map}
use Rattle.std.specs.FinMap as fin
use Rattle.wire_frames.specs.declared.frame.Message.{Message}
use Rattle.unit_locations.specs.LocatedTable.{Location}
use Rattle.apt_host.specs.CleanBuild as outcome
use Rattle.apt_host.specs.CleanBuild.{Summary, Reported, Outcome}

-- every build is clean so far, as if it had been asked to be
abbrev pub mode_line : ℕ → List ℕ
mode_line started = codes "mode: clean (Full), started " ++ (decimal started ++ codes "\n")

-- ---- messages

abbrev pub kind_text : ℕ → List ℕ
kind_text kind =
    if kind == 0 then codes "error" else (if kind == 1 then codes "warning" else (if kind == 2 then codes "mandatory_warning" else (if kind == 3 then codes "note" else codes "other")))

-- a backslash (92), a line feed (10) and a carriage return (13) are printed as two characters
abbrev pub escaped_byte : ℕ → List ℕ
escaped_byte b = if b == 92 then 92 ∷ 92 ∷ [] else (if b == 10 then 92 ∷ 110 ∷ [] else (if b == 13 then 92 ∷ 114 ∷ [] else b ∷ []))

abbrev pub escaped : List ℕ → List ℕ
escaped text = flat_map escaped_byte text

-- PATH:LINE and a colon with a blank, or nothing. The path is printed as it is, as in the lines of files and of refusals.
abbrev pub location_text : Option Location → List ℕ
location_text None = []
location_text (Some at) = at.path ++ (codes ":" ++ (decimal at.line ++ codes ": "))

-- a message of the processor with this name at an element that is declared here
abbrev pub message_text : List ℕ → Option Location → Message → List ℕ
message_text processor at message =
    kind_text message.kind ++ (codes ": " ++ (location_text at ++ (codes "[" ++ (processor ++ (codes "] " ++ (escaped message.text ++ codes "\n"))))))

-- its processor is named by its number
abbrev pub message_line : List (List ℕ) → Reported → List ℕ
message_line processors reported = message_text (slice_index_or processors reported.processor []) reported.at reported.message

abbrev pub message_lines : List (List ℕ) → List Reported → List ℕ
message_lines processors messages = flat_map (message_line processors) messages

-- ---- closing lines, files and the end

unfoldable pub unread_line : List ℕ → List ℕ
unread_line name = codes "warning: [host] type " ++ (name ++ codes " was created in the last round and is not processed\n")

-- a file by its path, with its length in bytes
abbrev pub file_line : List ℕ × ℕ → List ℕ
file_line file = codes "file " ++ (file.0 ++ (codes " " ++ (decimal file.1 ++ codes "\n")))

abbrev pub file_lines : List (List ℕ × ℕ) → List ℕ
file_lines files = flat_map file_line files

abbrev pub counts : Summary → List ℕ
counts summary = decimal summary.errors ++ (codes " errors, " ++ (decimal summary.warnings ++ codes " warnings\n"))

abbrev pub done_line : Summary → ℕ → List ℕ
done_line summary files = codes "done: " ++ (decimal summary.rounds ++ (codes " rounds, " ++ (decimal files ++ (codes " files, " ++ counts summary))))

abbrev pub errors_line : Summary → List ℕ
errors_line summary = codes "errors: " ++ (decimal summary.rounds ++ (codes " rounds, " ++ counts summary))

-- what stands in each report after the first line, before the files
abbrev pub told_lines : Summary → List ℕ
told_lines summary = message_lines summary.processors summary.messages ++ flat_map unread_line summary.unread

-- what stands in each report before the files
abbrev pub first_lines : Summary → List ℕ
first_lines summary = mode_line summary.started ++ told_lines summary

-- the report of a build that is published, for the paths and lengths of its files, ascending by path
abbrev pub report_of : Summary → List (List ℕ × ℕ) → List ℕ
report_of summary files = mode_line summary.started ++ (told_lines summary ++ (file_lines files ++ done_line summary (length files)))

-- the report of a build in which an ERROR was printed
abbrev pub errors_report : Summary → List ℕ
errors_report summary = mode_line summary.started ++ (told_lines summary ++ errors_line summary)

-- what a build writes, if nothing fails; a build that is refused has no report
abbrev pub report_text : Outcome → List ℕ
report_text (outcome.Built files summary) = report_of summary (map (λ file. (file.0, length file.1)) (fin.entries files))
report_text (outcome.Errors summary) = errors_report summary
report_text (outcome.Refused refusal) = []
