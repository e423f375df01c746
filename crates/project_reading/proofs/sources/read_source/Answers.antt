use Rattle.std.proofs.Common.{Result, Ok, Err, List, ℕ, ◌≡◌, ◌∙◌, ap, subst, rules}
use Rattle.decl_parser.specs.declared.parsing.FileFault.{FileFault}
use Rattle.decl_parser.specs.declared.parsing.Parsed.{Parsed}
use Rattle.file_readings.specs.FileReadings.{reading_of, Parses}
use Rattle.project_reading.specs.Verdicts.{verdict}
use Rattle.project_reading.specs.Entering.{of_unread}
use Rattle.project_reading.proofs.SourcesOfAProject.{read-as, refused-as}
use Rattle.project_reading.proofs.sources.read_source.Goals as goal

pub returns-in-Ok-clause-read : goal.returns-in-Ok-clause-read
returns-in-Ok-clause-read c =
    let source = c.args.source.now in
    let result : Result Parsed FileFault = Ok c.in-Ok.declared in
    let copied : c.in_ok-path.path ≡ source.path = c.in_ok-path.ensures in
    let here : Parses (reading_of c.as_str.result.now c.as_slice.result.now) result = c.in-Ok.ensures.reading in
    let at_path : Parses (reading_of source.path c.as_slice.result.now) result = subst (λ (path : List ℕ). Parses (reading_of path c.as_slice.result.now) result) (c.as_str.ensures ∙ copied) here in
    read-as c.args.part source c.in-Ok.declared _ (subst (λ (bytes : List ℕ). Parses (reading_of source.path bytes) result) c.as_slice.ensures at_path)
    (ap (λ (path : List ℕ). record { path = path; declared = c.in-Ok.declared }) copied)

pub returns-in-Err-clause-read : goal.returns-in-Err-clause-read
returns-in-Err-clause-read c =
    let source = c.args.source.now in
    let result : Result Parsed FileFault = Err c.in-Err.fault in
    let copied : c.in_ok-path.path ≡ source.path = c.in_ok-path.ensures in
    let here : Parses (reading_of c.as_str.result.now c.as_slice.result.now) result = c.in-Err.ensures.reading in
    let at_path : Parses (reading_of source.path c.as_slice.result.now) result = subst (λ (path : List ℕ). Parses (reading_of path c.as_slice.result.now) result) (c.as_str.ensures ∙ copied) here in
    refused-as c.args.part source c.in-Err.fault (verdict c.unread.result) (subst (λ (bytes : List ℕ). Parses (reading_of source.path bytes) result) c.as_slice.ensures at_path)
    (c.unread.ensures.is ∙ ap (λ (path : List ℕ). of_unread c.args.part path c.in-Err.fault) copied)
