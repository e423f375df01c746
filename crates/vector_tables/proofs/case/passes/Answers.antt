use Rattle.std.proofs.Common.{◌≡◌, ◌∙◌, inr, string_bytes, subst, sym}
use Rattle.std.specs.Prelude.{MatchBool}
use Rattle.java_tokens.specs.Characters.{IsCharFault}
use Rattle.java_tokens.specs.CharsShown.{FaultAt}
use Rattle.java_tokens.specs.TokensShown.{codes_in, offsets_in}
use Rattle.vector_tables.specs.Cases.{no_characters, shown_expected, GivenBy, IsPassed}
use Rattle.vector_tables.proofs.CasesLemmas.{same_answer, same_result, gives_by, given_by, fault_given, bad_memory}
use Rattle.vector_tables.proofs.case.passes.Goals as goal

pub returns-in-Ok : goal.returns-in-Ok
returns-in-Ok c =
    let file = c.args.case.now.file.now in
    let chars = c.in-Ok.chars in
    let wanted = shown_expected c.args.case.now.expected in
    same_result (GivenBy (codes_in chars) (offsets_in chars) wanted) (IsPassed c.args.case.now) c.gives.result
    (λ given. (c.if-case-gt-MAX_FILE_BYTES.false, gives_by file (string_bytes chars.text) chars.shifts.items wanted c.in-Ok.ensures.chars given))
    (λ passed. given_by file (string_bytes chars.text) chars.shifts.items wanted c.in-Ok.ensures.list c.in-Ok.ensures.place passed.1)
    c.gives.ensures

pub returns-in-Err-Bad : goal.returns-in-Err-Bad
returns-in-Err-Bad c =
    let file = c.args.case.now.file.now in
    let wanted = shown_expected c.args.case.now.expected in
    let place = c.in-Err-Bad.place in
    same_answer (wanted ≡ no_characters place) (IsPassed c.args.case.now) c.is_fault.result
    (λ is. (c.if-case-gt-MAX_FILE_BYTES.false, inr (place, subst (FaultAt (IsCharFault file)) c.in-Err-Bad.field-0-is c.in-Err-Bad.ensures.chars, is)))
    (λ passed. fault_given file wanted place (λ all are. bad_memory _ (sym c.in-Err-Bad.field-0-is ∙ c.in-Err-Bad.ensures.list all are)) (λ other fault. subst (FaultAt (λ at. at ≡ other)) c.in-Err-Bad.field-0-is (c.in-Err-Bad.ensures.place other fault)) passed.1)
    (subst (λ at. MatchBool c.is_fault.result (wanted ≡ no_characters at) (¬ (wanted ≡ no_characters at))) c.in-Err-Bad.place-is c.is_fault.ensures)
