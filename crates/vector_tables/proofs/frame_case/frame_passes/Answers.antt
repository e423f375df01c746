use Rattle.std.proofs.Common.{◌≡◌, subst}
use Rattle.vector_tables.specs.Cases.{Tells}
use Rattle.vector_tables.specs.FrameCases.{AreJust}
use Rattle.vector_tables.proofs.FrameCasesLemmas.{verdict_answer}
use Rattle.vector_tables.proofs.frame_case.frame_passes.Goals as goal

pub returns-in-Ok-Some : goal.returns-in-Ok-Some
returns-in-Ok-Some c =
    let bytes = c.args.case.now.bytes.now in
    let expected = c.args.case.now.expected in
    verdict_answer bytes c.in-Ok-Some.verdict expected c.is_same.result (subst (AreJust bytes) c.in-Ok-Some.field-0-is c.in-Ok-Some.ensures)
    (subst (λ v. Tells c.is_same.result (v ≡ expected)) c.in-Ok-Some.verdict-is c.is_same.ensures)
