use Rattle.std.proofs.Common.{arith}
use Rattle.vector_tables.proofs.FrameCasesLemmas.{more_bytes, not_whole}
use Rattle.vector_tables.proofs.verdict.frame_verdict.Goals as goal

pub returns-then-taken-bytes : goal.returns-then-taken-bytes
returns-then-taken-bytes c = more_bytes c.args.bytes.now c.args.frame c.args.taken c.requires.front c.if-taken-bytes.true

pub returns-in-Ok-false : goal.returns-in-Ok-false
returns-in-Ok-false c =
    not_whole c.args.bytes.now c.args.frame c.args.taken c.in-Ok-false.field-0 (λ i. omega (arith, c.type_inv.bytes i)) c.requires.front (omega (arith, c.if-taken-bytes.false)) c.in-Ok-false.field-0-test c.in-Ok-false.ensures
