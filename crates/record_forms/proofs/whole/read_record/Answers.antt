use Rattle.std.proofs.Common.{arith}
use Rattle.record_forms.proofs.RecordLaws.{is_none, is_only, is_spelled}
use Rattle.record_forms.proofs.whole.read_record.Goals as goal

pub returns-in-Ok-clause-found : goal.returns-in-Ok-clause-found
returns-in-Ok-clause-found c = is_spelled c.args.bytes.now c.in-Ok.value (λ i. omega (arith, c.type_inv.bytes i)) c.in-Ok.ensures

pub returns-in-Ok-clause-only : goal.returns-in-Ok-clause-only
returns-in-Ok-clause-only c = is_only c.args.bytes.now c.in-Ok.value c.in-Ok.ensures

pub returns-in-Err-clause-bad : goal.returns-in-Err-clause-bad
returns-in-Err-clause-bad c = is_none c.args.bytes.now c.in-Err.fault c.in-Err.ensures
