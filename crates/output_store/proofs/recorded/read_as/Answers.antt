use Rattle.std.proofs.Common.{Err, sym, ap, arith}
use Rattle.output_store.specs.Reading.{read_as}
use Rattle.output_store.proofs.RecordReading.{record_in-reading, record_in-none, readable_by}
use Rattle.output_store.proofs.recorded.read_as.Goals as goal

pub returns-in-Ok-clause-file : goal.returns-in-Ok-clause-file
returns-in-Ok-clause-file c = ap read_as (sym (record_in-reading c.args.bytes.now c.in-Ok.record c.in-Ok.ensures.found))

pub returns-in-Ok-clause-readable : goal.returns-in-Ok-clause-readable
returns-in-Ok-clause-readable c = readable_by c.args.bytes.now c.in-Ok.record c.in-Ok.ensures.found

pub returns-in-Err-Damaged-clause-file : goal.returns-in-Err-Damaged-clause-file
returns-in-Err-Damaged-clause-file c = ap read_as (sym (record_in-none c.args.bytes.now (λ i. omega (arith, c.type_inv.bytes i)) (c.in-Err-Damaged.ensures.damaged (ap Err c.in-Err-Damaged.field-0-is))))

pub unreachable-requires : goal.unreachable-requires
unreachable-requires c = c.in-Err-TooLarge.ensures.fitting (ap Err c.in-Err-TooLarge.field-0-is)
