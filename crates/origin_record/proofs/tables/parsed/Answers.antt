use Rattle.std.proofs.Common.{arith}
use Rattle.origin_record.proofs.RoundTables.{unit_of_shape, no_unit}
use Rattle.origin_record.proofs.tables.parsed.Goals as goal

pub returns-in-Ok : goal.returns-in-Ok
returns-in-Ok c = unit_of_shape c.args.bytes.now c.in-Ok.unit c.in-Ok.ensures.found (rw c.text.ensures.value at c.text.ensures.legal)

pub returns-in-Err : goal.returns-in-Err
returns-in-Err c = no_unit c.args.bytes.now c.in-Err.fault (λ i. omega (arith, c.type_inv.bytes i)) c.in-Err.ensures.bad
