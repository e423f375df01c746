use Rattle.decl_values.proofs.ValueEnds.{default-read, default-fails}
use Rattle.decl_values.proofs.values.default_of.Goals as goal

pub returns-in-Ok : goal.returns-in-Ok
returns-in-Ok c = default-read c.args.room c.args.symbols.now c.in-Ok.read.1.now c.in_ok-value.value c.in_ok-value.end _ c.in_ok-value.ensures c.in-Ok.ensures

pub returns-in-Err : goal.returns-in-Err
returns-in-Err c = rw c.fallen.ensures (default-fails c.args.room c.args.symbols.now c.in_ok-value.value c.in_ok-value.end c.in-Err.fault c.in_ok-value.ensures c.in-Err.ensures)
