use Rattle.std.proofs.Common.{refl}
use Rattle.decl_values.proofs.FieldItems.{initialiser-free, initialiser-fails}
use Rattle.decl_values.proofs.fields.free_initialiser_of.Goals as goal

pub returns-in-Ok : goal.returns-in-Ok
returns-in-Ok c = rw c.kept_if-kept.ensures (initialiser-free c.args.room c.args.symbols.now c.args.value c.args.left c.in-Ok.end _ c.requires c.in-Ok.ensures refl c.furthest-far.ensures)

pub returns-in-Err : goal.returns-in-Err
returns-in-Err c = rw c.fallen.ensures (initialiser-fails c.args.room c.args.symbols.now c.args.value c.args.left c.in-Err.fault c.requires c.in-Err.ensures)
