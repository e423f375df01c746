use Rattle.std.proofs.Common.{◌∙◌, sym, refl}
use Rattle.decl_values.proofs.FieldItems.{initialiser-alone, initialiser-deep}
use Rattle.decl_values.proofs.fields.initialiser_of.Goals as goal

pub returns-then-is_next : goal.returns-then-is_next
returns-then-is_next c = initialiser-alone c.args.room c.args.symbols.now c.in-Ok.read.0 _ c.in-Ok.ensures (sym c.is_next.ensures ∙ c.if-is_next.true) refl

pub free_initialiser_of-requires : goal.free_initialiser_of-requires
free_initialiser_of-requires c = (c.in-Ok.read.1.now, c.in-Ok.ensures, refl, sym c.is_next.ensures ∙ c.if-is_next.false)

pub free_initialiser_of-requires-in-Err-Bad : goal.free_initialiser_of-requires-in-Err-Bad
free_initialiser_of-requires-in-Err-Bad c = rw c.in-Err-Bad.field-0-is at c.in-Err-Bad.ensures

pub returns-in-Err-Deep : goal.returns-in-Err-Deep
returns-in-Err-Deep c = initialiser-deep c.args.room c.in-Err-Deep.left c.args.symbols.now (rw c.in-Err-Deep.field-0-is at c.in-Err-Deep.ensures)
