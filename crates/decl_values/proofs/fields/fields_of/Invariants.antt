use Rattle.std.proofs.Common.{length}
use Rattle.decl_values.specs.Ends.{SoFar}
use Rattle.decl_values.specs.FieldRows.{fields_from}
use Rattle.decl_values.proofs.fields.fields_of.Given as goal

abbrev pub invariant-row : goal.invariant-row
invariant-row l = SoFar (fields_from l.room l.fn.first l.fn.brackets l.fn.symbols) l.all.items l.far (fields_from l.room l.name l.dims l.rest)

abbrev pub decreases-row : goal.decreases-row
decreases-row l = length l.rest
