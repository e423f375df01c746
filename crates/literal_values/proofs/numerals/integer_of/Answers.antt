use Rattle.std.proofs.Common.{sym}
use Rattle.literal_values.proofs.Endings.{long-is_something}
use Rattle.literal_values.proofs.numerals.integer_of.Goals as goal

pub slice_bounds-numeral_of-count : goal.slice_bounds-numeral_of-count
slice_bounds-numeral_of-count c = long-is_something c.args.text.now (sym c.if-is_long.ensures)
