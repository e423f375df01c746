use Rattle.std.proofs.Common.{sym}
use Rattle.literal_values.proofs.Endings.{suffixed-is_something}
use Rattle.literal_values.proofs.floating.without_suffix.Goals as goal

pub slice_bounds-result-count : goal.slice_bounds-result-count
slice_bounds-result-count c = suffixed-is_something c.args.text.now (sym c.if-is_suffixed.ensures)
