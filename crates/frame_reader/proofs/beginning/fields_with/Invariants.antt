use Rattle.std.proofs.Common.{◌≡◌, map, drop}
use Rattle.frame_reader.specs.Nodes.{chosen_by}
use Rattle.frame_reader.proofs.beginning.fields_with.Given as goal

abbrev pub invariant-loop-row : goal.invariant-loop-row
invariant-loop-row l = chosen_by (map (λ row. (row.0, row.1.now)) (drop l.row-index l.rows)) l.number ≡ chosen_by (map (λ row. (row.0, row.1.now)) l.rows) l.number
