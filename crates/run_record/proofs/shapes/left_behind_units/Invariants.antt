use Rattle.std.proofs.Common.{◌≡◌, ◌+◌, drop}
use Rattle.run_record.specs.Shapes.{shapes_length}
use Rattle.run_record.proofs.shapes.left_behind_units.Given as goal

-- what is left, with all shapes, is the whole with those to come
abbrev pub invariant-loop-name : goal.invariant-loop-name
invariant-loop-name l = l.left + shapes_length l.table l.names ≡ l.most + shapes_length l.table (drop l.name-index l.names)
