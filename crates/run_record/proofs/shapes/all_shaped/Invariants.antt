use Rattle.std.proofs.Common.{◌≡◌, ◌++◌, drop, map}
use Rattle.run_record.specs.Shapes.{shaped}
use Rattle.run_record.proofs.shapes.all_shaped.Given as goal

-- the units so far, and those to come
abbrev pub invariant-loop-name : goal.invariant-loop-name
invariant-loop-name l = l.units ++ map (shaped l.table) (drop l.name-index l.names) ≡ map (shaped l.table) l.names
