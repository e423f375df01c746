use Rattle.std.proofs.Common.{◌≡◌, map, drop, ◌++◌}
use Rattle.name_resolve.specs.Supertypes.{part_name}
use Rattle.name_resolve.specs.Parts.{lent}
use Rattle.name_resolve.proofs.names.part_names.Given as goal

abbrev pub invariant-loop-part : goal.invariant-loop-part
invariant-loop-part l = lent l.names.items ++ map part_name (drop l.part-index l.parts) ≡ map part_name l.parts
