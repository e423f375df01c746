use Rattle.std.proofs.Common.{◌≡◌, map, drop, ◌++◌}
use Rattle.name_resolve.specs.Supertypes.{Written}
use Rattle.name_resolve.specs.Shown.{super_of}
use Rattle.name_resolve.proofs.headers.with_interfaces.Given as goal

abbrev pub invariant-loop-text : goal.invariant-loop-text
invariant-loop-text l = map super_of l.list.items ++ map Written (drop l.text-index l.texts) ≡ map super_of l.initial.list.items ++ map Written l.texts
