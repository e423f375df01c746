use Rattle.std.proofs.Common.{◌≡◌, drop}
use Rattle.std.specs.List.{list_any}
use Rattle.std.specs.Str.{bytes_eq}
use Rattle.name_resolve.proofs.finds.is_sibling.Given as goal

abbrev pub invariant-loop-each : goal.invariant-loop-each
invariant-loop-each l = list_any (bytes_eq l.name) (drop l.each-index l.unit.siblings) ≡ list_any (bytes_eq l.name) l.unit.siblings
