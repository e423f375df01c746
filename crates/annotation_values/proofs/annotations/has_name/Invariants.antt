use Rattle.std.proofs.Common.{◌≡◌, drop}
use Rattle.annotation_values.specs.ElementValues.{has_name}
use Rattle.annotation_values.proofs.annotations.has_name.Given as goal

-- those that are left decide
abbrev pub invariant-loop-each : goal.invariant-loop-each
invariant-loop-each l = has_name (drop l.each-index l.values) l.name ≡ has_name l.values l.name
