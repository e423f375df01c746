use Rattle.std.proofs.Common.{◌≡◌, drop}
use Rattle.named_units.specs.Named.{with_units}
use Rattle.named_units.proofs.mirrors.add_elements.Given as goal

-- the rest is still to be added
abbrev pub invariant-loop-each : goal.invariant-loop-each
invariant-loop-each l = with_units l.names (drop l.each-index l.list) ≡ with_units l.fn.names l.list
