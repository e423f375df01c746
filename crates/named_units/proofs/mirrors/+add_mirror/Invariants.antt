use Rattle.std.proofs.Common.{◌≡◌, drop}
use Rattle.std.specs.List.{flat_map}
use Rattle.child_questions.specs.Verdicts.{elements_of}
use Rattle.named_units.specs.Named.{with_units}
use Rattle.named_units.proofs.mirrors.+add_mirror.Given as goal

-- the rest is still to be added
abbrev pub invariant-add_mirrors-loop-each : goal.invariant-add_mirrors-loop-each
invariant-add_mirrors-loop-each l =
    with_units l.names (flat_map elements_of (drop l.each-index l.mirrors)) ≡ with_units l.fn.names (flat_map elements_of l.mirrors)
