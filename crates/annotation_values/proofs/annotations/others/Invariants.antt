use Rattle.std.proofs.Common.{◌≡◌, ◌++◌, filter, not}
use Rattle.annotation_values.specs.ElementValues.{has_name}
use Rattle.annotation_values.proofs.annotations.others.Given as goal

-- those so far, and then those that are left
abbrev pub invariant-loop-each : goal.invariant-loop-each
invariant-loop-each l =
    l.list.items ++ filter (λ d. not (has_name l.values d.0)) l.each-iterator.rest.items
    ≡ filter (λ d. not (has_name l.values d.0)) l.fn.all
