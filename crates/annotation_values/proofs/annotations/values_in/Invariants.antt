use Rattle.std.proofs.Common.{◌≡◌, ◌++◌, map}
use Rattle.annotation_values.specs.ElementValues.{named, values_of}
use Rattle.annotation_values.proofs.annotations.values_in.Given as goal

-- those so far, and then those that are left
abbrev pub invariant-loop-each : goal.invariant-loop-each
invariant-loop-each l = l.list ++ map named l.each-iterator.rest.items ≡ values_of l.fn.annotation
