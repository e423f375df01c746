use Rattle.std.proofs.Common.{◌≡◌, take}
use Rattle.type_mirror.proofs.value.+copy_value.Given as goal

-- the copies so far are the items so far
abbrev pub invariant-copy_values-loop-each : goal.invariant-copy_values-loop-each
invariant-copy_values-loop-each l = l.copies ≡ take l.each-index l.items

abbrev pub invariant-copy_named-loop-each : goal.invariant-copy_named-loop-each
invariant-copy_named-loop-each l = l.copies ≡ take l.each-index l.items
