use Rattle.std.proofs.Common.{◌≡◌, ◌++◌, take}
use Rattle.type_numbers.proofs.key.push_bytes.Given as goal

-- behind the count are the numbers so far
abbrev pub invariant-loop-each : goal.invariant-loop-each
invariant-loop-each l = l.key.items ≡ l.initial.key.items ++ take l.each-index l.bytes
