use Rattle.std.proofs.Common.{◌≡◌, take}
use Rattle.type_resolve.proofs.known_headers.copied.Given as goal

-- the copies so far are the types so far
abbrev pub invariant-loop-each : goal.invariant-loop-each
invariant-loop-each l = l.copies ≡ take l.each-index l.types
