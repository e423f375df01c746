use Rattle.std.proofs.Common.{◌≡◌, take}
use Rattle.type_listing.proofs.known.copy_elements.Given as goal

-- the copies so far are the elements so far
abbrev pub invariant-loop-each : goal.invariant-loop-each
invariant-loop-each l = l.copies ≡ take l.each-index l.elements
