use Rattle.std.proofs.Common.{◌≡◌, drop}
use Rattle.type_steps.specs.Entries.{has_number}
use Rattle.type_steps.proofs.entries.has_entry.Given as goal

-- it is among the rest exactly where it is among all
abbrev pub invariant-loop-pair : goal.invariant-loop-pair
invariant-loop-pair l = has_number (drop l.pair-index l.by) l.element ≡ has_number l.by l.element
