use Rattle.std.proofs.Common.{◌≡◌, take}
use Rattle.std.specs.List.{zip}
use Rattle.type_steps.specs.Entries.{with_numbers}
use Rattle.type_steps.proofs.entries.add_own.Given as goal

-- the entries so far
abbrev pub invariant-loop-place : goal.invariant-loop-place
invariant-loop-place l = l.by ≡ with_numbers l.fn.by (take l.place (zip l.parameters l.arguments))
