use Rattle.std.proofs.Common.{◌≡◌, drop}
use Rattle.type_mirror.specs.Substitution.{is_distinct}
use Rattle.type_mirror.proofs.substitution.all_differ.Given as goal

-- the rest is distinct exactly where all are
abbrev pub invariant-loop-at : goal.invariant-loop-at
invariant-loop-at l = is_distinct (drop l.at l.by) ≡ is_distinct l.by
