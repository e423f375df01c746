use Rattle.std.proofs.Common.{◌≡◌, drop, length}
use Rattle.apt_base.specs.Limits.{max_type_steps}
use Rattle.type_levels.specs.Answers.{both}
use Rattle.type_subtypes.specs.Subsignature.{same_erased}
use Rattle.type_subtypes.proofs.signatures.same_erased.Given as goal

-- as many, and the answer so far with the rest is the answer
abbrev pub invariant-loop-at : goal.invariant-loop-at
invariant-loop-at l = record {
  as_many : length l.ones ≡ length l.others;
  left_decide : both l.all (same_erased l.table max_type_steps (drop l.at l.ones) (drop l.at l.others)) ≡ same_erased l.table max_type_steps l.ones l.others;
}
