use Rattle.std.proofs.Common.{◌≡◌, drop, length, map}
use Rattle.type_mirror.specs.Substitution.{substituted}
use Rattle.type_subtypes.specs.Subsignature.{all_same}
use Rattle.type_subtypes.proofs.signatures.all_same.Given as goal

-- as many, and the rest decide
abbrev pub invariant-loop-at : goal.invariant-loop-at
invariant-loop-at l = record {
  as_many : length l.ones ≡ length l.others;
  left_decide : all_same (drop l.at l.ones) (map (substituted l.by) (drop l.at l.others)) ≡ all_same l.ones (map (substituted l.by) l.others);
}
