use Rattle.std.proofs.Common.{arith}
use Rattle.decl_limits.proofs.FewSeparators.{crowded-few}
use Rattle.decl_limits.proofs.laws.few_are_not_crowded.Goals as goal

pub returns : goal.returns
returns c = λ ts few crowded. absurd (omega (arith, crowded-few ts crowded, few))
