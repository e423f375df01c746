use Rattle.std.proofs.Common.{arith}
use Rattle.decl_limits.proofs.FewSeparators.{crowded-few}
use Rattle.decl_children.proofs.file.is_crowded.Goals as goal

pub returns-then-most-le-FEW : goal.returns-then-most-le-FEW
returns-then-most-le-FEW c = λ crowded. absurd (omega (arith, crowded-few c.args.symbols.now crowded, c.in_ok-most.ensures))
