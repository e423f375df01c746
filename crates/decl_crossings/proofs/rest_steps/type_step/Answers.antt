use Rattle.decl_crossings.proofs.rest_steps.type_step.Goals as goal
use Rattle.std.proofs.Common.{ap, arith, refl}
use Rattle.decl_limits.specs.Separators.{separators}
use Rattle.decl_grammar.specs.Form.{between}
use Rattle.decl_crossings.specs.Steps.{within_type}
use Rattle.decl_crossings.proofs.StepLaws.{rest-counted}

pub returns-then-count_separators-left : goal.returns-then-count_separators-left
returns-then-count_separators-left c = (refl, refl, refl, λ crosses. absurd (omega (arith, rest-counted c.args.left between (within_type c.args.within.now c.args.rest.now) crosses, c.count_separators.ensures, ap separators c.split_at.ensures.front, c.if-count_separators-left.true)))
