use Rattle.std.proofs.Common.{subst}
use Rattle.java_tokens.specs.Table.{IsOperatorFront, HasNoOperator}
use Rattle.java_tokens.proofs.LongestFronts.{operator_best, no_operator_none}
use Rattle.java_tokens.proofs.fronts.operator_front.Goals as goal

pub returns-in-Some : goal.returns-in-Some
returns-in-Some c =
    operator_best c.args.text.now c.in-Some.width c.in-Some.number c.utf8.text c.requires.unknown (subst (λ b. IsOperatorFront b c.in-Some.width c.in-Some.number) c.as_bytes.ensures.value c.in-Some.ensures)

pub returns-in-None : goal.returns-in-None
returns-in-None c = no_operator_none c.args.text.now c.utf8.text c.requires.unknown (subst HasNoOperator c.as_bytes.ensures.value c.in-None.ensures)
