use Rattle.decl_children.proofs.CommaRows.{unread, was-read}
use Rattle.decl_children.proofs.WalkAnswers.{param-finds}
use Rattle.decl_children.proofs.params.param_of.Goals as goal

-- no modifiers are read
pub returns-in_default : goal.returns-in_default
returns-in_default c = λ e rest r. unread (λ x. (x.0, x.1.now)) c.param_modifiers_of.result _ c.param_modifiers_of.ensures (rw c.in_default.is at c.in_ok-rest.ensures) r.0 r.1 r.2

pub returns : goal.returns
returns c = param-finds c.args.room c.args.symbols.now c.in-Some.rest.now _ c.based_of.result (was-read (λ x. (x.0, x.1.now)) c.param_modifiers_of.result _ _ c.param_modifiers_of.ensures (rw c.in-Some.is at c.in_ok-rest.ensures)) c.based_of.ensures
