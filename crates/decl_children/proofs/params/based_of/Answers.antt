use Rattle.decl_children.proofs.CommaRows.{unread, was-read}
use Rattle.decl_children.proofs.WalkAnswers.{based-finds}
use Rattle.decl_children.proofs.params.based_of.Goals as goal

-- no base is read
pub returns-in_default : goal.returns-in_default
returns-in_default c = λ e rest r. unread (λ x. (x.0, x.1.now)) c.base_type_of.result _ c.base_type_of.ensures (rw c.in_default.is at c.in_ok-rest.ensures) r.0 r.1 r.2

pub returns : goal.returns
returns c = based-finds c.args.room c.args.first c.args.symbols.now c.in-Some.rest.now _ c.end_of.result (was-read (λ x. (x.0, x.1.now)) c.base_type_of.result _ _ c.base_type_of.ensures (rw c.in-Some.is at c.in_ok-rest.ensures)) c.end_of.ensures
