use Rattle.decl_children.proofs.CommaRows.{unread, was-read}
use Rattle.decl_children.proofs.WalkAnswers.{first-finds}
use Rattle.decl_children.proofs.params.first_of.Goals as goal

-- no annotations are read
pub returns-in_default : goal.returns-in_default
returns-in_default c = λ e rest r. unread (λ x. (x.0.items, x.1.now)) c.annotations_of.result _ c.annotations_of.ensures (rw c.in_default.is at c.in_ok-rest.ensures) r.0 r.1 r.2

pub returns : goal.returns
returns c = first-finds c.args.room c.args.symbols.now c.in-Some.rest.now _ c.first_behind_of.result (was-read (λ x. (x.0.items, x.1.now)) c.annotations_of.result _ _ c.annotations_of.ensures (rw c.in-Some.is at c.in_ok-rest.ensures)) c.first_behind_of.ensures
