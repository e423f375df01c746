use Rattle.decl_children.proofs.CommaRows.{unread, was-read}
use Rattle.decl_children.proofs.WalkAnswers.{no-base, no-dims}
use Rattle.decl_children.proofs.results.behind_type.Goals as goal

-- no base is read
pub returns-in_default : goal.returns-in_default
returns-in_default c = no-base c.args.room c.args.symbols.now (unread (λ x. (x.0, x.1.now)) c.base_type_of.result _ c.base_type_of.ensures (rw c.in_default.is at c.in_ok-rest.ensures))

-- no brackets are
pub returns-in_default-2 : goal.returns-in_default-2
returns-in_default-2 c =
    no-dims c.args.room c.args.symbols.now c.in-Some.rest.now _ (was-read (λ x. (x.0, x.1.now)) c.base_type_of.result _ _ c.base_type_of.ensures (rw c.in-Some.is at c.in_ok-rest.ensures))
    (unread (λ x. (x.0.items, x.1.now)) c.dims_of.result _ c.dims_of.ensures (rw c.in_default-2.is at c.in_ok-rest-2.ensures))

pub returns : goal.returns
returns c = (
  _,
  c.in-Some.rest.now,
  _,
  was-read (λ x. (x.0, x.1.now)) c.base_type_of.result _ _ c.base_type_of.ensures (rw c.in-Some.is at c.in_ok-rest.ensures),
  was-read (λ x. (x.0.items, x.1.now)) c.dims_of.result _ _ c.dims_of.ensures (rw c.in-Some-2.is at c.in_ok-rest-2.ensures),
)
