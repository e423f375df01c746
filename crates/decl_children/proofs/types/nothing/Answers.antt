use Rattle.std.proofs.Common.{refl}
use Rattle.decl_children.proofs.CommaRows.{unread, was-read}
use Rattle.decl_children.proofs.WalkTells.{nothing-none, nothing-there}
use Rattle.decl_children.proofs.types.nothing.Goals as goal

pub returns-in_default : goal.returns-in_default
returns-in_default c = nothing-none c.args.kind c.args.room c.args.symbols.now c.requires.room (unread (λ x. (tt, x.now)) c.nothing_of.result _ c.nothing_of.ensures (rw c.in_default.is at c.in_ok-rest.ensures))

pub returns : goal.returns
returns c = (refl, refl, nothing-there c.args.kind c.args.room c.args.symbols.now c.in-Some.rest.now (was-read (λ x. (tt, x.now)) c.nothing_of.result _ _ c.nothing_of.ensures (rw c.in-Some.is at c.in_ok-rest.ensures)))
