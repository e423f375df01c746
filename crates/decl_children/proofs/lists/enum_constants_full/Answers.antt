use Rattle.std.proofs.Common.{◌∙◌, sym, arith}
use Rattle.decl_limits.specs.Children.{enum_heading}
use Rattle.decl_children.proofs.CommaRows.{unread, was-read}
use Rattle.decl_children.proofs.ParamOnes.{reads-less}
use Rattle.decl_children.proofs.WalkTells.{constants-none, constants-shut, constants-tell}
use Rattle.decl_children.proofs.lists.enum_constants_full.Goals as goal

pub returns-in_default : goal.returns-in_default
returns-in_default c = constants-none c.args.room c.args.symbols.now c.requires.room (unread (λ x. (tt, x.now)) c.enum_heading_of.result _ c.enum_heading_of.ensures (rw c.in_default.is at c.in_ok-rest.ensures))

pub returns-then-not-is_next : goal.returns-then-not-is_next
returns-then-not-is_next c =
    let e = was-read (λ x. (tt, x.now)) c.enum_heading_of.result _ _ c.enum_heading_of.ensures (rw c.in-Some.is at c.in_ok-rest.ensures) in
    constants-shut c.args.room c.args.symbols.now c.in-Some.rest.now c.requires.room e (sym c.is_next.ensures ∙ c.if-not-is_next.true)

pub constants_full-requires-clause-room : goal.constants_full-requires-clause-room
constants_full-requires-clause-room c =
    let e = was-read (λ x. (tt, x.now)) c.enum_heading_of.result _ _ c.enum_heading_of.ensures (rw c.in-Some.is at c.in_ok-rest.ensures) in
    omega (arith, c.requires.room, reads-less enum_heading c.args.room c.args.symbols.now tt c.in-Some.rest.now e)

pub returns : goal.returns
returns c =
    let e = was-read (λ x. (tt, x.now)) c.enum_heading_of.result _ _ c.enum_heading_of.ensures (rw c.in-Some.is at c.in_ok-rest.ensures) in
    constants-tell c.args.room c.args.symbols.now c.in-Some.rest.now c.constants_full.result c.requires.room e c.constants_full.ensures
