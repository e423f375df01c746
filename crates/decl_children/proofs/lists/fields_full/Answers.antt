use Rattle.std.proofs.Common.{arith}
use Rattle.decl_children.specs.Unmodifieds.{field_front}
use Rattle.decl_children.proofs.CommaRows.{unread, was-read}
use Rattle.decl_children.proofs.ParamOnes.{reads-less}
use Rattle.decl_children.proofs.WalkTells.{fields-few, fields-none, fields-tell}
use Rattle.decl_children.proofs.lists.fields_full.Goals as goal

pub returns-then-count-ge-MAX_CHILDREN : goal.returns-then-count-ge-MAX_CHILDREN
returns-then-count-ge-MAX_CHILDREN c = fields-few c.args.room c.args.count c.args.symbols.now c.if-count-ge-MAX_CHILDREN.true

pub returns-in_default : goal.returns-in_default
returns-in_default c = fields-none c.args.room c.args.count c.args.symbols.now (unread (λ x. (tt, x.now)) c.field_front_of.result _ c.field_front_of.ensures (rw c.in_default.is at c.in_ok-rest.ensures))

pub fields_cross-requires : goal.fields_cross-requires
fields_cross-requires c =
    let e = was-read (λ x. (tt, x.now)) c.field_front_of.result _ _ c.field_front_of.ensures (rw c.in-Some.is at c.in_ok-rest.ensures) in
    omega (arith, c.requires.room, reads-less field_front c.args.room c.args.symbols.now tt c.in-Some.rest.now e)

pub returns-in-Ok : goal.returns-in-Ok
returns-in-Ok c =
    let e = was-read (λ x. (tt, x.now)) c.field_front_of.result _ _ c.field_front_of.ensures (rw c.in-Some.is at c.in_ok-rest.ensures) in
    fields-tell c.args.room c.args.count _ c.args.symbols.now c.in-Some.rest.now c.in-Ok.full (omega (arith, c.if-count-ge-MAX_CHILDREN.false)) e c.in-Ok.ensures
