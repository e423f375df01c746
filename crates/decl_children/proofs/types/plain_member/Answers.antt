use Rattle.std.proofs.Common.{arith}
use Rattle.decl_grammar.specs.Types.{type_modifiers}
use Rattle.decl_children.proofs.ParamOnes.{reads-less}
use Rattle.decl_children.proofs.WalkTells.{fields-member, own-member}
use Rattle.decl_children.proofs.PlainMembers.{plain-ended, plain-behind}
use Rattle.decl_children.proofs.types.plain_member.Goals as goal

pub fields_full-requires : goal.fields_full-requires
fields_full-requires c = record { room = omega (arith, c.requires.room, reads-less type_modifiers c.args.room c.args.symbols.now c.requires.marks.0 c.args.rest.now c.requires.marks.1) }

pub plain-requires-clause-room : goal.plain-requires-clause-room
plain-requires-clause-room c = omega (arith, c.requires.room, reads-less type_modifiers c.args.room c.args.symbols.now c.requires.marks.0 c.args.rest.now c.requires.marks.1)

pub returns-then-branch : goal.returns-then-branch
returns-then-branch c = fields-member c.args.kind c.args.before c.args.room c.args.symbols.now c.args.rest.now c.requires.marks.0 c.requires.marks.1 (rw c.if-branch.true at c.in_ok-fields_full.ensures)

pub returns-in-Full : goal.returns-in-Full
returns-in-Full c = own-member c.args.kind c.args.before c.args.room c.args.symbols.now c.args.rest.now c.requires.marks.0 c.requires.marks.1 (rw c.in-Full.is at c.in_ok-plain.ensures)

pub returns-in-Ended : goal.returns-in-Ended
returns-in-Ended c =
    plain-ended c.args.kind c.args.before c.args.room c.args.symbols.now c.args.rest.now c.requires.marks.0 c.nothing.result c.requires.few c.requires.room c.requires.one c.requires.marks.1 c.requires.plain c.requires.executable
    (rw c.if-branch.false at c.in_ok-fields_full.ensures) (rw c.in-Ended.is at c.in_ok-plain.ensures) c.nothing.ensures

pub returns-in-Behind : goal.returns-in-Behind
returns-in-Behind c =
    plain-behind c.args.kind c.args.before c.args.room c.args.symbols.now c.args.rest.now c.requires.marks.0 c.in-Behind.passed c.requires.few c.requires.room c.requires.one c.requires.marks.1 c.requires.plain c.requires.executable
    (rw c.if-branch.false at c.in_ok-fields_full.ensures) (rw c.in-Behind.is at c.in_ok-plain.ensures)
