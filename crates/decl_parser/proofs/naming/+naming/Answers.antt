use Rattle.std.proofs.Common.{length, ap, arith}
use Rattle.decl_parser.proofs.NameFits.{no-type-fits, nested-fits, members-decide, name-long}
use Rattle.decl_parser.proofs.naming.+naming.Goals as goal

pub member_fits-returns-in-Field : goal.member_fits-returns-in-Field
member_fits-returns-in-Field t c = no-type-fits c.args.start c.args.member.now c.in-Field.is c.requires

pub member_fits-returns-in-Field-2 : goal.member_fits-returns-in-Field-2
member_fits-returns-in-Field-2 t c = no-type-fits c.args.start c.args.member.now c.in-Field.is c.requires

pub member_fits-returns-in-Field-3 : goal.member_fits-returns-in-Field-3
member_fits-returns-in-Field-3 t c = no-type-fits c.args.start c.args.member.now c.in-Field.is c.requires

pub member_fits-returns-in-Field-4 : goal.member_fits-returns-in-Field-4
member_fits-returns-in-Field-4 t c = no-type-fits c.args.start c.args.member.now c.in-Field.is c.requires

pub member_fits-returns-in-Nested : goal.member_fits-returns-in-Nested
member_fits-returns-in-Nested t c = nested-fits c.args.start c.args.member.now c.in-Nested.declaration c.type_fits.result c.in-Nested.is c.type_fits.ensures

pub type_fits-returns-then-name-gt-MAX_NAME_BYTES : goal.type_fits-returns-then-name-gt-MAX_NAME_BYTES
type_fits-returns-then-name-gt-MAX_NAME_BYTES t c = name-long c.args.start c.args.declaration.now (omega (arith, ap length c.as_str-name.ensures))

pub type_fits-returns-then-bytes-gt-MAX_NAME_BYTES : goal.type_fits-returns-then-bytes-gt-MAX_NAME_BYTES
type_fits-returns-then-bytes-gt-MAX_NAME_BYTES t c = name-long c.args.start c.args.declaration.now (omega (arith, ap length c.as_str-name.ensures))

pub type_fits-returns : goal.type_fits-returns
type_fits-returns t c =
    members-decide c.args.start _ c.args.declaration.now c.as_slice.result.now c.members_fit.result (omega (arith, ap length c.as_str-name.ensures)) c.if-bytes-gt-MAX_NAME_BYTES.false c.as_slice.ensures c.members_fit.ensures
