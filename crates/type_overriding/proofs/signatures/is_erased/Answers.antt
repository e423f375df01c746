use Rattle.type_numbers.proofs.NumberLaws.{grown-known}
use Rattle.type_overriding.proofs.SignaturesByNumbers.{erased-none, erased-some, some-known}
use Rattle.type_overriding.proofs.signatures.is_erased.Goals as goal

pub returns-in-None-clause-erased : goal.returns-in-None-clause-erased
returns-in-None-clause-erased c =
    erased-none c.args.table.now c.args.types.now c.erasure_of.new.types c.args.one c.args.other c.in_ok-erasure_of.field-0 c.in_ok-erasure_of.ensures.stands c.in-None.is

pub is_same-requires : goal.is_same-requires
is_same-requires c = (
  grown-known c.args.types.now c.erasure_of.new.types c.args.one c.in_ok-erasure_of.ensures.grows c.requires.0,
  some-known c.args.table.now c.args.types.now c.erasure_of.new.types c.args.other c.in-Some.erased c.in_ok-erasure_of.field-0 c.in_ok-erasure_of.ensures.stands c.in-Some.is,
)

pub returns-in-Some-clause-erased : goal.returns-in-Some-clause-erased
returns-in-Some-clause-erased c =
    erased-some c.args.table.now c.args.types.now c.erasure_of.new.types c.args.one c.args.other c.in-Some.erased c.in_ok-erasure_of.field-0 c.is_same.result c.of_test.result
    c.requires.0 c.in_ok-erasure_of.ensures.grows c.in_ok-erasure_of.ensures.stands c.in-Some.is c.is_same.ensures c.of_test.ensures
