use Rattle.type_overriding.proofs.OverridingSteps.{members-known, members-signed}
use Rattle.type_overriding.proofs.overriding.has_subsignature.Goals as goal

pub signature_of-requires-clause-first : goal.signature_of-requires-clause-first
signature_of-requires-clause-first c =
    (members-known c.args.table.now c.args.within.now c.args.one.now c.args.other.now c.number_of.new.types c.member_of.new.types c.member_of-2.new.types c.in_ok-container.container
    c.in_ok-first.first c.in_ok-second.second c.in_ok-container.ensures.stands c.in_ok-first.ensures.stands c.in_ok-first.ensures.grows c.in_ok-second.ensures.stands
    c.in_ok-second.ensures.grows).0

pub signature_of-requires-clause-second : goal.signature_of-requires-clause-second
signature_of-requires-clause-second c =
    (members-known c.args.table.now c.args.within.now c.args.one.now c.args.other.now c.number_of.new.types c.member_of.new.types c.member_of-2.new.types c.in_ok-container.container
    c.in_ok-first.first c.in_ok-second.second c.in_ok-container.ensures.stands c.in_ok-first.ensures.stands c.in_ok-first.ensures.grows c.in_ok-second.ensures.stands
    c.in_ok-second.ensures.grows).1

pub returns-clause-answer : goal.returns-clause-answer
returns-clause-answer c =
    members-signed c.args.table.now c.args.within.now c.args.one.now c.args.other.now c.number_of.new.types c.member_of.new.types c.member_of-2.new.types c.in_ok-container.container
    c.in_ok-first.first c.in_ok-second.second c.in_ok-container.ensures.stands c.in_ok-first.ensures.stands c.in_ok-first.ensures.grows c.in_ok-second.ensures.stands
    c.in_ok-second.ensures.grows c.in_ok-answer.answer c.in_ok-answer.ensures.answer
