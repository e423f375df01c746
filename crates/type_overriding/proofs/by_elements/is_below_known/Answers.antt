use Rattle.type_subtypes.proofs.NumberedTypes.{both-known}
use Rattle.type_overriding.proofs.KnownElements.{asks-later, below-searched}
use Rattle.type_overriding.proofs.by_elements.is_below_known.Goals as goal

pub related-requires : goal.related-requires
related-requires c = record {
  known =
      both-known c.add.new.self.types c.add-2.new.self.types c.in_ok-sub.sub c.in_ok-sup.sup c.in_ok-first.first c.in_ok-second.second c.in_ok-sub.ensures.stands
      c.in_ok-sup.ensures.grows.types c.in_ok-sup.ensures.stands;
}

pub returns-clause-answer : goal.returns-clause-answer
returns-clause-answer c =
    below-searched c.args.table.now c.args.one.now c.args.other.now c.in_ok-first.first c.in_ok-second.second c.add.new.self c.add-2.new.self c.in_ok-sub.sub c.in_ok-sup.sup
    c.in_ok-answer.answer
    (asks-later c.args.table.now c.add.new.self c.add-2.new.self (asks-later c.args.table.now c.args.known.now c.add.new.self c.requires c.in_ok-sub.ensures.grows)
    c.in_ok-sup.ensures.grows)
    c.in_ok-first.ensures c.in_ok-second.ensures c.in_ok-sub.ensures.stands c.in_ok-sup.ensures.grows c.in_ok-sup.ensures.stands c.in_ok-answer.ensures.answer
