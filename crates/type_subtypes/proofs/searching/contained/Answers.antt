use Rattle.apt_base.specs.Limits.{max_type_steps}
use Rattle.type_subtypes.specs.Subtypes.{next_of}
use Rattle.type_subtypes.proofs.NumberedTypes.{asked, asked-known, both-known, settled}
use Rattle.type_subtypes.proofs.searching.contained.Goals as goal

pub contains-requires : goal.contains-requires
contains-requires c =
    both-known c.add.new.self c.add-2.new.self c.in_ok-one.one c.in_ok-other.other c.args.a.now c.args.b.now c.in_ok-one.ensures.stands c.in_ok-other.ensures.grows c.in_ok-other.ensures.stands

pub returns-in-Settled : goal.returns-in-Settled
returns-in-Settled c =
    settled (next_of c.args.table.now) c.add.new.self c.add-2.new.self c.in_ok-one.one c.in_ok-other.other max_type_steps c.args.a.now c.args.b.now c.contains.result c.in-Settled.answer
    c.in_ok-one.ensures.stands c.in_ok-other.ensures.grows c.in_ok-other.ensures.stands c.contains.ensures.exact c.in-Settled.is

pub related-requires : goal.related-requires
related-requires c = record { known = asked-known (next_of c.args.table.now) c.add-2.new.self c.contains.result c.in-Asks.pair c.contains.ensures.known c.in-Asks.is }

pub returns : goal.returns
returns c =
    asked (next_of c.args.table.now) c.add.new.self c.add-2.new.self c.in_ok-one.one c.in_ok-other.other max_type_steps c.args.a.now c.args.b.now c.contains.result c.in-Asks.pair c.in_ok-answer-in-Asks.answer
    c.in_ok-one.ensures.stands c.in_ok-other.ensures.grows c.in_ok-other.ensures.stands c.contains.ensures.exact c.in-Asks.is c.in_ok-answer-in-Asks.ensures.answer
