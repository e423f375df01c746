use Rattle.apt_base.specs.Limits.{max_type_steps}
use Rattle.type_elements.specs.TypeOf.{type_of}
use Rattle.type_subtypes.proofs.NumberedTypes.{both-known, searched}
use Rattle.type_overriding.specs.ByElements.{next_by_elements}
use Rattle.type_overriding.proofs.GrownTypes.{grown-searched}
use Rattle.type_overriding.proofs.by_elements.is_below.Goals as goal

pub related-requires : goal.related-requires
related-requires c = record {
  known =
      both-known c.number_of.new.types c.number_of-2.new.types c.in_ok-sub.sub c.in_ok-sup.sup (type_of c.args.table.now c.args.one.now) (type_of c.args.table.now c.args.other.now)
      c.in_ok-sub.ensures.stands c.in_ok-sup.ensures.grows c.in_ok-sup.ensures.stands;
}

pub returns-clause-answer : goal.returns-clause-answer
returns-clause-answer c =
    searched (next_by_elements c.args.table.now) c.number_of.new.types c.number_of-2.new.types c.in_ok-sub.sub c.in_ok-sup.sup max_type_steps (type_of c.args.table.now c.args.one.now)
    (type_of c.args.table.now c.args.other.now) c.in_ok-answer.answer c.in_ok-sub.ensures.stands c.in_ok-sup.ensures.grows c.in_ok-sup.ensures.stands c.in_ok-answer.ensures.answer

pub returns-clause-grows : goal.returns-clause-grows
returns-clause-grows c =
    grown-searched (next_by_elements c.args.table.now) c.args.types.now c.number_of.new.types c.number_of-2.new.types c.related.new.types c.in_ok-sub.ensures.grows
    c.in_ok-sup.ensures.grows c.in_ok-answer.ensures.grows

pub returns-in_err-answer-clause-grows : goal.returns-in_err-answer-clause-grows
returns-in_err-answer-clause-grows c =
    grown-searched (next_by_elements c.args.table.now) c.args.types.now c.number_of.new.types c.number_of-2.new.types c.related.new.types c.in_ok-sub.ensures.grows
    c.in_ok-sup.ensures.grows c.in_err-answer.ensures.grows
