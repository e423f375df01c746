use Rattle.apt_base.specs.Limits.{max_type_steps}
use Rattle.type_subtypes.specs.Subtypes.{next_of}
use Rattle.type_subtypes.proofs.NumberedTypes.{both-known, searched}
use Rattle.type_subtypes.proofs.searching.subtype.Goals as goal

pub related-requires : goal.related-requires
related-requires c = record {
  known =
      both-known c.add.new.self c.add-2.new.self c.in_ok-sub.sub c.in_ok-sup.sup c.args.a.now c.args.b.now c.in_ok-sub.ensures.stands c.in_ok-sup.ensures.grows
      c.in_ok-sup.ensures.stands;
}

pub returns : goal.returns
returns c =
    searched (next_of c.args.table.now) c.add.new.self c.add-2.new.self c.in_ok-sub.sub c.in_ok-sup.sup max_type_steps c.args.a.now c.args.b.now c.in_ok-answer.answer c.in_ok-sub.ensures.stands
    c.in_ok-sup.ensures.grows c.in_ok-sup.ensures.stands c.in_ok-answer.ensures.answer
