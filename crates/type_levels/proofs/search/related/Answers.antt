use Rattle.std.proofs.Common.{sym, ◌∙◌}
use Rattle.type_levels.proofs.MoreSteps.{early_yes, early_no}
use Rattle.type_levels.proofs.search.related.Goals as goal

pub returns-in-Yes-clause-answer : goal.returns-in-Yes-clause-answer
returns-in-Yes-clause-answer g c =
    let t = g.R.Relation.seen c.args.relation.now c.args.types.now in
    early_yes t.next (t.at c.args.pair.sub) (t.at c.args.pair.sup) (sym c.in_ok-answer_within.ensures.answer ∙ c.in-Yes.is)

pub returns-in-No-clause-answer : goal.returns-in-No-clause-answer
returns-in-No-clause-answer g c =
    let t = g.R.Relation.seen c.args.relation.now c.args.types.now in
    early_no t.next (t.at c.args.pair.sub) (t.at c.args.pair.sup) (sym c.in_ok-answer_within.ensures.answer ∙ c.in-No.is)
