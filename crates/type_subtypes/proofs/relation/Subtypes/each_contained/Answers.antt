use Rattle.std.proofs.Common.{get_or, refl}
use Rattle.type_numbers.specs.Numbers.{IsKnown}
use Rattle.type_numbers.proofs.LayerMaps.{all-at}
use Rattle.type_subtypes.specs.Subtypes.{next_of}
use Rattle.type_subtypes.proofs.ArgumentsByNumbers.{asked-next, asked-all, within-both}
use Rattle.type_subtypes.proofs.relation.Subtypes.each_contained.Goals as goal

pub contains-question-requires : goal.contains-question-requires
contains-question-requires c =
    let within = within-both c.args.ones.now c.args.others.now c.loop-at.at c.loop-at-test.true c.requires.as_many in (
      all-at (IsKnown c.args.types.now) c.args.others.now c.loop-at.at 0 c.requires.others within,
      all-at (IsKnown c.args.types.now) c.args.ones.now c.loop-at.at 0 c.requires.ones c.loop-at-test.true,
    )

pub loop-at-preserved : goal.loop-at-preserved
loop-at-preserved c =
    asked-next (next_of c.args.self.now) c.args.types.now c.args.ones.now c.args.others.now c.loop-at.at (get_or c.args.ones.now c.loop-at.at 0) (get_or c.args.others.now c.loop-at.at 0)
    c.contains-question.result c.loop-at.questions.items c.push.new.self.items c.loop-at-test.true c.requires.as_many refl refl c.contains-question.ensures.exact
    c.contains-question.ensures.known c.loop-at.invariant c.in_ok-push.ensures.items

pub returns : goal.returns
returns c =
    asked-all (next_of c.args.self.now) c.args.types.now c.args.ones.now c.args.others.now c.loop-at.at c.loop-at.questions c.loop-at-test.false c.loop-at.invariant
