use Rattle.std.proofs.Common.{sym, ◌∙◌}
use Rattle.type_mirror.specs.Substitution.{substituted}
use Rattle.type_subtypes.proofs.SignatureLaws.{all_same-broken, all_same-next, all_same-all}
use Rattle.type_subtypes.proofs.signatures.all_same.Goals as goal

pub returns-then-not-is_same : goal.returns-then-not-is_same
returns-then-not-is_same c =
    all_same-broken (substituted c.args.by.now) c.args.ones.now c.args.others.now c.loop-at.at _ _ c.in_ok-other.other c.loop-at-test.true c.loop-at.invariant.as_many c.index-ones-at.is
    c.index-others-at.is c.in_ok-other.ensures.replaced (sym c.is_same.ensures ∙ c.if-not-is_same.true) c.loop-at.invariant.left_decide

pub loop-at-preserved : goal.loop-at-preserved
loop-at-preserved c = record {
  as_many = c.loop-at.invariant.as_many;
  left_decide =
      all_same-next (substituted c.args.by.now) c.args.ones.now c.args.others.now c.loop-at.at _ _ c.in_ok-other.other c.loop-at-test.true c.loop-at.invariant.as_many c.index-ones-at.is
      c.index-others-at.is c.in_ok-other.ensures.replaced (sym c.is_same.ensures ∙ c.if-not-is_same.false) c.loop-at.invariant.left_decide;
}

pub returns : goal.returns
returns c =
    all_same-all (substituted c.args.by.now) c.args.ones.now c.args.others.now c.loop-at.at c.loop-at-test.false c.loop-at.invariant.as_many c.loop-at.invariant.left_decide
