use Rattle.std.proofs.Common.{arith}
use Rattle.output_store.proofs.RemovalLemmas.{removed-begin, removed-next, first-next, removed-end, first_of_all}
use Rattle.output_store.proofs.removing.remove_others.Goals as goal

pub loop-path-init : goal.loop-path-init
loop-path-init g c = record { later = omega arith; removed = λ told. removed-begin (g.T.Tree.files c.args.tree.now) }

pub loop-path-preserved : goal.loop-path-preserved
loop-path-preserved g c =
    let T = g.T.Tree in
    record {
      later = omega (arith, c.loop-path.invariant.later, c.remove_unkept.ensures.cause.later);
      removed = λ told.
          removed-next c.args.kept.now c.args.paths.now c.loop-path.path-index c.path-item.result c.loop-path-test.true c.path-item.is (T.files c.args.tree.now) (T.files c.loop-path.tree) (T.files c.remove_unkept.new.tree)
          (c.loop-path.invariant.removed told) (rw c.as_str.ensures.value at (c.in_ok-remove_unkept.ensures.all told));
    }

pub returns-in_err-remove_unkept-clause-first : goal.returns-in_err-remove_unkept-clause-first
returns-in_err-remove_unkept-clause-first g c = λ told.
    let T = g.T.Tree in
    first-next c.args.kept.now c.args.paths.now c.loop-path.path-index c.path-item.result c.loop-path-test.true c.path-item.is (T.files c.args.tree.now) (T.files c.loop-path.tree) (T.files c.remove_unkept.new.tree)
    (c.loop-path.invariant.removed told) (rw c.as_str.ensures.value at (c.in_err-remove_unkept.ensures.first told))

pub returns-clause-all : goal.returns-clause-all
returns-clause-all g c = λ told. removed-end c.args.kept.now c.args.paths.now c.loop-path.path-index _ _ c.loop-path-test.false (c.loop-path.invariant.removed told)

pub returns-clause-first : goal.returns-clause-first
returns-clause-first g c = λ told. first_of_all _ _ _ (returns-clause-all g c told)
