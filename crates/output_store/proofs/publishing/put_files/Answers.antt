use Rattle.std.proofs.Common.{◌+◌, ◌<◌, ◌^◌, arith}
use Rattle.std.proofs.lemmas.List.Elements.{All-more}
use Rattle.output_store.specs.Publishing.{AreDistinct, AreAbsent}
use Rattle.output_store.proofs.StoringLemmas.{path_not_before, absent_still, only_more, written_more, only_all, files_kept, output_stays_put, put_outside}
use Rattle.output_store.proofs.publishing.put_files.Goals as goal

pub put_file-requires : goal.put_file-requires
put_file-requires g c = λ told.
    let T = g.T.Tree in
    let items = c.as_slice-number-items.result.now in
    let distinct : AreDistinct items = rw c.as_slice-number-items.ensures c.requires.distinct in
    let absent : AreAbsent (T.files c.args.tree.now) items = rw c.as_slice-number-items.ensures (c.requires.absent told) in
    absent_still items c.loop-number.number-index c.loop-number-item.result c.loop-number-test.true c.loop-number-item.is
    (T.files c.args.tree.now) (T.files c.loop-number.tree) (omega arith) c.loop-number.invariant.small distinct absent (c.loop-number.invariant.only told)

pub loop-number-preserved : goal.loop-number-preserved
loop-number-preserved g c =
    let T = g.T.Tree in
    let items = c.as_slice-number-items.result.now in
    let i = c.loop-number.number-index in
    let file = c.loop-number-item.result in
    let distinct : AreDistinct items = rw c.as_slice-number-items.ensures c.requires.distinct in
    record {
      later = omega (arith, c.loop-number.invariant.later, c.put_file.ensures.cause.later);
      small = All-more (λ f. f.0 < 2 ^ 32) items i file c.loop-number-test.true c.loop-number.invariant.small (rw (← c.loop-number-item.is) (omega arith));
      only = λ told. only_more items i file c.loop-number-test.true c.loop-number-item.is (T.files c.args.tree.now) (T.files c.loop-number.tree) (T.files c.put_file.new.tree) (c.loop-number.invariant.only told) (c.in_ok-put_file.ensures.only told);
      written = λ told. written_more items i file c.loop-number-test.true c.loop-number-item.is (T.files c.loop-number.tree) (T.files c.put_file.new.tree)
          (path_not_before items i file c.loop-number-test.true c.loop-number-item.is (omega arith) c.loop-number.invariant.small distinct)
          (c.loop-number.invariant.written told) (c.in_ok-put_file.ensures.only told) (c.in_ok-put_file.ensures.written told);
    }

pub returns-in_err-put_file-clause-only : goal.returns-in_err-put_file-clause-only
returns-in_err-put_file-clause-only g c = λ told.
    let T = g.T.Tree in
    let items = c.as_slice-number-items.result.now in
    let i = c.loop-number.number-index in
    rw c.as_slice-number-items.ensures at
    (only_all items (i + 1) _ _ (only_more items i c.loop-number-item.result c.loop-number-test.true c.loop-number-item.is (T.files c.args.tree.now) (T.files c.loop-number.tree) (T.files c.put_file.new.tree) (c.loop-number.invariant.only told) (c.in_err-put_file.ensures.only told)))

pub returns-in_err-put_file-clause-kept : goal.returns-in_err-put_file-clause-kept
returns-in_err-put_file-clause-kept g c = λ told.
    files_kept _ _ c.args.files.now (c.requires.absent told) (returns-in_err-put_file-clause-only g c told)

pub returns-in_err-put_file-clause-stays : goal.returns-in_err-put_file-clause-stays
returns-in_err-put_file-clause-stays g c = λ told.
    output_stays_put _ _ c.args.files.now (c.requires.unnamed told) (returns-in_err-put_file-clause-only g c told)

pub returns-clause-only : goal.returns-clause-only
returns-clause-only g c = λ told.
    let items = c.as_slice-number-items.result.now in
    rw c.as_slice-number-items.ensures at (only_all items c.loop-number.number-index _ _ (c.loop-number.invariant.only told))

pub returns-clause-kept : goal.returns-clause-kept
returns-clause-kept g c = λ told. files_kept _ _ c.args.files.now (c.requires.absent told) (returns-clause-only g c told)

pub returns-clause-stays : goal.returns-clause-stays
returns-clause-stays g c = λ told. output_stays_put _ _ c.args.files.now (c.requires.unnamed told) (returns-clause-only g c told)

pub returns-in_err-put_file-clause-outside : goal.returns-in_err-put_file-clause-outside
returns-in_err-put_file-clause-outside g c = λ told. put_outside _ _ c.args.files.now (returns-in_err-put_file-clause-only g c told)

pub returns-clause-outside : goal.returns-clause-outside
returns-clause-outside g c = λ told. put_outside _ _ c.args.files.now (returns-clause-only g c told)
