use Rattle.std.proofs.Common.{◌+◌, ◌∙◌, List, length, ap, sym, if◌then◌else◌, refl, arith}
use Rattle.std.proofs.lemmas.List.{take_all}
use Rattle.output_store.specs.declared.named.NamedFile.{NamedFile}
use Rattle.output_store.specs.Output.{published_by}
use Rattle.output_store.proofs.ExportLemmas.{front_of, exports_begin, exported_next, count_next, first_exported, exports_as}
use Rattle.output_store.proofs.exporting.export_each.Goals as goal
use Rattle.output_store.proofs.exporting.export_each.Goals.{then-put, else-put}

pub loop-file-init : goal.loop-file-init
loop-file-init g c = record { later = omega arith; small = omega arith; counted = λ told. refl; put = λ told. exports_begin c.args.folder.now (g.T.Tree.files c.args.tree.now) }

pub loop-file-preserved : goal.loop-file-preserved
loop-file-preserved g c =
    let T = g.T.Tree in
    let old = T.files c.args.tree.now in
    let mid = T.files c.loop-file.tree in
    let folder = c.args.folder.now in
    let items = c.args.files.now in
    let i = c.loop-file.file-index in
    record {
      later = omega (arith, c.loop-file.invariant.later, c.export_one.ensures.cause.later);
      small = elim c.if-put.branch [ then-put w ↦ omega arith | else-put w ↦ omega arith ];
      counted = λ told.
          let more = count_next folder c.requires old items i c.file-item.result c.loop-file-test.true c.file-item.is mid (c.loop-file.invariant.put told) c.in_ok-put.put (c.in_ok-put.ensures.put told) in
          elim c.if-put.branch [
            | then-put w ↦ w.count-is ∙ ap (λ n. n + 1) (c.loop-file.invariant.counted told) ∙ sym (more ∙ ap (λ b. length (front_of folder c.requires old items i) + (if b then 1 else 0)) w.if-put.true)
            | else-put w ↦ w.count-is ∙ (c.loop-file.invariant.counted told) ∙ omega (arith, more ∙ ap (λ b. length (front_of folder c.requires old items i) + (if b then 1 else 0)) w.if-put.false)
          ];
      put = λ told. exported_next folder c.requires old items i c.file-item.result c.loop-file-test.true c.file-item.is mid (c.loop-file.invariant.put told) (T.files c.export_one.new.tree) (c.in_ok-put.ensures.one told);
    }

pub returns-in_err-put-clause-first : goal.returns-in_err-put-clause-first
returns-in_err-put-clause-first g c = λ told.
    let T = g.T.Tree in
    first_exported c.args.folder.now c.requires (T.files c.args.tree.now) c.args.files.now c.loop-file.file-index (T.files c.export_one.new.tree) (c.in_err-put.ensures.err told ∙ c.loop-file.invariant.put told)

pub returns-clause-first : goal.returns-clause-first
returns-clause-first g c = λ told.
    first_exported c.args.folder.now c.requires (g.T.Tree.files c.args.tree.now) c.args.files.now c.loop-file.file-index _ (c.loop-file.invariant.put told)

pub returns-clause-count : goal.returns-clause-count
returns-clause-count g c = λ told.
    c.loop-file.invariant.counted told ∙ ap (λ (ns : List NamedFile). length (published_by (g.T.Tree.files c.args.tree.now) ns)) (take_all _ _ c.loop-file-test.false)

pub returns-clause-all : goal.returns-clause-all
returns-clause-all g c = λ told.
    let old = g.T.Tree.files c.args.tree.now in
    exports_as c.args.folder.now _ _ _ _ _ (ap (published_by old) (take_all _ _ c.loop-file-test.false)) refl (c.loop-file.invariant.put told)
