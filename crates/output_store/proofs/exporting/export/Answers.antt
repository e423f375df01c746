use Rattle.std.proofs.Common.{◌∙◌, length, ap}
use Rattle.output_store.proofs.ExportLemmas.{exports_as, first_exports_as, first_of_nothing, first_inside, exports_stay, published_as_read}
use Rattle.output_store.proofs.exporting.export.Goals as goal

pub returns-clause-count : goal.returns-clause-count
returns-clause-count g c = λ told.
    c.in_ok-count.ensures.count told ∙ ap length (published_as_read _ (g.T.Tree.files c.args.tree.now) c.as_slice.result.now (c.in_ok-named.ensures.same told) (c.as_slice.ensures ∙ c.in_ok-named.ensures.named told))

pub returns-clause-all : goal.returns-clause-all
returns-clause-all g c = λ told.
    let published = published_as_read _ (g.T.Tree.files c.args.tree.now) c.as_slice.result.now (c.in_ok-named.ensures.same told) (c.as_slice.ensures ∙ c.in_ok-named.ensures.named told) in
    exports_as c.args.folder.now _ _ _ _ _ published (c.in_ok-named.ensures.same told) (c.in_ok-count.ensures.all told)

pub returns-clause-first : goal.returns-clause-first
returns-clause-first g c = λ told.
    let published = published_as_read _ (g.T.Tree.files c.args.tree.now) c.as_slice.result.now (c.in_ok-named.ensures.same told) (c.as_slice.ensures ∙ c.in_ok-named.ensures.named told) in
    first_exports_as c.args.folder.now _ _ _ _ _ published (c.in_ok-named.ensures.same told) (c.in_ok-count.ensures.first told)

pub returns-clause-inside : goal.returns-clause-inside
returns-clause-inside g c = λ told. first_inside c.args.folder.now _ _ _ (returns-clause-first g c told)

pub returns-clause-stays : goal.returns-clause-stays
returns-clause-stays g c = λ told. exports_stay c.args.folder.now _ _ c.requires (returns-clause-inside g c told)

pub returns-in_err-count-clause-first : goal.returns-in_err-count-clause-first
returns-in_err-count-clause-first g c = λ told.
    let published = published_as_read _ (g.T.Tree.files c.args.tree.now) c.as_slice.result.now (c.in_ok-named.ensures.same told) (c.as_slice.ensures ∙ c.in_ok-named.ensures.named told) in
    first_exports_as c.args.folder.now _ _ _ _ _ published (c.in_ok-named.ensures.same told) (c.in_err-count.ensures.first told)

pub returns-in_err-count-clause-inside : goal.returns-in_err-count-clause-inside
returns-in_err-count-clause-inside g c = λ told. first_inside c.args.folder.now _ _ _ (returns-in_err-count-clause-first g c told)

pub returns-in_err-count-clause-stays : goal.returns-in_err-count-clause-stays
returns-in_err-count-clause-stays g c = λ told. exports_stay c.args.folder.now _ _ c.requires (returns-in_err-count-clause-inside g c told)

pub returns-in_err-named-clause-first : goal.returns-in_err-named-clause-first
returns-in_err-named-clause-first g c = λ told. first_of_nothing c.args.folder.now _ _ _ (c.in_err-named.ensures.same told)

pub returns-in_err-named-clause-inside : goal.returns-in_err-named-clause-inside
returns-in_err-named-clause-inside g c = λ told. first_inside c.args.folder.now _ _ _ (returns-in_err-named-clause-first g c told)

pub returns-in_err-named-clause-stays : goal.returns-in_err-named-clause-stays
returns-in_err-named-clause-stays g c = λ told. exports_stay c.args.folder.now _ _ c.requires (returns-in_err-named-clause-inside g c told)
