use Rattle.std.proofs.Common.{◌∙◌, is_some, ap}
use Rattle.output_store.proofs.ExportLemmas.{put_as_one}
use Rattle.output_store.proofs.exporting.export_one.Goals as goal

pub returns-clause-put : goal.returns-clause-put
returns-clause-put g c = λ told. c.in_ok-put.ensures.put ∙ ap is_some (c.in_ok-found.ensures.bytes told)

pub returns-clause-one : goal.returns-clause-one
returns-clause-one g c = λ told.
    put_as_one c.args.folder.now c.args.file.now (g.T.Tree.files c.args.tree.now) (g.T.Tree.files c.read_stored.new.tree) (g.T.Tree.files c.put_found.new.tree) c.in_ok-found.found c.as_str.result.now
    (c.in_ok-found.ensures.same told) (c.in_ok-found.ensures.bytes told) c.as_str.ensures (c.in_ok-put.ensures.one told)
