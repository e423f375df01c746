use Rattle.std.proofs.Common.{◌∙◌}
use Rattle.output_store.proofs.RecordReading.{file_as_read}
use Rattle.output_store.proofs.recorded.read_record_file.Goals as goal

pub returns-clause-file : goal.returns-clause-file
returns-clause-file g c = λ told. c.in_ok-file.ensures.file ∙ file_as_read (g.T.Tree.files c.args.tree.now) c.in_ok-found.found (c.in_ok-found.ensures.bytes told)
