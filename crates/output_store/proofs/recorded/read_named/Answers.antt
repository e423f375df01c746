use Rattle.std.proofs.Common.{◌∙◌}
use Rattle.output_store.proofs.OutputReading.{named_as_read}
use Rattle.output_store.proofs.recorded.read_named.Goals as goal

pub returns-in-Ok-clause-named : goal.returns-in-Ok-clause-named
returns-in-Ok-clause-named g c = λ told. c.in-Ok.ensures ∙ named_as_read (g.T.Tree.files c.args.tree.now) c.in_ok-file.file (c.in_ok-file.ensures.file told)
