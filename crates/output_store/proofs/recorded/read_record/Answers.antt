use Rattle.std.proofs.Common.{◌∙◌, Option, ap, sym, subst, IfSome}
use Rattle.record_forms.specs.declared.record.Record.{Record}
use Rattle.output_store.specs.Reading.{record_held, IsReadable}
use Rattle.output_store.proofs.RecordReading.{record_held-file}
use Rattle.output_store.proofs.recorded.read_record.Goals as goal

pub returns-clause-record : goal.returns-clause-record
returns-clause-record g c = λ told. c.record_held.ensures ∙ ap record_held (c.in_ok-file.ensures.file told) ∙ record_held-file (g.T.Tree.files c.args.tree.now)

pub returns-clause-readable : goal.returns-clause-readable
returns-clause-readable g c = subst (λ (o : Option Record). IfSome o IsReadable) (sym c.record_held.ensures) c.in_ok-file.ensures.readable
