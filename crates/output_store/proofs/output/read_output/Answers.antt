use Rattle.std.proofs.Common.{◌∙◌, ap, sym, subst}
use Rattle.apt_outside.specs.Files.{Files}
use Rattle.output_store.specs.Output.{output_of}
use Rattle.output_store.specs.Reading.{record_file, missing_of, stored_of, named_by, KeepsToRecord}
use Rattle.output_store.proofs.OutputReading.{raw_as_read, keeps_to_record}
use Rattle.output_store.proofs.RemovalLemmas.{unnamed_all_as, unnamed_first_as, first_of_none, output_stays, unnamed_outside, store_is_named}
use Rattle.output_store.proofs.output.read_output.Goals as goal

pub read_store-requires : goal.read_store-requires
read_store-requires g c = λ told. c.in_ok-file.ensures.file told ∙ ap record_file (sym (c.in_ok-file.ensures.same told))

pub returns-in-Ok-clause-output : goal.returns-in-Ok-clause-output
returns-in-Ok-clause-output g c = λ told.
    let old = g.T.Tree.files c.args.tree.now in
    let same = c.in_ok-file.ensures.same told in
    c.output_with.ensures
    ∙ raw_as_read old c.in_ok-file.file c.in-Ok.files.missing c.in-Ok.files.stored (c.in_ok-file.ensures.file told)
    (c.in-Ok.ensures.missing told ∙ ap (λ (files : Files). missing_of files (named_by c.in_ok-file.file)) same)
    (c.in-Ok.ensures.stored told ∙ ap (λ (files : Files). stored_of files (named_by c.in_ok-file.file)) same)

pub returns-in-Ok-clause-all : goal.returns-in-Ok-clause-all
returns-in-Ok-clause-all g c = λ told. unnamed_all_as _ _ _ (c.in_ok-file.ensures.same told) (c.in-Ok.ensures.all told)

pub returns-in-Ok-clause-named : goal.returns-in-Ok-clause-named
returns-in-Ok-clause-named g c = λ told. store_is_named _ _ (returns-in-Ok-clause-all g c told)

pub returns-in-Ok-clause-first : goal.returns-in-Ok-clause-first
returns-in-Ok-clause-first g c = λ told. unnamed_first_as _ _ _ (c.in_ok-file.ensures.same told) (c.in-Ok.ensures.first told)

pub returns-in-Ok-clause-stays : goal.returns-in-Ok-clause-stays
returns-in-Ok-clause-stays g c = λ told. output_stays _ _ (returns-in-Ok-clause-first g c told)

pub returns-in-Err-clause-first : goal.returns-in-Err-clause-first
returns-in-Err-clause-first g c = λ told. unnamed_first_as _ _ _ (c.in_ok-file.ensures.same told) (c.in-Err.ensures.first told)

pub returns-in-Err-clause-stays : goal.returns-in-Err-clause-stays
returns-in-Err-clause-stays g c = λ told. output_stays _ _ (returns-in-Err-clause-first g c told)

pub returns-in_err-file-clause-first : goal.returns-in_err-file-clause-first
returns-in_err-file-clause-first g c = λ told. first_of_none _ _ _ (c.in_err-file.ensures.same told)

pub returns-in_err-file-clause-stays : goal.returns-in_err-file-clause-stays
returns-in_err-file-clause-stays g c = λ told. ap output_of (c.in_err-file.ensures.same told)

pub returns-in-Ok-clause-outside : goal.returns-in-Ok-clause-outside
returns-in-Ok-clause-outside g c = λ told. unnamed_outside _ _ (returns-in-Ok-clause-first g c told)

pub returns-in-Err-clause-outside : goal.returns-in-Err-clause-outside
returns-in-Err-clause-outside g c = λ told. unnamed_outside _ _ (returns-in-Err-clause-first g c told)

pub returns-in_err-file-clause-outside : goal.returns-in_err-file-clause-outside
returns-in_err-file-clause-outside g c = λ told. unnamed_outside _ _ (returns-in_err-file-clause-first g c told)

pub returns-in-Ok-clause-fit : goal.returns-in-Ok-clause-fit
returns-in-Ok-clause-fit g c = subst KeepsToRecord (sym c.output_with.ensures) (keeps_to_record c.in_ok-file.file c.in-Ok.files.missing c.in-Ok.files.stored c.in_ok-file.ensures.readable c.in-Ok.ensures.fit)
