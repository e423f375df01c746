use Rattle.std.proofs.Common.{◌≡◌, ◌∙◌, List, map, string_bytes, refl, ap, subst}
use Rattle.apt_outside.specs.Files.{Files}
use Rattle.output_store.specs.Reading.{unkept, missing_of, stored_of, unnamed_paths, FitNamed}
use Rattle.output_store.specs.declared.named.NamedFile.{NamedFile}
use Rattle.output_store.proofs.OutputReading.{named_as_read}
use Rattle.output_store.proofs.RemovalLemmas.{all_as, first_as, first_of_none, unnamed_as_listed}
use Rattle.output_store.proofs.output.read_store.Goals as goal

pub returns-clause-missing : goal.returns-clause-missing
returns-clause-missing g c = λ told.
    c.in_ok-files.ensures.missing told ∙ ap (λ (files : Files). missing_of files c.as_slice.result.now) (c.in_ok-paths.ensures.same told) ∙ ap (missing_of (g.T.Tree.files c.args.tree.now)) (c.as_slice.ensures ∙ c.in_ok-named.ensures)

pub returns-clause-stored : goal.returns-clause-stored
returns-clause-stored g c = λ told.
    c.in_ok-files.ensures.stored told ∙ ap (λ (files : Files). stored_of files c.as_slice.result.now) (c.in_ok-paths.ensures.same told) ∙ ap (stored_of (g.T.Tree.files c.args.tree.now)) (c.as_slice.ensures ∙ c.in_ok-named.ensures)

pub returns-clause-all : goal.returns-clause-all
returns-clause-all g c = λ told.
    let old = g.T.Tree.files c.args.tree.now in
    let unnamed : unkept c.in_ok-kept.kept (map string_bytes c.as_slice-3.result.now) ≡ unnamed_paths old =
    unnamed_as_listed old c.as_slice-2.result.now c.in_ok-kept.kept (map string_bytes c.as_slice-3.result.now) (c.as_slice-2.ensures ∙ c.in_ok-named.ensures ∙ named_as_read old c.args.file.now (c.requires told)) c.in_ok-kept.ensures (ap (map string_bytes) c.as_slice-3.ensures.value ∙ c.in_ok-paths.ensures.paths told) in
    all_as _ _ _ _ _ unnamed (c.in_ok-files.ensures.same told ∙ c.in_ok-paths.ensures.same told) (c.in_ok-remove_others.ensures.all told)

pub returns-clause-first : goal.returns-clause-first
returns-clause-first g c = λ told.
    let old = g.T.Tree.files c.args.tree.now in
    let unnamed : unkept c.in_ok-kept.kept (map string_bytes c.as_slice-3.result.now) ≡ unnamed_paths old =
    unnamed_as_listed old c.as_slice-2.result.now c.in_ok-kept.kept (map string_bytes c.as_slice-3.result.now) (c.as_slice-2.ensures ∙ c.in_ok-named.ensures ∙ named_as_read old c.args.file.now (c.requires told)) c.in_ok-kept.ensures (ap (map string_bytes) c.as_slice-3.ensures.value ∙ c.in_ok-paths.ensures.paths told) in
    first_as _ _ _ _ _ unnamed (c.in_ok-files.ensures.same told ∙ c.in_ok-paths.ensures.same told) (c.in_ok-remove_others.ensures.first told)

pub returns-in_err-remove_others-clause-first : goal.returns-in_err-remove_others-clause-first
returns-in_err-remove_others-clause-first g c = λ told.
    let old = g.T.Tree.files c.args.tree.now in
    let unnamed : unkept c.in_ok-kept.kept (map string_bytes c.as_slice-3.result.now) ≡ unnamed_paths old =
    unnamed_as_listed old c.as_slice-2.result.now c.in_ok-kept.kept (map string_bytes c.as_slice-3.result.now) (c.as_slice-2.ensures ∙ c.in_ok-named.ensures ∙ named_as_read old c.args.file.now (c.requires told)) c.in_ok-kept.ensures (ap (map string_bytes) c.as_slice-3.ensures.value ∙ c.in_ok-paths.ensures.paths told) in
    first_as _ _ _ _ _ unnamed (c.in_ok-files.ensures.same told ∙ c.in_ok-paths.ensures.same told) (c.in_err-remove_others.ensures.first told)

pub returns-in_err-named-clause-first : goal.returns-in_err-named-clause-first
returns-in_err-named-clause-first g c = λ told. first_of_none _ _ _ refl

pub returns-in_err-paths-clause-first : goal.returns-in_err-paths-clause-first
returns-in_err-paths-clause-first g c = λ told. first_of_none _ _ _ (c.in_err-paths.ensures.same told)

pub returns-in_err-files-clause-first : goal.returns-in_err-files-clause-first
returns-in_err-files-clause-first g c = λ told. first_of_none _ _ _ (c.in_err-files.ensures.same told ∙ c.in_ok-paths.ensures.same told)

pub returns-in_err-kept-clause-first : goal.returns-in_err-kept-clause-first
returns-in_err-kept-clause-first g c = λ told. first_of_none _ _ _ (c.in_ok-files.ensures.same told ∙ c.in_ok-paths.ensures.same told)

pub returns-clause-fit : goal.returns-clause-fit
returns-clause-fit g c = subst (λ (named : List NamedFile). FitNamed named c.in_ok-files.files.missing c.in_ok-files.files.stored) (c.as_slice.ensures ∙ c.in_ok-named.ensures) c.in_ok-files.ensures.fit
