use Rattle.std.proofs.Common.{Ok, Err, sym, subst}
use Rattle.std.specs.Prelude.{not}
use Rattle.std.proofs.lemmas.Result.{err_from_is_err_and}
use Rattle.tree_store.specs.declared.config.RawLists.{RawLists}
use Rattle.tree_store.specs.Config as tree
use Rattle.project_reading.specs.Configuration.{within, lists_in, with_lists, lists_behind, files_of}
use Rattle.project_reading.specs.Entering.{of_read, ComesAs, RefusesAs, shown_configuration}
use Rattle.project_reading.proofs.Refusing.{refuses_then}
use Rattle.project_reading.proofs.Settling.{read_as, files_behind, files_are}
use Rattle.project_reading.proofs.configuration.read_files.Goals as goal

pub returns-in_err-config-clause-files : goal.returns-in_err-config-clause-files
returns-in_err-config-clause-files g c = λ told.
    let project = g.T.Tree.files c.args.tree.now in
    let fault = c.in_err-config.field-0.0 in
    let p = err_from_is_err_and c.from_residual.result c.from_residual.ensures.1 in
    subst (ComesAs (files_of project) shown_configuration) (sym p.1)
    (subst (RefusesAs (files_of project)) (sym p.2) (refuses_then (within (tree.config_of project)) (of_read fault) (lists_behind project) (read_as (tree.config_of project) fault (c.in_err-config.ensures.answer told))))

pub returns-in_err-lists-clause-files : goal.returns-in_err-lists-clause-files
returns-in_err-lists-clause-files g c = λ told.
    let T = g.T.Tree in
    let project = T.files c.args.tree.now in
    let config = c.in_ok-config.config in
    let fault = c.in_err-lists.field-0.0 in
    let p = err_from_is_err_and c.from_residual-in_err-lists.result c.from_residual-in_err-lists.ensures.1 in
    let answer = subst (λ o. tree.Answers {A = RawLists} (Err fault) (tree.lists_of (not o) project)) c.in_ok-ordered.ensures
    (subst (λ files. tree.Answers {A = RawLists} (Err fault) (tree.lists_of (not c.in_ok-ordered.ordered) files)) (c.in_ok-config.ensures.same told) (c.in_err-lists.ensures.answer told)) in
    subst (ComesAs (files_of project) shown_configuration) (sym p.1)
    (subst (RefusesAs (files_of project)) (sym p.2) (subst (λ o. RefusesAs o (of_read fault)) (sym (files_behind project config (c.in_ok-config.ensures.answer told)))
    (refuses_then (within (lists_in project config)) (of_read fault) (with_lists config) (read_as (lists_in project config) fault answer))))

pub returns-clause-files : goal.returns-clause-files
returns-clause-files g c = λ told.
    let T = g.T.Tree in
    let project = T.files c.args.tree.now in
    let lists = c.in_ok-lists.lists in
    files_are project c.in_ok-config.config (c.in_ok-config.ensures.answer told) lists
    (subst (λ o. tree.Answers (Ok lists) (tree.lists_of (not o) project)) c.in_ok-ordered.ensures
    (subst (λ files. tree.Answers (Ok lists) (tree.lists_of (not c.in_ok-ordered.ordered) files)) (c.in_ok-config.ensures.same told) (c.in_ok-lists.ensures.answer told)))

pub returns-clause-within : goal.returns-clause-within
returns-clause-within g c = record {
  config = c.in_ok-config.ensures.short;
  lists = subst (λ o. tree.AreLists (not o) c.in_ok-lists.lists) c.in_ok-ordered.ensures c.in_ok-lists.ensures.lists;
}
