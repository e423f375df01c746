use Rattle.std.proofs.Common.{◌≡◌, Ok, Err, List, map, sym, ap, subst, ◌∙◌}
use Rattle.std.proofs.lemmas.Result.{err_from_is_err_and}
use Rattle.apt_outside.specs.Files.{Files}
use Rattle.tree_store.specs.declared.sources.RawSource.{RawSource}
use Rattle.tree_store.specs.Sources.{sources_of, Gives}
use Rattle.project_units.specs.Plans.{plan_of}
use Rattle.project_reading.specs.Project.{shown_project, read_of, raw_files, tables_of, named}
use Rattle.project_reading.specs.Verdicts.{verdict}
use Rattle.project_reading.specs.Entering.{of_sources, ComesAs, RefusesAs, shown_configuration}
use Rattle.project_reading.proofs.ProjectLemmas.{sources_as, refuses_files, refuses_sources, refuses_plan, refuses_tables, project_is, shown-kept, tables-kept, few-kept, key-kept, keeps-all}
use Rattle.project_reading.proofs.project.read_project.Goals as goal

pub returns-in_err-raw-clause-read : goal.returns-in_err-raw-clause-read
returns-in_err-raw-clause-read g c = λ told.
    let project = g.T.Tree.files c.args.tree.now in
    let read = read_of c.args.options.now project in
    let p = err_from_is_err_and c.from_residual.result c.from_residual.ensures.1 in
    subst (ComesAs read shown_project) (sym p.1)
    (subst (RefusesAs read) (sym (ap verdict p.2)) (refuses_files c.args.options.now project (verdict c.in_err-raw.field-0.0) (c.in_err-raw.ensures.files told)))

pub returns-in_err-files-clause-read : goal.returns-in_err-files-clause-read
returns-in_err-files-clause-read g c = λ told.
    let project = g.T.Tree.files c.args.tree.now in
    let read = read_of c.args.options.now project in
    let fault = c.in_err-files.field-0.0 in
    let p = err_from_is_err_and c.from_residual-in_err-files.result c.from_residual-in_err-files.ensures.1 in
    let gives : Gives (sources_of project) (Err fault) = subst (λ (files : Files). Gives (sources_of files) (Err fault)) (c.in_ok-raw.ensures.same told) (c.in_err-files.ensures.sources told) in
    subst (ComesAs read shown_project) (sym p.1)
    (subst (RefusesAs read) (sym p.2) (refuses_sources c.args.options.now project (shown_configuration c.in_ok-raw.raw) (c.in_ok-raw.ensures.files told) (of_sources fault) (sources_as (sources_of project) fault gives)))

pub returns-in_err-key-clause-read : goal.returns-in_err-key-clause-read
returns-in_err-key-clause-read g c = λ told.
    let project = g.T.Tree.files c.args.tree.now in
    let read = read_of c.args.options.now project in
    let p = err_from_is_err_and c.from_residual-in_err-key.result c.from_residual-in_err-key.ensures.1 in
    let given : sources_of project ≡ Ok c.in_ok-files.files = subst (λ (files : Files). sources_of files ≡ Ok c.in_ok-files.files) (c.in_ok-raw.ensures.same told) (c.in_ok-files.ensures.sources told) in
    subst (ComesAs read shown_project) (sym p.1)
    (subst (RefusesAs read) (sym (ap verdict p.2)) (refuses_plan c.args.options.now project (shown_configuration c.in_ok-raw.raw) (c.in_ok-raw.ensures.files told) c.in_ok-files.files given
    (verdict c.in_err-key.field-0.0) c.in_err-key.ensures.plan))

pub returns-in_err-tables-clause-read : goal.returns-in_err-tables-clause-read
returns-in_err-tables-clause-read g c = λ told.
    let project = g.T.Tree.files c.args.tree.now in
    let read = read_of c.args.options.now project in
    let p = err_from_is_err_and c.from_residual-in_err-tables.result c.from_residual-in_err-tables.ensures.1 in
    let given : sources_of project ≡ Ok c.in_ok-files.files = subst (λ (files : Files). sources_of files ≡ Ok c.in_ok-files.files) (c.in_ok-raw.ensures.same told) (c.in_ok-files.ensures.sources told) in
    let files = c.in_ok-files.files in
    let refuses : RefusesAs (tables_of files) (verdict c.in_err-tables.field-0.0) =
    subst (λ (stubs : List RawSource). RefusesAs (tables_of (raw_files stubs files.sources)) (verdict c.in_err-tables.field-0.0)) c.as_slice.ensures c.in_err-tables.ensures.tables in
    subst (ComesAs read shown_project) (sym p.1)
    (subst (RefusesAs read) (sym (ap verdict p.2)) (refuses_tables c.args.options.now project (shown_configuration c.in_ok-raw.raw) (c.in_ok-raw.ensures.files told) files given
    (plan_of c.in_ok-key.key) c.in_ok-key.ensures.plan (verdict c.in_err-tables.field-0.0) refuses))

pub returns-clause-read : goal.returns-clause-read
returns-clause-read g c = λ told.
    let project = g.T.Tree.files c.args.tree.now in
    let given : sources_of project ≡ Ok c.in_ok-files.files = subst (λ (files : Files). sources_of files ≡ Ok c.in_ok-files.files) (c.in_ok-raw.ensures.same told) (c.in_ok-files.ensures.sources told) in
    let files = c.in_ok-files.files in
    let entered : tables_of files ≡ Ok c.in_ok-tables.tables = ap (λ (stubs : List RawSource). tables_of (raw_files stubs files.sources)) (sym c.as_slice.ensures) ∙ c.in_ok-tables.ensures.tables in
    project_is c.args.options.now project (shown_configuration c.in_ok-raw.raw) (c.in_ok-raw.ensures.files told) files given (plan_of c.in_ok-key.key) c.in_ok-key.ensures.plan
    c.in_ok-tables.tables entered
    ∙ ap Ok (sym (shown-kept c.in_ok-key.key (map named c.in_ok-files.files.stubs) c.in_ok-tables.tables c.in_ok-kept.field-0 c.in_ok-kept.ensures.key c.in_ok-kept.ensures.initial))

pub returns-clause-keeps : goal.returns-clause-keeps
returns-clause-keeps g c =
    let files = c.in_ok-files.files in
    let entered : tables_of files ≡ Ok c.in_ok-tables.tables = ap (λ (stubs : List RawSource). tables_of (raw_files stubs files.sources)) (sym c.as_slice.ensures) ∙ c.in_ok-tables.ensures.tables in
    keeps-all g.T.Tree.tells c.args.options.now (g.T.Tree.files c.args.tree.now) c.in_ok-kept.field-0 (record {
      configuration = shown_configuration c.in_ok-raw.raw;
      is_configuration = c.in_ok-raw.ensures.files;
      given = files;
      are_given = λ told. subst (λ (held : Files). sources_of held ≡ Ok files) (c.in_ok-raw.ensures.same told) (c.in_ok-files.ensures.sources told);
      key = key-kept c.in_ok-key.key (map named files.stubs) c.in_ok-tables.tables c.in_ok-kept.field-0 c.in_ok-kept.ensures.key c.in_ok-kept.ensures.initial c.args.options.now (shown_configuration c.in_ok-raw.raw) c.in_ok-key.ensures.whole;
      tables = tables-kept c.in_ok-key.key (map named files.stubs) c.in_ok-tables.tables c.in_ok-kept.field-0 c.in_ok-kept.ensures.key c.in_ok-kept.ensures.initial (tables_of files) c.in_ok-kept.ensures.stubs entered;
    })

pub returns-clause-few : goal.returns-clause-few
returns-clause-few g c =
    few-kept c.in_ok-key.key (map named c.in_ok-files.files.stubs) c.in_ok-tables.tables c.in_ok-kept.field-0 c.in_ok-kept.ensures.key c.in_ok-kept.ensures.initial c.in_ok-key.ensures.few
