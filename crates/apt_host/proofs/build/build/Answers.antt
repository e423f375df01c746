use Rattle.std.proofs.Common.{◌≡◌, ◌+◌, ap, sym, ◌∙◌, subst, refl, map}
use Rattle.std.proofs.lemmas.Bool.{false≢true}
use Rattle.std.proofs.lemmas.Result.{err_from_is_err_and}
use Rattle.apt_outside.specs.Count.{Rose, Told}
use Rattle.tree_store.specs.Storing.{AreTaken}
use Rattle.project_reading.specs.Project.{shown_project}
use Rattle.project_reading.specs.Verdicts.{Memory, verdict, is_finished, is_tree, is_sink, is_children, fails}
use Rattle.project_reading.specs.Endings.{of_store}
use Rattle.apt_host.specs.BuildEndings.{closed}
use Rattle.apt_host.specs.Making.{concluding_report}
use Rattle.apt_host.specs.Listed.{numbered_of, GainsFirst}
use Rattle.apt_host.specs.Texts.{IsFront, Adds}
use Rattle.apt_host.specs.Promises.{Builds, processors_in}
use Rattle.apt_host.proofs.Early.{unfinished_early, no_sink_early, store_early, store_refuses, store_due, store_unnamed, no_child_concluded, own_concluded}
use Rattle.apt_host.proofs.Writing.{begins_with_nothing}
use Rattle.apt_host.proofs.MakingLemmas.{names_are, count_tries}
use Rattle.apt_host.proofs.Building.{distinct_made, absent_made, reports_finished}
use Rattle.apt_host.proofs.Keeping.{builds_unread, builds_refused, builds_finished}
use Rattle.apt_host.proofs.build.build.Goals as goal

-- ---- what it does

pub returns-in_err-project-clause-builds : goal.returns-in_err-project-clause-builds
returns-in_err-project-clause-builds g c =
    let T = g.T.Tree in
    let C = g.C.Children in
    let options = c.args.options.now in
    let old = T.files c.args.tree.now in
    let new = T.files c.read_project.new.tree in
    let state = C.state c.args.children.now in
    let rose = Rose (C.faults c.args.children.now) (C.faults c.args.children.now) in
    let status = c.in_err-project.field-0.0 in
    let p = err_from_is_err_and c.from_residual.result c.from_residual.ensures.1 in
    let same : closed c.from_residual.result ≡ verdict status = ap closed p.1 ∙ ap verdict p.2 in
    let e = c.in_err-project.ensures in
    subst (λ v. Builds T.tells C.tells options old new state state rose v) (sym same)
    (builds_unread T.tells C.tells options old new state rose (verdict status) e.early e.unnamed e.due e.read e.same)

pub returns-in_err-names-clause-builds : goal.returns-in_err-names-clause-builds
returns-in_err-names-clause-builds g c =
    let T = g.T.Tree in
    let C = g.C.Children in
    let options = c.args.options.now in
    let old = T.files c.args.tree.now in
    let new = T.files c.read_project.new.tree in
    let state = C.state c.args.children.now in
    let rose = Rose (C.faults c.args.children.now) (C.faults c.args.children.now) in
    let p = err_from_is_err_and c.from_residual-in_err-names.result c.from_residual-in_err-names.ensures.1 in
    let same : closed c.from_residual-in_err-names.result ≡ Memory = ap closed p.1 ∙ ap verdict p.2 in
    subst (λ v. Builds T.tells C.tells options old new state state rose v) (sym same)
    (builds_unread T.tells C.tells options old new state rose Memory tt refl tt (λ told. tt) c.in_ok-project.ensures.same)

pub returns-in_err-taken-clause-builds : goal.returns-in_err-taken-clause-builds
returns-in_err-taken-clause-builds g c =
    let T = g.T.Tree in
    let C = g.C.Children in
    let options = c.args.options.now in
    let old = T.files c.args.tree.now in
    let new = T.files c.taken_numbers.new.tree in
    let state = C.state c.args.children.now in
    let rose = Rose (C.faults c.args.children.now) (C.faults c.args.children.now) in
    let fault = c.in_err-taken.field-0.0 in
    let p = err_from_is_err_and c.from_residual-in_err-taken.result c.from_residual-in_err-taken.ensures.1 in
    let same : closed c.from_residual-in_err-taken.result ≡ verdict (of_store fault) = ap closed p.1 ∙ ap verdict p.2 in
    subst (λ v. Builds T.tells C.tells options old new state state rose v) (sym same)
    (builds_unread T.tells C.tells options old new state rose (verdict (of_store fault)) (store_early fault) (store_unnamed fault) (store_due fault) (λ told. store_refuses _ fault)
    (λ told. c.in_err-taken.ensures.same told ∙ c.in_ok-project.ensures.same told))

pub returns-in_err-finished-clause-builds : goal.returns-in_err-finished-clause-builds
returns-in_err-finished-clause-builds g c =
    let T = g.T.Tree in
    let C = g.C.Children in
    let options = c.args.options.now in
    let old = T.files c.args.tree.now in
    let new = T.files c.taken_numbers.new.tree in
    let before = C.state c.args.children.now in
    let after = C.state c.make.new.children in
    let rose = Rose (C.faults c.args.children.now) (C.faults c.make.new.children) in
    let project = c.in_ok-project.project in
    let read = c.in_ok-project.ensures in
    let status = c.in_err-finished.field-0.0 in
    let made = c.in_err-finished.ensures in
    let p = err_from_is_err_and c.from_residual-in_err-finished.result c.from_residual-in_err-finished.ensures.1 in
    let same : closed c.from_residual-in_err-finished.result ≡ verdict status = ap closed p.1 ∙ ap verdict p.2 in
    subst (λ v. Builds T.tells C.tells options old new before after rose v) (sym same)
    (builds_refused T.tells C.tells options old (shown_project project) read.read project.key (λ told. sym (ap processors_in (read.read told))) read.few before after new
    (λ told. c.in_ok-taken.ensures.same told ∙ read.same told) rose status made.early made.uses made.refused made.due made.made)

pub returns-clause-builds : goal.returns-clause-builds
returns-clause-builds g c =
    let T = g.T.Tree in
    let C = g.C.Children in
    let options = c.args.options.now in
    let old = T.files c.args.tree.now in
    let mid = T.files c.taken_numbers.new.tree in
    let new = T.files c.conclude.new.tree in
    let before = C.state c.args.children.now in
    let after = C.state c.make.new.children in
    let rose = Rose (C.faults c.args.children.now) (C.faults c.make.new.children) in
    let project = c.in_ok-project.project in
    let read = c.in_ok-project.ensures in
    let taken = c.in_ok-taken.taken in
    let made = c.in_ok-finished.ensures in
    let ends = c.conclude.ensures in
    builds_finished T.tells C.tells options old (shown_project project) read.read project.key (λ told. sym (ap processors_in (read.read told))) read.few before after
    taken c.in_ok-finished.finished made.numbered made.made (closed c.conclude.result) mid new
    (λ told. subst (λ tree. AreTaken tree taken) (sym (c.in_ok-taken.ensures.same told)) (c.in_ok-taken.ensures.taken told))
    (λ told. c.in_ok-taken.ensures.same told ∙ read.same told) ends.placed ends.leaves rose ends.answer ends.concluded made.uses

-- ---- what is written

pub returns-in_err-project-clause-written : goal.returns-in_err-project-clause-written
returns-in_err-project-clause-written g c = λ told.
    let p = err_from_is_err_and c.from_residual.result c.from_residual.ensures.1 in
    let same : closed c.from_residual.result ≡ verdict c.in_err-project.field-0.0 = ap closed p.1 ∙ ap verdict p.2 in
    begins_with_nothing _ _ _ _ _ _ _ _ _ _ (ap is_finished same ∙ unfinished_early is_tree _ c.in_err-project.ensures.early) (ap (fails is_sink) same ∙ no_sink_early is_tree _ refl c.in_err-project.ensures.early)

pub returns-in_err-names-clause-written : goal.returns-in_err-names-clause-written
returns-in_err-names-clause-written g c = λ told.
    let p = err_from_is_err_and c.from_residual-in_err-names.result c.from_residual-in_err-names.ensures.1 in
    let same : closed c.from_residual-in_err-names.result ≡ Memory = ap closed p.1 ∙ ap verdict p.2 in
    begins_with_nothing _ _ _ _ _ _ _ _ _ _ (ap is_finished same) (ap (fails is_sink) same)

pub returns-in_err-taken-clause-written : goal.returns-in_err-taken-clause-written
returns-in_err-taken-clause-written g c = λ told.
    let p = err_from_is_err_and c.from_residual-in_err-taken.result c.from_residual-in_err-taken.ensures.1 in
    let same : closed c.from_residual-in_err-taken.result ≡ verdict (of_store c.in_err-taken.field-0.0) = ap closed p.1 ∙ ap verdict p.2 in
    begins_with_nothing _ _ _ _ _ _ _ _ _ _ (ap is_finished same ∙ unfinished_early is_tree _ (store_early c.in_err-taken.field-0.0)) (ap (fails is_sink) same ∙ no_sink_early is_tree _ refl (store_early c.in_err-taken.field-0.0))

pub returns-in_err-finished-clause-written : goal.returns-in_err-finished-clause-written
returns-in_err-finished-clause-written g c = λ told.
    let p = err_from_is_err_and c.from_residual-in_err-finished.result c.from_residual-in_err-finished.ensures.1 in
    let same : closed c.from_residual-in_err-finished.result ≡ verdict c.in_err-finished.field-0.0 = ap closed p.1 ∙ ap verdict p.2 in
    begins_with_nothing _ _ _ _ _ _ _ _ _ _ (ap is_finished same ∙ unfinished_early is_children _ c.in_err-finished.ensures.early) (ap (fails is_sink) same ∙ no_sink_early is_children _ refl c.in_err-finished.ensures.early)

pub returns-clause-written : goal.returns-clause-written
returns-clause-written g c = λ told.
    let T = g.T.Tree in
    let C = g.C.Children in
    let W = g.W.Sink in
    let adds = subst (λ names. Adds (λ text. IsFront ⊥ (concluding_report names c.in_ok-finished.finished) (closed c.conclude.result) text
    × Told T.tells (c.in_ok-finished.finished.errors ≡ 0 → GainsFirst (closed c.conclude.result) text (map numbered_of c.in_ok-finished.finished.files) (T.files c.taken_numbers.new.tree) (T.files c.conclude.new.tree))) (W.written c.args.output.now) (W.written c.conclude.new.output))
    (c.in_ok-names.ensures ∙ names_are c.in_ok-project.project.key.processors) (c.conclude.ensures.written told) in
    let before = C.state c.args.children.now in
    let starts = c.in_ok-finished.ensures.uses.finished refl ∙ ap (λ n. before.starts + n) (count_tries c.in_ok-project.project.key ∙ sym c.in_ok-finished.ensures.started) in
    reports_finished T.tells C.tells c.args.options.now (T.files c.args.tree.now) (shown_project c.in_ok-project.project) (C.state c.args.children.now) (C.state c.make.new.children) c.in_ok-project.ensures.read
    c.in_ok-taken.taken c.in_ok-finished.finished c.in_ok-finished.ensures.numbered c.in_ok-finished.ensures.made (closed c.conclude.result) c.conclude.ensures.answer
    (T.files c.taken_numbers.new.tree) (T.files c.conclude.new.tree)
    (λ t. subst (λ tree. AreTaken tree c.in_ok-taken.taken) (sym (c.in_ok-taken.ensures.same t)) (c.in_ok-taken.ensures.taken t))
    (λ t. c.in_ok-taken.ensures.same t ∙ c.in_ok-project.ensures.same t)
    (Rose (W.faults c.args.output.now) (W.faults c.conclude.new.output)) (W.written c.args.output.now) (W.written c.conclude.new.output) starts c.conclude.ensures.placed c.conclude.ensures.unstored adds

pub returns-clause-children : goal.returns-clause-children
returns-clause-children g c =
    let none = no_child_concluded (closed c.conclude.result) c.conclude.ensures.concluded in
    record { later = c.in_ok-finished.ensures.cause.later; rose = λ failed. absurd (false≢true (sym none ∙ failed)) }

pub conclude-requires-clause-distinct : goal.conclude-requires-clause-distinct
conclude-requires-clause-distinct g c = distinct_made c.in_ok-taken.taken c.in_ok-finished.finished c.in_ok-finished.ensures.numbered

pub conclude-requires-clause-absent : goal.conclude-requires-clause-absent
conclude-requires-clause-absent g c = λ told.
    absent_made c.in_ok-taken.taken c.in_ok-finished.finished c.in_ok-finished.ensures.numbered _ (subst (λ tree. AreTaken tree c.in_ok-taken.taken) (sym (c.in_ok-taken.ensures.same told)) (c.in_ok-taken.ensures.taken told))

pub returns-clause-own : goal.returns-clause-own
returns-clause-own g c = own_concluded (closed c.conclude.result) c.conclude.ensures.concluded
