use Rattle.std.proofs.Common.{◌≡◌, map, sym, ap, ◌∙◌, subst, arith}
use Rattle.std.proofs.lemmas.Result.{err_from_is_err_and}
use Rattle.tree_store.specs.Storing.{AreAbsent}
use Rattle.project_reading.specs.Verdicts.{verdict, is_output}
use Rattle.apt_host.specs.BuildEndings.{closed}
use Rattle.apt_host.specs.Making.{concluding_report}
use Rattle.apt_host.specs.Listed.{numbered_of, finished_of, Places, GainsFirst}
use Rattle.apt_host.specs.Texts.{IsFront}
use Rattle.apt_host.proofs.Early.{not_done_early}
use Rattle.apt_host.proofs.Building.{report_is}
use Rattle.apt_host.proofs.build.conclude_with.Goals as goal

pub publish-requires-clause-absent : goal.publish-requires-clause-absent
publish-requires-clause-absent g c = λ told. subst (AreAbsent (g.T.Tree.files c.args.tree.now)) (sym c.in_ok-written.ensures.stored_is) (c.requires.absent told)

pub publish-requires-clause-some : goal.publish-requires-clause-some
publish-requires-clause-some g c = c.in_ok-written.ensures.some

pub returns-in_err-publish-clause-placed : goal.returns-in_err-publish-clause-placed
returns-in_err-publish-clause-placed g c = λ told done.
    let p = err_from_is_err_and c.from_residual-in_err-publish.result c.from_residual-in_err-publish.ensures.1 in
    let same : closed c.from_residual-in_err-publish.result ≡ verdict c.in_err-publish.field-0.0 = ap closed p.1 ∙ ap verdict p.2 in
    absurd (not_done_early is_output (verdict c.in_err-publish.field-0.0) c.in_err-publish.ensures.early (sym same ∙ done))

pub returns-in_err-publish-clause-written : goal.returns-in_err-publish-clause-written
returns-in_err-publish-clause-written g c = λ told.
    let T = g.T.Tree in
    let p = err_from_is_err_and c.from_residual-in_err-publish.result c.from_residual-in_err-publish.ensures.1 in
    let same : closed c.from_residual-in_err-publish.result ≡ verdict c.in_err-publish.field-0.0 = ap closed p.1 ∙ ap verdict p.2 in
    let none : c.args.summary.now.errors ≡ 0 = omega (arith, c.if-errors-gt0.false) in
    let report = concluding_report c.args.names.now (finished_of c.args.summary.now c.args.files) in
    let text_is : c.in_ok-written.written.report.items ≡ report = c.in_ok-written.ensures.text_is ∙ report_is c.args.names.now (finished_of c.args.summary.now c.args.files) none in
    let front = c.in_err-publish.ensures.written told in (
      front.0,
      (
        subst (λ r. IsFront ⊥ r (closed c.from_residual-in_err-publish.result) front.0) text_is (subst (λ v. IsFront ⊥ c.in_ok-written.written.report.items v front.0) (sym same) front.1.0),
        λ tree_told without. subst (λ stored. GainsFirst (closed c.from_residual-in_err-publish.result) front.0 stored (T.files c.args.tree.now) (T.files c.publish.new.tree)) c.in_ok-written.ensures.stored_is
            (subst (λ v. GainsFirst v front.0 c.in_ok-written.written.stored (T.files c.args.tree.now) (T.files c.publish.new.tree)) (sym same) (front.1.1 tree_told)),
      ),
      front.2,
    )

pub returns-clause-placed : goal.returns-clause-placed
returns-clause-placed g c = λ told done.
    let T = g.T.Tree in
    subst (λ bytes. Places (map numbered_of c.args.files) bytes (T.files c.args.tree.now) (T.files c.publish.new.tree)) c.in_ok-written.ensures.bytes_are
    (subst (λ stored. Places stored c.in_ok-written.written.record_bytes (T.files c.args.tree.now) (T.files c.publish.new.tree)) c.in_ok-written.ensures.stored_is (c.in_ok-publish.ensures.placed told))
