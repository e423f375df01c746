use Rattle.std.proofs.Common.{◌≡◌, [], Err, sym, ap, ◌∙◌, subst, refl, append-nil, rules}
use Rattle.apt_outside.specs.Stream.{Appends}
use Rattle.std.proofs.lemmas.Result.{err_from_is_err_and}
use Rattle.project_reading.specs.Verdicts.{verdict, is_finished, is_tree, is_sink, fails}
use Rattle.project_reading.specs.Endings.{ended, of_store}
use Rattle.apt_host.specs.Texts.{IsFront}
use Rattle.apt_host.proofs.Early.{unfinished_early, no_sink_early, store_early}
use Rattle.apt_host.proofs.Writing.{nothing_yet, some_written}
use Rattle.apt_host.proofs.publish.publish.Goals as goal

pub returns-in_err-put_files-clause-written : goal.returns-in_err-put_files-clause-written
returns-in_err-put_files-clause-written g c = λ told.
    let p = err_from_is_err_and c.from_residual.result c.from_residual.ensures.1 in
    let same : ended c.from_residual.result ≡ verdict (of_store c.in_err-put_files.field-0.0) = ap ended p.1 ∙ ap verdict p.2 in (
      [],
      (
        nothing_yet ⊥ c.args.written.now.report.items (ended c.from_residual.result) (ap is_finished same ∙ unfinished_early is_tree _ (store_early c.in_err-put_files.field-0.0)) (ap (fails is_sink) same ∙ no_sink_early is_tree _ refl (store_early c.in_err-put_files.field-0.0)),
        λ tree_told ne some. absurd (some refl),
      ),
      sym (append-nil _),
    )

pub returns-in-Err-clause-written : goal.returns-in-Err-clause-written
returns-in-Err-clause-written g c = λ told.
    let W = g.W.Sink in
    let bytes_is : c.deref.result.now ≡ c.args.written.now.report.items = search rules in
    let front = some_written c.args.written.now.report.items _ _ c.in-Err.fault c.requires.some (subst (λ bytes. Appends (W.written c.args.output.now) (W.written c.write_all.new.self) bytes (Err c.in-Err.fault)) bytes_is (c.in-Err.ensures.bytes told)) in (
      front.0,
      (subst (λ v. IsFront ⊥ c.args.written.now.report.items v front.0) (sym c.of_sink.ensures) front.1, λ tree_told ne some. record { written = c.in_ok-put_files.ensures.written tree_told; only = c.put_files.ensures.only tree_told }),
      front.2,
    )

pub returns-in-Ok-clause-placed : goal.returns-in-Ok-clause-placed
returns-in-Ok-clause-placed g c = λ told. record {
  mid = g.T.Tree.files c.put_files.new.tree;
  gains = record { written = c.in_ok-put_files.ensures.written told; only = c.put_files.ensures.only told };
  committed = c.in-Ok.ensures.ok told;
}
