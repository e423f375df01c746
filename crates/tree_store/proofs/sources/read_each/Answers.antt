use Rattle.std.proofs.Common.{◌≡◌, Some, Err, string_bytes, refl, sym, ap, subst, ◌∙◌, arith}
use Rattle.std.specs.Prelude.{◌-◌}
use Rattle.std.proofs.lemmas.Result.{err_from_is_err_and}
use Rattle.apt_outside.specs.Files.{Files}
use Rattle.tree_store.specs.declared.sources.RawSource.{RawSource}
use Rattle.tree_store.specs.Sources.{most_in_all, source_at, GivesOne, IsWithin, AreShort}
use Rattle.tree_store.proofs.SourceLimits.{AreOnTheWay, begins-way, more-way, none-way, ends-way, stops-way, short-push}
use Rattle.tree_store.proofs.sources.read_each.Goals as goal
use Rattle.tree_store.proofs.sources.read_each.Goals.{in-Some+in_ok-push, in_default}

pub loop-path-init : goal.loop-path-init
loop-path-init g c = record {
  later = omega arith;
  same = λ told. refl;
  way = λ told.
      subst (λ left. AreOnTheWay c.args.folder (g.T.Tree.files c.args.tree.now) c.args.paths.now 0 c.new-sources.result left) (sym c.most-left.ensures)
      (subst (λ sources. AreOnTheWay c.args.folder (g.T.Tree.files c.args.tree.now) c.args.paths.now 0 sources (most_in_all c.args.folder)) (sym c.new-sources.ensures)
      (begins-way c.args.folder (g.T.Tree.files c.args.tree.now) c.args.paths.now));
  short = subst AreShort (sym c.new-sources.ensures) tt;
}

pub loop-path-preserved : goal.loop-path-preserved
loop-path-preserved g c =
    let T = g.T.Tree in
    let files = T.files c.args.tree.now in
    let items = c.args.paths.now in
    let left = c.loop-path.left in
    let within : (source : RawSource) → c.in_ok-source.field-0 ≡ Some source → IsWithin left (Some source) = λ source is. subst (IsWithin left) is c.in_ok-source.ensures.within in
    record {
      later = omega (arith, c.loop-path.invariant.later, c.read_source.ensures.cause.later);
      same = λ told. c.read_source.ensures.same told ∙ c.loop-path.invariant.same told;
      way = λ told.
          let gives : source_at files (string_bytes c.path-item.result) ≡ c.in_ok-source.field-0 = rw (c.as_str.ensures.value, c.loop-path.invariant.same told) at (c.in_ok-source.ensures.source told) in
          elim c.match-branch-2.branch [
            | in-Some+in_ok-push w ↦ more-way c.args.folder files items c.loop-path.path-index c.path-item.result c.loop-path-test.true c.path-item.is left c.loop-path.sources (c.loop-path.invariant.way told)
                w.in-Some.source (sym w.in-Some.is ∙ sym gives) (within w.in-Some.source w.in-Some.is) _ _ (w.sources-is ∙ w.in_ok-push.ensures.ok) (w.left-is ∙ ap (λ n. left - n) w.len-left.ensures)
            | in_default w ↦ none-way c.args.folder files items c.loop-path.path-index c.path-item.result c.loop-path-test.true c.path-item.is left c.loop-path.sources (c.loop-path.invariant.way told)
                (sym w.in_default.is ∙ sym gives) _ _ w.sources-is w.left-is
          ];
      short = elim c.match-branch-2.branch [
        | in-Some+in_ok-push w ↦ subst AreShort (sym (w.sources-is ∙ w.in_ok-push.ensures.ok)) (short-push c.loop-path.sources w.in-Some.source c.loop-path.invariant.short (within w.in-Some.source w.in-Some.is).0)
        | in_default w ↦ subst AreShort (sym w.sources-is) c.loop-path.invariant.short
      ];
    }

pub returns-in_err-source-clause-sources : goal.returns-in_err-source-clause-sources
returns-in_err-source-clause-sources g c = λ told.
    let files = g.T.Tree.files c.args.tree.now in
    let items = c.args.paths.now in
    let fault = c.in_err-source.field-0.0 in
    let p = err_from_is_err_and c.from_residual.result c.from_residual.ensures.1 in
    let left = c.loop-path.left in
    let path = string_bytes c.path-item.result in
    let here : GivesOne c.args.folder left (source_at (g.T.Tree.files c.loop-path.tree) path) (Err fault) = subst (λ at. GivesOne c.args.folder left (source_at (g.T.Tree.files c.loop-path.tree) at) (Err fault)) c.as_str.ensures.value (c.in_err-source.ensures.source told) in
    let gives : GivesOne c.args.folder left (source_at files path) (Err fault) = subst (λ (held : Files). GivesOne c.args.folder left (source_at held path) (Err fault)) (c.loop-path.invariant.same told) here in
    rw (p.1, p.2) (stops-way c.args.folder files items c.loop-path.path-index c.path-item.result c.loop-path-test.true c.path-item.is left c.loop-path.sources (c.loop-path.invariant.way told) fault gives)

pub returns-clause-sources : goal.returns-clause-sources
returns-clause-sources g c = λ told.
    ends-way c.args.folder (g.T.Tree.files c.args.tree.now) c.args.paths.now c.loop-path.path-index c.loop-path-test.false c.loop-path.left c.loop-path.sources (c.loop-path.invariant.way told)
