use Rattle.std.proofs.Common.{◌≡◌, ◌+◌, ◌∷◌, [], ◌++◌, Ok, drop, refl, ap, sym, ◌∙◌, subst, rules}
use Rattle.std.proofs.lemmas.List.{drop_more, drop_all}
use Rattle.std.proofs.lemmas.Result.{err_from_is_err_and}
use Rattle.tree_store.specs.Sources.{AreShort}
use Rattle.project_reading.specs.Project.{read_source, read_from}
use Rattle.project_reading.specs.Verdicts.{verdict}
use Rattle.project_reading.specs.Entering.{RefusesAs}
use Rattle.project_reading.proofs.SourcesOfAProject.{reads-more, reads-no-more}
use Rattle.project_reading.proofs.sources.read_each.Goals as goal

pub read_source-requires : goal.read_source-requires
read_source-requires c =
    let items = c.args.sources.now in
    let i = c.loop-source.source-index in
    let item = c.source-item.result in
    let rest : drop i items ≡ item ∷ drop (i + 1) items = drop_more items i item c.loop-source-test.true ∙ ap (λ x. x ∷ drop (i + 1) items) (sym c.source-item.is) in
    (subst AreShort rest c.loop-source.invariant.short).0

pub loop-source-preserved : goal.loop-source-preserved
loop-source-preserved c =
    let items = c.args.sources.now in
    let part = c.args.part in
    let i = c.loop-source.source-index in
    let item = c.source-item.result in
    let rest : drop i items ≡ item ∷ drop (i + 1) items = drop_more items i item c.loop-source-test.true ∙ ap (λ x. x ∷ drop (i + 1) items) (sym c.source-item.is) in
    let is : read_source part item ≡ Ok c.in_ok-read_source.field-0 = search rules in
    let pushed : c.push.new.self ≡ c.loop-source.read ++ c.in_ok-read_source.field-0 ∷ [] = search rules in
    record {
      way = ap (λ read. read_from part read (drop (i + 1) items)) pushed
          ∙ sym (reads-more part c.loop-source.read item (drop (i + 1) items) c.in_ok-read_source.field-0 is)
          ∙ ap (read_from part c.loop-source.read) (sym rest) ∙ c.loop-source.invariant.way;
      short = (subst AreShort rest c.loop-source.invariant.short).1;
    }

pub returns-in_err-read_source-clause-read : goal.returns-in_err-read_source-clause-read
returns-in_err-read_source-clause-read c =
    let items = c.args.sources.now in
    let part = c.args.part in
    let i = c.loop-source.source-index in
    let item = c.source-item.result in
    let p = err_from_is_err_and c.from_residual.result c.from_residual.ensures.1 in
    let rest : drop i items ≡ item ∷ drop (i + 1) items = drop_more items i item c.loop-source-test.true ∙ ap (λ x. x ∷ drop (i + 1) items) (sym c.source-item.is) in
    let refuses : RefusesAs (read_source part item) (verdict c.in_err-read_source.field-0.0) = search rules in
    rw (p.1, p.2) (subst (λ o. RefusesAs o (verdict c.in_err-read_source.field-0.0)) (ap (read_from part c.loop-source.read) (sym rest) ∙ c.loop-source.invariant.way)
    (reads-no-more part c.loop-source.read item (drop (i + 1) items) (verdict c.in_err-read_source.field-0.0) refuses))

pub returns-clause-read : goal.returns-clause-read
returns-clause-read c =
    let items = c.args.sources.now in
    let i = c.loop-source.source-index in
    sym c.loop-source.invariant.way ∙ ap (read_from c.args.part c.loop-source.read) (drop_all i items c.loop-source-test.false)
