use Rattle.std.proofs.Common.{◌≡◌, ◌∷◌, [], ◌++◌, Ok, ap, sym, ◌∙◌, subst, rules}
use Rattle.std.proofs.lemmas.Result.{err_from_is_err_and}
use Rattle.tree_store.specs.Sources.{AreShort}
use Rattle.project_reading.specs.Project.{read_source, read_from}
use Rattle.project_reading.specs.Verdicts.{verdict}
use Rattle.project_reading.specs.Entering.{RefusesAs}
use Rattle.project_reading.proofs.SourcesOfAProject.{reads-more, reads-no-more}
use Rattle.project_reading.proofs.sources.read_each_once.Goals as goal

pub read_once-requires : goal.read_once-requires
read_once-requires c =
    let rest : c.loop-source.source-iterator.rest.items ≡ c.in-Some.source ∷ c.next.new.self.rest.items = search rules in
    (subst AreShort rest c.loop-source.invariant.short).0

pub loop-source-preserved : goal.loop-source-preserved
loop-source-preserved c =
    let part = c.args.part in
    let later = c.next.new.self.rest.items in
    let rest : c.loop-source.source-iterator.rest.items ≡ c.in-Some.source ∷ later = search rules in
    let is : read_source part c.in-Some.source ≡ Ok c.in_ok-read_once.field-0 = search rules in
    let pushed : c.push.new.self ≡ c.loop-source.read ++ c.in_ok-read_once.field-0 ∷ [] = search rules in
    record {
      way = ap (λ read. read_from part read later) pushed
          ∙ sym (reads-more part c.loop-source.read c.in-Some.source later c.in_ok-read_once.field-0 is)
          ∙ ap (read_from part c.loop-source.read) (sym rest) ∙ c.loop-source.invariant.way;
      short = (subst AreShort rest c.loop-source.invariant.short).1;
    }

pub returns-in_err-read_once-clause-read : goal.returns-in_err-read_once-clause-read
returns-in_err-read_once-clause-read c =
    let part = c.args.part in
    let later = c.next.new.self.rest.items in
    let p = err_from_is_err_and c.from_residual.result c.from_residual.ensures.1 in
    let rest : c.loop-source.source-iterator.rest.items ≡ c.in-Some.source ∷ later = search rules in
    let refuses : RefusesAs (read_source part c.in-Some.source) (verdict c.in_err-read_once.field-0.0) = search rules in
    rw (p.1, p.2) (subst (λ o. RefusesAs o (verdict c.in_err-read_once.field-0.0)) (ap (read_from part c.loop-source.read) (sym rest) ∙ c.loop-source.invariant.way)
    (reads-no-more part c.loop-source.read c.in-Some.source later (verdict c.in_err-read_once.field-0.0) refuses))
