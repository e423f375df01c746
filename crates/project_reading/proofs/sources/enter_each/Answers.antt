use Rattle.std.proofs.Common.{◌≡◌, ◌∷◌, Ok, ap, sym, ◌∙◌, subst, rules}
use Rattle.std.proofs.lemmas.Result.{err_from_is_err_and}
use Rattle.project_reading.specs.Project.{enter_next, enter_all}
use Rattle.project_reading.specs.Verdicts.{verdict}
use Rattle.project_reading.specs.Entering.{RefusesAs}
use Rattle.project_reading.proofs.SourcesOfAProject.{enters-more, enters-no-more}
use Rattle.project_reading.proofs.sources.enter_each.Goals as goal

pub loop-source-preserved : goal.loop-source-preserved
loop-source-preserved c =
    let rest : c.loop-source.source-iterator.rest.items ≡ c.in-Some.source ∷ c.next.new.self.rest.items = search rules in
    let so_far = c.loop-source.table in
    let next = c.enter_next.new.table in
    let is : enter_next c.args.part so_far c.in-Some.source ≡ Ok next = search rules in
    sym (enters-more c.args.part so_far next c.in-Some.source c.next.new.self.rest.items is) ∙ ap (enter_all c.args.part so_far) (sym rest) ∙ c.loop-source.invariant

pub returns-in_err-enter_next-clause-enters : goal.returns-in_err-enter_next-clause-enters
returns-in_err-enter_next-clause-enters c =
    let p = err_from_is_err_and c.from_residual.result c.from_residual.ensures.1 in
    let rest : c.loop-source.source-iterator.rest.items ≡ c.in-Some.source ∷ c.next.new.self.rest.items = search rules in
    let so_far = c.loop-source.table in
    let refuses : RefusesAs (enter_next c.args.part so_far c.in-Some.source) (verdict c.in_err-enter_next.field-0.0) = search rules in
    rw (p.1, p.2) (subst (λ o. RefusesAs o (verdict c.in_err-enter_next.field-0.0)) (ap (enter_all c.args.part so_far) (sym rest) ∙ c.loop-source.invariant)
    (enters-no-more c.args.part so_far c.in-Some.source c.next.new.self.rest.items (verdict c.in_err-enter_next.field-0.0) refuses))
