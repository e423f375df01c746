use Rattle.std.proofs.Common.{◌≡◌, true, false, [], Ok, sym, ap, ◌∙◌, subst}
use Rattle.apt_base.specs.declared.kinds.What.TheVariants as what
use Rattle.project_units.specs.Plans.{inits_fit}
use Rattle.project_reading.specs.Configuration.{plan_in, fitting}
use Rattle.project_reading.specs.Verdicts.{verdict}
use Rattle.project_reading.specs.Entering.{RefusesAs}
use Rattle.project_reading.proofs.Settling.{fits, fits_not, due_past, few_key, plan_same}
use Rattle.project_reading.proofs.configuration.fitting.Goals as goal

pub returns-then-fit-clause-plan : goal.returns-then-fit-clause-plan
returns-then-fit-clause-plan c =
    let plan = plan_in c.args.settings in
    let fit : inits_fit plan ≡ true = ap inits_fit (sym (plan_same c.in_ok-key.key c.args.settings [] c.in_ok-key.ensures)) ∙ sym c.in_ok-fit.ensures ∙ c.if-fit.true in
    fits plan fit ∙ ap (λ p. Ok p) (sym (plan_same c.in_ok-key.key c.args.settings [] c.in_ok-key.ensures))

pub returns-then-fit-clause-few : goal.returns-then-fit-clause-few
returns-then-fit-clause-few c = few_key c.in_ok-key.key c.args.settings (plan_same c.in_ok-key.key c.args.settings [] c.in_ok-key.ensures) c.requires

pub returns-clause-plan : goal.returns-clause-plan
returns-clause-plan c =
    let plan = plan_in c.args.settings in
    let fit : inits_fit plan ≡ false = ap inits_fit (sym (plan_same c.in_ok-key.key c.args.settings [] c.in_ok-key.ensures)) ∙ sym c.in_ok-fit.ensures ∙ c.if-fit.false in
    subst (RefusesAs (fitting plan)) (sym c.past_limit.ensures.is) (fits_not plan fit)

pub returns-clause-due : goal.returns-clause-due
returns-clause-due c = due_past what.Frame (verdict c.past_limit.result) c.past_limit.ensures.is
