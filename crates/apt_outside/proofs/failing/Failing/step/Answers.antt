use Rattle.std.proofs.Common.{◌≡◌, ◌==◌, false, rules}
use Rattle.std.specs.List.{list_any}
use Rattle.apt_outside.specs.Plan.{plan_of}
use Rattle.apt_outside.proofs.PlanLemmas.{follows_ok}
use Rattle.apt_outside.proofs.failing.Failing.step.Goals as goal

pub returns-clause-follows : goal.returns-clause-follows
returns-clause-follows c =
    let tested : list_any (λ k. k == c.saturating_add-self.result) c.args.self.now.numbers.items ≡ false = search rules in
    follows_ok (plan_of c.args.self.now) c.saturating_add-self.result c.args.self.now.faults (search rules) tested
