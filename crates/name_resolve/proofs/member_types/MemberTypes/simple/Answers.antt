use Rattle.std.proofs.Common.{◌≡◌, true, sym, ◌∙◌, rules}
use Rattle.name_resolve.specs.Shown.{find_of}
use Rattle.name_resolve.proofs.LookSteps.{simple-near, simple-far}
use Rattle.name_resolve.proofs.member_types.MemberTypes.simple.Goals as goal

pub returns-then-not-is_nothing-clause-value : goal.returns-then-not-is_nothing-clause-value
returns-then-not-is_nothing-clause-value c = λ members agrees.
    c.in_ok-near.ensures.value members agrees
    ∙ simple-near _ _ c.args.header (find_of c.args.at.now) _ (λ e. let yes : c.is_nothing.result ≡ true = c.is_nothing.ensures.1 (c.in_ok-near.ensures.value members agrees ∙ e) in absurd (cc))

pub returns-clause-value : goal.returns-clause-value
returns-clause-value c = λ members agrees.
    c.in_ok-finds.ensures.value members agrees ∙ simple-far _ _ c.args.header (find_of c.args.at.now) _ (sym (c.in_ok-near.ensures.value members agrees) ∙ c.is_nothing.ensures.0 (search rules))
