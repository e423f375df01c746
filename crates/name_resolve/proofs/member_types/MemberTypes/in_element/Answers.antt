use Rattle.std.proofs.Common.{◌≡◌, true, sym, ◌∙◌, rules}
use Rattle.name_resolve.proofs.FirstPlaces.{first_found, first_skipped, third_of}
use Rattle.name_resolve.proofs.member_types.MemberTypes.in_element.Goals as goal

pub returns-then-not-is_nothing-clause-value : goal.returns-then-not-is_nothing-clause-value
returns-then-not-is_nothing-clause-value c = λ members agrees.
    c.in_ok-own.ensures ∙ sym (first_found _ _ (λ e. let yes : c.is_nothing.result ≡ true = c.is_nothing.ensures.1 (c.in_ok-own.ensures ∙ e) in absurd (cc)))

pub returns-then-not-is_nothing-2-clause-value : goal.returns-then-not-is_nothing-2-clause-value
returns-then-not-is_nothing-2-clause-value c = λ members agrees.
    c.in_ok-parameters.ensures
    ∙ sym (first_skipped _ _ (sym c.in_ok-own.ensures ∙ c.is_nothing.ensures.0 (search rules))
    ∙ first_found _ _ (λ e. let yes : c.is_nothing-2.result ≡ true = c.is_nothing-2.ensures.1 (c.in_ok-parameters.ensures ∙ e) in absurd (cc)))

pub returns-clause-value : goal.returns-clause-value
returns-clause-value c = λ members agrees.
    c.in_ok-finds.ensures.value members agrees
    ∙ sym (third_of _ _ _ (sym c.in_ok-own.ensures ∙ c.is_nothing.ensures.0 (search rules)) (sym c.in_ok-parameters.ensures ∙ c.is_nothing-2.ensures.0 (search rules)))
