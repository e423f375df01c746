use Rattle.std.proofs.Common.{◌≡◌, true, sym, ◌∙◌, rules}
use Rattle.name_resolve.specs.Meaning.{in_unit}
use Rattle.name_resolve.proofs.FirstPlaces.{first_found, first_skipped, fourth_of}
use Rattle.name_resolve.proofs.member_types.MemberTypes.in_unit.Goals as goal

pub returns-then-not-is_nothing-clause-value : goal.returns-then-not-is_nothing-clause-value
unfolding in_unit
returns-then-not-is_nothing-clause-value c = λ members agrees.
    c.in_ok-own.ensures.value ∙ sym (first_found _ _ (λ e. let yes : c.is_nothing.result ≡ true = c.is_nothing.ensures.1 (c.in_ok-own.ensures.value ∙ e) in absurd (cc)))

pub returns-then-not-is_nothing-2-clause-value : goal.returns-then-not-is_nothing-2-clause-value
unfolding in_unit
returns-then-not-is_nothing-2-clause-value c = λ members agrees.
    c.in_ok-single.ensures.value members agrees
    ∙ sym (first_skipped _ _ (sym c.in_ok-own.ensures.value ∙ c.is_nothing.ensures.0 (search rules))
    ∙ first_found _ _ (λ e. let yes : c.is_nothing-2.result ≡ true = c.is_nothing-2.ensures.1 (c.in_ok-single.ensures.value members agrees ∙ e) in absurd (cc)))

pub returns-then-not-is_nothing-3-clause-value : goal.returns-then-not-is_nothing-3-clause-value
unfolding in_unit
returns-then-not-is_nothing-3-clause-value c = λ members agrees.
    c.in_ok-beside.ensures.value
    ∙ sym (first_skipped _ _ (sym c.in_ok-own.ensures.value ∙ c.is_nothing.ensures.0 (search rules))
    ∙ first_skipped _ _ (sym (c.in_ok-single.ensures.value members agrees) ∙ c.is_nothing-2.ensures.0 (search rules))
    ∙ first_found _ _ (λ e. let yes : c.is_nothing-3.result ≡ true = c.is_nothing-3.ensures.1 (c.in_ok-beside.ensures.value ∙ e) in absurd (cc)))

pub returns-clause-value : goal.returns-clause-value
unfolding in_unit
returns-clause-value c = λ members agrees.
    c.in_ok-finds.ensures.value members agrees
    ∙ sym (fourth_of _ _ _ _ (sym c.in_ok-own.ensures.value ∙ c.is_nothing.ensures.0 (search rules)) (sym (c.in_ok-single.ensures.value members agrees) ∙ c.is_nothing-2.ensures.0 (search rules))
    (sym c.in_ok-beside.ensures.value ∙ c.is_nothing-3.ensures.0 (search rules)))
