use Rattle.std.proofs.Common.{◌≡◌, true, sym, ◌∙◌}
use Rattle.name_resolve.specs.Shown.{find_of}
use Rattle.name_resolve.proofs.member_types.MemberTypes.members.Goals as goal

pub returns-then-not-is_nothing-clause-value : goal.returns-then-not-is_nothing-clause-value
returns-then-not-is_nothing-clause-value c = λ members agrees.
    c.in_ok-own.ensures
    ∙ sym (agrees.way.own (find_of c.args.of.now) c.args.name.now (λ e. let yes : c.is_nothing.result ≡ true = c.is_nothing.ensures.1 (c.in_ok-own.ensures ∙ e) in absurd (cc)))
