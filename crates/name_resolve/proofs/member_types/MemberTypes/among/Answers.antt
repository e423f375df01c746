use Rattle.std.proofs.Common.{◌≡◌, sym, ◌∙◌, arith, rules}
use Rattle.name_resolve.specs.Finds.{both}
use Rattle.name_resolve.specs.Shown.{find_of}
use Rattle.name_resolve.proofs.ChildRanges.{declared-one, declared-several}
use Rattle.name_resolve.proofs.member_types.MemberTypes.among.Goals as goal

pub returns-then-range : goal.returns-then-range
returns-then-range c = c.in_ok-first.ensures ∙ declared-one (find_of c.args.of.now) c.args.name.now c.args.range c.requires (omega (arith, c.if-range.true))

pub returns-then-is_several : goal.returns-then-is_several
returns-then-is_several c =
    declared-several (find_of c.args.of.now) c.args.name.now c.args.range c.requires (λ same. omega (arith, same, c.if-range.false))
    (sym (λ i. both (c.in_ok-first.ensures i) (c.in_ok-last.ensures i)) ∙ sym c.both-ends.ensures ∙ c.is_several.ensures.0 (search rules))
