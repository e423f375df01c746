use Rattle.std.proofs.Common.{◌≡◌, ℕ, ◌-◌, true, List, [], ◌++◌, take, sym, ap, ◌∙◌, rules}
use Rattle.name_resolve.specs.Parts.{left}
use Rattle.name_resolve.specs.Shown.{find_of}
use Rattle.name_resolve.proofs.Enclosing.{found-here, further-out, there-outside, none-around}
use Rattle.name_resolve.proofs.member_types.MemberTypes.in_elements.Goals as goal

pub returns-then-not-is_nothing-clause-value : goal.returns-then-not-is_nothing-clause-value
returns-then-not-is_nothing-clause-value c = λ members agrees.
    c.in_ok-finds.ensures.value members agrees
    ∙ found-here _ (find_of c.loop-here.here) c.args.name.now c.loop-here.invariant.1.0 (λ e. let yes : c.is_nothing.result ≡ true = c.is_nothing.ensures.1 (c.in_ok-finds.ensures.value members agrees ∙ e) in absurd (cc))
    ∙ c.loop-here.invariant.0 members agrees

pub returns-in-None-clause-value : goal.returns-in-None-clause-value
returns-in-None-clause-value c = λ members agrees.
    let path = c.loop-here.here.path.items in
    let empty : path ≡ [] = c.in-None.ensures.items ∙ ap (λ (n : List ℕ). n ++ []) (c.in-None.ensures.rest ∙ ap (λ n. take (n - 1) path) c.in-None.ensures.cases.0) in
    none-around _ (find_of c.loop-here.here) c.args.name.now c.loop-here.invariant.1.0 empty (sym (c.in_ok-finds.ensures.value members agrees) ∙ c.is_nothing.ensures.0 (search rules))
    ∙ c.loop-here.invariant.0 members agrees

pub loop-here-preserved : goal.loop-here-preserved
loop-here-preserved c =
    let here = find_of c.loop-here.here in
    let there = c.loop-here.invariant.1.0 in (
      λ members agrees.
          let none = sym (c.in_ok-finds.ensures.value members agrees) ∙ c.is_nothing.ensures.0 (search rules) in
          sym (further-out members here c.args.name.now there c.pop.new.self.items c.in-Some.field-0 c.in-Some.ensures.items none) ∙ c.loop-here.invariant.0 members agrees,
      (
        there-outside (left c.args.self.now.table.now c.args.levels) here c.args.name.now there c.pop.new.self.items c.in-Some.field-0 c.in-Some.ensures.items,
        record { is_table = c.loop-here.invariant.1.1.is_table; unit = c.loop-here.invariant.1.1.unit },
      ),
    )
