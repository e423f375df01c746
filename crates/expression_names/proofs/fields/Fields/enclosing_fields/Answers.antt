use Rattle.std.proofs.Common.{◌≡◌, ℕ, ◌-◌, true, List, [], ◌++◌, take, sym, ap, ◌∙◌, rules}
use Rattle.name_resolve.specs.Shown.{find_of, finds_of}
use Rattle.expression_names.specs.Fields.{fields}
use Rattle.expression_names.proofs.Enclosing.{nothing_there, found_here, none_around, there_outside, further_out}
use Rattle.expression_names.proofs.fields.Fields.enclosing_fields.Goals as goal

pub returns-then-not-is_there-clause-value : goal.returns-then-not-is_there-clause-value
returns-then-not-is_there-clause-value c = nothing_there c.args.self.now (find_of c.args.at.now) c.args.name.now c.if-not-is_there.ensures

pub returns-then-not-is_nothing-clause-value : goal.returns-then-not-is_nothing-clause-value
returns-then-not-is_nothing-clause-value c =
    let table = c.args.self.now in
    let here = find_of c.loop-here.here in
    let value : finds_of c.in_ok-finds.finds ≡ fields table here c.args.name.now = c.in_ok-finds.ensures.value ∙ ap (λ u. fields u here c.args.name.now) c.loop-here.invariant.0 in
    value
    ∙ found_here table here c.args.name.now c.loop-here.invariant.1.1.0 (λ e. let yes : c.is_nothing.result ≡ true = c.is_nothing.ensures.1 (value ∙ e) in absurd (cc))
    ∙ c.loop-here.invariant.1.0

pub returns-in-None-clause-value : goal.returns-in-None-clause-value
returns-in-None-clause-value c =
    let table = c.args.self.now in
    let here = find_of c.loop-here.here in
    let value : finds_of c.in_ok-finds.finds ≡ fields table here c.args.name.now = c.in_ok-finds.ensures.value ∙ ap (λ u. fields u here c.args.name.now) c.loop-here.invariant.0 in
    let path = c.loop-here.here.path.items in
    let empty : path ≡ [] = c.in-None.ensures.items ∙ ap (λ (n : List ℕ). n ++ []) (c.in-None.ensures.rest ∙ ap (λ n. take (n - 1) path) c.in-None.ensures.cases.0) in
    none_around table here c.args.name.now c.loop-here.invariant.1.1.0 empty (sym value ∙ c.is_nothing.ensures.0 (search rules))
    ∙ c.loop-here.invariant.1.0

pub loop-here-preserved : goal.loop-here-preserved
loop-here-preserved c =
    let table = c.args.self.now in
    let here = find_of c.loop-here.here in
    let value : finds_of c.in_ok-finds.finds ≡ fields table here c.args.name.now = c.in_ok-finds.ensures.value ∙ ap (λ u. fields u here c.args.name.now) c.loop-here.invariant.0 in
    let there = c.loop-here.invariant.1.1.0 in
    let placed = c.loop-here.invariant.1.1.1 in (
      c.in_ok-finds.ensures.kept ∙ c.loop-here.invariant.0,
      (
        sym (further_out table here c.args.name.now there c.pop.new.self.items c.in-Some.field-0 c.in-Some.ensures.items (sym value ∙ c.is_nothing.ensures.0 (search rules)))
            ∙ c.loop-here.invariant.1.0,
        (
          there_outside table here c.args.name.now there c.pop.new.self.items c.in-Some.field-0 c.in-Some.ensures.items,
          record { is_table = placed.is_table; unit = placed.unit },
        ),
      ),
    )
