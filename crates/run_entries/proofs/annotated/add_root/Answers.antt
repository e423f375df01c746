use Rattle.std.proofs.Common.{rules, sym, ◌∙◌}
use Rattle.run_entries.proofs.PlaceLemmas.{on_ok}
use Rattle.run_entries.proofs.RootLemmas.{none_carried, some_carried}
use Rattle.run_entries.proofs.annotated.add_root.Goals as goal

pub returns-then-is_empty : goal.returns-then-is_empty
returns-then-is_empty c = none_carried c.args.set.now c.args.annotated.now c.args.root.now c.in_ok-carried.carried (search rules) (sym c.is_empty.ensures ∙ c.if-is_empty.true)

pub returns : goal.returns
returns c =
    on_ok c.push.result
    (λ is. some_carried c.args.set.now c.args.annotated.now _ c.args.root.now c.in_ok-copy.field-0 c.in_ok-carried.carried (search rules) (sym c.is_empty.ensures ∙ c.if-is_empty.false) c.in_ok-copy.ensures is)
    c.push.ensures.ok
