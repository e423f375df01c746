use Rattle.run_entries.proofs.EntryLemmas.{none_left, one_left}
use Rattle.run_entries.proofs.PlaceLemmas.{on_ok}
use Rattle.run_entries.proofs.recorded_entries.add_left.Goals as goal

pub returns-then-not-has_some : goal.returns-then-not-has_some
returns-then-not-has_some c =
    none_left c.args.stores.now c.args.done.now c.in_ok-left.left c.args.entries.now _ c.in_ok-left.ensures c.has_some.ensures c.if-not-has_some.true

pub returns : goal.returns
returns c =
    on_ok c.push.result
    (λ is. one_left c.args.stores.now c.args.done.now c.in_ok-left.left c.args.entries.now _ _ _ c.in_ok-left.ensures c.has_some.ensures c.if-not-has_some.false c.in_ok-left_entry.ensures is)
    c.push.ensures.ok
