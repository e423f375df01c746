use Rattle.std.proofs.Common.{◌∙◌, rules}
use Rattle.run_entries.proofs.EntryLemmas.{on_value, left_is}
use Rattle.run_entries.proofs.recorded_entries.left_entry.Goals as goal

pub returns : goal.returns
returns c = on_value c.entry_with.result (λ entry is. is ∙ left_is c.args.stores.now c.args.done.now c.args.left.now _ _ _ c.requires (search rules) (search rules) (search rules)) c.entry_with.ensures
