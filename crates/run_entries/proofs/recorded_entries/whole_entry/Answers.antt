use Rattle.std.proofs.Common.{◌∙◌, rules}
use Rattle.run_entries.proofs.EntryLemmas.{on_value, whole_is}
use Rattle.run_entries.proofs.recorded_entries.whole_entry.Goals as goal

pub returns : goal.returns
returns c = on_value c.entry_with.result (λ entry is. is ∙ whole_is c.args.stores.now c.args.done.now _ _ _ (search rules) (search rules) (search rules)) c.entry_with.ensures
