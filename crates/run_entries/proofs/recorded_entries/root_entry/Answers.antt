use Rattle.std.proofs.Common.{◌∙◌, rules}
use Rattle.run_entries.proofs.EntryLemmas.{on_value, root_is}
use Rattle.run_entries.proofs.recorded_entries.root_entry.Goals as goal

pub returns : goal.returns
returns c =
    on_value c.entry_with.result
    (λ entry is. is ∙ root_is c.args.stores.now c.args.done.now c.args.root.now _ c.args.files.now c.args.messages.now _ _ c.requires.files c.requires.messages (search rules) (search rules) (search rules))
    c.entry_with.ensures
