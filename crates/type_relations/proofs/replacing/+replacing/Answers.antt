use Rattle.type_relations.proofs.EntriesOfTypes.{entries-many}
use Rattle.type_relations.proofs.replacing.+replacing.Goals as goal

pub add_entries-returns-in-len1-up-clause-value : goal.add_entries-returns-in-len1-up-clause-value
add_entries-returns-in-len1-up-clause-value t c = entries-many c.args.table.now c.args.by.now c.args.of.now (rw c.as_slice.ensures at c.in-len1-up.len_at_least)
