use Rattle.type_relations.proofs.EntriesOfTypes.{distinct-none}
use Rattle.type_relations.proofs.replacing.replacements.Goals as goal

pub add_declared-requires : goal.add_declared-requires
add_declared-requires c = distinct-none c.new-by.result c.new-by.ensures
