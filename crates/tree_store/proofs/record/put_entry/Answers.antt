use Rattle.std.proofs.Common.{arith}
use Rattle.apt_base.proofs.FieldsLemmas.{is_text-of_utf8}
use Rattle.tree_store.proofs.record.put_entry.Goals as goal

pub returns-clause-entry : goal.returns-clause-entry
returns-clause-entry c = record {
  path = c.requires;
  text = is_text-of_utf8 c.args.file.now.path (rw c.as_str.ensures at c.as_str.utf8);
  store = omega arith;
  size = omega arith;
}
