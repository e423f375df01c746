use Rattle.tree_store.proofs.StoringLemmas.{file_at-written}
use Rattle.tree_store.proofs.store.put_file.Goals as goal

pub returns-clause-written : goal.returns-clause-written
returns-clause-written g c = λ told. rw (c.as_str.ensures.value, c.in_ok-path.ensures.path, c.as_slice.ensures) at (file_at-written _ _ _ _ ((c.in_ok-write_new.ensures.change told).written))
