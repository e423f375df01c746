use Rattle.output_store.proofs.StoringLemmas.{file_at-written}
use Rattle.output_store.proofs.publishing.put_file.Goals as goal

pub returns-clause-written : goal.returns-clause-written
returns-clause-written g c = λ told. rw (c.as_str.ensures.value, c.in_ok-path.ensures, c.as_slice.ensures) at (file_at-written _ _ _ _ ((c.in_ok-write_new.ensures.change told).written))
