use Rattle.tree_store.proofs.OutputLemmas.{record_inside, output_of-committed}
use Rattle.tree_store.proofs.store.commit.Goals as goal

pub returns-clause-outside : goal.returns-clause-outside
returns-clause-outside g c = λ told. rw ((c.in_ok-replace.ensures.change told).written) (record_inside _ _)

pub returns-clause-published : goal.returns-clause-published
returns-clause-published g c = λ told entries files reads held.
    rw ((c.in_ok-replace.ensures.change told).written, c.as_slice.ensures) (output_of-committed _ _ entries files reads held)
