use Rattle.output_store.proofs.OutputLemmas.{record_inside, output_of-put}
use Rattle.output_store.proofs.publishing.commit.Goals as goal

pub returns-clause-outside : goal.returns-clause-outside
returns-clause-outside g c = λ told. rw ((c.in_ok-replace.ensures.change told).written) (record_inside _ _)

pub returns-clause-published : goal.returns-clause-published
returns-clause-published g c = λ told. rw ((c.in_ok-replace.ensures.change told).written, c.as_slice.ensures) (output_of-put _ _)
