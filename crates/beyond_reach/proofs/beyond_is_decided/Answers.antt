use Rattle.beyond_reach.proofs.ReachedLemmas.{beyond_is_decided}
use Rattle.beyond_reach.proofs.beyond_is_decided.Goals as goal

pub returns : goal.returns
returns c = beyond_is_decided
