use Rattle.beyond_reach.proofs.NotedQuestions.{noted_is_beyond}
use Rattle.beyond_reach.proofs.noted_is_beyond.Goals as goal

pub returns : goal.returns
returns c = noted_is_beyond
