use Rattle.run_record.proofs.AskedBeyond.{beyond_is_asked}
use Rattle.run_record.proofs.laws.beyond_is_asked.Goals as goal

pub returns : goal.returns
returns c = beyond_is_asked c.beyond_is_decided.ensures c.noted_is_beyond.ensures
