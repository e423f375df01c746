use Rattle.frame_stream.proofs.StreamLawsLemmas.{reading_meets_spelling}
use Rattle.frame_stream.proofs.laws.stream_laws_hold.Goals as goal

pub returns : goal.returns
returns c = reading_meets_spelling
