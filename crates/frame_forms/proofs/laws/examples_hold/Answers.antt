use Rattle.frame_forms.proofs.laws.examples_hold.Goals as goal
use Rattle.frame_forms.proofs.ExamplesLemmas.{examples}

-- src/laws.rt:5:1
pub returns : goal.returns
returns c = examples
