use Rattle.project_reading.proofs.LeastPath as laws
use Rattle.project_reading.proofs.laws.least_path_is_refused.Goals as goal

pub returns : goal.returns
returns c = laws.least_is_refused
