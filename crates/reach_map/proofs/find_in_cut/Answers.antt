use Rattle.reach_map.specs.ClosedCuts.{among}
use Rattle.reach_map.proofs.Cuts.{keeps}
use Rattle.reach_map.proofs.find_in_cut.Goals as goal

pub returns-clause-law : goal.returns-clause-law
returns-clause-law c = keeps c.args.table.now (among c.args.names.now) c.args.name.now
