use Rattle.decl_elements.specs.Walk.{places}
use Rattle.round_env.proofs.Gathered.{all_names, unit_names}
use Rattle.round_env.proofs.presence.PresentNames.walk_root.Goals as goal

pub returns-clause-table : goal.returns-clause-table
returns-clause-table c = (all_names c.args.self.now c.walk.new.visitor (places c.args.unit.now) c.in_ok-walk.ensures.value).table

pub returns-clause-names : goal.returns-clause-names
returns-clause-names c = unit_names c.args.self.now c.walk.new.visitor c.args.unit.now c.requires.held c.in_ok-walk.ensures.value
