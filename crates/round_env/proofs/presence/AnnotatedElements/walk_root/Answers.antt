use Rattle.decl_elements.specs.Walk.{places}
use Rattle.round_env.proofs.Gathered.{all_elements, unit_elements}
use Rattle.round_env.proofs.presence.AnnotatedElements.walk_root.Goals as goal

pub returns-clause-table : goal.returns-clause-table
returns-clause-table c = (all_elements c.args.self.now c.walk.new.visitor (places c.args.unit.now) c.in_ok-walk.ensures.value).table

pub returns-clause-name : goal.returns-clause-name
returns-clause-name c = (all_elements c.args.self.now c.walk.new.visitor (places c.args.unit.now) c.in_ok-walk.ensures.value).name

pub returns-clause-elements : goal.returns-clause-elements
returns-clause-elements c = unit_elements c.args.self.now c.walk.new.visitor c.args.unit.now c.requires.held c.in_ok-walk.ensures.value
