use Rattle.project_units.specs.Entering.{gathered}
use Rattle.project_units.specs.Faults.{stop_of}
use Rattle.project_units.proofs.EnteringLemmas.{gathers-read, gathers-unread}
use Rattle.project_units.proofs.entering.enter_created.Goals as goal

pub returns-in-Ok-clause-gathers : goal.returns-in-Ok-clause-gathers
returns-in-Ok-clause-gathers c =
    gathers-read (gathered c.args.table.now c.args.roots.now) c.args.path.now c.args.content.now c.in-Ok.parsed c.gather.new.table c.gather.new.roots c.gather.result c.in-Ok.ensures c.gather.ensures.gathers

pub returns-in-Err-clause-gathers : goal.returns-in-Err-clause-gathers
returns-in-Err-clause-gathers c =
    gathers-unread (gathered c.args.table.now c.args.roots.now) c.args.path.now c.args.content.now c.in-Err.fault (stop_of c.unread.result) c.in-Err.ensures c.unread.ensures.is
