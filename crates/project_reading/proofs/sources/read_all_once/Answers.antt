use Rattle.project_reading.proofs.SourcesOfAProject.{stops_least, due_of_all_read}
use Rattle.project_reading.proofs.sources.read_all_once.Goals as goal

pub returns-clause-least : goal.returns-clause-least
returns-clause-least c = stops_least c.args.part c.args.sources c.read_each_once.result c.read_each_once.ensures.read

pub returns-clause-due : goal.returns-clause-due
returns-clause-due c = due_of_all_read c.args.part c.args.sources c.read_each_once.result c.read_each_once.ensures.read
