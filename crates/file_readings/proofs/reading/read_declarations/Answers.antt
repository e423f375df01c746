use Rattle.file_readings.proofs.ReadingLemmas.{parses-from}
use Rattle.file_readings.proofs.reading.read_declarations.Goals as goal

pub returns-clause-reading : goal.returns-clause-reading
returns-clause-reading c = parses-from c.args.path.now c.args.bytes.now c.parse.result c.parse.ensures

pub returns-clause-answer : goal.returns-clause-answer
returns-clause-answer c = c.parse.ensures
