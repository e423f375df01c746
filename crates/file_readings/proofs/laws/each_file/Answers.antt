use Rattle.file_readings.proofs.ReadingLemmas.{reads, reads-once}
use Rattle.file_readings.proofs.laws.each_file.Goals as goal

pub returns-clause-reads : goal.returns-clause-reads
returns-clause-reads c = reads

pub returns-clause-once : goal.returns-clause-once
returns-clause-once c = reads-once
