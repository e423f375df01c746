use Rattle.file_answers.proofs.EachFile.{each-file}
use Rattle.file_answers.proofs.laws.each_answered.Goals as goal

pub returns : goal.returns
returns c = each-file
