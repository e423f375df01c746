use Rattle.apt_filer.proofs.ReportLemmas.{numbers_play_no_part}
use Rattle.apt_filer.proofs.messages.numbers_play_no_part.Goals as goal

pub returns : goal.returns
returns c = numbers_play_no_part
