use Rattle.apt_filer.proofs.ReportLemmas.{later_comes_later}
use Rattle.apt_filer.proofs.messages.later_comes_later.Goals as goal

pub returns : goal.returns
returns c = later_comes_later
