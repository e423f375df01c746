use Rattle.apt_filer.proofs.ReportLemmas.{origins_tell}
use Rattle.apt_filer.proofs.messages.origins_tell.Goals as goal

pub returns : goal.returns
returns c = origins_tell
