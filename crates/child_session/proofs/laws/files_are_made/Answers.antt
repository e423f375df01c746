use Rattle.child_session.proofs.FiledFiles.{files-made}
use Rattle.child_session.proofs.laws.files_are_made.Goals as goal

pub returns : goal.returns
returns c = files-made
