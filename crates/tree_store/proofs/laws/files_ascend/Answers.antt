use Rattle.tree_store.proofs.Ascending as laws
use Rattle.tree_store.proofs.laws.files_ascend.Goals as goal

pub returns : goal.returns
returns c = laws.files_ascend
