use Rattle.std.proofs.Common.{length}
use Rattle.type_relations.proofs.supertypes.+direct_in.Given as goal

abbrev pub decreases-direct_in : goal.decreases-direct_in
decreases-direct_in l = length l.around.now
