use Rattle.std.proofs.Common.{length}
use Rattle.type_relations.proofs.erasing.+in_around.Given as goal

abbrev pub decreases-in_around : goal.decreases-in_around
decreases-in_around l = length l.around.now
