use Rattle.std.proofs.Common.{◌≡◌, ◌+◌, ◌*◌}
use Rattle.annotation_values.proofs.values.Values.+learning.Given as goal

-- the names in an initialiser are followed through one name less
abbrev pub decreases-learn : goal.decreases-learn
decreases-learn l = l.names * 2

abbrev pub decreases-learn_name : goal.decreases-learn_name
decreases-learn_name l = l.names * 2 + 1

abbrev pub invariant-learn-loop-name : goal.invariant-learn-loop-name
invariant-learn-loop-name l = l.self ≡ l.fn.self
