use Rattle.std.proofs.Common.{ℕ, List, subst}
use Rattle.reach_map.specs.Agree.{HaveSameSources}
use Rattle.reach_map.proofs.SharedReaches.{share}
use Rattle.reach_map.proofs.agreeing.agrees.Goals as goal

pub returns-clause-law : goal.returns-clause-law
returns-clause-law c = λ h.
    share c.args.one.now c.args.other.now c.args.names.now
    (subst (λ (list : List (List ℕ)). HaveSameSources c.args.one.now c.args.other.now list) c.as_slice.ensures (c.all_agree.ensures.same h))
