use Rattle.std.proofs.Common.{arith, ◌≡◌, get_or}
use Rattle.round_engine.proofs.NumberingLemmas.{Contains-next}
use Rattle.round_engine.proofs.numbering.Numbers.next_is_taken.Goals as goal

pub returns-in-len1-up-clause-taken : goal.returns-in-len1-up-clause-taken
returns-in-len1-up-clause-taken c =
    let same = Contains-next c.args.self.now.taken.now c.args.self.now.next c.in-len1-up.len_at_least c.requires in
    ((λ yes. same.0 (let e : get_or c.args.self.now.taken.now 0 0 ≡ c.args.self.now.next = grind arith in e)), (λ has. let e = same.1 has in grind arith))
