use Rattle.std.proofs.Common.{List, ℕ, ap}
use Rattle.name_resolve.specs.Parts.{lent}
use Rattle.reach_map.specs.Candidates.{prefix_names, first_candidates, chain_candidates}
use Rattle.reach_map.proofs.CandidateSetsLemmas.{names_both, chain_candidates-split}
use Rattle.reach_map.proofs.chains.add_chain.Goals as goal

pub returns : goal.returns
returns c =
    let unit = c.args.unit.now in
    let chain : List (List ℕ) = lent c.args.chain.now in
    let first : List ℕ = c.in-Some.first.now.now in
    names_both c.add_first.result c.args.names.now c.add_prefixes.new.names c.add_first.new.names (prefix_names chain) (first_candidates unit first) (chain_candidates unit chain)
    c.in_ok-add_prefixes.ensures (chain_candidates-split unit chain first (lent c.in-Some.field-0-1.now) (ap lent c.in-Some.ensures.cases.0)) c.add_first.ensures
