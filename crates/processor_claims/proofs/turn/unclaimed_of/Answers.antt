use Rattle.std.proofs.Common.{filter, ap, ◌∙◌, rules}
use Rattle.std.proofs.lemmas.Fn.{filter_same}
use Rattle.processor_claims.specs.Turns.{is_open}
use Rattle.processor_claims.proofs.turn.unclaimed_of.Goals as goal

pub returns : goal.returns
returns c =
    c.from_vec.ensures
    ∙ filter_same _ (is_open c.args.unclaimed.now.items) _ (λ x b f' k. search rules) _ _ c.retain.ensures.filtered
    ∙ ap (filter (is_open c.args.unclaimed.now.items)) c.into_vec-positions.ensures
