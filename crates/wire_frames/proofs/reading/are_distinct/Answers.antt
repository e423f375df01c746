use Rattle.std.proofs.Common.{◌≡◌, List, ℕ, Bor, map, rules, tests, ◌∙◌}
use Rattle.std.proofs.lemmas.Iterator.{YieldsList-from_slice, YieldsList-from_map_by, items_from_drains}
use Rattle.std.proofs.lemmas.Iterator.Consumers.{YieldsList-at}
use Rattle.std.proofs.lemmas.List.{map-id}
use Rattle.wire_frames.proofs.Texts.{set_shows_distinct}
use Rattle.wire_frames.proofs.reading.are_distinct.Goals as goal

pub returns : goal.returns
returns c =
    let texts = c.args.texts.now in
    let ran = c.in_ok-set.ensures.ran in
    let shown : map (λ (r : Bor (List ℕ)). r.now) ran.0 ≡ map (λ (t : List ℕ). t) texts =
    items_from_drains ran.0 ran.1 (YieldsList-from_map_by _ (λ (r : Bor (List ℕ)). r.now) (λ (t : List ℕ). t) (YieldsList-at c.map.ensures.source (YieldsList-from_slice texts c.iter.ensures.rest)) c.map.ensures.closure (λ x r q k. search (rules, tests))) in
    set_shows_distinct c.in_ok-set.set ran.0 texts c.len.result c.len.ensures.len ran.2 (shown ∙ map-id texts)
