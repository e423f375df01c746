use Rattle.std.proofs.Common.{◌≡◌, sym, ◌∙◌}
use Rattle.std.proofs.lemmas.Iterator.{YieldsList-from_slice, items_from_drains}
use Rattle.std.proofs.lemmas.Iterator.Consumers.{YieldsList-at, YieldsList-from_copied}
use Rattle.std.proofs.lemmas.List.{map-id}
use Rattle.origin_record.proofs.Different.{set_shows_different}
use Rattle.origin_record.proofs.distinct.are_different.Goals as goal

pub returns : goal.returns
returns c =
    let numbers = c.args.numbers.now in
    let ran = c.in_ok-set.ensures.ran in
    let same : ran.0 ≡ numbers = sym (map-id ran.0) ∙ items_from_drains ran.0 ran.1 (YieldsList-from_copied (YieldsList-at c.copied.ensures.source (YieldsList-from_slice numbers c.iter.ensures.rest))) in
    set_shows_different c.in_ok-set.set ran.0 numbers c.len.result c.len.ensures.len ran.2 same
