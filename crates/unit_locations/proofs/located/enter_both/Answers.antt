use Rattle.std.proofs.Common.{string_bytes, ap, ◌∙◌}
use Rattle.std.specs.FinMap as fin
use Rattle.unit_locations.proofs.LocatedLemmas.{remove-insert}
use Rattle.unit_locations.proofs.located.enter_both.Goals as goal

pub returns-in-Err-enter-clause-locations_err : goal.returns-in-Err-enter-clause-locations_err
returns-in-Err-enter-clause-locations_err c =
    c.remove.ensures
    ∙ ap (λ m. fin.remove m c.as_str-in-Err-enter.result.now) (c.in-Ok-insert.ensures.ok ∙ ap (λ n. fin.insert c.args.locations.now n c.args.location) (c.in-Ok.ensures.ok ∙ c.as_str.ensures))
    ∙ ap (λ n. fin.remove (fin.insert c.args.locations.now c.args.name.now c.args.location) n) c.as_str-in-Err-enter.ensures
    ∙ remove-insert c.args.locations.now c.args.name.now c.args.location c.requires
