use Rattle.std.proofs.Common.{sym, ap, ◌∙◌}
use Rattle.std.specs.FinMap as fin
use Rattle.name_index.proofs.TextMaps.{get-shown}
use Rattle.run_entries.specs.Maps.{or_none}
use Rattle.run_entries.proofs.places.Places.at.Goals as goal

pub returns-in-Some : goal.returns-in-Some
returns-in-Some c =
    c.as_slice.ensures
    ∙ ap or_none (c.in-Some.ensures.value ∙ sym (get-shown c.self.inside.held c.args.name.now) ∙ ap (λ places. fin.get places c.args.name.now) c.self.view_is)

pub returns-in-None : goal.returns-in-None
returns-in-None c = ap or_none (c.in-None.ensures.value ∙ sym (get-shown c.self.inside.held c.args.name.now) ∙ ap (λ places. fin.get places c.args.name.now) c.self.view_is)
