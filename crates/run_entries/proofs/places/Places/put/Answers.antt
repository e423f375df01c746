use Rattle.std.proofs.Common.{ap, ◌∙◌, string_bytes}
use Rattle.std.specs.FinMap as fin
use Rattle.name_index.proofs.TextMaps.{shown-insert}
use Rattle.run_entries.specs.Maps.{places_of}
use Rattle.run_entries.proofs.places.Places.put.Goals as goal

pub returns-clause-ok : goal.returns-clause-ok
returns-clause-ok c =
    shown-insert c.self.inside.held c.insert.new.self (string_bytes c.in_ok-name.name) c.args.places c.in_ok-insert.ensures.updates
    ∙ ap (λ name. fin.insert (places_of c.self.inside.held) name c.args.places) c.in_ok-name.ensures.ok
    ∙ ap (λ places. fin.insert places c.args.name.now c.args.places) c.self.view_is
