use Rattle.std.proofs.Common.{sym, ap, ◌∙◌}
use Rattle.std.specs.FinMap as fin
use Rattle.name_index.proofs.TextMaps.{get-shown}
use Rattle.run_entries.specs.Maps.{or_zero, stores_of}
use Rattle.run_entries.proofs.stores.StoreNumbers.number.Goals as goal

pub returns-in-Some : goal.returns-in-Some
returns-in-Some c =
    ap or_zero (c.in-Some.ensures.value ∙ sym (get-shown c.self.inside.held c.as_str.result.now)
    ∙ ap (λ path. fin.get (stores_of c.self.inside.held) path) c.as_str.ensures ∙ ap (λ stores. fin.get stores c.args.path.now) c.self.view_is)

pub returns-in-None : goal.returns-in-None
returns-in-None c =
    ap or_zero (c.in-None.ensures.value ∙ sym (get-shown c.self.inside.held c.as_str.result.now)
    ∙ ap (λ path. fin.get (stores_of c.self.inside.held) path) c.as_str.ensures ∙ ap (λ stores. fin.get stores c.args.path.now) c.self.view_is)
