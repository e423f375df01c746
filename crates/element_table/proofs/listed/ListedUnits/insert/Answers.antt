use Rattle.std.proofs.Common.{◌≡◌, false, string_bytes, ap, ◌∙◌, rules}
use Rattle.std.specs.FinMap as fin
use Rattle.element_table.specs.TableElements.{is_type}
use Rattle.element_table.proofs.PackageLaws.{stays_either}
use Rattle.element_table.proofs.listed.ListedUnits.insert.Goals as goal

pub invariant_of-self : goal.invariant_of-self
invariant_of-self c =
    let none : is_type c.args.unit.body ≡ false = search rules in
    let free : fin.contains_key c.self.inside.units (string_bytes c.args.name) ≡ false = ap (λ units. fin.contains_key units (string_bytes c.args.name)) c.self.view_is ∙ c.requires in
    stays_either c.self.inside.packages c.self.inside.units c.self.invariant (string_bytes c.args.name) c.args.unit free c.insert.result c.insert.new.self none c.insert.ensures.ok c.insert.ensures.err
