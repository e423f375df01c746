use Rattle.std.proofs.Common.{◌≡◌, map, string_bytes, ap, sym, ◌∙◌, rules}
use Rattle.std.specs.BTreeMap as tree
use Rattle.std.specs.FinMap.{keys}
use Rattle.std.specs.Map.Iter.{deref}
use Rattle.std.proofs.lemmas.Map.Iter.{iter_end}
use Rattle.apt_base.proofs.NameSets.{bytes_of_borrowed}
use Rattle.name_index.proofs.TextMaps.{keys-shown}
use Rattle.element_table.proofs.units.Units.names.Goals as goal

pub returns : goal.returns
returns c =
    let all : map deref c.loop-name.yielded ≡ tree.keys c.self.inside.held = search (rules, iter_end) in
    c.loop-name.invariant
    ∙ bytes_of_borrowed c.loop-name.yielded
    ∙ ap (map string_bytes) all
    ∙ sym (keys-shown c.self.inside.held c.keys-name-items.ensures.ordered)
    ∙ ap keys c.self.view_is
