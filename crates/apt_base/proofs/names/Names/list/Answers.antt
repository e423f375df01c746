use Rattle.std.proofs.Common.{◌≡◌, map, string_bytes, ap, sym, ◌∙◌, rules}
use Rattle.std.specs.BTreeSet.{IsOrdered}
use Rattle.std.specs.String.{string_cmp}
use Rattle.std.specs.Map.Iter.{deref}
use Rattle.std.proofs.lemmas.Map.Iter.{iter_end}
use Rattle.apt_base.specs.Names.{names_in}
use Rattle.apt_base.proofs.NameSets.{bytes_of_borrowed}
use Rattle.apt_base.proofs.NameSets.{names_in-names_of}
use Rattle.apt_base.proofs.names.Names.list.Goals as goal

pub returns : goal.returns
returns c =
    let ordered : IsOrdered string_cmp c.self.inside.held = search rules in
    let all : map deref c.loop-name.yielded ≡ c.self.inside.held.keys = search (rules, iter_end) in
    c.loop-name.invariant
    ∙ bytes_of_borrowed c.loop-name.yielded
    ∙ ap (map string_bytes) all
    ∙ sym (names_in-names_of c.self.inside.held ordered)
    ∙ ap names_in c.self.view_is
