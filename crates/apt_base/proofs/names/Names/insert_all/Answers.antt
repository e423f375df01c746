use Rattle.std.proofs.Common.{◌≡◌, map, string_bytes, ap, sym, ◌∙◌, rules}
use Rattle.std.specs.BTreeSet.{IsOrdered}
use Rattle.std.specs.String.{string_cmp}
use Rattle.std.specs.Map.Iter.{deref}
use Rattle.std.proofs.lemmas.Map.Iter.{iter_end}
use Rattle.apt_base.specs.Names.{with_name, with_names, names_in}
use Rattle.apt_base.proofs.NameSets.{bytes_of_borrowed}
use Rattle.apt_base.proofs.NameSets.{names_in-names_of, with_names-borrowed}
use Rattle.apt_base.proofs.names.Names.insert_all.Goals as goal

pub loop-name-preserved : goal.loop-name-preserved
loop-name-preserved c =
    c.in_ok-insert.ensures.ok
    ∙ ap (λ name. with_name c.loop-name.self name) c.as_str.ensures.value
    ∙ ap (λ names. with_name names (string_bytes c.in-Some.name.now)) c.loop-name.invariant
    ∙ sym (with_names-borrowed c.args.self.now c.loop-name.yielded c.in-Some.name)

pub returns : goal.returns
returns c =
    let ordered : IsOrdered string_cmp c.names.inside.held = search rules in
    let all : map deref c.loop-name.yielded ≡ c.names.inside.held.keys = search (rules, iter_end) in
    c.loop-name.invariant
    ∙ ap (with_names c.args.self.now) (
    bytes_of_borrowed c.loop-name.yielded
    ∙ ap (map string_bytes) all
    ∙ sym (names_in-names_of c.names.inside.held ordered)
    ∙ ap names_in c.names.view_is
    )
