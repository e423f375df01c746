use Rattle.std.proofs.Common.{◌≡◌, map, string_bytes, ap, ◌∙◌, rules}
use Rattle.std.specs.FinMap as fin
use Rattle.std.specs.Map.Iter.{deref_pair}
use Rattle.std.specs.Ordering.{nat_cmp}
use Rattle.std.specs.Cmp.Lexicographic.{slice_cmp}
use Rattle.std.proofs.lemmas.Map.Iter.{iter_end}
use Rattle.name_index.specs.ShownMaps.{shown_entry}
use Rattle.name_index.proofs.TextMaps.{put_all, get-put_all-borrowed, same_from_put_all, entries_of_borrowed}
use Rattle.unit_locations.proofs.locations.Locations.copy.Goals as goal

pub loop-name-init : goal.loop-name-init
loop-name-init c = λ q. ap (λ units. fin.get units q) c.new-locations.ensures ∙ fin.get-empty (slice_cmp nat_cmp) q

pub loop-name-preserved : goal.loop-name-preserved
loop-name-preserved c = λ q.
    ap (λ units. fin.get units q) c.in_ok-insert.ensures.ok
    ∙ ap (λ name. fin.get (fin.insert c.loop-name.locations name c.in_ok-copy.field-0) q) (c.in_ok-from_str.ensures.ok ∙ c.as_str.ensures.value)
    ∙ ap (λ at. fin.get (fin.insert c.loop-name.locations (string_bytes c.in-Some.name.now) at) q) c.in_ok-copy.ensures
    ∙ get-put_all-borrowed c.loop-name.locations c.loop-name.yielded c.in-Some.name c.in-Some.location q (c.loop-name.invariant q)

pub returns : goal.returns
returns c =
    let all : map deref_pair c.loop-name.yielded ≡ c.self.inside.held.entries = search (rules, iter_end) in
    same_from_put_all c.self.inside.held c.loop-name.locations c.into_iter-name-iterator.ensures.into_iter_gives.5
    (λ q. c.loop-name.invariant q ∙ ap (λ es. put_all es q) (entries_of_borrowed c.loop-name.yielded ∙ ap (map shown_entry) all))
    ∙ c.self.view_is
