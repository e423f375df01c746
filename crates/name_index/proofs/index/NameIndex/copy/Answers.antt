use Rattle.std.proofs.Common.{◌≡◌, map, string_bytes, ap, ◌∙◌, rules}
use Rattle.std.specs.FinMap as fin
use Rattle.std.specs.Map.Iter.{deref_pair}
use Rattle.std.specs.Ordering.{nat_cmp}
use Rattle.std.specs.Cmp.Lexicographic.{slice_cmp}
use Rattle.std.proofs.lemmas.Map.Iter.{iter_end}
use Rattle.name_index.specs.ShownMaps.{shown_entry}
use Rattle.name_index.proofs.TextMaps.{put_all, get-put_all-borrowed, same_from_put_all, entries_of_borrowed}
use Rattle.name_index.proofs.index.NameIndex.copy.Goals as goal

pub loop-at-init : goal.loop-at-init
loop-at-init c = λ q. ap (λ index. fin.get index q) c.new-index.ensures ∙ fin.get-empty (slice_cmp nat_cmp) q

pub loop-at-preserved : goal.loop-at-preserved
loop-at-preserved c = λ q.
    ap (λ index. fin.get index q) c.in_ok-put.ensures.ok
    ∙ ap (λ at. fin.get (fin.insert c.loop-at.index at c.in_ok-copy.field-0) q) c.as_str.ensures.value
    ∙ ap (λ names. fin.get (fin.insert c.loop-at.index (string_bytes c.in-Some.at.now) names) q) c.in_ok-copy.ensures
    ∙ get-put_all-borrowed c.loop-at.index c.loop-at.yielded c.in-Some.at c.in-Some.names q (c.loop-at.invariant q)

pub returns : goal.returns
returns c =
    let all : map deref_pair c.loop-at.yielded ≡ c.self.inside.held.entries = search (rules, iter_end) in
    same_from_put_all c.self.inside.held c.loop-at.index c.into_iter-at-iterator.ensures.into_iter_gives.5
    (λ q. c.loop-at.invariant q ∙ ap (λ es. put_all es q) (entries_of_borrowed c.loop-at.yielded ∙ ap (map shown_entry) all))
    ∙ c.self.view_is
