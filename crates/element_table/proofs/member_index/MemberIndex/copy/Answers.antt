use Rattle.std.proofs.Common.{◌≡◌, map, string_bytes, ap, ◌∙◌, rules}
use Rattle.std.specs.FinMap as fin
use Rattle.std.specs.Map.Iter.{deref_pair}
use Rattle.std.specs.Ordering.{nat_cmp}
use Rattle.std.specs.Cmp.Lexicographic.{slice_cmp}
use Rattle.std.proofs.lemmas.Map.Iter.{iter_end}
use Rattle.name_index.specs.ShownMaps.{shown_entry}
use Rattle.name_index.proofs.TextMaps.{put_all, get-put_all-borrowed, same_from_put_all, entries_of_borrowed}
use Rattle.element_table.specs.MemberTypes.{ranges_of}
use Rattle.element_table.proofs.member_index.MemberIndex.copy.Goals as goal

pub loop-key-init : goal.loop-key-init
loop-key-init c = λ q. ap (λ ranges. fin.get ranges q) c.new-index.ensures ∙ fin.get-empty (slice_cmp nat_cmp) q

pub loop-key-preserved : goal.loop-key-preserved
loop-key-preserved c = λ q.
    ap (λ ranges. fin.get ranges q) c.in_ok-put.ensures.ok
    ∙ ap (λ key. fin.get (fin.insert (ranges_of c.loop-key.index) key c.in-Some.range.now) q) (c.in_ok-from_str.ensures.ok ∙ c.as_str.ensures.value)
    ∙ get-put_all-borrowed (ranges_of c.loop-key.index) c.loop-key.yielded c.in-Some.key c.in-Some.range q (c.loop-key.invariant q)

pub returns : goal.returns
returns c =
    let all : map deref_pair c.loop-key.yielded ≡ c.args.self.now.held.entries = search (rules, iter_end) in
    same_from_put_all c.args.self.now.held (ranges_of c.loop-key.index) c.into_iter-key-iterator.ensures.into_iter_gives.5
    (λ q. c.loop-key.invariant q ∙ ap (λ es. put_all es q) (entries_of_borrowed c.loop-key.yielded ∙ ap (map shown_entry) all))
