use Rattle.std.proofs.Common.{◌≡◌, ◌∙◌, ◌<◌, ◌^◌, eqb, sym, ap, subst, List, ℕ, All, Contains, ◌↔◌}
use Rattle.std.specs.List.{dedup}
use Rattle.std.proofs.lemmas.List.Elements.{All-contains}
use Rattle.std.proofs.lemmas.List.Filters.{dedup_is}
use Rattle.std.proofs.lemmas.Map.Keys.{IsStrictlyIncreasing-dedup}
use Rattle.origin_record.specs.Conditions.{stores_in}
use Rattle.output_store.proofs.NumberOrder.{same_numbers}
use Rattle.output_store.proofs.FreeNumbers.{leave_free}
use Rattle.output_store.proofs.named.numbers_of.Goals as goal

pub returns-clause-ascending : goal.returns-clause-ascending
returns-clause-ascending c =
    let kept : c.from_vec.result ≡ dedup eqb c.sort_unstable.new.self.items = c.from_vec.ensures ∙ dedup_is eqb _ _ c.dedup.ensures.filtered in
    rw kept (IsStrictlyIncreasing-dedup c.sort_unstable.new.self.items c.sort_unstable.ensures.sorted)

pub returns-clause-numbers : goal.returns-clause-numbers
returns-clause-numbers c =
    let kept : c.from_vec.result ≡ dedup eqb c.sort_unstable.new.self.items = c.from_vec.ensures ∙ dedup_is eqb _ _ c.dedup.ensures.filtered in
    rw kept (λ n. subst (λ (ns : List ℕ). Contains (dedup eqb c.sort_unstable.new.self.items) n ↔ Contains ns n) (c.in_ok-numbers.ensures ∙ ap stores_in c.as_slice.ensures) (same_numbers c.in_ok-numbers.numbers.items c.sort_unstable.new.self.items c.sort_unstable.ensures.permutation n))

pub returns-clause-free : goal.returns-clause-free
returns-clause-free c =
    let small : All (λ n. n < 2 ^ 32) c.from_vec.result = subst (λ (ns : List ℕ). All (λ n. n < 2 ^ 32) ns) (c.as_slice-2.ensures.value ∙ sym c.from_vec.ensures) c.are_small.ensures in
    leave_free c.args.record.now c.from_vec.result (λ m has. All-contains (λ n. n < 2 ^ 32) c.from_vec.result m small has) (returns-clause-numbers c)
