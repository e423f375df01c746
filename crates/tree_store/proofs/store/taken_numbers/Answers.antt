use Rattle.std.proofs.Common.{◌≡◌, ℕ, ◌++◌, ◌∷◌, [], List, subst, sym, map, take, string_bytes, eqb, codes, ap, ◌∙◌, arith}
use Rattle.std.specs.List.{dedup}
use Rattle.std.proofs.lemmas.List.{take_all}
use Rattle.std.proofs.lemmas.List.Filters.{dedup_is}
use Rattle.std.proofs.lemmas.Map.Keys.{IsStrictlyIncreasing-dedup}
use Rattle.apt_outside.specs.Files.{paths_below}
use Rattle.tree_store.specs.Output.{store_path}
use Rattle.tree_store.proofs.StorePaths.{store_path-below-store}
use Rattle.tree_store.proofs.Numbers.{AreNumbersOf, AreNumbersOf-dedup, number_more, number_none, paths_more, Contains-paths_below}
use Rattle.tree_store.proofs.store.taken_numbers.Goals as goal
use Rattle.tree_store.proofs.store.taken_numbers.Goals.{in-Some+in_ok-push, in_default}

pub loop-path-preserved : goal.loop-path-preserved
loop-path-preserved g c =
    let items = c.deref-path-items.result.now in
    let i = c.loop-path.path-index in
    let front = map string_bytes (take i items) in
    let path = string_bytes c.path-item.result in
    let are : AreNumbersOf c.match-store_number.numbers.items (front ++ path ∷ []) = elim c.match-store_number.branch [
      | in-Some+in_ok-push w ↦
          let pushed : c.match-store_number.numbers.items ≡ c.loop-path.numbers.items ++ w.in-Some.number ∷ [] = rw w.numbers-is w.in_ok-push.ensures.items in
          subst (λ (ns : List ℕ). AreNumbersOf ns (front ++ path ∷ [])) (sym pushed) (number_more c.loop-path.numbers.items front w.in-Some.number path (omega arith) (w.in-Some.ensures ∙ c.as_str.ensures.value) c.loop-path.invariant)
      | in_default w ↦
          let same : c.match-store_number.numbers.items ≡ c.loop-path.numbers.items = ap (λ v. v.items) w.numbers-is in
          let none = rw (w.in_default.is, c.as_str.ensures.value) at c.store_number.ensures in
          subst (λ (ns : List ℕ). AreNumbersOf ns (front ++ path ∷ [])) (sym same) (number_none c.loop-path.numbers.items front path none c.loop-path.invariant)
    ] in
    subst (AreNumbersOf c.match-store_number.numbers.items) (sym (paths_more items i c.path-item.result c.loop-path-test.true c.path-item.is)) are

pub returns-clause-ascending : goal.returns-clause-ascending
returns-clause-ascending g c =
    let kept : c.from_vec.result ≡ dedup eqb c.sort_unstable.new.self.items = c.from_vec.ensures ∙ dedup_is eqb _ _ c.dedup.ensures.filtered in
    rw kept (IsStrictlyIncreasing-dedup c.sort_unstable.new.self.items c.sort_unstable.ensures.sorted)

pub returns-clause-taken : goal.returns-clause-taken
returns-clause-taken g c = λ told n small.
    let files = g.T.Tree.files c.args.tree.now in
    let kept : c.from_vec.result ≡ dedup eqb c.sort_unstable.new.self.items = c.from_vec.ensures ∙ dedup_is eqb _ _ c.dedup.ensures.filtered in
    let all : take c.loop-path.path-index c.deref-path-items.result.now ≡ c.in_ok-paths.paths.items = take_all _ _ c.loop-path-test.false ∙ c.deref-path-items.ensures.value in
    let listed : map string_bytes (take c.loop-path.path-index c.deref-path-items.result.now) ≡ paths_below files (codes "out/store") = ap (map string_bytes) all ∙ c.in_ok-paths.ensures.paths told in
    let here = Contains-paths_below files (codes "out/store") (store_path n) (store_path-below-store n) in
    let numbers = AreNumbersOf-dedup c.loop-path.numbers.items c.sort_unstable.new.self.items (paths_below files (codes "out/store")) c.sort_unstable.ensures.permutation (rw listed at c.loop-path.invariant) in
    rw kept ((λ has. here.0 ((numbers n small).0 has)), (λ stands. (numbers n small).1 (here.1 stands)))
