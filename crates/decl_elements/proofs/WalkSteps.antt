-- The steps of the walk: a place, then its children one after another, by their numbers.
use Rattle.std.proofs.Common.{◌≡◌, ℕ, zero, suc, ◌+◌, ◌≤◌, List, [], ◌∷◌, ◌++◌, map, length, take, None, Some, refl, sym, ap, subst, ◌∙◌, append-nil, arith}
use Rattle.std.specs.Prelude.{slice_get}
use Rattle.std.specs.List.{FoldsTo, enumerate_from, flat_map}
use Rattle.std.specs.Option.{option_to_list, option_and_then}
use Rattle.std.proofs.lemmas.Grind.{flat_map-append}
use Rattle.std.proofs.lemmas.List.{length-map}
use Rattle.std.proofs.lemmas.List.FromFn.{length-enumerate_from}
use Rattle.std.proofs.lemmas.Option.{none-some}
use Rattle.decl_elements.specs.Nodes.{Node, children, down}
use Rattle.decl_elements.specs.Walk.{Place, place_of, child_of, children_of, steps_below, all_below, HasFewBelow}
use Rattle.decl_elements.proofs.Everywhere.{OfSome, each_at}
use Rattle.decl_elements.proofs.WalkLaws.{all_below-is, children_fewer, child_there}

-- ---- lists

take_next : {A : Type 0} (xs : List A) (k : ℕ) → take (suc k) xs ≡ take k xs ++ option_to_list (slice_get xs k)
take_next [] zero = refl
take_next [] (suc k) = refl
take_next (x ∷ xs) zero = refl
take_next (x ∷ xs) (suc k) = ap (λ l. x ∷ l) (take_next xs k)

take_all : {A : Type 0} (xs : List A) (k : ℕ) → length xs ≤ k → take k xs ≡ xs
take_all [] zero le = refl
take_all [] (suc k) le = refl
take_all (x ∷ xs) zero le = absurd (omega arith)
take_all (x ∷ xs) (suc k) le = ap (λ l. x ∷ l) (take_all xs k (omega arith))

no_child_there : (at : Place) (n : ℕ) (nodes : List Node) (k : ℕ) → slice_get nodes k ≡ None → slice_get (map (child_of at) (enumerate_from n nodes)) k ≡ None
no_child_there at n [] k e = refl
no_child_there at n (node ∷ nodes) zero e = absurd (none-some _ (sym e))
no_child_there at n (node ∷ nodes) (suc k) e = no_child_there at (n + 1) nodes k e

pub length-children_of : (at : Place) → length (children_of at) ≡ length (children at.node)
length-children_of at = length-map (enumerate_from 0 (children at.node)) (child_of at) ∙ length-enumerate_from 0 (children at.node)

-- ---- what is asked of a child

pub fewer_at : (node child : Node) (k : ℕ) → Some child ≡ slice_get (children node) k → suc (steps_below child) ≤ steps_below node
fewer_at node child k e =
    let Fewer : Node → Type 0 = λ n. suc (steps_below n) ≤ steps_below node in
    subst (OfSome Fewer) (sym e) (each_at Fewer (children node) k (children_fewer node))

pub few_at_child : (node child : Node) (k : ℕ) → Some child ≡ slice_get (children node) k → HasFewBelow node → HasFewBelow child
few_at_child node child k e few path below is = few (k ∷ path) below (ap (option_and_then (λ n. down path n)) (sym e) ∙ is)

-- ---- folds over places

module _ {V : Type 0} (visits : V → Place → V → Type 0) where
  FoldsTo-append : (a b c : V) (xs ys : List Place) → FoldsTo visits a xs b → FoldsTo visits b ys c → FoldsTo visits a (xs ++ ys) c
  FoldsTo-append a b c [] ys first then = subst (λ v. FoldsTo visits v ys c) (sym first) then
  FoldsTo-append a b c (x ∷ xs) ys first then = (first.0, first.1, FoldsTo-append first.0 b c xs ys first.2 then)

  pub place_first : (a b c : V) (at : Place) → visits a at b → FoldsTo visits b (flat_map all_below (children_of at)) c → FoldsTo visits a (all_below at) c
  place_first a b c at here below = subst (λ l. FoldsTo visits a l c) (sym (all_below-is at)) (b, here, below)

  pub no_child : (a : V) (at : Place) (k : ℕ) → None ≡ slice_get (children at.node) k → FoldsTo visits a (flat_map all_below (option_to_list (slice_get (children_of at) k))) a
  no_child a at k e = subst (λ o. FoldsTo visits a (flat_map all_below (option_to_list o)) a) (sym (no_child_there at 0 (children at.node) k (sym e))) refl

  pub one_child : (a b : V) (at : Place) (k : ℕ) (child : Node) (path : List ℕ) → Some child ≡ slice_get (children at.node) k → path ≡ at.path ++ k ∷ []
      → FoldsTo visits a (all_below (place_of path child)) b → FoldsTo visits a (flat_map all_below (option_to_list (slice_get (children_of at) k))) b
  one_child a b at k child path e is folds =
      let here : List Place = all_below (child_of at (k, child)) in
      let there : FoldsTo visits a here b = subst (λ p. FoldsTo visits a (all_below (place_of p child)) b) is folds in
      subst (λ o. FoldsTo visits a (flat_map all_below (option_to_list o)) b) (sym (child_there at k child (sym e)))
      (subst (λ l. FoldsTo visits a l b) (sym (append-nil here)) there)

  pub one_more : (a b c : V) (at : Place) (path : List ℕ) (k : ℕ) → path ≡ at.path → FoldsTo visits a (flat_map all_below (take k (children_of at))) b
      → FoldsTo visits b (flat_map all_below (option_to_list (slice_get (children_of (place_of path at.node)) k))) c
      → FoldsTo visits a (flat_map all_below (take (k + 1) (children_of at))) c
  one_more a b c at path k is before next =
      let child : List Place → List Place = λ ats. flat_map all_below (option_to_list (slice_get ats k)) in
      let then : FoldsTo visits b (child (children_of at)) c = subst (λ p. FoldsTo visits b (child (children_of (place_of p at.node))) c) is next in
      let more : suc k ≡ k + 1 = omega arith in
      let same : flat_map all_below (take (k + 1) (children_of at)) ≡ flat_map all_below (take k (children_of at)) ++ child (children_of at) =
      ap (λ n. flat_map all_below (take n (children_of at))) (sym more) ∙ ap (flat_map all_below) (take_next (children_of at) k)
      ∙ flat_map-append all_below (take k (children_of at)) (option_to_list (slice_get (children_of at) k)) in
      subst (λ l. FoldsTo visits a l c) (sym same) (FoldsTo-append a b c (flat_map all_below (take k (children_of at))) (child (children_of at)) before then)

  pub all_children : (a b : V) (at : Place) (k : ℕ) → length (children at.node) ≤ k → FoldsTo visits a (flat_map all_below (take k (children_of at))) b → FoldsTo visits a (flat_map all_below (children_of at)) b
  all_children a b at k le folds =
      let count : length (children_of at) ≡ length (children at.node) = length-children_of at in
      subst (λ l. FoldsTo visits a (flat_map all_below l) b) (take_all (children_of at) k (omega arith)) folds
