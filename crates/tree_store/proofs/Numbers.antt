-- Which numbers have store files, from the paths that are listed.
use Rattle.std.proofs.Common.{◌≡◌, ◌≢◌, ◌↔◌, ℕ, ◌+◌, ◌^◌, ◌<◌, true, List, [], ◌∷◌, ◌++◌, length, get_or, take, map, string_bytes, String, Contains, IsSome, is_some, eqb, inl, inr, subst, sym, ap, ◌∙◌, arith}
use Rattle.std.specs.declared.alloc.Global.{Global}
use Rattle.std.specs.List.{list_any, dedup}
use Rattle.std.specs.List.Sorted.{IsPermutation}
use Rattle.std.specs.Ordering.{nat_cmp, eq_by_cmp}
use Rattle.std.specs.Cmp.Lexicographic.{slice_cmp, nat_list_cmp_total}
use Rattle.std.specs.FinMap as fin
use Rattle.std.specs.FinMap.{contains_key-keys}
use Rattle.std.proofs.lemmas.Cmp.{eq_by_cmp_equiv}
use Rattle.std.proofs.lemmas.List.{take_more, map-append}
use Rattle.std.proofs.lemmas.List.Elements.{Contains-push, Contains-push_cases, Contains-append_left}
use Rattle.std.proofs.lemmas.List.Kept.{Contains-dedup_nat, Contains-from_dedup}
use Rattle.std.proofs.lemmas.List.Sorted.{Contains-permutation, IsPermutation-sym}
use Rattle.std.proofs.lemmas.Map.Views.{any-filter_same, Contains-from_any, list_any-from_Contains}
use Rattle.std.proofs.lemmas.Slice.Eq.{bytes_eq-Decides}
use Rattle.apt_outside.specs.Files.{Files, file_at, is_below, paths_below}
use Rattle.apt_outside.proofs.HeldLemmas.{path_test}
use Rattle.tree_store.specs.Output.{store_path}
use Rattle.tree_store.proofs.StorePaths.{store_path_injective}

-- these are the numbers below 2^32 whose store paths are among the paths
abbrev pub AreNumbersOf : List ℕ → List (List ℕ) → Type 0
AreNumbersOf numbers paths = (n : ℕ) → n < 2 ^ 32 → (Contains numbers n ↔ Contains paths (store_path n))

-- one path more, with its number
pub number_more : (numbers : List ℕ) (front : List (List ℕ)) (number : ℕ) (path : List ℕ) → number < 2 ^ 32 → store_path number ≡ path → AreNumbersOf numbers front → AreNumbersOf (numbers ++ number ∷ []) (front ++ path ∷ [])
number_more numbers front number path fits is are = λ n small. (
  λ has. elim (Contains-push_cases numbers number n has) [
    | inl before ↦ Contains-append_left front (path ∷ []) (store_path n) ((are n small).0 before)
    | inr same ↦ subst (Contains (front ++ path ∷ [])) (sym is ∙ ap store_path same) (Contains-push front path)
  ],
  λ has. elim (Contains-push_cases front path (store_path n) has) [
    | inl before ↦ Contains-append_left numbers (number ∷ []) n ((are n small).1 before)
    | inr same ↦ subst (Contains (numbers ++ number ∷ [])) (store_path_injective number n (omega arith) (omega arith) (is ∙ same)) (Contains-push numbers number)
  ],
)

-- one path more, which is that of no number
pub number_none : (numbers : List ℕ) (front : List (List ℕ)) (path : List ℕ) → ((n : ℕ) → n < 2 ^ 32 → store_path n ≢ path) → AreNumbersOf numbers front → AreNumbersOf numbers (front ++ path ∷ [])
number_none numbers front path other are = λ n small. (
  λ has. Contains-append_left front (path ∷ []) (store_path n) ((are n small).0 has),
  λ has. elim (Contains-push_cases front path (store_path n) has) [
    | inl before ↦ (are n small).1 before
    | inr same ↦ absurd (other n small (sym same))
  ],
)

-- the paths up to the next
pub paths_more : (items : List (String Global)) (i : ℕ) (path : String Global) → i < length items → path ≡ get_or items i path → map string_bytes (take (i + 1) items) ≡ map string_bytes (take i items) ++ string_bytes path ∷ []
paths_more items i path below is =
    let next : take (i + 1) items ≡ take i items ++ path ∷ [] = take_more items i path below ∙ ap (λ (p : String Global). take i items ++ p ∷ []) (sym is) in
    ap (map string_bytes) next ∙ map-append string_bytes (take i items) (path ∷ [])

-- in order and each once, they are the same numbers
pub AreNumbersOf-dedup : (numbers ordered : List ℕ) (paths : List (List ℕ)) → IsPermutation numbers ordered → AreNumbersOf numbers paths → AreNumbersOf (dedup eqb ordered) paths
AreNumbersOf-dedup numbers ordered paths permutes are = λ n small. (
  λ has. (are n small).0 (Contains-permutation ordered numbers n (IsPermutation-sym numbers ordered permutes) (Contains-from_dedup eqb ordered n has)),
  λ has. Contains-dedup_nat ordered n (Contains-permutation numbers ordered n permutes ((are n small).1 has)),
)

same_path : (p q : List ℕ) → eq_by_cmp (slice_cmp nat_cmp) p q ≡ true → p ≡ q
same_path p q e = sym ((bytes_eq-Decides q p).0 (sym (path_test p q) ∙ e))

listed : (files : Files) (folder q : List ℕ) → is_below folder q ≡ true → list_any (eq_by_cmp (slice_cmp nat_cmp) q) (paths_below files folder) ≡ is_some (file_at files q)
listed files folder q below =
    any-filter_same (eq_by_cmp (slice_cmp nat_cmp) q) (is_below folder) true (λ k same. ap (is_below folder) (sym (same_path q k same)) ∙ below) (fin.keys files)
    ∙ sym (contains_key-keys files q)

-- a path below a folder is listed exactly where a file stands there
pub Contains-paths_below : (files : Files) (folder q : List ℕ) → is_below folder q ≡ true → Contains (paths_below files folder) q ↔ IsSome (file_at files q)
Contains-paths_below files folder q below = (
  λ has. sym (listed files folder q below) ∙ list_any-from_Contains (eq_by_cmp_equiv nat_list_cmp_total) q (paths_below files folder) has,
  λ stands. Contains-from_any same_path q (paths_below files folder) (listed files folder q below ∙ stands),
)
