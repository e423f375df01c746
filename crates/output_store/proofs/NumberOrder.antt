-- The order of named files, and numbers in order.
use Rattle.std.proofs.Common.{◌≡◌, ℕ, ◌↔◌, List, eqb, Contains}
use Rattle.std.specs.Prelude.{IsSorted}
use Rattle.std.specs.List.{dedup}
use Rattle.std.specs.Ordering.{nat_cmp}
use Rattle.std.specs.Cmp.{IsStrictWeakOrder}
use Rattle.std.specs.Cmp.Lexicographic.{slice_cmp}
use Rattle.std.specs.List.Sorted.{IsStable, IsPermutation}
use Rattle.std.specs.declared.cmp.Ordering.{Ordering}
use Rattle.std.proofs.lemmas.Cmp.{nat_list_cmp_total, on_total}
use Rattle.std.proofs.lemmas.List.Kept.{Contains-dedup_nat, Contains-from_dedup}
use Rattle.std.proofs.lemmas.List.Sorted.{ranks_by, Contains-permutation, IsPermutation-sym}
use Rattle.apt_filer.specs.Orders.{in_order}
use Rattle.apt_filer.proofs.OrderLemmas.{sorted_is_in_order}
use Rattle.output_store.specs.Output.{named_less}
use Rattle.output_store.specs.declared.named.NamedFile.{NamedFile}

abbrev pub path_cmp : NamedFile → NamedFile → Ordering
path_cmp one other = slice_cmp nat_cmp one.path other.path

pub by_path : IsStrictWeakOrder named_less
by_path = ranks_by (on_total (λ (f : NamedFile). f.path) nat_list_cmp_total) (λ (f : NamedFile). f)

-- what a stable sort leaves
pub sorted_by_path : (old new : List NamedFile) → IsSorted path_cmp new → IsStable path_cmp old new → new ≡ in_order named_less old
sorted_by_path old new sorted stable = sorted_is_in_order named_less by_path old new sorted stable

-- in order and each once, they are the same numbers
pub same_numbers : (numbers ordered : List ℕ) → IsPermutation numbers ordered → (n : ℕ) → Contains (dedup eqb ordered) n ↔ Contains numbers n
same_numbers numbers ordered permutes n = (
  λ has. Contains-permutation ordered numbers n (IsPermutation-sym numbers ordered permutes) (Contains-from_dedup eqb ordered n has),
  λ has. Contains-dedup_nat ordered n (Contains-permutation numbers ordered n permutes has),
)
