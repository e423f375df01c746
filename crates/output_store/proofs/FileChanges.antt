-- What files are there after some were removed or put.
use Rattle.std.proofs.Common.{◌≡◌, ◌≢◌, ℕ, Bool, true, false, cond, ◌||◌, List, [], ◌∷◌, ◌++◌, is_some, Option, Some, None, refl, sym, ap, ◌∙◌}
use Rattle.std.specs.Prelude.{filter}
use Rattle.std.specs.List.{list_any}
use Rattle.std.specs.Str.{bytes_eq}
use Rattle.std.specs.Ordering.{nat_cmp, eq_by_cmp}
use Rattle.std.specs.Cmp.Lexicographic.{slice_cmp}
use Rattle.std.specs.FinMap as fin
use Rattle.std.specs.FinMap.{contains_key-keys}
use Rattle.std.proofs.lemmas.Bool.{false_from_ne_true, true≢false, or_parts}
use Rattle.std.proofs.lemmas.List.Folds.{list_any-append}
use Rattle.std.proofs.lemmas.Map.Views.{any-filter_same}
use Rattle.std.proofs.lemmas.Slice.Eq.{bytes_eq-Decides}
use Rattle.apt_outside.specs.Files.{Files, file_at, is_below, paths_below}
use Rattle.apt_outside.proofs.HeldLemmas.{file_at-insert, file_at-remove, path_test}
use Rattle.output_store.specs.Output.{without}

-- ---- equal paths

pub same_path : (p q : List ℕ) → bytes_eq p q ≡ true → p ≡ q
same_path p q e = (bytes_eq-Decides p q).0 e

pub path-itself : (p : List ℕ) → bytes_eq p p ≡ true
path-itself p = (bytes_eq-Decides p p).1 refl

pub other_path : (p q : List ℕ) → p ≢ q → bytes_eq p q ≡ false
other_path p q ne = false_from_ne_true _ (λ e. ne (same_path p q e))

pub path-swap : (p q : List ℕ) → bytes_eq p q ≡ bytes_eq q p
path-swap p q = elim (bytes_eq p q) as (λ b. bytes_eq p q ≡ b → b ≡ bytes_eq q p) [
  | true ↦ λ e. sym (ap (bytes_eq q) (same_path p q e) ∙ path-itself q)
  | false ↦ λ e. sym (other_path q p (λ same. true≢false (sym (ap (λ (x : List ℕ). bytes_eq x q) (sym same) ∙ path-itself q) ∙ e)))
] refl

-- ---- one file

pub file_at-put : (files : Files) (path bytes : List ℕ) → file_at (fin.insert files path bytes) path ≡ Some bytes
file_at-put files path bytes = file_at-insert files path bytes path ∙ ap (λ b. cond b (Some bytes) (file_at files path)) (path-itself path)

pub file_at-beside_put : (files : Files) (path bytes q : List ℕ) → path ≢ q → file_at (fin.insert files path bytes) q ≡ file_at files q
file_at-beside_put files path bytes q ne = file_at-insert files path bytes q ∙ ap (λ b. cond b (Some bytes) (file_at files q)) (other_path path q ne)

none_either : (b : Bool) (o : Option (List ℕ)) → o ≡ None → cond b None o ≡ None
none_either true o e = refl
none_either false o e = e

file_at-remove_none : (files : Files) (path q : List ℕ) → file_at files q ≡ None → file_at (fin.remove files path) q ≡ None
file_at-remove_none files path q e = file_at-remove files path q ∙ none_either (bytes_eq path q) (file_at files q) e

-- ---- several files that are removed

pub without-append : (files : Files) (first rest : List (List ℕ)) → without files (first ++ rest) ≡ without (without files first) rest
unfolding without
without-append files [] rest = refl
without-append files (path ∷ first) rest = without-append (fin.remove files path) first rest

pub without-none : (files : Files) (paths : List (List ℕ)) (q : List ℕ) → file_at files q ≡ None → file_at (without files paths) q ≡ None
unfolding without
without-none files [] q e = e
without-none files (path ∷ paths) q e = without-none (fin.remove files path) paths q (file_at-remove_none files path q e)

-- what is among the paths is gone
pub without-gone : (files : Files) (paths : List (List ℕ)) (q : List ℕ) → list_any (bytes_eq q) paths ≡ true → file_at (without files paths) q ≡ None
unfolding without
without-gone files [] q e = absurd (true≢false (sym e))
without-gone files (path ∷ paths) q e = elim (bytes_eq q path) as (λ b. bytes_eq q path ≡ b → (b || list_any (bytes_eq q) paths) ≡ true → file_at (without (fin.remove files path) paths) q ≡ None) [
  | true ↦ λ same has. without-none (fin.remove files path) paths q (file_at-remove files path q ∙ ap (λ b. cond b None (file_at files q)) (path-swap path q ∙ same))
  | false ↦ λ other has. without-gone (fin.remove files path) paths q has
] refl e

-- what is not among them stays
pub without-others : (files : Files) (paths : List (List ℕ)) (q : List ℕ) → list_any (bytes_eq q) paths ≡ false → file_at (without files paths) q ≡ file_at files q
unfolding without
without-others files [] q e = refl
without-others files (path ∷ paths) q e = elim (bytes_eq q path) as (λ b. bytes_eq q path ≡ b → (b || list_any (bytes_eq q) paths) ≡ false → file_at (without (fin.remove files path) paths) q ≡ file_at files q) [
  | true ↦ λ same has. absurd (true≢false has)
  | false ↦ λ other has. without-others (fin.remove files path) paths q has ∙ file_at-remove files path q ∙ ap (λ b. cond b None (file_at files q)) (path-swap path q ∙ other)
] refl e

-- ---- paths that are listed

-- what is not among all is not among the first ones
pub not_in_first : (first rest paths : List (List ℕ)) (q : List ℕ) → first ++ rest ≡ paths → list_any (bytes_eq q) paths ≡ false → list_any (bytes_eq q) first ≡ false
not_in_first first rest paths q all e = (or_parts (list_any (bytes_eq q) first) (list_any (bytes_eq q) rest) (sym (list_any-append (bytes_eq q) first rest) ∙ ap (list_any (bytes_eq q)) all ∙ e)).0

pub any_by_bytes : (q : List ℕ) (paths : List (List ℕ)) → list_any (eq_by_cmp (slice_cmp nat_cmp) q) paths ≡ list_any (bytes_eq q) paths
any_by_bytes q [] = refl
any_by_bytes q (path ∷ paths) = λ i. (path_test q path ∙ path-swap path q) i || any_by_bytes q paths i

-- paths that pass a test or don't, among those that do
pub any_kept : (p : List ℕ → Bool) (q : List ℕ) (paths : List (List ℕ)) → p q ≡ true → list_any (bytes_eq q) (filter p paths) ≡ list_any (bytes_eq q) paths
any_kept p q paths e = any-filter_same (bytes_eq q) p true (λ k same. ap p (sym (same_path q k same)) ∙ e) paths

pub any_unkept : (p : List ℕ → Bool) (q : List ℕ) (paths : List (List ℕ)) → p q ≡ false → list_any (bytes_eq q) (filter p paths) ≡ false
any_unkept p q paths e = any-filter_same (bytes_eq q) p false (λ k same. ap p (sym (same_path q k same)) ∙ e) paths

-- a path below a folder is listed exactly where a file stands there
pub any-paths_below : (files : Files) (folder q : List ℕ) → is_below folder q ≡ true → list_any (bytes_eq q) (paths_below files folder) ≡ is_some (file_at files q)
any-paths_below files folder q below = any_kept (is_below folder) q (fin.keys files) below ∙ sym (any_by_bytes q (fin.keys files)) ∙ sym (contains_key-keys files q)

-- a path elsewhere is not listed
pub any-paths_elsewhere : (files : Files) (folder q : List ℕ) → is_below folder q ≡ false → list_any (bytes_eq q) (paths_below files folder) ≡ false
any-paths_elsewhere files folder q elsewhere = any_unkept (is_below folder) q (fin.keys files) elsewhere

pub none_from : (o : Option (List ℕ)) → is_some o ≡ false → o ≡ None
none_from None e = refl
none_from (Some x) e = absurd (true≢false e)

-- where all files of a folder are removed, none stands there
pub folder_gone : (files : Files) (folder q : List ℕ) → is_below folder q ≡ true → file_at (without files (paths_below files folder)) q ≡ None
folder_gone files folder q below = elim (is_some (file_at files q)) as (λ b. is_some (file_at files q) ≡ b → file_at (without files (paths_below files folder)) q ≡ None) [
  | true ↦ λ e. without-gone files (paths_below files folder) q (any-paths_below files folder q below ∙ e)
  | false ↦ λ e. without-none files (paths_below files folder) q (none_from (file_at files q) e)
] refl
