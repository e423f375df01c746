-- The files of a folder ascend by their paths, as those of a tree do.
use Rattle.std.proofs.Common.{◌≡◌, ℕ, Bool, true, false, ◌&&◌, T, List, [], ◌∷◌, map, Option, Some, None, option_map, Result, Ok, Err, if◌then◌else◌, refl, ap, subst}
use Rattle.std.specs.Prelude.{length, nat_lt}
use Rattle.std.specs.List.{AllByRecursion, cons_option, filter, filter_map}
use Rattle.std.specs.Ordering.{nat_cmp, is_lt}
use Rattle.std.specs.Cmp.Lexicographic.{slice_cmp}
use Rattle.std.specs.FinMap as fin
use Rattle.std.specs.FinMap.{is_sorted}
use Rattle.std.specs.FinMap.Entries.{below_all}
use Rattle.std.specs.declared.cmp.Ordering.{Ordering}
use Rattle.std.specs.declared.cmp.Ordering.TheVariants.{Less, Equal, Greater}
use Rattle.apt_base.specs.declared.kinds.What.{What}
use Rattle.apt_base.specs.declared.kinds.What.TheVariants as what
use Rattle.apt_outside.specs.Files.{Files, file_at, paths_below}
use Rattle.tree_store.specs.declared.sources.Folder.{Folder}
use Rattle.tree_store.specs.declared.sources.Folder.TheVariants.{Sources, Stubs}
use Rattle.tree_store.specs.declared.sources.RawSource.{RawSource}
use Rattle.tree_store.specs.declared.sources.RawSources.{RawSources}
use Rattle.tree_store.specs.Sources.{most_files, folder_path, most_in_all, is_java, source_of, source_at, sources_at, java_paths, java_files, passed, unless_passed, limited, files_in, both, IsBefore, Ascend, FilesAscend}

first : (a b : Bool) → T (a && b) → T a
first true b p = tt
first false b p = p

second : (a b : Bool) → T (a && b) → T b
second true b p = p
second false b p = absurd p

less : (o : Ordering) → T (is_lt o) → o ≡ Less
less Less p = refl
less Equal p = absurd p
less Greater p = absurd p

abbrev Above : List ℕ → RawSource → Type 0
Above path source = IsBefore path source.path

module _ (files : Files) (p : List ℕ → Bool) where
  abbrev taken : List (List ℕ × List ℕ) → List RawSource
  taken es = filter_map (source_at files) (filter p (map (λ e. e.0) es))

  -- what one path gives, in front of what all behind it give
  abbrev with_one : Bool → List ℕ → List (List ℕ) → List RawSource
  with_one b path paths = filter_map (source_at files) (if b then path ∷ paths else paths)

  module _ (path : List ℕ) where
    above_one : (more : List RawSource) (java : Bool) (found : Option (List ℕ)) (q : List ℕ) → IsBefore path q → AllByRecursion (Above path) more
        → AllByRecursion (Above path) (cons_option (if java then option_map (source_of q) found else None) more)
    above_one more true (Some bytes) q before all = (before, all)
    above_one more true None q before all = all
    above_one more false found q before all = all

    above : (es : List (List ℕ × List ℕ)) → T (below_all (slice_cmp nat_cmp) path es) → AllByRecursion (Above path) (taken es)
    above [] below = tt
    above (e ∷ es) below =
        let more = above es (second _ _ below) in
        elim (p e.0) as (λ b. AllByRecursion (Above path) (with_one b e.0 (filter p (map (λ e. e.0) es)))) [
          | true ↦ above_one (taken es) (is_java e.0) (file_at files e.0) e.0 (less _ (first _ _ below)) more
          | false ↦ more
        ]

  ascend_one : (more : List RawSource) (java : Bool) (found : Option (List ℕ)) (q : List ℕ) → AllByRecursion (Above q) more → Ascend more
      → Ascend (cons_option (if java then option_map (source_of q) found else None) more)
  ascend_one more true (Some bytes) q all rest = (all, rest)
  ascend_one more true None q all rest = rest
  ascend_one more false found q all rest = rest

  ascend_taken : (es : List (List ℕ × List ℕ)) → T (is_sorted (slice_cmp nat_cmp) es) → Ascend (taken es)
  ascend_taken [] sorted = tt
  ascend_taken (e ∷ es) sorted =
      let rest = ascend_taken es (second _ _ sorted) in
      elim (p e.0) as (λ b. Ascend (with_one b e.0 (filter p (map (λ e. e.0) es)))) [
        | true ↦ ascend_one (taken es) (is_java e.0) (file_at files e.0) e.0 (above e.0 es (first _ _ sorted)) rest
        | false ↦ rest
      ]

-- the Java files below a folder
below_ascend : (files : Files) (folder : List ℕ) → Ascend (sources_at files (paths_below files folder))
below_ascend files folder = ascend_taken files _ (fin.entries files) (fin.entries_sorted files)

abbrev given : Result (List RawSource) What → List RawSource
given (Ok sources) = sources
given (Err limit) = []

same_ok : {all sources : List RawSource} → ◌≡◌ {A = Result (List RawSource) What} (Ok all) (Ok sources) → all ≡ sources
same_ok is = ap given is

not_ok : (limit : What) (sources : List RawSource) → ◌≡◌ {A = Result (List RawSource) What} (Err limit) (Ok sources) → ⊥
not_ok limit sources is = cc

limits : (found : Option What) (sources all : List RawSource) → unless_passed found all ≡ Ok sources → all ≡ sources
limits None sources all is = same_ok is
limits (Some limit) sources all is = absurd (not_ok limit sources is)

module _ (folder : Folder) where
  counted : (many : Bool) (all sources : List RawSource) → (if many then Err what.Files else limited folder all) ≡ Ok sources → all ≡ sources
  counted true all sources is = absurd (not_ok what.Files sources is)
  counted false all sources is = limits (passed folder (most_in_all folder) all) sources all is

  folder_ascends : (files : Files) (sources : List RawSource) → files_in folder files ≡ Ok sources → Ascend sources
  unfolding files_in
  folder_ascends files sources is =
      subst Ascend (counted (nat_lt most_files (length (java_paths folder files))) (java_files folder files) sources is) (below_ascend files (folder_path folder))

-- ---- both folders

no_files : (limit : What) (files : RawSources) → ◌≡◌ {A = Result RawSources What} (Err limit) (Ok files) → ⊥
no_files limit files is = cc

abbrev given_both : Result RawSources What → RawSources
given_both (Ok files) = files
given_both (Err limit) = record { sources = []; stubs = [] }

both_ascend : (sources stubs : Result (List RawSource) What) (files : RawSources) → both sources stubs ≡ Ok files
    → ((given : List RawSource) → sources ≡ Ok given → Ascend given) → ((given : List RawSource) → stubs ≡ Ok given → Ascend given) → Ascend files.sources × Ascend files.stubs
both_ascend (Err limit) stubs files is all more = absurd (no_files limit files is)
both_ascend (Ok sources) (Err limit) files is all more = absurd (no_files limit files is)
both_ascend (Ok sources) (Ok stubs) files is all more =
    let same : record { sources = sources; stubs = stubs } ≡ files = ap given_both is in
    (subst (λ (files : RawSources). Ascend files.sources) same (all sources refl), subst (λ (files : RawSources). Ascend files.stubs) same (more stubs refl))

pub files_ascend : FilesAscend
files_ascend files sources is = both_ascend (files_in Sources files) (files_in Stubs files) sources is (folder_ascends Sources files) (folder_ascends Stubs files)
