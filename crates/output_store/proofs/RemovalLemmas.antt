-- Files that are removed one after another: those that no record names, and all of the output.
use Rattle.std.proofs.Common.{◌≡◌, ◌≢◌, ◌⊎◌, inl, inr, ℕ, ◌+◌, ◌<◌, ◌≤◌, Bool, true, false, cond, not, ◌||◌, List, [], ◌∷◌, ◌++◌, length, map, get_or, take, drop, codes, string_bytes, String, is_some, Option, None, refl, sym, ap, ◌∙◌, append-nil, append_assoc, true≢false}
use Rattle.std.specs.Prelude.{filter}
use Rattle.std.specs.List.{list_any}
use Rattle.std.specs.Str.{bytes_eq}
use Rattle.std.specs.Ordering.{nat_cmp, eq_by_cmp}
use Rattle.std.specs.Cmp.Lexicographic.{slice_cmp, nat_list_cmp_total}
use Rattle.std.specs.FinMap as fin
use Rattle.std.specs.FinMap.{get-entries, entries_sorted}
use Rattle.std.specs.FinMap.Entries.{where_key, is_sorted-where_key, find-where_key, same_entries}
use Rattle.std.specs.declared.alloc.Global.{Global}
use Rattle.std.proofs.lemmas.Bool.{false_from_ne_true, not-false}
use Rattle.std.proofs.lemmas.List.{take_more, take-append-drop, map-append, take_all}
use Rattle.std.proofs.lemmas.List.Elements.{filter-append}
use Rattle.apt_base.specs.Names.{NameSet, with_names}
use Rattle.apt_base.proofs.NameSets.{contains-with_names, contains-empty}
use Rattle.apt_outside.specs.Files.{Files, file_at, is_below, paths_below}
use Rattle.apt_outside.proofs.HeldLemmas.{file_at-remove, exact_paths}
use Rattle.output_store.specs.declared.named.NamedFile.{NamedFile}
use Rattle.output_store.specs.Output.{record_path, store_folder, files_named, output_of, without, RemovesAll, RemovesFirst, SameOutside}
use Rattle.output_store.specs.Reading.{store_paths, unkept, has_path, unnamed_paths, RemovesUnnamed, RemovesFirstUnnamed, StoreIsNamed}
use Rattle.output_store.specs.Cleaning.{store_files, store_count, paths_in_out, HasNoOutput, KeepsOrEmpties}
use Rattle.output_store.proofs.FileChanges.{same_path, path-itself, other_path, none_from, not_in_first, any_by_bytes, any_kept, any_unkept, any-paths_below, any-paths_elsewhere, without-append, without-none, without-gone, without-others, folder_gone}
use Rattle.output_store.proofs.Folders.{below_store-below_out}
use Rattle.output_store.proofs.OutputLemmas.{files_named-same, output_of-same, output_of-none}

-- ---- one path after another

-- the paths up to the next
pub paths_more : (items : List (String Global)) (i : ℕ) (path : String Global) → i < length items → path ≡ get_or items i path → map string_bytes (take (i + 1) items) ≡ map string_bytes (take i items) ++ string_bytes path ∷ []
paths_more items i path below is =
    let next : take (i + 1) items ≡ take i items ++ path ∷ [] = take_more items i path below ∙ ap (λ (p : String Global). take i items ++ p ∷ []) (sym is) in
    ap (map string_bytes) next ∙ map-append string_bytes (take i items) (path ∷ [])

-- nothing is removed so far
pub removed-begin : (old : Files) → RemovesAll [] old old
unfolding without
removed-begin old = refl

-- none and all of them are first ones
pub first_of_none : (paths : List (List ℕ)) (old new : Files) → new ≡ old → RemovesFirst paths old new
unfolding without
first_of_none paths old new same = record { first = []; rest = paths; all = refl; removed = same }

pub first_of_all : (paths : List (List ℕ)) (old new : Files) → RemovesAll paths old new → RemovesFirst paths old new
first_of_all paths old new all = record { first = paths; rest = []; all = append-nil paths; removed = all }

-- the same of equal paths and of an equal state before
pub all_as : (some paths : List (List ℕ)) (mid old new : Files) → some ≡ paths → mid ≡ old → RemovesAll some mid new → RemovesAll paths old new
all_as some paths mid old new same_paths same removed = removed ∙ (λ i. without (same i) (same_paths i))

pub first_as : (some paths : List (List ℕ)) (mid old new : Files) → some ≡ paths → mid ≡ old → RemovesFirst some mid new → RemovesFirst paths old new
first_as some paths mid old new same_paths same removes = record {
  first = removes.first;
  rest = removes.rest;
  all = removes.all ∙ same_paths;
  removed = removes.removed ∙ ap (λ (files : Files). without files removes.first) same;
}

module _ (kept : NameSet) where
  abbrev is_unkept : List ℕ → Bool
  is_unkept path = not (fin.contains_key kept path)

  abbrev pub unkept_front : List (String Global) → ℕ → List (List ℕ)
  unkept_front items i = unkept kept (map string_bytes (take i items))

  -- a path that is kept, and one that is not
  pub one-kept : (path : List ℕ) → fin.contains_key kept path ≡ true → unkept kept (path ∷ []) ≡ []
  one-kept path has = ap (λ b. cond (not b) (path ∷ []) []) has

  pub one-unkept : (path : List ℕ) → fin.contains_key kept path ≡ false → unkept kept (path ∷ []) ≡ path ∷ []
  one-unkept path not_has = ap (λ b. cond (not b) (path ∷ []) []) not_has

  -- what becomes of one file
  pub kept_all : (old : Files) (path : List ℕ) → fin.contains_key kept path ≡ true → RemovesAll (unkept kept (path ∷ [])) old old
  unfolding without
  kept_all old path has = ap (without old) (sym (one-kept path has))

  pub removed_all : (old new : Files) (path : List ℕ) → fin.contains_key kept path ≡ false → new ≡ fin.remove old path → RemovesAll (unkept kept (path ∷ [])) old new
  unfolding without
  removed_all old new path not_has removed = removed ∙ ap (without old) (sym (one-unkept path not_has))

  -- where a removal fails, the file stands or is gone
  pub first_of_one : (old new : Files) (path : List ℕ) → fin.contains_key kept path ≡ false → (new ≡ old) ⊎ (new ≡ fin.remove old path) → RemovesFirst (unkept kept (path ∷ [])) old new
  first_of_one old new path not_has (inl same) = first_of_none (unkept kept (path ∷ [])) old new same
  first_of_one old new path not_has (inr removed) = first_of_all (unkept kept (path ∷ [])) old new (removed_all old new path not_has removed)

  module _ (items : List (String Global)) (i : ℕ) (path : String Global) (below : i < length items) (is : path ≡ get_or items i path) where
    abbrev step : List (List ℕ)
    step = unkept kept (string_bytes path ∷ [])

    front_more : unkept_front items (i + 1) ≡ unkept_front items i ++ step
    front_more = ap (filter is_unkept) (paths_more items i path below is) ∙ filter-append is_unkept (map string_bytes (take i items)) (string_bytes path ∷ [])

    abbrev back : List (List ℕ)
    back = unkept kept (map string_bytes (drop (i + 1) items))

    module _ (old mid new : Files) (so_far : RemovesAll (unkept_front items i) old mid) where
      pub removed-next : RemovesAll step mid new → RemovesAll (unkept_front items (i + 1)) old new
      removed-next more = more ∙ ap (λ (files : Files). without files step) so_far ∙ sym (without-append old (unkept_front items i) step) ∙ ap (without old) (sym front_more)

      whole : unkept_front items (i + 1) ++ back ≡ unkept kept (map string_bytes items)
      whole = sym (filter-append is_unkept (map string_bytes (take (i + 1) items)) (map string_bytes (drop (i + 1) items)))
          ∙ ap (filter is_unkept) (sym (map-append string_bytes (take (i + 1) items) (drop (i + 1) items)) ∙ ap (map string_bytes) (take-append-drop (i + 1) items))

      -- the first ones of the next one, behind those so far
      pub first-next : RemovesFirst step mid new → RemovesFirst (unkept kept (map string_bytes items)) old new
      first-next some =
          let front = unkept_front items i in
          record {
            first = front ++ some.first;
            rest = some.rest ++ back;
            all = sym (append_assoc (front ++ some.first) some.rest back)
                ∙ ap (λ (ps : List (List ℕ)). ps ++ back) (append_assoc front some.first some.rest ∙ ap (λ (ps : List (List ℕ)). front ++ ps) some.all ∙ sym front_more) ∙ whole;
            removed = some.removed ∙ ap (λ (files : Files). without files some.first) so_far ∙ sym (without-append old front some.first);
          }

  -- at the end all are removed
  pub removed-end : (items : List (String Global)) (i : ℕ) (old new : Files) → length items ≤ i → RemovesAll (unkept_front items i) old new → RemovesAll (unkept kept (map string_bytes items)) old new
  removed-end items i old new past removed = removed ∙ ap (λ (ps : List (String Global)). without old (unkept kept (map string_bytes ps))) (take_all i items past)

-- ---- the files that no record names

or_false : (b : Bool) → (b || false) ≡ b
or_false true = refl
or_false false = refl

contains-store_paths : (named : List NamedFile) (q : List ℕ) → fin.contains_key (with_names fin.empty (store_paths named)) q ≡ has_path named q
contains-store_paths named q =
    contains-with_names fin.empty (store_paths named) q ∙ ap (λ b. list_any (eq_by_cmp (slice_cmp nat_cmp) q) (store_paths named) || b) (contains-empty q)
    ∙ or_false (list_any (eq_by_cmp (slice_cmp nat_cmp) q) (store_paths named)) ∙ any_by_bytes q (store_paths named)

-- what the named paths don't keep is what the record doesn't name
pub unkept-unnamed : (files : Files) → unkept (with_names fin.empty (store_paths (files_named files))) (paths_below files store_folder) ≡ unnamed_paths files
unfolding unnamed_paths
unkept-unnamed files = λ i. filter (λ path. not (contains-store_paths (files_named files) path i)) (paths_below files store_folder)

-- what is listed and not kept is what the record doesn't name
pub unnamed_as_listed : (files : Files) (named : List NamedFile) (kept : NameSet) (paths : List (List ℕ)) → named ≡ files_named files → kept ≡ with_names fin.empty (store_paths named) → paths ≡ paths_below files store_folder
    → unkept kept paths ≡ unnamed_paths files
unnamed_as_listed files named kept paths is_named is_kept listed =
    ap (λ (k : NameSet). unkept k paths) (is_kept ∙ ap (λ (ns : List NamedFile). with_names fin.empty (store_paths ns)) is_named)
    ∙ ap (unkept (with_names fin.empty (store_paths (files_named files)))) listed ∙ unkept-unnamed files

-- an empty set keeps nothing
pub unkept-all : (paths : List (List ℕ)) → unkept fin.empty paths ≡ paths
unkept-all [] = refl
unkept-all (path ∷ paths) = ap (λ b. cond (not b) (path ∷ unkept fin.empty paths) (unkept fin.empty paths)) (contains-empty path) ∙ ap (λ (ps : List (List ℕ)). path ∷ ps) (unkept-all paths)

pub all_as_listed : (none : NameSet) (paths listed : List (List ℕ)) → none ≡ fin.empty → paths ≡ listed → unkept none paths ≡ listed
all_as_listed none paths listed empty same = ap (λ (k : NameSet). unkept k paths) empty ∙ unkept-all paths ∙ same

abbrev is_unnamed : Files → List ℕ → Bool
is_unnamed files path = not (has_path (files_named files) path)

-- what the record names is not among the others
named-listed : (files : Files) (q : List ℕ) → has_path (files_named files) q ≡ true → list_any (bytes_eq q) (unnamed_paths files) ≡ false
unfolding unnamed_paths
named-listed files q has = any_unkept (is_unnamed files) q (paths_below files store_folder) (ap not has)

unnamed-listed : (files : Files) (q : List ℕ) → has_path (files_named files) q ≡ false → list_any (bytes_eq q) (unnamed_paths files) ≡ list_any (bytes_eq q) (paths_below files store_folder)
unfolding unnamed_paths
unnamed-listed files q not_has = any_kept (is_unnamed files) q (paths_below files store_folder) (ap not not_has)

-- nor is what is not below the folder of the store
elsewhere-listed : (files : Files) (q : List ℕ) → is_below store_folder q ≡ false → list_any (bytes_eq q) (unnamed_paths files) ≡ false
elsewhere-listed files q elsewhere = elim (has_path (files_named files) q) as (λ b. has_path (files_named files) q ≡ b → list_any (bytes_eq q) (unnamed_paths files) ≡ false) [
  | true ↦ λ has. named-listed files q has
  | false ↦ λ not_has. unnamed-listed files q not_has ∙ any-paths_elsewhere files store_folder q elsewhere
] refl

record-listed : (files : Files) → list_any (bytes_eq record_path) (unnamed_paths files) ≡ false
record-listed files = elsewhere-listed files record_path refl

-- what is outside `out` is not in the store
not_in_store : (q : List ℕ) → is_below (codes "out") q ≡ false → is_below store_folder q ≡ false
not_in_store q outside = false_from_ne_true _ (λ below. true≢false (sym (below_store-below_out q below) ∙ outside))

-- what is not among the paths stays where the first ones are removed
stays : (paths : List (List ℕ)) (old new : Files) (q : List ℕ) → RemovesFirst paths old new → list_any (bytes_eq q) paths ≡ false → file_at new q ≡ file_at old q
stays paths old new q removes none = ap (λ (files : Files). file_at files q) removes.removed ∙ without-others old removes.first q (not_in_first removes.first removes.rest paths q removes.all none)

-- the removal of what no record names leaves the published output
pub output_stays : (old new : Files) → RemovesFirstUnnamed old new → output_of new ≡ output_of old
output_stays old new removes = output_of-same old new (stays (unnamed_paths old) old new record_path removes (record-listed old)) (λ q has. stays (unnamed_paths old) old new q removes (named-listed old q has))

-- and each file outside `out`
pub unnamed_outside : (old new : Files) → RemovesFirstUnnamed old new → SameOutside old new
unnamed_outside old new removes = record { others = λ q outside. stays (unnamed_paths old) old new q removes (elsewhere-listed old q (not_in_store q outside)) }

-- where all of it is removed, each file of the store is named
pub store_is_named : (old new : Files) → RemovesUnnamed old new → StoreIsNamed new
store_is_named old new removed =
    let record_same : file_at new record_path ≡ file_at old record_path = ap (λ (files : Files). file_at files record_path) removed ∙ without-others old (unnamed_paths old) record_path (record-listed old) in
    record {
      named = λ path below not_has.
          let not_named : has_path (files_named old) path ≡ false = ap (λ (named : List NamedFile). has_path named path) (sym (files_named-same old new record_same)) ∙ not_has in
          let listed : list_any (bytes_eq path) (unnamed_paths old) ≡ is_some (file_at old path) = unnamed-listed old path not_named ∙ any-paths_below old store_folder path below in
          ap (λ (files : Files). file_at files path) removed
          ∙ elim (is_some (file_at old path)) as (λ b. is_some (file_at old path) ≡ b → file_at (without old (unnamed_paths old)) path ≡ None) [
            | true ↦ λ stands. without-gone old (unnamed_paths old) path (listed ∙ stands)
            | false ↦ λ none. without-none old (unnamed_paths old) path (none_from (file_at old path) none)
          ] refl;
    }

-- the same after an equal state
pub unnamed_all_as : (mid old new : Files) → mid ≡ old → RemovesUnnamed mid new → RemovesUnnamed old new
unnamed_all_as mid old new same removed = all_as (unnamed_paths mid) (unnamed_paths old) mid old new (ap unnamed_paths same) same removed

pub unnamed_first_as : (mid old new : Files) → mid ≡ old → RemovesFirstUnnamed mid new → RemovesFirstUnnamed old new
unnamed_first_as mid old new same removes = first_as (unnamed_paths mid) (unnamed_paths old) mid old new (ap unnamed_paths same) same removes

-- ---- all of the output

cond-not : (b : Bool) (x y : Option (List ℕ)) → cond b x y ≡ cond (not b) y x
cond-not true x y = refl
cond-not false x y = refl

abbrev differs : List ℕ → List ℕ → Bool
differs path q = not (bytes_eq path q)

-- the entries without a path
entries-remove : (files : Files) (path : List ℕ) → fin.entries (fin.remove files path) ≡ where_key (slice_cmp nat_cmp) (differs path) (fin.entries files)
entries-remove files path =
    let es = fin.entries files in
    same_entries (slice_cmp nat_cmp) nat_list_cmp_total exact_paths (fin.entries (fin.remove files path)) (where_key (slice_cmp nat_cmp) (differs path) es)
    (entries_sorted (fin.remove files path)) (is_sorted-where_key (slice_cmp nat_cmp) (differs path) es (entries_sorted files))
    (λ q. sym (get-entries (fin.remove files path) q) ∙ file_at-remove files path q ∙ cond-not (bytes_eq path q) None (file_at files q) ∙ ap (λ (o : Option (List ℕ)). cond (differs path q) o None) (get-entries files q)
    ∙ sym (find-where_key (slice_cmp nat_cmp) (differs path) q (λ x same. ap (differs path) (sym (exact_paths q x same))) es))

-- paths that pass a test which no removed one passes
filter-where_key : (p keep : List ℕ → Bool) → ((q : List ℕ) → keep q ≡ false → p q ≡ false) → (es : List (List ℕ × List ℕ)) → filter p (map (λ e. e.0) (where_key (slice_cmp nat_cmp) keep es)) ≡ filter p (map (λ e. e.0) es)
filter-where_key p keep never [] = refl
filter-where_key p keep never (e ∷ es) =
    let rest = filter-where_key p keep never es in
    elim (keep e.0) as (λ b. keep e.0 ≡ b → filter p (map (λ e. e.0) (cond b (e ∷ where_key (slice_cmp nat_cmp) keep es) (where_key (slice_cmp nat_cmp) keep es))) ≡ filter p (map (λ e. e.0) (e ∷ es))) [
      | true ↦ λ kept. ap (λ (ps : List (List ℕ)). cond (p e.0) (e.0 ∷ ps) ps) rest
      | false ↦ λ gone. rest ∙ ap (λ b. cond b (e.0 ∷ filter p (map (λ e. e.0) es)) (filter p (map (λ e. e.0) es))) (sym (never e.0 gone))
    ] refl

-- without the record the same files of the store are listed
pub store_files-bare : (files : Files) → store_files (fin.remove files record_path) ≡ store_files files
store_files-bare files =
    ap (λ (es : List (List ℕ × List ℕ)). filter (is_below store_folder) (map (λ e. e.0) es)) (entries-remove files record_path)
    ∙ filter-where_key (is_below store_folder) (differs record_path) (λ q gone. ap (is_below store_folder) (sym (same_path record_path q (not-false (bytes_eq record_path q) gone)))) (fin.entries files)

module _ (old bare new : Files) (removed : bare ≡ fin.remove old record_path) where
  store_same : store_files bare ≡ store_files old
  store_same = ap store_files removed ∙ store_files-bare old

  -- as many as there were
  pub count_same : store_count bare ≡ store_count old
  count_same = ap length store_same

  bare-record : file_at bare record_path ≡ None
  bare-record = ap (λ (files : Files). file_at files record_path) removed ∙ file_at-remove old record_path record_path ∙ ap (λ b. cond b None (file_at old record_path)) (path-itself record_path)

  -- the record and then all files of the store
  pub all_removed : RemovesAll (store_files bare) bare new → RemovesAll (paths_in_out old) old new
  unfolding without
  all_removed all = all ∙ (λ i. without (removed i) (store_same i))

  pub first_removed : RemovesFirst (store_files bare) bare new → RemovesFirst (paths_in_out old) old new
  unfolding without
  first_removed some = record {
    first = record_path ∷ some.first;
    rest = some.rest;
    all = ap (λ (ps : List (List ℕ)). record_path ∷ ps) (some.all ∙ store_same);
    removed = some.removed ∙ ap (λ (files : Files). without files some.first) removed;
  }

  -- then nothing is left
  pub nothing_left : RemovesAll (store_files bare) bare new → HasNoOutput new
  nothing_left all = record {
    record_gone = ap (λ (files : Files). file_at files record_path) all ∙ without-none bare (store_files bare) record_path bare-record;
    store_gone = λ path below. ap (λ (files : Files). file_at files path) all ∙ folder_gone bare store_folder path below;
  }

-- where the removal of the record fails
pub first_of_record : (old new : Files) → (new ≡ old) ⊎ (new ≡ fin.remove old record_path) → RemovesFirst (paths_in_out old) old new
unfolding without
first_of_record old new (inl same) = record { first = []; rest = paths_in_out old; all = refl; removed = same }
first_of_record old new (inr removed) = record { first = record_path ∷ []; rest = store_files old; all = refl; removed = removed }

-- ---- what the removal of the output does

head_same : {x y : List ℕ} {xs ys : List (List ℕ)} → x ∷ xs ≡ y ∷ ys → x ≡ y
head_same {x} h = ap (λ l. elim l [ [] ↦ x | z ∷ zs ↦ z ]) h

keeps_or_empties : (old new : Files) (first rest : List (List ℕ)) → first ++ rest ≡ paths_in_out old → new ≡ without old first → KeepsOrEmpties old new
unfolding without
keeps_or_empties old new [] rest all removed = inl (ap output_of removed)
keeps_or_empties old new (path ∷ first) rest all removed =
    let is_record : path ≡ record_path = head_same all in
    let gone : file_at (fin.remove old path) record_path ≡ None = file_at-remove old path record_path ∙ ap (λ b. cond b None (file_at old record_path)) (ap (λ (p : List ℕ). bytes_eq p record_path) is_record ∙ path-itself record_path) in
    inr (output_of-none new (ap (λ (files : Files). file_at files record_path) removed ∙ without-none (fin.remove old path) first record_path gone))

-- the output is the former one or empty
pub output_kept_or_empty : (old new : Files) → RemovesFirst (paths_in_out old) old new → KeepsOrEmpties old new
output_kept_or_empty old new some = keeps_or_empties old new some.first some.rest some.all some.removed

-- nothing outside `out` changes
pub outside_same : (old new : Files) → RemovesFirst (paths_in_out old) old new → SameOutside old new
outside_same old new some = record {
  others = λ q outside.
      let elsewhere : is_below store_folder q ≡ false = not_in_store q outside in
      let not_record : bytes_eq q record_path ≡ false = other_path q record_path (λ e. true≢false (sym (ap (is_below (codes "out")) e) ∙ outside)) in
      stays (paths_in_out old) old new q some (ap (λ b. b || list_any (bytes_eq q) (store_files old)) not_record ∙ any-paths_elsewhere old store_folder q elsewhere);
}
