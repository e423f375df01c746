-- What leaves the published output of a tree as it is, and what makes it.
use Rattle.std.proofs.Common.{◌≡◌, ◌≢◌, ℕ, ◌<◌, ◌^◌, Bool, true, false, cond, ◌&&◌, T, eqb, List, [], ◌∷◌, length, map, All, Contains, codes, Option, Some, None, IsSome, unwrap_or, option_and_then, refl, sym, ap, subst, ◌∙◌, arith, filter_map}
use Rattle.std.specs.List.{AllZip, cons_option}
use Rattle.std.specs.Str.{bytes_eq}
use Rattle.std.specs.Ordering.{nat_cmp, is_lt}
use Rattle.std.specs.Cmp.Lexicographic.{slice_cmp, nat_list_cmp_total}
use Rattle.std.specs.FinMap as fin
use Rattle.std.specs.FinMap.{is_sorted, get-from_entries, get-entries, entries_sorted, get-empty}
use Rattle.std.specs.FinMap.Entries.{below_all}
use Rattle.std.proofs.lemmas.Bool.{false_from_ne_true, true≢false, eq-eqb}
use Rattle.std.proofs.lemmas.List.Elements.{All-head, All-tail, All-cons, All-map, All-contains}
use Rattle.std.proofs.lemmas.Slice.Eq.{bytes_eq-Decides}
use Rattle.apt_outside.specs.Files.{Files, file_at, is_below}
use Rattle.apt_outside.proofs.HeldLemmas.{file_at-insert, same_files}
use Rattle.tree_store.specs.declared.record.StoredFile.{StoredFile}
use Rattle.tree_store.specs.RecordFormat.{ascends, record_form, read_record, IsEntry}
use Rattle.tree_store.specs.Output.{store_path, record_path, entries_of, stored, output_of, named_paths, StoresStand, SameOutside}
use Rattle.tree_store.specs.Storing.{Numbered, paths_of, AreAbsent, ChangesAmong, AddsToStore, IsEntryOf, Holds}
use Rattle.tree_store.proofs.RecordFormatLemmas.{read_record-record_form}
use Rattle.tree_store.proofs.StorePaths.{store_path-ne-record_path, store_path-below-store}

-- ---- what does not change

abbrev SameAt : Files → Files → List (List ℕ) → Type 0
SameAt old new paths = All (λ path. file_at new path ≡ file_at old path) paths

entries_of-same : (old new : Files) → file_at new record_path ≡ file_at old record_path → entries_of new ≡ entries_of old
unfolding entries_of
entries_of-same old new same = ap (λ (o : Option (List ℕ)). unwrap_or (option_and_then read_record o) []) same

stored_same : (old new : Files) (entries : List StoredFile) → SameAt old new (map (λ entry. store_path entry.store) entries) → filter_map (stored new) entries ≡ filter_map (stored old) entries
stored_same old new [] same = refl
stored_same old new (entry ∷ entries) same =
    let P : List ℕ → Type 0 = λ path. file_at new path ≡ file_at old path in
    let rest = stored_same old new entries (All-tail P (store_path entry.store) (map (λ e. store_path e.store) entries) same) in
    let here : stored new entry ≡ stored old entry = ap (λ (o : Option (List ℕ)). option_and_then (λ bytes. cond (eqb (length bytes) entry.length) (Some (entry.path, bytes)) None) o) (All-head P (store_path entry.store) (map (λ e. store_path e.store) entries) same) in
    λ i. cons_option (here i) (rest i)

-- a change that leaves the record and each store file that it names leaves the published output
pub output_of-same : (old new : Files) → file_at new record_path ≡ file_at old record_path → All (λ path. file_at new path ≡ file_at old path) (named_paths old) → output_of new ≡ output_of old
unfolding output_of
output_of-same old new same stores = ap (fin.from_entries {R = slice_cmp nat_cmp}) (ap (filter_map (stored new)) (entries_of-same old new same) ∙ stored_same old new (entries_of old) stores)

-- and each store file that it names still stands
pub StoresStand-same : (old new : Files) → file_at new record_path ≡ file_at old record_path → All (λ path. file_at new path ≡ file_at old path) (named_paths old) → StoresStand old → StoresStand new
StoresStand-same old new same stores stand =
    let names : named_paths new ≡ named_paths old = ap (map (λ entry. store_path entry.store)) (entries_of-same old new same) in
    subst (λ (paths : List (List ℕ)). All (λ path. IsSome (file_at new path)) paths) (sym names) (λ k d lt. subst IsSome (sym (stores k d lt)) (stand k d lt))

-- store files that were absent are gained, and nothing else changes
pub adds_to_store : (old new : Files) (files : Numbered) → AreAbsent old files → ChangesAmong (paths_of files) old new → AddsToStore old new
adds_to_store old new files absent only =
    let paths = paths_of files in
    let kept : (q : List ℕ) → IsSome (file_at old q) → file_at new q ≡ file_at old q =
    λ q stands. only.others q (λ has. true≢false (sym (subst IsSome (All-contains (λ path. file_at old path ≡ None) paths q absent has) stands))) in
    let not_record : ¬ Contains paths record_path = λ has. All-contains (λ path. path ≢ record_path) paths record_path (All-map (λ path. path ≢ record_path) (λ (f : ℕ × List ℕ). store_path f.0) files (λ k d lt. store_path-ne-record_path _)) has refl in
    let record_same : file_at new record_path ≡ file_at old record_path = only.others record_path not_record in
    record {
      kept = kept;
      inside = record {
        others = λ q outside. only.others q (λ has. true≢false (sym (All-contains (λ path. is_below (codes "out/store") path ≡ true) paths q (All-map (λ path. is_below (codes "out/store") path ≡ true) (λ (f : ℕ × List ℕ). store_path f.0) files (λ k d lt. store_path-below-store _)) has) ∙ outside));
      };
      output = λ stand. output_of-same old new record_same (λ k d lt. kept _ (stand k d lt));
      stand = λ stand. StoresStand-same old new record_same (λ k d lt. kept _ (stand k d lt)) stand;
    }

-- ---- what the record publishes

-- the record that was put in place
pub file_at-record : (tree : Files) (bytes : List ℕ) → file_at (fin.insert tree record_path bytes) record_path ≡ Some bytes
file_at-record tree bytes = rw (file_at-insert tree record_path bytes record_path) refl

-- another file stays as it is
pub file_at-beside_record : (tree : Files) (bytes q : List ℕ) → q ≢ record_path → file_at (fin.insert tree record_path bytes) q ≡ file_at tree q
file_at-beside_record tree bytes q other =
    let apart : bytes_eq record_path q ≡ false = false_from_ne_true _ (λ same. other (sym ((bytes_eq-Decides record_path q).0 same))) in
    file_at-insert tree record_path bytes q ∙ ap (λ b. cond b (Some bytes) (file_at tree q)) apart

-- putting a record in place changes nothing outside
pub record_inside : (tree : Files) (bytes : List ℕ) → SameOutside tree (fin.insert tree record_path bytes)
record_inside tree bytes = record {
  others = λ q outside. file_at-beside_record tree bytes q (λ e. true≢false (sym (ap (is_below (codes "out")) e) ∙ outside));
}

pub entries_of-committed : (tree : Files) (bytes : List ℕ) (entries : List StoredFile) → read_record bytes ≡ Some entries → entries_of (fin.insert tree record_path bytes) ≡ entries
unfolding entries_of
entries_of-committed tree bytes entries reads = rw (file_at-record tree bytes, reads) refl

-- the files of entries whose store files hold them
stored_held : (tree : Files) (entries : List StoredFile) (files : List (List ℕ × List ℕ)) → AllZip (IsEntryOf tree) entries files → filter_map (stored tree) entries ≡ files
stored_held tree [] [] held = refl
stored_held tree [] (file ∷ files) held = absurd held
stored_held tree (entry ∷ entries) [] held = absurd held
stored_held tree (entry ∷ entries) (file ∷ files) held =
    let same : eqb (length file.1) entry.length ≡ true = eq-eqb _ _ (sym held.0.size) in
    rw (held.0.bytes, same) (λ i. (held.0.path i, file.1) ∷ stored_held tree entries files held.1 i)

held_after : (tree : Files) (bytes : List ℕ) (entries : List StoredFile) (files : List (List ℕ × List ℕ)) → AllZip (IsEntryOf tree) entries files → AllZip (IsEntryOf (fin.insert tree record_path bytes)) entries files
held_after tree bytes [] [] held = tt
held_after tree bytes [] (file ∷ files) held = absurd held
held_after tree bytes (entry ∷ entries) [] held = absurd held
held_after tree bytes (entry ∷ entries) (file ∷ files) held = (
  record {
    path = held.0.path;
    size = held.0.size;
    bytes = file_at-beside_record tree bytes (store_path entry.store) (store_path-ne-record_path entry.store) ∙ held.0.bytes;
  },
  held_after tree bytes entries files held.1,
)

stand_held : (tree : Files) (entries : List StoredFile) (files : List (List ℕ × List ℕ)) → AllZip (IsEntryOf tree) entries files → All (λ path. IsSome (file_at tree path)) (map (λ entry. store_path entry.store) entries)
stand_held tree [] [] held = λ k d lt. absurd (omega arith)
stand_held tree [] (file ∷ files) held = absurd held
stand_held tree (entry ∷ entries) [] held = absurd held
stand_held tree (entry ∷ entries) (file ∷ files) held = All-cons (λ path. IsSome (file_at tree path)) (store_path entry.store) (map (λ e. store_path e.store) entries) (subst IsSome (sym held.0.bytes) refl) (stand_held tree entries files held.1)

-- a map of files is the map of its entries
pub from_entries-entries : (files : Files) → fin.from_entries (fin.entries files) ≡ files
from_entries-entries files = same_files _ files (λ q. get-from_entries nat_list_cmp_total (fin.entries files) q ∙ sym (get-entries files q))

-- a record in place of the former one publishes the files that its entries hold
pub output_of-committed : (tree : Files) (bytes : List ℕ) (entries : List StoredFile) (files : Files) → read_record bytes ≡ Some entries → Holds tree entries files
    → (output_of (fin.insert tree record_path bytes) ≡ files) × StoresStand (fin.insert tree record_path bytes)
unfolding output_of
output_of-committed tree bytes entries files reads held =
    let new = fin.insert tree record_path bytes in
    let named : entries_of new ≡ entries = entries_of-committed tree bytes entries reads in
    let after : Holds new entries files = held_after tree bytes entries (fin.entries files) held in (
      rw (named, stored_held new entries (fin.entries files) after) (from_entries-entries files),
      subst (λ (es : List StoredFile). All (λ path. IsSome (file_at new path)) (map (λ entry. store_path entry.store) es)) (sym named) (stand_held new entries (fin.entries files) after),
    )

below_all_held : (tree : Files) (path : List ℕ) (entries : List StoredFile) (files : List (List ℕ × List ℕ)) → AllZip (IsEntryOf tree) entries files → below_all (slice_cmp nat_cmp) path (map {B = List ℕ × ℕ} (λ e. (e.path, e.store)) entries) ≡ below_all (slice_cmp nat_cmp) path files
below_all_held tree path [] [] held = refl
below_all_held tree path [] (file ∷ files) held = absurd held
below_all_held tree path (entry ∷ entries) [] held = absurd held
below_all_held tree path (entry ∷ entries) (file ∷ files) held = λ i. is_lt (slice_cmp nat_cmp path (held.0.path i)) && below_all_held tree path entries files held.1 i

is_sorted_held : (tree : Files) (entries : List StoredFile) (files : List (List ℕ × List ℕ)) → AllZip (IsEntryOf tree) entries files → ascends entries ≡ is_sorted (slice_cmp nat_cmp) files
is_sorted_held tree [] [] held = refl
is_sorted_held tree [] (file ∷ files) held = absurd held
is_sorted_held tree (entry ∷ entries) [] held = absurd held
is_sorted_held tree (entry ∷ entries) (file ∷ files) held =
    ap (λ b. b && ascends entries) (below_all_held tree entry.path entries files held.1 ∙ ap (λ (p : List ℕ). below_all (slice_cmp nat_cmp) p files) held.0.path)
    ∙ ap (λ b. below_all (slice_cmp nat_cmp) file.0 files && b) (is_sorted_held tree entries files held.1)

-- entries that hold files ascend
pub ascends-held : (tree : Files) (entries : List StoredFile) (files : Files) → Holds tree entries files → ascends entries ≡ true
ascends-held tree entries files held = is_sorted_held tree entries (fin.entries files) held ∙ true_from_T _ (entries_sorted files)
  where
    true_from_T : (b : Bool) → T b → b ≡ true
    true_from_T true t = refl
    true_from_T false t = absurd t

-- the record that spells entries publishes the files that they hold
pub output_of-record_form : (tree : Files) (entries : List StoredFile) (files : Files) → length entries < 2 ^ 32 → All IsEntry entries → Holds tree entries files
    → (output_of (fin.insert tree record_path (record_form entries)) ≡ files) × StoresStand (fin.insert tree record_path (record_form entries))
output_of-record_form tree entries files count are held =
    output_of-committed tree (record_form entries) entries files (read_record-record_form entries (record { count = count; entries = are; ascending = ascends-held tree entries files held })) held

-- an empty tree has no files and names none
pub absent_of_empty : (tree : Files) (files : Numbered) → tree ≡ fin.empty → AreAbsent tree files
absent_of_empty tree files is = λ k d lt. rw is (get-empty (slice_cmp nat_cmp) _)
