-- What leaves the published output of a tree as it is, what empties it and what makes it.
use Rattle.std.proofs.Common.{◌≡◌, ◌≢◌, ℕ, true, false, ◌||◌, List, [], ◌∷◌, codes, Option, None, option_map, option_and_then, unwrap_or, refl, sym, ap, ◌∙◌, true≢false}
use Rattle.std.specs.List.{cons_option}
use Rattle.std.proofs.lemmas.Bool.{or_left, or_right}
use Rattle.std.specs.FinMap as fin
use Rattle.std.specs.Str.{bytes_eq}
use Rattle.std.specs.Ordering.{nat_cmp}
use Rattle.std.specs.Cmp.Lexicographic.{slice_cmp}
use Rattle.apt_outside.specs.Files.{Files, file_at, is_below}
use Rattle.record_forms.specs.declared.record.Record.{Record}
use Rattle.output_store.specs.declared.named.NamedFile.{NamedFile}
use Rattle.output_store.specs.Output.{record_path, store_path, record_in, record_of, named_files, files_named, of_length, published_by, output_of, SameOutside}
use Rattle.output_store.specs.Reading.{has_path}
use Rattle.output_store.specs.Publishing.{output_by}
use Rattle.output_store.proofs.StorePaths.{store_path-ne-record_path, store_path-below-out}
use Rattle.output_store.proofs.FileChanges.{path-itself, same_path, file_at-put, file_at-beside_put}

-- ---- the record

record_of-same : (old new : Files) → file_at new record_path ≡ file_at old record_path → record_of new ≡ record_of old
record_of-same old new same = ap (option_and_then record_in) same

-- the same record names the same files
pub files_named-same : (old new : Files) → file_at new record_path ≡ file_at old record_path → files_named new ≡ files_named old
unfolding files_named
files_named-same old new same = ap (λ (o : Option Record). unwrap_or (option_map named_files o) []) (record_of-same old new same)

-- no record names no file
files_named-none : (files : Files) → file_at files record_path ≡ None → files_named files ≡ []
unfolding files_named
files_named-none files none = ap (λ (o : Option (List ℕ)). unwrap_or (option_map named_files (option_and_then record_in o)) []) none

-- ---- the store files

-- the store files of the same lengths are read at the same paths
pub published-same : (old new : Files) (named : List NamedFile) → ((q : List ℕ) → has_path named q ≡ true → file_at new q ≡ file_at old q) → published_by new named ≡ published_by old named
published-same old new [] same = refl
published-same old new (file ∷ named) same =
    let path = store_path file.store in
    let here : file_at new path ≡ file_at old path = same path (or_left (bytes_eq path path) (has_path named path) (path-itself path)) in
    let rest = published-same old new named (λ q has. same q (or_right (bytes_eq q path) (has_path named q) has)) in
    λ i. cons_option (option_map (λ bytes. (file.path, bytes)) (option_and_then (of_length file.length) (here i))) (rest i)

-- a change that leaves the record and each store file that it names leaves the published output
pub output_of-same : (old new : Files) → file_at new record_path ≡ file_at old record_path → ((q : List ℕ) → has_path (files_named old) q ≡ true → file_at new q ≡ file_at old q) → output_of new ≡ output_of old
unfolding output_of
output_of-same old new same stores =
    ap (fin.from_entries {R = slice_cmp nat_cmp}) (ap (published_by new) (files_named-same old new same) ∙ published-same old new (files_named old) stores)

-- without a record the published output is empty
pub output_of-none : (files : Files) → file_at files record_path ≡ None → output_of files ≡ fin.empty
unfolding output_of
output_of-none files none = ap (λ (named : List NamedFile). fin.from_entries {R = slice_cmp nat_cmp} (published_by files named)) (files_named-none files none)

-- a store path of a named file is below `out`
pub named-below : (named : List NamedFile) (q : List ℕ) → has_path named q ≡ true → is_below (codes "out") q ≡ true
named-below [] q has = absurd (true≢false (sym has))
named-below (file ∷ named) q has = elim (bytes_eq q (store_path file.store)) as (λ b. bytes_eq q (store_path file.store) ≡ b → (b || has_path named q) ≡ true → is_below (codes "out") q ≡ true) [
  | true ↦ λ same h. ap (is_below (codes "out")) (same_path q (store_path file.store) same) ∙ store_path-below-out file.store
  | false ↦ λ other h. named-below named q h
] refl has

-- ---- a record in the place of the former one

-- putting a record in place changes nothing outside
pub record_inside : (tree : Files) (bytes : List ℕ) → SameOutside tree (fin.insert tree record_path bytes)
record_inside tree bytes = record {
  others = λ q outside. file_at-beside_put tree record_path bytes q (λ e. true≢false (ap (is_below (codes "out")) e ∙ outside));
}

not_record : (named : List NamedFile) (q : List ℕ) → has_path named q ≡ true → record_path ≢ q
not_record [] q has = λ e. true≢false (sym has)
not_record (file ∷ named) q has = elim (bytes_eq q (store_path file.store)) as (λ b. bytes_eq q (store_path file.store) ≡ b → (b || has_path named q) ≡ true → record_path ≢ q) [
  | true ↦ λ same h e. store_path-ne-record_path file.store (sym (same_path q (store_path file.store) same) ∙ sym e)
  | false ↦ λ other h. not_record named q h
] refl has

files_named-put : (tree : Files) (bytes : List ℕ) → files_named (fin.insert tree record_path bytes) ≡ unwrap_or (option_map named_files (record_in bytes)) []
unfolding files_named
files_named-put tree bytes = ap (λ (o : Option (List ℕ)). unwrap_or (option_map named_files (option_and_then record_in o)) []) (file_at-put tree record_path bytes)

-- bytes in the place of the record publish what they name
pub output_of-put : (tree : Files) (bytes : List ℕ) → output_of (fin.insert tree record_path bytes) ≡ output_by bytes tree
unfolding output_of
output_of-put tree bytes =
    let new = fin.insert tree record_path bytes in
    let named = unwrap_or (option_map named_files (record_in bytes)) [] in
    ap (fin.from_entries {R = slice_cmp nat_cmp})
    (ap (published_by new) (files_named-put tree bytes) ∙ published-same tree new named (λ q has. file_at-beside_put tree record_path bytes q (not_record named q has)))
