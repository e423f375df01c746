-- The files that a record names ascend by their paths, so that what they publish is the map of the published output.
use Rattle.std.proofs.Common.{◌≡◌, ◌≢◌, ℕ, Bool, true, false, ◌&&◌, T, List, [], ◌∷◌, ◌++◌, map, Option, None, Some, option_map, unwrap_or, IfSome, Ordering, Less, Equal, Greater, refl, sym, ap, ◌∙◌, subst, true≢false, if◌then◌else◌}
use Rattle.std.proofs.lemmas.List.{map-append}
use Rattle.std.specs.Bool.{⊤}
use Rattle.std.specs.List.{AllByRecursion, cons_option, flat_map, list_any}
use Rattle.std.specs.Str.{bytes_eq}
use Rattle.std.specs.Ordering.{nat_cmp, is_lt, ordering_reverse}
use Rattle.std.specs.Cmp.Lexicographic.{slice_cmp, nat_list_cmp_total}
use Rattle.std.specs.FinMap as fin
use Rattle.std.specs.FinMap.{get-entries, get-from_entries, entries_sorted}
use Rattle.std.specs.FinMap.Entries as entry
use Rattle.std.proofs.lemmas.Bool.{and_parts, and_from, or_parts, not-true}
use Rattle.apt_outside.specs.Files.{Files}
use Rattle.apt_outside.proofs.HeldLemmas.{exact_paths}
use Rattle.apt_filer.specs.Orders.{put, in_order}
use Rattle.apt_filer.proofs.OrderLemmas.{all_in_order}
use Rattle.wire_frames.specs.Readings.{are_distinct}
use Rattle.record_forms.specs.declared.record.Record.{Record}
use Rattle.record_forms.specs.declared.record.Entry.{Entry}
use Rattle.record_forms.specs.declared.record.StoredFile.{StoredFile}
use Rattle.origin_record.specs.Conditions.{has_each_hello, has_rounds, entries_are_numbered, notes_are_numbered, stores_are_distinct, paths_are_distinct, units_enter, meets}
use Rattle.output_store.specs.declared.named.NamedFile.{NamedFile}
use Rattle.output_store.specs.Output.{named_file, named_in, named_less, named_files, record_of, files_named, bytes_of, published_by, output_of}
use Rattle.output_store.proofs.FileChanges.{path-itself}
use Rattle.output_store.proofs.RecordReading.{record_of-meets}

is_true : (b : Bool) → T b → b ≡ true
is_true true t = refl
is_true false t = absurd t

abbrev path_of : NamedFile → List ℕ
path_of file = file.path

abbrev keyed : NamedFile → List ℕ × NamedFile
keyed file = (file.path, file)

-- entries whose paths ascend
abbrev ascend : {A : Type 0} → List (List ℕ × A) → Bool
ascend es = entry.is_sorted (slice_cmp nat_cmp) es

-- ---- in order

-- none of the files has the path
abbrev OtherPaths : List ℕ → List NamedFile → Type 0
OtherPaths path files = AllByRecursion (λ file. path ≢ file.path) files

-- no path comes twice
unfoldable Different : List NamedFile → Type 0
Different [] = ⊤
Different (file ∷ files) = OtherPaths file.path files × Different files

-- a file goes to its place among others
keyed_put : (file : NamedFile) (files : List NamedFile) → OtherPaths file.path files → map keyed (put named_less file files) ≡ entry.put (slice_cmp nat_cmp) file.path file (map keyed files)
unfolding put
keyed_put file [] other = refl
keyed_put file (next ∷ files) other = go (slice_cmp nat_cmp file.path next.path) refl (keyed_put file files other.1)
  where
    behind : List (List ℕ × NamedFile)
    behind = entry.put (slice_cmp nat_cmp) file.path file (map keyed files)

    chosen : Bool → List (List ℕ × NamedFile)
    chosen b = map keyed (if b then next ∷ put named_less file files else file ∷ next ∷ files)

    less : (r : Ordering) → slice_cmp nat_cmp file.path next.path ≡ r → named_less next file ≡ is_lt (ordering_reverse r)
    less r e = ap is_lt (nat_list_cmp_total.antisymm next.path file.path ∙ ap ordering_reverse e)

    go : (r : Ordering) → slice_cmp nat_cmp file.path next.path ≡ r → map keyed (put named_less file files) ≡ behind
        → chosen (named_less next file) ≡ entry.by_order r (keyed file ∷ keyed next ∷ map keyed files) ((next.path, file) ∷ map keyed files) (keyed next ∷ behind)
    go Less e ih = ap chosen (less Less e)
    go Equal e ih = absurd (other.0 (exact_paths file.path next.path e))
    go Greater e ih = ap chosen (less Greater e) ∙ ap (λ (es : List (List ℕ × NamedFile)). keyed next ∷ es) ih

in_order_ascends : (files : List NamedFile) → Different files → T (ascend (map keyed (in_order named_less files)))
unfolding in_order Different
in_order_ascends [] different = tt
in_order_ascends (file ∷ files) different =
    let rest = in_order named_less files in
    subst (λ (es : List (List ℕ × NamedFile)). T (ascend es)) (sym (keyed_put file rest (all_in_order named_less (λ other. file.path ≢ other.path) files different.0)))
    (entry.is_sorted-put (slice_cmp nat_cmp) nat_list_cmp_total file.path file (map keyed rest) (in_order_ascends files different.1))

-- ---- the paths of a record

other_paths : (path : List ℕ) (files : List NamedFile) → list_any (bytes_eq path) (map path_of files) ≡ false → OtherPaths path files
other_paths path [] none = tt
other_paths path (file ∷ files) none =
    let parts = or_parts (bytes_eq path file.path) (list_any (bytes_eq path) (map path_of files)) none in
    (λ same. true≢false (sym (path-itself path) ∙ ap (bytes_eq path) same ∙ parts.0), other_paths path files parts.1)

different_paths : (files : List NamedFile) → are_distinct (map path_of files) ≡ true → Different files
unfolding Different
different_paths [] distinct = tt
different_paths (file ∷ files) distinct =
    let parts = and_parts _ (are_distinct (map path_of files)) distinct in
    (other_paths file.path files (not-true (list_any (bytes_eq file.path) (map path_of files)) parts.0), different_paths files parts.1)

-- a part of the files that are named is that of the files as they stand in the entries
module _ {A : Type 0} (part : NamedFile → A) where
  parts_kept : (files : List StoredFile) → map part (map named_file files) ≡ map (λ file. part (named_file file)) files
  parts_kept [] = refl
  parts_kept (file ∷ files) = ap (λ (parts : List A). part (named_file file) ∷ parts) (parts_kept files)

  pub parts_named : (entries : List Entry) → map part (named_in entries) ≡ flat_map (λ entry. map (λ file. part (named_file file)) entry.files) entries
  parts_named [] = refl
  parts_named (entry ∷ entries) = map-append part (map named_file entry.files) (named_in entries) ∙ (λ i. parts_kept entry.files i ++ parts_named entries i)

meets-paths : (value : Record) → meets value ≡ true → paths_are_distinct value ≡ true
unfolding meets
meets-paths value is =
    let front : Bool = has_each_hello value && has_rounds value && entries_are_numbered value && notes_are_numbered value && stores_are_distinct value in
    (and_parts front (paths_are_distinct value) (and_parts (front && paths_are_distinct value) (units_enter value) is).0).1

named_ascend : (value : Option Record) → IfSome value (λ v. meets v ≡ true) → T (ascend (map keyed (unwrap_or (option_map named_files value) [])))
unfolding named_files
named_ascend None meeting = tt
named_ascend (Some value) meeting = in_order_ascends (named_in value.entries) (different_paths (named_in value.entries) (ap are_distinct (parts_named path_of value.entries) ∙ meets-paths value meeting))

-- ---- what is published

abbrev Published : Type 0
Published = List (List ℕ × List ℕ)

module _ (tree : Files) where
  abbrev with_found : List ℕ → Option (List ℕ) → Published → Published
  with_found path found rest = cons_option (option_map (λ bytes. (path, bytes)) found) rest

  below_found : (key path : List ℕ) (found : Option (List ℕ)) (rest : Published) → is_lt (slice_cmp nat_cmp key path) ≡ true → entry.below_all (slice_cmp nat_cmp) key rest ≡ true → entry.below_all (slice_cmp nat_cmp) key (with_found path found rest) ≡ true
  below_found key path None rest here below = below
  below_found key path (Some bytes) rest here below = and_from _ _ here below

  below_published : (key : List ℕ) (named : List NamedFile) → entry.below_all (slice_cmp nat_cmp) key (map keyed named) ≡ true → entry.below_all (slice_cmp nat_cmp) key (published_by tree named) ≡ true
  below_published key [] below = refl
  below_published key (file ∷ named) below =
      let parts = and_parts (is_lt (slice_cmp nat_cmp key file.path)) (entry.below_all (slice_cmp nat_cmp) key (map keyed named)) below in
      below_found key file.path (bytes_of tree file) (published_by tree named) parts.0 (below_published key named parts.1)

  found_ascends : (path : List ℕ) (found : Option (List ℕ)) (rest : Published) → entry.below_all (slice_cmp nat_cmp) path rest ≡ true → ascend rest ≡ true → ascend (with_found path found rest) ≡ true
  found_ascends path None rest below up = up
  found_ascends path (Some bytes) rest below up = and_from _ _ below up

  published_ascend : (named : List NamedFile) → ascend (map keyed named) ≡ true → ascend (published_by tree named) ≡ true
  published_ascend [] up = refl
  published_ascend (file ∷ named) up =
      let parts = and_parts (entry.below_all (slice_cmp nat_cmp) file.path (map keyed named)) (ascend (map keyed named)) up in
      found_ascends file.path (bytes_of tree file) (published_by tree named) (below_published file.path named parts.0) (published_ascend named parts.1)

  -- the files that the record of a tree publishes are those of the published output, in the order of their paths
  pub entries-output_of : fin.entries (output_of tree) ≡ published_by tree (files_named tree)
  unfolding output_of files_named
  entries-output_of =
      let es : Published = published_by tree (files_named tree) in
      let up : ascend es ≡ true = published_ascend (files_named tree) (is_true _ (named_ascend (record_of tree) (record_of-meets tree))) in
      entry.same_entries (slice_cmp nat_cmp) nat_list_cmp_total exact_paths (fin.entries (output_of tree)) es (entries_sorted (output_of tree)) (subst T (sym up) tt)
      (λ q. sym (get-entries (output_of tree) q) ∙ get-from_entries nat_list_cmp_total es q)
