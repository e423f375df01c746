-- The files of entries, which the store has.
use Rattle.std.proofs.Common.{◌≡◌, ℕ, Bool, true, false, List, [], ◌∷◌, ◌++◌, map, filter, Option, Some, IsSomeAnd, if◌then◌else◌}
use Rattle.std.specs.List.{AllByRecursion}
use Rattle.std.specs.Ordering.{nat_cmp}
use Rattle.std.specs.Cmp.Lexicographic.{slice_cmp}
use Rattle.std.specs.FinMap as fin
use Rattle.std.specs.FinMap.{FinMap}
use Rattle.wire_frames.specs.declared.frame.Message.{Message}
use Rattle.apt_filer.proofs.OrderLemmas.{all_in_order}
use Rattle.record_forms.specs.RecordTable.{file_less}
use Rattle.run_entries.specs.declared.processed.GeneratedFile.{GeneratedFile}
use Rattle.run_entries.specs.declared.processed.Processed.{Processed}
use Rattle.run_entries.specs.Entries.{stored_file, Head, entry_with, head_at, head_left, head_of, entry_at, entry_left, whole_entry, if_some_left, isolating_entries, entries_by, entries_of}
use Rattle.run_entries.specs.Kinds.{is_isolating}
use Rattle.run_entries.specs.Maps.{Stores, number_at}
use Rattle.run_entries.specs.Outputs.{Root, roots_of, is_file_from, is_file_left, files_from, files_left, messages_from, messages_left, leaves_some}
use Rattle.run_entries.specs.Stands.{IsStored, AreStored}

pub all_append : {A : Type 0} (P : A → Type 0) (xs ys : List A) → AllByRecursion P xs → AllByRecursion P ys → AllByRecursion P (xs ++ ys)
all_append P [] ys a b = b
all_append P (x ∷ xs) ys a b = (a.0, all_append P xs ys a.1 b)

all_filter : {A : Type 0} (P : A → Type 0) (test : A → Bool) (xs : List A) → AllByRecursion P xs → AllByRecursion P (filter test xs)
all_filter P test [] all = tt
all_filter P test (x ∷ xs) all = go (test x) (all_filter P test xs all.1)
  where
    go : (b : Bool) → AllByRecursion P (filter test xs) → AllByRecursion P (if b then x ∷ filter test xs else filter test xs)
    go true later = (all.0, later)
    go false later = later

module _ (store : ℕ → Option (List ℕ)) (files : FinMap (slice_cmp nat_cmp) (List ℕ)) (stores : Stores) where
  -- the store has the file of this path under its number
  abbrev pub HasPath : List ℕ → Type 0
  HasPath path = IsSomeAnd (fin.get files path) (λ bytes. store (number_at stores path) ≡ Some bytes)

  abbrev pub HasFile : GeneratedFile → Type 0
  HasFile file = HasPath file.path

  under_numbers : (list : List GeneratedFile) → AllByRecursion HasFile list → AllByRecursion (IsStored store files) (map (stored_file stores) list)
  under_numbers [] all = tt
  under_numbers (file ∷ list) all = (all.0, under_numbers list all.1)

  entry_stored : (done : Processed) (head : Head) (list : List GeneratedFile) (messages : List Message) → AllByRecursion HasFile list → AreStored store files (entry_with stores done head list messages)
  entry_stored done head list messages all = all_in_order file_less (IsStored store files) (map (stored_file stores) list) (under_numbers list all)

  roots_stored : (done : Processed) → AllByRecursion HasFile done.files → (roots : List Root) → AllByRecursion (AreStored store files) (map (entry_at stores done) roots)
  roots_stored done all [] = tt
  roots_stored done all (root ∷ roots) = (
    entry_stored done (head_at root) (files_from root.0 done) (messages_from root.0 done) (all_filter HasFile (is_file_from root.0) done.files all),
    roots_stored done all roots,
  )

  left_stored : (done : Processed) → AllByRecursion HasFile done.files → AllByRecursion (AreStored store files) (if_some_left stores done)
  left_stored done all = go (leaves_some done)
    where
      go : (b : Bool) → AllByRecursion (AreStored store files) (if b then entry_left stores done ∷ [] else [])
      go true = (entry_stored done head_left (files_left done) (messages_left done) (all_filter HasFile (is_file_left (roots_of done)) done.files all), tt)
      go false = tt

  by_stored : (done : Processed) → AllByRecursion HasFile done.files → AllByRecursion (AreStored store files) (entries_by stores done)
  unfolding entries_by isolating_entries
  by_stored done all = go (is_isolating done.kind)
    where
      go : (b : Bool) → AllByRecursion (AreStored store files) (if b then isolating_entries stores done else whole_entry stores done ∷ [])
      go true = all_append (AreStored store files) (if_some_left stores done) (map (entry_at stores done) done.annotated) (left_stored done all) (roots_stored done all done.annotated)
      go false = (entry_stored done (head_of done) done.files done.messages all, tt)

  pub entries_stored : (processed : List Processed) → AllByRecursion (λ (done : Processed). AllByRecursion HasFile done.files) processed → AllByRecursion (AreStored store files) (entries_of stores processed)
  entries_stored [] all = tt
  entries_stored (done ∷ processed) all = all_append (AreStored store files) (entries_by stores done) (entries_of stores processed) (by_stored done all.0) (entries_stored processed all.1)
