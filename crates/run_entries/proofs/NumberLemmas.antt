-- Entries but for their numbers, and the numbers of their messages.
use Rattle.std.proofs.Common.{◌≡◌, ℕ, suc, ◌+◌, ◌<◌, ◌≤◌, Bool, true, false, ◌&&◌, List, [], ◌∷◌, ◌++◌, map, Option, None, Some, if◌then◌else◌, refl, sym, ap, ◌∙◌, true≢false, arith}
use Rattle.std.specs.Prelude.{nat_lt}
use Rattle.std.specs.List.{flat_map, AllByRecursion}
use Rattle.std.proofs.lemmas.Bool.{lt-ltb}
use Rattle.std.proofs.lemmas.List.{map-append}
use Rattle.wire_frames.specs.declared.frame.Message.{Message}
use Rattle.apt_filer.specs.Orders.{put, in_order}
use Rattle.record_forms.specs.Forms.{is_above, ascends_after}
use Rattle.record_forms.specs.RecordTable.{file_less}
use Rattle.record_forms.specs.declared.record.Entry.{Entry}
use Rattle.record_forms.specs.declared.record.StoredFile.{StoredFile}
use Rattle.run_entries.specs.declared.processed.GeneratedFile.{GeneratedFile}
use Rattle.run_entries.specs.declared.processed.Processed.{Processed}
use Rattle.run_entries.specs.Entries.{stored_file, stored_files, numbered, Head, entry_with, head_at, head_of, head_left, entry_at, entry_left, whole_entry, if_some_left, isolating_entries, entries_by, entries_of}
use Rattle.run_entries.specs.Kinds.{is_isolating}
use Rattle.run_entries.specs.Maps.{Stores}
use Rattle.run_entries.specs.Outputs.{Root, files_from, messages_from, files_left, messages_left, leaves_some}
use Rattle.run_entries.specs.Stands.{unnumbered_file, unnumbered_message, unnumbered, number_of, HasAscendingNumbers}

-- ---- a list in order, by what an order reads

module _ {A B : Type 0} (f : A → B) (less : A → A → Bool) (other : B → B → Bool) (same : (x y : A) → other (f x) (f y) ≡ less x y) where
  map-put : (x : A) (ys : List A) → map f (put less x ys) ≡ put other (f x) (map f ys)
  unfolding put
  map-put x [] = refl
  map-put x (y ∷ ys) = go (less y x) (other (f y) (f x)) (same y x) (map-put x ys)
    where
      go : (a b : Bool) → b ≡ a → map f (put less x ys) ≡ put other (f x) (map f ys) → map f (if a then y ∷ put less x ys else x ∷ y ∷ ys) ≡ (if b then f y ∷ put other (f x) (map f ys) else f x ∷ f y ∷ map f ys)
      go true true e ih = ap (λ l. f y ∷ l) ih
      go false false e ih = refl
      go true false e ih = absurd (true≢false (sym e))
      go false true e ih = absurd (true≢false e)

  map-in_order : (xs : List A) → map f (in_order less xs) ≡ in_order other (map f xs)
  unfolding in_order
  map-in_order [] = refl
  map-in_order (x ∷ xs) = map-put x (in_order less xs) ∙ ap (put other (f x)) (map-in_order xs)

-- ---- the numbers of store files play no part

module _ (one other : Stores) where
  same_files : (files : List GeneratedFile) → map unnumbered_file (map (stored_file one) files) ≡ map unnumbered_file (map (stored_file other) files)
  same_files [] = refl
  same_files (file ∷ files) = ap (λ (l : List StoredFile). unnumbered_file (stored_file one file) ∷ l) (same_files files)

  in_path_order : (files : List GeneratedFile) → map unnumbered_file (stored_files one files) ≡ map unnumbered_file (stored_files other files)
  in_path_order files =
      map-in_order unnumbered_file file_less file_less (λ x y. refl) (map (stored_file one) files)
      ∙ ap (in_order file_less) (same_files files)
      ∙ sym (map-in_order unnumbered_file file_less file_less (λ x y. refl) (map (stored_file other) files))

  same_entry : (done : Processed) (head : Head) (files : List GeneratedFile) (messages : List Message) → unnumbered (entry_with one done head files messages) ≡ unnumbered (entry_with other done head files messages)
  same_entry done head files messages =
      ap
      (λ (l : List StoredFile). record { round = done.round; processor = done.processor; origin = head.origin; offered = head.offered; annotated = head.annotated; files = l; messages = map unnumbered_message (numbered 0 messages) })
      (in_path_order files)

  same_roots : (done : Processed) (roots : List Root) → map unnumbered (map (entry_at one done) roots) ≡ map unnumbered (map (entry_at other done) roots)
  same_roots done [] = refl
  same_roots done (root ∷ roots) = λ i. same_entry done (head_at root) (files_from root.0 done) (messages_from root.0 done) i ∷ same_roots done roots i

  same_left : (done : Processed) → map unnumbered (if_some_left one done) ≡ map unnumbered (if_some_left other done)
  same_left done = go (leaves_some done)
    where
      go : (b : Bool) → map unnumbered (if b then entry_left one done ∷ [] else []) ≡ map unnumbered (if b then entry_left other done ∷ [] else [])
      go true = ap (λ (e : Entry). e ∷ []) (same_entry done head_left (files_left done) (messages_left done))
      go false = refl

  same_isolating : (done : Processed) → map unnumbered (isolating_entries one done) ≡ map unnumbered (isolating_entries other done)
  unfolding isolating_entries
  same_isolating done =
      map-append unnumbered (if_some_left one done) (map (entry_at one done) done.annotated)
      ∙ (λ i. same_left done i ++ same_roots done done.annotated i)
      ∙ sym (map-append unnumbered (if_some_left other done) (map (entry_at other done) done.annotated))

  same_by : (done : Processed) → map unnumbered (entries_by one done) ≡ map unnumbered (entries_by other done)
  unfolding entries_by
  same_by done = go (is_isolating done.kind)
    where
      go : (b : Bool) → map unnumbered (if b then isolating_entries one done else whole_entry one done ∷ []) ≡ map unnumbered (if b then isolating_entries other done else whole_entry other done ∷ [])
      go true = same_isolating done
      go false = ap (λ (e : Entry). e ∷ []) (same_entry done (head_of done) done.files done.messages)

  pub same_entries : (processed : List Processed) → map unnumbered (entries_of one processed) ≡ map unnumbered (entries_of other processed)
  same_entries [] = refl
  same_entries (done ∷ processed) =
      map-append unnumbered (entries_by one done) (entries_of one processed)
      ∙ (λ i. same_by done i ++ same_entries processed i)
      ∙ sym (map-append unnumbered (entries_by other done) (entries_of other processed))

-- ---- the numbers of messages ascend

both_true : (a b : Bool) → a ≡ true → b ≡ true → (a && b) ≡ true
both_true a b e f = λ i. e i && f i

up_from : (number : ℕ) (last : Option ℕ) (messages : List Message) → is_above nat_lt last number ≡ true → ascends_after nat_lt last (map number_of (numbered number messages)) ≡ true
up_from number last [] above = refl
up_from number last (message ∷ messages) above =
    both_true (is_above nat_lt last number) (ascends_after nat_lt (Some number) (map number_of (numbered (suc number) messages))) above
    (up_from (suc number) (Some number) messages (lt-ltb number (suc number) (omega arith)))

all_append : {A : Type 0} (P : A → Type 0) (xs ys : List A) → AllByRecursion P xs → AllByRecursion P ys → AllByRecursion P (xs ++ ys)
all_append P [] ys a b = b
all_append P (x ∷ xs) ys a b = (a.0, all_append P xs ys a.1 b)

module _ (stores : Stores) where
  has_numbers : (done : Processed) (head : Head) (files : List GeneratedFile) (messages : List Message) → HasAscendingNumbers (entry_with stores done head files messages)
  has_numbers done head files messages = up_from 0 None messages refl

  roots_numbered : (done : Processed) (roots : List Root) → AllByRecursion HasAscendingNumbers (map (entry_at stores done) roots)
  roots_numbered done [] = tt
  roots_numbered done (root ∷ roots) = (up_from 0 None (messages_from root.0 done) refl, roots_numbered done roots)

  left_numbered : (done : Processed) → AllByRecursion HasAscendingNumbers (if_some_left stores done)
  left_numbered done = go (leaves_some done)
    where
      go : (b : Bool) → AllByRecursion HasAscendingNumbers (if b then entry_left stores done ∷ [] else [])
      go true = (up_from 0 None (messages_left done) refl, tt)
      go false = tt

  by_numbered : (done : Processed) → AllByRecursion HasAscendingNumbers (entries_by stores done)
  unfolding entries_by isolating_entries
  by_numbered done = go (is_isolating done.kind)
    where
      go : (b : Bool) → AllByRecursion HasAscendingNumbers (if b then isolating_entries stores done else whole_entry stores done ∷ [])
      go true = all_append HasAscendingNumbers (if_some_left stores done) (map (entry_at stores done) done.annotated) (left_numbered done) (roots_numbered done done.annotated)
      go false = (up_from 0 None done.messages refl, tt)

  pub entries_numbered : (processed : List Processed) → AllByRecursion HasAscendingNumbers (entries_of stores processed)
  entries_numbered [] = tt
  entries_numbered (done ∷ processed) = all_append HasAscendingNumbers (entries_by stores done) (entries_of stores processed) (by_numbered done) (entries_numbered processed)
