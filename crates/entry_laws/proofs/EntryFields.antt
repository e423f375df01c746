-- The entries of a run have the numbers of its rounds and processors, and are a list as the form of a record asks.
use Rattle.std.proofs.Common.{◌≡◌, ℕ, suc, ◌+◌, ◌≤◌, Bool, true, false, cond, not, ◌&&◌, List, [], ◌∷◌, length, map, filter, refl, ap, ◌∙◌, arith}
use Rattle.std.specs.Prelude.{nat_lt}
use Rattle.std.specs.List.{list_all, AllByRecursion}
use Rattle.std.proofs.lemmas.Bool.{and_parts, and_from, lt-ltb, ltb-true}
use Rattle.std.proofs.lemmas.List.{length-map}
use Rattle.std.proofs.lemmas.List.Filters.{length-filter_both}
use Rattle.std.proofs.lemmas.List.Sorted.{length_permutation}
use Rattle.apt_base.specs.Forms.{is_short, is_name, all_fit, fits_if_some}
use Rattle.wire_frames.specs.declared.frame.Message.{Message}
use Rattle.apt_filer.proofs.OrderLemmas.{all_in_order}
use Rattle.record_forms.specs.Forms.{ascends}
use Rattle.record_forms.specs.RecordTable as form
use Rattle.record_forms.specs.RecordTable.{entry, message, entry_less, file_less}
use Rattle.record_forms.specs.declared.record.Entry.{Entry}
use Rattle.origin_record.specs.Conditions.{is_numbered}
use Rattle.run_entries.specs.declared.processed.GeneratedFile.{GeneratedFile}
use Rattle.run_entries.specs.declared.processed.Processed.{Processed}
use Rattle.run_entries.specs.Entries.{stored_file, stored_files, stored_message, numbered, Head, entry_with, head_at, head_left, head_of, entry_at, entries_of}
use Rattle.run_entries.specs.Maps.{Stores}
use Rattle.run_entries.specs.Outputs.{Root, root_name, roots_of, is_file_from, is_message_from, is_file_left, is_message_left, files_from, messages_from, files_left, messages_left}
use Rattle.entry_laws.specs.Asked.{given_paths, is_within, file_fits, message_fits, HasFields}
use Rattle.entry_laws.specs.EntryLaws.{HasOrder, EntriesAreNumbered, EntriesFit}
use Rattle.entry_laws.proofs.Ascending.{all_to, all_both, all_mapped, all_always, all_of_test, test_of_all}
use Rattle.entry_laws.proofs.EachEntry.{HoldsOf, each_entry}
use Rattle.entry_laws.proofs.EntriesInOrder.{entries_ascend}
use Rattle.entry_laws.proofs.InOrder.{in_order-moves}
use Rattle.entry_laws.proofs.KeptFiles.{are_distinct-once}
use Rattle.entry_laws.proofs.OrderWithin.{order_of_done, each_own}

-- ---- counts

pub entries_are_numbered : EntriesAreNumbered
entries_are_numbered stores processed processors rounds within =
    all_of_test (is_numbered processors rounds) (entries_of stores processed)
    (each_entry stores (λ e. is_numbered processors rounds e ≡ true) processed
    (all_to
    (λ (done : Processed) is. record { roots = all_always (λ (root : Root). is) done.annotated; left = is; whole = is })
    processed (test_of_all (is_within processors rounds) processed within)))

-- ---- lists that are short

below_by : (m n bound : ℕ) → m ≤ n → nat_lt n bound ≡ true → nat_lt m bound ≡ true
below_by m n bound le e = let lt = ltb-true n bound e in lt-ltb m bound (omega (arith, le, lt))

pub fewer : {A : Type 0} (test : A → Bool) (xs : List A) → length (filter test xs) ≤ length xs
fewer test xs = let both = length-filter_both test (λ x. not (test x)) (λ x. refl) xs in omega (arith, both)

pub all_those : {A : Type 0} (P : A → Type 0) (test : A → Bool) (xs : List A) → AllByRecursion P xs → AllByRecursion P (filter test xs)
all_those P test [] all = tt
all_those P test (x ∷ xs) all = go (test x) (all_those P test xs all.1)
  where
    go : (b : Bool) → AllByRecursion P (filter test xs) → AllByRecursion P (cond b (x ∷ filter test xs) (filter test xs))
    go true ih = (all.0, ih)
    go false ih = ih

some_fit : {A : Type 0} (fits test : A → Bool) (xs : List A) → all_fit fits xs ≡ true → all_fit fits (filter test xs) ≡ true
some_fit fits test xs e =
    let both = and_parts (is_short xs) (list_all fits xs) e in
    and_from (is_short (filter test xs)) (list_all fits (filter test xs)) (below_by (length (filter test xs)) (length xs) 0x1_0000_0000 (fewer test xs) both.0)
    (all_of_test fits (filter test xs) (all_those (λ x. fits x ≡ true) test xs (test_of_all fits xs both.1)))

-- ---- messages

length-numbered : (n : ℕ) (messages : List Message) → length (numbered n messages) ≡ length messages
length-numbered n [] = refl
length-numbered n (m ∷ messages) = ap suc (length-numbered (suc n) messages)

first_of_four : (a k e t : Bool) → (((true && k) && e) && t) ≡ true → a ≡ true → (((a && k) && e) && t) ≡ true
first_of_four a k e t h s = (λ i. ((s i && k) && e) && t) ∙ h

fits_numbered : (n : ℕ) (m : Message) → nat_lt n 0x1_0000_0000 ≡ true → message_fits m ≡ true → form.message.fits (stored_message n m) ≡ true
unfolding message
fits_numbered n m short fits =
    first_of_four (nat_lt n 0x1_0000_0000) (nat_lt m.kind 5) (fits_if_some form.element.fits m.element) (is_name m.text) fits short

all_numbered : (n total : ℕ) (messages : List Message) → n + length messages ≤ total → nat_lt total 0x1_0000_0000 ≡ true → AllByRecursion (λ m. message_fits m ≡ true) messages
    → AllByRecursion (λ m. form.message.fits m ≡ true) (numbered n messages)
all_numbered n total [] le short all = tt
all_numbered n total (m ∷ messages) le short all =
    (fits_numbered n m (below_by n total 0x1_0000_0000 (omega (arith, le)) short) all.0, all_numbered (suc n) total messages (omega (arith, le)) short all.1)

messages_fit : (messages : List Message) → all_fit message_fits messages ≡ true → all_fit form.message.fits (numbered 0 messages) ≡ true
messages_fit messages e =
    let both = and_parts (is_short messages) (list_all message_fits messages) e in
    and_from (is_short (numbered 0 messages)) (list_all form.message.fits (numbered 0 messages)) (ap (λ (n : ℕ). nat_lt n 0x1_0000_0000) (length-numbered 0 messages) ∙ both.0)
    (all_of_test form.message.fits (numbered 0 messages) (all_numbered 0 (length messages) messages (omega arith) both.0 (test_of_all message_fits messages both.1)))

module _ (stores : Stores) where
  -- ---- files

  length-stored : (files : List GeneratedFile) → length (stored_files stores files) ≡ length files
  length-stored files =
      length_permutation (map (stored_file stores) files) (stored_files stores files) (in_order-moves file_less (map (stored_file stores) files)) ∙ length-map files (stored_file stores)

  files_fit : (files : List GeneratedFile) → all_fit (file_fits stores) files ≡ true → all_fit form.file.fits (stored_files stores files) ≡ true
  files_fit files e =
      let both = and_parts (is_short files) (list_all (file_fits stores) files) e in
      and_from (is_short (stored_files stores files)) (list_all form.file.fits (stored_files stores files)) (ap (λ (n : ℕ). nat_lt n 0x1_0000_0000) (length-stored files) ∙ both.0)
      (all_of_test form.file.fits (stored_files stores files)
      (all_in_order file_less (λ f. form.file.fits f ≡ true) (map (stored_file stores) files)
      (all_mapped (λ f. form.file.fits f ≡ true) (stored_file stores) files (test_of_all (file_fits stores) files both.1))))

  -- ---- entries

  fits_entry : (done : Processed) (head : Head) (files : List GeneratedFile) (messages : List Message) → HasFields stores done → fits_if_some is_name head.origin ≡ true → all_fit is_name head.offered ≡ true
      → all_fit is_name head.annotated ≡ true → all_fit (file_fits stores) files ≡ true → all_fit message_fits messages ≡ true → HasOrder (entry_with stores done head files messages)
      → form.entry.fits (entry_with stores done head files messages) ≡ true
  unfolding entry
  fits_entry done head files messages fields origin offered annotated given sent order =
      λ i. (((((fields.round i && fields.processor i) && origin i) && (offered i && order.offered i)) && (annotated i && order.annotated i)) && (files_fit files given i && order.files i))
      && messages_fit messages sent i

  root_names : (done : Processed) → HasFields stores done → AllByRecursion (λ (root : Root). is_name root.0 ≡ true) done.annotated
  root_names done fields = unmapped done.annotated (test_of_all is_name (roots_of done) (and_parts (is_short (roots_of done)) (list_all is_name (roots_of done)) fields.roots).1)
    where
      unmapped : (roots : List Root) → AllByRecursion (λ name. is_name name ≡ true) (map root_name roots) → AllByRecursion (λ (root : Root). is_name root.0 ≡ true) roots
      unmapped [] all = tt
      unmapped (root ∷ roots) all = (all.0, unmapped roots all.1)

  abbrev Fits : Entry → Type 0
  Fits e = form.entry.fits e ≡ true

  fits_of_done : (done : Processed) → HasFields stores done → HoldsOf stores HasOrder done → HoldsOf stores Fits done
  fits_of_done done fields order = record {
    roots = all_both
        (λ (root : Root) (is : (is_name root.0 ≡ true) × (all_fit is_name root.1 ≡ true)) (ordered : HasOrder (entry_at stores done root)).
        fits_entry done (head_at root) (files_from root.0 done) (messages_from root.0 done) fields is.0 is.1 refl (some_fit (file_fits stores) (is_file_from root.0) done.files fields.files)
        (some_fit message_fits (is_message_from root.0) done.messages fields.messages) ordered)
        done.annotated (all_both (λ (root : Root) name carried. (name, carried)) done.annotated (root_names done fields) fields.carried) order.roots;
    left =
        fits_entry done head_left (files_left done) (messages_left done) fields refl refl refl (some_fit (file_fits stores) (is_file_left (roots_of done)) done.files fields.files)
        (some_fit message_fits (is_message_left (roots_of done)) done.messages fields.messages) order.left;
    whole = fits_entry done (head_of done) done.files done.messages fields refl fields.offered fields.roots fields.files fields.messages order.whole;
  }

pub entries_fit : EntriesFit
entries_fit stores processed order own fields short =
    let orders = all_both (order_of_done stores) processed order.each (each_own processed (are_distinct-once (given_paths processed) ∙ own)) in
    and_from (all_fit form.entry.fits (entries_of stores processed)) (ascends entry_less (entries_of stores processed))
    (and_from (is_short (entries_of stores processed)) (list_all form.entry.fits (entries_of stores processed)) short
    (all_of_test form.entry.fits (entries_of stores processed) (each_entry stores (Fits stores) processed (all_both (fits_of_done stores) processed fields orders))))
    (entries_ascend stores processed order)
