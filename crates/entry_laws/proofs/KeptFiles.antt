-- The files of the entries are those that were given, in another order: so no path comes twice, and no number.
use Rattle.std.proofs.Common.{◌≡◌, ℕ, Bool, true, false, not, ◌&&◌, ◌==◌, List, [], ◌∷◌, ◌++◌, length, map, filter, None, Ordering, Less, Equal, Greater, if◌then◌else◌, refl, sym, ap, subst, ◌∙◌, append-nil}
use Rattle.std.specs.List.{flat_map, list_any, AllByRecursion}
use Rattle.std.specs.List.Sorted.{IsPermutation}
use Rattle.std.specs.Ordering.{nat_cmp, is_lt}
use Rattle.std.specs.Str.{bytes_eq}
use Rattle.std.specs.Cmp.Lexicographic.{slice_cmp}
use Rattle.std.proofs.lemmas.Bool.{and_parts, true≢false, false_from_ne_true, or_from, eqb-true, eq-eqb}
use Rattle.std.proofs.lemmas.Cmp.{nat_list_cmp_total, tied_itself}
use Rattle.std.proofs.lemmas.List.{map-append, nil_from_length}
use Rattle.std.proofs.lemmas.List.Concat.{flat_map-append}
use Rattle.std.proofs.lemmas.List.Folds.{flat_map-map}
use Rattle.std.proofs.lemmas.List.Sorted.{IsPermutation-refl, IsPermutation-trans, IsPermutation-append, IsPermutation-map}
use Rattle.std.proofs.lemmas.Simd.{map-map}
use Rattle.std.proofs.lemmas.Slice.Eq.{bytes_eq-Decides}
use Rattle.wire_frames.specs.Readings.{are_distinct}
use Rattle.apt_filer.specs.Origins.{Origin, One, Several, Missing, is_unit}
use Rattle.record_forms.specs.Forms.{text_less}
use Rattle.record_forms.specs.RecordTable.{file_less}
use Rattle.record_forms.specs.declared.record.Entry.{Entry}
use Rattle.record_forms.specs.declared.record.StoredFile.{StoredFile}
use Rattle.origin_record.specs.Conditions.{stores_in, paths_in, are_different}
use Rattle.run_entries.specs.declared.processed.GeneratedFile.{GeneratedFile}
use Rattle.run_entries.specs.declared.processed.Processed.{Processed}
use Rattle.run_entries.specs.Entries.{stored_file, stored_files, entry_at, entry_left, whole_entry, if_some_left, root_entries, isolating_entries, entries_by, entries_of}
use Rattle.run_entries.specs.Kinds.{is_isolating}
use Rattle.run_entries.specs.Maps.{Stores, number_at}
use Rattle.run_entries.specs.Outputs.{Root, root_name, roots_of, file_origin, is_file_from, files_from, files_left, messages_left, leaves_some}
use Rattle.entry_laws.specs.Asked.{IsInOrder, AreInOrder, files_of, path_of, given_paths}
use Rattle.entry_laws.specs.EntryLaws.{stored_in, FilesAreKept, PathsAreDistinct, StoresAreDistinct}
use Rattle.entry_laws.proofs.Ascending.{AreBelow, are_below}
use Rattle.entry_laws.proofs.InOrder.{in_order-moves}
use Rattle.entry_laws.proofs.OnceEach.{once_each, in_another_order}
use Rattle.entry_laws.proofs.Parted.{AreApart, parted}

-- ---- texts

pub text_is : (a b : List ℕ) → bytes_eq a b ≡ true → a ≡ b
text_is a b e = (bytes_eq-Decides a b).0 e

pub text_itself : (a : List ℕ) → bytes_eq a a ≡ true
text_itself a = (bytes_eq-Decides a a).1 refl

is_less : (o : Ordering) → is_lt o ≡ true → o ≡ Less
is_less Less e = refl
is_less Equal e = absurd (true≢false (sym e))
is_less Greater e = absurd (true≢false (sym e))

pub text_through : (a b c : List ℕ) → text_less a b ≡ true → text_less b c ≡ true → text_less a c ≡ true
text_through a b c e f = ap is_lt (nat_list_cmp_total.trans a b c (is_less (slice_cmp nat_cmp a b) e) (is_less (slice_cmp nat_cmp b c) f))

never_less : (a : List ℕ) → text_less a a ≡ true → ⊥
never_less a e = true≢false (sym e ∙ ap is_lt (tied_itself nat_list_cmp_total a))

less-differs : (a b : List ℕ) → text_less a b ≡ true → bytes_eq b a ≡ false
less-differs a b e = false_from_ne_true (bytes_eq b a) (λ same. never_less a (subst (λ t. text_less a t ≡ true) (text_is b a same) e))

-- ---- a file comes of one root at most

none_same : (a : List ℕ) (names : List (List ℕ)) → AllByRecursion (λ b. text_less a b ≡ true) names → list_any (λ b. bytes_eq b a) names ≡ false
none_same a [] below = refl
none_same a (b ∷ names) below = or_from (bytes_eq b a) (list_any (λ c. bytes_eq c a) names) (less-differs a b below.0) (none_same a names below.1)

one_unit : (a : List ℕ) (names : List (List ℕ)) → AllByRecursion (λ b. text_less a b ≡ true) names → (origin : Origin) → is_unit a origin ≡ true → list_any (λ b. is_unit b origin) names ≡ false
one_unit a names below (One unit) e = subst (λ u. list_any (λ b. bytes_eq b u) names ≡ false) (text_is a unit e) (none_same a names below)
one_unit a names below Several e = absurd (true≢false (sym e))
one_unit a names below Missing e = absurd (true≢false (sym e))

units_apart : (names : List (List ℕ)) → AreBelow text_less names → AreApart is_file_from names
units_apart [] below = tt
units_apart (a ∷ names) below = ((λ file e. one_unit a names below.0 (file_origin file) e), units_apart names below.1)

-- what is left and what comes of each root
roots_part : (done : Processed) → IsInOrder done → IsPermutation done.files (files_left done ++ flat_map (λ (root : Root). files_from root.0 done) done.annotated)
roots_part done order =
    subst (λ (l : List GeneratedFile). IsPermutation done.files (files_left done ++ l)) (flat_map-map (λ unit. filter (is_file_from unit) done.files) root_name done.annotated)
    (parted is_file_from (roots_of done) done.files (units_apart (roots_of done) (are_below text_less text_through (roots_of done) None order.roots)))

none_counted : (m n : ℕ) → not ((m == 0) && (n == 0)) ≡ false → m ≡ 0
none_counted m n e = eqb-true m 0 (and_parts (m == 0) (n == 0) (by ((m == 0) && (n == 0)) e)).0
  where
    by : (b : Bool) → not b ≡ false → b ≡ true
    by true e = refl
    by false e = absurd (true≢false e)

module _ (stores : Stores) where
  -- ---- of one entry

  stored_moves : (files : List GeneratedFile) → IsPermutation (map (stored_file stores) files) (stored_files stores files)
  stored_moves files = in_order-moves file_less (map (stored_file stores) files)

  only_entry : (files : List GeneratedFile) → IsPermutation (map (stored_file stores) files) (stored_files stores files ++ [])
  only_entry files = subst (IsPermutation (map (stored_file stores) files)) (sym (append-nil (stored_files stores files))) (stored_moves files)

  -- ---- of one processor in one round

  module _ (done : Processed) where
    of_roots : (roots : List Root) → IsPermutation (map (stored_file stores) (flat_map (λ (root : Root). files_from root.0 done) roots)) (stored_in (map (entry_at stores done) roots))
    of_roots [] = IsPermutation-refl []
    of_roots (root ∷ roots) =
        subst (λ (l : List StoredFile). IsPermutation l (stored_files stores (files_from root.0 done) ++ stored_in (map (entry_at stores done) roots)))
        (sym (map-append (stored_file stores) (files_from root.0 done) (flat_map (λ (r : Root). files_from r.0 done) roots)))
        (IsPermutation-append (map (stored_file stores) (files_from root.0 done)) (stored_files stores (files_from root.0 done)) (map (stored_file stores) (flat_map (λ (r : Root). files_from r.0 done) roots)) (stored_in (map (entry_at stores done) roots))
        (stored_moves (files_from root.0 done)) (of_roots roots))

    of_left : IsPermutation (map (stored_file stores) (files_left done)) (stored_in (if_some_left stores done))
    of_left = go (leaves_some done) refl
      where
        go : (b : Bool) → leaves_some done ≡ b → IsPermutation (map (stored_file stores) (files_left done)) (stored_in (if b then entry_left stores done ∷ [] else []))
        go true e = only_entry (files_left done)
        go false e =
            subst (λ (l : List GeneratedFile). IsPermutation (map (stored_file stores) l) []) (sym (nil_from_length (files_left done) (none_counted (length (files_left done)) (length (messages_left done)) e)))
            (IsPermutation-refl [])

    of_isolating : IsInOrder done → IsPermutation (map (stored_file stores) done.files) (stored_in (isolating_entries stores done))
    unfolding isolating_entries
    of_isolating order =
        IsPermutation-trans (map (stored_file stores) done.files) (map (stored_file stores) (files_left done ++ parts)) (stored_in (if_some_left stores done ++ root_entries stores done))
        (IsPermutation-map (stored_file stores) done.files (files_left done ++ parts) (roots_part done order))
        (subst (λ (l : List StoredFile). IsPermutation l (stored_in (if_some_left stores done ++ root_entries stores done))) (sym (map-append (stored_file stores) (files_left done) parts))
        (subst (IsPermutation (map (stored_file stores) (files_left done) ++ map (stored_file stores) parts)) (sym (flat_map-append (λ (entry : Entry). entry.files) (if_some_left stores done) (root_entries stores done)))
        (IsPermutation-append (map (stored_file stores) (files_left done)) (stored_in (if_some_left stores done)) (map (stored_file stores) parts) (stored_in (root_entries stores done)) of_left (of_roots done.annotated))))
      where
        parts : List GeneratedFile
        parts = flat_map (λ (root : Root). files_from root.0 done) done.annotated

    of_one : IsInOrder done → IsPermutation (map (stored_file stores) done.files) (stored_in (entries_by stores done))
    unfolding entries_by
    of_one order = go (is_isolating done.kind)
      where
        go : (b : Bool) → IsPermutation (map (stored_file stores) done.files) (stored_in (if b then isolating_entries stores done else whole_entry stores done ∷ []))
        go true = of_isolating order
        go false = only_entry done.files

  -- ---- of all

  of_all : (processed : List Processed) → AllByRecursion IsInOrder processed → IsPermutation (map (stored_file stores) (files_of processed)) (stored_in (entries_of stores processed))
  of_all [] each = IsPermutation-refl []
  of_all (done ∷ processed) each =
      subst (λ (l : List StoredFile). IsPermutation l (stored_in (entries_by stores done ++ entries_of stores processed))) (sym (map-append (stored_file stores) done.files (files_of processed)))
      (subst (IsPermutation (map (stored_file stores) done.files ++ map (stored_file stores) (files_of processed))) (sym (flat_map-append (λ (entry : Entry). entry.files) (entries_by stores done) (entries_of stores processed)))
      (IsPermutation-append (map (stored_file stores) done.files) (stored_in (entries_by stores done)) (map (stored_file stores) (files_of processed)) (stored_in (entries_of stores processed)) (of_one done each.0) (of_all processed each.1)))

pub files_are_kept : FilesAreKept
files_are_kept stores processed order = of_all stores processed order.each

-- ---- paths and numbers

map-flat_map : {A B C : Type 0} (g : B → C) (f : A → List B) (xs : List A) → map g (flat_map f xs) ≡ flat_map (λ x. map g (f x)) xs
map-flat_map g f [] = refl
map-flat_map g f (x ∷ xs) = map-append g (f x) (flat_map f xs) ∙ ap (λ l. map g (f x) ++ l) (map-flat_map g f xs)

pub are_distinct-once : (texts : List (List ℕ)) → once_each bytes_eq texts ≡ are_distinct texts
are_distinct-once [] = refl
are_distinct-once (text ∷ texts) = ap (λ (b : Bool). not (list_any (bytes_eq text) texts) && b) (are_distinct-once texts)

abbrev same_number : ℕ → ℕ → Bool
same_number m n = m == n

are_different-once : (numbers : List ℕ) → once_each same_number numbers ≡ are_different numbers
unfolding are_different
are_different-once [] = refl
are_different-once (n ∷ numbers) = ap (λ (b : Bool). not (list_any (λ other. n == other) numbers) && b) (are_different-once numbers)

module _ (stores : Stores) (processed : List Processed) (order : AreInOrder processed) where
  paths_move : IsPermutation (given_paths processed) (paths_in (entries_of stores processed))
  paths_move =
      subst (λ (l : List (List ℕ)). IsPermutation l (paths_in (entries_of stores processed))) (map-map (λ (file : StoredFile). file.path) (stored_file stores) (files_of processed))
      (subst (IsPermutation (map (λ (file : StoredFile). file.path) (map (stored_file stores) (files_of processed)))) (map-flat_map (λ (file : StoredFile). file.path) (λ (entry : Entry). entry.files) (entries_of stores processed))
      (IsPermutation-map (λ (file : StoredFile). file.path) (map (stored_file stores) (files_of processed)) (stored_in (entries_of stores processed)) (files_are_kept stores processed order)))

  numbers_move : IsPermutation (map (number_at stores) (given_paths processed)) (stores_in (entries_of stores processed))
  numbers_move =
      subst (λ (l : List ℕ). IsPermutation l (stores_in (entries_of stores processed)))
      (map-map (λ (file : StoredFile). file.store) (stored_file stores) (files_of processed) ∙ sym (map-map (number_at stores) path_of (files_of processed)))
      (subst (IsPermutation (map (λ (file : StoredFile). file.store) (map (stored_file stores) (files_of processed)))) (map-flat_map (λ (file : StoredFile). file.store) (λ (entry : Entry). entry.files) (entries_of stores processed))
      (IsPermutation-map (λ (file : StoredFile). file.store) (map (stored_file stores) (files_of processed)) (stored_in (entries_of stores processed)) (files_are_kept stores processed order)))

pub paths_are_distinct : PathsAreDistinct
paths_are_distinct stores processed order own =
    sym (are_distinct-once (paths_in (entries_of stores processed)))
    ∙ in_another_order bytes_eq text_is text_itself (given_paths processed) (paths_in (entries_of stores processed)) (paths_move stores processed order) (are_distinct-once (given_paths processed) ∙ own)

pub stores_are_distinct : StoresAreDistinct
stores_are_distinct stores processed order own =
    sym (are_different-once (stores_in (entries_of stores processed)))
    ∙ in_another_order same_number eqb-true (λ n. eq-eqb n n refl) (map (number_at stores) (given_paths processed)) (stores_in (entries_of stores processed)) (numbers_move stores processed order)
    (are_different-once (map (number_at stores) (given_paths processed)) ∙ own)
