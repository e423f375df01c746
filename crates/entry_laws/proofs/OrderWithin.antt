-- Within an entry the names that were offered, the roots and the files ascend.
use Rattle.std.proofs.Common.{◌≡◌, ℕ, Bool, true, false, not, List, [], ◌∷◌, ◌++◌, map, Ordering, Less, Equal, Greater, refl, sym, ap, ◌∙◌}
use Rattle.std.specs.List.{list_any, AllByRecursion}
use Rattle.std.specs.Ordering.{nat_cmp, is_lt, is_eq, ordering_reverse}
use Rattle.std.specs.Cmp.Lexicographic.{slice_cmp}
use Rattle.std.specs.Str.{bytes_eq}
use Rattle.std.proofs.lemmas.Bool.{and_parts, or_parts, not-true, true≢false}
use Rattle.std.proofs.lemmas.Cmp.{nat_list_cmp_total}
use Rattle.std.proofs.lemmas.List.{map-append}
use Rattle.std.proofs.lemmas.Map.Text.{is_eq-slice_cmp}
use Rattle.record_forms.specs.Forms.{ascends, text_less}
use Rattle.record_forms.specs.RecordTable.{file_less}
use Rattle.record_forms.specs.declared.record.StoredFile.{StoredFile}
use Rattle.run_entries.specs.declared.processed.GeneratedFile.{GeneratedFile}
use Rattle.run_entries.specs.declared.processed.Processed.{Processed}
use Rattle.run_entries.specs.Entries.{stored_file, stored_files}
use Rattle.run_entries.specs.Maps.{Stores}
use Rattle.run_entries.specs.Outputs.{Root, roots_of, is_file_from, is_file_left, files_from, files_left}
use Rattle.entry_laws.specs.Asked.{IsInOrder, files_of, path_of, given_paths}
use Rattle.entry_laws.specs.EntryLaws.{HasOrder, EntriesHaveOrder}
use Rattle.entry_laws.proofs.Ascending.{all_to, all_both}
use Rattle.entry_laws.proofs.EachEntry.{HoldsOf, each_entry}
use Rattle.entry_laws.proofs.InOrder.{AreOther, in_order-ascends}
use Rattle.entry_laws.proofs.KeptFiles.{text_is, text_itself, are_distinct-once}
use Rattle.entry_laws.proofs.OnceEach.{once_each, of_the_first, of_the_second, of_those}

-- ---- files by their paths

abbrev same_path : StoredFile → StoredFile → Bool
same_path a b = bytes_eq a.path b.path

-- of two texts that differ one is less
less_or_other : (a b : List ℕ) → bytes_eq a b ≡ false → text_less b a ≡ false → text_less a b ≡ true
less_or_other a b differ not_less = go (slice_cmp nat_cmp a b) (slice_cmp nat_cmp b a) (nat_list_cmp_total.antisymm b a) (is_eq-slice_cmp a b ∙ differ) not_less
  where
    go : (o r : Ordering) → r ≡ ordering_reverse o → is_eq o ≡ false → is_lt r ≡ false → is_lt o ≡ true
    go Less r back e n = refl
    go Equal r back e n = absurd (true≢false e)
    go Greater r back e n = absurd (true≢false (sym (ap is_lt back) ∙ n))

other_path : (a b : StoredFile) → same_path a b ≡ false → file_less b a ≡ false → file_less a b ≡ true
other_path a b differ not_less = less_or_other a.path b.path differ not_less

module _ (stores : Stores) where
  are_other : (files : List GeneratedFile) → once_each bytes_eq (map path_of files) ≡ true → AreOther same_path (map (stored_file stores) files)
  are_other [] own = tt
  are_other (file ∷ files) own =
      let both = and_parts (not (list_any (bytes_eq file.path) (map path_of files))) (once_each bytes_eq (map path_of files)) own in
      (none_there files (not-true (list_any (bytes_eq file.path) (map path_of files)) both.0), are_other files both.1)
    where
      none_there : (others : List GeneratedFile) → list_any (bytes_eq file.path) (map path_of others) ≡ false → AllByRecursion (λ b. same_path (stored_file stores file) b ≡ false) (map (stored_file stores) others)
      none_there [] e = tt
      none_there (other ∷ others) e = let both = or_parts (bytes_eq file.path other.path) (list_any (bytes_eq file.path) (map path_of others)) e in (both.0, none_there others both.1)

  files-ascend : (files : List GeneratedFile) → once_each bytes_eq (map path_of files) ≡ true → ascends file_less (stored_files stores files) ≡ true
  files-ascend files own = in_order-ascends file_less same_path other_path (map (stored_file stores) files) (are_other files own)

  -- of one processor in one round
  pub order_of_done : (done : Processed) → IsInOrder done → once_each bytes_eq (map path_of done.files) ≡ true → HoldsOf stores HasOrder done
  order_of_done done order own = record {
    roots = all_to
        (λ (root : Root) carried. record { offered = carried; annotated = refl; files = files-ascend (files_from root.0 done) (of_those bytes_eq text_is text_itself path_of (is_file_from root.0) done.files own) })
        done.annotated order.carried;
    left = record { offered = refl; annotated = refl; files = files-ascend (files_left done) (of_those bytes_eq text_is text_itself path_of (is_file_left (roots_of done)) done.files own) };
    whole = record { offered = order.offered; annotated = order.roots; files = files-ascend done.files own };
  }

-- no two files of one turn have one path, where no two of all have
pub each_own : (processed : List Processed) → once_each bytes_eq (given_paths processed) ≡ true → AllByRecursion (λ (done : Processed). once_each bytes_eq (map path_of done.files) ≡ true) processed
each_own [] own = tt
each_own (done ∷ processed) own =
    let parted : once_each bytes_eq (map path_of done.files ++ given_paths processed) ≡ true = ap (once_each bytes_eq) (sym (map-append path_of done.files (files_of processed))) ∙ own in (
      of_the_first bytes_eq text_is text_itself (map path_of done.files) (given_paths processed) parted,
      each_own processed (of_the_second bytes_eq text_is text_itself (map path_of done.files) (given_paths processed) parted),
    )

pub entries_have_order : EntriesHaveOrder
entries_have_order stores processed order own =
    each_entry stores HasOrder processed (all_both (order_of_done stores) processed order.each (each_own processed (are_distinct-once (given_paths processed) ∙ own)))
