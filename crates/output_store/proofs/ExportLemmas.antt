-- Files of the output that are put in a folder, one after another.
use Rattle.std.proofs.Common.{◌≡◌, ℕ, ◌+◌, ◌<◌, Bool, true, false, List, [], ◌∷◌, ◌++◌, length, get_or, take, drop, is_some, Option, Some, None, option_map, option_and_then, option_to_list, refl, sym, ap, ◌∙◌, append-nil, true≢false, length-append, if◌then◌else◌}
use Rattle.std.specs.List.{cons_option}
use Rattle.std.specs.FinMap as fin
use Rattle.std.proofs.lemmas.List.{take_more, take-append-drop, map-append}
use Rattle.std.proofs.lemmas.List.Elements.{filter_map-append}
use Rattle.apt_outside.specs.Files.{Files, file_at, is_below}
use Rattle.output_store.specs.declared.named.NamedFile.{NamedFile}
use Rattle.output_store.specs.Output.{record_path, store_path, of_length, bytes_of, published, published_by, files_named, output_of, ChangesBelow}
use Rattle.output_store.specs.Exporting.{IsApart, path_under, with_bytes, with_one, exported, with_files, published_of, Exports, ExportsFirst}
use Rattle.output_store.proofs.StorePaths.{store_path-below-out}
use Rattle.output_store.proofs.FileChanges.{file_at-beside_put}
use Rattle.output_store.proofs.Folders.{path_under-below, apart-below}
use Rattle.output_store.proofs.OutputLemmas.{output_of-same, named-below}
use Rattle.output_store.proofs.PublishedOrder.{entries-output_of}

abbrev File : Type 0
File = List ℕ × List ℕ

with_files-append : (files : Files) (first rest : List File) → with_files files (first ++ rest) ≡ with_files (with_files files first) rest
unfolding with_files
with_files-append files [] rest = refl
with_files-append files (file ∷ first) rest = with_files-append (fin.insert files file.0 file.1) first rest

module _ (folder : List ℕ) where
  -- what is not below the folder stays
  with_files-others : (old : Files) (files : List File) (q : List ℕ) → is_below folder q ≡ false → file_at (with_files old (exported folder files)) q ≡ file_at old q
  unfolding with_files
  with_files-others old [] q elsewhere = refl
  with_files-others old (file ∷ files) q elsewhere =
      let path = path_under folder file.0 in
      with_files-others (fin.insert old path file.1) files q elsewhere
      ∙ file_at-beside_put old path file.1 q (λ e. true≢false (sym (path_under-below folder file.0) ∙ ap (is_below folder) e ∙ elsewhere))

  pub exports_inside : (old new : Files) (files : List File) → Exports folder files old new → ChangesBelow folder old new
  exports_inside old new files put = record { others = λ q elsewhere. ap (λ (tree : Files). file_at tree q) put ∙ with_files-others old files q elsewhere }

  -- the published output stays where the folder is apart from `out`
  pub exports_stay : (old new : Files) → IsApart folder → ChangesBelow folder old new → output_of new ≡ output_of old
  exports_stay old new apart inside =
      output_of-same old new (inside.others record_path (apart-below folder record_path apart refl))
      (λ q has. inside.others q (apart-below folder q apart (named-below (files_named old) q has)))

  -- one file more
  one_more : (old mid : Files) (files : List File) (path : List ℕ) (found : Option (List ℕ)) → Exports folder files old mid
      → Exports folder (files ++ option_to_list (option_map (λ bytes. (path, bytes)) found)) old (with_bytes folder mid path found)
  unfolding with_files
  one_more old mid files path None put = put ∙ ap (λ (fs : List File). with_files old (exported folder fs)) (sym (append-nil files))
  one_more old mid files path (Some bytes) put =
      let place = path_under folder path in
      ap (λ (tree : Files). fin.insert tree place bytes) put ∙ sym (with_files-append old (exported folder files) ((place, bytes) ∷ []))
      ∙ ap (with_files old) (sym (map-append (λ (file : File). (path_under folder file.0, file.1)) files ((path, bytes) ∷ [])))

  -- nothing is put so far
  pub exports_begin : (old : Files) → Exports folder [] old old
  unfolding with_files
  exports_begin old = refl

  -- the same of equal files and of an equal state before
  pub exports_as : (some files : List File) (mid old new : Files) → some ≡ files → mid ≡ old → Exports folder some mid new → Exports folder files old new
  exports_as some files mid old new same_files same put = put ∙ (λ i. with_files (same i) (exported folder (same_files i)))

  pub first_exports_as : (some files : List File) (mid old new : Files) → some ≡ files → mid ≡ old → ExportsFirst folder some mid new → ExportsFirst folder files old new
  first_exports_as some files mid old new same_files same puts = record {
    first = puts.first;
    rest = puts.rest;
    all = puts.all ∙ same_files;
    put = exports_as puts.first puts.first mid old new refl same puts.put;
  }

  -- nothing is put
  pub first_of_nothing : (files : List File) (old new : Files) → new ≡ old → ExportsFirst folder files old new
  unfolding with_files
  first_of_nothing files old new same = record { first = []; rest = files; all = refl; put = same }

  -- what is put of one file, by what was found of it
  pub put_as_one : (file : NamedFile) (old mid new : Files) (found : Option (List ℕ)) (path : List ℕ) → mid ≡ old → found ≡ bytes_of old file → path ≡ file.path → new ≡ with_bytes folder mid path found → new ≡ with_one folder old file
  put_as_one file old mid new found path same is at put = put ∙ (λ i. with_bytes folder (same i) (at i) (is i))

  module _ (apart : IsApart folder) (old : Files) (items : List NamedFile) where
    abbrev pub front_of : ℕ → List File
    front_of i = published_by old (take i items)

    module _ (i : ℕ) (file : NamedFile) (below : i < length items) (is : file ≡ get_or items i file) (mid : Files) (put : Exports folder (front_of i) old mid) where
      front_next : front_of (i + 1) ≡ front_of i ++ option_to_list (published old file)
      front_next =
          ap (published_by old) (take_more items i file below ∙ ap (λ (f : NamedFile). take i items ++ f ∷ []) (sym is)) ∙ filter_map-append (published old) (take i items) (file ∷ [])
          ∙ ap (λ (fs : List File). front_of i ++ fs) (one (published old file))
        where
          one : (o : Option File) → cons_option o [] ≡ option_to_list o
          one None = refl
          one (Some x) = refl

      -- its store file is as it was
      pub bytes_same : bytes_of mid file ≡ bytes_of old file
      bytes_same =
          let path = store_path file.store in
          ap (option_and_then (of_length file.length)) ((exports_inside old mid (front_of i) put).others path (apart-below folder path apart (store_path-below-out file.store)))

      pub exported_next : (new : Files) → new ≡ with_one folder mid file → Exports folder (front_of (i + 1)) old new
      exported_next new is_new =
          is_new ∙ ap (with_bytes folder mid file.path) bytes_same ∙ one_more old mid (front_of i) file.path (bytes_of old file) put
          ∙ ap (λ (fs : List File). with_files old (exported folder fs)) (sym front_next)

      counted_one : (found : Option (List ℕ)) (b : Bool) → b ≡ is_some found → length {A = File} (option_to_list (option_map (λ (bytes : List ℕ). (file.path, bytes)) found)) ≡ (if b then 1 else 0)
      counted_one None b e = ap (λ b. if b then 1 else 0) (sym e)
      counted_one (Some bytes) b e = ap (λ b. if b then 1 else 0) (sym e)

      -- whether it was put says how many there are
      pub count_next : (b : Bool) → b ≡ is_some (bytes_of mid file) → length (front_of (i + 1)) ≡ length (front_of i) + (if b then 1 else 0)
      count_next b e =
          ap length front_next ∙ length-append (front_of i) (option_to_list (published old file))
          ∙ ap (λ n. length (front_of i) + n) (counted_one (bytes_of old file) b (e ∙ ap is_some bytes_same))

    -- those so far are the first of all
    pub first_exported : (i : ℕ) (new : Files) → Exports folder (front_of i) old new → ExportsFirst folder (published_by old items) old new
    first_exported i new put = record {
      first = front_of i;
      rest = published_by old (drop i items);
      all = sym (filter_map-append (published old) (take i items) (drop i items)) ∙ ap (published_by old) (take-append-drop i items);
      put = put;
    }

  -- what is true of the first ones
  pub first_inside : (old new : Files) (files : List File) → ExportsFirst folder files old new → ChangesBelow folder old new
  first_inside old new files some = exports_inside old new some.first some.put

-- what is read of the record tells what is published
pub published_as_read : (mid old : Files) (named : List NamedFile) → mid ≡ old → named ≡ files_named old → published_by mid named ≡ published_of old
published_as_read mid old named same is = (λ i. published_by (same i) (is i)) ∙ sym (entries-output_of old)
