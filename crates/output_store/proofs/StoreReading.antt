-- The store files of a record, as they are read one after another.
use Rattle.std.proofs.Common.{◌≡◌, ◌≢◌, ℕ, ◌+◌, ◌<◌, Bool, true, false, nat_le, cond, List, [], ◌∷◌, ◌++◌, length, get_or, take, drop, min, is_none, Option, None, Some, option_map, option_and_then, Vec, option_to_list, map, Contains, IfSome, if◌then◌else◌, refl, sym, ap, subst, ◌∙◌, append_assoc, arith}
use Rattle.std.specs.Prelude.{◌==◌}
use Rattle.std.specs.List.{cons_option, find}
use Rattle.std.specs.Option.{option_or}
use Rattle.std.proofs.lemmas.Bool.{leb-true, leb-false, ne_eqb, eqb-true}
use Rattle.std.proofs.lemmas.List.{take_all, length-take, drop_more, take_more, map-append}
use Rattle.std.proofs.lemmas.List.Elements.{Contains-append_left, Contains-push}
use Rattle.std.specs.declared.alloc.Global.{Global}
use Rattle.apt_outside.specs.Files.{Files, file_at, Reads}
use Rattle.output_store.specs.declared.named.NamedFile.{NamedFile}
use Rattle.output_store.specs.Output.{store_path, of_length, bytes_of}
use Rattle.output_store.specs.Reading.{missing_of, missing_with, stored_of, stored_with, numbered, FitNamed}

-- bytes of another length are not the file
of_length-other : (size : ℕ) (bytes : List ℕ) → length bytes ≢ size → of_length size bytes ≡ None
of_length-other size bytes other = rw (ne_eqb (length bytes) size other) refl

cut_bytes : (size : ℕ) (bytes : List ℕ) (short : Bool) → nat_le (length bytes) size ≡ short → of_length size (take (size + 1) bytes) ≡ of_length size bytes
cut_bytes size bytes true short = ap (of_length size) (take_all (size + 1) bytes (omega (arith, leb-true (length bytes) size short)))
cut_bytes size bytes false long =
    let past : size < length bytes = omega (arith, leb-false (length bytes) size long) in
    let cut : length (take (size + 1) bytes) ≡ min (size + 1) (length bytes) = length-take (size + 1) bytes in
    of_length-other size (take (size + 1) bytes) (λ e. absurd (omega (arith, cut, past, e))) ∙ sym (of_length-other size bytes (λ e. absurd (omega (arith, past, e))))

-- the bytes up to one past the length tell whether they are the file
pub of_length-cut : (size : ℕ) (bytes : Option (List ℕ)) → option_and_then (of_length size) (option_map (take (size + 1)) bytes) ≡ option_and_then (of_length size) bytes
of_length-cut size None = refl
of_length-cut size (Some bytes) = cut_bytes size bytes (nat_le (length bytes) size) refl

-- bytes that are the file have its length
pub of_length-sized : (size : ℕ) (bytes : Option (List ℕ)) → IfSome (option_and_then (of_length size) bytes) (λ bs. length bs ≡ size)
of_length-sized size None = tt
of_length-sized size (Some bytes) = go (length bytes == size) refl
  where
    go : (b : Bool) → (length bytes == size) ≡ b → IfSome (if b then Some bytes else None) (λ bs. length bs ≡ size)
    go true e = eqb-true (length bytes) size e
    go false e = tt

-- what is read at the store path of a file tells its bytes
pub bytes_as_read : (files : Files) (file : NamedFile) (path : List ℕ) (found : Option (Vec ℕ Global)) → path ≡ store_path file.store → Reads files path file.length found
    → option_and_then (of_length file.length) (option_map (λ v. v.items) found) ≡ bytes_of files file
bytes_as_read files file path found at reads =
    ap (option_and_then (of_length file.length)) reads ∙ of_length-cut file.length (file_at files path) ∙ ap (λ (p : List ℕ). option_and_then (of_length file.length) (file_at files p)) at

-- one file more
module _ (files : Files) (items : List NamedFile) (i : ℕ) (file : NamedFile) (below : i < length items) (is : file ≡ get_or items i file) where
  next : drop i items ≡ file ∷ drop (i + 1) items
  next = drop_more items i file below ∙ ap (λ (f : NamedFile). f ∷ drop (i + 1) items) (sym is)

  pub stored-more : (stored : List (ℕ × List ℕ)) → stored_with stored file (bytes_of files file) ++ stored_of files (drop (i + 1) items) ≡ stored ++ stored_of files (drop i items)
  stored-more stored =
      append_assoc stored (option_to_list (numbered files file)) (stored_of files (drop (i + 1) items))
      ∙ ap (λ (l : List (ℕ × List ℕ)). stored ++ l) (one (numbered files file) (stored_of files (drop (i + 1) items)) ∙ sym (ap (stored_of files) next))
    where
      one : (o : Option (ℕ × List ℕ)) (l : List (ℕ × List ℕ)) → option_to_list o ++ l ≡ cons_option o l
      one None l = refl
      one (Some x) l = refl

  pub missing-more : (missing : Option (List ℕ)) → option_or (missing_with missing file (bytes_of files file)) (missing_of files (drop (i + 1) items)) ≡ option_or missing (missing_of files (drop i items))
  missing-more missing = one missing (bytes_of files file) (find (λ f. is_none (bytes_of files f)) (drop (i + 1) items)) ∙ ap (option_or missing) (sym (ap (missing_of files) next))
    where
      first_kept : (m o : Option (List ℕ)) (path : List ℕ) → option_or (option_or m (Some path)) o ≡ option_or m (Some path)
      first_kept None o path = refl
      first_kept (Some x) o path = refl

      one : (m found : Option (List ℕ)) (rest : Option NamedFile) → option_or (missing_with m file found) (option_map (λ f. f.path) rest) ≡ option_or m (option_map (λ f. f.path) (cond (is_none found) (Some file) rest))
      one m None rest = first_kept m (option_map (λ f. f.path) rest) file.path
      one m (Some bytes) rest = refl

-- ---- what fits the files that are named

-- one file more
fit_one : (front : List NamedFile) (file : NamedFile) (missing : Option (List ℕ)) (stored : List (ℕ × List ℕ)) (found : Option (List ℕ)) → IfSome found (λ bytes. length bytes ≡ file.length) → FitNamed front missing stored
    → FitNamed (front ++ file ∷ []) (missing_with missing file found) (stored_with stored file found)
fit_one front file None stored None sized fit =
    subst (λ (paths : List (List ℕ)). Contains paths file.path) (sym (map-append (λ (f : NamedFile). f.path) front (file ∷ []))) (Contains-push (map (λ (f : NamedFile). f.path) front) file.path)
fit_one front file None stored (Some bytes) sized fit =
    map-append (λ (f : ℕ × List ℕ). (f.0, length f.1)) stored ((file.store, bytes) ∷ []) ∙ (λ i. fit i ++ (file.store, sized i) ∷ []) ∙ sym (map-append (λ (f : NamedFile). (f.store, f.length)) front (file ∷ []))
fit_one front file (Some path) stored None sized fit =
    subst (λ (paths : List (List ℕ)). Contains paths path) (sym (map-append (λ (f : NamedFile). f.path) front (file ∷ []))) (Contains-append_left (map (λ (f : NamedFile). f.path) front) (file.path ∷ []) path fit)
fit_one front file (Some path) stored (Some bytes) sized fit =
    subst (λ (paths : List (List ℕ)). Contains paths path) (sym (map-append (λ (f : NamedFile). f.path) front (file ∷ []))) (Contains-append_left (map (λ (f : NamedFile). f.path) front) (file.path ∷ []) path fit)

pub fit-more : (items : List NamedFile) (i : ℕ) (file : NamedFile) → i < length items → file ≡ get_or items i file → (missing : Option (List ℕ)) (stored : List (ℕ × List ℕ)) (found : Option (List ℕ)) → IfSome found (λ bytes. length bytes ≡ file.length)
    → FitNamed (take i items) missing stored → FitNamed (take (i + 1) items) (missing_with missing file found) (stored_with stored file found)
fit-more items i file below is missing stored found sized fit =
    let front : take (i + 1) items ≡ take i items ++ file ∷ [] = take_more items i file below ∙ ap (λ (f : NamedFile). take i items ++ f ∷ []) (sym is) in
    subst (λ (named : List NamedFile). FitNamed named (missing_with missing file found) (stored_with stored file found)) (sym front) (fit_one (take i items) file missing stored found sized fit)

-- the same of equal parts
pub fit_as : (named : List NamedFile) (missing missing' : Option (List ℕ)) (stored stored' : List (ℕ × List ℕ)) → missing ≡ missing' → stored ≡ stored' → FitNamed named missing stored → FitNamed named missing' stored'
fit_as named missing missing' stored stored' same_missing same fit =
    subst (λ (m : Option (List ℕ)). FitNamed named m stored') same_missing (subst (λ (s : List (ℕ × List ℕ)). FitNamed named missing s) same fit)
