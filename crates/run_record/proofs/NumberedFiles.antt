-- The files of a run under their numbers: a store that has each file under its number has it under the number of its path.
use Rattle.std.proofs.Common.{◌≡◌, ℕ, Bool, true, false, cond, T, ◌&&◌, ◌||◌, List, [], ◌∷◌, map, Option, None, Some, IsSomeAnd, is_some, refl, sym, ap, ◌∙◌, subst}
use Rattle.std.specs.List.{list_any, AllByRecursion}
use Rattle.std.specs.Ordering.{nat_cmp, is_lt, is_eq, eq_by_cmp}
use Rattle.std.specs.declared.cmp.Ordering.{Ordering}
use Rattle.std.specs.declared.cmp.Ordering.TheVariants.{Less, Equal, Greater}
use Rattle.std.specs.Str.{bytes_eq}
use Rattle.std.specs.Cmp.Lexicographic.{slice_cmp, nat_list_cmp_total}
use Rattle.std.specs.FinMap as fin
use Rattle.std.specs.FinMap.{get-insert, get-entries, entries_sorted}
use Rattle.std.specs.FinMap.Entries.{find, below_all, is_sorted}
use Rattle.std.proofs.lemmas.Map.Text.{is_eq-slice_cmp}
use Rattle.apt_base.proofs.NameSets.{same_name}
use Rattle.apt_outside.specs.Files.{Files}
use Rattle.wire_frames.specs.declared.frame.Creation.{Creation}
use Rattle.apt_filer.specs.Filing.{path_of, content_of}
use Rattle.project_units.specs.Creations.{gathered, with_file, files_among}
use Rattle.run_entries.specs.Maps.{Stores, or_zero, number_at}
use Rattle.round_engine.specs.declared.numbering.Made.{Made}
use Rattle.round_engine.specs.Numbered.{shown_made}
use Rattle.run_record.specs.Next.{with_store, with_stores, stores_in, IsIn}

abbrev by_bytes : List ℕ → List ℕ → Ordering
by_bytes = slice_cmp nat_cmp

front_of : (a b : Bool) → T (a && b) → T a
front_of true b t = tt
front_of false b t = absurd t

rest_of : (a b : Bool) → T (a && b) → T b
rest_of true b t = t
rest_of false b t = absurd t

less_unequal : (o : Ordering) → T (is_lt o) → is_eq o ≡ false
less_unequal Less t = refl
less_unequal Equal t = absurd t
less_unequal Greater t = refl

-- a path that stands before all of these has no number by them
missed : (files : List Made) (stores : Stores) (path : List ℕ) → T (below_all by_bytes path (map shown_made files)) → fin.get (with_stores stores files) path ≡ fin.get stores path
missed [] stores path below = refl
missed (file ∷ files) stores path below =
    missed files (with_store stores file) path (rest_of (is_lt (by_bytes path file.path)) (below_all by_bytes path (map shown_made files)) below)
    ∙ get-insert nat_list_cmp_total stores file.path file.store path
    ∙ ap (λ b. cond b (Some file.store) (fin.get stores path)) (less_unequal (by_bytes path file.path) (front_of (is_lt (by_bytes path file.path)) (below_all by_bytes path (map shown_made files)) below))

module _ (store : ℕ → Option (List ℕ)) where
  -- the store has at the number of a path what the file at that path holds
  stored : (files : List Made) (stores : Stores) (path bytes : List ℕ) → T (is_sorted by_bytes (map shown_made files)) → AllByRecursion (IsIn store) files → find by_bytes path (map shown_made files) ≡ Some bytes
      → store (number_at (with_stores stores files) path) ≡ Some bytes
  stored [] stores path bytes sorted all is = absurd cc
  stored (file ∷ files) stores path bytes sorted all is = go (eq_by_cmp by_bytes path file.path) refl (stored files (with_store stores file) path bytes (rest_of (below_all by_bytes file.path (map shown_made files)) (is_sorted by_bytes (map shown_made files)) sorted) all.1)
    where
      go : (b : Bool) → eq_by_cmp by_bytes path file.path ≡ b → (find by_bytes path (map shown_made files) ≡ Some bytes → store (number_at (with_stores (with_store stores file) files) path) ≡ Some bytes)
          → store (number_at (with_stores (with_store stores file) files) path) ≡ Some bytes
      go true e later =
          let here = ap (λ b. cond b (Some file.bytes) (find by_bytes path (map shown_made files))) (sym e) ∙ is in
          let below = front_of (below_all by_bytes file.path (map shown_made files)) (is_sorted by_bytes (map shown_made files)) sorted in
          ap (λ o. store (or_zero o)) (missed files (with_store stores file) path (subst (λ p. T (below_all by_bytes p (map shown_made files))) (sym (same_name path file.path e)) below)
          ∙ get-insert nat_list_cmp_total stores file.path file.store path ∙ ap (λ b. cond b (Some file.store) (fin.get stores path)) e)
          ∙ all.0 ∙ here
      go false e later = later (ap (λ b. cond b (Some file.bytes) (find by_bytes path (map shown_made files))) (sym e) ∙ is)

  -- so it has what a map holds whose entries these are
  pub stored_at : (all : Files) (files : List Made) (path : List ℕ) → map shown_made files ≡ fin.entries all → AllByRecursion (IsIn store) files → T (fin.contains_key all path)
      → IsSomeAnd (fin.get all path) (λ bytes. store (number_at (stores_in files) path) ≡ Some bytes)
  stored_at all files path are stand has = go (fin.get all path) refl has
    where
      go : (o : Option (List ℕ)) → fin.get all path ≡ o → T (is_some o) → IsSomeAnd o (λ bytes. store (number_at (stores_in files) path) ≡ Some bytes)
      go None e t = absurd t
      go (Some bytes) e t =
          stored files fin.empty path bytes (subst (λ es. T (is_sorted by_bytes es)) (sym are) (entries_sorted all)) stand
          (ap (find by_bytes path) are ∙ sym (get-entries all path) ∙ e)

-- ---- the paths of what was made

-- a creation has this path
abbrev pub is_at : List ℕ → Creation → Bool
is_at path creation = bytes_eq path (path_of creation)

abbrev pub is_made : List Creation → List ℕ → Bool
is_made made path = list_any (is_at path) made

module _ (path : List ℕ) where
  either_some : (b : Bool) (x : List ℕ) (o : Option (List ℕ)) → T (is_some o) → T (is_some (cond b (Some x) o))
  either_some true x o t = tt
  either_some false x o t = t

  with_kept : (files : Files) (creation : Creation) → T (fin.contains_key files path) → T (fin.contains_key (with_file files creation) path)
  with_kept files creation t = subst (λ o. T (is_some o)) (sym (get-insert nat_list_cmp_total files (path_of creation) (content_of creation) path))
      (either_some (eq_by_cmp by_bytes path (path_of creation)) (content_of creation) (fin.get files path) t)

  with_new : (files : Files) (creation : Creation) → is_at path creation ≡ true → T (fin.contains_key (with_file files creation) path)
  with_new files creation e = subst (λ o. T (is_some o))
      (sym (get-insert nat_list_cmp_total files (path_of creation) (content_of creation) path
      ∙ ap (λ b. cond b (Some (content_of creation)) (fin.get files path)) (is_eq-slice_cmp path (path_of creation) ∙ e))) tt

  kept : (made : List Creation) (files : Files) → T (fin.contains_key files path) → T (fin.contains_key (gathered with_file files made) path)
  kept [] files t = t
  kept (creation ∷ made) files t = kept made (with_file files creation) (with_kept files creation t)

  gathered_has : (made : List Creation) (files : Files) → T (is_made made path) → T (fin.contains_key (gathered with_file files made) path)
  gathered_has [] files t = absurd t
  gathered_has (creation ∷ made) files t = go (is_at path creation) refl t (gathered_has made (with_file files creation))
    where
      go : (b : Bool) → is_at path creation ≡ b → T (b || is_made made path) → (T (is_made made path) → T (fin.contains_key (gathered with_file (with_file files creation) made) path))
          → T (fin.contains_key (gathered with_file (with_file files creation) made) path)
      go true e here later = kept made (with_file files creation) (with_new files creation e)
      go false e here later = later here

  -- the files of a run have each path that was made
  pub has_made : (made : List Creation) → T (is_made made path) → T (fin.contains_key (files_among made) path)
  has_made made t = gathered_has made fin.empty t
