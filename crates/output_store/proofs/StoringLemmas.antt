-- Files that go into the store one after the other.
use Rattle.std.proofs.Common.{◌≡◌, ◌≢◌, ℕ, ◌+◌, ◌<◌, ◌^◌, true, List, [], ◌∷◌, ◌++◌, length, get_or, take, drop, All, codes, Contains, IsSome, Some, None, false, true≢false, refl, sym, ap, subst, ◌∙◌, arith}
use Rattle.std.specs.FinMap as fin
use Rattle.std.proofs.lemmas.List.{take_more, take-append-drop, length-take, length-map, get_or-map, get_or-take, map-append}
use Rattle.std.proofs.lemmas.List.Elements.{All-push, All-map, All-contains, Contains-get_or, Contains-append_left, Contains-push}
use Rattle.apt_outside.specs.Files.{Files, file_at, is_below, ChangesOnly}
use Rattle.output_store.specs.Output.{record_path, store_path, files_named, output_of, SameOutside}
use Rattle.output_store.specs.Reading.{has_path}
use Rattle.output_store.specs.Publishing.{Numbered, paths_of, AreDistinct, AreAbsent, AreUnnamed, AreWritten, ChangesAmong, KeepsFiles}
use Rattle.output_store.proofs.StorePaths.{store_path_injective, store_path-ne-record_path, store_path-below-out}
use Rattle.output_store.proofs.FileChanges.{file_at-put}
use Rattle.output_store.proofs.OutputLemmas.{output_of-same}

abbrev Stored : Type 0
Stored = ℕ × List ℕ

-- a file that was written has its bytes
pub file_at-written : (old new : Files) (path bytes : List ℕ) → new ≡ fin.insert old path bytes → file_at new path ≡ Some bytes
file_at-written old new path bytes is = ap (λ (tree : Files). file_at tree path) is ∙ file_at-put old path bytes

abbrev path_of : Stored → List ℕ
path_of file = store_path file.0

-- one file, of which those before it are known
module _ (files : Numbered) (i : ℕ) (file : Stored) (below : i < length files) (is : file ≡ get_or files i file) where
  next_front : take (i + 1) files ≡ take i files ++ file ∷ []
  next_front = take_more files i file below ∙ ap (λ (f : Stored). take i files ++ f ∷ []) (sym is)

  -- its path is none of those before
  pub path_not_before : file.0 < 2 ^ 32 → All (λ f. f.0 < 2 ^ 32) (take i files) → AreDistinct files → ¬ Contains (paths_of (take i files)) (store_path file.0)
  path_not_before small fits distinct has =
      let front = take i files in
      let inside : has.0 < length front = omega (arith, length-map front path_of, has.1) in
      let before : has.0 < i = omega (arith, length-take i files, inside) in
      let at = get_or-map path_of front has.0 file (store_path file.0) inside in
      let number : (get_or front has.0 file).0 ≡ file.0 = store_path_injective _ _ (omega (arith, fits has.0 file inside)) (omega arith) (sym at ∙ has.2) in
      distinct has.0 i file before below (ap (λ (f : Stored). f.0) (sym (get_or-take i files has.0 file before)) ∙ number ∙ ap (λ (f : Stored). f.0) is)

  -- no file stands at its path
  pub absent_still : (tree mid : Files) → file.0 < 2 ^ 32 → All (λ f. f.0 < 2 ^ 32) (take i files) → AreDistinct files → AreAbsent tree files → ChangesAmong (paths_of (take i files)) tree mid → file_at mid (store_path file.0) ≡ None
  absent_still tree mid small fits distinct absent among =
      let at : get_or (paths_of files) i (store_path file.0) ≡ store_path file.0 = get_or-map path_of files i file (store_path file.0) below ∙ ap path_of (sym is) in
      among.others (store_path file.0) (path_not_before small fits distinct)
      ∙ subst (λ (path : List ℕ). file_at tree path ≡ None) at (absent i (store_path file.0) (omega (arith, length-map files path_of, below)))

  -- it is changed beside those before
  pub only_more : (old mid new : Files) → ChangesAmong (paths_of (take i files)) old mid → ChangesOnly (store_path file.0) mid new → ChangesAmong (paths_of (take (i + 1) files)) old new
  only_more old mid new among only =
      let front = paths_of (take i files) in
      let paths : paths_of (take (i + 1) files) ≡ front ++ store_path file.0 ∷ [] = ap paths_of next_front ∙ map-append path_of (take i files) (file ∷ []) in
      record {
        others = λ q other.
            let not_it : q ≢ store_path file.0 = λ e. other (subst (λ (ps : List (List ℕ)). Contains ps q) (sym paths) (subst (Contains (front ++ store_path file.0 ∷ [])) (sym e) (Contains-push front (store_path file.0)))) in
            let not_before : ¬ Contains front q = λ has. other (subst (λ (ps : List (List ℕ)). Contains ps q) (sym paths) (Contains-append_left front (store_path file.0 ∷ []) q has)) in
            only.others q not_it ∙ among.others q not_before;
      }

  -- it stands beside those before
  pub written_more : (mid new : Files) → ¬ Contains (paths_of (take i files)) (store_path file.0) → AreWritten mid (take i files) → ChangesOnly (store_path file.0) mid new → file_at new (store_path file.0) ≡ Some file.1 → AreWritten new (take (i + 1) files)
  written_more mid new other written only stands =
      let front = take i files in
      let before : AreWritten new front = λ k d lt.
      let found : Contains (paths_of front) (store_path (get_or front k d).0) =
      subst (Contains (paths_of front)) (get_or-map path_of front k d (path_of d) lt) (Contains-get_or (paths_of front) k (path_of d) (omega (arith, length-map front path_of, lt))) in
      only.others _ (λ e. other (subst (Contains (paths_of front)) e found)) ∙ written k d lt in
      subst (AreWritten new) (sym next_front) (All-push (λ f. file_at new (store_path f.0) ≡ Some f.1) front file before stands)

-- what is changed among the first is changed among all
pub only_all : (files : Numbered) (i : ℕ) (old new : Files) → ChangesAmong (paths_of (take i files)) old new → ChangesAmong (paths_of files) old new
only_all files i old new among =
    let paths : paths_of files ≡ paths_of (take i files) ++ paths_of (drop i files) = ap paths_of (sym (take-append-drop i files)) ∙ map-append path_of (take i files) (drop i files) in
    record {
      others = λ q other. among.others q (λ has. other (subst (λ (ps : List (List ℕ)). Contains ps q) (sym paths) (Contains-append_left (paths_of (take i files)) (paths_of (drop i files)) q has)));
    }

-- ---- what does not change

-- store files that were absent are gained
pub files_kept : (old new : Files) (files : Numbered) → AreAbsent old files → ChangesAmong (paths_of files) old new → KeepsFiles old new
files_kept old new files absent only = record {
  kept = λ q stands. only.others q (λ has. true≢false (sym (subst IsSome (All-contains (λ path. file_at old path ≡ None) (paths_of files) q absent has) stands)));
}

-- the published output stays where the record names none of them
pub output_stays_put : (old new : Files) (files : Numbered) → AreUnnamed old files → ChangesAmong (paths_of files) old new → output_of new ≡ output_of old
output_stays_put old new files unnamed only =
    let paths = paths_of files in
    let not_record : ¬ Contains paths record_path = λ has. All-contains (λ path. path ≢ record_path) paths record_path (All-map (λ path. path ≢ record_path) path_of files (λ k d lt. store_path-ne-record_path _)) has refl in
    output_of-same old new (only.others record_path not_record)
    (λ q named. only.others q (λ has. true≢false (sym named ∙ All-contains (λ path. has_path (files_named old) path ≡ false) paths q unnamed has)))

-- nothing outside `out` changes
pub put_outside : (old new : Files) (files : Numbered) → ChangesAmong (paths_of files) old new → SameOutside old new
put_outside old new files only =
    let paths = paths_of files in
    record {
      others = λ q outside. only.others q (λ has. true≢false (sym (All-contains (λ path. is_below (codes "out") path ≡ true) paths q (All-map (λ path. is_below (codes "out") path ≡ true) path_of files (λ k d lt. store_path-below-out _)) has) ∙ outside));
    }
