-- The limits on the files of a folder: which one they pass, told from the bytes up to one past the limit of a file, and path by path.
use Rattle.std.proofs.Common.{◌≡◌, ℕ, suc, ◌+◌, ◌≤◌, ◌<◌, Bool, true, false, cond, List, [], ◌∷◌, ◌++◌, length, map, take, drop, get_or, min, Option, None, Some, option_map, Result, Ok, Err, String, string_bytes, refl, sym, ap, subst, ◌∙◌, arith}
use Rattle.std.specs.Prelude.{◌-◌, nat_lt, filter, IfOk}
use Rattle.std.specs.List.{cons_option}
use Rattle.std.specs.declared.alloc.Global.{Global}
use Rattle.std.proofs.lemmas.Bool.{lt-ltb, le-ltb, ltb-true, ltb-false}
use Rattle.std.proofs.lemmas.List.{take_all, length-take, drop_more, drop_all}
use Rattle.apt_base.specs.declared.kinds.What.{What}
use Rattle.apt_base.specs.declared.kinds.What.TheVariants as what
use Rattle.apt_outside.specs.Files.{Files}
use Rattle.tree_store.specs.declared.fault.SourceReadFault.{SourceReadFault}
use Rattle.tree_store.specs.declared.fault.SourceReadFault.TheVariants.{Failed, TooLarge, Memory}
use Rattle.tree_store.specs.declared.sources.Folder.{Folder}
use Rattle.tree_store.specs.declared.sources.RawSource.{RawSource}
use Rattle.tree_store.specs.declared.sources.RawSources.{RawSources}
use Rattle.tree_store.proofs.Reading.{source_more, none_more}
use Rattle.apt_base.specs.Limits.{max_file_bytes}
use Rattle.tree_store.specs.Sources.{most_files, most_in_all, limit_in_all, is_java, is_java_text, source_of, source_at, sources_at, files_at, java_paths, java_files, passed, unless_passed, limited, files_in, both, Gives, AreShort, GivesOne, IsWithin}

-- ---- one file

-- what is passed, by the two tests
abbrev by_tests : Folder → Bool → Bool → Option What → Option What
by_tests folder long heavy behind = cond long (Some what.FileBytes) (cond heavy (Some (limit_in_all folder)) behind)

module _ (folder : Folder) (left : ℕ) (source : RawSource) where
  pub passed-one : (sources : List RawSource) → max_file_bytes < length source.bytes → passed folder left (source ∷ sources) ≡ Some what.FileBytes
  passed-one sources long = ap (λ b. by_tests folder b (nat_lt left (length source.bytes)) (passed folder (left - length source.bytes) sources)) (lt-ltb max_file_bytes (length source.bytes) long)

  pub passed-all : (sources : List RawSource) → length source.bytes ≤ max_file_bytes → left < length source.bytes → passed folder left (source ∷ sources) ≡ Some (limit_in_all folder)
  passed-all sources short heavy =
      ap (λ b. by_tests folder b (nat_lt left (length source.bytes)) (passed folder (left - length source.bytes) sources)) (le-ltb max_file_bytes (length source.bytes) short)
      ∙ ap (λ b. by_tests folder false b (passed folder (left - length source.bytes) sources)) (lt-ltb left (length source.bytes) heavy)

  -- one that is within them leaves less for those behind it
  pub passed-on : (sources : List RawSource) → length source.bytes ≤ max_file_bytes → length source.bytes ≤ left → passed folder left (source ∷ sources) ≡ passed folder (left - length source.bytes) sources
  passed-on sources short light =
      ap (λ b. by_tests folder b (nat_lt left (length source.bytes)) (passed folder (left - length source.bytes) sources)) (le-ltb max_file_bytes (length source.bytes) short)
      ∙ ap (λ b. by_tests folder false b (passed folder (left - length source.bytes) sources)) (le-ltb left (length source.bytes) light)

  stops : (long heavy : Bool) (behind : Option What) (limit : What) → by_tests folder long heavy None ≡ Some limit → by_tests folder long heavy behind ≡ Some limit
  stops true heavy behind limit is = is
  stops false true behind limit is = is
  stops false false behind limit is = absurd (let e : None ≡ Some limit = is in cc)

  -- a limit that one passes is passed, whatever stands behind it
  pub passed-first : (sources : List RawSource) (limit : What) → passed folder left (source ∷ []) ≡ Some limit → passed folder left (source ∷ sources) ≡ Some limit
  passed-first sources limit is = stops (nat_lt max_file_bytes (length source.bytes)) (nat_lt left (length source.bytes)) (passed folder (left - length source.bytes) sources) limit is

-- ---- its bytes up to one past the limit

module _ (path bytes : List ℕ) where
  abbrev front : List ℕ
  front = take (max_file_bytes + 1) bytes

  whole : length front ≤ max_file_bytes → front ≡ bytes
  whole short =
      let cut : length front ≡ min (max_file_bytes + 1) (length bytes) = length-take (max_file_bytes + 1) bytes in
      take_all (max_file_bytes + 1) bytes (omega (arith, cut, short))

  cut_by : (folder : Folder) (left : ℕ) (long : Bool) → nat_lt max_file_bytes (length front) ≡ long → passed folder left (source_of path front ∷ []) ≡ passed folder left (source_of path bytes ∷ [])
  cut_by folder left true is =
      let cut : length front ≡ min (max_file_bytes + 1) (length bytes) = length-take (max_file_bytes + 1) bytes in
      let past : max_file_bytes < length front = ltb-true max_file_bytes (length front) is in
      passed-one folder left (source_of path front) [] past ∙ sym (passed-one folder left (source_of path bytes) [] (omega (arith, cut, past)))
  cut_by folder left false is = ap (λ (bs : List ℕ). passed folder left (source_of path bs ∷ [])) (whole (ltb-false max_file_bytes (length front) is))

  -- tell which limit it passes
  pub passed-cut : (folder : Folder) (left : ℕ) → passed folder left (source_of path front ∷ []) ≡ passed folder left (source_of path bytes ∷ [])
  passed-cut folder left = cut_by folder left (nat_lt max_file_bytes (length front)) refl

  of_source : (source : RawSource) → Some (source_of path front) ≡ Some source → length source.bytes ≤ max_file_bytes → Some (source_of path bytes) ≡ Some source
  of_source source is short =
      let same : source_of path front ≡ source = (let e : Some (source_of path front) ≡ Some source = is in cc) in
      ap (λ (bs : List ℕ). Some (source_of path bs)) (sym (whole (subst (λ (s : RawSource). length s.bytes ≤ max_file_bytes) (sym same) short))) ∙ is

-- what a call gave of these bytes it gave of the file
pub gives-whole : (folder : Folder) (left : ℕ) (path : List ℕ) (stands : Option (List ℕ)) (result : Result (Option RawSource) SourceReadFault) → IfOk result (IsWithin left)
    → GivesOne folder left (option_map (source_of path) (option_map (take (max_file_bytes + 1)) stands)) result → GivesOne folder left (option_map (source_of path) stands) result
gives-whole folder left path None result within gives = gives
gives-whole folder left path (Some bytes) (Ok None) within gives = absurd (let e : Some (source_of path (take (max_file_bytes + 1) bytes)) ≡ None = gives in cc)
gives-whole folder left path (Some bytes) (Ok (Some source)) within gives = of_source path bytes source gives within.0
gives-whole folder left path (Some bytes) (Err (TooLarge limit)) within gives =
    let same : source_of path (take (max_file_bytes + 1) bytes) ≡ gives.0 = (let e : Some (source_of path (take (max_file_bytes + 1) bytes)) ≡ Some gives.0 = gives.1 in cc) in
    (source_of path bytes, refl, sym (passed-cut path bytes folder left) ∙ subst (λ (s : RawSource). passed folder left (s ∷ []) ≡ Some limit) (sym same) gives.2)
gives-whole folder left path (Some bytes) (Err Failed) within gives = tt
gives-whole folder left path (Some bytes) (Err Memory) within gives = tt

-- ---- all of them

pub limited-passed : (folder : Folder) (sources : List RawSource) (limit : What) → passed folder (most_in_all folder) sources ≡ Some limit → limited folder sources ≡ Err limit
limited-passed folder sources limit is = ap (λ o. unless_passed o sources) is

pub limited-within : (folder : Folder) (sources : List RawSource) → passed folder (most_in_all folder) sources ≡ None → limited folder sources ≡ Ok sources
limited-within folder sources is = ap (λ o. unless_passed o sources) is

-- ---- path by path

-- so far these are read, and what is left decides which limit all pass
pub record AreOnTheWay (folder : Folder) (files : Files) (paths : List (String Global)) (done : ℕ) (sources : List RawSource) (left : ℕ) : Type 0 where
  pub read : sources ≡ sources_at files (map string_bytes (take done paths))
  pub way : passed folder (most_in_all folder) (sources_at files (map string_bytes paths)) ≡ passed folder left (sources_at files (map string_bytes (drop done paths)))

take-none : (paths : List (String Global)) → take 0 paths ≡ []
take-none [] = refl
take-none (path ∷ paths) = refl

drop-none : (paths : List (String Global)) → drop 0 paths ≡ paths
drop-none [] = refl
drop-none (path ∷ paths) = refl

pub begins-way : (folder : Folder) (files : Files) (paths : List (String Global)) → AreOnTheWay folder files paths 0 [] (most_in_all folder)
begins-way folder files paths = record {
  read = ap (λ (ps : List (String Global)). sources_at files (map string_bytes ps)) (sym (take-none paths));
  way = ap (λ (ps : List (String Global)). passed folder (most_in_all folder) (sources_at files (map string_bytes ps))) (sym (drop-none paths));
}

module _ (folder : Folder) (files : Files) (paths : List (String Global)) (i : ℕ) (path : String Global) (below : i < length paths) (at : path ≡ get_or paths i path) (left : ℕ) (sources : List RawSource) (so_far : AreOnTheWay folder files paths i sources left) where
  abbrev later : List RawSource
  later = sources_at files (map string_bytes (drop (i + 1) paths))

  rest : (found : Option RawSource) → found ≡ source_at files (string_bytes path) → sources_at files (map string_bytes (drop i paths)) ≡ cons_option found later
  rest found is =
      ap (λ (ps : List (String Global)). sources_at files (map string_bytes ps)) (drop_more paths i path below ∙ ap (λ (p : String Global). p ∷ drop (i + 1) paths) (sym at))
      ∙ ap (λ (o : Option RawSource). cons_option o later) (sym is)

  -- a file more
  pub more-way : (source : RawSource) → Some source ≡ source_at files (string_bytes path) → IsWithin left (Some source) → (sources' : List RawSource) (left' : ℕ) → sources' ≡ sources ++ source ∷ [] → left' ≡ left - length source.bytes
      → AreOnTheWay folder files paths (i + 1) sources' left'
  more-way source is within sources' left' sources_are left_is = record {
    read = sources_are ∙ source_more (source_at files) paths i path below at sources so_far.read source is;
    way = so_far.way ∙ ap (passed folder left) (rest (Some source) is) ∙ passed-on folder left source later within.0 within.1 ∙ ap (λ n. passed folder n later) (sym left_is);
  }

  -- a path without one
  pub none-way : None ≡ source_at files (string_bytes path) → (sources' : List RawSource) (left' : ℕ) → sources' ≡ sources → left' ≡ left → AreOnTheWay folder files paths (i + 1) sources' left'
  none-way is sources' left' sources_are left_is = record {
    read = sources_are ∙ none_more (source_at files) paths i path below at sources so_far.read is;
    way = so_far.way ∙ ap (passed folder left) (rest None is) ∙ ap (λ n. passed folder n later) (sym left_is);
  }

  -- a file that passes a limit, or a fault
  pub stops-way : (fault : SourceReadFault) → GivesOne folder left (source_at files (string_bytes path)) (Err fault) → Gives (limited folder (files_at files paths)) (Err fault)
  stops-way Failed gives = tt
  stops-way (TooLarge limit) gives =
      limited-passed folder (sources_at files (map string_bytes paths)) limit (so_far.way ∙ ap (passed folder left) (rest (Some gives.0) (sym gives.1)) ∙ passed-first folder left gives.0 later limit gives.2)
  stops-way Memory gives = tt

-- all paths were read
pub ends-way : (folder : Folder) (files : Files) (paths : List (String Global)) (i : ℕ) → length paths ≤ i → (left : ℕ) (sources : List RawSource) → AreOnTheWay folder files paths i sources left → Gives (limited folder (files_at files paths)) (Ok sources)
ends-way folder files paths i past left sources so_far =
    let none : passed folder (most_in_all folder) (sources_at files (map string_bytes paths)) ≡ None = so_far.way ∙ ap (λ (ps : List (String Global)). passed folder left (sources_at files (map string_bytes ps))) (drop_all i paths past) in
    let all : sources ≡ sources_at files (map string_bytes paths) = so_far.read ∙ ap (λ (ps : List (String Global)). sources_at files (map string_bytes ps)) (take_all i paths past) in
    limited-within folder (sources_at files (map string_bytes paths)) none ∙ ap Ok (sym all)

-- ---- how many there are

filtered : (test : Bool) (path : String Global) (paths : List (String Global)) → length (filter is_java_text paths) ≡ length (filter is_java (map string_bytes paths))
    → length (cond test (path ∷ filter is_java_text paths) (filter is_java_text paths)) ≡ length (cond test (string_bytes path ∷ filter is_java (map string_bytes paths)) (filter is_java (map string_bytes paths)))
filtered true path paths is = ap suc is
filtered false path paths is = is

pub count-java : (paths : List (String Global)) → length (filter is_java_text paths) ≡ length (filter is_java (map string_bytes paths))
count-java [] = refl
count-java (path ∷ paths) = filtered (is_java_text path) path paths (count-java paths)

module _ (folder : Folder) (files : Files) where
  pub folder-many : most_files < length (java_paths folder files) → files_in folder files ≡ Err what.Files
  unfolding files_in
  folder-many many = ap (λ b. cond b (Err what.Files) (limited folder (java_files folder files))) (lt-ltb most_files (length (java_paths folder files)) many)

  pub folder-few : length (java_paths folder files) ≤ most_files → files_in folder files ≡ limited folder (java_files folder files)
  unfolding files_in
  folder-few few = ap (λ b. cond b (Err what.Files) (limited folder (java_files folder files))) (le-ltb most_files (length (java_paths folder files)) few)

-- ---- one folder and the other

-- sources that are not given decide
pub stops-both : (sources stubs : Result (List RawSource) What) (fault : SourceReadFault) → Gives sources (Err fault) → Gives (both sources stubs) (Err fault)
stops-both sources stubs Failed gives = tt
stops-both sources stubs (TooLarge limit) gives = ap (λ o. both o stubs) gives
stops-both sources stubs Memory gives = tt

-- else the stubs do
pub stops-behind : (sources stubs : Result (List RawSource) What) (given : List RawSource) (fault : SourceReadFault) → sources ≡ Ok given → Gives stubs (Err fault) → Gives (both sources stubs) (Err fault)
stops-behind sources stubs given Failed is gives = tt
stops-behind sources stubs given (TooLarge limit) is gives = ap (λ o. both o stubs) is ∙ ap (both (Ok given)) gives
stops-behind sources stubs given Memory is gives = tt

pub both-given : (sources stubs : Result (List RawSource) What) (given others : List RawSource) → sources ≡ Ok given → stubs ≡ Ok others → both sources stubs ≡ Ok (record { sources = given; stubs = others })
both-given sources stubs given others is are = ap (λ o. both o stubs) is ∙ ap (both (Ok given)) are

-- ---- whatever the tree tells

pub short-push : (sources : List RawSource) (source : RawSource) → AreShort sources → length source.bytes ≤ max_file_bytes → AreShort (sources ++ source ∷ [])
short-push [] source all short = (short, tt)
short-push (s ∷ sources) source all short = (all.0, short-push sources source all.1 short)
