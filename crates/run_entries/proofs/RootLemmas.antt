-- Sets of roots, and what is left of what was given.
use Rattle.std.proofs.Common.{◌≡◌, ℕ, ◌+◌, ◌<◌, Bool, true, false, cond, not, ◌&&◌, ◌||◌, ◌==◌, List, [], ◌∷◌, ◌++◌, length, map, filter, get_or, drop, refl, sym, ap, ◌∙◌, append_assoc, append-nil}
use Rattle.std.specs.FinMap as fin
use Rattle.std.specs.List.{list_any}
use Rattle.std.specs.Ordering.{nat_cmp, eq_by_cmp}
use Rattle.std.specs.Str.{bytes_eq}
use Rattle.std.specs.Cmp.Lexicographic.{slice_cmp, nat_list_eq_equiv}
use Rattle.std.proofs.lemmas.List.{drop_more}
use Rattle.std.proofs.lemmas.Map.Text.{is_eq-slice_cmp}
use Rattle.apt_base.specs.Names.{NameSet, with_names}
use Rattle.apt_base.proofs.NameSets.{contains-with_names, contains-empty}
use Rattle.wire_frames.specs.declared.frame.Message.{Message}
use Rattle.apt_filer.specs.Origins.{Origin, One, Several, Missing, message_origin}
use Rattle.run_entries.specs.declared.processed.GeneratedFile.{GeneratedFile}
use Rattle.run_entries.specs.declared.processed.Processed.{Processed}
use Rattle.run_entries.specs.declared.parts.Left.{Left}
use Rattle.run_entries.specs.Annotated.{is_offered, offered_on, carries_some, annotated_roots}
use Rattle.run_entries.specs.Outputs.{Root, roots_of, is_attributed, file_origin, is_file_left, is_message_left, leaves_some}
use Rattle.run_entries.specs.Positions.{positions}
use Rattle.run_entries.specs.Roots.{carried_in, is_root, is_file_outside, is_message_outside, AreLeft, has_some}
use Rattle.run_entries.proofs.PositionLemmas.{length-positions, positions_same}

-- ---- sets

or_false : (b : Bool) → (b || false) ≡ b
or_false true = refl
or_false false = refl

any_by : {A : Type 0} (one other : A → Bool) → ((x : A) → one x ≡ other x) → (xs : List A) → list_any one xs ≡ list_any other xs
any_by one other same [] = refl
any_by one other same (x ∷ xs) = λ i. same x i || any_by one other same xs i

none_any : {A : Type 0} (xs : List A) → list_any (λ (x : A). false) xs ≡ false
none_any [] = refl
none_any (x ∷ xs) = none_any xs

in_set : (names : List (List ℕ)) (name : List ℕ) → fin.contains_key (with_names fin.empty names) name ≡ list_any (eq_by_cmp (slice_cmp nat_cmp) name) names
in_set names name =
    contains-with_names fin.empty names name
    ∙ ap (λ (b : Bool). list_any (eq_by_cmp (slice_cmp nat_cmp) name) names || b) (contains-empty name)
    ∙ or_false (list_any (eq_by_cmp (slice_cmp nat_cmp) name) names)

-- a name of the set is one of the names
pub in_names : (names : List (List ℕ)) (name : List ℕ) → fin.contains_key (with_names fin.empty names) name ≡ is_offered names name
in_names names name = in_set names name ∙ any_by (eq_by_cmp (slice_cmp nat_cmp) name) (bytes_eq name) (λ other. is_eq-slice_cmp name other) names

-- an origin is one of the roots of the set exactly where it is one of the roots
pub is_root-attributed : (roots : List (List ℕ)) (origin : Origin) → is_root (with_names fin.empty roots) origin ≡ is_attributed roots origin
is_root-attributed roots (One unit) =
    in_set roots unit ∙ any_by (eq_by_cmp (slice_cmp nat_cmp) unit) (λ root. bytes_eq root unit) (λ root. is_eq-slice_cmp unit root ∙ nat_list_eq_equiv.symm unit root) roots
is_root-attributed roots Several = sym (none_any roots)
is_root-attributed roots Missing = sym (none_any roots)

-- ---- what is left

pub files_are_left : (done : Processed) (set : NameSet) (places : List ℕ) → set ≡ with_names fin.empty (roots_of done) → places ≡ positions (is_file_outside set) 0 done.files
    → places ≡ positions (is_file_left (roots_of done)) 0 done.files
files_are_left done set places is e =
    e ∙ ap (λ (s : NameSet). positions (is_file_outside s) 0 done.files) is
    ∙ positions_same (is_file_outside (with_names fin.empty (roots_of done))) (is_file_left (roots_of done)) (λ file. ap not (is_root-attributed (roots_of done) (file_origin file))) done.files

pub messages_are_left : (done : Processed) (set : NameSet) (places : List ℕ) → set ≡ with_names fin.empty (roots_of done) → places ≡ positions (is_message_outside set) 0 done.messages
    → places ≡ positions (is_message_left (roots_of done)) 0 done.messages
messages_are_left done set places is e =
    e ∙ ap (λ (s : NameSet). positions (is_message_outside s) 0 done.messages) is
    ∙ positions_same (is_message_outside (with_names fin.empty (roots_of done))) (is_message_left (roots_of done)) (λ message. ap not (is_root-attributed (roots_of done) (message_origin message))) done.messages

pub some_left : (done : Processed) (left : Left) → AreLeft done left → has_some left ≡ leaves_some done
some_left done left so =
    let files : length left.files ≡ length (filter (is_file_left (roots_of done)) done.files) = ap length so.files ∙ length-positions (is_file_left (roots_of done)) done.files in
    let messages : length left.messages ≡ length (filter (is_message_left (roots_of done)) done.messages) = ap length so.messages ∙ length-positions (is_message_left (roots_of done)) done.messages in
    λ i. not ((files i == 0) && (messages i == 0))

-- ---- roots that carry an offered name

filter_by : {A : Type 0} (one other : A → Bool) → ((x : A) → one x ≡ other x) → (xs : List A) → filter one xs ≡ filter other xs
filter_by one other same [] = refl
filter_by one other same (x ∷ xs) = λ i. cond (same x i) (x ∷ filter_by one other same xs i) (filter_by one other same xs i)

map_by : {A B : Type 0} (f g : A → B) → ((x : A) → f x ≡ g x) → (xs : List A) → map f xs ≡ map g xs
map_by f g same [] = refl
map_by f g same (x ∷ xs) = λ i. same x i ∷ map_by f g same xs i

carried_root : (offered : List (List ℕ)) (root : Root) → carried_in (with_names fin.empty offered) root ≡ offered_on offered root
carried_root offered root = λ i. (root.0, filter_by (fin.contains_key (with_names fin.empty offered)) (is_offered offered) (in_names offered) root.1 i)

pub carried_roots : (offered : List (List ℕ)) (set : NameSet) (roots : List Root) → set ≡ with_names fin.empty offered → filter carries_some (map (carried_in set) roots) ≡ annotated_roots offered roots
unfolding annotated_roots
carried_roots offered set roots is =
    ap (λ (s : NameSet). filter carries_some (map (carried_in s) roots)) is
    ∙ ap (filter carries_some) (map_by (carried_in (with_names fin.empty offered)) (offered_on offered) (carried_root offered) roots)

-- one that passes in front of others
front : {A : Type 0} (test : A → Bool) (x : A) (xs : List A) → filter test (x ∷ []) ++ filter test xs ≡ filter test (x ∷ xs)
front test x xs = go (test x)
  where
    go : (b : Bool) → cond b (x ∷ []) [] ++ filter test xs ≡ cond b (x ∷ filter test xs) (filter test xs)
    go true = refl
    go false = refl

pub roots_step : (set : NameSet) (roots list new : List Root) (i : ℕ) (root : Root) → i < length roots → root ≡ get_or roots i root → new ≡ list ++ filter carries_some (carried_in set root ∷ [])
    → new ++ filter carries_some (map (carried_in set) (drop (i + 1) roots)) ≡ list ++ filter carries_some (map (carried_in set) (drop i roots))
roots_step set roots list new i root lt at is =
    ap (λ (l : List Root). l ++ filter carries_some (map (carried_in set) (drop (i + 1) roots))) is
    ∙ append_assoc list (filter carries_some (carried_in set root ∷ [])) (filter carries_some (map (carried_in set) (drop (i + 1) roots)))
    ∙ ap (λ (l : List Root). list ++ l) (front carries_some (carried_in set root) (map (carried_in set) (drop (i + 1) roots)))
    ∙ ap (λ (l : List Root). list ++ filter carries_some (map (carried_in set) l)) (sym (drop_more roots i root lt ∙ ap (λ (r : Root). r ∷ drop (i + 1) roots) (sym at)))

-- a root that carries none, and one that carries some
pub none_carried : (set : NameSet) (list : List Root) (root : Root) (carried : List (List ℕ)) → carried ≡ filter (fin.contains_key set) root.1 → (length carried == 0) ≡ true
    → list ≡ list ++ filter carries_some (carried_in set root ∷ [])
none_carried set list root carried is none =
    sym (append-nil list)
    ∙ ap (λ (b : Bool). list ++ cond (not b) (carried_in set root ∷ []) []) (sym none ∙ ap (λ (names : List (List ℕ)). length names == 0) is)

pub some_carried : (set : NameSet) (list new : List Root) (root : Root) (name : List ℕ) (carried : List (List ℕ)) → carried ≡ filter (fin.contains_key set) root.1 → (length carried == 0) ≡ false
    → name ≡ root.0 → new ≡ list ++ (name, carried) ∷ [] → new ≡ list ++ filter carries_some (carried_in set root ∷ [])
some_carried set list new root name carried is some named e =
    e ∙ (λ i. list ++ (named i, is i) ∷ [])
    ∙ ap (λ (b : Bool). list ++ cond (not b) (carried_in set root ∷ []) []) (sym some ∙ ap (λ (names : List (List ℕ)). length names == 0) is)
