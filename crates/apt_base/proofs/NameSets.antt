-- A `BTreeSet` of names as the set of their bytes, and what a set has after names were added.
use Rattle.std.proofs.Common.{◌≡◌, ℕ, Bool, true, false, cond, not, T, List, [], ◌∷◌, ◌++◌, map, length, is_some, Some, None, Option, String, string_bytes, ◌&&◌, ◌||◌, refl, sym, ap, ◌∙◌, subst, arith}
use Rattle.std.specs.Map.Iter.{deref}
use Rattle.std.specs.BTreeSet.{BTreeSet, UpdatesBy, contains_text, IsOrdered}
use Rattle.std.specs.List.{list_any, AllByRecursion}
use Rattle.std.specs.List.Sorted.{IsStrictlySortedBy}
use Rattle.std.specs.Str.{bytes_eq}
use Rattle.std.specs.String.{string_cmp}
use Rattle.std.specs.Ordering.{nat_cmp, is_eq, is_lt, eq_by_cmp}
use Rattle.std.specs.Cmp.Lexicographic.{slice_cmp, nat_list_cmp_total, nat_list_eq_equiv}
use Rattle.std.specs.FinMap as fin
use Rattle.std.specs.FinMap.{find, is_sorted, get-from_entries, get-insert, get-remove, get-empty, contains_key-keys, same_map, nat_cmp-IsAntisymmetric, slice_cmp-IsAntisymmetric}
use Rattle.std.specs.FinMap.Entries.{same_entries, below_all}
use Rattle.std.specs.declared.alloc.Global.{Global}
use Rattle.std.specs.declared.cmp.Ordering.TheVariants.{Less}
use Rattle.std.proofs.lemmas.Map.Text.{is_eq-slice_cmp, btree_set_updates_text}
use Rattle.std.proofs.lemmas.Slice.Eq.{bytes_eq-Decides}
use denote.Ref.{Bor}
use Rattle.apt_base.specs.Names.{NameSet, with_name, with_names, names_in, shown_name, names_of}

-- names that compare alike are one
pub exact_names : fin.IsAntisymmetric (slice_cmp nat_cmp)
exact_names = slice_cmp-IsAntisymmetric nat_cmp-IsAntisymmetric

pub same_name : (q name : List ℕ) → eq_by_cmp (slice_cmp nat_cmp) q name ≡ true → q ≡ name
same_name q name e = (bytes_eq-Decides q name).0 (sym (is_eq-slice_cmp q name) ∙ e)

-- what a set answers of a name
abbrev mark : Bool → Option (Unit {0})
mark b = cond b (Some tt) None

marks : (o : Option (Unit {0})) → o ≡ mark (is_some o)
marks None = refl
marks (Some x) = refl

some_mark : (b : Bool) → is_some (mark b) ≡ b
some_mark true = refl
some_mark false = refl

-- sets that answer alike are one
pub same_names : (a b : NameSet) → ((q : List ℕ) → fin.contains_key a q ≡ fin.contains_key b q) → a ≡ b
same_names a b is = same_map nat_list_cmp_total exact_names a b (λ q. marks (fin.get a q) ∙ ap mark (is q) ∙ sym (marks (fin.get b q)))

some_or : (b : Bool) (o : Option (Unit {0})) → is_some (cond b (Some tt) o) ≡ (b || is_some o)
some_or true o = refl
some_or false o = refl

none_or : (b : Bool) (o : Option (Unit {0})) → is_some (cond b None o) ≡ (not b && is_some o)
none_or true o = refl
none_or false o = refl

pub contains-with_name : (names : NameSet) (name q : List ℕ) → fin.contains_key (with_name names name) q ≡ (bytes_eq q name || fin.contains_key names q)
contains-with_name names name q =
    ap is_some (get-insert nat_list_cmp_total names name tt q) ∙ some_or (eq_by_cmp (slice_cmp nat_cmp) q name) (fin.get names q)
    ∙ ap (λ (b : Bool). b || fin.contains_key names q) (is_eq-slice_cmp q name)

pub contains-remove : (names : NameSet) (name q : List ℕ) → fin.contains_key (fin.remove names name) q ≡ (not (bytes_eq q name) && fin.contains_key names q)
contains-remove names name q =
    ap is_some (get-remove nat_list_cmp_total names name q) ∙ none_or (eq_by_cmp (slice_cmp nat_cmp) q name) (fin.get names q)
    ∙ ap (λ (b : Bool). not b && fin.contains_key names q) (is_eq-slice_cmp q name)

abbrev no_names : NameSet
no_names = fin.empty

pub contains-empty : (q : List ℕ) → fin.contains_key no_names q ≡ false
contains-empty q = ap is_some (get-empty (slice_cmp nat_cmp) q)

-- ---- names added one after another

or_swap : (a b c : Bool) → (a || (b || c)) ≡ (b || (a || c))
or_swap true true c = refl
or_swap true false c = refl
or_swap false b c = refl

pub contains-with_names : (names : NameSet) (more : List (List ℕ)) (q : List ℕ) → fin.contains_key (with_names names more) q ≡ (list_any (eq_by_cmp (slice_cmp nat_cmp) q) more || fin.contains_key names q)
contains-with_names names [] q = refl
contains-with_names names (name ∷ more) q =
    contains-with_names (with_name names name) more q
    ∙ ap (λ (b : Bool). list_any (eq_by_cmp (slice_cmp nat_cmp) q) more || b) (ap is_some (get-insert nat_list_cmp_total names name tt q) ∙ some_or (eq_by_cmp (slice_cmp nat_cmp) q name) (fin.get names q))
    ∙ or_swap (list_any (eq_by_cmp (slice_cmp nat_cmp) q) more) (eq_by_cmp (slice_cmp nat_cmp) q name) (fin.contains_key names q)
    ∙ or_apart (eq_by_cmp (slice_cmp nat_cmp) q name) (list_any (eq_by_cmp (slice_cmp nat_cmp) q) more) (fin.contains_key names q)
  where
    or_apart : (a b c : Bool) → (a || (b || c)) ≡ ((a || b) || c)
    or_apart true b c = refl
    or_apart false b c = refl

pub with_names-push : (names : NameSet) (more : List (List ℕ)) (name : List ℕ) → with_names names (more ++ name ∷ []) ≡ with_name (with_names names more) name
with_names-push names [] name = refl
with_names-push names (n ∷ more) name = with_names-push (with_name names n) more name

-- a borrowed name more
pub with_names-borrowed : (names : NameSet) (more : List (Bor (String Global))) (name : Bor (String Global))
    → with_names names (map (λ k. string_bytes k.now) (more ++ name ∷ [])) ≡ with_name (with_names names (map (λ k. string_bytes k.now) more)) (string_bytes name.now)
with_names-borrowed names [] name = refl
with_names-borrowed names (n ∷ more) name = with_names-borrowed (with_name names (string_bytes n.now)) more name

-- lists with the same names make the same set
pub with_names-same : (names : NameSet) (some more : List (List ℕ)) → ((q : List ℕ) → list_any (eq_by_cmp (slice_cmp nat_cmp) q) some ≡ list_any (eq_by_cmp (slice_cmp nat_cmp) q) more) → with_names names some ≡ with_names names more
with_names-same names some more is = same_names _ _ (λ q.
    contains-with_names names some q ∙ ap (λ (b : Bool). b || fin.contains_key names q) (is q) ∙ sym (contains-with_names names more q))

or_false : (b : Bool) → (b || false) ≡ b
or_false true = refl
or_false false = refl

-- all names of a set make it
pub with_names-all : (names : NameSet) → with_names fin.empty (names_in names) ≡ names
with_names-all names = same_names _ _ (λ q.
    contains-with_names fin.empty (names_in names) q
    ∙ ap (λ (b : Bool). list_any (eq_by_cmp (slice_cmp nat_cmp) q) (names_in names) || b) (contains-empty q)
    ∙ or_false (list_any (eq_by_cmp (slice_cmp nat_cmp) q) (names_in names))
    ∙ sym (contains_key-keys names q))

-- ---- a set in memory

find_marked : (names : List (String Global)) (q : List ℕ) → find (slice_cmp nat_cmp) q (map shown_name names) ≡ mark (list_any (λ k. is_eq (slice_cmp nat_cmp q (string_bytes k))) names)
find_marked [] q = refl
find_marked (name ∷ names) q =
    elim (is_eq (slice_cmp nat_cmp q (string_bytes name))) as (λ b. cond b (Some tt) (find (slice_cmp nat_cmp) q (map shown_name names)) ≡ mark (b || list_any (λ k. is_eq (slice_cmp nat_cmp q (string_bytes k))) names)) [ true ↦ refl | false ↦ find_marked names q ]

get-names_of : (held : BTreeSet (String Global)) (q : List ℕ) → fin.get (names_of held) q ≡ mark (contains_text held q)
get-names_of held q = get-from_entries nat_list_cmp_total (map shown_name held.keys) q ∙ find_marked held.keys q

pub contains-names_of : (held : BTreeSet (String Global)) (q : List ℕ) → fin.contains_key (names_of held) q ≡ contains_text held q
contains-names_of held q = ap is_some (get-names_of held q) ∙ some_mark (contains_text held q)

or_cond : (b x : Bool) → cond b true x ≡ (b || x)
or_cond true x = refl
or_cond false x = refl

and_cond : (b x : Bool) → cond b false x ≡ (not b && x)
and_cond true x = refl
and_cond false x = refl

-- a name more
pub names_of-insert : (old new : BTreeSet (String Global)) (name : List ℕ) → UpdatesBy string_cmp (λ k. slice_cmp nat_cmp name (string_bytes k)) old new true → names_of new ≡ with_name (names_of old) name
names_of-insert old new name updates = same_names _ _ (λ q.
    contains-names_of new q ∙ btree_set_updates_text name old new true updates q
    ∙ or_cond (bytes_eq name q) (contains_text old q)
    ∙ ap (λ (b : Bool). b || contains_text old q) (nat_list_eq_equiv.symm name q)
    ∙ ap (λ (b : Bool). bytes_eq q name || b) (sym (contains-names_of old q))
    ∙ sym (contains-with_name (names_of old) name q))

-- a name less
pub names_of-remove : (old new : BTreeSet (String Global)) (name : List ℕ) → UpdatesBy string_cmp (λ k. slice_cmp nat_cmp name (string_bytes k)) old new false → names_of new ≡ fin.remove (names_of old) name
names_of-remove old new name updates = same_names _ _ (λ q.
    contains-names_of new q ∙ btree_set_updates_text name old new false updates q
    ∙ and_cond (bytes_eq name q) (contains_text old q)
    ∙ ap (λ (b : Bool). not b && contains_text old q) (nat_list_eq_equiv.symm name q)
    ∙ ap (λ (b : Bool). not (bytes_eq q name) && b) (sym (contains-names_of old q))
    ∙ sym (contains-remove (names_of old) name q))

-- no change
pub names_of-same : (old new : BTreeSet (String Global)) → new.keys ≡ old.keys → names_of new ≡ names_of old
names_of-same old new same = ap (λ (keys : List (String Global)). fin.from_entries {R = slice_cmp nat_cmp} (map shown_name keys)) same

-- none at all
pub names_of-none : (held : BTreeSet (String Global)) → length held.keys ≡ 0 → names_of held ≡ fin.empty
names_of-none held none = same_names _ _ (λ q.
    contains-names_of held q ∙ ap (list_any (λ (k : String Global). is_eq (slice_cmp nat_cmp q (string_bytes k)))) (no_keys held.keys none) ∙ sym (contains-empty q))
  where
    no_keys : (keys : List (String Global)) → length keys ≡ 0 → keys ≡ []
    no_keys [] e = refl
    no_keys (k ∷ keys) e = absurd (omega arith)

both : (a b : Bool) → T a → T b → T (a && b)
both true b p q = q
both false b p q = p

less : (x : List ℕ) (names : List (String Global)) → AllByRecursion (λ y. slice_cmp nat_cmp x (string_bytes y) ≡ Less) names → T (below_all (slice_cmp nat_cmp) x (map shown_name names))
less x [] all = tt
less x (name ∷ names) all = both _ _ (subst (λ r. T (is_lt r)) (sym all.0) tt) (less x names all.1)

sorted_shown : (names : List (String Global)) → IsStrictlySortedBy string_cmp names → T (is_sorted (slice_cmp nat_cmp) (map shown_name names))
unfolding IsStrictlySortedBy
sorted_shown [] s = tt
sorted_shown (name ∷ names) s = both _ _ (less (string_bytes name) names s.0) (sorted_shown names s.1)

keys_shown : (names : List (String Global)) → map (λ e. e.0) (map shown_name names) ≡ map string_bytes names
keys_shown [] = refl
keys_shown (name ∷ names) = ap (λ ns. string_bytes name ∷ ns) (keys_shown names)

-- the bytes of borrowed names
pub bytes_of_borrowed : (ks : List (Bor (String Global))) → map (λ k. string_bytes k.now) ks ≡ map string_bytes (map deref ks)
bytes_of_borrowed [] = refl
bytes_of_borrowed (k ∷ ks) = ap (λ ns. string_bytes k.now ∷ ns) (bytes_of_borrowed ks)

-- its names in order
pub names_in-names_of : (held : BTreeSet (String Global)) → IsOrdered string_cmp held → names_in (names_of held) ≡ map string_bytes held.keys
names_in-names_of held s =
    let es : List (List ℕ × Unit {0}) = map shown_name held.keys in
    ap (map (λ e. e.0)) (same_entries (slice_cmp nat_cmp) nat_list_cmp_total exact_names (fin.entries (names_of held)) es (fin.entries_sorted (names_of held)) (sorted_shown held.keys s)
    (λ q. sym (fin.get-entries (names_of held) q) ∙ get-from_entries nat_list_cmp_total es q)) ∙ keys_shown held.keys
