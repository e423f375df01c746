-- Kinds by name, as they are gathered one after another.
use Rattle.std.proofs.Common.{◌≡◌, ℕ, Bool, true, false, not, cond, ◌&&◌, ◌||◌, List, [], ◌∷◌, ◌++◌, map, filter, refl, sym, ap, ◌∙◌, append_assoc, append-nil, String}
use Rattle.std.specs.List.{list_any}
use Rattle.std.specs.Str.{bytes_eq}
use Rattle.std.specs.String.{string_bytes, string_eq}
use Rattle.std.specs.declared.alloc.Global.{Global}
use Rattle.indexmap.specs.IndexMap.{insert_entry}
use Rattle.apt_base.specs.declared.kinds.Kind.{Kind}
use Rattle.processor_claims.specs.Kinds.{last_kind, last_of_each, with_kind}
use Rattle.processor_claims.proofs.NameLaws.{same_bytes, bytes_eq-turned, filter_both}

abbrev Entries : Type 0
Entries = List (List ℕ × Kind)

has : Entries → List ℕ → Bool
has held name = list_any (λ entry. bytes_eq name entry.0) held

-- each name once
pub differ : Entries → Bool
differ [] = true
differ (entry ∷ entries) = not (has entries entry.0) && differ entries

updated : Entries → List ℕ × Kind → List ℕ × Kind
updated entries entry = (entry.0, last_kind entry.1 entry.0 entries)

-- what is gathered, and what is still to come
pub gathered : Entries → Entries → Entries
gathered held entries = map (updated entries) held ++ filter (λ other. not (has held other.0)) (last_of_each entries)

same_updated : (xs : Entries) → map (updated []) xs ≡ xs
unfolding updated
same_updated [] = refl
same_updated (x ∷ xs) = ap (λ (rest : Entries). x ∷ rest) (same_updated xs)

pub gathered-none : (held : Entries) → gathered held [] ≡ held
unfolding gathered
gathered-none held = append-nil (map (updated []) held) ∙ same_updated held

pub gathered-all : (entries : Entries) → gathered [] entries ≡ last_of_each entries
unfolding gathered has
gathered-all entries = all (last_of_each entries)
  where
    all : (xs : Entries) → filter (λ other. not (has [] other.0)) xs ≡ xs
    all [] = refl
    all (x ∷ xs) = ap (λ (rest : Entries). x ∷ rest) (all xs)

-- a name that is not there is not changed
unchanged : (name : List ℕ) (kind : Kind) (entries xs : Entries) → has xs name ≡ false → map (updated ((name, kind) ∷ entries)) xs ≡ map (updated entries) xs
unfolding has updated
unchanged name kind entries [] none = refl
unchanged name kind entries (x ∷ xs) none = by (unchanged name kind entries xs) (bytes_eq name x.0) refl none
  where
    by : (has xs name ≡ false → map (updated ((name, kind) ∷ entries)) xs ≡ map (updated entries) xs) → (b : Bool) → bytes_eq name x.0 ≡ b → (b || has xs name) ≡ false → map (updated ((name, kind) ∷ entries)) (x ∷ xs) ≡ map (updated entries) (x ∷ xs)
    by later true e missing = cc
    by later false e missing = rw (bytes_eq-turned x.0 name, e) (ap (λ (rest : Entries). updated entries x ∷ rest) (later missing))

-- what is gathered after one more entry
updated-more : (name : List ℕ) (kind : Kind) (entries held : Entries) → differ held ≡ true
    → map (updated entries) (with_kind held name kind) ≡ map (updated ((name, kind) ∷ entries)) held ++ cond (has held name) [] ((name, last_kind kind name entries) ∷ [])
unfolding has updated differ
updated-more name kind entries [] d = refl
updated-more name kind entries (x ∷ xs) d = by (updated-more name kind entries xs) (bytes_eq name x.0) refl (has xs x.0) refl d
  where
    by : (differ xs ≡ true → map (updated entries) (with_kind xs name kind) ≡ map (updated ((name, kind) ∷ entries)) xs ++ cond (has xs name) [] ((name, last_kind kind name entries) ∷ [])) → (b : Bool) → bytes_eq name x.0 ≡ b → (h : Bool) → has xs x.0 ≡ h → (not h && differ xs) ≡ true
        → map (updated entries) (cond b ((x.0, kind) ∷ xs) (x ∷ with_kind xs name kind)) ≡ map (updated ((name, kind) ∷ entries)) (x ∷ xs) ++ cond (b || has xs name) [] ((name, last_kind kind name entries) ∷ [])
    by later b e true there d = cc
    by later true e false none d =
        let absent : has xs name ≡ false = ap (has xs) (same_bytes name x.0 e) ∙ none in
        rw (bytes_eq-turned x.0 name, e) (ap (λ (rest : Entries). (x.0, last_kind kind x.0 entries) ∷ rest) (sym (append-nil (map (updated ((name, kind) ∷ entries)) xs) ∙ unchanged name kind entries xs absent)))
    by later false e false none d =
        rw (bytes_eq-turned x.0 name, e) (ap (λ (rest : Entries). updated entries x ∷ rest) (later d))

has-more : (name : List ℕ) (kind : Kind) (held : Entries) (other : List ℕ) → has (with_kind held name kind) other ≡ (has held other || bytes_eq other name)
unfolding has
has-more name kind [] other = by (bytes_eq other name)
  where
    by : (b : Bool) → (b || false) ≡ b
    by true = refl
    by false = refl
has-more name kind (x ∷ xs) other = by (has-more name kind xs other) (bytes_eq name x.0) refl
  where
    turn : (a b c : Bool) → (a || (b || c)) ≡ ((a || b) || c)
    turn true b c = refl
    turn false b c = refl

    twice : (a b : Bool) → (a || b) ≡ ((a || b) || a)
    twice true b = refl
    twice false true = refl
    twice false false = refl

    by : has (with_kind xs name kind) other ≡ (has xs other || bytes_eq other name) → (b : Bool) → bytes_eq name x.0 ≡ b → has (cond b ((x.0, kind) ∷ xs) (x ∷ with_kind xs name kind)) other ≡ ((bytes_eq other x.0 || has xs other) || bytes_eq other name)
    by later true e = rw (same_bytes name x.0 e) (twice (bytes_eq other x.0) (has xs other))
    by later false e = ap (λ (b : Bool). bytes_eq other x.0 || b) later ∙ turn (bytes_eq other x.0) (has xs other) (bytes_eq other name)

-- the names still differ
pub differ-more : (name : List ℕ) (kind : Kind) (held : Entries) → differ held ≡ true → differ (with_kind held name kind) ≡ true
unfolding differ has
differ-more name kind [] d = refl
differ-more name kind (x ∷ xs) d = by (differ-more name kind xs) (bytes_eq name x.0) refl (has xs x.0) refl d
  where
    by : (differ xs ≡ true → differ (with_kind xs name kind) ≡ true) → (b : Bool) → bytes_eq name x.0 ≡ b → (h : Bool) → has xs x.0 ≡ h → (not h && differ xs) ≡ true → differ (cond b ((x.0, kind) ∷ xs) (x ∷ with_kind xs name kind)) ≡ true
    by later b e true there d = cc
    by later true e false none d = rw none d
    by later false e false none d = rw (has-more name kind xs x.0, none, bytes_eq-turned x.0 name, e) (later d)

pub differ-none : differ [] ≡ true
unfolding differ
differ-none = refl

pub gathered-more : (held : Entries) (name : List ℕ) (kind : Kind) (entries : Entries) → differ held ≡ true → gathered (with_kind held name kind) entries ≡ gathered held ((name, kind) ∷ entries)
unfolding gathered
gathered-more held name kind entries d =
    ap (λ (front : Entries). front ++ filter (λ other. not (has (with_kind held name kind) other.0)) (last_of_each entries)) (updated-more name kind entries held d)
    ∙ ap (λ (rest : Entries). (front ++ cond (has held name) [] (one ∷ [])) ++ rest)
    (filter_both (λ other. not (has held other.0)) (λ other. not (bytes_eq name other.0)) (λ other. not (has (with_kind held name kind) other.0)) each (last_of_each entries))
    ∙ by (has held name)
  where
    one : List ℕ × Kind
    one = (name, last_kind kind name entries)

    front : Entries
    front = map (updated ((name, kind) ∷ entries)) held

    later : Entries
    later = filter (λ other. not (has held other.0)) (filter (λ other. not (bytes_eq name other.0)) (last_of_each entries))

    turn : (a b : Bool) → not (a || b) ≡ (not b && not a)
    turn true true = refl
    turn true false = refl
    turn false true = refl
    turn false false = refl

    each : (other : List ℕ × Kind) → not (has (with_kind held name kind) other.0) ≡ (not (bytes_eq name other.0) && not (has held other.0))
    each other = ap not (has-more name kind held other.0) ∙ turn (has held other.0) (bytes_eq other.0 name) ∙ ap (λ (b : Bool). not b && not (has held other.0)) (bytes_eq-turned other.0 name)

    by : (b : Bool) → (front ++ cond b [] (one ∷ [])) ++ later ≡ front ++ cond (not b) (one ∷ later) later
    by true = ap (λ (xs : Entries). xs ++ later) (append-nil front)
    by false = append_assoc front (one ∷ []) later

-- an insertion into a map of texts, as it is seen
pub insert_entry-shown : (held : List (String Global × Kind)) (name : String Global) (kind : Kind)
    → map (λ entry. (string_bytes entry.0, entry.1)) (insert_entry string_eq held name kind) ≡ with_kind (map (λ entry. (string_bytes entry.0, entry.1)) held) (string_bytes name) kind
insert_entry-shown [] name kind = refl
insert_entry-shown (x ∷ xs) name kind = by (insert_entry-shown xs name kind) (bytes_eq (string_bytes name) (string_bytes x.0))
  where
    by : map (λ entry. (string_bytes entry.0, entry.1)) (insert_entry string_eq xs name kind) ≡ with_kind (map (λ entry. (string_bytes entry.0, entry.1)) xs) (string_bytes name) kind
        → (b : Bool) → map (λ entry. (string_bytes entry.0, entry.1)) (cond b ((x.0, kind) ∷ xs) (x ∷ insert_entry string_eq xs name kind))
        ≡ cond b ((string_bytes x.0, kind) ∷ map (λ entry. (string_bytes entry.0, entry.1)) xs) ((string_bytes x.0, x.1) ∷ with_kind (map (λ entry. (string_bytes entry.0, entry.1)) xs) (string_bytes name) kind)
    by later true = refl
    by later false = ap (λ (rest : Entries). (string_bytes x.0, x.1) ∷ rest) later
