-- Names, each once, as they are gathered one after another.
use Rattle.std.proofs.Common.{◌≡◌, ℕ, Bool, true, false, not, cond, ◌&&◌, ◌||◌, List, [], ◌∷◌, ◌++◌, map, filter, refl, sym, ap, ◌∙◌, append_assoc, append-nil, String}
use Rattle.std.specs.List.{list_any}
use Rattle.std.specs.Str.{bytes_eq}
use Rattle.std.specs.String.{string_bytes, string_eq}
use Rattle.std.specs.declared.alloc.Global.{Global}
use Rattle.std.proofs.lemmas.Slice.Eq.{bytes_eq-Decides}
use Rattle.std.proofs.lemmas.Bool.Decides.{same_from_decides}
use Rattle.std.proofs.lemmas.List.{map-append}
use Rattle.std.proofs.lemmas.List.Folds.{list_any-append}
use Rattle.indexmap.specs.IndexSet.{insert_key}
use Rattle.processor_claims.specs.Services.{each_once, with_name}

pub same_bytes : (a b : List ℕ) → bytes_eq a b ≡ true → a ≡ b
same_bytes a b = (bytes_eq-Decides a b).0

pub bytes_eq-turned : (a b : List ℕ) → bytes_eq a b ≡ bytes_eq b a
bytes_eq-turned a b = same_from_decides (bytes_eq a b) (bytes_eq b a) (bytes_eq-Decides a b) ((λ e. sym ((bytes_eq-Decides b a).0 e)), (λ e. (bytes_eq-Decides b a).1 (sym e)))

-- one filter over another
pub filter_both : {X : Type 0} (p q r : X → Bool) → ((x : X) → r x ≡ (q x && p x)) → (xs : List X) → filter r xs ≡ filter p (filter q xs)
filter_both p q r both [] = refl
filter_both {X} p q r both (x ∷ xs) = by (filter_both p q r both xs) (q x) refl
  where
    by : filter r xs ≡ filter p (filter q xs) → (b : Bool) → q x ≡ b → cond (r x) (x ∷ filter r xs) (filter r xs) ≡ filter p (cond (q x) (x ∷ filter q xs) (filter q xs))
    by later true e = rw (both x, e, later) refl
    by later false e = rw (both x, e) later

abbrev absent : List (List ℕ) → List ℕ → Bool
absent held other = not (list_any (bytes_eq other) held)

-- what is gathered, and what is still to come
pub gathered : List (List ℕ) → List (List ℕ) → List (List ℕ)
gathered held names = held ++ filter (absent held) (each_once names)

pub gathered-none : (held : List (List ℕ)) → gathered held [] ≡ held
unfolding gathered
gathered-none held = append-nil held

absent_here : (held : List (List ℕ)) (name : List ℕ) → list_any (bytes_eq name) held ≡ true → (other : List ℕ) → absent held other ≡ (not (bytes_eq name other) && absent held other)
absent_here held name there other = by (bytes_eq name other) refl
  where
    by : (b : Bool) → bytes_eq name other ≡ b → absent held other ≡ (not (bytes_eq name other) && absent held other)
    by false e = rw e refl
    by true e = rw (e, ← same_bytes name other e, there) refl

absent_more : (held : List (List ℕ)) (name other : List ℕ) → absent (held ++ name ∷ []) other ≡ (not (bytes_eq name other) && absent held other)
absent_more held name other =
    rw (list_any-append (bytes_eq other) held (name ∷ []), bytes_eq-turned other name) (by (list_any (bytes_eq other) held) (bytes_eq name other))
  where
    by : (a b : Bool) → not (a || (b || false)) ≡ (not b && not a)
    by true true = refl
    by true false = refl
    by false true = refl
    by false false = refl

pub gathered-more : (held : List (List ℕ)) (name : List ℕ) (names : List (List ℕ)) → gathered (with_name held name) names ≡ gathered held (name ∷ names)
unfolding gathered
gathered-more held name names = by (list_any (bytes_eq name) held) refl
  where
    by : (b : Bool) → list_any (bytes_eq name) held ≡ b
        → cond b held (held ++ name ∷ []) ++ filter (absent (cond b held (held ++ name ∷ []))) (each_once names)
        ≡ held ++ cond (not b) (name ∷ filter (absent held) (filter (λ other. not (bytes_eq name other)) (each_once names))) (filter (absent held) (filter (λ other. not (bytes_eq name other)) (each_once names)))
    by true e = ap (λ rest. held ++ rest) (filter_both (absent held) (λ other. not (bytes_eq name other)) (absent held) (absent_here held name e) (each_once names))
    by false e =
        append_assoc held (name ∷ []) (filter (absent (held ++ name ∷ [])) (each_once names))
        ∙ ap (λ rest. held ++ name ∷ rest) (filter_both (absent held) (λ other. not (bytes_eq name other)) (absent (held ++ name ∷ [])) (absent_more held name) (each_once names))

pub gathered-all : (names : List (List ℕ)) → gathered [] names ≡ each_once names
unfolding gathered
gathered-all names = all (each_once names)
  where
    all : (xs : List (List ℕ)) → filter (absent []) xs ≡ xs
    all [] = refl
    all (x ∷ xs) = ap (λ rest. x ∷ rest) (all xs)

-- whether a text is among those of a set, and an insertion into it, as they are seen
pub any-shown : (held : List (String Global)) (name : String Global) → list_any (string_eq name) held ≡ list_any (bytes_eq (string_bytes name)) (map string_bytes held)
any-shown [] name = refl
any-shown (x ∷ xs) name = ap (λ (b : Bool). string_eq name x || b) (any-shown xs name)

pub insert_key-shown : (held : List (String Global)) (name : String Global) → map string_bytes (insert_key string_eq held name) ≡ with_name (map string_bytes held) (string_bytes name)
insert_key-shown held name = rw (← any-shown held name) (by (list_any (string_eq name) held))
  where
    by : (b : Bool) → map string_bytes (cond b held (held ++ name ∷ [])) ≡ cond b (map string_bytes held) (map string_bytes held ++ string_bytes name ∷ [])
    by true = refl
    by false = map-append string_bytes held (name ∷ [])
