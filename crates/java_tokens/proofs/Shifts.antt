-- How shifts are looked up, and what one more of them changes.
use Rattle.std.proofs.Common.{◌≡◌, ◌≢◌, ℕ, zero, suc, ◌+◌, ◌-◌, ◌<◌, ◌≤◌, Bool, true, false, cond, leb, List, [], ◌∷◌, ◌++◌, length, map, get_or, refl, sym, ap, ◌∙◌, arith, length-append}
use Rattle.std.proofs.lemmas.Bool.{le-leb, lt-leb}
use Rattle.std.proofs.lemmas.Str.{length-encode, len_utf8_bounds}
use Rattle.std.specs.Prelude.{encode_utf8}
use Rattle.std.specs.Char.{len_utf8}
use Rattle.std.specs.List.{All}
use Rattle.std.specs.List.Sorted.{IsPartitionPoint}
use Rattle.std.specs.Str.{encode_utf8_all}
use Rattle.java_tokens.specs.declared.shift.Shift.{Shift}
use Rattle.java_tokens.specs.CharsShown.{places_from, shift_from, shift_at, AreWithin}

-- none of these shifts begins at or before a place
begun_none : (by : ℕ) (ss : List Shift) (place : ℕ) → ((k : ℕ) (d : Shift) → 0 ≤ k → k < length ss → leb (get_or ss k d).place place ≡ false) → shift_from by ss place ≡ by
begun_none by [] place later = refl
begun_none by (s ∷ ss) place later =
    ap (λ b. shift_from (cond b s.by by) ss place) (later 0 s (omega arith) (omega arith)) ∙ begun_none by ss place (λ k d low high. later (suc k) d (omega arith) (omega (arith, high)))

-- the last of them that does is this one
begun_some : (by : ℕ) (ss : List Shift) (place i : ℕ) (d : Shift) → i < length ss → ((k : ℕ) (e : Shift) → 0 ≤ k → k < suc i → leb (get_or ss k e).place place ≡ true)
    → ((k : ℕ) (e : Shift) → suc i ≤ k → k < length ss → leb (get_or ss k e).place place ≡ false) → shift_from by ss place ≡ (get_or ss i d).by
begun_some by [] place i d h begun later = absurd (omega (arith, h))
begun_some by (s ∷ ss) place zero d h begun later =
    ap (λ b. shift_from (cond b s.by by) ss place) (begun 0 s (omega arith) (omega arith)) ∙ begun_none s.by ss place (λ k e low high. later (suc k) e (omega (arith, low)) (omega (arith, high)))
begun_some by (s ∷ ss) place (suc i) d h begun later =
    begun_some (cond (leb s.place place) s.by by) ss place i d (omega (arith, h)) (λ k e low high. begun (suc k) e (omega arith) (omega (arith, high))) (λ k e low high. later (suc k) e (omega (arith, low)) (omega (arith, high)))

-- what a search finds
pub shift_none : (ss : List Shift) (place i : ℕ) → i ≡ 0 → IsPartitionPoint (λ s. leb s.place place ≡ true) (λ s. leb s.place place ≡ false) ss i → 0 ≡ shift_at ss place
shift_none ss place i none point = sym (begun_none 0 ss place (λ k d low high. point.1 k d (omega (arith, none, low)) high))

pub shift_some : (ss : List Shift) (place i : ℕ) (d : Shift) → i ≢ 0 → i ≤ length ss → IsPartitionPoint (λ s. leb s.place place ≡ true) (λ s. leb s.place place ≡ false) ss i → (get_or ss (i - 1) d).by ≡ shift_at ss place
shift_some ss place i d some h point =
    let one : suc (i - 1) ≡ i = omega (arith, some) in
    sym (begun_some 0 ss place (i - 1) d (omega (arith, h, some)) (λ k e low high. point.0 k e low (omega (arith, high, one))) (λ k e low high. point.1 k e (omega (arith, low, one)) high))

all_rest : (P : Shift → Type 0) (s : Shift) (ss : List Shift) → All P (s ∷ ss) → All P ss
all_rest P s ss all k d h = all (suc k) d (omega (arith, h))

-- no shift is further than the furthest
within_from : (most by : ℕ) (ss : List Shift) (place : ℕ) → by ≤ most → AreWithin most ss → shift_from by ss place ≤ most
within_from most by [] place h all = h
within_from most by (s ∷ ss) place h all = within_from most (cond (leb s.place place) s.by by) ss place (either (leb s.place place)) (all_rest (λ x. x.by ≤ most) s ss all)
  where
    either : (b : Bool) → cond b s.by by ≤ most
    either true = all 0 s (omega arith)
    either false = h

pub shift_within : (most : ℕ) (ss : List Shift) (place : ℕ) → AreWithin most ss → shift_at ss place ≤ most
shift_within most ss place all = within_from most 0 ss place (omega arith) all

-- behind the last of them all places are shifted alike
settled_from : (by : ℕ) (ss : List Shift) (place further : ℕ) → All (λ s. s.place ≤ place) ss → place ≤ further → shift_from by ss further ≡ shift_from by ss place
settled_from by [] place further all h = refl
settled_from by (s ∷ ss) place further all h =
    let here : s.place ≤ place = all 0 s (omega arith) in
    ap (λ b. shift_from (cond b s.by by) ss further) (le-leb s.place further (omega (arith, here, h)) ∙ sym (le-leb s.place place here)) ∙ settled_from (cond (leb s.place place) s.by by) ss place further (all_rest (λ x. x.place ≤ place) s ss all) h

pub shift_settled : (ss : List Shift) (place further : ℕ) → All (λ s. s.place ≤ place) ss → place ≤ further → shift_at ss further ≡ shift_at ss place
shift_settled ss place further all h = settled_from 0 ss place further all h

-- one more at the end
snoc_from : (by : ℕ) (ss : List Shift) (s : Shift) (place : ℕ) → shift_from by (ss ++ s ∷ []) place ≡ cond (leb s.place place) s.by (shift_from by ss place)
snoc_from by [] s place = refl
snoc_from by (x ∷ ss) s place = snoc_from (cond (leb x.place place) x.by by) ss s place

pub shift_before : (ss : List Shift) (s : Shift) (place : ℕ) → place < s.place → shift_at (ss ++ s ∷ []) place ≡ shift_at ss place
shift_before ss s place h = snoc_from 0 ss s place ∙ ap (λ b. cond b s.by (shift_at ss place)) (lt-leb s.place place h)

pub shift_behind : (ss : List Shift) (s : Shift) (place : ℕ) → s.place ≤ place → shift_at (ss ++ s ∷ []) place ≡ s.by
shift_behind ss s place h = snoc_from 0 ss s place ∙ ap (λ b. cond b s.by (shift_at ss place)) (le-leb s.place place h)

pub places_from-length : (place : ℕ) (cs : List ℕ) → length (places_from place cs) ≡ length cs
places_from-length place [] = refl
places_from-length place (c ∷ cs) = ap suc (places_from-length (place + len_utf8 c) cs)

-- the places of characters are before the end of their text
pub map_places : (f g : ℕ → ℕ) (end from : ℕ) (cs : List ℕ) → ((place : ℕ) → place < end → f place ≡ g place) → from + length (encode_utf8_all cs) ≤ end → map f (places_from from cs) ≡ map g (places_from from cs)
map_places f g end from [] same h = refl
map_places f g end from (c ∷ cs) same h =
    let wide : length (encode_utf8_all (c ∷ cs)) ≡ len_utf8 c + length (encode_utf8_all cs) = length-append (encode_utf8 c) (encode_utf8_all cs) ∙ ap (λ n. n + length (encode_utf8_all cs)) (length-encode c) in
    let some = len_utf8_bounds c in
    ap (λ x. x ∷ map f (places_from (from + len_utf8 c) cs)) (same from (omega (arith, h, wide, some.0))) ∙ ap (λ xs. g from ∷ xs) (map_places f g end (from + len_utf8 c) cs same (omega (arith, h, wide)))
