-- How a walk over characters finds the place of one, and what offset it has.
use Rattle.std.proofs.Common.{◌≡◌, ◌≢◌, ℕ, zero, suc, ◌+◌, ◌-◌, ◌<◌, ◌≤◌, List, [], ◌∷◌, length, drop, get_or, option_map, None, Some, refl, sym, ap, ◌∙◌, arith, length-append}
use Rattle.std.proofs.lemmas.List.{drop_all}
use Rattle.std.proofs.lemmas.Option.{slice_get-map}
use Rattle.std.proofs.lemmas.Str.{length-encode}
use Rattle.std.specs.List.{slice_get}
use Rattle.std.specs.Char.{len_utf8}
use Rattle.std.specs.Str.{encode_utf8_all}
use Rattle.std.specs.Prelude.{encode_utf8}
use Rattle.java_tokens.specs.declared.shift.Shift.{Shift}
use Rattle.java_tokens.specs.CharsShown.{places_from, shift_at, offsets_of}

-- this many characters are behind, and the one that is wanted is this many further on
pub record IsWalked (cs : List ℕ) (k place left at : ℕ) : Type 0 where
  pub found : slice_get (places_from place (drop k cs)) left ≡ slice_get (places_from 0 cs) at
  pub bound : place + length (encode_utf8_all (drop k cs)) ≡ length (encode_utf8_all cs)

drop_next : (cs : List ℕ) (k c : ℕ) → k < length cs → c ≡ get_or cs k c → drop k cs ≡ c ∷ drop (k + 1) cs
drop_next [] k c h is = absurd (omega (arith, h))
drop_next (x ∷ cs) zero c h is = ap (λ y. y ∷ cs) (sym is)
drop_next (x ∷ cs) (suc k) c h is = drop_next cs k c (omega (arith, h)) is ∙ ap (λ n. c ∷ drop n (x ∷ cs)) (one_more k)
  where
    one_more : (n : ℕ) → suc (n + 1) ≡ suc n + 1
    one_more n = omega arith

pub walked_none : (cs : List ℕ) (at : ℕ) → IsWalked cs 0 0 at at
walked_none cs at = record { found = refl; bound = omega arith }

pub walked_here : (cs : List ℕ) (k place left at c : ℕ) → IsWalked cs k place left at → k < length cs → c ≡ get_or cs k c → left ≡ 0 → Some place ≡ slice_get (places_from 0 cs) at
walked_here cs k place left at c walked h is none =
    sym (ap (slice_get (places_from place (drop k cs))) none ∙ ap (λ xs. slice_get (places_from place xs) 0) (drop_next cs k c h is)) ∙ walked.found

pub walked_bound : (cs : List ℕ) (k place left at c : ℕ) → IsWalked cs k place left at → k < length cs → c ≡ get_or cs k c → place + len_utf8 c + length (encode_utf8_all (drop (k + 1) cs)) ≡ length (encode_utf8_all cs)
walked_bound cs k place left at c walked h is =
    omega (arith, walked.bound, ap (λ xs. length (encode_utf8_all xs)) (drop_next cs k c h is), length-append (encode_utf8 c) (encode_utf8_all (drop (k + 1) cs)), length-encode c)

pub walked_more : (cs : List ℕ) (k place left at c : ℕ) → IsWalked cs k place left at → k < length cs → c ≡ get_or cs k c → left ≢ 0 → IsWalked cs (k + 1) (place + len_utf8 c) (left - 1) at
walked_more cs k place left at c walked h is some = record {
  found =
      let one : left ≡ suc (left - 1) = omega (arith, some) in
      sym (ap (slice_get (places_from place (drop k cs))) one ∙ ap (λ xs. slice_get (places_from place xs) (suc (left - 1))) (drop_next cs k c h is)) ∙ walked.found;
  bound = walked_bound cs k place left at c walked h is;
}

pub walked_all : (cs : List ℕ) (k place left at : ℕ) → IsWalked cs k place left at → length cs ≤ k → None ≡ slice_get (places_from 0 cs) at
walked_all cs k place left at walked end = sym (ap (λ xs. slice_get (places_from place xs) left) (drop_all k cs end)) ∙ walked.found

-- the offset is the place, and what the shifts add
pub offset_found : (cs : List ℕ) (shifts : List Shift) (at place by : ℕ) → Some place ≡ slice_get (places_from 0 cs) at → by ≡ shift_at shifts place → Some (place + by) ≡ slice_get (offsets_of cs shifts) at
offset_found cs shifts at place by found is =
    ap (λ n. Some (place + n)) is ∙ ap (option_map (λ p. p + shift_at shifts p)) found ∙ sym (slice_get-map (λ p. p + shift_at shifts p) (places_from 0 cs) at)
