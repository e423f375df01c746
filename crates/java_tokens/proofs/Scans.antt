-- How the longest front that the table knows is found, character by character.
use Rattle.std.proofs.Common.{◌≡◌, ◌⊎◌, inl, inr, ℕ, ◌+◌, ◌<◌, ◌≤◌, List, [], ◌∷◌, ◌++◌, length, take, drop, map, get_or, Option, None, Some, MatchOption, refl, sym, ap, ◌∙◌, subst, arith, length-append}
use Rattle.std.proofs.lemmas.Bool.{cases_lt}
use Rattle.std.proofs.lemmas.List.{take_more, map_more, take-append-drop, take-take}
use Rattle.std.proofs.lemmas.Str.{length-encode, encodes-append}
use Rattle.std.specs.Char.{len_utf8}
use Rattle.std.specs.Prelude.{encode_utf8}
use Rattle.std.specs.Str.{encode_utf8_all}
use Rattle.java_tokens.specs.declared.automaton.Found.{Found}
use Rattle.java_tokens.specs.Sorts.{sort_of}
use Rattle.java_tokens.specs.Table.{after, class_at, run, state_of, class_of, bytes_of, IsUnknown, IsFound}
use Rattle.java_tokens.proofs.TableLemmas.{after_less, class_less, run-append, run_stuck}
use Rattle.java_tokens.proofs.TextKinds.{are_sorts}

abbrev pub Known : List ℕ → ℕ → Option Found → Type 0
Known cs n found = MatchOption found (IsUnknown cs n) (λ f. IsFound cs n f.width f.class)

-- this many characters were read
pub record IsScanned (cs : List ℕ) (n state width : ℕ) (found : Option Found) : Type 0 where
  pub within : n ≤ length cs
  pub low : state < 69
  pub state_is : state ≡ state_of (take n cs)
  pub wide : width ≡ bytes_of cs n
  pub found_is : Known cs n found

pub scanned_none : (cs : List ℕ) → IsScanned cs 0 0 0 None
scanned_none cs = record {
  within = omega arith;
  low = omega arith;
  state_is = refl;
  wide = refl;
  found_is = record { none = λ j less. let here : 0 ≡ j = omega (arith, less) in subst (λ i. class_of (take i cs) ≡ 7) here refl };
}

-- one character more
pub state_more : (cs : List ℕ) (n c : ℕ) → n < length cs → c ≡ get_or cs n c → state_of (take (n + 1) cs) ≡ after (state_of (take n cs)) (sort_of c)
state_more cs n c h is =
    ap (run 0) (map_more sort_of cs n c h ∙ ap (λ x. map sort_of (take n cs) ++ sort_of x ∷ []) (sym is)) ∙ run-append 0 (map sort_of (take n cs)) (sort_of c ∷ [])

pub bytes_more : (cs : List ℕ) (n c : ℕ) → n < length cs → c ≡ get_or cs n c → bytes_of cs (n + 1) ≡ bytes_of cs n + len_utf8 c
bytes_more cs n c h is =
    ap (λ x. length (encode_utf8_all x)) (take_more cs n c h ∙ ap (λ x. take n cs ++ x ∷ []) (sym is)) ∙ ap length (encodes-append (take n cs) (c ∷ []))
    ∙ length-append (encode_utf8_all (take n cs)) (encode_utf8 c ++ []) ∙ ap (λ m. bytes_of cs n + m) (length-append (encode_utf8 c) [] ∙ nothing (length (encode_utf8 c)) ∙ length-encode c)
  where
    nothing : (m : ℕ) → m + 0 ≡ m
    nothing m = omega arith

known_none : (cs : List ℕ) (n : ℕ) (found : Option Found) → class_of (take (n + 1) cs) ≡ 7 → Known cs n found → Known cs (n + 1) found
known_none cs n None e known = record { none = λ j less. by_place j (cases_lt j (n + 1)) less }
  where
    by_place : (j : ℕ) → (j < n + 1) ⊎ (n + 1 ≤ j) → j ≤ n + 1 → class_of (take j cs) ≡ 7
    by_place j (inl below) less = known.none j (omega (arith, below))
    by_place j (inr above) less = let here : n + 1 ≡ j = omega (arith, above, less) in subst (λ i. class_of (take i cs) ≡ 7) here e
known_none cs n (Some f) e (m, longest, wide) = (m, record { within = omega (arith, longest.within); known = longest.known; found = longest.found; past = λ j more less. by_place j (cases_lt j (n + 1)) more less }, wide)
  where
    by_place : (j : ℕ) → (j < n + 1) ⊎ (n + 1 ≤ j) → m < j → j ≤ n + 1 → class_of (take j cs) ≡ 7
    by_place j (inl below) more less = longest.past j more (omega (arith, below))
    by_place j (inr above) more less = let here : n + 1 ≡ j = omega (arith, above, less) in subst (λ i. class_of (take i cs) ≡ 7) here e

known_here : (cs : List ℕ) (n class width : ℕ) → class_of (take (n + 1) cs) ≡ class → class < 7 → width ≡ bytes_of cs (n + 1) → IsFound cs (n + 1) width class
known_here cs n class width e low wide = (n + 1, record { within = omega arith; known = low; found = e; past = λ j more less. absurd (omega (arith, more, less)) }, wide)

pub scanned_more : (cs : List ℕ) (n state width c state' width' : ℕ) (found found' : Option Found) → IsScanned cs n state width found → n < length cs → c ≡ get_or cs n c → state' ≡ after state (sort_of c) → width' ≡ width + len_utf8 c
    → ((class_at state' < 7) × (found' ≡ Some (record { width = width'; class = class_at state' }))) ⊎ ((7 ≤ class_at state') × (found' ≡ found)) → IsScanned cs (n + 1) state' width' found'
scanned_more cs n state width c state' width' found found' scanned h is state_is wide cases = record {
  within = omega (arith, h);
  low = subst (λ s. s < 69) (sym state_is) (after_less state (sort_of c));
  state_is = there;
  wide = here;
  found_is = by_cases cases;
}
  where
    there : state' ≡ state_of (take (n + 1) cs)
    there = state_is ∙ ap (λ s. after s (sort_of c)) scanned.state_is ∙ sym (state_more cs n c h is)

    here : width' ≡ bytes_of cs (n + 1)
    here = wide ∙ ap (λ w. w + len_utf8 c) scanned.wide ∙ sym (bytes_more cs n c h is)

    by_cases : ((class_at state' < 7) × (found' ≡ Some (record { width = width'; class = class_at state' }))) ⊎ ((7 ≤ class_at state') × (found' ≡ found)) → Known cs (n + 1) found'
    by_cases (inl (low, e)) = subst (Known cs (n + 1)) (sym e) (known_here cs n (class_at state') width' (ap class_at (sym there)) low here)
    by_cases (inr (high, e)) = subst (Known cs (n + 1)) (sym e) (known_none cs n found (let seven : class_at state' ≡ 7 = omega (arith, high, class_less state') in ap class_at (sym there) ∙ seven) scanned.found_is)

-- nothing longer has a class where the state is stuck
pub stuck_on : (cs : List ℕ) (n j : ℕ) → state_of (take (n + 1) cs) ≡ 4 → n + 1 ≤ j → class_of (take j cs) ≡ 7
stuck_on cs n j stuck less =
    let front : take j cs ≡ take (n + 1) cs ++ drop (n + 1) (take j cs) = sym (take-append-drop (n + 1) (take j cs)) ∙ ap (λ x. x ++ drop (n + 1) (take j cs)) (take-take (n + 1) j cs less) in
    let at : state_of (take j cs) ≡ 4 =
    ap (λ x. run 0 (map sort_of x)) front ∙ ap (run 0) (map_append (take (n + 1) cs) (drop (n + 1) (take j cs))) ∙ run-append 0 (map sort_of (take (n + 1) cs)) (map sort_of (drop (n + 1) (take j cs)))
    ∙ ap (λ s. run s (map sort_of (drop (n + 1) (take j cs)))) stuck ∙ run_stuck (map sort_of (drop (n + 1) (take j cs))) (are_sorts (drop (n + 1) (take j cs))) in
    ap class_at at
  where
    map_append : (xs ys : List ℕ) → map sort_of (xs ++ ys) ≡ map sort_of xs ++ map sort_of ys
    map_append [] ys = refl
    map_append (x ∷ xs) ys = ap (λ zs. sort_of x ∷ zs) (map_append xs ys)

known_all : (cs : List ℕ) (n : ℕ) (found : Option Found) → n ≤ length cs → ((j : ℕ) → n < j → j ≤ length cs → class_of (take j cs) ≡ 7) → Known cs n found → Known cs (length cs) found
known_all cs n None within later known = record { none = λ j less. by_place j (cases_lt n j) less }
  where
    by_place : (j : ℕ) → (n < j) ⊎ (j ≤ n) → j ≤ length cs → class_of (take j cs) ≡ 7
    by_place j (inl above) less = later j above less
    by_place j (inr below) less = known.none j below
known_all cs n (Some f) within later (m, longest, wide) = (m, record { within = omega (arith, longest.within, within); known = longest.known; found = longest.found; past = λ j more less. by_place j (cases_lt n j) more less }, wide)
  where
    by_place : (j : ℕ) → (n < j) ⊎ (j ≤ n) → m < j → j ≤ length cs → class_of (take j cs) ≡ 7
    by_place j (inl above) more less = later j above less
    by_place j (inr below) more less = longest.past j more below

pub scanned_stuck : (cs : List ℕ) (n state width c state' : ℕ) (found : Option Found) → IsScanned cs n state width found → n < length cs → c ≡ get_or cs n c → state' ≡ after state (sort_of c) → state' ≡ 4 → Known cs (length cs) found
scanned_stuck cs n state width c state' found scanned h is state_is stuck =
    let at : state_of (take (n + 1) cs) ≡ 4 = state_more cs n c h is ∙ ap (λ s. after s (sort_of c)) (sym scanned.state_is) ∙ sym state_is ∙ stuck in
    known_all cs n found scanned.within (λ j more less. stuck_on cs n j at (omega (arith, more))) scanned.found_is

pub scanned_all : (cs : List ℕ) (n state width : ℕ) (found : Option Found) → IsScanned cs n state width found → length cs ≤ n → Known cs (length cs) found
scanned_all cs n state width found scanned end = known_all cs n found scanned.within (λ j more less. absurd (omega (arith, more, less, end))) scanned.found_is

-- fronts take no more bytes than the whole
pub bytes_within : (cs : List ℕ) (n : ℕ) → bytes_of cs n ≤ length (encode_utf8_all cs)
bytes_within cs n =
    omega (arith, length-append (encode_utf8_all (take n cs)) (encode_utf8_all (drop n cs)), ap length (sym (encodes-append (take n cs) (drop n cs)) ∙ ap encode_utf8_all (take-append-drop n cs)))

pub scanned_fits : (cs : List ℕ) (n state width c : ℕ) (found : Option Found) → IsScanned cs n state width found → n < length cs → c ≡ get_or cs n c → width + len_utf8 c ≤ length (encode_utf8_all cs)
scanned_fits cs n state width c found scanned h is = omega (arith, scanned.wide, bytes_more cs n c h is, bytes_within cs (n + 1))
