-- The token or separator at the front of a text: there is at most one, and it is found or there is none.
use Rattle.std.proofs.Common.{◌≡◌, ◌≢◌, ◌⊎◌, inl, inr, ℕ, zero, suc, ◌<◌, ◌≤◌, Bool, true, false, List, [], ◌∷◌, ◌++◌, length, take, drop, codes, Option, None, Some, bytes_eq, refl, sym, ap, ◌∙◌, subst, arith, length-append}
use Rattle.std.proofs.lemmas.Bool.{false≢true, cases_lt}
use Rattle.std.proofs.lemmas.Slice.Eq.{bytes_eq-Decides}
use Rattle.std.proofs.lemmas.List.{take-append-drop, take_at, drop_at, length-take-le}
use Rattle.java_tokens.specs.declared.token.TokenKind.{TokenKind}
use Rattle.java_tokens.specs.declared.token.TokenKind.TheVariants.{Identifier, Reserved, Integer, Floating, Character, Text, TextBlock, Operator, Truth, Null}
use Rattle.java_tokens.specs.Tokens.{IsElement, Begins, IsNext, HasNoNext}
use Rattle.java_tokens.specs.Table.{is_text_block, kind_of, IsBest, HasNone}
use Rattle.java_tokens.proofs.TextKinds.{kind_of_element, element_of_kind, nothing_empty, nothing_sub}

abbrev Searched : List ℕ → ℕ → Type 0
Searched cs n = HasNone cs n ⊎ ((m : ℕ) × (k : Option TokenKind) × IsBest cs n m k)

search_step : (cs : List ℕ) (n : ℕ) (o : Option (Option TokenKind)) → kind_of (take (suc n) cs) ≡ o → Searched cs n → Searched cs (suc n)
search_step cs n (Some k) e before = inr (suc n, k, record { within = omega arith; found = e; past = λ j more less. absurd (omega (arith, more, less)) })
search_step cs n None e (inl none) = inl (record { none = λ j less. by_place j (cases_lt j (suc n)) less })
  where
    by_place : (j : ℕ) → (j < suc n) ⊎ (suc n ≤ j) → j ≤ suc n → kind_of (take j cs) ≡ None
    by_place j (inl below) less = none.none j (omega (arith, below))
    by_place j (inr above) less = let here : suc n ≡ j = omega (arith, above, less) in subst (λ i. kind_of (take i cs) ≡ None) here e
search_step cs n None e (inr (m, k, best)) = inr (m, k, record { within = omega (arith, best.within); found = best.found; past = λ j more less. by_place j (cases_lt j (suc n)) more less })
  where
    by_place : (j : ℕ) → (j < suc n) ⊎ (suc n ≤ j) → m < j → j ≤ suc n → kind_of (take j cs) ≡ None
    by_place j (inl below) more less = best.past j more (omega (arith, below))
    by_place j (inr above) more less = let here : suc n ≡ j = omega (arith, above, less) in subst (λ i. kind_of (take i cs) ≡ None) here e

searched : (cs : List ℕ) (n : ℕ) → Searched cs n
searched cs zero = inl (record { none = λ j less. let here : 0 ≡ j = omega (arith, less) in subst (λ i. kind_of (take i cs) ≡ None) here nothing_empty })
searched cs (suc n) = search_step cs n (kind_of (take (suc n) cs)) refl (searched cs n)

pub one_best : (cs : List ℕ) (n m m' : ℕ) (k k' : Option TokenKind) → IsBest cs n m k → IsBest cs n m' k' → (m ≡ m') × (k ≡ k')
one_best cs n m m' k k' a b = by_order (cases_lt m m') (cases_lt m' m)
  where
    clash : (j : ℕ) (x : Option TokenKind) → kind_of (take j cs) ≡ Some x → kind_of (take j cs) ≡ None → ⊥
    clash j x p q = cc

    by_order : (m < m') ⊎ (m' ≤ m) → (m' < m) ⊎ (m ≤ m') → (m ≡ m') × (k ≡ k')
    by_order (inl less) q = absurd (clash m' k' b.found (a.past m' less b.within))
    by_order (inr p) (inl less) = absurd (clash m k a.found (b.past m less a.within))
    by_order (inr p) (inr q) =
        let here : m ≡ m' = omega (arith, p, q) in
        let kinds : Some k ≡ Some k' = sym a.found ∙ ap (λ i. kind_of (take i cs)) here ∙ b.found in
        (here, cc)

pub front_taken : (cs front rest : List ℕ) → cs ≡ front ++ rest → front ≡ take (length front) cs
front_taken cs front rest split = sym (take_at front rest (length front) refl) ∙ ap (take (length front)) (sym split)

pub best_of_next : (cs front rest : List ℕ) (k : Option TokenKind) → IsNext cs front rest k → IsBest cs (length cs) (length front) k
best_of_next cs front rest k next = record {
  within = omega (arith, ap length next.split, length-append front rest);
  found = ap kind_of (sym (front_taken cs front rest next.split)) ∙ kind_of_element k front next.element;
  past = λ j more less. by_kind j (kind_of (take j cs)) refl more less;
}
  where
    by_kind : (j : ℕ) (o : Option (Option TokenKind)) → kind_of (take j cs) ≡ o → length front < j → j ≤ length cs → o ≡ None
    by_kind j None e more less = refl
    by_kind j (Some x) e more less =
        absurd (omega (arith, next.longest x (take j cs) (drop j cs) (sym (take-append-drop j cs)) (element_of_kind x (take j cs) e), length-take-le j cs less, more))

pub next_of_best : (cs : List ℕ) (m : ℕ) (k : Option TokenKind) → IsBest cs (length cs) m k → (Begins (codes "/*") cs → k ≡ None) → (Begins (codes "\"\"\"") cs → k ≡ Some TextBlock) → IsNext cs (take m cs) (drop m cs) k
next_of_best cs m k best comment block = record {
  split = sym (take-append-drop m cs);
  element = element_of_kind k (take m cs) best.found;
  longest = λ other longer after split is. by_order other longer after split is (cases_lt m (length longer));
  comment = comment;
  block = block;
}
  where
    by_order : (other : Option TokenKind) (longer after : List ℕ) → cs ≡ longer ++ after → IsElement other longer → (m < length longer) ⊎ (length longer ≤ m) → length longer ≤ length (take m cs)
    by_order other longer after split is (inr less) = omega (arith, less, length-take-le m cs best.within)
    by_order other longer after split is (inl more) =
        let p : kind_of longer ≡ None = ap kind_of (front_taken cs longer after split) ∙ best.past (length longer) more (omega (arith, ap length split, length-append longer after)) in
        let q : kind_of longer ≡ Some other = kind_of_element other longer is in
        absurd (cc)

pub no_next_none : (cs : List ℕ) → HasNone cs (length cs) → HasNoNext cs
no_next_none cs none = λ front rest k next.
    let best = best_of_next cs front rest k next in
    let p : kind_of (take (length front) cs) ≡ None = none.none (length front) best.within in
    let q : kind_of (take (length front) cs) ≡ Some k = best.found in
    cc

-- what begins a text has this kind, so it must be the only one
pub no_next_other : (cs : List ℕ) (m : ℕ) (k : Option TokenKind) → IsBest cs (length cs) m k → ((front rest : List ℕ) → ¬ IsNext cs front rest k) → HasNoNext cs
no_next_other cs m k best no_such = λ front rest x next.
    let one = one_best cs (length cs) (length front) m x k (best_of_next cs front rest x next) best in
    no_such front rest (subst (IsNext cs front rest) one.1 next)

pub text_block_is : (k : Option TokenKind) → is_text_block k ≡ true → k ≡ Some TextBlock
text_block_is None e = absurd (false≢true e)
text_block_is (Some Identifier) e = absurd (false≢true e)
text_block_is (Some (Reserved n)) e = absurd (false≢true e)
text_block_is (Some Integer) e = absurd (false≢true e)
text_block_is (Some Floating) e = absurd (false≢true e)
text_block_is (Some Character) e = absurd (false≢true e)
text_block_is (Some Text) e = absurd (false≢true e)
text_block_is (Some TextBlock) e = refl
text_block_is (Some (Operator n)) e = absurd (false≢true e)
text_block_is (Some Truth) e = absurd (false≢true e)
text_block_is (Some Null) e = absurd (false≢true e)

pub not_text_block : (k : Option TokenKind) → is_text_block k ≡ false → k ≢ Some TextBlock
not_text_block k e is = false≢true (sym e ∙ ap is_text_block is)

pub begins_taken : (front cs : List ℕ) → Begins front cs → take (length front) cs ≡ front
begins_taken front cs (rest, split) = ap (take (length front)) split ∙ take_at front rest (length front) refl

pub begins_of : (front cs : List ℕ) → take (length front) cs ≡ front → Begins front cs
begins_of front cs e = (drop (length front) cs, sym (take-append-drop (length front) cs) ∙ ap (λ x. x ++ drop (length front) cs) e)

begins_either : (front cs : List ℕ) → Begins front cs ⊎ (¬ Begins front cs)
begins_either front cs = by_test (bytes_eq (take (length front) cs) front) refl
  where
    by_test : (b : Bool) → bytes_eq (take (length front) cs) front ≡ b → Begins front cs ⊎ (¬ Begins front cs)
    by_test true e = inl (begins_of front cs ((bytes_eq-Decides (take (length front) cs) front).0 e))
    by_test false e = inr (λ b. false≢true (sym e ∙ (bytes_eq-Decides (take (length front) cs) front).1 (begins_taken front cs b)))

-- a text begins with a token or separator, or with none
abbrev pub Either : List ℕ → Type 0
Either cs = ((front : List ℕ) × (rest : List ℕ) × (k : Option TokenKind) × IsNext cs front rest k) ⊎ HasNoNext cs

pub next_either : (cs : List ℕ) → Either cs
next_either cs = by_search (searched cs (length cs))
  where
    by_block : (m : ℕ) (k : Option TokenKind) → IsBest cs (length cs) m k → (Begins (codes "/*") cs → k ≡ None) → Begins (codes "\"\"\"") cs ⊎ (¬ Begins (codes "\"\"\"") cs) → (b : Bool) → is_text_block k ≡ b → Either cs
    by_block m k best comment (inr other) b e = inl (take m cs, drop m cs, k, next_of_best cs m k best comment (λ begins. absurd (other begins)))
    by_block m k best comment (inl begins) true e = inl (take m cs, drop m cs, k, next_of_best cs m k best comment (λ _. text_block_is k e))
    by_block m k best comment (inl begins) false e = inr (no_next_other cs m k best (λ front rest next. not_text_block k e (next.block begins)))

    by_comment : (m : ℕ) (k : Option TokenKind) → IsBest cs (length cs) m k → Begins (codes "/*") cs ⊎ (¬ Begins (codes "/*") cs) → Either cs
    by_comment m k best (inr other) = by_block m k best (λ begins. absurd (other begins)) (begins_either (codes "\"\"\"") cs) (is_text_block k) refl
    by_comment m None best (inl begins) = by_block m None best (λ _. refl) (begins_either (codes "\"\"\"") cs) (is_text_block None) refl
    by_comment m (Some k) best (inl begins) = inr (no_next_other cs m (Some k) best (λ front rest next. absurd (let e = next.comment begins in cc)))

    by_search : Searched cs (length cs) → Either cs
    by_search (inl none) = inr (no_next_none cs none)
    by_search (inr (m, k, best)) = by_comment m k best (begins_either (codes "/*") cs)

-- at most one begins a text
pub one_next : (cs front rest front' rest' : List ℕ) (k k' : Option TokenKind) → IsNext cs front rest k → IsNext cs front' rest' k' → (front ≡ front') × (rest ≡ rest') × (k ≡ k')
one_next cs front rest front' rest' k k' a b =
    let one = one_best cs (length cs) (length front) (length front') k k' (best_of_next cs front rest k a) (best_of_next cs front' rest' k' b) in
    let fronts : front ≡ front' = front_taken cs front rest a.split ∙ ap (λ n. take n cs) one.0 ∙ sym (front_taken cs front' rest' b.split) in
    let rests : rest ≡ rest' = sym (drop_at front rest (length front) refl) ∙ ap (drop (length front)) (sym a.split ∙ b.split) ∙ ap (λ n. drop n (front' ++ rest')) one.0 ∙ drop_at front' rest' (length front') refl in
    (fronts, rests, one.1)

-- it has a character
pub next_some : (cs front rest : List ℕ) (k : Option TokenKind) → IsNext cs front rest k → 0 < length front
next_some cs front rest k next = by_front front next.element
  where
    by_front : (f : List ℕ) → IsElement k f → 0 < length f
    by_front [] is = absurd (let p : kind_of [] ≡ Some k = kind_of_element k [] is in let q : kind_of [] ≡ None = nothing_empty in cc)
    by_front (c ∷ cs) is = omega arith

pub no_next_empty : HasNoNext []
no_next_empty = λ front rest k next. omega (arith, next_some [] front rest k next, ap length next.split, length-append front rest)

pub no_next_sub : HasNoNext (26 ∷ [])
no_next_sub = λ front rest k next.
    let some = next_some (26 ∷ []) front rest k next in
    let all : length front ≡ 1 = omega (arith, some, ap length next.split, length-append front rest) in
    let is : front ≡ 26 ∷ [] = front_taken (26 ∷ []) front rest next.split ∙ ap (λ n. take n (26 ∷ [])) all in
    let p : kind_of (26 ∷ []) ≡ Some k = ap kind_of (sym is) ∙ kind_of_element k front next.element in
    let q : kind_of (26 ∷ []) ≡ None = nothing_sub in
    cc
