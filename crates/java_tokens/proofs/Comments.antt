-- Where a comment at the front of a text ends.
use Rattle.std.proofs.Common.{◌≡◌, ◌≢◌, ◌⊎◌, inl, inr, ◌&&◌, ◌||◌, eqb, ℕ, zero, suc, ◌+◌, ◌<◌, ◌≤◌, Bool, true, false, List, [], ◌∷◌, ◌++◌, length, take, drop, map, get_or, codes, refl, sym, ap, ◌∙◌, subst, arith, length-append, length-drop}
use Rattle.std.proofs.lemmas.Bool.{cases_lt}
use Rattle.std.proofs.lemmas.Bool.Decides.{Decides-eqb}
use Rattle.std.proofs.lemmas.List.{take-append-drop, take_at, take_all, length-take-le, map-append, drop_more, get_or-append-add, get_or_append_left, get_or_at, get_or-take, get_or-drop, get_or_past}
use Rattle.std.proofs.lemmas.Str.{encode_ascii, length-encode, len_utf8_bounds, byte_from_char, char_from_byte, encodes-append, encodes-chars, IsUtf8-take, IsUtf8-drop, IsUtf8-past_char, IsCharBoundary-before_ascii, IsCharBoundary-end, chars-append, chars_past_char}
use Rattle.std.specs.Prelude.{encode_utf8}
use Rattle.std.specs.Str.{chars, IsUtf8, IsCharBoundary, encode_utf8_all}
use Rattle.memchr.specs.Find.{OccursAt}
use Rattle.unicode_ident.specs.Ident.{is_xid_start, is_xid_continue}
use Rattle.java_tokens.specs.declared.automaton.TheConstants.{ASCII_SORTS}
use Rattle.java_tokens.specs.Sorts.{sort_of}
use Rattle.java_tokens.specs.Table.{after, class_at, run, state_of, class_of, BeginsComment, IsLineLength, IsFound, IsUnknown}
use Rattle.java_tokens.proofs.TableLemmas.{both_true, run-append}
use Rattle.java_tokens.proofs.SortsLemmas.{ascii_sort, letter_sort, part_sort, no_sort}
use Rattle.java_tokens.proofs.TextKinds.{sort_less}
use Rattle.java_tokens.proofs.Scans.{state_more, stuck_on}
use Rattle.java_tokens.proofs.Ascii.{encodes_ascii}

-- ---- the states within a comment, by one character

abbrev all_under : (ℕ → Bool) → ℕ → Bool
all_under p zero = true
all_under p (suc n) = p n && all_under p n

under_at : (p : ℕ → Bool) (n c : ℕ) → all_under p n ≡ true → c < n → p c ≡ true
under_at p zero c e h = absurd (omega (arith, h))
under_at p (suc n) c e h = by_place (both_true (p n) (all_under p n) e) (λ rest. under_at p n c rest) (cases_lt c n)
  where
    by_place : (p n ≡ true) × (all_under p n ≡ true) → (all_under p n ≡ true → c < n → p c ≡ true) → (c < n) ⊎ (n ≤ c) → p c ≡ true
    by_place both later (inl less) = later both.1 less
    by_place both later (inr more) = let here : n ≡ c = omega (arith, h, more) in subst (λ m. p m ≡ true) here both.0

either_true : (a b : Bool) → (a || b) ≡ true → (a ≡ true) ⊎ (b ≡ true)
either_true true b e = inl refl
either_true false b e = inr e

abbrev ascii_after : ℕ → ℕ → ℕ
ascii_after state c = after state (get_or ASCII_SORTS c 0)

-- what is no line end goes on with a comment of one line
abbrev line_goes_on : ℕ → Bool
line_goes_on c = eqb c 13 || (eqb c 10 || eqb (ascii_after 23 c) 23)

line_test : all_under line_goes_on 128 ≡ true
line_test = refl

-- what is neither `*` nor `/` leads back to the state of `/*`
abbrev block_goes_on : ℕ → Bool
block_goes_on c = eqb c 42 || (eqb c 47 || (eqb (ascii_after 24 c) 24 && eqb (ascii_after 43 c) 24))

block_test : all_under block_goes_on 128 ≡ true
block_test = refl

-- behind the end of a block comment nothing goes on
end_test : all_under (λ k. eqb (after 10 k) 4) 26 ≡ true
end_test = refl

after_ascii : (state c : ℕ) → c < 128 → after state (sort_of c) ≡ ascii_after state c
after_ascii state c h = ap (after state) (sym (ascii_sort c h))

-- the characters beyond ASCII have three sorts
after_high : (state next c : ℕ) → after state 12 ≡ next → after state 13 ≡ next → after state 24 ≡ next → 128 ≤ c → after state (sort_of c) ≡ next
after_high state next c letter part other h = by_tests (is_xid_start c) (is_xid_continue c) refl refl
  where
    by_tests : (start more : Bool) → is_xid_start c ≡ start → is_xid_continue c ≡ more → after state (sort_of c) ≡ next
    by_tests true more e f = ap (after state) (sym (letter_sort c h e)) ∙ letter
    by_tests false true e f = ap (after state) (sym (part_sort c h e f)) ∙ part
    by_tests false false e f = ap (after state) (sym (no_sort c h e f)) ∙ other

line_step : (c : ℕ) → c ≢ 13 → c ≢ 10 → after 23 (sort_of c) ≡ 23
line_step c no_return no_feed = by_place (cases_lt c 128)
  where
    by_tests : c < 128 → (eqb c 13 ≡ true) ⊎ ((eqb c 10 || eqb (ascii_after 23 c) 23) ≡ true) → after 23 (sort_of c) ≡ 23
    by_tests low (inl e) = absurd (no_return ((Decides-eqb c 13).0 e))
    by_tests low (inr rest) = by_second (either_true (eqb c 10) (eqb (ascii_after 23 c) 23) rest)
      where
        by_second : (eqb c 10 ≡ true) ⊎ (eqb (ascii_after 23 c) 23 ≡ true) → after 23 (sort_of c) ≡ 23
        by_second (inl e) = absurd (no_feed ((Decides-eqb c 10).0 e))
        by_second (inr e) = after_ascii 23 c low ∙ (Decides-eqb (ascii_after 23 c) 23).0 e

    by_place : (c < 128) ⊎ (128 ≤ c) → after 23 (sort_of c) ≡ 23
    by_place (inl low) = by_tests low (either_true (eqb c 13) (eqb c 10 || eqb (ascii_after 23 c) 23) (under_at line_goes_on 128 c line_test low))
    by_place (inr high) = after_high 23 23 c refl refl refl high

-- ---- a line

abbrev pub NoLineEnd : List ℕ → Type 0
NoLineEnd bytes = (k : ℕ) → (get_or bytes k 0 ≢ 13) × (get_or bytes k 0 ≢ 10)

line_runs : (cs : List ℕ) → NoLineEnd (encode_utf8_all cs) → run 23 (map sort_of cs) ≡ 23
line_runs [] never = refl
line_runs (c ∷ cs) never =
    ap (λ s. run s (map sort_of cs))
    (line_step c (λ e. (never 0).0 (byte_from_char (encode_utf8_all (c ∷ cs)) (encode_utf8_all cs) c refl (omega (arith, e)) ∙ e))
    (λ e. (never 0).1 (byte_from_char (encode_utf8_all (c ∷ cs)) (encode_utf8_all cs) c refl (omega (arith, e)) ∙ e)))
    ∙ line_runs cs (λ k. (λ is. (never (length (encode_utf8 c) + k)).0 (get_or-append-add (encode_utf8 c) (encode_utf8_all cs) k 0 ∙ is), λ is. (never (length (encode_utf8 c) + k)).1 (get_or-append-add (encode_utf8 c) (encode_utf8_all cs) k 0 ∙ is)))

-- ---- a block

-- no `*` has a `/` behind it
abbrev pub NoEnd : List ℕ → Type 0
NoEnd bytes = (k : ℕ) → get_or bytes k 0 ≡ 42 → get_or bytes (k + 1) 0 ≢ 47

-- the state before these bytes: of `/*`, or of `/**` where no `/` is next
abbrev IsWithin : ℕ → List ℕ → Type 0
IsWithin state bytes = (state ≡ 24) ⊎ ((state ≡ 43) × (get_or bytes 0 0 ≢ 47))

first_of : (c : ℕ) (rest : List ℕ) → c < 128 → get_or (encode_utf8 c ++ rest) 0 0 ≡ c
first_of c rest low = byte_from_char (encode_utf8 c ++ rest) rest c refl low

second_of : (c : ℕ) (rest : List ℕ) → c < 128 → get_or (encode_utf8 c ++ rest) 1 0 ≡ get_or rest 0 0
second_of c rest low = ap (λ l. get_or (l ++ rest) 1 0) (encode_ascii c low)

block_step : (state c : ℕ) (rest : List ℕ) → IsWithin state (encode_utf8 c ++ rest) → NoEnd (encode_utf8 c ++ rest) → IsWithin (after state (sort_of c)) rest
block_step state c rest within never = by_place (cases_lt c 128) within
  where
    from : (s next : ℕ) → state ≡ s → after s (sort_of c) ≡ next → after state (sort_of c) ≡ next
    from s next is leads = ap (λ x. after x (sort_of c)) is ∙ leads

    star : c < 128 → c ≡ 42 → (s : ℕ) → state ≡ s → ascii_after s 42 ≡ 43 → IsWithin (after state (sort_of c)) rest
    star low e s is leads = inr (from s 43 is (after_ascii s c low ∙ ap (ascii_after s) e ∙ leads), λ slash. never 0 (first_of c rest low ∙ e) (second_of c rest low ∙ slash))

    slash : c < 128 → c ≡ 47 → IsWithin state (encode_utf8 c ++ rest) → IsWithin (after state (sort_of c)) rest
    slash low e (inl is) = inl (from 24 24 is (after_ascii 24 c low ∙ ap (ascii_after 24) e))
    slash low e (inr is) = absurd (is.1 (first_of c rest low ∙ e))

    by_last : c < 128 → (ascii_after 24 c ≡ 24) × (ascii_after 43 c ≡ 24) → IsWithin state (encode_utf8 c ++ rest) → IsWithin (after state (sort_of c)) rest
    by_last low both (inl is) = inl (from 24 24 is (after_ascii 24 c low ∙ both.0))
    by_last low both (inr is) = inl (from 43 24 is.0 (after_ascii 43 c low ∙ both.1))

    equal_both : (eqb (ascii_after 24 c) 24 ≡ true) × (eqb (ascii_after 43 c) 24 ≡ true) → (ascii_after 24 c ≡ 24) × (ascii_after 43 c ≡ 24)
    equal_both both = ((Decides-eqb (ascii_after 24 c) 24).0 both.0, (Decides-eqb (ascii_after 43 c) 24).0 both.1)

    by_second : c < 128 → (eqb c 47 ≡ true) ⊎ ((eqb (ascii_after 24 c) 24 && eqb (ascii_after 43 c) 24) ≡ true) → IsWithin state (encode_utf8 c ++ rest) → IsWithin (after state (sort_of c)) rest
    by_second low (inl e) w = slash low ((Decides-eqb c 47).0 e) w
    by_second low (inr e) w = by_last low (equal_both (both_true (eqb (ascii_after 24 c) 24) (eqb (ascii_after 43 c) 24) e)) w

    by_first : c < 128 → (eqb c 42 ≡ true) ⊎ ((eqb c 47 || (eqb (ascii_after 24 c) 24 && eqb (ascii_after 43 c) 24)) ≡ true) → IsWithin state (encode_utf8 c ++ rest) → IsWithin (after state (sort_of c)) rest
    by_first low (inl e) (inl is) = star low ((Decides-eqb c 42).0 e) 24 is refl
    by_first low (inl e) (inr is) = star low ((Decides-eqb c 42).0 e) 43 is.0 refl
    by_first low (inr e) w = by_second low (either_true (eqb c 47) (eqb (ascii_after 24 c) 24 && eqb (ascii_after 43 c) 24) e) w

    by_place : (c < 128) ⊎ (128 ≤ c) → IsWithin state (encode_utf8 c ++ rest) → IsWithin (after state (sort_of c)) rest
    by_place (inl low) w = by_first low (either_true (eqb c 42) (eqb c 47 || (eqb (ascii_after 24 c) 24 && eqb (ascii_after 43 c) 24)) (under_at block_goes_on 128 c block_test low)) w
    by_place (inr high) (inl is) = inl (from 24 24 is (after_high 24 24 c refl refl refl high))
    by_place (inr high) (inr is) = inl (from 43 24 is.0 (after_high 43 24 c refl refl refl high))

-- the same of what stands behind and in front
ends_behind : (xs ys : List ℕ) → NoEnd (xs ++ ys) → NoEnd ys
ends_behind xs ys never k star slash =
    let order : length xs + k + 1 ≡ length xs + (k + 1) = omega arith in
    never (length xs + k) (get_or-append-add xs ys k 0 ∙ star) (ap (λ i. get_or (xs ++ ys) i 0) order ∙ get_or-append-add xs ys (k + 1) 0 ∙ slash)

inside_of : (xs : List ℕ) (k c : ℕ) → get_or xs k 0 ≡ c → 0 < c → k < length xs
inside_of xs k c is some = by_place (cases_lt k (length xs))
  where
    by_place : (k < length xs) ⊎ (length xs ≤ k) → k < length xs
    by_place (inl less) = less
    by_place (inr past) = absurd (omega (arith, some, is, get_or_past xs k 0 past))

ends_front : (xs ys : List ℕ) → NoEnd (xs ++ ys) → NoEnd xs
ends_front xs ys never k star slash =
    never k (get_or_append_left xs ys 0 k (inside_of xs k 42 star (omega arith)) ∙ star) (get_or_append_left xs ys 0 (k + 1) (inside_of xs (k + 1) 47 slash (omega arith)) ∙ slash)

block_runs : (state : ℕ) (cs : List ℕ) → IsWithin state (encode_utf8_all cs) → NoEnd (encode_utf8_all cs) → (run state (map sort_of cs) ≡ 24) ⊎ (run state (map sort_of cs) ≡ 43)
block_runs state [] (inl e) never = inl e
block_runs state [] (inr e) never = inr e.0
block_runs state (c ∷ cs) within never = block_runs (after state (sort_of c)) cs (block_step state c (encode_utf8_all cs) within never) (ends_behind (encode_utf8 c) (encode_utf8_all cs) never)

-- ---- the front of a text that is a comment

-- the state that a text leads to has the class of separators, and nothing goes on from it
found_front : (cs front rest : List ℕ) (state : ℕ) → cs ≡ front ++ rest → state_of front ≡ state → class_at state ≡ 0 → ((c : ℕ) (more : List ℕ) → rest ≡ c ∷ more → after state (sort_of c) ≡ 4)
    → IsFound cs (length cs) (length (encode_utf8_all front)) 0
found_front cs front rest state is leads class ends = (
  length front,
  record {
    within = omega (arith, long);
    known = omega arith;
    found = ap class_of taken ∙ ap class_at leads ∙ class;
    past = λ j more less. by_rest rest refl j more less;
  },
  ap (λ t. length (encode_utf8_all t)) (sym taken),
)
  where
    long : length cs ≡ length front + length rest
    long = ap length is ∙ length-append front rest

    taken : take (length front) cs ≡ front
    taken = ap (take (length front)) is ∙ take_at front rest (length front) refl

    by_rest : (r : List ℕ) → rest ≡ r → (j : ℕ) → length front < j → j ≤ length cs → class_of (take j cs) ≡ 7
    by_rest [] e j more less = absurd (omega (arith, long, ap length e, more, less))
    by_rest (c ∷ r) e j more less =
        let here : c ≡ get_or cs (length front) c = sym (ap (λ t. get_or t (length front) c) (is ∙ ap (λ t. front ++ t) e) ∙ get_or_at front c r c (length front) refl) in
        let stuck : state_of (take (length front + 1) cs) ≡ 4 =
        state_more cs (length front) c (omega (arith, long, ap length e)) here ∙ ap (λ t. after (state_of t) (sort_of c)) taken ∙ ap (λ s. after s (sort_of c)) leads ∙ ends c r e in
        stuck_on cs (length front) j stuck (omega (arith, more))

-- ---- texts that begin with `/` and another byte

pub opened : (bs : List ℕ) (second : ℕ) → BeginsComment second bs → bs ≡ 47 ∷ second ∷ drop 2 bs
opened [] second begins = absurd (omega (arith, begins.0))
opened (x ∷ []) second begins = absurd (omega (arith, begins.0))
opened (x ∷ y ∷ bs) second begins = ap (λ a. a ∷ y ∷ bs) begins.1 ∙ ap (λ a. 47 ∷ a ∷ bs) begins.2

spelled : (c : ℕ) (rest : List ℕ) → c < 128 → c ∷ rest ≡ encode_utf8 c ++ rest
spelled c rest low = sym (ap (λ l. l ++ rest) (encode_ascii c low))

utf8_behind : (c : ℕ) (rest : List ℕ) → c < 128 → IsUtf8 (c ∷ rest) → IsUtf8 rest
utf8_behind c rest low utf8 = IsUtf8-past_char (c ∷ rest) rest c utf8 (spelled c rest low)

chars_behind : (c : ℕ) (rest : List ℕ) → c < 128 → IsUtf8 (c ∷ rest) → chars (c ∷ rest) ≡ c ∷ chars rest
chars_behind c rest low utf8 = chars_past_char (c ∷ rest) rest c utf8 (spelled c rest low)

both_behind : (second : ℕ) (b : List ℕ) → second < 128 → IsUtf8 (47 ∷ second ∷ b) → (chars (47 ∷ second ∷ b) ≡ 47 ∷ second ∷ chars b) × IsUtf8 b
both_behind second b low utf8 =
    let slash : 47 < 128 = omega arith in
    let tail = utf8_behind 47 (second ∷ b) slash utf8 in
    (chars_behind 47 (second ∷ b) slash utf8 ∙ ap (λ t. 47 ∷ t) (chars_behind second b low tail), utf8_behind second b low tail)

-- the state that the two lead to
begun : (second state : ℕ) (cs : List ℕ) → second < 128 → ascii_after 6 second ≡ state → state_of (47 ∷ second ∷ cs) ≡ run state (map sort_of cs)
begun second state cs low leads =
    let slash : 47 < 128 = omega arith in
    ap (λ s. run (after s (sort_of second)) (map sort_of cs)) (after_ascii 0 47 slash) ∙ ap (λ s. run s (map sort_of cs)) (after_ascii 6 second low ∙ leads)

-- ---- the two kinds of comments

line_text : (b : List ℕ) (n : ℕ) → IsUtf8 (47 ∷ 47 ∷ b) → IsCharBoundary b n → n ≤ length b → NoLineEnd (take n b) → (n < length b → (get_or b n 0 ≡ 13) ⊎ (get_or b n 0 ≡ 10))
    → IsFound (chars (47 ∷ 47 ∷ b)) (length (chars (47 ∷ 47 ∷ b))) (n + 2) 0
line_text b n utf8 boundary within never ends = subst (λ w. IsFound cs (length cs) w 0) wide (found_front cs front (chars (drop n b)) 23 split leads refl next)
  where
    slash : 47 < 128
    slash = omega arith

    parts : (chars (47 ∷ 47 ∷ b) ≡ 47 ∷ 47 ∷ chars b) × IsUtf8 b
    parts = both_behind 47 b slash utf8

    cs : List ℕ
    cs = chars (47 ∷ 47 ∷ b)

    utf8_front : IsUtf8 (take n b)
    utf8_front = IsUtf8-take b n parts.1 boundary

    front : List ℕ
    front = 47 ∷ 47 ∷ chars (take n b)

    split : cs ≡ front ++ chars (drop n b)
    split = parts.0 ∙ ap (λ t. 47 ∷ 47 ∷ t) (ap chars (sym (take-append-drop n b)) ∙ chars-append (take n b) (drop n b) utf8_front)

    leads : state_of front ≡ 23
    leads = begun 47 23 (chars (take n b)) slash refl ∙ line_runs (chars (take n b)) (subst NoLineEnd (sym (encodes-chars (take n b) utf8_front)) never)

    wide : length (encode_utf8_all front) ≡ n + 2
    wide =
        let two : length (encode_utf8_all (47 ∷ 47 ∷ [])) ≡ 2 = ap length (encodes_ascii (47 ∷ 47 ∷ []) refl) in
        omega (arith, two, ap length (encodes-append (47 ∷ 47 ∷ []) (chars (take n b))), length-append (encode_utf8_all (47 ∷ 47 ∷ [])) (encode_utf8_all (chars (take n b))), ap length (encodes-chars (take n b) utf8_front), length-take-le n b within)

    utf8_rest : IsUtf8 (drop n b)
    utf8_rest = IsUtf8-drop b n parts.1 boundary

    by_end : (c : ℕ) → c ≡ get_or b n 0 → (get_or b n 0 ≡ 13) ⊎ (get_or b n 0 ≡ 10) → after 23 (sort_of c) ≡ 4
    by_end c is (inl e) = let here : c ≡ 13 = is ∙ e in after_ascii 23 c (omega (arith, here)) ∙ ap (ascii_after 23) here
    by_end c is (inr e) = let here : c ≡ 10 = is ∙ e in after_ascii 23 c (omega (arith, here)) ∙ ap (ascii_after 23) here

    low_end : (get_or b n 0 ≡ 13) ⊎ (get_or b n 0 ≡ 10) → get_or b n 0 < 128
    low_end (inl e) = omega (arith, e)
    low_end (inr e) = omega (arith, e)

    next : (c : ℕ) (more : List ℕ) → chars (drop n b) ≡ c ∷ more → after 23 (sort_of c) ≡ 4
    next c more e =
        let spelling : drop n b ≡ encode_utf8 c ++ encode_utf8_all more = sym (encodes-chars (drop n b) utf8_rest) ∙ ap encode_utf8_all e in
        let some : 0 < length (drop n b) = omega (arith, ap length spelling, length-append (encode_utf8 c) (encode_utf8_all more), length-encode c, (len_utf8_bounds c).0) in
        let at : get_or (drop n b) 0 0 ≡ get_or b n 0 = get_or-drop n b 0 0 ∙ ap (λ i. get_or b i 0) (let same : n + 0 ≡ n = omega arith in same) in
        let end = ends (omega (arith, some, length-drop n b)) in
        by_end c (char_from_byte (drop n b) (encode_utf8_all more) c spelling (omega (arith, at, low_end end)) some ∙ at) end

-- what occurs nowhere before a place
no_end_before : (b : List ℕ) (n : ℕ) → n ≤ length b → ((k : ℕ) → k < n → ¬ OccursAt b (codes "*/") k) → NoEnd (take n b)
no_end_before b n within none k star slash =
    let taken : length (take n b) ≡ n = length-take-le n b within in
    let second : k + 1 < n = omega (arith, taken, inside_of (take n b) (k + 1) 47 slash (omega arith)) in
    let first_is : get_or b k 0 ≡ 42 = sym (get_or-take n b k 0 (omega (arith, second))) ∙ star in
    let second_is : get_or b (k + 1) 0 ≡ 47 = sym (get_or-take n b (k + 1) 0 second) ∙ slash in
    none k (omega (arith, second)) (record { fits = omega (arith, second, within); reads = λ j less. by_place j less first_is second_is })
  where
    by_place : (j : ℕ) → j < 2 → get_or b k 0 ≡ 42 → get_or b (k + 1) 0 ≡ 47 → get_or b (k + j) 0 ≡ get_or (codes "*/") j 0
    by_place zero less one two = let same : k + 0 ≡ k = omega arith in ap (λ i. get_or b i 0) same ∙ one
    by_place (suc zero) less one two = two
    by_place (suc (suc j)) less one two = absurd (omega (arith, less))

seam : (xs ys : List ℕ) → xs ++ 42 ∷ 47 ∷ ys ≡ (xs ++ 42 ∷ 47 ∷ []) ++ ys
seam [] ys = refl
seam (x ∷ xs) ys = ap (λ t. x ∷ t) (seam xs ys)

block_text : (b : List ℕ) (n : ℕ) → IsUtf8 (47 ∷ 42 ∷ b) → OccursAt b (codes "*/") n → ((k : ℕ) → k < n → ¬ OccursAt b (codes "*/") k) → IsFound (chars (47 ∷ 42 ∷ b)) (length (chars (47 ∷ 42 ∷ b))) (n + 4) 0
block_text b n utf8 occurs none = subst (λ w. IsFound cs (length cs) w 0) wide (found_front cs front (chars rest) 10 split leads refl next)
  where
    star : 42 < 128
    star = omega arith

    slash : 47 < 128
    slash = omega arith

    parts : (chars (47 ∷ 42 ∷ b) ≡ 47 ∷ 42 ∷ chars b) × IsUtf8 b
    parts = both_behind 42 b star utf8

    cs : List ℕ
    cs = chars (47 ∷ 42 ∷ b)

    star_at : get_or b n 0 ≡ 42
    star_at = let same : n ≡ n + 0 = omega arith in ap (λ i. get_or b i 0) same ∙ occurs.reads 0 (omega arith)

    slash_at : get_or b (n + 1) 0 ≡ 47
    slash_at = occurs.reads 1 (omega arith)

    fits : n + 2 ≤ length b
    fits = occurs.fits

    rest : List ℕ
    rest = drop (n + 1 + 1) b

    cut : drop n b ≡ 42 ∷ 47 ∷ rest
    cut = drop_more b n 0 (omega (arith, fits)) ∙ ap (λ c. c ∷ drop (n + 1) b) star_at ∙ ap (λ t. 42 ∷ t) (drop_more b (n + 1) 0 (omega (arith, fits)) ∙ ap (λ c. c ∷ rest) slash_at)

    boundary : IsCharBoundary b n
    boundary = IsCharBoundary-before_ascii b n (omega (arith, fits)) (omega (arith, star_at))

    middle : List ℕ
    middle = take n b

    utf8_middle : IsUtf8 middle
    utf8_middle = IsUtf8-take b n parts.1 boundary

    utf8_end : IsUtf8 (42 ∷ 47 ∷ rest)
    utf8_end = subst IsUtf8 cut (IsUtf8-drop b n parts.1 boundary)

    chars_end : chars (drop n b) ≡ 42 ∷ 47 ∷ chars rest
    chars_end = ap chars cut ∙ chars_behind 42 (47 ∷ rest) star utf8_end ∙ ap (λ t. 42 ∷ t) (chars_behind 47 rest slash (utf8_behind 42 (47 ∷ rest) star utf8_end))

    front : List ℕ
    front = 47 ∷ 42 ∷ (chars middle ++ 42 ∷ 47 ∷ [])

    split : cs ≡ front ++ chars rest
    split =
        parts.0 ∙ ap (λ t. 47 ∷ 42 ∷ t) (ap chars (sym (take-append-drop n b)) ∙ chars-append middle (drop n b) utf8_middle ∙ ap (λ t. chars middle ++ t) chars_end ∙ seam (chars middle) (chars rest))

    closed : (state : ℕ) → (state ≡ 24) ⊎ (state ≡ 43) → after (after state (sort_of 42)) (sort_of 47) ≡ 10
    closed state (inl e) = ap (λ s. after (after s (sort_of 42)) (sort_of 47)) e ∙ ap (λ s. after s (sort_of 47)) (after_ascii 24 42 star) ∙ after_ascii 43 47 slash
    closed state (inr e) = ap (λ s. after (after s (sort_of 42)) (sort_of 47)) e ∙ ap (λ s. after s (sort_of 47)) (after_ascii 43 42 star) ∙ after_ascii 43 47 slash

    never : NoEnd (encode_utf8_all (chars middle))
    never = subst NoEnd (sym (encodes-chars middle utf8_middle)) (no_end_before b n (omega (arith, fits)) none)

    leads : state_of front ≡ 10
    leads =
        begun 42 24 (chars middle ++ 42 ∷ 47 ∷ []) star refl ∙ ap (run 24) (map-append sort_of (chars middle) (42 ∷ 47 ∷ [])) ∙ run-append 24 (map sort_of (chars middle)) (sort_of 42 ∷ sort_of 47 ∷ [])
        ∙ closed (run 24 (map sort_of (chars middle))) (block_runs 24 (chars middle) (inl refl) never)

    wide : length (encode_utf8_all front) ≡ n + 4
    wide =
        let begin_two : length (encode_utf8_all (47 ∷ 42 ∷ [])) ≡ 2 = ap length (encodes_ascii (47 ∷ 42 ∷ []) refl) in
        let end_two : length (encode_utf8_all (42 ∷ 47 ∷ [])) ≡ 2 = ap length (encodes_ascii (42 ∷ 47 ∷ []) refl) in
        omega (arith, begin_two, end_two, ap length (encodes-append (47 ∷ 42 ∷ []) (chars middle ++ 42 ∷ 47 ∷ [])), length-append (encode_utf8_all (47 ∷ 42 ∷ [])) (encode_utf8_all (chars middle ++ 42 ∷ 47 ∷ [])), ap length (encodes-append (chars middle) (42 ∷ 47 ∷ [])), length-append (encode_utf8_all (chars middle)) (encode_utf8_all (42 ∷ 47 ∷ [])), ap length (encodes-chars middle utf8_middle), length-take-le n b (omega (arith, fits)))

    next : (c : ℕ) (more : List ℕ) → chars rest ≡ c ∷ more → after 10 (sort_of c) ≡ 4
    next c more e = (Decides-eqb (after 10 (sort_of c)) 4).0 (under_at (λ k. eqb (after 10 k) 4) 26 (sort_of c) end_test (sort_less c))

unclosed_text : (b : List ℕ) → IsUtf8 (47 ∷ 42 ∷ b) → ((k : ℕ) → k < length b → ¬ OccursAt b (codes "*/") k) → IsUnknown (chars (47 ∷ 42 ∷ b)) (length (chars (47 ∷ 42 ∷ b)))
unclosed_text b utf8 none = subst (λ cs. IsUnknown cs (length cs)) (sym parts.0) (record { none = λ j less. by_place j })
  where
    star : 42 < 128
    star = omega arith

    slash : 47 < 128
    slash = omega arith

    parts : (chars (47 ∷ 42 ∷ b) ≡ 47 ∷ 42 ∷ chars b) × IsUtf8 b
    parts = both_behind 42 b star utf8

    never : NoEnd b
    never = subst NoEnd (take_all (length b) b (omega arith)) (no_end_before b (length b) (omega arith) none)

    spelling : (j : ℕ) → b ≡ encode_utf8_all (take j (chars b)) ++ encode_utf8_all (drop j (chars b))
    spelling j = sym (encodes-chars b parts.1) ∙ ap encode_utf8_all (sym (take-append-drop j (chars b))) ∙ encodes-append (take j (chars b)) (drop j (chars b))

    by_state : (state : ℕ) → (state ≡ 24) ⊎ (state ≡ 43) → class_at state ≡ 7
    by_state state (inl e) = ap class_at e
    by_state state (inr e) = ap class_at e

    by_place : (j : ℕ) → class_of (take j (47 ∷ 42 ∷ chars b)) ≡ 7
    by_place zero = refl
    by_place (suc zero) = ap class_at (after_ascii 0 47 slash)
    by_place (suc (suc j)) =
        ap class_at (begun 42 24 (take j (chars b)) star refl)
        ∙ by_state (run 24 (map sort_of (take j (chars b)))) (block_runs 24 (take j (chars b)) (inl refl) (ends_front (encode_utf8_all (take j (chars b))) (encode_utf8_all (drop j (chars b))) (subst NoEnd (spelling j) never)))

-- ---- as the code meets them

no_line_end : (b : List ℕ) (n : ℕ) → IsLineLength b n → NoLineEnd (take n b)
no_line_end b n is k = by_place (cases_lt k n)
  where
    by_place : (k < n) ⊎ (n ≤ k) → (get_or (take n b) k 0 ≢ 13) × (get_or (take n b) k 0 ≢ 10)
    by_place (inl less) =
        let same : get_or (take n b) k 0 ≡ get_or b k 0 = get_or-take n b k 0 less in
        (λ e. (is.before k less).0 (sym same ∙ e), λ e. (is.before k less).1 (sym same ∙ e))
    by_place (inr more) =
        let nothing : get_or (take n b) k 0 ≡ 0 = get_or_past (take n b) k 0 (omega (arith, more, length-take-le n b is.within)) in
        (λ e. absurd (omega (arith, nothing, e)), λ e. absurd (omega (arith, nothing, e)))

line_boundary : (b : List ℕ) (n : ℕ) → IsLineLength b n → IsCharBoundary b n
line_boundary b n is = by_place (cases_lt n (length b))
  where
    low : (get_or b n 0 ≡ 13) ⊎ (get_or b n 0 ≡ 10) → get_or b n 0 < 128
    low (inl e) = omega (arith, e)
    low (inr e) = omega (arith, e)

    by_place : (n < length b) ⊎ (length b ≤ n) → IsCharBoundary b n
    by_place (inl less) = IsCharBoundary-before_ascii b n less (low (is.ends less))
    by_place (inr more) = let end : length b ≡ n = omega (arith, more, is.within) in subst (IsCharBoundary b) end (IsCharBoundary-end b)

pub line_comment_found : (bs : List ℕ) (n : ℕ) → IsUtf8 bs → BeginsComment 47 bs → IsLineLength (drop 2 bs) n → IsFound (chars bs) (length (chars bs)) (n + 2) 0
line_comment_found bs n utf8 begins is =
    let whole = opened bs 47 begins in
    subst (λ t. IsFound (chars t) (length (chars t)) (n + 2) 0) (sym whole)
    (line_text (drop 2 bs) n (subst IsUtf8 whole utf8) (line_boundary (drop 2 bs) n is) is.within (no_line_end (drop 2 bs) n is) is.ends)

pub block_comment_found : (bs : List ℕ) (n : ℕ) → IsUtf8 bs → BeginsComment 42 bs → OccursAt (drop 2 bs) (codes "*/") n → ((k : ℕ) → k < n → ¬ OccursAt (drop 2 bs) (codes "*/") k) → IsFound (chars bs) (length (chars bs)) (n + 4) 0
block_comment_found bs n utf8 begins occurs none =
    let is = opened bs 42 begins in
    subst (λ t. IsFound (chars t) (length (chars t)) (n + 4) 0) (sym is) (block_text (drop 2 bs) n (subst IsUtf8 is utf8) occurs none)

pub block_comment_unclosed : (bs : List ℕ) → IsUtf8 bs → BeginsComment 42 bs → ((k : ℕ) → k < length (drop 2 bs) → ¬ OccursAt (drop 2 bs) (codes "*/") k) → IsUnknown (chars bs) (length (chars bs))
block_comment_unclosed bs utf8 begins none =
    let is = opened bs 42 begins in
    subst (λ t. IsUnknown (chars t) (length (chars t))) (sym is) (unclosed_text (drop 2 bs) (subst IsUtf8 is utf8) none)
