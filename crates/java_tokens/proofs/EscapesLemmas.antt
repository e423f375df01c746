-- How an escape is told from its bytes.
use Rattle.std.proofs.Common.{◌≡◌, ◌≢◌, ◌⊎◌, ◌==◌, ℕ, zero, suc, ◌+◌, ◌*◌, ◌<◌, ◌≤◌, true, false, cond, eqb, List, [], ◌∷◌, ◌++◌, length, take, drop, get_or, replicate, take_while, refl, sym, ap, ◌∙◌, subst, inl, inr, arith, append_assoc, length-append, length-take-le}
use Rattle.std.specs.List.{prefix_len}
use Rattle.std.proofs.lemmas.Bool.{false_from_ne_true}
use Rattle.std.proofs.lemmas.Bool.Decides.{eqb_tells}
use Rattle.std.proofs.lemmas.List.{length-replicate, take-append-drop}
use Rattle.std.specs.Char.{digit_value}
use Rattle.java_tokens.specs.Escapes.{IsHex, HasEscape}

-- a list of four
pub four_of : (xs : List ℕ) → length xs ≡ 4 → xs ≡ get_or xs 0 0 ∷ get_or xs 1 0 ∷ get_or xs 2 0 ∷ get_or xs 3 0 ∷ []
four_of [] h = absurd (omega (arith, h))
four_of (a ∷ []) h = absurd (omega (arith, h))
four_of (a ∷ b ∷ []) h = absurd (omega (arith, h))
four_of (a ∷ b ∷ c ∷ []) h = absurd (omega (arith, h))
four_of (a ∷ b ∷ c ∷ d ∷ []) h = refl
four_of (a ∷ b ∷ c ∷ d ∷ e ∷ xs) h = absurd (omega (arith, h))

-- how many `u` bytes begin with
abbrev pub us_before : List ℕ → ℕ
us_before xs = prefix_len (λ b. b == 117) xs

us_within : (xs : List ℕ) → us_before xs ≤ length xs
us_within [] = omega arith
us_within (x ∷ xs) = elim (eqb x 117) as (λ b. cond b (1 + us_before xs) 0 ≤ length (x ∷ xs)) [ true ↦ omega (arith, us_within xs) | false ↦ omega arith ]

-- as many as a loop over them takes
pub us_taken : (xs : List ℕ) → length (take_while (λ b. b == 117) xs) ≡ us_before xs
us_taken xs = length-take-le (us_before xs) xs (us_within xs)

two_more : (n : ℕ) → 2 + n ≡ suc (suc n)
two_more n = omega arith

-- no digit is a `u`
no_digit : (a : ℕ) → digit_value a < 16 → (a == 117) ≡ false
no_digit a digit = false_from_ne_true _ (λ e. is_u (eqb_tells a 117) e)
  where
    is_u : ((eqb a 117 ≡ true) × (a ≡ 117)) ⊎ ((eqb a 117 ≡ false) × (a ≢ 117)) → (a == 117) ≡ true → ⊥
    is_u (inl same) e = let bad : digit_value 117 < 16 = subst (λ n. digit_value n < 16) same.1 digit in omega (arith, bad)
    is_u (inr other) e = cc

one_more : (n : ℕ) → 1 + n ≡ suc n
one_more n = omega arith

us_counted : (more a : ℕ) (rest : List ℕ) → (a == 117) ≡ false → us_before (replicate more 117 ++ a ∷ rest) ≡ more
us_counted zero a rest other = ap (λ b. cond b (1 + us_before rest) 0) other
us_counted (suc more) a rest other = ap (λ n. 1 + n) (us_counted more a rest other) ∙ one_more more

us_dropped : (more a : ℕ) (rest : List ℕ) → drop more (replicate more 117 ++ a ∷ rest) ≡ a ∷ rest
us_dropped zero a rest = refl
us_dropped (suc more) a rest = us_dropped more a rest

us_step : (x : ℕ) (xs : List ℕ) → ((eqb x 117 ≡ true) × (x ≡ 117)) ⊎ ((eqb x 117 ≡ false) × (x ≢ 117)) → xs ≡ replicate (us_before xs) 117 ++ drop (us_before xs) xs → x ∷ xs ≡ replicate (us_before (x ∷ xs)) 117 ++ drop (us_before (x ∷ xs)) (x ∷ xs)
us_step x xs (inl same) rest =
    let n : us_before (x ∷ xs) ≡ suc (us_before xs) = ap (λ b. cond b (1 + us_before xs) 0) same.0 ∙ one_more (us_before xs) in
    subst (λ k. x ∷ xs ≡ replicate k 117 ++ drop k (x ∷ xs)) (sym n) (ap (λ y. y ∷ xs) same.1 ∙ ap (λ ys. 117 ∷ ys) rest)
us_step x xs (inr other) rest =
    let n : us_before (x ∷ xs) ≡ 0 = ap (λ b. cond b (1 + us_before xs) 0) other.0 in
    subst (λ k. x ∷ xs ≡ replicate k 117 ++ drop k (x ∷ xs)) (sym n) refl

-- the `u` that bytes begin with
pub us_split : (xs : List ℕ) → xs ≡ replicate (us_before xs) 117 ++ drop (us_before xs) xs
us_split [] = refl
us_split (x ∷ xs) = us_step x xs (eqb_tells x 117) (us_split xs)

-- the digits of an escape
pub record Digits (bytes : List ℕ) (width value : ℕ) : Type 0 where
  pub first : get_or bytes 0 0 ≡ 92
  pub second : get_or bytes 1 0 ≡ 117
  pub long : 6 ≤ length bytes
  pub digits : List ℕ
  pub rest : List ℕ
  pub left : drop (2 + us_before (drop 2 bytes)) bytes ≡ digits ++ rest
  pub four : length digits ≡ 4
  pub hex : IsHex digits value
  pub wide : width ≡ us_before (drop 2 bytes) + 6

pub digits_of : (bytes : List ℕ) (width value : ℕ) → HasEscape bytes width value → Digits bytes width value
digits_of bytes width value (rest, spelling, split, wide, escape) =
    let m = escape.more in
    let h = escape.hex in
    let spelled : bytes ≡ 92 ∷ 117 ∷ (replicate m 117 ++ (escape.digits ++ rest)) = split ∙ ap (λ s. s ++ rest) escape.spelled ∙ ap (λ xs. 92 ∷ 117 ∷ xs) (append_assoc (replicate m 117) escape.digits rest) in
    let whole : bytes ≡ 92 ∷ 117 ∷ (replicate m 117 ++ h.a ∷ (h.b ∷ h.c ∷ h.d ∷ rest)) = spelled ∙ ap (λ ds. 92 ∷ 117 ∷ (replicate m 117 ++ (ds ++ rest))) h.four in
    let counted : us_before (drop 2 bytes) ≡ m = ap (λ bs. us_before (drop 2 bs)) whole ∙ us_counted m h.a (h.b ∷ h.c ∷ h.d ∷ rest) (no_digit h.a h.a_digit) in
    let long : length spelling ≡ 2 + (m + 4) = ap length escape.spelled ∙ sym (two_more (length (replicate m 117 ++ escape.digits))) ∙ ap (λ n. 2 + n) (length-append (replicate m 117) escape.digits ∙ ap (λ n. n + length escape.digits) (length-replicate {A = ℕ} m 117) ∙ ap (λ ds. m + length ds) h.four) in
    let all : length bytes ≡ length spelling + length rest = ap length split ∙ length-append spelling rest in
    record {
      first = ap (λ bs. get_or bs 0 0) whole;
      second = ap (λ bs. get_or bs 1 0) whole;
      long = omega (arith, long, all);
      digits = escape.digits;
      rest = rest;
      left = ap (λ n. drop (2 + n) bytes) counted ∙ ap (λ bs. drop (2 + m) bs) whole ∙ dropped m h.a (h.b ∷ h.c ∷ h.d ∷ rest) ∙ ap (λ ds. ds ++ rest) (sym h.four);
      four = ap length h.four;
      hex = h;
      wide = omega (arith, wide, long, counted);
    }
  where
    dropped : (m a : ℕ) (t : List ℕ) → drop (2 + m) (92 ∷ 117 ∷ (replicate m 117 ++ a ∷ t)) ≡ a ∷ t
    dropped m a t = ap (λ n. drop n (92 ∷ 117 ∷ (replicate m 117 ++ a ∷ t))) (two_more m) ∙ us_dropped m a t

same_value : (digits : List ℕ) (v w : ℕ) → IsHex digits v → IsHex digits w → v ≡ w
same_value digits v w h k =
    let same : h.a ∷ h.b ∷ h.c ∷ h.d ∷ [] ≡ k.a ∷ k.b ∷ k.c ∷ k.d ∷ [] = sym h.four ∙ k.four in
    h.sum ∙ ap (λ xs. ((digit_value (get_or xs 0 0) * 16 + digit_value (get_or xs 1 0)) * 16 + digit_value (get_or xs 2 0)) * 16 + digit_value (get_or xs 3 0)) same ∙ sym k.sum

front : (xs ys zs ws : List ℕ) → length xs ≡ 4 → length ys ≡ 4 → xs ++ zs ≡ ys ++ ws → xs ≡ ys
front xs ys zs ws p q e =
    four_of xs p ∙ ap (λ l. get_or l 0 0 ∷ get_or l 1 0 ∷ get_or l 2 0 ∷ get_or l 3 0 ∷ []) (ap (λ l. l) (taken xs zs p) ∙ ap (take 4) e ∙ sym (taken ys ws q)) ∙ sym (four_of ys q)
  where
    taken : (l r : List ℕ) → length l ≡ 4 → l ≡ take 4 (l ++ r)
    taken l r h = subst (λ k. k ≡ take 4 (k ++ r)) (sym (four_of l h)) refl

-- bytes begin with at most one escape
pub one_escape : (bytes : List ℕ) (w v w' v' : ℕ) → HasEscape bytes w v → HasEscape bytes w' v' → (w ≡ w') × (v ≡ v')
one_escape bytes w v w' v' h k =
    let p = digits_of bytes w v h in
    let q = digits_of bytes w' v' k in
    let same : p.digits ≡ q.digits = front p.digits q.digits p.rest q.rest p.four q.four (sym p.left ∙ q.left) in
    (p.wide ∙ sym q.wide, same_value q.digits v v' (subst (λ ds. IsHex ds v) same p.hex) q.hex)

-- the escape that was read
pub escape_read : (bytes : List ℕ) (value : ℕ) → 2 ≤ length bytes → get_or bytes 0 0 ≡ 92 → get_or bytes 1 0 ≡ 117 → 4 ≤ length (drop (2 + us_before (drop 2 bytes)) bytes) → IsHex (take 4 (drop (2 + us_before (drop 2 bytes)) bytes)) value → HasEscape bytes (us_before (drop 2 bytes) + 6) value
escape_read [] value two first second four hex = absurd (omega (arith, two))
escape_read (a ∷ []) value two first second four hex = absurd (omega (arith, two))
escape_read (a ∷ b ∷ xs) value two first second four hexes =
    let n = us_before xs in
    let hex : IsHex (take 4 (drop n xs)) value = subst (λ k. IsHex (take 4 (drop k (a ∷ b ∷ xs))) value) (two_more n) hexes in
    let digits = take 4 (drop n xs) in
    let rest = drop 4 (drop n xs) in
    let cut : drop n xs ≡ digits ++ rest = sym (take-append-drop 4 (drop n xs)) in
    let spelled : a ∷ b ∷ xs ≡ (92 ∷ 117 ∷ (replicate n 117 ++ digits)) ++ rest =
    ap (λ y. y ∷ b ∷ xs) first ∙ ap (λ y. 92 ∷ y ∷ xs) second ∙ ap (λ ys. 92 ∷ 117 ∷ ys) (us_split xs ∙ ap (λ ys. replicate n 117 ++ ys) cut ∙ sym (append_assoc (replicate n 117) digits rest)) in
    let long : length digits ≡ 4 = ap length hex.four in
    let wide : n + 6 ≡ length (92 ∷ 117 ∷ (replicate n 117 ++ digits)) = omega (arith, two_more (length (replicate n 117 ++ digits)), length-append (replicate n 117) digits, length-replicate {A = ℕ} n 117, long) in
    (rest, 92 ∷ 117 ∷ (replicate n 117 ++ digits), spelled, wide, record { more = n; digits = digits; spelled = refl; hex = hex })

-- the front of four of a list
pub taken_front : (l r : List ℕ) → length l ≡ 4 → l ≡ take 4 (l ++ r)
taken_front l r h = subst (λ k. k ≡ take 4 (k ++ r)) (sym (four_of l h)) refl
