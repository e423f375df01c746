-- What rows have at their places, and what is found in them.
use Rattle.std.proofs.Common.{◌≡◌, ◌≢◌, ◌==◌, ℕ, zero, suc, ◌<◌, ◌&&◌, ◌⊎◌, is_none, Bool, true, false, cond, List, [], ◌∷◌, length, get_or, bytes_eq, Option, None, Some, is_some, MatchOption, refl, sym, ap, ◌∙◌, inl, inr, arith}
use Rattle.std.proofs.lemmas.Bool.{false_from_ne_true, false≢true}
use Rattle.std.proofs.lemmas.Bool.Decides.{Decides-eqb}
use Rattle.std.proofs.lemmas.Slice.Eq.{bytes_eq-Decides}
use Rattle.case_table.specs.Rows.{Row, shown, text_at, number_at, number_of, text_of, LacksText, HasText, Clash, IsTable, is_table}

-- what a read past the last row gives
abbrev pub no_row : Row
no_row = (record { ref_ptr = (0, 0); now = [] }, 0)

-- the text that is read at a place
pub text_at-read : (rows : List Row) (k : ℕ) (d : Row) → k < length rows → text_at rows k ≡ (get_or rows k d).0.now
text_at-read [] k d h = absurd (omega (arith, h))
text_at-read (r ∷ rs) zero d h = refl
text_at-read (r ∷ rs) (suc k) d h = text_at-read rs k d (omega (arith, h))

-- the number that is read at a place
pub number_at-read : (rows : List Row) (k : ℕ) (d : Row) → k < length rows → number_at rows k ≡ (get_or rows k d).1
number_at-read [] k d h = absurd (omega (arith, h))
number_at-read (r ∷ rs) zero d h = refl
number_at-read (r ∷ rs) (suc k) d h = number_at-read rs k d (omega (arith, h))

differs : (x y : List ℕ) → x ≢ y → bytes_eq x y ≡ false
differs x y ne = false_from_ne_true _ (λ e. ne ((bytes_eq-Decides x y).0 e))

other : (m n : ℕ) → m ≢ n → (m == n) ≡ false
other m n ne = false_from_ne_true _ (λ e. ne ((Decides-eqb m n).0 e))

-- a text that no row has isn't found
pub number_of-none : (rows : List Row) (word : List ℕ) → LacksText rows (length rows) word → number_of (shown rows) word ≡ None
number_of-none [] word lacks = refl
number_of-none (r ∷ rs) word lacks =
    ap (λ b. cond b (Some r.1) (number_of (shown rs) word)) (differs r.0.now word (lacks 0 (omega arith)))
    ∙ number_of-none rs word (λ k h. lacks (suc k) (omega (arith, h)))

-- the number of the one row that has a text
pub number_of-some : (rows : List Row) (word : List ℕ) (k : ℕ) → k < length rows → text_at rows k ≡ word → ((i j : ℕ) → i < j → j < length rows → text_at rows i ≢ text_at rows j) → number_of (shown rows) word ≡ Some (number_at rows k)
number_of-some [] word k h is apart = absurd (omega (arith, h))
number_of-some (r ∷ rs) word zero h is apart = ap (λ b. cond b (Some r.1) (number_of (shown rs) word)) ((bytes_eq-Decides r.0.now word).1 is)
number_of-some (r ∷ rs) word (suc k) h is apart =
    ap (λ b. cond b (Some r.1) (number_of (shown rs) word)) (differs r.0.now word (λ e. apart 0 (suc k) (omega arith) h (e ∙ sym is)))
    ∙ number_of-some rs word k (omega (arith, h)) is (λ i j less within. apart (suc i) (suc j) (omega (arith, less)) (omega (arith, within)))

-- a number that no row has isn't found
pub text_of-none : (rows : List Row) (number : ℕ) → ((k : ℕ) → k < length rows → number_at rows k ≢ number) → text_of (shown rows) number ≡ None
text_of-none [] number lacks = refl
text_of-none (r ∷ rs) number lacks =
    ap (λ b. cond b (Some r.0.now) (text_of (shown rs) number)) (other r.1 number (lacks 0 (omega arith)))
    ∙ text_of-none rs number (λ k h. lacks (suc k) (omega (arith, h)))

-- the text of the one row that has a number
pub text_of-some : (rows : List Row) (number k : ℕ) → k < length rows → number_at rows k ≡ number → ((i j : ℕ) → i < j → j < length rows → number_at rows i ≢ number_at rows j) → text_of (shown rows) number ≡ Some (text_at rows k)
text_of-some [] number k h is apart = absurd (omega (arith, h))
text_of-some (r ∷ rs) number zero h is apart = ap (λ b. cond b (Some r.0.now) (text_of (shown rs) number)) ((Decides-eqb r.1 number).1 is)
text_of-some (r ∷ rs) number (suc k) h is apart =
    ap (λ b. cond b (Some r.0.now) (text_of (shown rs) number)) (other r.1 number (λ e. apart 0 (suc k) (omega arith) h (e ∙ sym is)))
    ∙ text_of-some rs number k (omega (arith, h)) is (λ i j less within. apart (suc i) (suc j) (omega (arith, less)) (omega (arith, within)))

-- a text that was found before its row clashes with it
pub clash_found : (o : Option ℕ) (rows : List Row) (i : ℕ) (word : List ℕ) → is_some o ≡ true → MatchOption o (LacksText rows i word) (HasText rows i word) → text_at rows i ≡ word → i < length rows → Clash rows
clash_found None rows i word some found is below = absurd (false≢true some)
clash_found (Some k) rows i word some found is below = (k, i, found.0, below, inl (found.1 ∙ sym is))

-- a text that wasn't found
pub lacks_found : (o : Option ℕ) (rows : List Row) (i : ℕ) (word : List ℕ) → is_some o ≡ false → MatchOption o (LacksText rows i word) (HasText rows i word) → LacksText rows i word
lacks_found None rows i word none found = found
lacks_found (Some k) rows i word none found = absurd (false≢true (sym none))

both : (a b : Bool) → a ≡ true → b ≡ true → (a && b) ≡ true
both true b p q = q
both false b p q = absurd (false≢true p)

first : (a b : Bool) → (a && b) ≡ true → a ≡ true
first true b p = refl
first false b p = p

second : (a b : Bool) → (a && b) ≡ true → b ≡ true
second true b p = p
second false b p = absurd (false≢true p)

text_step : (r : Row) (rs : List Row) (word : List ℕ) (b : Bool) → bytes_eq r.0.now word ≡ b → is_none (number_of (shown (r ∷ rs)) word) ≡ true → (is_none (number_of (shown rs) word) ≡ true → LacksText rs (length rs) word) → LacksText (r ∷ rs) (length (r ∷ rs)) word
text_step r rs word true is none rest k h = absurd (false≢true (ap (λ c. is_none (cond c (Some r.1) (number_of (shown rs) word))) (sym is) ∙ none))
text_step r rs word false is none rest zero h = λ e. false≢true (sym is ∙ (bytes_eq-Decides r.0.now word).1 e)
text_step r rs word false is none rest (suc k) h = rest (ap (λ c. is_none (cond c (Some r.1) (number_of (shown rs) word))) (sym is) ∙ none) k (omega (arith, h))

-- a text that isn't found has no row
lacks_text : (rows : List Row) (word : List ℕ) → is_none (number_of (shown rows) word) ≡ true → LacksText rows (length rows) word
lacks_text [] word none = λ k h. absurd (omega (arith, h))
lacks_text (r ∷ rs) word none = text_step r rs word (bytes_eq r.0.now word) refl none (lacks_text rs word)

number_step : (r : Row) (rs : List Row) (number : ℕ) (b : Bool) → (r.1 == number) ≡ b → is_none (text_of (shown (r ∷ rs)) number) ≡ true → (is_none (text_of (shown rs) number) ≡ true → (k : ℕ) → k < length rs → number_at rs k ≢ number) → (k : ℕ) → k < length (r ∷ rs) → number_at (r ∷ rs) k ≢ number
number_step r rs number true is none rest k h = absurd (false≢true (ap (λ c. is_none (cond c (Some r.0.now) (text_of (shown rs) number))) (sym is) ∙ none))
number_step r rs number false is none rest zero h = λ e. false≢true (sym is ∙ (Decides-eqb r.1 number).1 e)
number_step r rs number false is none rest (suc k) h = rest (ap (λ c. is_none (cond c (Some r.0.now) (text_of (shown rs) number))) (sym is) ∙ none) k (omega (arith, h))

-- a number that isn't found has no row
lacks_number : (rows : List Row) (number : ℕ) → is_none (text_of (shown rows) number) ≡ true → (k : ℕ) → k < length rows → number_at rows k ≢ number
lacks_number [] number none = λ k h. absurd (omega (arith, h))
lacks_number (r ∷ rs) number none = number_step r rs number (r.1 == number) refl none (lacks_number rs number)

-- the test passes exactly a table
pub is_table-true : (rows : List Row) → IsTable rows → is_table (shown rows) ≡ true
is_table-true [] table = refl
is_table-true (r ∷ rs) table = both _ _
    (ap is_none (number_of-none rs r.0.now (λ k h e. table.texts 0 (suc k) (omega arith) (omega (arith, h)) (sym e))))
    (both _ _ (ap is_none (text_of-none rs r.1 (λ k h e. table.numbers 0 (suc k) (omega arith) (omega (arith, h)) (sym e))))
    (is_table-true rs (record {
      texts = λ i j less within. table.texts (suc i) (suc j) (omega (arith, less)) (omega (arith, within));
      numbers = λ i j less within. table.numbers (suc i) (suc j) (omega (arith, less)) (omega (arith, within));
    })))

table_step : (r : Row) (rs : List Row) → LacksText rs (length rs) r.0.now → ((k : ℕ) → k < length rs → number_at rs k ≢ r.1) → IsTable rs → IsTable (r ∷ rs)
table_step r rs no_text no_number rest = record { texts = texts; numbers = numbers }
  where
    texts : (i j : ℕ) → i < j → j < length (r ∷ rs) → text_at (r ∷ rs) i ≢ text_at (r ∷ rs) j
    texts i zero less within = absurd (omega (arith, less))
    texts zero (suc j) less within = λ e. no_text j (omega (arith, within)) (sym e)
    texts (suc i) (suc j) less within = rest.texts i j (omega (arith, less)) (omega (arith, within))

    numbers : (i j : ℕ) → i < j → j < length (r ∷ rs) → number_at (r ∷ rs) i ≢ number_at (r ∷ rs) j
    numbers i zero less within = absurd (omega (arith, less))
    numbers zero (suc j) less within = λ e. no_number j (omega (arith, within)) (sym e)
    numbers (suc i) (suc j) less within = rest.numbers i j (omega (arith, less)) (omega (arith, within))

pub IsTable-from_test : (rows : List Row) → is_table (shown rows) ≡ true → IsTable rows
IsTable-from_test [] passed = record { texts = λ i j less within. absurd (omega (arith, within)); numbers = λ i j less within. absurd (omega (arith, within)) }
IsTable-from_test (r ∷ rs) passed =
    let after = second (is_none (number_of (shown rs) r.0.now)) _ passed in
    table_step r rs (lacks_text rs r.0.now (first (is_none (number_of (shown rs) r.0.now)) _ passed)) (lacks_number rs r.1 (first (is_none (text_of (shown rs) r.1)) _ after)) (IsTable-from_test rs (second (is_none (text_of (shown rs) r.1)) _ after))

-- rows that clash don't pass it
pub is_table-clash : (rows : List Row) → Clash rows → is_table (shown rows) ≡ false
is_table-clash rows (i, j, less, within, same) = false_from_ne_true _ (λ passed. refuted same (IsTable-from_test rows passed))
  where
    refuted : (text_at rows i ≡ text_at rows j) ⊎ (number_at rows i ≡ number_at rows j) → IsTable rows → ⊥
    refuted (inl e) table = table.texts i j less within e
    refuted (inr e) table = table.numbers i j less within e
