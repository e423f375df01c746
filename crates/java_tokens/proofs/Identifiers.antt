-- The sorts of the characters of identifiers.
use Rattle.std.proofs.Common.{◌≡◌, ◌⊎◌, inl, inr, ◌&&◌, ◌||◌, eqb, ℕ, zero, suc, ◌<◌, ◌≤◌, Bool, true, false, refl, sym, ap, ◌∙◌, subst, arith}
use Rattle.std.proofs.lemmas.Bool.{false≢true, cases_lt}
use Rattle.std.proofs.lemmas.Bool.Decides.{Decides-eqb}
use Rattle.std.specs.Char.{is_ascii_alphabetic, is_ascii_alphanumeric}
use Rattle.unicode_ident.specs.Ident.{is_xid_start, is_xid_continue}
use Rattle.unicode_ident.proofs.IdentLemmas.{is_xid_start-ascii, is_xid_continue-ascii, is_xid_start-is_xid_continue}
use Rattle.apt_base.specs.Identifiers.{starts_identifier, continues_identifier}
use Rattle.java_tokens.specs.Forms.{among}
use Rattle.java_tokens.specs.Sorts.{sort_of, sort_in, sort_rows}
use Rattle.java_tokens.specs.Literals.{word_starts, word_parts}
use Rattle.java_tokens.proofs.TableLemmas.{both_true, alike, alike_is}
use Rattle.java_tokens.proofs.SortsLemmas.{letter_sort, part_sort, no_sort}

abbrev starts_fit : ℕ → Bool
starts_fit zero = true
starts_fit (suc n) = alike ((is_ascii_alphabetic n || eqb n 95) || eqb n 36) (among word_starts (sort_in sort_rows n)) && starts_fit n

abbrev parts_fit : ℕ → Bool
parts_fit zero = true
parts_fit (suc n) = alike ((is_ascii_alphanumeric n || eqb n 95) || eqb n 36) (among word_parts (sort_in sort_rows n)) && parts_fit n

starts_test : starts_fit 128 ≡ true
starts_test = refl

parts_test : parts_fit 128 ≡ true
parts_test = refl

starts_at : (n c : ℕ) → starts_fit n ≡ true → c < n → ((is_ascii_alphabetic c || eqb c 95) || eqb c 36) ≡ among word_starts (sort_in sort_rows c)
starts_at zero c e h = absurd (omega (arith, h))
starts_at (suc n) c e h = by_place (both_true (alike ((is_ascii_alphabetic n || eqb n 95) || eqb n 36) (among word_starts (sort_in sort_rows n))) (starts_fit n) e) (λ p. starts_at n c p) (cases_lt c n)
  where
    by_place : (alike ((is_ascii_alphabetic n || eqb n 95) || eqb n 36) (among word_starts (sort_in sort_rows n)) ≡ true) × (starts_fit n ≡ true) → (starts_fit n ≡ true → c < n → ((is_ascii_alphabetic c || eqb c 95) || eqb c 36) ≡ among word_starts (sort_in sort_rows c)) → (c < n) ⊎ (n ≤ c) → ((is_ascii_alphabetic c || eqb c 95) || eqb c 36) ≡ among word_starts (sort_in sort_rows c)
    by_place p later (inl less) = later p.1 less
    by_place p later (inr more) =
        let here : n ≡ c = omega (arith, h, more) in
        subst (λ m. ((is_ascii_alphabetic m || eqb m 95) || eqb m 36) ≡ among word_starts (sort_in sort_rows m)) here (alike_is _ _ p.0)

parts_at : (n c : ℕ) → parts_fit n ≡ true → c < n → ((is_ascii_alphanumeric c || eqb c 95) || eqb c 36) ≡ among word_parts (sort_in sort_rows c)
parts_at zero c e h = absurd (omega (arith, h))
parts_at (suc n) c e h = by_place (both_true (alike ((is_ascii_alphanumeric n || eqb n 95) || eqb n 36) (among word_parts (sort_in sort_rows n))) (parts_fit n) e) (λ p. parts_at n c p) (cases_lt c n)
  where
    by_place : (alike ((is_ascii_alphanumeric n || eqb n 95) || eqb n 36) (among word_parts (sort_in sort_rows n)) ≡ true) × (parts_fit n ≡ true) → (parts_fit n ≡ true → c < n → ((is_ascii_alphanumeric c || eqb c 95) || eqb c 36) ≡ among word_parts (sort_in sort_rows c)) → (c < n) ⊎ (n ≤ c) → ((is_ascii_alphanumeric c || eqb c 95) || eqb c 36) ≡ among word_parts (sort_in sort_rows c)
    by_place p later (inl less) = later p.1 less
    by_place p later (inr more) =
        let here : n ≡ c = omega (arith, h, more) in
        subst (λ m. ((is_ascii_alphanumeric m || eqb m 95) || eqb m 36) ≡ among word_parts (sort_in sort_rows m)) here (alike_is _ _ p.0)

plain : (r a b : Bool) → a ≡ false → b ≡ false → ((r || a) || b) ≡ r
plain true a b p q = refl
plain false a b p q = ap (λ x. x || b) p ∙ q

-- beyond ASCII
start_high : (c : ℕ) (s t : Bool) → 128 ≤ c → is_xid_start c ≡ s → is_xid_continue c ≡ t → s ≡ among word_starts (sort_of c)
start_high c true t h p q = ap (among word_starts) (letter_sort c h p)
start_high c false true h p q = ap (among word_starts) (part_sort c h p q)
start_high c false false h p q = ap (among word_starts) (no_sort c h p q)

part_high : (c : ℕ) (s t : Bool) → 128 ≤ c → (s ≡ true → t ≡ true) → is_xid_start c ≡ s → is_xid_continue c ≡ t → t ≡ among word_parts (sort_of c)
part_high c true true h both p q = ap (among word_parts) (letter_sort c h p)
part_high c true false h both p q = absurd (false≢true (both refl))
part_high c false true h both p q = ap (among word_parts) (part_sort c h p q)
part_high c false false h both p q = ap (among word_parts) (no_sort c h p q)

other : (c n : ℕ) → n < 128 → 128 ≤ c → eqb c n ≡ false
other c n low high = by_test (eqb c n) refl
  where
    by_test : (b : Bool) → eqb c n ≡ b → b ≡ false
    by_test true is = absurd (omega (arith, high, low, (Decides-eqb c n).0 is))
    by_test false is = refl

rows_sort : (c : ℕ) → sort_in sort_rows c ≡ sort_of c
unfolding sort_of
rows_sort c = refl

start_is : (c : ℕ) → ((is_xid_start c || eqb c 95) || eqb c 36) ≡ among word_starts (sort_of c)
start_is c = by_place (cases_lt c 128)
  where
    by_place : (c < 128) ⊎ (128 ≤ c) → ((is_xid_start c || eqb c 95) || eqb c 36) ≡ among word_starts (sort_of c)
    by_place (inl h) = ap (λ x. (x || eqb c 95) || eqb c 36) (is_xid_start-ascii c h) ∙ starts_at 128 c starts_test h ∙ ap (among word_starts) (rows_sort c)
    by_place (inr h) = plain (is_xid_start c) (eqb c 95) (eqb c 36) (other c 95 (omega arith) h) (other c 36 (omega arith) h) ∙ start_high c (is_xid_start c) (is_xid_continue c) h refl refl

-- a character begins a word of the forms exactly where it begins an identifier (JLS 3.8)
pub word_starts_are : (c : ℕ) → among word_starts (sort_of c) ≡ starts_identifier c
word_starts_are c = sym (start_is c)

or_false : (r b : Bool) → b ≡ false → (r || b) ≡ r
or_false true b e = refl
or_false false b e = e

part_is : (c : ℕ) → (is_xid_continue c || eqb c 36) ≡ among word_parts (sort_of c)
part_is c = by_place (cases_lt c 128)
  where
    by_place : (c < 128) ⊎ (128 ≤ c) → (is_xid_continue c || eqb c 36) ≡ among word_parts (sort_of c)
    by_place (inl h) = ap (λ x. x || eqb c 36) (is_xid_continue-ascii c h) ∙ parts_at 128 c parts_test h ∙ ap (among word_parts) (rows_sort c)
    by_place (inr h) = or_false (is_xid_continue c) (eqb c 36) (other c 36 (omega arith) h) ∙ part_high c (is_xid_start c) (is_xid_continue c) h (is_xid_start-is_xid_continue c) refl refl

-- it goes on with a word exactly where it goes on with an identifier
pub word_parts_are : (c : ℕ) → among word_parts (sort_of c) ≡ continues_identifier c
word_parts_are c = sym (part_is c)
