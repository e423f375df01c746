-- Sorts that stand in a row.
use Rattle.std.proofs.Common.{◌≡◌, ℕ, zero, suc, ◌+◌, ◌-◌, ◌<◌, ◌≤◌, Bool, true, false, eqb, List, ◌∷◌, ◌++◌, sym, ap, ◌∙◌, arith}
use Rattle.std.specs.Prelude.{◌||◌, ◌&&◌, nat_le, nat_lt}
use Rattle.decl_grammar.specs.Symbols.{numbers}
use Rattle.decl_grammar.specs.declared.symbol.Symbol.{Symbol}
use Rattle.decl_grammar.specs.Reading.{has, starts}
use Rattle.decl_grammar.proofs.OneToken.{has-cons, has-append, starts-append, or_left}

-- a number is from one on, and among this many
abbrev pub in_range : ℕ → ℕ → ℕ → Bool
in_range a k n = nat_le a n && nat_lt n (a + k)

range_zero : (a n : ℕ) → false ≡ in_range a zero n
range_zero a n = grind arith

range_suc : (a k n : ℕ) → (eqb n a || in_range (suc a) k n) ≡ in_range a (suc k) n
range_suc a k n = grind arith

pub has-numbers : (a k n : ℕ) → has (numbers a k) n ≡ in_range a k n
unfolding numbers
has-numbers a zero n = range_zero a n
has-numbers a (suc k) n = has-cons a (numbers (suc a) k) n ∙ (ap (λ (b : Bool). eqb n a || b) (has-numbers (suc a) k n) ∙ range_suc a k n)

pub has-both : (ks ls : List ℕ) (n : ℕ) → (has ks n || has ls n) ≡ has (ks ++ ls) n
has-both ks ls n = sym (has-append ks ls n)

pub has_one : (k : ℕ) (ks : List ℕ) (n : ℕ) → (eqb n k || has ks n) ≡ has (k ∷ ks) n
has_one k ks n = sym (has-cons k ks n)

range_is : (a k n : ℕ) (c : Bool) → c ≡ in_range a k n → c ≡ has (numbers a k) n
range_is a k n c e = e ∙ sym (has-numbers a k n)

pub range-true : (a k n : ℕ) → a ≤ n → n < a + k → has (numbers a k) n ≡ true
range-true a k n le lt = has-numbers a k n ∙ grind arith

pub range-low : (a k n : ℕ) → (a ≤ n → ⊥) → has (numbers a k) n ≡ false
range-low a k n le = has-numbers a k n ∙ grind arith

pub range-high : (a k n : ℕ) → (n < a + k → ⊥) → has (numbers a k) n ≡ false
range-high a k n lt = has-numbers a k n ∙ grind arith

pub range-below : (a k n : ℕ) → n < a → false ≡ has (numbers a k) n
range-below a k n lt = sym (range-low a k n (λ le. omega arith))

pub range-within : (a k n : ℕ) → a ≤ n → nat_lt (n - a) k ≡ has (numbers a k) n
range-within a k n lt = within_range a k n lt ∙ sym (has-numbers a k n)
  where
    within_range : (a k n : ℕ) → a ≤ n → nat_lt (n - a) k ≡ in_range a k n
    within_range a k n lt = grind arith

-- where the first sorts have a sort, all have it, and where they don't, the others tell
pub has_then : (ks ls : List ℕ) (n : ℕ) (r : Bool) → r ≡ has ks n → r ≡ true → r ≡ has (ks ++ ls) n
has_then ks ls n r e t = t ∙ sym (has-append ks ls n ∙ or_left (has ks n) (has ls n) (sym e ∙ t))

pub has_else : (ks ls : List ℕ) (n : ℕ) (r s : Bool) → r ≡ has ks n → r ≡ false → s ≡ has ls n → s ≡ has (ks ++ ls) n
has_else ks ls n r s e f g = g ∙ sym (has-append ks ls n ∙ ap (λ (b : Bool). b || has ls n) (sym e ∙ f))

pub starts_then : (ks ls : List ℕ) (ts : List Symbol) (r : Bool) → r ≡ starts ks ts → r ≡ true → r ≡ starts (ks ++ ls) ts
starts_then ks ls ts r e t = t ∙ sym (starts-append ks ls ts ∙ or_left (starts ks ts) (starts ls ts) (sym e ∙ t))

pub starts_else : (ks ls : List ℕ) (ts : List Symbol) (r s : Bool) → r ≡ starts ks ts → r ≡ false → s ≡ starts ls ts → s ≡ starts (ks ++ ls) ts
starts_else ks ls ts r s e f g = g ∙ sym (starts-append ks ls ts ∙ ap (λ (b : Bool). b || starts ls ts) (sym e ∙ f))
