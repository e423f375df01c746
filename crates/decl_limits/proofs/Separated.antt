-- How many symbols of a list separate, by its parts.
use Rattle.std.proofs.Common.{◌≡◌, ℕ, suc, ◌+◌, Bool, true, cond, List, [], ◌∷◌, ◌++◌, refl, ap, ◌∙◌, arith}
use Rattle.std.proofs.lemmas.List.Sums.{sum_by-cons, sum_by-append}
use Rattle.decl_grammar.specs.declared.symbol.Symbol.{Symbol}
use Rattle.decl_grammar.specs.Symbols.{operator}
use Rattle.decl_grammar.specs.Reading.{has}
use Rattle.decl_limits.specs.Separators.{separating, separates, separators}

pub none-there : separators [] ≡ 0
unfolding separators
none-there = refl

pub first-there : (t : Symbol) (ts : List Symbol) → separators (t ∷ ts) ≡ cond (separates t) 1 0 + separators ts
unfolding separators
first-there t ts = sum_by-cons (λ (s : Symbol). cond (separates s) 1 0) t ts

pub both-there : (ts us vs : List Symbol) → ts ≡ us ++ vs → separators ts ≡ separators us + separators vs
unfolding separators
both-there ts us vs e = ap separators e ∙ sum_by-append (λ (s : Symbol). cond (separates s) 1 0) us vs

pub one-there : (t : Symbol) (ts : List Symbol) (n : ℕ) → has separating (operator n) ≡ true → t.sort ≡ operator n → separators (t ∷ ts) ≡ suc (separators ts)
one-there t ts n h e =
    omega (arith, first-there t ts, ap {B = ℕ} (λ (k : ℕ). cond (has separating k) 1 0) e, ap {B = ℕ} (λ (b : Bool). cond b 1 0) h)
