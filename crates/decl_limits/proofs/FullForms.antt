-- A phrase of a form that is never empty has a symbol, and so has each part of a row of such phrases.
use Rattle.std.proofs.Common.{◌≡◌, ℕ, ◌≤◌, false, true, List, [], ◌∷◌, length, refl, sym, ap, ◌∙◌, arith, length-append}
use Rattle.decl_grammar.specs.declared.symbol.Symbol.{Symbol}
use Rattle.decl_grammar.specs.Form.{Form, Each, Is, nullable}
use Rattle.decl_grammar.specs.Rule.{WholeAt}
use Rattle.decl_grammar.proofs.Heads.{Is-nil}
use Rattle.decl_grammar.proofs.Heights.{full-at}

no-both : true ≡ false → ⊥
no-both same = absurd cc

pub some-symbol : (h : ℕ) {A : Type 0} (f : Form A) → nullable f ≡ false → (ts : List Symbol) (x : A) → Is (WholeAt h) f ts x → 1 ≤ length ts
some-symbol h f never [] x is = absurd (no-both (sym (Is-nil (WholeAt h) (full-at h) f [] x refl is) ∙ never))
some-symbol h f never (t ∷ ts) x is = omega arith

pub row-symbols : (h : ℕ) {A : Type 0} (f : Form A) → nullable f ≡ false → (xs : List A) (ts : List Symbol) → Each (Is (WholeAt h) f) ts xs → length xs ≤ length ts
row-symbols h f never [] ts each = omega arith
row-symbols h f never (x ∷ xs) ts each =
    omega (arith, some-symbol h f never each.0 x each.3, row-symbols h f never xs each.1 each.4, ap length each.2 ∙ length-append each.0 each.1)
