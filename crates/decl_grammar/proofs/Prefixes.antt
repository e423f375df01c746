-- Each front of what begins a phrase begins one, and so does each front of a phrase.
use Rattle.std.proofs.Common.{ℕ, List, ◌++◌, refl}
use Rattle.decl_grammar.specs.declared.symbol.Symbol.{Symbol}
use Rattle.decl_grammar.specs.Form.{Form}
use Rattle.decl_grammar.specs.Rule.{WholeAt, BegunAt}
use Rattle.decl_grammar.specs.File.{IsPhrase, BeginsPhrase}
use Rattle.decl_grammar.proofs.Heads.{Is-begins}
use Rattle.decl_grammar.proofs.Fronts.{Begins-front}
use Rattle.decl_grammar.proofs.Heights.{full-at, begins-at, fronts-at}

pub phrase-front : {A : Type 0} (f : Form A) (us vs : List Symbol) (n : ℕ) → BeginsPhrase f (us ++ vs) n → (j : ℕ) × BeginsPhrase f us j
phrase-front f us vs n b =
    let r = Begins-front (WholeAt b.0) (BegunAt b.0) (full-at b.0) (begins-at b.0) (fronts-at b.0) f (us ++ vs) us vs n refl b.1 in
    (r.0, (b.0, r.1))

pub reading-front : {A : Type 0} (f : Form A) (us vs : List Symbol) (x : A) → IsPhrase f (us ++ vs) x → (j : ℕ) × BeginsPhrase f us j
reading-front f us vs x is =
    let k = Is-begins (WholeAt is.0) (BegunAt is.0) (full-at is.0) (begins-at is.0) f (us ++ vs) x is.1 in
    phrase-front f us vs k.0 (is.0, k.1)
