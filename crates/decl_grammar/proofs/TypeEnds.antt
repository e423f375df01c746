-- Of the two readings behind a name neither goes on where the other one is whole; and forms in which nothing counts.
use Rattle.std.proofs.Common.{◌≡◌, ℕ, Bool, true, false, List, [], ◌∷◌, ◌++◌, refl, inl, inr}
use Rattle.std.specs.Prelude.{◌&&◌}
use Rattle.decl_grammar.specs.declared.symbol.Symbol.{Symbol}
use Rattle.decl_grammar.specs.Symbols.{operator}
use Rattle.decl_grammar.specs.TokenNames as token
use Rattle.decl_grammar.specs.Form.{Stands, Freedom, Rest, alone, paired, listed, defaulted, assigned, between, colons, one_of, type_reference, Form, terminal, pair, turn, maybe, many, either, seen, nest, over, attempt, Wholes, Begun, Is, Begins}
use Rattle.decl_grammar.specs.Expressions.{part_symbols, step}
use Rattle.decl_grammar.proofs.OneToken.{both}
use Rattle.decl_grammar.proofs.Heights.{Whole, Started}
use Rattle.decl_grammar.proofs.Effects.{in_brackets, effect, closing, last_end}
use Rattle.decl_grammar.proofs.Closed.{ends-there}

-- ---- forms in which nothing counts

abbrev pub flat : {A : Type 0} → Form A → Bool
flat (terminal ks) = true
flat (pair f g) = flat f && flat g
flat (turn h f) = flat f
flat (maybe f) = flat f
flat (many f) = flat f
flat (either f g) = flat f && flat g
flat (seen h f) = flat f
flat (nest m) = false
flat (over opens) = true
flat (attempt f g) = flat f && flat g

pub flat-open : (w : Wholes) (b : Begun) {A : Type 0} (f : Form A) → flat f ≡ true → (us : List Symbol) (n : ℕ) → Begins w b f us n → n ≡ 0
flat-open w b (terminal ks) e us n p = p.0
flat-open w b (pair f g) e us n (inl p) = flat-open w b f (both (flat f) (flat g) e).0 us n p
flat-open w b (pair f g) e us n (inr q) = flat-open w b g (both (flat f) (flat g) e).1 q.1 n q.5
flat-open w b (turn h f) e us n p = flat-open w b f e us n p
flat-open w b (maybe f) e us n p = flat-open w b f e us n p
flat-open w b (many f) e us n q = flat-open w b f e q.1 n q.5
flat-open w b (either f g) e us n (inl p) = flat-open w b f (both (flat f) (flat g) e).0 us n p
flat-open w b (either f g) e us n (inr p) = flat-open w b g (both (flat f) (flat g) e).1 us n p
flat-open w b (seen h f) e us n p = flat-open w b f e us n p
flat-open w b (nest m) e us n p = absurd cc
flat-open w b (over opens) e us n p = p.0
flat-open w b (attempt f g) e us n (inl p) = flat-open w b f (both (flat f) (flat g) e).0 us n p
flat-open w b (attempt f g) e us n (inr p) = flat-open w b g (both (flat f) (flat g) e).1 us n p

type-closes : (s : Stands) (w : Freedom) → effect in_brackets (step s type_reference w colons) ≡ closing (last_end s)
unfolding step part_symbols
type-closes alone w = refl
type-closes paired w = refl
type-closes listed w = refl
type-closes defaulted w = refl
type-closes assigned w = refl

less-closes : (s : Stands) (w : Freedom) → effect in_brackets (step s (one_of (operator token.less_than ∷ [])) w between) ≡ closing (last_end s)
unfolding step part_symbols
less-closes alone w = refl
less-closes paired w = refl
less-closes listed w = refl
less-closes defaulted w = refl
less-closes assigned w = refl

-- In every place, a field too, neither of the two goes on where the other one is whole.
pub type-ends : (s : Stands) (w : Freedom) (us vs : List Symbol) (x : Rest s) (n : ℕ) → Is Whole (step s type_reference w colons) us x → Begins Whole Started (step s (one_of (operator token.less_than ∷ [])) w between) (us ++ vs) n → vs ≡ []
type-ends s w us vs x n p q = ends-there (step s type_reference w colons) (step s (one_of (operator token.less_than ∷ [])) w between) (last_end s) (type-closes s w) (less-closes s w) us vs x n p q

pub less-ends : (s : Stands) (w : Freedom) (us vs : List Symbol) (x : Rest s) (n : ℕ) → Is Whole (step s (one_of (operator token.less_than ∷ [])) w between) us x → Begins Whole Started (step s type_reference w colons) (us ++ vs) n → vs ≡ []
less-ends s w us vs x n p q = ends-there (step s (one_of (operator token.less_than ∷ [])) w between) (step s type_reference w colons) (last_end s) (less-closes s w) (type-closes s w) us vs x n p q
