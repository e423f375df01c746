-- A row ends where it closes what was open, so that nothing goes on with it there.
use Rattle.std.proofs.Common.{◌≡◌, ℕ, zero, suc, List, [], ◌∷◌, ◌++◌, subst}
use Rattle.decl_grammar.specs.declared.symbol.Symbol.{Symbol}
use Rattle.decl_grammar.specs.Form.{Form, Is, Begins}
use Rattle.decl_grammar.specs.Rule.{rule, WholeAt, BegunAt}
use Rattle.decl_grammar.proofs.OpenBrackets.{leads-end}
use Rattle.decl_grammar.proofs.Effects.{in_brackets, Effect, closing, nest_effect, effect, Levels, Opened}
use Rattle.decl_grammar.proofs.EffectLemmas.{levels-by, opened-by, NestLevels, NestOpened, form-levels, form-opened}
use Rattle.decl_grammar.proofs.RuleEffects.{rule-effect}
use Rattle.decl_grammar.proofs.Heights.{Whole, Started}

pub levels-at : (h : ℕ) → NestLevels (WholeAt h)
levels-at zero b m us x is = absurd is
levels-at (suc h) b m us x is = levels-by b (effect b (rule m)) (nest_effect b m) us (rule-effect b m) (form-levels (WholeAt h) (levels-at h) b (rule m) us x is)

pub opened-at : (h : ℕ) → NestOpened (BegunAt h)
opened-at zero b m us n p = absurd p
opened-at (suc h) b m us n p = opened-by b (effect b (rule m)) (nest_effect b m) us (rule-effect b m) (form-opened (WholeAt h) (BegunAt h) (levels-at h) (opened-at h) b (rule m) us n p)

pub levels-any : NestLevels Whole
levels-any b m us x is = levels-at is.0 b m us x is.1

pub opened-any : NestOpened Started
opened-any b m us n p = opened-at p.0 b m us n p.1

-- Where one of two rows that close the same is whole, the other one does not go on.
pub ends-there : {A B : Type 0} (f : Form A) (g : Form B) (c : ℕ) → effect in_brackets f ≡ closing c → effect in_brackets g ≡ closing c
    → (us vs : List Symbol) (x : A) (n : ℕ) → Is Whole f us x → Begins Whole Started g (us ++ vs) n → vs ≡ []
ends-there f g c p q us vs x n is begins =
    let l : Levels in_brackets (closing c) us = subst (λ (e : Effect). Levels in_brackets e us) p (form-levels Whole levels-any in_brackets f us x is) in
    let o : Opened in_brackets (closing c) (us ++ vs) = subst (λ (e : Effect). Opened in_brackets e (us ++ vs)) q (form-opened Whole Started levels-any opened-any in_brackets g (us ++ vs) n begins) in
    let r = o [] in
    leads-end us vs (c ∷ []) (r.0 ++ []) (l []) r.1
