-- What is read of one parameter is one thing, and what stands behind it is no longer than what there was.
use Rattle.std.proofs.Common.{◌≡◌, ℕ, zero, suc, ◌≤◌, Bool, true, false, List, [], ◌∷◌, drop, length, Option, Some, None, inl, inr, sym, ap, subst, ◌∙◌, length-append, arith}
use Rattle.decl_grammar.specs.declared.symbol.Symbol.{Symbol}
use Rattle.decl_grammar.specs.declared.written.ParamEnd.{ParamEnd}
use Rattle.decl_grammar.specs.Reading.{starts, done}
use Rattle.decl_grammar.specs.Form.{Form}
use Rattle.decl_grammar.specs.Types.{annotations, base_type}
use Rattle.decl_grammar.specs.Grammar.{param_modifiers}
use Rattle.decl_grammar.specs.Rule.{reads}
use Rattle.decl_grammar.proofs.Progress.{bind_done, done_rest}
use Rattle.decl_grammar.proofs.OneToken.{not_both}
use Rattle.decl_children.specs.ParamReads.{step_form, after_step, end_read, EndRead, BasedRead, ParamRead, FirstBehind, FirstRead}
use Rattle.decl_crossings.proofs.PhraseReads.{read-phrase}
use Rattle.decl_children.proofs.ParamEnds.{end-behind, end-here}

-- ---- one thing

end-same : (k room : ℕ) (b : Bool) (ts : List Symbol) (e d : ParamEnd) (r s : List Symbol) → end_read k room b ts ≡ done e r → EndRead room b ts d s → done e r ≡ done d s
end-same zero room b ts e d r s x y = absurd cc
end-same (suc k) room b ts e d r s x y =
    let p = bind_done (reads room (step_form b) ts) (after_step (end_read k room b)) e r x in
    go (λ (at : List Symbol) (later : end_read k room b at ≡ done e r) (z : EndRead room b at d s). end-same k room b at e d r s later z) p.0 p.1 p.2 p.3
  where
    go : ((at : List Symbol) → end_read k room b at ≡ done e r → EndRead room b at d s → done e r ≡ done d s) → (o : Option ParamEnd) (at : List Symbol) → reads room (step_form b) ts ≡ done o at → after_step (end_read k room b) o at ≡ done e r → done e r ≡ done d s
    go rec None at h later = rec at later (end-behind room b ts at d s h y)
    go rec (Some c) at h later = sym later ∙ end-here room b ts at c d s h y

pub end-one : (room : ℕ) (b : Bool) (ts : List Symbol) (e d : ParamEnd) (r s : List Symbol) → EndRead room b ts e r → EndRead room b ts d s → done e r ≡ done d s
end-one room b ts e d r s x y = end-same x.0 room b ts e d r s x.1 y

-- behind what is read the same
same-behind : {A : Type 0} (f : Form A) (room : ℕ) (ts a b : List Symbol) (x y : A) → reads room f ts ≡ done x a → reads room f ts ≡ done y b → a ≡ b
same-behind f room ts a b x y e d = done_rest x y a b (sym e ∙ d)

pub based-one : (room : ℕ) (b : Bool) (ts : List Symbol) (e d : ParamEnd) (r s : List Symbol) → BasedRead room b ts e r → BasedRead room b ts d s → done e r ≡ done d s
based-one room b ts e d r s x y =
    end-one room b x.1 e d r s x.3 (subst (λ (zs : List Symbol). EndRead room b zs d s) (same-behind base_type room ts y.1 x.1 y.0 x.0 y.2 x.2) y.3)

pub param-one : (room : ℕ) (ts : List Symbol) (e d : ParamEnd) (r s : List Symbol) → ParamRead room ts e r → ParamRead room ts d s → done e r ≡ done d s
param-one room ts e d r s x y =
    based-one room false x.1 e d r s x.3 (subst (λ (zs : List Symbol). BasedRead room false zs d s) (same-behind param_modifiers room ts y.1 x.1 y.0 x.0 y.2 x.2) y.3)

behind-one : (room : ℕ) (ts : List Symbol) (e d : ParamEnd) (r s : List Symbol) → FirstBehind room ts e r → FirstBehind room ts d s → done e r ≡ done d s
behind-one room ts e d r s (inl x) (inl y) = param-one room (drop 1 ts) e d r s x.1 y.1
behind-one room ts e d r s (inl x) (inr y) = not_both (starts (27 ∷ []) ts) x.0 y.0
behind-one room ts e d r s (inr x) (inl y) = not_both (starts (27 ∷ []) ts) y.0 x.0
behind-one room ts e d r s (inr x) (inr y) = based-one room true ts e d r s x.1 y.1

pub first-one : (room : ℕ) (ts : List Symbol) (e d : ParamEnd) (r s : List Symbol) → FirstRead room ts e r → FirstRead room ts d s → done e r ≡ done d s
first-one room ts e d r s x y =
    behind-one room x.1 e d r s x.3 (subst (λ (zs : List Symbol). FirstBehind room zs d s) (same-behind annotations room ts y.1 x.1 y.0 x.0 y.2 x.2) y.3)

-- ---- no longer

pub reads-less : {A : Type 0} (f : Form A) (room : ℕ) (ts : List Symbol) (x : A) (rest : List Symbol) → reads room f ts ≡ done x rest → length rest ≤ length ts
reads-less f room ts x rest e =
    let p = read-phrase f room ts x rest e in
    omega (arith, ap length p.1, length-append p.0 rest)

end-less : (k room : ℕ) (b : Bool) (ts : List Symbol) (e : ParamEnd) (r : List Symbol) → end_read k room b ts ≡ done e r → length r ≤ length ts
end-less zero room b ts e r x = absurd cc
end-less (suc k) room b ts e r x =
    let p = bind_done (reads room (step_form b) ts) (after_step (end_read k room b)) e r x in
    go (λ (at : List Symbol) (later : end_read k room b at ≡ done e r). end-less k room b at e r later) p.0 p.1 p.3 (reads-less (step_form b) room ts p.0 p.1 p.2)
  where
    go : ((at : List Symbol) → end_read k room b at ≡ done e r → length r ≤ length at) → (o : Option ParamEnd) (at : List Symbol) → after_step (end_read k room b) o at ≡ done e r → length at ≤ length ts → length r ≤ length ts
    go rec None at later le = omega (arith, le, rec at later)
    go rec (Some c) at later le = omega (arith, le, ap length (done_rest c e at r later))

pub based-less : (room : ℕ) (b : Bool) (ts : List Symbol) (e : ParamEnd) (r : List Symbol) → BasedRead room b ts e r → length r ≤ length ts
based-less room b ts e r x = omega (arith, reads-less base_type room ts x.0 x.1 x.2, end-less x.3.0 room b x.1 e r x.3.1)

pub param-less : (room : ℕ) (ts : List Symbol) (e : ParamEnd) (r : List Symbol) → ParamRead room ts e r → length r ≤ length ts
param-less room ts e r x = omega (arith, reads-less param_modifiers room ts x.0 x.1 x.2, based-less room false x.1 e r x.3)

drop-less : (ts : List Symbol) → length (drop 1 ts) ≤ length ts
drop-less [] = omega arith
drop-less (t ∷ ts) = omega arith

behind-less : (room : ℕ) (ts : List Symbol) (e : ParamEnd) (r : List Symbol) → FirstBehind room ts e r → length r ≤ length ts
behind-less room ts e r (inl x) = omega (arith, drop-less ts, param-less room (drop 1 ts) e r x.1)
behind-less room ts e r (inr x) = based-less room true ts e r x.1

pub first-less : (room : ℕ) (ts : List Symbol) (e : ParamEnd) (r : List Symbol) → FirstRead room ts e r → length r ≤ length ts
first-less room ts e r x = omega (arith, reads-less annotations room ts x.0 x.1 x.2, behind-less room x.1 e r x.3)
