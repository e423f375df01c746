-- What the functions of a walk answer, from what their calls answered.
use Rattle.std.proofs.Common.{◌≡◌, ℕ, ◌+◌, ◌*◌, ◌≤◌, ◌<◌, Bool, true, false, List, [], ◌∷◌, drop, length, Option, Some, None, Result, Ok, Err, inl, inr, refl, sym, ap, subst, ◌∙◌, arith}
use Rattle.std.specs.Prelude.{IfOk}
use Rattle.std.specs.Borrow.{Bor}
use Rattle.apt_base.specs.declared.memory.NoMemory.{NoMemory}
use Rattle.decl_tree.specs.declared.annotation.AnnotationText.{AnnotationText}
use Rattle.apt_base.specs.declared.around.Around.{Around}
use Rattle.apt_base.specs.Limits.{max_children}
use Rattle.decl_tree.specs.declared.type_text.BaseType.{BaseType}
use Rattle.decl_grammar.specs.declared.written.Modifiers.{Modifiers}
use Rattle.decl_grammar.specs.declared.symbol.Symbol.{Symbol}
use Rattle.decl_grammar.specs.declared.written.ParamEnd.{ParamEnd}
use Rattle.decl_grammar.specs.declared.written.ParamEnd.TheVariants as param_end
use Rattle.decl_grammar.specs.Reading.{starts, done}
use Rattle.decl_grammar.specs.Form.{nullable, many}
use Rattle.decl_grammar.specs.Types.{annotation, name, annotations, base_type, dim}
use Rattle.decl_grammar.specs.Grammar.{param_modifiers, varargs, named_end, receiver}
use Rattle.decl_grammar.specs.Rule.{reads}
use Rattle.decl_types.specs.Params.{bracket_step, annotated_step, varargs_step, param_step, first_step, first_end}
use Rattle.decl_grammar.proofs.OneToken.{not_both}
use Rattle.decl_grammar.proofs.Progress.{done_rest}
use Rattle.decl_grammar.proofs.Loop.{falls}
use Rattle.decl_children.specs.Fronts.{Tells}
use Rattle.decl_children.specs.ParamReads.{step_form, EndRead, BasedRead, ParamRead, FirstBehind, FirstRead, FindsEnd, arguments_of, takes_any, TailCrowds, ParamsCrowd}
use Rattle.decl_children.specs.Results.{names_constructor, TypeRead, ResultRead, FindsAt, NamedCrowds}
use Rattle.decl_children.proofs.ParamEnds.{end-first}
use Rattle.decl_children.proofs.ParamOnes.{param-one, first-one, param-less, first-less, reads-less}
use Rattle.decl_children.proofs.ParamCounts.{tail-goes, tail-back, params-goes}
use Rattle.decl_children.proofs.ResultReads.{result-one, named-goes, named-back}

-- ---- tests

pub tells-of : (E : Type 0) (P : Type 0) (b s : Bool) → b ≡ s → (s ≡ true → P) → (P → s ≡ true) → Tells {E = E} P (Ok b)
tells-of E P true s e go back = go (sym e)
tells-of E P false s e go back = λ p. not_both s (back p) (sym e)

pub tells-as : {E : Type 0} (P Q : Type 0) (r : Result Bool E) → (P → Q) → (Q → P) → Tells P r → Tells Q r
tells-as P Q (Ok true) go back t = go t
tells-as P Q (Ok false) go back t = λ q. t (back q)
tells-as P Q (Err e) go back t = tt

-- ---- the end of a parameter

step-full : (b : Bool) → nullable (step_form b) ≡ false
unfolding param_step first_step bracket_step annotated_step varargs_step varargs annotation named_end receiver first_end name
step-full true = refl
step-full false = refl

pub step-falls : (room : ℕ) (b : Bool) (ts : List Symbol) (o : Option ParamEnd) (after : List Symbol) → reads room (step_form b) ts ≡ done o after → length after < length ts
step-falls room b ts o after e = falls room (step_form b) ts o after (step-full b) e

pub end-stuck : (room : ℕ) (b : Bool) (ts : List Symbol) → ((o : Option ParamEnd) (at : List Symbol) → reads room (step_form b) ts ≡ done o at → ⊥) → (e : ParamEnd) (rest : List Symbol) → EndRead room b ts e rest → ⊥
end-stuck room b ts none e rest r =
    let p = end-first room b ts e rest r in
    none p.0 p.1 p.2

abbrev pub Found : Type 0
Found = Result (Option (ParamEnd × Bor (List Symbol))) NoMemory

pub finds-as : (R S : ParamEnd → List Symbol → Type 0) (r : Found) → ((e : ParamEnd) (s : List Symbol) → R e s → S e s) → ((e : ParamEnd) (s : List Symbol) → S e s → R e s) → IfOk r (FindsEnd R) → IfOk r (FindsEnd S)
finds-as R S (Ok (Some x)) go back f = go x.0 x.1.now f
finds-as R S (Ok None) go back f = λ e s y. f e s (back e s y)
finds-as R S (Err e) go back f = tt

pub based-finds : (room : ℕ) (b : Bool) (ts mid : List Symbol) (of : BaseType) (r : Found) → reads room base_type ts ≡ done of mid → IfOk r (FindsEnd (EndRead room b mid)) → IfOk r (FindsEnd (BasedRead room b ts))
based-finds room b ts mid of r e f =
    finds-as (EndRead room b mid) (BasedRead room b ts) r (λ d s x. (of, mid, e, x))
    (λ d s x. subst (λ (zs : List Symbol). EndRead room b zs d s) (done_rest x.0 of x.1 mid (sym x.2 ∙ e)) x.3) f

pub param-finds : (room : ℕ) (ts mid : List Symbol) (m : Modifiers) (r : Found) → reads room param_modifiers ts ≡ done m mid → IfOk r (FindsEnd (BasedRead room false mid)) → IfOk r (FindsEnd (ParamRead room ts))
param-finds room ts mid m r e f =
    finds-as (BasedRead room false mid) (ParamRead room ts) r (λ d s x. (m, mid, e, x))
    (λ d s x. subst (λ (zs : List Symbol). BasedRead room false zs d s) (done_rest x.0 m x.1 mid (sym x.2 ∙ e)) x.3) f

pub first-finds : (room : ℕ) (ts mid : List Symbol) (m : List AnnotationText) (r : Found) → reads room annotations ts ≡ done m mid → IfOk r (FindsEnd (FirstBehind room mid)) → IfOk r (FindsEnd (FirstRead room ts))
first-finds room ts mid m r e f =
    finds-as (FirstBehind room mid) (FirstRead room ts) r (λ d s x. (m, mid, e, x))
    (λ d s x. subst (λ (zs : List Symbol). FirstBehind room zs d s) (done_rest x.0 m x.1 mid (sym x.2 ∙ e)) x.3) f

final-to : (room : ℕ) (ts : List Symbol) → starts (27 ∷ []) ts ≡ true → (d : ParamEnd) (s : List Symbol) → FirstBehind room ts d s → ParamRead room (drop 1 ts) d s
final-to room ts h d s (inl x) = x.1
final-to room ts h d s (inr x) = not_both (starts (27 ∷ []) ts) h x.0

plain-to : (room : ℕ) (ts : List Symbol) → starts (27 ∷ []) ts ≡ false → (d : ParamEnd) (s : List Symbol) → FirstBehind room ts d s → BasedRead room true ts d s
plain-to room ts h d s (inl x) = not_both (starts (27 ∷ []) ts) x.0 h
plain-to room ts h d s (inr x) = x.1

pub final-finds : (room : ℕ) (ts after : List Symbol) (r : Found) → starts (27 ∷ []) ts ≡ true → after ≡ drop 1 ts → IfOk r (FindsEnd (ParamRead room after)) → IfOk r (FindsEnd (FirstBehind room ts))
final-finds room ts after r h e f =
    finds-as (ParamRead room (drop 1 ts)) (FirstBehind room ts) r (λ d s x. inl (h, x)) (final-to room ts h) (subst (λ (zs : List Symbol). IfOk r (FindsEnd (ParamRead room zs))) e f)

pub plain-finds : (room : ℕ) (ts : List Symbol) (r : Found) → starts (27 ∷ []) ts ≡ false → IfOk r (FindsEnd (BasedRead room true ts)) → IfOk r (FindsEnd (FirstBehind room ts))
plain-finds room ts r h f = finds-as (BasedRead room true ts) (FirstBehind room ts) r (λ d s x. inr (h, x)) (plain-to room ts h) f

-- ---- rows of parameters

pub arguments-few : (e : ParamEnd) → arguments_of e ≤ 1
arguments-few (param_end.Named n ds) = omega arith
arguments-few (param_end.AnyNumber n) = omega arith
arguments-few param_end.Receiver = omega arith

values-same : {A : Type 0} (x y : A) (a b : List Symbol) → done x a ≡ done y b → x ≡ y
values-same x y a b same = cc

-- what is read as the next one is open, so that none further stands behind it
pub tail-open : (n room : ℕ) (ts : List Symbol) (end : ParamEnd) (after : List Symbol) → 3 * length ts ≤ room → n < max_children → ParamRead room (drop 1 ts) end after → takes_any end ≡ true → TailCrowds n ts → ⊥
tail-open n room ts end after fits lt r any c =
    let g = tail-goes n room ts fits lt c in
    let same = values-same end g.end after g.after (param-one room (drop 1 ts) end g.end after g.after r g.there) in
    not_both (takes_any g.end) (ap (λ (e : ParamEnd). takes_any e) (sym same) ∙ any) g.one

pub tail-next : (n room : ℕ) (ts : List Symbol) (end : ParamEnd) (after : List Symbol) → 3 * length ts ≤ room → n < max_children → ParamRead room (drop 1 ts) end after → TailCrowds n ts → TailCrowds (n + arguments_of end) after
tail-next n room ts end after fits lt r c =
    let g = tail-goes n room ts fits lt c in
    let one = param-one room (drop 1 ts) end g.end after g.after r g.there in
    subst (λ (zs : List Symbol). TailCrowds (n + arguments_of end) zs) (sym (done_rest end g.end after g.after one))
    (subst (λ (e : ParamEnd). TailCrowds (n + arguments_of e) g.after) (sym (values-same end g.end after g.after one)) g.rest)

pub params-open : (n room : ℕ) (ts : List Symbol) (end : ParamEnd) (after : List Symbol) → 3 * length ts ≤ room → n < max_children → FirstRead room (drop 1 ts) end after → takes_any end ≡ true → ParamsCrowd n ts → ⊥
params-open n room ts end after fits lt r any c =
    let g = params-goes n room ts fits lt c in
    let same = values-same end g.end after g.after (first-one room (drop 1 ts) end g.end after g.after r g.there) in
    not_both (takes_any g.end) (ap (λ (e : ParamEnd). takes_any e) (sym same) ∙ any) g.one

pub params-next : (n room : ℕ) (ts : List Symbol) (end : ParamEnd) (after : List Symbol) → 3 * length ts ≤ room → n < max_children → FirstRead room (drop 1 ts) end after → ParamsCrowd n ts → TailCrowds (n + arguments_of end) after
params-next n room ts end after fits lt r c =
    let g = params-goes n room ts fits lt c in
    let one = first-one room (drop 1 ts) end g.end after g.after r g.there in
    subst (λ (zs : List Symbol). TailCrowds (n + arguments_of end) zs) (sym (done_rest end g.end after g.after one))
    (subst (λ (e : ParamEnd). TailCrowds (n + arguments_of e) g.after) (sym (values-same end g.end after g.after one)) g.rest)

pub comma-less : (room : ℕ) (ts : List Symbol) (end : ParamEnd) (after : List Symbol) → starts (68 ∷ []) ts ≡ true → ParamRead room (drop 1 ts) end after → length after < length ts
comma-less room [] end after s r = absurd cc
comma-less room (t ∷ ts) end after s r = omega (arith, param-less room ts end after r)

-- Behind this many, in symbols no more than there were, all are too many just where the rest is.
abbrev pub TailSame : ℕ → List Symbol → ℕ → List Symbol → Type 0
TailSame before symbols n ts = (length ts ≤ length symbols) × (TailCrowds before symbols → TailCrowds n ts) × (TailCrowds n ts → TailCrowds before symbols)

pub tail-same : (before n m room : ℕ) (symbols ts after res : List Symbol) (end : ParamEnd) → 3 * length symbols ≤ room → n < max_children → starts (68 ∷ []) ts ≡ true → ParamRead room (drop 1 ts) end after → takes_any end ≡ false → m ≡ arguments_of end → res ≡ after
    → TailSame before symbols n ts → TailSame before symbols (n + m) res
tail-same before n m room symbols ts after res end fits lt s r one count there same =
    subst (λ (zs : List Symbol). TailSame before symbols (n + m) zs) (sym there)
    (subst (λ (j : ℕ). TailSame before symbols (n + j) after) (sym count) (
      omega (arith, same.0, comma-less room ts end after s r),
      λ t. tail-next n room ts end after (omega (arith, fits, same.0)) lt r (same.1 t),
      λ t. same.2 (tail-back n room ts end after s r one t),
    ))

pub inside-less : (room : ℕ) (ts : List Symbol) (end : ParamEnd) (after : List Symbol) → FirstRead room (drop 1 ts) end after → length after ≤ length ts
inside-less room [] end after r = first-less room [] end after r
inside-less room (t ∷ ts) end after r = omega (arith, first-less room ts end after r)

-- ---- behind a result

abbrev pub FoundAt : Type 0
FoundAt = Result (Option (Bor (List Symbol))) NoMemory

pub at-as : (R S : List Symbol → Type 0) (r : FoundAt) → ((s : List Symbol) → R s → S s) → ((s : List Symbol) → S s → R s) → IfOk r (FindsAt R) → IfOk r (FindsAt S)
at-as R S (Ok (Some x)) go back f = go x.now f
at-as R S (Ok None) go back f = λ s y. f s (back s y)
at-as R S (Err e) go back f = tt

type-to : (room : ℕ) (ts : List Symbol) → starts (57 ∷ []) ts ≡ false → names_constructor ts ≡ false → (s : List Symbol) → ResultRead room ts s → TypeRead room ts s
type-to room ts h c s (inl x) = not_both (starts (57 ∷ []) ts) x.0 h
type-to room ts h c s (inr (n, inl x)) = not_both (names_constructor ts) x.0 c
type-to room ts h c s (inr (n, inr x)) = x.1

pub result-finds : (room : ℕ) (ts : List Symbol) (r : FoundAt) → starts (57 ∷ []) ts ≡ false → names_constructor ts ≡ false → IfOk r (FindsAt (TypeRead room ts)) → IfOk r (FindsAt (ResultRead room ts))
result-finds room ts r h c f = at-as (TypeRead room ts) (ResultRead room ts) r (λ s x. inr (h, inr (c, x))) (type-to room ts h c) f

pub no-base : (room : ℕ) (ts : List Symbol) → ((of : BaseType) (mid : List Symbol) → reads room base_type ts ≡ done of mid → ⊥) → (s : List Symbol) → TypeRead room ts s → ⊥
no-base room ts none s x = none x.0 x.1 x.3

pub no-dims : (room : ℕ) (ts mid : List Symbol) (of : BaseType) → reads room base_type ts ≡ done of mid → ((ds : List Around) (s : List Symbol) → reads room (many dim) mid ≡ done ds s → ⊥) → (s : List Symbol) → TypeRead room ts s → ⊥
no-dims room ts mid of e none s x = none x.2 s (ap (λ (zs : List Symbol). reads room (many dim) zs) (done_rest of x.0 mid x.1 (sym e ∙ x.3)) ∙ x.4)

-- no result, or no name with a bracket behind it: no parameters
pub unnamed : (n room : ℕ) (ts : List Symbol) → 3 * length ts ≤ room → ((s : List Symbol) → ResultRead room ts s → ⊥) → NamedCrowds n ts → ⊥
unnamed n room ts fits none c =
    let g = named-goes n room ts fits c in
    none g.0 g.1

pub not-named : (n room : ℕ) (ts at : List Symbol) → 3 * length ts ≤ room → ResultRead room ts at → names_constructor at ≡ false → NamedCrowds n ts → ⊥
not-named n room ts at fits r h c =
    let g = named-goes n room ts fits c in
    not_both (names_constructor at) (ap (λ (zs : List Symbol). names_constructor zs) (result-one room ts at g.0 r g.1) ∙ g.2) h

pub named-tells : {E : Type 0} (n room : ℕ) (ts at : List Symbol) (r : Result Bool E) → 3 * length ts ≤ room → ResultRead room ts at → names_constructor at ≡ true → Tells (ParamsCrowd n (drop 1 at)) r → Tells (NamedCrowds n ts) r
named-tells n room ts at r fits x h t =
    tells-as (ParamsCrowd n (drop 1 at)) (NamedCrowds n ts) r (λ p. named-back n room ts at x h p)
    (λ c. let g = named-goes n room ts fits c in subst (λ (zs : List Symbol). ParamsCrowd n (drop 1 zs)) (sym (result-one room ts at g.0 x g.1)) g.3) t

drop-less : (ts : List Symbol) → length (drop 1 ts) ≤ length ts
drop-less [] = omega arith
drop-less (t ∷ ts) = omega arith

pub result-less : (room : ℕ) (ts at : List Symbol) → ResultRead room ts at → length (drop 1 at) ≤ length ts
result-less room ts at (inl x) = omega (arith, drop-less at, drop-less ts, ap length x.1)
result-less room ts at (inr (n, inl x)) = omega (arith, drop-less at, ap length x.1)
result-less room ts at (inr (n, inr (c, r))) = omega (arith, drop-less at, reads-less base_type room ts r.0 r.1 r.3, reads-less (many dim) room r.1 r.2 at r.4)
