-- How parameters are gathered.
use Rattle.std.proofs.Common.{◌≡◌, ℕ, ◌+◌, ◌≤◌, Bool, true, false, cond, List, [], ◌∷◌, ◌++◌, length, Option, Some, None, Result, Ok, Err, refl, sym, ap, ◌∙◌, arith, append_assoc}
use Rattle.std.proofs.lemmas.List.{append-nil}
use Rattle.apt_base.specs.declared.around.Around.{Around}
use Rattle.decl_tree.specs.declared.type_text.BaseType.{BaseType}
use Rattle.decl_tree.specs.declared.annotation.AnnotationText.{AnnotationText}
use Rattle.decl_grammar.specs.declared.written.ParamAt.{ParamAt}
use Rattle.decl_grammar.specs.declared.symbol.Symbol.{Symbol}
use Rattle.decl_grammar.specs.declared.fault.ReadFault.{ReadFault}
use Rattle.decl_grammar.specs.declared.fault.ReadFault.TheVariants as faults
use Rattle.decl_grammar.specs.declared.written.Modifiers.{Modifiers}
use Rattle.decl_grammar.specs.declared.written.ParamEnd.{ParamEnd}
use Rattle.decl_grammar.specs.declared.written.ParamEnd.TheVariants as param_end
use Rattle.decl_grammar.specs.Reading.{starts, Outcome, done, fault, deep, ◌>>=◌, Fails, one_at}
use Rattle.decl_grammar.specs.Form.{param_rest, first_rest, ParamRest, maybe, many, nest, turned}
use Rattle.decl_grammar.specs.Types.{Mark, annotations, with_marks}
use Rattle.decl_grammar.specs.Grammar.{based, param_modifier, param_modifiers, params_from, next_params, params_or_none, apply_rest, FirstRest, final_and, final_first, plain_first, annotated_only, behind_annotations, first_from, first_params}
use Rattle.decl_grammar.specs.Rule.{reads}
use Rattle.decl_types.specs.Params.{end_then, with_items, finished, one_or_none, params_behind, later_params, param_then, apply_to, found_to, ReadsParam}
use Rattle.decl_grammar.proofs.Progress.{word-shorter}
use Rattle.decl_types.proofs.ParamFirsts.{next_params_first}
use Rattle.decl_grammar.proofs.Loop.{turned_fails, turned_done, unturned_fails}

-- ---- what failed

pub bind-fails : {A B : Type 0} (f : A → List Symbol → Outcome B) (e : ReadFault) (o : Outcome A) → Fails e o → Fails e (o >>= f)
bind-fails f faults.Memory o p = tt
bind-fails {A} f (faults.Bad n) o p = (p.0, ap (λ (r : Outcome A). r >>= f) p.1, p.2)
bind-fails {A} f (faults.Deep n) o p = (p.0, ap (λ (r : Outcome A). r >>= f) p.1, p.2)

pub fails-as : {A : Type 0} (e : ReadFault) (o p : Outcome A) → o ≡ p → Fails e p → Fails e o
fails-as e o p same f = rw same f

-- ---- a parameter behind its modifiers

abbrev pub based_read : Modifiers → Outcome BaseType → (List Symbol → Outcome ParamRest) → Outcome (List ParamAt × Bool)
based_read m o inner = turned (apply_to m) (o >>= λ b r. inner r >>= λ x a. done (b, x) a)

based-joined : (room : ℕ) (m : Modifiers) (of : BaseType) (ds : List Around) (e : ParamEnd) (after : List Symbol)
    → turned (apply_to m) (turned (with_items ds) (end_then room e after) >>= λ x a. done (of, x) a) ≡ param_then room (finished m of ds e).0 (finished m of ds e).1 after
based-joined room m of ds (param_end.AnyNumber n) after = rw (append-nil ds) refl
based-joined room m of ds (param_end.Named n bs) after = go (reads room (maybe next_params) after)
  where
    go : (o : Outcome (Option (List ParamAt × Bool))) → turned (apply_to m) (turned (with_items ds) (o >>= λ v z. done ([], (param_end.Named n bs, params_or_none v)) z) >>= λ x a. done (of, x) a) ≡ turned (params_behind (one_or_none (finished m of ds (param_end.Named n bs)).0)) (turned params_or_none o)
    go (done v z) = rw (append-nil ds) refl
    go (fault at) = refl
    go (deep at) = refl
based-joined room m of ds param_end.Receiver after = go (reads room (maybe next_params) after)
  where
    go : (o : Outcome (Option (List ParamAt × Bool))) → turned (apply_to m) (turned (with_items ds) (o >>= λ v z. done ([], (param_end.Receiver, params_or_none v)) z) >>= λ x a. done (of, x) a) ≡ turned (params_behind []) (turned params_or_none o)
    go (done v z) = refl
    go (fault at) = refl
    go (deep at) = refl

pub based-ends : (room : ℕ) (inner : List Symbol → Outcome ParamRest) (m : Modifiers) (o : Outcome BaseType) (of : BaseType) (rest : List Symbol) (ds : List Around) (e : ParamEnd) (after : List Symbol) (p : Option ParamAt × Bool)
    → o ≡ done of rest → inner rest ≡ turned (with_items ds) (end_then room e after) → p ≡ finished m of ds e → based_read m o inner ≡ param_then room p.0 p.1 after
based-ends room inner m o of rest ds e after p based ended is =
    ap (λ (r : Outcome BaseType). based_read m r inner) based
    ∙ (ap (λ (r : Outcome ParamRest). turned (apply_to m) (r >>= λ x a. done (of, x) a)) ended ∙ (based-joined room m of ds e after ∙ ap (λ (q : Option ParamAt × Bool). param_then room q.0 q.1 after) (sym is)))

pub based-fails : (inner : List Symbol → Outcome ParamRest) (m : Modifiers) (o : Outcome BaseType) (e : ReadFault) → Fails e o → Fails e (based_read m o inner)
based-fails inner m o e p = turned_fails (apply_to m) e _ (bind-fails (λ b r. inner r >>= λ x a. done (b, x) a) e o p)

pub based-end-fails : (inner : List Symbol → Outcome ParamRest) (m : Modifiers) (o : Outcome BaseType) (of : BaseType) (rest : List Symbol) (e : ReadFault) → o ≡ done of rest → Fails e (inner rest) → Fails e (based_read m o inner)
based-end-fails inner m o of rest e based p =
    fails-as e (based_read m o inner) (turned (apply_to m) (inner rest >>= λ x a. done (of, x) a)) (ap (λ (r : Outcome BaseType). based_read m r inner) based)
    (turned_fails (apply_to m) e (inner rest >>= λ x a. done (of, x) a) (bind-fails (λ x a. done (of, x) a) e (inner rest) p))

-- ---- the same result for a whole of which this is a part

pub param-moved : {X : Type 0} (view : X → (Option ParamAt × Bool) × List Symbol) (r : Result X ReadFault) (room : ℕ) (us ts : List Symbol) (part total : Outcome (List ParamAt × Bool)) → part ≡ total → length us ≤ length ts
    → ReadsParam view r room us part → ReadsParam view r room ts total
param-moved view (Ok x) room us ts part total same le p = (sym same ∙ p.0, omega (arith, p.1))
param-moved view (Err e) room us ts part total same le p = fails-as e total part (sym same) p

abbrev second_of : {A B : Type 0} → A × B → B
second_of x = x.1

apply-paired : (m : Modifiers) (o : Outcome (BaseType × ParamRest)) → turned (apply_to m) o ≡ turned apply_rest (o >>= λ y a. done (m, y) a)
apply-paired m (done y a) = refl
apply-paired m (fault at) = refl
apply-paired m (deep at) = refl

second-read : {A B : Type 0} (x : B) (o : Outcome A) → o ≡ turned second_of (o >>= λ y a. done (x, y) a)
second-read x (done y a) = refl
second-read x (fault at) = refl
second-read x (deep at) = refl

-- behind a comma
pub next-joined : (room : ℕ) (ts rest after : List Symbol) (t : Symbol) (m : Modifiers) → one_at (68 ∷ []) ts ≡ done t rest → reads room param_modifiers rest ≡ done m after
    → turned (apply_to m) (reads room (based (nest param_rest)) after) ≡ reads room next_params ts
unfolding next_params params_from
next-joined room ts rest after t m e f =
    rw (e, f) (apply-paired m (reads room (based (nest param_rest)) after) ∙ second-read t (turned apply_rest (reads room (based (nest param_rest)) after >>= λ y a. done (m, y) a)))

-- ---- a first parameter

pub first-joined : (room : ℕ) (ts rest : List Symbol) (found : List AnnotationText) → reads room annotations ts ≡ done found rest → turned (found_to found) (reads room behind_annotations rest) ≡ reads room first_params ts
unfolding first_params
first-joined room ts rest found e = rw e (go (reads room behind_annotations rest))
  where
    go : (o : Outcome FirstRest) → turned (found_to found) o ≡ turned first_from (o >>= λ y a. done (found, y) a)
    go (done y a) = refl
    go (fault at) = refl
    go (deep at) = refl

pub plain-joined : (room : ℕ) (ts : List Symbol) (found : List AnnotationText) → starts (27 ∷ []) ts ≡ false → turned (apply_to (annotated_only found)) (reads room (based (nest first_rest)) ts) ≡ turned (found_to found) (reads room behind_annotations ts)
unfolding behind_annotations
plain-joined room ts found s = rw s (go (reads room (based (nest first_rest)) ts))
  where
    go : (o : Outcome (BaseType × ParamRest)) → turned (apply_to (annotated_only found)) o ≡ turned (found_to found) (turned plain_first o)
    go (done y a) = refl
    go (fault at) = refl
    go (deep at) = refl

-- `final`, the modifiers behind it, and the rest of the parameter
final-rest : (found : List AnnotationText) (t : Symbol) (ks : List Mark) (q : Outcome (BaseType × ParamRest))
    → turned (apply_to (with_marks (final_and found) ks)) q ≡ turned (found_to found) (turned final_first (turned second_of ((q >>= λ y a. done (ks, y) a) >>= λ y a. done (t, y) a)))
final-rest found t ks (done y a) = refl
final-rest found t ks (fault at) = refl
final-rest found t ks (deep at) = refl

final-marks : (room : ℕ) (ts rest after : List Symbol) (found : List AnnotationText) (t : Symbol) (ks : List Mark) → starts (27 ∷ []) ts ≡ true → one_at (27 ∷ []) ts ≡ done t rest → reads room (many param_modifier) rest ≡ done ks after
    → turned (apply_to (with_marks (final_and found) ks)) (reads room (based (nest param_rest)) after) ≡ turned (found_to found) (reads room behind_annotations ts)
unfolding behind_annotations
final-marks room ts rest after found t ks s one marks = rw (s, one, marks) (final-rest found t ks (reads room (based (nest param_rest)) after))

pub final-joined : (room : ℕ) (ts rest after : List Symbol) (found : List AnnotationText) (t : Symbol) (m : Modifiers) → starts (27 ∷ []) ts ≡ true → one_at (27 ∷ []) ts ≡ done t rest
    → turned (with_marks (final_and found)) (reads room (many param_modifier) rest) ≡ done m after → turned (apply_to m) (reads room (based (nest param_rest)) after) ≡ turned (found_to found) (reads room behind_annotations ts)
final-joined room ts rest after found t m s one e =
    let p = turned_done (with_marks (final_and found)) (reads room (many param_modifier) rest) m after e in
    ap (λ (n : Modifiers). turned (apply_to n) (reads room (based (nest param_rest)) after)) p.2 ∙ final-marks room ts rest after found t p.0 s one p.1

pub final-fails : (room : ℕ) (ts rest : List Symbol) (found : List AnnotationText) (t : Symbol) (e : ReadFault) → starts (27 ∷ []) ts ≡ true → one_at (27 ∷ []) ts ≡ done t rest
    → Fails e (turned (with_marks (final_and found)) (reads room (many param_modifier) rest)) → Fails e (turned (found_to found) (reads room behind_annotations ts))
unfolding behind_annotations
final-fails room ts rest found t e s one p =
    let marks : Fails e (reads room (many param_modifier) rest) = unturned_fails (with_marks (final_and found)) e (reads room (many param_modifier) rest) p in
    rw (s, one) (turned_fails (found_to found) e _ (turned_fails final_first e _ (turned_fails second_of e _ (bind-fails (λ y a. done (t, y) a) e _ (bind-fails (λ ks r2. reads room (based (nest param_rest)) r2 >>= λ y a. done (ks, y) a) e _ marks)))))

pub final-shut : (room : ℕ) (ts : List Symbol) (found : List AnnotationText) (e : ReadFault) → starts (27 ∷ []) ts ≡ true → Fails e (one_at (27 ∷ []) ts) → Fails e (turned (found_to found) (reads room behind_annotations ts))
unfolding behind_annotations
final-shut room ts found e s p =
    rw s (turned_fails (found_to found) e _ (turned_fails final_first e _ (turned_fails second_of e _ (bind-fails (λ t r. (reads room (many param_modifier) r >>= λ ks r2. reads room (based (nest param_rest)) r2 >>= λ y a. done (ks, y) a) >>= λ y a. done (t, y) a) e _ p))))

-- ---- parameters behind commas

abbrev some_of : List ParamAt × Bool → Option (List ParamAt × Bool)
some_of ps = Some ps

optional-read : (o : Outcome (List ParamAt × Bool)) → turned params_or_none (turned some_of o) ≡ o
optional-read (done ps rest) = refl
optional-read (fault at) = refl
optional-read (deep at) = refl

later-opens : (room : ℕ) (ts : List Symbol) → starts (68 ∷ []) ts ≡ true → later_params room ts ≡ reads room next_params ts
later-opens room ts s =
    ap (λ (c : Bool). turned params_or_none (cond c (turned some_of (reads room next_params ts)) (done None ts))) (ap (λ (ks : List ℕ). starts ks ts) next_params_first ∙ s) ∙ optional-read (reads room next_params ts)

behind-twice : (front more : List ParamAt) (o : Outcome (List ParamAt × Bool)) → turned (params_behind (front ++ more)) o ≡ turned (params_behind front) (turned (params_behind more) o)
behind-twice front more (done ps rest) = ap (λ (all : List ParamAt). done (all, ps.1) rest) (append_assoc front more ps.0)
behind-twice front more (fault at) = refl
behind-twice front more (deep at) = refl

-- one parameter more
pub params-goes : (room : ℕ) (front next : List ParamAt) (ts after : List Symbol) (p : Option ParamAt) (last : Bool) (total : Outcome (List ParamAt × Bool)) → starts (68 ∷ []) ts ≡ true → reads room next_params ts ≡ param_then room p last after → last ≡ false
    → next ≡ front ++ one_or_none p → turned (params_behind front) (later_params room ts) ≡ total → turned (params_behind next) (later_params room after) ≡ total
params-goes room front next ts after p last total s e more is so_far =
    ap (λ (all : List ParamAt). turned (params_behind all) (later_params room after)) is
    ∙ (behind-twice front (one_or_none p) (later_params room after)
    ∙ (sym (ap (turned (params_behind front)) (later-opens room ts s ∙ (e ∙ ap (λ (b : Bool). param_then room p b after) more))) ∙ so_far))

-- the last parameter
pub params-last : (room : ℕ) (front next : List ParamAt) (ts after : List Symbol) (p : Option ParamAt) (last : Bool) (total : Outcome (List ParamAt × Bool)) → starts (68 ∷ []) ts ≡ true → reads room next_params ts ≡ param_then room p last after → last ≡ true
    → next ≡ front ++ one_or_none p → turned (params_behind front) (later_params room ts) ≡ total → total ≡ done (next, true) after
params-last room front next ts after p last total s e none is so_far =
    sym so_far ∙ (ap (turned (params_behind front)) (later-opens room ts s ∙ (e ∙ ap (λ (b : Bool). param_then room p b after) none)) ∙ ap (λ (all : List ParamAt). done (all, true) after) (sym is))

pub params-fails : (room : ℕ) (front : List ParamAt) (ts : List Symbol) (e : ReadFault) (total : Outcome (List ParamAt × Bool)) → starts (68 ∷ []) ts ≡ true → Fails e (reads room next_params ts) → turned (params_behind front) (later_params room ts) ≡ total → Fails e total
params-fails room front ts e total s p so_far =
    fails-as e total (turned (params_behind front) (reads room next_params ts)) (sym so_far ∙ ap (turned (params_behind front)) (later-opens room ts s)) (turned_fails (params_behind front) e (reads room next_params ts) p)

-- no further comma
pub params-stops : (room : ℕ) (front : List ParamAt) (ts : List Symbol) (total : Outcome (List ParamAt × Bool)) → starts (68 ∷ []) ts ≡ false → turned (params_behind front) (later_params room ts) ≡ total → total ≡ done (front, false) ts
params-stops room front ts total s so_far =
    sym so_far
    ∙ (ap (λ (c : Bool). turned (params_behind front) (turned params_or_none (cond c (turned some_of (reads room next_params ts)) (done None ts)))) (ap (λ (ks : List ℕ). starts ks ts) next_params_first ∙ s)
    ∙ ap (λ (all : List ParamAt). done (all, false) ts) (append-nil front))

-- ---- all of them

pub some-last : (room : ℕ) (next : List ParamAt) (ts after : List Symbol) (p : Option ParamAt) (last : Bool) → reads room first_params ts ≡ param_then room p last after → last ≡ true → next ≡ [] ++ one_or_none p → reads room first_params ts ≡ done (next, true) after
some-last room next ts after p last e none is = e ∙ (ap (λ (b : Bool). param_then room p b after) none ∙ ap (λ (all : List ParamAt). done (all, true) after) (sym is))

pub some-more : (room : ℕ) (next : List ParamAt) (ts after : List Symbol) (p : Option ParamAt) (last : Bool) → reads room first_params ts ≡ param_then room p last after → last ≡ false → next ≡ [] ++ one_or_none p → reads room first_params ts ≡ turned (params_behind next) (later_params room after)
some-more room next ts after p last e more is = e ∙ (ap (λ (b : Bool). param_then room p b after) more ∙ ap (λ (all : List ParamAt). turned (params_behind all) (later_params room after)) (sym is))

-- what is behind a symbol is fewer
pub one-fewer : (ks : List ℕ) (ts : List Symbol) (x : Symbol) (rest : List Symbol) → one_at ks ts ≡ done x rest → length rest + 1 ≤ length ts
one-fewer ks ts x rest e = word-shorter ks ts x rest e

pub first-fails : (room : ℕ) (ts : List Symbol) (e : ReadFault) → Fails e (reads room annotations ts) → Fails e (reads room first_params ts)
unfolding first_params
first-fails room ts e p = turned_fails first_from e _ (bind-fails (λ x r. reads room behind_annotations r >>= λ y a. done (x, y) a) e (reads room annotations ts) p)

pub next-shut : (room : ℕ) (ts : List Symbol) (e : ReadFault) → Fails e (one_at (68 ∷ []) ts) → Fails e (reads room next_params ts)
unfolding next_params
next-shut room ts e p = turned_fails second_of e _ (bind-fails (λ x r. reads room params_from r >>= λ y a. done (x, y) a) e (one_at (68 ∷ []) ts) p)

pub next-fails : (room : ℕ) (ts rest : List Symbol) (t : Symbol) (e : ReadFault) → one_at (68 ∷ []) ts ≡ done t rest → Fails e (reads room param_modifiers rest) → Fails e (reads room next_params ts)
unfolding next_params params_from
next-fails room ts rest t e one p =
    rw one (turned_fails second_of e _ (bind-fails (λ y a. done (t, y) a) e _ (turned_fails apply_rest e _ (bind-fails (λ m r. reads room (based (nest param_rest)) r >>= λ y a. done (m, y) a) e (reads room param_modifiers rest) p))))
