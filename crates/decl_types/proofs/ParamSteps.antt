-- What stands behind the type of a parameter is a step, and then what stands behind it.
use Rattle.std.proofs.Common.{◌≡◌, ℕ, ◌<◌, Bool, true, false, cond, List, [], ◌∷◌, ◌++◌, length, Option, Some, None, refl, sym, ap, ◌∙◌, append_assoc}
use Rattle.std.specs.Prelude.{◌||◌}
use Rattle.apt_base.specs.declared.around.Around.{Around}
use Rattle.apt_base.specs.declared.around.Around.TheVariants as around
use Rattle.decl_grammar.specs.declared.written.ParamAt.{ParamAt}
use Rattle.decl_grammar.specs.declared.symbol.Symbol.{Symbol}
use Rattle.decl_grammar.specs.declared.fault.ReadFault.{ReadFault}
use Rattle.decl_grammar.specs.declared.fault.ReadFault.TheVariants as faults
use Rattle.decl_grammar.specs.declared.written.ParamEnd.{ParamEnd}
use Rattle.decl_grammar.specs.declared.written.NameAt.{NameAt}
use Rattle.decl_grammar.specs.declared.written.ParamEnd.TheVariants as param_end
use Rattle.decl_grammar.specs.TokenNames as token
use Rattle.decl_grammar.specs.Reading.{starts, Outcome, done, fault, deep, ◌>>=◌, Fails, one_at}
use Rattle.decl_grammar.specs.Form.{Nest, param_rest, first_rest, ParamRest, Form, terminal, pair, turn, maybe, many, either, nest, first, turned}
use Rattle.decl_grammar.specs.Types.{sign, behind, name_at, dim, annotation, annotations}
use Rattle.decl_grammar.specs.Grammar.{bracket_rest, annotated_rest, varargs, named_with, named_end, receiver, receiver_end, dot_this, with_dims, some_dims, dims_and_rest, comma_first, alone_or, FirstBehind, behind_first_name, first_named, end_named, ended_last, end_and_rest, in_array, next_params, param_rest_form, first_rest_form}
use Rattle.decl_grammar.specs.Rule.{read_nest, reads}
use Rattle.decl_types.specs.Params.{no_end, some_end, bracket_step, varargs_step, annotated_step, param_step, first_end_of, first_end, first_step, end_then, with_items}
use Rattle.decl_grammar.proofs.OneToken.{starts-append}
use Rattle.decl_grammar.proofs.Nests.{free-is}
use Rattle.decl_grammar.proofs.Loop.{falls}
use Rattle.decl_types.proofs.ParamFirsts.{param_step_full, first_step_full}

-- reading one form is reading another, and then this
abbrev Then : {S A : Type 0} → ℕ → Form S → (S → List Symbol → Outcome A) → Form A → Type 0
Then room s k f = (ts : List Symbol) → reads room f ts ≡ (reads room s ts >>= k)

abbrev second_of : {A B : Type 0} → A × B → B
second_of x = x.1

second-read : {A B : Type 0} (x : B) (o : Outcome A) → turned second_of (o >>= λ y a. done (x, y) a) ≡ o
second-read x (done y a) = refl
second-read x (fault at) = refl
second-read x (deep at) = refl

either-then : (room : ℕ) {S A : Type 0} (s1 s2 : Form S) (f1 f2 : Form A) (k : S → List Symbol → Outcome A) → first s1 ≡ first f1 → Then room s1 k f1 → Then room s2 k f2 → Then room (either s1 s2) k (either f1 f2)
either-then room {S} {A} s1 s2 f1 f2 k e one two ts =
    ap (λ (ks : List ℕ). cond (starts ks ts) (reads room f1 ts) (reads room f2 ts)) (sym e) ∙ go (starts (first s1) ts)
  where
    go : (c : Bool) → cond c (reads room f1 ts) (reads room f2 ts) ≡ (cond c (reads room s1 ts) (reads room s2 ts) >>= k)
    go true = one ts
    go false = two ts

behind-then : (room : ℕ) {S A B : Type 0} (g : Form B) (s : Form S) (f : Form A) (k : S → List Symbol → Outcome A) → Then room s k f → Then room (behind g s) k (behind g f)
behind-then room {S} {A} {B} g s f k one ts = go (reads room g ts)
  where
    go : (o : Outcome B) → turned second_of (o >>= λ x rest. reads room f rest >>= λ y a. done (x, y) a) ≡ (turned second_of (o >>= λ x rest. reads room s rest >>= λ y a. done (x, y) a) >>= k)
    go (done x rest) = second-read x (reads room f rest) ∙ (one rest ∙ ap (λ (o : Outcome S). o >>= k) (sym (second-read x (reads room s rest))))
    go (fault at) = refl
    go (deep at) = refl

-- a form behind another, where this reads the second one
last-then : (room : ℕ) {S A B : Type 0} (m : Form B) (s : B → S) (f : Form A) (k : S → List Symbol → Outcome A) → ((x : B) (rest : List Symbol) → k (s x) rest ≡ reads room f rest) → Then room (turn s m) k (behind m f)
last-then room {S} {A} {B} m s f k same ts = go (reads room m ts)
  where
    go : (o : Outcome B) → turned second_of (o >>= λ x rest. reads room f rest >>= λ y a. done (x, y) a) ≡ (turned s o >>= k)
    go (done x rest) = second-read x (reads room f rest) ∙ sym (same x rest)
    go (fault at) = refl
    go (deep at) = refl

-- what may be read behind an end
rest-then : (room : ℕ) {S E B R A : Type 0} (f : Form B) (c : B → E) (s : E → S) (g : Form R) (h : E × R → A) (k : S → List Symbol → Outcome A) → ((x : B) (rest : List Symbol) → k (s (c x)) rest ≡ (reads room g rest >>= λ o a. done (h (c x, o)) a))
    → Then room (turn s (turn c f)) k (turn h (pair (turn c f) g))
rest-then room {S} {E} {B} {R} {A} f c s g h k same ts = go (reads room f ts)
  where
    paired : (e : E) (o : Outcome R) → turned h (o >>= λ y a. done (e, y) a) ≡ (o >>= λ y a. done (h (e, y)) a)
    paired e (done y a) = refl
    paired e (fault at) = refl
    paired e (deep at) = refl

    go : (o : Outcome B) → turned h (turned c o >>= λ x rest. reads room g rest >>= λ y a. done (x, y) a) ≡ (turned s (turned c o) >>= k)
    go (done x rest) = paired (c x) (reads room g rest) ∙ sym (same x rest)
    go (fault at) = refl
    go (deep at) = refl

-- ---- steps

-- what is read behind a step
abbrev pub step_then : ℕ → (List Symbol → Outcome ParamRest) → Option ParamEnd → List Symbol → Outcome ParamRest
step_then room inner None ts = turned in_array (inner ts)
step_then room inner (Some e) ts = end_then room e ts

-- reading behind a type is reading a step and then what stands behind it
abbrev pub StepIs : ℕ → (List Symbol → Outcome ParamRest) → Form (Option ParamEnd) → Type 0
StepIs room inner step = (ts : List Symbol) → inner ts ≡ (reads room step ts >>= step_then room inner)

bracket-then : (room : ℕ) (m : Nest) (rest : Form ParamRest) → Then room bracket_step (step_then room (reads room rest)) (bracket_rest rest)
unfolding bracket_step
bracket-then room m rest =
    behind-then room (sign token.open_bracket) (turn no_end (sign token.close_bracket)) (behind (sign token.close_bracket) (turn in_array rest)) (step_then room (reads room rest))
    (last-then room (sign token.close_bracket) no_end (turn in_array rest) (step_then room (reads room rest)) (λ x ts. refl))

varargs-then : (room : ℕ) (inner : List Symbol → Outcome ParamRest) → Then room varargs_step (step_then room inner) (turn ended_last varargs)
unfolding varargs_step varargs
varargs-then room inner ts = go (reads room (behind (sign token.ellipsis) name_at) ts)
  where
    go : (o : Outcome NameAt) → turned ended_last (turned (λ n. param_end.AnyNumber n) o) ≡ (turned some_end (turned (λ n. param_end.AnyNumber n) o) >>= step_then room inner)
    go (done n rest) = refl
    go (fault at) = refl
    go (deep at) = refl

annotated-then : (room : ℕ) (m : Nest) (rest : Form ParamRest) → Then room annotated_step (step_then room (reads room rest)) (annotated_rest rest)
unfolding annotated_step bracket_step
annotated-then room m rest =
    let k = step_then room (reads room rest) in
    behind-then room annotation (behind annotations (either bracket_step varargs_step)) (behind annotations (either (bracket_rest rest) (turn ended_last varargs))) k
    (behind-then room annotations (either bracket_step varargs_step) (either (bracket_rest rest) (turn ended_last varargs)) k
    (either-then room bracket_step varargs_step (bracket_rest rest) (turn ended_last varargs) k refl (bracket-then room m rest) (varargs-then room (reads room rest))))

named-then : (room : ℕ) (inner : List Symbol → Outcome ParamRest) → Then room (turn some_end named_end) (step_then room inner) (turn end_and_rest (pair named_end (maybe next_params)))
unfolding named_end
named-then room inner = rest-then room (pair name_at (many dim)) named_with some_end (maybe next_params) end_and_rest (step_then room inner) (λ x rest. refl)

receiver-then : (room : ℕ) (inner : List Symbol → Outcome ParamRest) → Then room (turn some_end receiver) (step_then room inner) (turn end_and_rest (pair receiver (maybe next_params)))
unfolding receiver
receiver-then room inner = rest-then room (terminal (52 ∷ [])) receiver_end some_end (maybe next_params) end_and_rest (step_then room inner) (λ x rest. refl)

pub param-steps : (room : ℕ) → StepIs room (read_nest room param_rest) param_step
unfolding param_rest_form param_step bracket_step annotated_step varargs_step varargs annotation
param-steps room ts =
    let f = nest param_rest in
    let k = step_then room (reads room f) in
    free-is param_rest refl room ts
    ∙ either-then room bracket_step (either annotated_step (either varargs_step (turn some_end named_end))) (bracket_rest f) (either (annotated_rest f) (either (turn ended_last varargs) (turn end_and_rest (pair named_end (maybe next_params))))) k refl
    (bracket-then room param_rest f)
    (either-then room annotated_step (either varargs_step (turn some_end named_end)) (annotated_rest f) (either (turn ended_last varargs) (turn end_and_rest (pair named_end (maybe next_params)))) k refl
    (annotated-then room param_rest f)
    (either-then room varargs_step (turn some_end named_end) (turn ended_last varargs) (turn end_and_rest (pair named_end (maybe next_params))) k refl
    (varargs-then room (reads room f)) (named-then room (reads room f)))) ts

-- ---- the name of a first parameter

abbrev end_read : ℕ → ParamEnd → List Symbol → Outcome ParamRest
end_read room e ts = reads room (maybe next_params) ts >>= λ o rest. done (end_and_rest (e, o)) rest

end-named-then : (room : ℕ) (n : NameAt) (d : Option (List Around)) (ts : List Symbol) → end_then room (end_named n d) ts ≡ end_read room (end_named n d) ts
end-named-then room n None ts = refl
end-named-then room n (Some ds) ts = refl

-- behind the name: the brackets or the `this`, and the parameters behind them
abbrev behind_read : Outcome (Option (List Around)) → Outcome (Option (List Around)) → (List Symbol → Outcome (Option (List ParamAt × Bool))) → Outcome (List ParamAt × Bool) → Bool → Bool → Bool → List Symbol → Outcome FirstBehind
behind_read a b next p c1 c2 c3 ts =
    turned alone_or (cond (c1 || (c2 || c3)) (turned (λ x. Some x) (cond c1 (turned dims_and_rest (a >>= λ x r. next r >>= λ y z. done (x, y) z)) (cond c2 (turned dims_and_rest (b >>= λ x r. next r >>= λ y z. done (x, y) z)) (turned comma_first p)))) (done None ts))

abbrev end_step : Outcome (Option (List Around)) → Outcome (Option (List Around)) → Bool → Bool → List Symbol → Outcome (Option (Option (List Around)))
end_step a b c1 c2 ts = cond (c1 || c2) (turned (λ x. Some x) (cond c1 a b)) (done None ts)

abbrev paired : {A B : Type 0} → A → Outcome B → Outcome (A × B)
paired x o = o >>= λ y z. done (x, y) z

first-name-read : (room : ℕ) (n : NameAt) (a b : Outcome (Option (List Around))) (p : Outcome (List ParamAt × Bool)) (c1 c2 c3 : Bool) (ts : List Symbol)
    → reads room (maybe next_params) ts ≡ cond c3 (turned (λ x. Some x) p) (done None ts)
    → turned first_named (paired n (behind_read a b (reads room (maybe next_params)) p c1 c2 c3 ts)) ≡ (turned first_end_of (paired n (end_step a b c1 c2 ts)) >>= end_then room)
first-name-read room n a b p true c2 c3 ts e = go a
  where
    later : (d : Option (List Around)) (o : Outcome (Option (List ParamAt × Bool))) → turned first_named (paired n (turned alone_or (turned (λ x. Some x) (turned dims_and_rest (paired d o))))) ≡ (o >>= λ v z. done (end_and_rest (end_named n d, v)) z)
    later d (done v z) = refl
    later d (fault at) = refl
    later d (deep at) = refl

    go : (a : Outcome (Option (List Around))) → turned first_named (paired n (turned alone_or (turned (λ x. Some x) (turned dims_and_rest (a >>= λ x r. reads room (maybe next_params) r >>= λ y z. done (x, y) z))))) ≡ (turned first_end_of (paired n (turned (λ x. Some x) a)) >>= end_then room)
    go (done d r) = later d (reads room (maybe next_params) r) ∙ sym (end-named-then room n d r)
    go (fault at) = refl
    go (deep at) = refl
first-name-read room n a b p false true c3 ts e = go b
  where
    later : (d : Option (List Around)) (o : Outcome (Option (List ParamAt × Bool))) → turned first_named (paired n (turned alone_or (turned (λ x. Some x) (turned dims_and_rest (paired d o))))) ≡ (o >>= λ v z. done (end_and_rest (end_named n d, v)) z)
    later d (done v z) = refl
    later d (fault at) = refl
    later d (deep at) = refl

    go : (a : Outcome (Option (List Around))) → turned first_named (paired n (turned alone_or (turned (λ x. Some x) (turned dims_and_rest (a >>= λ x r. reads room (maybe next_params) r >>= λ y z. done (x, y) z))))) ≡ (turned first_end_of (paired n (turned (λ x. Some x) a)) >>= end_then room)
    go (done d r) = later d (reads room (maybe next_params) r) ∙ sym (end-named-then room n d r)
    go (fault at) = refl
    go (deep at) = refl
first-name-read room n a b p false false true ts e = go p ∙ ap (λ (o : Outcome (Option (List ParamAt × Bool))). o >>= λ v z. done (end_and_rest (param_end.Named n [], v)) z) (sym e)
  where
    go : (p : Outcome (List ParamAt × Bool)) → turned first_named (paired n (turned alone_or (turned (λ x. Some x) (turned comma_first p)))) ≡ (turned (λ x. Some x) p >>= λ v z. done (end_and_rest (param_end.Named n [], v)) z)
    go (done v z) = refl
    go (fault at) = refl
    go (deep at) = refl
first-name-read room n a b p false false false ts e = ap (λ (o : Outcome (Option (List ParamAt × Bool))). o >>= λ v z. done (end_and_rest (param_end.Named n [], v)) z) (sym e)

first-name-then : (room : ℕ) (inner : List Symbol → Outcome ParamRest) → Then room (turn some_end first_end) (step_then room inner) (turn first_named (pair name_at behind_first_name))
unfolding first_end behind_first_name dot_this with_dims some_dims dim next_params one_at annotations
first-name-then room inner ts = go (reads room name_at ts)
  where
    some_then : (o : Outcome ParamEnd) → (turned some_end o >>= step_then room inner) ≡ (o >>= end_then room)
    some_then (done e rest) = refl
    some_then (fault at) = refl
    some_then (deep at) = refl

    behind : (n : NameAt) (rest : List Symbol) → turned first_named (paired n (reads room behind_first_name rest)) ≡ (turned first_end_of (paired n (reads room (maybe (either dot_this with_dims)) rest)) >>= end_then room)
    behind n rest =
        let a = reads room dot_this rest in
        let b = reads room with_dims rest in
        let p = reads room next_params rest in
        let next = reads room (maybe next_params) in
        let c1 = starts (first dot_this) rest in
        let c2 = starts (first with_dims) rest in
        let c3 = starts (first next_params) rest in
        ap (λ (c : Bool). turned first_named (paired n (turned alone_or (cond c (turned (λ x. Some x) (cond c1 (turned dims_and_rest (a >>= λ x r. next r >>= λ y z. done (x, y) z)) (cond c2 (turned dims_and_rest (b >>= λ x r. next r >>= λ y z. done (x, y) z)) (turned comma_first p)))) (done None rest)))))
        (starts-append (first dot_this) (first with_dims ++ first next_params) rest ∙ ap (λ (c : Bool). c1 || c) (starts-append (first with_dims) (first next_params) rest))
        ∙ (first-name-read room n a b p c1 c2 c3 rest refl
        ∙ ap (λ (c : Bool). turned first_end_of (paired n (cond c (turned (λ x. Some x) (cond c1 a b)) (done None rest))) >>= end_then room) (sym (starts-append (first dot_this) (first with_dims) rest)))

    go : (o : Outcome NameAt) → turned first_named (o >>= λ n rest. reads room behind_first_name rest >>= λ y z. done (n, y) z) ≡ (turned some_end (turned first_end_of (o >>= λ n rest. reads room (maybe (either dot_this with_dims)) rest >>= λ y z. done (n, y) z)) >>= step_then room inner)
    go (done n rest) = behind n rest ∙ sym (some_then (turned first_end_of (paired n (reads room (maybe (either dot_this with_dims)) rest))))
    go (fault at) = refl
    go (deep at) = refl

receiver-begins : first (turn some_end receiver) ≡ first (turn end_and_rest (pair receiver (maybe next_params)))
unfolding receiver
receiver-begins = refl

pub first-steps : (room : ℕ) → StepIs room (read_nest room first_rest) first_step
unfolding first_rest_form first_step bracket_step annotated_step varargs_step varargs annotation
first-steps room ts =
    let f = nest first_rest in
    let k = step_then room (reads room f) in
    let s4 = either (turn some_end receiver) (turn some_end first_end) in
    let f4 = either (turn end_and_rest (pair receiver (maybe next_params))) (turn first_named (pair name_at behind_first_name)) in
    free-is first_rest refl room ts
    ∙ either-then room bracket_step (either annotated_step (either varargs_step s4)) (bracket_rest f) (either (annotated_rest f) (either (turn ended_last varargs) f4)) k refl
    (bracket-then room first_rest f)
    (either-then room annotated_step (either varargs_step s4) (annotated_rest f) (either (turn ended_last varargs) f4) k refl
    (annotated-then room first_rest f)
    (either-then room varargs_step s4 (turn ended_last varargs) f4 k refl
    (varargs-then room (reads room f))
    (either-then room (turn some_end receiver) (turn some_end first_end) (turn end_and_rest (pair receiver (maybe next_params))) (turn first_named (pair name_at behind_first_name)) k receiver-begins
    (receiver-then room (reads room f)) (first-name-then room (reads room f))))) ts

-- ---- a loop over steps

pub items-none : (o : Outcome ParamRest) → turned (with_items []) o ≡ o
items-none (done x rest) = refl
items-none (fault at) = refl
items-none (deep at) = refl

items-more : (ds : List Around) (o : Outcome ParamRest) → turned (with_items (ds ++ around.Array ∷ [])) o ≡ turned (with_items ds) (turned in_array o)
items-more ds (done x rest) = ap (λ (items : List Around). done (items, x.1) rest) (append_assoc ds (around.Array ∷ []) x.0)
items-more ds (fault at) = refl
items-more ds (deep at) = refl

-- a pair of brackets
pub step-goes : (room : ℕ) (inner : List Symbol → Outcome ParamRest) (step : Form (Option ParamEnd)) → StepIs room inner step → (ds : List Around) (ts : List Symbol) (o : Option ParamEnd) (after : List Symbol) (total : Outcome ParamRest)
    → reads room step ts ≡ done o after → o ≡ None → turned (with_items ds) (inner ts) ≡ total → turned (with_items (ds ++ around.Array ∷ [])) (inner after) ≡ total
step-goes room inner step is ds ts o after total e none so_far =
    items-more ds (inner after) ∙ (sym (ap (turned (with_items ds)) (is ts ∙ (ap (λ (r : Outcome (Option ParamEnd)). r >>= step_then room inner) e ∙ ap (λ (v : Option ParamEnd). step_then room inner v after) none))) ∙ so_far)

-- the end of a parameter
pub step-ends : (room : ℕ) (inner : List Symbol → Outcome ParamRest) (step : Form (Option ParamEnd)) → StepIs room inner step → (ds : List Around) (ts : List Symbol) (o : Option ParamEnd) (x : ParamEnd) (after : List Symbol) (total : Outcome ParamRest)
    → reads room step ts ≡ done o after → o ≡ Some x → turned (with_items ds) (inner ts) ≡ total → total ≡ turned (with_items ds) (end_then room x after)
step-ends room inner step is ds ts o x after total e some so_far =
    sym so_far ∙ ap (turned (with_items ds)) (is ts ∙ (ap (λ (r : Outcome (Option ParamEnd)). r >>= step_then room inner) e ∙ ap (λ (v : Option ParamEnd). step_then room inner v after) some))

pub step-fails : (room : ℕ) (inner : List Symbol → Outcome ParamRest) (step : Form (Option ParamEnd)) → StepIs room inner step → (ds : List Around) (ts : List Symbol) (e : ReadFault) (total : Outcome ParamRest)
    → Fails e (reads room step ts) → turned (with_items ds) (inner ts) ≡ total → Fails e total
step-fails room inner step is ds ts faults.Memory total p so_far = tt
step-fails room inner step is ds ts (faults.Bad n) total p so_far =
    (p.0, sym so_far ∙ ap (turned (with_items ds)) (is ts ∙ ap (λ (r : Outcome (Option ParamEnd)). r >>= step_then room inner) p.1), p.2)
step-fails room inner step is ds ts (faults.Deep n) total p so_far =
    (p.0, sym so_far ∙ ap (turned (with_items ds)) (is ts ∙ ap (λ (r : Outcome (Option ParamEnd)). r >>= step_then room inner) p.1), p.2)

pub param-step-falls : (room : ℕ) (ts : List Symbol) (o : Option ParamEnd) (after : List Symbol) → reads room param_step ts ≡ done o after → length after < length ts
param-step-falls room ts o after e = falls room param_step ts o after param_step_full e

pub first-step-falls : (room : ℕ) (ts : List Symbol) (o : Option ParamEnd) (after : List Symbol) → reads room first_step ts ≡ done o after → length after < length ts
first-step-falls room ts o after e = falls room first_step ts o after first_step_full e
