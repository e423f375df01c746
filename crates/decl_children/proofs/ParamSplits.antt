-- The rest of a parameter is its steps up to its end, and the parameters behind it; and from these it is put together.
use Rattle.std.proofs.Common.{◌≡◌, ℕ, zero, suc, ◌*◌, ◌<◌, ◌≤◌, Bool, true, false, List, [], ◌∷◌, ◌++◌, Option, Some, None, length, inl, refl, sym, ap, subst, ◌∙◌, append_assoc, length-append, arith, ⊎_elim}
use Rattle.std.proofs.lemmas.List.{append-nil}
use Rattle.apt_base.specs.declared.around.Around.{Around}
use Rattle.decl_grammar.specs.declared.symbol.Symbol.{Symbol}
use Rattle.decl_grammar.specs.declared.written.ParamAt.{ParamAt}
use Rattle.decl_grammar.specs.declared.written.ParamEnd.{ParamEnd}
use Rattle.decl_grammar.specs.declared.written.ParamEnd.TheVariants as param_end
use Rattle.decl_grammar.specs.declared.written.NameAt.{NameAt}
use Rattle.decl_grammar.specs.Symbols.{numbers}
use Rattle.decl_grammar.specs.Reading.{has, starts, done}
use Rattle.decl_grammar.specs.Form.{Form, ParamRest, ats, param_rest, first_rest, turn, either, nullable, first}
use Rattle.decl_grammar.specs.Types.{name, annotation, annotations, annotation_body, annotation_arguments, pairs_or_value, first_pair, next_pair, named_text, dot_name, name_chain, dim}
use Rattle.decl_grammar.specs.Grammar.{in_array, bracket_rest, annotated_rest, varargs, ended_last, ended_with, named_end, receiver, dot_this, with_dims, some_dims, param_rest_form, first_rest_form}
use Rattle.decl_grammar.specs.Rule.{reads}
use Rattle.decl_types.specs.Params.{some_end, bracket_step, varargs_step, annotated_step, param_step, first_step, first_end}
use Rattle.decl_grammar.proofs.OneToken.{ok, more, disjoint}
use Rattle.decl_grammar.proofs.Progress.{bind_done, done_rest}
use Rattle.decl_grammar.proofs.Rivals.{plain}
use Rattle.decl_grammar.proofs.RuleFair.{fair}
use Rattle.decl_grammar.proofs.Knot.{sound-plain}
use Rattle.decl_children.specs.ParamReads.{step_form, after_step, end_read, EndRead, takes_any, TailWhole}
use Rattle.decl_crossings.proofs.PhraseReads.{whole-reads, read-phrase}
use Rattle.decl_children.proofs.Phrases.{Phrase, at-left, at-right, nested, moved, means, un-turn, un-either, un-nest}
use Rattle.decl_children.proofs.ParamForms.{rest_form, Stepped, EndsAny, bracket-out, varargs-out, annotated-out, bracket-in, annotated-in, bracket-none, varargs-end, annotated-end}
use Rattle.decl_children.proofs.ParamEnds.{comma-stops, nonempty, at-bracket, at-annotated, at-varargs, at-last, end-none, end-some, done-value}
use Rattle.decl_children.proofs.ParamLasts.{last_form, last_rest, Tail, last-out, last-in}

-- ---- the last step as a form

last-ok : (b : Bool) → ok (last_form b) ≡ true
unfolding numbers name named_text dot_name name_chain first_pair next_pair pairs_or_value annotation_arguments annotation_body annotation annotations dim named_end receiver first_end dot_this with_dims some_dims
last-ok true = refl
last-ok false = refl

last-plain : (b : Bool) → plain (last_form b) ≡ true
unfolding numbers name named_text dot_name name_chain first_pair next_pair pairs_or_value annotation_arguments annotation_body annotation annotations dim named_end receiver first_end dot_this with_dims some_dims
last-plain true = refl
last-plain false = refl

last-more : (b : Bool) → has (more (last_form b)) 68 ≡ false
unfolding name annotation_body annotation_arguments annotation annotations dim named_end receiver first_end dot_this with_dims some_dims
last-more true = refl
last-more false = refl

last-never : (b : Bool) → nullable (last_form b) ≡ false
unfolding name named_end receiver first_end
last-never true = refl
last-never false = refl

last-square : (b : Bool) → disjoint (first (last_form b)) (65 ∷ []) ≡ true
unfolding name named_end receiver first_end
last-square true = refl
last-square false = refl

last-ats : (b : Bool) → disjoint (first (last_form b)) ats ≡ true
unfolding name named_end receiver first_end
last-ats true = refl
last-ats false = refl

last-dots : (b : Bool) → disjoint (first (last_form b)) (70 ∷ []) ≡ true
unfolding name named_end receiver first_end
last-dots true = refl
last-dots false = refl

last-reads : (b : Bool) (room : ℕ) (us ws : List Symbol) (o : Option ParamEnd) → 3 * length (us ++ ws) ≤ room → starts (68 ∷ []) ws ≡ true → Phrase (last_form b) us o → reads room (last_form b) (us ++ ws) ≡ done o ws
last-reads b room us ws o fits comma p =
    whole-reads (last_form b) (sound-plain fair (last_form b) (last-ok b) (last-plain b)) room us ws o fits (comma-stops (more (last_form b)) (last-more b) ws comma) p.is

-- a step is one of four
abbrev stepped : Form (Option ParamEnd) → Form (Option ParamEnd)
stepped last = either bracket_step (either annotated_step (either varargs_step last))

step-at : (b : Bool) (room : ℕ) (ts : List Symbol) (o : Option ParamEnd) (at : List Symbol) → reads room (stepped (last_form b)) ts ≡ done o at → reads room (step_form b) ts ≡ done o at
unfolding param_step first_step
step-at true room ts o at e = e
step-at false room ts o at e = e

step-of : (b : Bool) (us : List Symbol) (o : Option ParamEnd) → Phrase (step_form b) us o → Phrase (stepped (last_form b)) us o
unfolding param_step first_step
step-of true us o p = p
step-of false us o p = p

-- and so is the rest
abbrev rested : Bool → Form ParamRest
rested b = either (bracket_rest (rest_form b)) (either (annotated_rest (rest_form b)) (either (turn ended_last varargs) (last_rest b)))

rest-of : (b : Bool) (us : List Symbol) (x : ParamRest) → Phrase (rest_form b) us x → Phrase (rested b) us x
unfolding param_rest_form first_rest_form
rest-of true us x p = un-nest first_rest p
rest-of false us x p = un-nest param_rest p

rest-in : (b : Bool) (us : List Symbol) (x : ParamRest) → Phrase (rested b) us x → Phrase (rest_form b) us x
unfolding param_rest_form first_rest_form
rest-in true us x p = nested first_rest p
rest-in false us x p = nested param_rest p

-- ---- taken apart

-- the end of a parameter is read, and behind it are further ones or nothing
pub record Split (room : ℕ) (b : Bool) (us : List Symbol) (x : ParamRest) (ws : List Symbol) : Type 0 where
  pub front : List Symbol
  pub back : List Symbol
  pub parts : us ≡ front ++ back
  pub ends : EndRead room b (us ++ ws) x.1.0 (back ++ ws)
  pub tail : Tail back x.1.1

split-end : (room : ℕ) (b : Bool) (us : List Symbol) (x : ParamRest) (ws front back : List Symbol) (e : ParamEnd) → us ≡ front ++ back → e ≡ x.1.0 → reads room (step_form b) (front ++ (back ++ ws)) ≡ done (Some e) (back ++ ws) → Tail back x.1.1
    → Split room b us x ws
split-end room b us x ws front back e parts is read_there tail =
    let all : us ++ ws ≡ front ++ (back ++ ws) = ap (λ (ts : List Symbol). ts ++ ws) parts ∙ append_assoc front back ws in
    record {
      front = front;
      back = back;
      parts = parts;
      ends = end-some room b (us ++ ws) x.1.0 (back ++ ws) (ap (λ (ts : List Symbol). reads room (step_form b) ts) all ∙ (read_there ∙ ap (λ (d : ParamEnd). done (Some d) (back ++ ws)) is));
      tail = tail;
    }

split-step : (room : ℕ) (b : Bool) (us : List Symbol) (x y : ParamRest) (ws front back : List Symbol) → us ≡ front ++ back → x ≡ in_array y → reads room (step_form b) (front ++ (back ++ ws)) ≡ done None (back ++ ws) → Split room b back y ws → Split room b us x ws
split-step room b us x y ws front back parts is read_there s =
    let all : us ++ ws ≡ front ++ (back ++ ws) = ap (λ (ts : List Symbol). ts ++ ws) parts ∙ append_assoc front back ws in
    let same : y.1.0 ≡ x.1.0 = ap (λ (z : ParamRest). z.1.0) (sym is) in
    record {
      front = front ++ s.front;
      back = s.back;
      parts = parts ∙ (ap (λ (ts : List Symbol). front ++ ts) s.parts ∙ sym (append_assoc front s.front s.back));
      ends =
          end-none room b (us ++ ws) (back ++ ws) x.1.0 (s.back ++ ws) (ap (λ (ts : List Symbol). reads room (step_form b) ts) all ∙ read_there)
          (subst (λ (d : ParamEnd). EndRead room b (back ++ ws) d (s.back ++ ws)) same s.ends);
      tail = subst (λ (ps : List ParamAt × Bool). Tail s.back ps) (ap (λ (z : ParamRest). z.1.1) (sym is)) s.tail;
    }

-- a parameter of any number, with nothing behind it
split-any : (room : ℕ) (b : Bool) (us : List Symbol) (x : ParamRest) (ws : List Symbol) (e : ParamEnd) → x ≡ ended_last e → reads room (step_form b) (us ++ ws) ≡ done (Some e) ws → Split room b us x ws
split-any room b us x ws e is read_there =
    split-end room b us x ws us [] e (sym (append-nil us)) (ap (λ (z : ParamRest). z.1.0) (sym is)) read_there (inl (refl, ap (λ (z : ParamRest). z.1.1) is))

abbrev Fits : ℕ → List Symbol → Type 0
Fits room ts = 3 * length ts ≤ room

fits-same : (room : ℕ) (ts us : List Symbol) → ts ≡ us → Fits room ts → Fits room us
fits-same room ts us e fits = subst (λ (zs : List Symbol). Fits room zs) e fits

bracket-full : nullable bracket_step ≡ false
unfolding bracket_step
bracket-full = refl

annotated-full : nullable annotated_step ≡ false
unfolding annotated_step annotation
annotated-full = refl

-- what is left behind a step is shorter
further : (n room : ℕ) (b : Bool) (us ws front back : List Symbol) (y : ParamRest)
    → ((zs : List Symbol) (z : ParamRest) → length zs < n → Fits room (zs ++ ws) → Phrase (rest_form b) zs z → Split room b zs z ws) → length us < suc n → Fits room (us ++ ws) → us ≡ front ++ back → 1 ≤ length front → Phrase (rest_form b) back y
    → Split room b back y ws
further n room b us ws front back y rec lt fits parts some q =
    rec back y (omega (arith, lt, some, ap length parts ∙ length-append front back)) (omega (arith, fits, ap length parts, length-append front back, length-append us ws, length-append back ws)) q

pub splits : (n room : ℕ) (b : Bool) (us : List Symbol) (x : ParamRest) (ws : List Symbol) → length us < n → Fits room (us ++ ws) → starts (68 ∷ []) ws ≡ true → ((ts : List Symbol) (ps : List ParamAt × Bool) → Tail ts ps → starts (68 ∷ []) (ts ++ ws) ≡ true)
    → Phrase (rest_form b) us x → Split room b us x ws
splits zero room b us x ws lt fits comma tails p = absurd (omega (arith, lt))
splits (suc n) room b us x ws lt fits comma tails p =
    let rec = λ (zs : List Symbol) (z : ParamRest) (less : length zs < n) (inner : Fits room (zs ++ ws)) (q : Phrase (rest_form b) zs z). splits n room b zs z ws less inner comma tails q in
    ⊎_elim
    (λ (q : Phrase (bracket_rest (rest_form b)) us x).
    let s = bracket-out (rest_form b) us x q in
    let all = fits-same room (us ++ ws) (s.front ++ (s.back ++ ws)) (ap (λ (ts : List Symbol). ts ++ ws) s.parts ∙ append_assoc s.front s.back ws) fits in
    split-step room b us x s.value ws s.front s.back s.parts s.is_value (step-at b room (s.front ++ (s.back ++ ws)) None (s.back ++ ws) (at-bracket (last_form b) room s.front (s.back ++ ws) None all s.first))
    (further n room b us ws s.front s.back s.value rec lt fits s.parts (nonempty bracket_step bracket-full s.front None s.first) s.second))
    (λ (q : Phrase (either (annotated_rest (rest_form b)) (either (turn ended_last varargs) (last_rest b))) us x).
    ⊎_elim
    (λ (r : Phrase (annotated_rest (rest_form b)) us x).
    ⊎_elim
    (λ (s : Stepped annotated_step (rest_form b) us x).
    let all = fits-same room (us ++ ws) (s.front ++ (s.back ++ ws)) (ap (λ (ts : List Symbol). ts ++ ws) s.parts ∙ append_assoc s.front s.back ws) fits in
    split-step room b us x s.value ws s.front s.back s.parts s.is_value (step-at b room (s.front ++ (s.back ++ ws)) None (s.back ++ ws) (at-annotated (last_form b) room s.front (s.back ++ ws) None all s.first))
    (further n room b us ws s.front s.back s.value rec lt fits s.parts (nonempty annotated_step annotated-full s.front None s.first) s.second))
    (λ (s : EndsAny annotated_step us x).
    split-any room b us x ws (param_end.AnyNumber s.name) s.is_value (step-at b room (us ++ ws) (Some (param_end.AnyNumber s.name)) ws (at-annotated (last_form b) room us ws (Some (param_end.AnyNumber s.name)) fits s.whole)))
    (annotated-out (rest_form b) us x r))
    (λ (r : Phrase (either (turn ended_last varargs) (last_rest b)) us x).
    ⊎_elim
    (λ (v : Phrase (turn ended_last varargs) us x).
    let s = varargs-out us x v in
    split-any room b us x ws (param_end.AnyNumber s.name) s.is_value (step-at b room (us ++ ws) (Some (param_end.AnyNumber s.name)) ws (at-varargs (last_form b) room us ws (Some (param_end.AnyNumber s.name)) fits s.whole)))
    (λ (v : Phrase (last_rest b) us x).
    let s = last-out b us x v in
    let all = fits-same room (us ++ ws) (s.front ++ (s.back ++ ws)) (ap (λ (ts : List Symbol). ts ++ ws) s.parts ∙ append_assoc s.front s.back ws) fits in
    let there = last-reads b room s.front (s.back ++ ws) (Some x.1.0) all (tails s.back x.1.1 s.tail) s.step in
    split-end room b us x ws s.front s.back x.1.0 s.parts refl
    (step-at b room (s.front ++ (s.back ++ ws)) (Some x.1.0) (s.back ++ ws) (at-last (last_form b) room s.front (s.back ++ ws) (Some x.1.0) (last-never b) (last-square b) (last-ats b) (last-dots b) s.step there)) s.tail)
    (un-either r))
    (un-either q))
    (un-either (rest-of b us x p))

-- ---- put together

pub record Grown (room : ℕ) (b : Bool) (ts : List Symbol) (e : ParamEnd) (rest vs : List Symbol) (items : List ParamAt) : Type 0 where
  pub front : List Symbol
  pub around : List Around
  pub parts : ts ≡ front ++ rest
  pub whole : Phrase (rest_form b) (front ++ vs) (around, (e, (items, false)))

grown-step : (b : Bool) (us vs : List Symbol) (y : ParamRest) → Phrase (step_form b) us None → Phrase (rest_form b) vs y → Phrase (rest_form b) (us ++ vs) (in_array y)
grown-step b us vs y p q =
    rest-in b (us ++ vs) (in_array y)
    (⊎_elim (λ (z : Phrase bracket_step us None). at-left (either (annotated_rest (rest_form b)) (either (turn ended_last varargs) (last_rest b))) (bracket-in (rest_form b) us vs None y z q))
    (λ (z : Phrase (either annotated_step (either varargs_step (last_form b))) us None).
    at-right (bracket_rest (rest_form b))
    (⊎_elim (λ (w : Phrase annotated_step us None). at-left (either (turn ended_last varargs) (last_rest b)) (annotated-in (rest_form b) us vs y w q))
    (λ (w : Phrase (either varargs_step (last_form b)) us None).
    absurd (⊎_elim (λ (v : Phrase varargs_step us None). let n = varargs-end us None v in none-some (param_end.AnyNumber n.0) n.1) (λ (v : Phrase (last_form b) us None). last-none b us v) (un-either w)))
    (un-either z)))
    (un-either (step-of b us None p)))
  where
    none-some : (d : ParamEnd) → None ≡ Some d → ⊥
    none-some d same = absurd cc

    last-none : (c : Bool) (zs : List Symbol) → Phrase (last_form c) zs None → ⊥
    last-none true zs v =
        ⊎_elim (λ (z : Phrase (turn some_end receiver) zs None). let t = un-turn z in none-some t.value t.is_value)
        (λ (z : Phrase (turn some_end first_end) zs None). let t = un-turn z in none-some t.value t.is_value) (un-either v)
    last-none false zs v =
        let t = un-turn v in
        none-some t.value t.is_value

grown-end : (b : Bool) (us vs : List Symbol) (e : ParamEnd) (items : List ParamAt) → Phrase (step_form b) us (Some e) → takes_any e ≡ false → TailWhole vs items → Phrase (rest_form b) (us ++ vs) (ended_with e (items, false))
grown-end b us vs e items p one tail =
    rest-in b (us ++ vs) (ended_with e (items, false))
    (⊎_elim (λ (z : Phrase bracket_step us (Some e)). absurd (bracket-none us e z))
    (λ (z : Phrase (either annotated_step (either varargs_step (last_form b))) us (Some e)).
    at-right (bracket_rest (rest_form b))
    (⊎_elim (λ (w : Phrase annotated_step us (Some e)). absurd (annotated-end us e w one))
    (λ (w : Phrase (either varargs_step (last_form b)) us (Some e)).
    at-right (annotated_rest (rest_form b))
    (⊎_elim (λ (v : Phrase varargs_step us (Some e)). let n = varargs-end us (Some e) v in absurd (any-not e n.0 n.1 one))
    (λ (v : Phrase (last_form b) us (Some e)). at-right (turn ended_last varargs) (last-in b us vs e items v tail)) (un-either w)))
    (un-either z)))
    (un-either (step-of b us (Some e) p)))
  where
    any-not : (d : ParamEnd) (n : NameAt) → Some d ≡ Some (param_end.AnyNumber n) → takes_any d ≡ false → ⊥
    any-not (param_end.Named m ds) n same f = absurd cc
    any-not (param_end.AnyNumber m) n same f = absurd cc
    any-not param_end.Receiver n same f = absurd cc

pub grows : (k room : ℕ) (b : Bool) (ts : List Symbol) (e : ParamEnd) (rest vs : List Symbol) (items : List ParamAt) → end_read k room b ts ≡ done e rest → takes_any e ≡ false → TailWhole vs items → Grown room b ts e rest vs items
grows zero room b ts e rest vs items r one tail = absurd cc
grows (suc k) room b ts e rest vs items r one tail =
    let p = bind_done (reads room (step_form b) ts) (after_step (end_read k room b)) e rest r in
    let q = read-phrase (step_form b) room ts p.0 p.1 p.2 in
    go (λ (at : List Symbol) (later : end_read k room b at ≡ done e rest). grows k room b at e rest vs items later one tail) p.0 p.1 q.0 q.1 (record { is = q.2 }) p.3
  where
    go : ((at : List Symbol) → end_read k room b at ≡ done e rest → Grown room b at e rest vs items) → (o : Option ParamEnd) (at us : List Symbol) → ts ≡ us ++ at → Phrase (step_form b) us o → after_step (end_read k room b) o at ≡ done e rest
        → Grown room b ts e rest vs items
    go rec None at us parts p later =
        let g = rec at later in
        record {
          front = us ++ g.front;
          around = (in_array (g.around, (e, (items, false)))).0;
          parts = parts ∙ (ap (λ (zs : List Symbol). us ++ zs) g.parts ∙ sym (append_assoc us g.front rest));
          whole = moved ((us ++ g.front) ++ vs) (sym (append_assoc us g.front vs)) (grown-step b us (g.front ++ vs) (g.around, (e, (items, false))) p g.whole);
        }
    go rec (Some d) at us parts p later =
        let same : d ≡ e = done-value d e at rest later in
        let here : at ≡ rest = done_rest d e at rest later in
        record {
          front = us;
          around = [];
          parts = parts ∙ ap (λ (zs : List Symbol). us ++ zs) here;
          whole = grown-end b us vs e items (means (Some e) (ap (λ (z : ParamEnd). Some z) same) p) one tail;
        }
