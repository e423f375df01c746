-- The steps of a parameter as parts of the rest of a parameter: how each is taken from it, and put before it.
use Rattle.std.proofs.Common.{◌≡◌, Bool, true, false, List, ◌++◌, Option, Some, None, ◌⊎◌, inl, inr, sym, ap, ◌∙◌, append_assoc, ⊎_elim}
use Rattle.decl_grammar.specs.declared.symbol.Symbol.{Symbol}
use Rattle.decl_grammar.specs.declared.written.NameAt.{NameAt}
use Rattle.decl_grammar.specs.declared.written.ParamEnd.{ParamEnd}
use Rattle.decl_grammar.specs.declared.written.ParamEnd.TheVariants as param_end
use Rattle.decl_grammar.specs.Form.{Form, ParamRest, nest, param_rest, first_rest, turn}
use Rattle.decl_grammar.specs.Grammar.{in_array, bracket_rest, annotated_rest, varargs, any_number, ended_last}
use Rattle.decl_types.specs.Params.{no_end, some_end, bracket_step, varargs_step, annotated_step}
use Rattle.decl_children.specs.ParamReads.{takes_any}
use Rattle.decl_children.proofs.Phrases.{Phrase, turned, put-behind, at-left, at-right, moved, un-turn, un-behind, un-either}

-- the rest of a parameter, of the first one or of a further one
abbrev pub rest_form : Bool → Form ParamRest
rest_form true = nest first_rest
rest_form false = nest param_rest

-- a step, and the rest behind it
pub record Stepped (step : Form (Option ParamEnd)) (r : Form ParamRest) (us : List Symbol) (x : ParamRest) : Type 0 where
  pub front : List Symbol
  pub back : List Symbol
  pub value : ParamRest
  pub parts : us ≡ front ++ back
  pub first : Phrase step front None
  pub second : Phrase r back value
  pub is_value : x ≡ in_array value

-- ---- taken from the rest

pub bracket-out : (r : Form ParamRest) (us : List Symbol) (x : ParamRest) → Phrase (bracket_rest r) us x → Stepped bracket_step r us x
unfolding bracket_step
bracket-out r us x p =
    let a = un-behind p in
    let b = un-behind a.second in
    let c = un-turn b.second in
    record {
      front = a.front ++ b.front;
      back = b.back;
      value = c.value;
      parts = a.parts ∙ ap (λ (ts : List Symbol). a.front ++ ts) b.parts ∙ sym (append_assoc a.front b.front b.back);
      first = put-behind a.first (turned no_end b.first);
      second = c.whole;
      is_value = c.is_value;
    }

-- a parameter of any number ends here
pub record EndsAny (step : Form (Option ParamEnd)) (us : List Symbol) (x : ParamRest) : Type 0 where
  pub name : NameAt
  pub whole : Phrase step us (Some (param_end.AnyNumber name))
  pub is_value : x ≡ ended_last (param_end.AnyNumber name)

pub varargs-out : (us : List Symbol) (x : ParamRest) → Phrase (turn ended_last varargs) us x → EndsAny varargs_step us x
unfolding varargs_step varargs
varargs-out us x p =
    let a = un-turn p in
    let b = un-turn a.whole in
    record { name = b.value; whole = turned some_end (turned any_number b.whole); is_value = a.is_value ∙ ap ended_last b.is_value }

pub annotated-out : (r : Form ParamRest) (us : List Symbol) (x : ParamRest) → Phrase (annotated_rest r) us x → Stepped annotated_step r us x ⊎ EndsAny annotated_step us x
unfolding annotated_step
annotated-out r us x p =
    let a = un-behind p in
    let b = un-behind a.second in
    let all = a.parts ∙ ap (λ (ts : List Symbol). a.front ++ ts) b.parts in
    ⊎_elim
    (λ (q : Phrase (bracket_rest r) b.back x).
    let c = bracket-out r b.back x q in
    inl (record {
      front = a.front ++ (b.front ++ c.front);
      back = c.back;
      value = c.value;
      parts = all ∙ ap (λ (ts : List Symbol). a.front ++ (b.front ++ ts)) c.parts ∙ ap (λ (ts : List Symbol). a.front ++ ts) (sym (append_assoc b.front c.front c.back)) ∙ sym (append_assoc a.front (b.front ++ c.front) c.back);
      first = put-behind a.first (put-behind b.first (at-left varargs_step c.first));
      second = c.second;
      is_value = c.is_value;
    }))
    (λ (q : Phrase (turn ended_last varargs) b.back x).
    let c = varargs-out b.back x q in
    inr (record { name = c.name; whole = moved us (sym all) (put-behind a.first (put-behind b.first (at-right bracket_step c.whole))); is_value = c.is_value }))
    (un-either b.second)

-- ---- put before it

no-end-some : (s : Symbol) (e : ParamEnd) → Some e ≡ no_end s → ⊥
no-end-some s e same = absurd cc

some-end-none : (e : ParamEnd) → None ≡ some_end e → ⊥
some-end-none e same = absurd cc

pub same-end : (e d : ParamEnd) → Some e ≡ some_end d → d ≡ e
same-end e d same = cc

pub bracket-in : (r : Form ParamRest) (us vs : List Symbol) (o : Option ParamEnd) (y : ParamRest) → Phrase bracket_step us o → Phrase r vs y → Phrase (bracket_rest r) (us ++ vs) (in_array y)
unfolding bracket_step
bracket-in r us vs o y p q =
    let a = un-behind p in
    let b = un-turn a.second in
    moved (us ++ vs) (sym (ap (λ (ts : List Symbol). ts ++ vs) a.parts ∙ append_assoc a.front a.back vs)) (put-behind a.first (put-behind b.whole (turned in_array q)))

pub bracket-none : (us : List Symbol) (e : ParamEnd) → Phrase bracket_step us (Some e) → ⊥
unfolding bracket_step
bracket-none us e p =
    let a = un-behind p in
    let b = un-turn a.second in
    no-end-some b.value e b.is_value

pub varargs-end : (us : List Symbol) (o : Option ParamEnd) → Phrase varargs_step us o → (n : NameAt) × (o ≡ Some (param_end.AnyNumber n))
unfolding varargs_step varargs
varargs-end us o p =
    let a = un-turn p in
    let b = un-turn a.whole in
    (b.value, a.is_value ∙ ap some_end b.is_value)

pub annotated-in : (r : Form ParamRest) (us vs : List Symbol) (y : ParamRest) → Phrase annotated_step us None → Phrase r vs y → Phrase (annotated_rest r) (us ++ vs) (in_array y)
unfolding annotated_step
annotated-in r us vs y p q =
    let a = un-behind p in
    let b = un-behind a.second in
    let all : us ++ vs ≡ a.front ++ (b.front ++ (b.back ++ vs)) =
    ap (λ (ts : List Symbol). ts ++ vs) a.parts ∙ append_assoc a.front a.back vs ∙ ap (λ (ts : List Symbol). a.front ++ ts) (ap (λ (ts : List Symbol). ts ++ vs) b.parts ∙ append_assoc b.front b.back vs) in
    ⊎_elim
    (λ (z : Phrase bracket_step b.back None). moved (us ++ vs) (sym all) (put-behind a.first (put-behind b.first (at-left (turn ended_last varargs) (bracket-in r b.back vs None y z q)))))
    (λ (z : Phrase varargs_step b.back None). let v = varargs-end b.back None z in absurd (some-end-none (param_end.AnyNumber v.0) v.1))
    (un-either b.second)

-- the end of a parameter with annotations before it takes any number of arguments
pub annotated-end : (us : List Symbol) (e : ParamEnd) → Phrase annotated_step us (Some e) → takes_any e ≡ false → ⊥
unfolding annotated_step
annotated-end us e p one =
    let a = un-behind p in
    let b = un-behind a.second in
    ⊎_elim (λ (z : Phrase bracket_step b.back (Some e)). bracket-none b.back e z) (λ (z : Phrase varargs_step b.back (Some e)). let v = varargs-end b.back (Some e) z in any-not e v.0 v.1 one) (un-either b.second)
  where
    any-not : (d : ParamEnd) (n : NameAt) → Some d ≡ Some (param_end.AnyNumber n) → takes_any d ≡ false → ⊥
    any-not (param_end.Named m ds) n same f = absurd cc
    any-not (param_end.AnyNumber m) n same f = absurd cc
    any-not param_end.Receiver n same f = absurd cc
