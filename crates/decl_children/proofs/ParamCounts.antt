-- A walk over parameters: what is said of the ones that are left, step by step.
use Rattle.std.proofs.Common.{◌≡◌, ℕ, ◌+◌, ◌*◌, ◌<◌, ◌≤◌, Bool, true, false, List, [], ◌∷◌, ◌++◌, drop, length, inl, inr, refl, sym, ap, subst, ◌∙◌, append_assoc, arith}
use Rattle.std.proofs.lemmas.Bool.{eqb-true}
use Rattle.apt_base.specs.Limits.{max_children}
use Rattle.decl_grammar.specs.declared.symbol.Symbol.{Symbol}
use Rattle.decl_grammar.specs.declared.written.ParamAt.{ParamAt}
use Rattle.decl_grammar.specs.declared.written.ParamEnd.{ParamEnd}
use Rattle.decl_grammar.specs.Symbols.{operator}
use Rattle.decl_grammar.specs.TokenNames as token
use Rattle.decl_grammar.specs.Reading.{has, starts}
use Rattle.decl_grammar.specs.Form.{ats, names, primitive_sorts, nullable, first}
use Rattle.decl_grammar.specs.Types.{sign, annotation, annotations, base_type, class_type, named_part, name, primitive_type}
use Rattle.decl_grammar.specs.Grammar.{param_modifier, param_modifiers, params_from, next_params, behind_annotations, first_params}
use Rattle.decl_grammar.proofs.OneToken.{within, within-has}
use Rattle.decl_limits.specs.Children.{OpensWith, FurtherParam}
use Rattle.decl_children.specs.ParamReads.{ParamRead, FirstRead, arguments_of, takes_any, TailWhole, TailCrowds, ParamsCrowd}
use Rattle.decl_children.proofs.CommaRows.{item-starts, opens-has, has-opens}
use Rattle.decl_children.proofs.Phrases.{Phrase, put-behind, un-behind}
use Rattle.decl_children.proofs.ParamTails.{param-apart, first-apart, param-together, first-together}

-- what a parameter may begin with, in the order of the code
abbrev pub param_firsts : List ℕ
param_firsts = ats ++ ((27 ∷ []) ++ (primitive_sorts ++ names))

from-within : within (first params_from) param_firsts ≡ true
unfolding base_type class_type named_part name primitive_type annotation param_modifier param_modifiers params_from
from-within = refl

within-from : within param_firsts (first params_from) ≡ true
unfolding base_type class_type named_part name primitive_type annotation param_modifier param_modifiers params_from
within-from = refl

first-within : within (first first_params) param_firsts ≡ true
unfolding base_type class_type named_part name primitive_type annotation annotations behind_annotations first_params
first-within = refl

within-first : within param_firsts (first first_params) ≡ true
unfolding base_type class_type named_part name primitive_type annotation annotations behind_annotations first_params
within-first = refl

from-never : nullable params_from ≡ false
unfolding base_type class_type named_part name primitive_type param_modifier param_modifiers params_from
from-never = refl

first-never : nullable first_params ≡ false
unfolding base_type class_type named_part name primitive_type behind_annotations annotations first_params
first-never = refl

starts-within : (ks ls : List ℕ) → within ks ls ≡ true → (ts : List Symbol) → starts ks ts ≡ true → starts ls ts ≡ true
starts-within ks ls w [] s = s
starts-within ks ls w (t ∷ ts) s = within-has ks ls t.sort w s

-- ---- further parameters

-- a comma, a parameter behind it and the others
pub record Goes (n room : ℕ) (ts : List Symbol) : Type 0 where
  pub end : ParamEnd
  pub after : List Symbol
  pub comma : starts (68 ∷ []) ts ≡ true
  pub there : ParamRead room (drop 1 ts) end after
  pub one : takes_any end ≡ false
  pub rest : TailCrowds (n + arguments_of end) after

-- the symbols of a front that is full, with those behind it
whole-front : (front : List Symbol) (c t : Symbol) (vs : List Symbol) → (front ++ c ∷ t ∷ []) ++ vs ≡ front ++ (c ∷ t ∷ vs)
whole-front front c t vs = append_assoc front (c ∷ t ∷ []) vs

-- a comma, and parameters
pub record Comma (ts : List Symbol) (ps : List ParamAt × Bool) : Type 0 where
  pub mark : Symbol
  pub back : List Symbol
  pub parts : ts ≡ mark ∷ back
  pub is_comma : has (68 ∷ []) mark.sort ≡ true
  pub whole : Phrase params_from back ps

comma-of : (ts : List Symbol) (ps : List ParamAt × Bool) → Phrase next_params ts ps → Comma ts ps
unfolding next_params
comma-of ts ps p =
    let b = un-behind p in
    record { mark = b.value; back = b.back; parts = b.parts ∙ ap (λ (zs : List Symbol). zs ++ b.back) b.first.is.1.0; is_comma = b.first.is.1.1; whole = b.second }

of-comma : (t : Symbol) (ts : List Symbol) (ps : List ParamAt × Bool) → has (68 ∷ []) t.sort ≡ true → Phrase params_from ts ps → Phrase next_params (t ∷ ts) ps
unfolding next_params
of-comma t ts ps s p =
    let there : Phrase (sign token.comma) (t ∷ []) t = record { is = (0, (refl, s)) } in
    put-behind there p

-- what is left of a front that is full
tail-left : (n k : ℕ) (back : List Symbol) (later items : List ParamAt) (c t : Symbol) (vs : List Symbol) → TailWhole back later → c.sort ≡ operator token.comma → OpensWith params_from t → max_children ≤ n + length items → length items ≡ k + length later → TailCrowds (n + k) (back ++ (c ∷ t ∷ vs))
tail-left n k back later items c t vs whole is begins le count = (
  back ++ c ∷ t ∷ [],
  vs,
  sym (whole-front back c t vs),
  record { front = back; comma = c; next = t; items = later; parts = refl; is_comma = is; whole = whole; begins = begins; many = omega (arith, le, count) },
)

pub tail-goes : (n room : ℕ) (ts : List Symbol) → 3 * length ts ≤ room → n < max_children → TailCrowds n ts → Goes n room ts
tail-goes n room ts fits lt (us, vs, e, f) = go f.whole
  where
    behind : List Symbol
    behind = f.comma ∷ f.next ∷ vs

    all : ts ≡ f.front ++ behind
    all = e ∙ (ap (λ (zs : List Symbol). zs ++ vs) f.parts ∙ whole-front f.front f.comma f.next vs)

    go : TailWhole f.front f.items → Goes n room ts
    go (inl none) = absurd (omega (arith, lt, f.many, ap length none.1))
    go (inr is) =
        let c = comma-of f.front (f.items, false) (record { is = is }) in
        let here : ts ≡ c.mark ∷ (c.back ++ behind) = all ∙ ap (λ (zs : List Symbol). zs ++ behind) c.parts in
        let a = param-apart room c.back behind f.items (omega (arith, fits, ap length here)) (f.comma, f.next ∷ vs, refl, f.is_comma) c.whole in
        record {
          end = a.end;
          after = a.back ++ behind;
          comma = ap (λ (zs : List Symbol). starts (68 ∷ []) zs) here ∙ c.is_comma;
          there = subst (λ (zs : List Symbol). ParamRead room (drop 1 zs) a.end (a.back ++ behind)) (sym here) a.there;
          one = a.one;
          rest = tail-left n (arguments_of a.end) a.back a.later f.items f.comma f.next vs a.tail f.is_comma f.begins f.many a.count;
        }

-- the other way round
four : (t : Symbol) (zs front : List Symbol) (c x : Symbol) (vs : List Symbol) → t ∷ (zs ++ ((front ++ c ∷ x ∷ []) ++ vs)) ≡ ((t ∷ (zs ++ front)) ++ c ∷ x ∷ []) ++ vs
four t zs front c x vs =
    ap (λ (ys : List Symbol). t ∷ ys) (ap (λ (ys : List Symbol). zs ++ ys) (append_assoc front (c ∷ x ∷ []) vs) ∙ (sym (append_assoc zs front (c ∷ x ∷ vs)) ∙ sym (append_assoc (zs ++ front) (c ∷ x ∷ []) vs)))

pub tail-back : (n room : ℕ) (ts : List Symbol) (end : ParamEnd) (after : List Symbol) → starts (68 ∷ []) ts ≡ true → ParamRead room (drop 1 ts) end after → takes_any end ≡ false → TailCrowds (n + arguments_of end) after → TailCrowds n ts
tail-back n room [] end after s r one c = absurd cc
tail-back n room (t ∷ ts) end after s r one (us, vs, e, f) =
    let g = param-together room ts end after f.front f.items r one f.whole in
    let all : t ∷ ts ≡ ((t ∷ (g.front ++ f.front)) ++ f.comma ∷ f.next ∷ []) ++ vs =
    ap (λ (zs : List Symbol). t ∷ zs) (g.parts ∙ ap (λ (zs : List Symbol). g.front ++ zs) (e ∙ ap (λ (zs : List Symbol). zs ++ vs) f.parts)) ∙ four t g.front f.front f.comma f.next vs in (
      (t ∷ (g.front ++ f.front)) ++ f.comma ∷ f.next ∷ [],
      vs,
      all,
      record {
        front = t ∷ (g.front ++ f.front);
        comma = f.comma;
        next = f.next;
        items = g.items;
        parts = refl;
        is_comma = f.is_comma;
        whole = inr (of-comma t (g.front ++ f.front) (g.items, false) s g.whole).is;
        begins = f.begins;
        many = omega (arith, f.many, g.count);
      },
    )

-- as many as there may be: a further one may begin
pub tail-full : (n : ℕ) (ts : List Symbol) → max_children ≤ n → starts (68 ∷ []) ts ≡ true → starts param_firsts (drop 1 ts) ≡ true → TailCrowds n ts
tail-full n [] le s b = absurd cc
tail-full n (t ∷ []) le s b = absurd cc
tail-full n (t ∷ u ∷ ts) le s b = (
  t ∷ u ∷ [],
  ts,
  refl,
  record { front = []; comma = t; next = u; items = []; parts = refl; is_comma = eqb-true t.sort 68 s; whole = inl (refl, refl); begins = has-opens params_from u (starts-within param_firsts (first params_from) within-from (u ∷ ts) b); many = omega (arith, le) },
)

-- where they are too many, a comma and a parameter stand first
pub tail-begins : (n : ℕ) (ts : List Symbol) → TailCrowds n ts → (starts (68 ∷ []) ts ≡ true) × (starts param_firsts (drop 1 ts) ≡ true)
tail-begins n ts (us, vs, e, f) = go f.whole
  where
    behind : List Symbol
    behind = f.comma ∷ f.next ∷ vs

    all : ts ≡ f.front ++ behind
    all = e ∙ (ap (λ (zs : List Symbol). zs ++ vs) f.parts ∙ whole-front f.front f.comma f.next vs)

    go : TailWhole f.front f.items → (starts (68 ∷ []) ts ≡ true) × (starts param_firsts (drop 1 ts) ≡ true)
    go (inl none) =
        let here : ts ≡ behind = all ∙ ap (λ (zs : List Symbol). zs ++ behind) none.0 in (
          ap (λ (zs : List Symbol). starts (68 ∷ []) zs) here ∙ ap (λ (k : ℕ). has (68 ∷ []) k) f.is_comma,
          ap (λ (zs : List Symbol). starts param_firsts (drop 1 zs)) here ∙ within-has (first params_from) param_firsts f.next.sort from-within (opens-has params_from f.next f.begins),
        )
    go (inr is) =
        let c = comma-of f.front (f.items, false) (record { is = is }) in
        let here : ts ≡ c.mark ∷ (c.back ++ behind) = all ∙ ap (λ (zs : List Symbol). zs ++ behind) c.parts in (
          ap (λ (zs : List Symbol). starts (68 ∷ []) zs) here ∙ c.is_comma,
          ap (λ (zs : List Symbol). starts param_firsts (drop 1 zs)) here ∙ starts-within (first params_from) param_firsts from-within (c.back ++ behind) (item-starts params_from from-never c.back behind (f.items, false) c.whole.is),
        )

-- ---- all of them, from the bracket on

pub record Begun (n room : ℕ) (ts : List Symbol) : Type 0 where
  pub end : ParamEnd
  pub after : List Symbol
  pub there : FirstRead room ts end after
  pub one : takes_any end ≡ false
  pub rest : TailCrowds (n + arguments_of end) after

list-behind : (t u : Symbol) (ts us : List Symbol) → t ∷ ts ≡ u ∷ us → ts ≡ us
list-behind t u ts us e = cc

pub params-goes : (n room : ℕ) (ts : List Symbol) → 3 * length ts ≤ room → n < max_children → ParamsCrowd n ts → Begun n room (drop 1 ts)
params-goes n room [] fits lt (us, vs, e, (m, inl d, le)) = absurd (omega (arith, lt, le, d.5))
params-goes n room (t ∷ ts) fits lt (us, vs, e, (m, inl d, le)) = absurd (omega (arith, lt, le, d.5))
params-goes n room [] fits lt (us, vs, e, (m, inr f, le)) = absurd (let p = e ∙ ap (λ (zs : List Symbol). zs ++ vs) f.parts in cc)
params-goes n room (t ∷ ts) fits lt (us, vs, e, (m, inr f, le)) =
    let behind : List Symbol = f.comma ∷ f.next ∷ vs in
    let all : ts ≡ f.front ++ behind = list-behind t f.opening ts ((f.front ++ f.comma ∷ f.next ∷ []) ++ vs) (e ∙ ap (λ (zs : List Symbol). zs ++ vs) f.parts) ∙ whole-front f.front f.comma f.next vs in
    let a = first-apart room f.front behind f.items (omega (arith, fits, ap length all)) (f.comma, f.next ∷ vs, refl, f.is_comma) (record { is = f.whole }) in
    record {
      end = a.end;
      after = a.back ++ behind;
      there = subst (λ (zs : List Symbol). FirstRead room zs a.end (a.back ++ behind)) (sym all) a.there;
      one = a.one;
      rest = tail-left n (arguments_of a.end) a.back a.later f.items f.comma f.next vs a.tail f.is_comma f.begins (omega (arith, le, f.count)) a.count;
    }

pub params-back : (n room : ℕ) (ts : List Symbol) (end : ParamEnd) (after : List Symbol) → starts (61 ∷ []) ts ≡ true → FirstRead room (drop 1 ts) end after → takes_any end ≡ false → TailCrowds (n + arguments_of end) after → ParamsCrowd n ts
params-back n room [] end after s r one c = absurd cc
params-back n room (t ∷ ts) end after s r one (us, vs, e, f) =
    let g = first-together room ts end after f.front f.items r one f.whole in
    let all : t ∷ ts ≡ ((t ∷ (g.front ++ f.front)) ++ f.comma ∷ f.next ∷ []) ++ vs =
    ap (λ (zs : List Symbol). t ∷ zs) (g.parts ∙ ap (λ (zs : List Symbol). g.front ++ zs) (e ∙ ap (λ (zs : List Symbol). zs ++ vs) f.parts)) ∙ four t g.front f.front f.comma f.next vs in
    let further : FurtherParam ((t ∷ (g.front ++ f.front)) ++ f.comma ∷ f.next ∷ []) (length g.items) =
    record { opening = t; front = g.front ++ f.front; comma = f.comma; next = f.next; items = g.items; parts = refl; is_opening = eqb-true t.sort 61 s; is_comma = f.is_comma; whole = g.whole.is; begins = f.begins; count = refl } in
    ((t ∷ (g.front ++ f.front)) ++ f.comma ∷ f.next ∷ [], vs, all, (length g.items, inr further, omega (arith, f.many, g.count)))

pub params-full : (n : ℕ) (ts : List Symbol) → max_children ≤ n → starts (61 ∷ []) ts ≡ true → starts param_firsts (drop 1 ts) ≡ true → ParamsCrowd n ts
params-full n [] le s b = absurd cc
params-full n (t ∷ []) le s b = absurd cc
params-full n (t ∷ u ∷ ts) le s b =
    (t ∷ u ∷ [], ts, refl, (0, inl (t, u, refl, eqb-true t.sort 61 s, has-opens first_params u (starts-within param_firsts (first first_params) within-first (u ∷ ts) b), refl), omega (arith, le)))

behind-two : (t u x : Symbol) (ts vs : List Symbol) → t ∷ ts ≡ u ∷ x ∷ vs → ts ≡ x ∷ vs
behind-two t u x ts vs e = cc

pub params-begins : (n : ℕ) (ts : List Symbol) → ParamsCrowd n ts → starts param_firsts (drop 1 ts) ≡ true
params-begins n [] (us, vs, e, (m, inl d, le)) = absurd (let p = e ∙ ap (λ (zs : List Symbol). zs ++ vs) d.2 in cc)
params-begins n [] (us, vs, e, (m, inr f, le)) = absurd (let p = e ∙ ap (λ (zs : List Symbol). zs ++ vs) f.parts in cc)
params-begins n (t ∷ ts) (us, vs, e, (m, inl d, le)) =
    let all : ts ≡ d.1 ∷ vs = behind-two t d.0 d.1 ts vs (e ∙ ap (λ (zs : List Symbol). zs ++ vs) d.2) in
    ap (λ (zs : List Symbol). starts param_firsts zs) all ∙ within-has (first first_params) param_firsts (d.1).sort first-within (opens-has first_params d.1 d.4)
params-begins n (t ∷ ts) (us, vs, e, (m, inr f, le)) =
    let behind : List Symbol = f.comma ∷ f.next ∷ vs in
    let all : ts ≡ f.front ++ behind = list-behind t f.opening ts ((f.front ++ f.comma ∷ f.next ∷ []) ++ vs) (e ∙ ap (λ (zs : List Symbol). zs ++ vs) f.parts) ∙ whole-front f.front f.comma f.next vs in
    ap (λ (zs : List Symbol). starts param_firsts zs) all ∙ starts-within (first first_params) param_firsts first-within (f.front ++ behind) (item-starts first_params first-never f.front behind (f.items, false) f.whole)
