-- The last step of a parameter, with the parameters behind it: taken from the rest of a parameter, and put together again.
use Rattle.std.proofs.Common.{◌≡◌, ℕ, Bool, true, false, List, [], ◌∷◌, ◌++◌, Option, Some, None, ◌⊎◌, inl, inr, refl, sym, ap, subst, ◌∙◌, append_assoc, ⊎_elim}
use Rattle.std.proofs.lemmas.List.{append-nil}
use Rattle.apt_base.specs.declared.around.Around.{Around}
use Rattle.decl_grammar.specs.declared.symbol.Symbol.{Symbol}
use Rattle.decl_grammar.specs.declared.written.NameAt.{NameAt}
use Rattle.decl_grammar.specs.declared.written.ParamAt.{ParamAt}
use Rattle.decl_grammar.specs.declared.written.ParamEnd.{ParamEnd}
use Rattle.decl_grammar.specs.Symbols.{operator}
use Rattle.decl_grammar.specs.TokenNames as token
use Rattle.decl_grammar.specs.Reading.{has, starts}
use Rattle.decl_grammar.specs.Form.{Form, ParamRest, pair, turn, maybe, either, first, nullable}
use Rattle.decl_grammar.specs.Types.{name_at}
use Rattle.decl_grammar.specs.Grammar.{FirstBehind, ended_with, end_and_rest, no_params, named_end, next_params, params_or_none, receiver, dot_this, with_dims, end_named, behind_first_name, first_named, dims_and_rest, comma_first, alone_or}
use Rattle.decl_types.specs.Params.{some_end, first_end, first_end_of, this_or_name, dims_or_none}
use Rattle.decl_children.specs.ParamReads.{TailWhole}
use Rattle.decl_children.proofs.CommaRows.{item-starts}
use Rattle.decl_children.proofs.Phrases.{Phrase, paired, turned, some-there, none-there, at-left, at-right, moved, means, un-pair, un-turn, un-maybe, un-either}
use Rattle.decl_children.proofs.ParamForms.{same-end}

-- the last step of a first parameter, and of a further one, alone and with the parameters behind it
abbrev pub last_form : Bool → Form (Option ParamEnd)
last_form true = this_or_name
last_form false = turn some_end named_end

abbrev pub last_rest : Bool → Form ParamRest
last_rest true = either (turn end_and_rest (pair receiver (maybe next_params))) (turn first_named (pair name_at behind_first_name))
last_rest false = turn end_and_rest (pair named_end (maybe next_params))

-- nothing, or a comma and parameters
abbrev pub Tail : List Symbol → List ParamAt × Bool → Type 0
Tail ts ps = ((ts ≡ []) × (ps ≡ no_params)) ⊎ Phrase next_params ts ps

next-first : first next_params ≡ 68 ∷ []
unfolding next_params
next-first = refl

next-never : nullable next_params ≡ false
unfolding next_params
next-never = refl

pub tail-starts : (ts : List Symbol) (ps : List ParamAt × Bool) → Tail ts ps → (c : Symbol) (ws : List Symbol) → c.sort ≡ operator token.comma → starts (68 ∷ []) (ts ++ c ∷ ws) ≡ true
tail-starts ts ps (inl e) c ws is = ap (λ (zs : List Symbol). starts (68 ∷ []) (zs ++ c ∷ ws)) e.0 ∙ ap (λ (n : ℕ). has (68 ∷ []) n) is
tail-starts ts ps (inr p) c ws is = ap (λ (ks : List ℕ). starts ks (ts ++ c ∷ ws)) (sym next-first) ∙ item-starts next_params next-never ts (c ∷ ws) ps p.is

tail-of : (ts : List Symbol) (o : Option (List ParamAt × Bool)) → Phrase (maybe next_params) ts o → Tail ts (params_or_none o)
tail-of ts o p =
    ⊎_elim (λ (n : (o ≡ None) × (ts ≡ [])). inl (n.1, ap params_or_none n.0))
    (λ (s : (ps : List ParamAt × Bool) × (o ≡ Some ps) × Phrase next_params ts ps). inr (means (params_or_none o) (ap params_or_none (sym s.1)) s.2))
    (un-maybe p)

tail-moved : (ts : List Symbol) (ps qs : List ParamAt × Bool) → ps ≡ qs → Tail ts ps → Tail ts qs
tail-moved ts ps qs e t = subst (λ (x : List ParamAt × Bool). Tail ts x) e t

-- the last step, and what stands behind it
pub record Last (b : Bool) (us : List Symbol) (x : ParamRest) : Type 0 where
  pub front : List Symbol
  pub back : List Symbol
  pub parts : us ≡ front ++ back
  pub step : Phrase (last_form b) front (Some x.1.0)
  pub tail : Tail back x.1.1

-- from an end and what stands behind it
last-from : (b : Bool) (us front back : List Symbol) (x : ParamRest) (e : ParamEnd) (ps : List ParamAt × Bool) → us ≡ front ++ back → x ≡ ended_with e ps → Phrase (last_form b) front (Some e) → Tail back ps → Last b us x
last-from b us front back x e ps parts is p t =
    record {
      front = front;
      back = back;
      parts = parts;
      step = means (Some x.1.0) (ap (λ (y : ParamRest). Some y.1.0) (sym is)) p;
      tail = tail-moved back ps x.1.1 (ap (λ (y : ParamRest). y.1.1) (sym is)) t;
    }

named-out : (us : List Symbol) (x : ParamRest) → Phrase (turn end_and_rest (pair named_end (maybe next_params))) us x → Last false us x
named-out us x p =
    let a = un-turn p in
    let q = un-pair a.whole in
    last-from false us q.front q.back x a.value.0 (params_or_none a.value.1) q.parts a.is_value (turned some_end q.first) (tail-of q.back a.value.1 q.second)

receiver-out : (us : List Symbol) (x : ParamRest) → Phrase (turn end_and_rest (pair receiver (maybe next_params))) us x → Last true us x
receiver-out us x p =
    let a = un-turn p in
    let q = un-pair a.whole in
    last-from true us q.front q.back x a.value.0 (params_or_none a.value.1) q.parts a.is_value (at-left (turn some_end first_end) (turned some_end q.first)) (tail-of q.back a.value.1 q.second)

-- a name, and what tells what it is
name-end : (us vs : List Symbol) (n : NameAt) (o : Option (Option (List Around))) → Phrase name_at us n → Phrase (maybe (either dot_this with_dims)) vs o → Phrase (last_form true) (us ++ vs) (Some (first_end_of (n, o)))
unfolding first_end
name-end us vs n o p q = at-right (turn some_end receiver) (turned some_end (turned first_end_of (paired p q)))

name-alone : (us : List Symbol) (n : NameAt) → Phrase name_at us n → Phrase (last_form true) us (Some (end_named n (Some [])))
name-alone us n p = moved us (append-nil us) (name-end us [] n None p (none-there (either dot_this with_dims)))

behind-name : (us vs ws : List Symbol) (x : ParamRest) (n : NameAt) (v : FirstBehind) → us ≡ vs ++ ws → x ≡ first_named (n, v) → Phrase name_at vs n
    → Phrase (either (turn dims_and_rest (pair dot_this (maybe next_params))) (either (turn dims_and_rest (pair with_dims (maybe next_params))) (turn comma_first next_params))) ws v → Last true us x
behind-name us vs ws x n v parts is name p =
    ⊎_elim
    (λ (q : Phrase (turn dims_and_rest (pair dot_this (maybe next_params))) ws v).
    let a = un-turn q in
    let r = un-pair a.whole in
    last-from true us (vs ++ r.front) r.back x (end_named n a.value.0) (params_or_none a.value.1) (parts ∙ ap (λ (ts : List Symbol). vs ++ ts) r.parts ∙ sym (append_assoc vs r.front r.back))
    (is ∙ ap (λ (z : FirstBehind). first_named (n, z)) a.is_value) (name-end vs r.front n (Some a.value.0) name (some-there (at-left with_dims r.first))) (tail-of r.back a.value.1 r.second))
    (λ (q : Phrase (either (turn dims_and_rest (pair with_dims (maybe next_params))) (turn comma_first next_params)) ws v).
    ⊎_elim
    (λ (s : Phrase (turn dims_and_rest (pair with_dims (maybe next_params))) ws v).
    let a = un-turn s in
    let r = un-pair a.whole in
    last-from true us (vs ++ r.front) r.back x (end_named n a.value.0) (params_or_none a.value.1) (parts ∙ ap (λ (ts : List Symbol). vs ++ ts) r.parts ∙ sym (append_assoc vs r.front r.back))
    (is ∙ ap (λ (z : FirstBehind). first_named (n, z)) a.is_value) (name-end vs r.front n (Some a.value.0) name (some-there (at-right dot_this r.first))) (tail-of r.back a.value.1 r.second))
    (λ (s : Phrase (turn comma_first next_params) ws v).
    let a = un-turn s in
    last-from true us vs ws x (end_named n (Some [])) a.value parts (is ∙ ap (λ (z : FirstBehind). first_named (n, z)) a.is_value) (name-alone vs n name) (inr a.whole))
    (un-either q))
    (un-either p)

name-out : (us : List Symbol) (x : ParamRest) → Phrase (turn first_named (pair name_at behind_first_name)) us x → Last true us x
unfolding behind_first_name
name-out us x p =
    let a = un-turn p in
    let q = un-pair a.whole in
    let t = un-turn q.second in
    let is : x ≡ first_named (a.value.0, alone_or t.value) = a.is_value ∙ ap (λ (z : FirstBehind). first_named (a.value.0, z)) t.is_value in
    ⊎_elim
    (λ (n : (t.value ≡ None) × (q.back ≡ [])).
    last-from true us q.front q.back x (end_named a.value.0 (Some [])) no_params q.parts (is ∙ ap (λ (z : Option FirstBehind). first_named (a.value.0, alone_or z)) n.0) (name-alone q.front a.value.0 q.first) (inl (n.1, refl)))
    (λ (s : (v : FirstBehind) × (t.value ≡ Some v) × Phrase (either (turn dims_and_rest (pair dot_this (maybe next_params))) (either (turn dims_and_rest (pair with_dims (maybe next_params))) (turn comma_first next_params))) q.back v).
    behind-name us q.front q.back x a.value.0 s.0 q.parts (is ∙ ap (λ (z : Option FirstBehind). first_named (a.value.0, alone_or z)) s.1) q.first s.2)
    (un-maybe t.whole)

pub last-out : (b : Bool) (us : List Symbol) (x : ParamRest) → Phrase (last_rest b) us x → Last b us x
last-out true us x p = ⊎_elim (receiver-out us x) (name-out us x) (un-either p)
last-out false us x p = named-out us x p

-- ---- and together again

-- what stands behind an end
record TailThere (ts : List Symbol) (items : List ParamAt) : Type 0 where
  there : Option (List ParamAt × Bool)
  whole : Phrase (maybe next_params) ts there
  is_all : params_or_none there ≡ (items, false)

tail-there : (ts : List Symbol) (items : List ParamAt) → TailWhole ts items → TailThere ts items
tail-there ts items (inl e) = record { there = None; whole = moved ts (sym e.0) (none-there next_params); is_all = ap (λ (xs : List ParamAt). (xs, false)) (sym e.1) }
tail-there ts items (inr is) = record { there = Some (items, false); whole = some-there (record { is = is }); is_all = refl }

last-with : (f : Form ParamEnd) (us vs : List Symbol) (e d : ParamEnd) (items : List ParamAt) → d ≡ e → Phrase f us d → TailWhole vs items → Phrase (turn end_and_rest (pair f (maybe next_params))) (us ++ vs) (ended_with e (items, false))
last-with f us vs e d items same p tail =
    let t = tail-there vs items tail in
    means (ended_with e (items, false)) (ap (λ (q : List ParamAt × Bool). ended_with d q) t.is_all ∙ ap (λ (z : ParamEnd). ended_with z (items, false)) same) (turned end_and_rest (paired p t.whole))

-- behind a name with nothing that tells what it is
alone-with : (us vs : List Symbol) (n : NameAt) (items : List ParamAt) → Phrase name_at us n → TailWhole vs items → Phrase (turn first_named (pair name_at behind_first_name)) (us ++ vs) (ended_with (end_named n (Some [])) (items, false))
unfolding behind_first_name
alone-with us vs n items p (inl e) =
    let none = turned alone_or (none-there (either (turn dims_and_rest (pair dot_this (maybe next_params))) (either (turn dims_and_rest (pair with_dims (maybe next_params))) (turn comma_first next_params)))) in
    means (ended_with (end_named n (Some [])) (items, false)) (ap (λ (xs : List ParamAt). ended_with (end_named n (Some [])) (xs, false)) (sym e.1)) (turned first_named (paired p (moved vs (sym e.0) none)))
alone-with us vs n items p (inr is) =
    let next : Phrase next_params vs (items, false) = record { is = is } in
    turned first_named
    (paired p (turned alone_or (some-there (at-right (turn dims_and_rest (pair dot_this (maybe next_params))) (at-right (turn dims_and_rest (pair with_dims (maybe next_params))) (turned comma_first next))))))

dot-with : (us vs ws : List Symbol) (n : NameAt) (d : Option (List Around)) (items : List ParamAt) → Phrase name_at us n → Phrase dot_this vs d → TailWhole ws items
    → Phrase (turn first_named (pair name_at behind_first_name)) (us ++ (vs ++ ws)) (ended_with (end_named n d) (items, false))
unfolding behind_first_name
dot-with us vs ws n d items p q tail =
    let t = tail-there ws items tail in
    means (ended_with (end_named n d) (items, false)) (ap (λ (z : List ParamAt × Bool). ended_with (end_named n d) z) t.is_all)
    (turned first_named
    (paired p (turned alone_or (some-there (at-left (either (turn dims_and_rest (pair with_dims (maybe next_params))) (turn comma_first next_params)) (turned dims_and_rest (paired q t.whole)))))))

dims-with : (us vs ws : List Symbol) (n : NameAt) (d : Option (List Around)) (items : List ParamAt) → Phrase name_at us n → Phrase with_dims vs d → TailWhole ws items
    → Phrase (turn first_named (pair name_at behind_first_name)) (us ++ (vs ++ ws)) (ended_with (end_named n d) (items, false))
unfolding behind_first_name
dims-with us vs ws n d items p q tail =
    let t = tail-there ws items tail in
    means (ended_with (end_named n d) (items, false)) (ap (λ (z : List ParamAt × Bool). ended_with (end_named n d) z) t.is_all)
    (turned first_named
    (paired p (turned alone_or (some-there (at-right (turn dims_and_rest (pair dot_this (maybe next_params))) (at-left (turn comma_first next_params) (turned dims_and_rest (paired q t.whole))))))))

first-with : (us vs : List Symbol) (e d : ParamEnd) (items : List ParamAt) → d ≡ e → Phrase first_end us d → TailWhole vs items → Phrase (turn first_named (pair name_at behind_first_name)) (us ++ vs) (ended_with e (items, false))
unfolding first_end
first-with us vs e d items same p tail =
    let u = un-turn p in
    let q = un-pair u.whole in
    let n = u.value.0 in
    let all : us ++ vs ≡ q.front ++ (q.back ++ vs) = ap (λ (ts : List Symbol). ts ++ vs) q.parts ∙ append_assoc q.front q.back vs in
    ⊎_elim
    (λ (z : (u.value.1 ≡ None) × (q.back ≡ [])).
    means (ended_with e (items, false)) (ap (λ (y : ParamEnd). ended_with y (items, false)) (ap (λ (o : Option (Option (List Around))). end_named n (dims_or_none o)) (sym z.0) ∙ (sym u.is_value ∙ same)))
    (moved (us ++ vs) (sym (all ∙ ap (λ (ts : List Symbol). q.front ++ (ts ++ vs)) z.1)) (alone-with q.front vs n items q.first tail)))
    (λ (s : (x : Option (List Around)) × (u.value.1 ≡ Some x) × Phrase (either dot_this with_dims) q.back x).
    means (ended_with e (items, false)) (ap (λ (y : ParamEnd). ended_with y (items, false)) (ap (λ (o : Option (Option (List Around))). end_named n (dims_or_none o)) (sym s.1) ∙ (sym u.is_value ∙ same)))
    (moved (us ++ vs) (sym all)
    (⊎_elim (λ (z : Phrase dot_this q.back s.0). dot-with q.front q.back vs n s.0 items q.first z tail) (λ (z : Phrase with_dims q.back s.0). dims-with q.front q.back vs n s.0 items q.first z tail) (un-either s.2))))
    (un-maybe q.second)

pub last-in : (b : Bool) (us vs : List Symbol) (e : ParamEnd) (items : List ParamAt) → Phrase (last_form b) us (Some e) → TailWhole vs items → Phrase (last_rest b) (us ++ vs) (ended_with e (items, false))
last-in true us vs e items p tail =
    ⊎_elim
    (λ (z : Phrase (turn some_end receiver) us (Some e)).
    let t = un-turn z in
    at-left (turn first_named (pair name_at behind_first_name)) (last-with receiver us vs e t.value items (same-end e t.value t.is_value) t.whole tail))
    (λ (z : Phrase (turn some_end first_end) us (Some e)).
    let t = un-turn z in
    at-right (turn end_and_rest (pair receiver (maybe next_params))) (first-with us vs e t.value items (same-end e t.value t.is_value) t.whole tail))
    (un-either p)
last-in false us vs e items p tail =
    let t = un-turn p in
    last-with named_end us vs e t.value items (same-end e t.value t.is_value) t.whole tail
