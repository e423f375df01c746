-- What stands behind the result of a method, where its name and the bracket of its parameters stand there; of a constructor, its name.
use Rattle.std.proofs.Common.{◌≡◌, ℕ, ◌*◌, ◌≤◌, Bool, true, false, List, [], ◌∷◌, ◌++◌, Option, Some, None, length, drop, inl, inr, refl, sym, ap, subst, ◌∙◌, append_assoc, arith, ⊎_elim}
use Rattle.std.proofs.lemmas.Bool.{eqb-true}
use Rattle.apt_base.specs.declared.around.Around.{Around}
use Rattle.decl_tree.specs.declared.type_text.BaseType.{BaseType}
use Rattle.decl_tree.specs.declared.type_text.BaseType.TheVariants as base
use Rattle.decl_tree.specs.declared.type_text.TypeText.{TypeText}
use Rattle.decl_grammar.specs.declared.symbol.Symbol.{Symbol}
use Rattle.decl_grammar.specs.Symbols.{numbers}
use Rattle.decl_grammar.specs.TokenNames as token
use Rattle.decl_grammar.specs.Reading.{has, starts, done, ◌>>=◌}
use Rattle.decl_grammar.specs.Form.{names, pair, turn, many, either, nest, type_arguments, nullable, first}
use Rattle.decl_grammar.specs.Types.{keyword, silently, name, named_part, next_part, class_type, primitive_type, base_type, dim, annotations, annotation, annotation_body, annotation_arguments, pairs_or_value, first_pair, next_pair, named_text, dot_name, name_chain, first_and_rest, text_of, type_in, type_form}
use Rattle.decl_grammar.specs.Constants.{named_part_of}
use Rattle.decl_grammar.specs.Rule.{reads}
use Rattle.decl_grammar.proofs.Progress.{bind_done, done_rest}
use Rattle.decl_grammar.proofs.OneToken.{ok, more, both, both_true, not_both, disjoint, disjoint-has}
use Rattle.decl_grammar.proofs.Rivals.{plain}
use Rattle.decl_grammar.proofs.RuleFair.{fair}
use Rattle.decl_grammar.proofs.Knot.{IsSound, sound-plain}
use Rattle.decl_limits.specs.Children.{IsFull, NextParam}
use Rattle.decl_children.specs.ParamReads.{ParamsCrowd}
use Rattle.decl_children.specs.Results.{names_constructor, TypeRead, ResultRead, result_form, NamedCrowds}
use Rattle.decl_crossings.proofs.PhraseReads.{whole-reads, read-phrase}
use Rattle.decl_children.proofs.CommaRows.{item-starts}
use Rattle.decl_children.proofs.Phrases.{Phrase, paired, turned, some-there, none-there, at-left, at-right, row-nil, un-pair, un-turn, un-maybe, un-either}
use Rattle.decl_children.proofs.ParamEnds.{starts-apart}

type-ok : ok type_form ≡ true
unfolding numbers name named_text dot_name name_chain first_pair next_pair pairs_or_value annotation_arguments annotation_body annotation annotations primitive_type named_part next_part class_type dim base_type type_form
type-ok = refl

type-plain : plain type_form ≡ true
unfolding numbers name named_text dot_name name_chain first_pair next_pair pairs_or_value annotation_arguments annotation_body annotation annotations primitive_type named_part next_part class_type dim base_type type_form
type-plain = refl

type-sound : IsSound type_form
type-sound = sound-plain fair type_form type-ok type-plain

-- no name goes on with a type, and no bracket of parameters
type-apart : disjoint names (more type_form) ≡ true
unfolding numbers name named_text dot_name name_chain first_pair next_pair pairs_or_value annotation_arguments annotation_body annotation annotations primitive_type named_part next_part class_type dim base_type type_form
type-apart = refl

type-bracket : has (more type_form) 61 ≡ false
unfolding numbers name named_text dot_name name_chain first_pair next_pair pairs_or_value annotation_arguments annotation_body annotation annotations primitive_type named_part next_part class_type dim base_type type_form
type-bracket = refl

type-void : disjoint (first type_form) (57 ∷ []) ≡ true
unfolding name primitive_type named_part class_type base_type type_form
type-void = refl

type-never : nullable type_form ≡ false
unfolding name primitive_type named_part class_type base_type type_form
type-never = refl

-- ---- a type by its base and its brackets

pub type-read : (room : ℕ) (ts at mid : List Symbol) (of : BaseType) (ds : List Around) → reads room base_type ts ≡ done of mid → reads room (many dim) mid ≡ done ds at → reads room type_form ts ≡ done (type_in (of, ds)) at
unfolding type_form
type-read room ts at mid of ds e d = rw (e, d) refl

pub type-parts : (room : ℕ) (ts at : List Symbol) (x : TypeText) → reads room type_form ts ≡ done x at → TypeRead room ts at
unfolding type_form
type-parts room ts at x e =
    let p = bind_done (reads room (pair base_type (many dim)) ts) (λ y end. done (type_in y) end) x at e in
    let q = bind_done (reads room base_type ts) (λ b mid. reads room (many dim) mid >>= λ ds end. done (b, ds) end) p.0 p.1 p.2 in
    let r = bind_done (reads room (many dim) q.1) (λ ds end. done (q.0, ds) end) p.0 p.1 q.3 in
    let same : r.1 ≡ at = done_rest (q.0, r.0) p.0 r.1 p.1 r.3 ∙ done_rest (type_in p.0) x p.1 at p.3 in
    (q.0, q.1, r.0, q.2, r.2 ∙ ap (λ (zs : List Symbol). done r.0 zs) same)

-- a name alone is a type
one-name : (t : Symbol) → has names t.sort ≡ true → (x : TypeText) × Phrase type_form (t ∷ []) x
unfolding type_form base_type class_type named_part name
one-name t s =
    let name_there : Phrase name (t ∷ []) (text_of t) = record { is = (0, (t, (refl, s), refl)) } in
    let part = turned (λ (x : List ℕ × Option (List TypeText)). named_part_of x.0 x.1) (paired name_there (none-there (nest type_arguments))) in
    let class = turned first_and_rest (paired part (row-nil next_part)) in
    let of = at-right (turn base.Primitive primitive_type) (turned base.Named class) in
    (_, turned type_in (paired of (row-nil dim)))

sort-stops : (ks : List ℕ) (n : ℕ) → has ks n ≡ false → (ts : List Symbol) → starts (n ∷ []) ts ≡ true → starts ks ts ≡ false
sort-stops ks n e [] s = refl
sort-stops ks n e (t ∷ ts) s = subst (λ (m : ℕ). has ks m ≡ false) (sym (eqb-true t.sort n s)) e

-- where a type with a name behind it stands, no constructor is named
no-constructor : (room : ℕ) (ts us ws : List Symbol) (u : Symbol) (x : TypeText) → 3 * length ts ≤ room → ts ≡ us ++ u ∷ ws → Phrase type_form us x → has names u.sort ≡ true → names_constructor ts ≡ false
no-constructor room [] us ws u x fits e p s = refl
no-constructor room (t ∷ ts) us ws u x fits e p s = go (names_constructor (t ∷ ts)) refl
  where
    there : reads room type_form (t ∷ ts) ≡ done x (u ∷ ws)
    there =
        ap (λ (zs : List Symbol). reads room type_form zs) e
        ∙ whole-reads type_form type-sound room us (u ∷ ws) x (omega (arith, fits, ap length e)) (disjoint-has names (more type_form) u.sort type-apart s) p.is

    no-name : starts (61 ∷ []) (u ∷ ws) ≡ true → ⊥
    no-name h = not_both (has names u.sort) s (sort-stops names 61 refl (u ∷ ws) h)

    go : (b : Bool) → names_constructor (t ∷ ts) ≡ b → names_constructor (t ∷ ts) ≡ false
    go false h = h
    go true h =
        let two = both (has names t.sort) (starts (61 ∷ []) ts) h in
        let one = one-name t two.0 in
        let here : reads room type_form (t ∷ ts) ≡ done one.0 ts = whole-reads type_form type-sound room (t ∷ []) ts one.0 fits (sort-stops (more type_form) 61 type-bracket ts two.1) one.1.is in
        let same : ts ≡ u ∷ ws = done_rest one.0 x ts (u ∷ ws) (sym here ∙ there) in
        absurd (no-name (subst (λ (zs : List Symbol). starts (61 ∷ []) zs ≡ true) same two.1))

-- ---- what stands behind a result

-- a result and a name, with the bracket of parameters behind them
record Named (room : ℕ) (ts ws : List Symbol) : Type 0 where
  at : List Symbol
  there : ResultRead room ts at
  here : names_constructor at ≡ true
  behind : drop 1 at ≡ ws

at-name : (u : Symbol) (ws : List Symbol) → has names u.sort ≡ true → starts (61 ∷ []) ws ≡ true → names_constructor (u ∷ ws) ≡ true
at-name u ws s b = both_true (has names u.sort) (starts (61 ∷ []) ws) s b

no-void : (u : Symbol) → has names u.sort ≡ true → has (57 ∷ []) u.sort ≡ false
no-void u s = disjoint-has names (57 ∷ []) u.sort refl s

named-alone : (room : ℕ) (u : Symbol) (ws : List Symbol) → has names u.sort ≡ true → starts (61 ∷ []) ws ≡ true → Named room (u ∷ ws) ws
named-alone room u ws s b = record { at = u ∷ ws; there = inr (no-void u s, inl (at-name u ws s b, refl)); here = at-name u ws s b; behind = refl }

named-void : (room : ℕ) (t u : Symbol) (ws : List Symbol) → has (57 ∷ []) t.sort ≡ true → has names u.sort ≡ true → starts (61 ∷ []) ws ≡ true → Named room (t ∷ u ∷ ws) ws
named-void room t u ws v s b = record { at = u ∷ ws; there = inl (v, refl); here = at-name u ws s b; behind = refl }

named-type : (room : ℕ) (us : List Symbol) (u : Symbol) (ws : List Symbol) (x : TypeText) → 3 * length (us ++ u ∷ ws) ≤ room → Phrase type_form us x → has names u.sort ≡ true → starts (61 ∷ []) ws ≡ true → Named room (us ++ u ∷ ws) ws
named-type room us u ws x fits p s b =
    let begun = starts-apart (first type_form) (57 ∷ []) type-void (us ++ u ∷ ws) (item-starts type_form type-never us (u ∷ ws) x p.is) in
    let there = whole-reads type_form type-sound room us (u ∷ ws) x fits (disjoint-has names (more type_form) u.sort type-apart s) p.is in
    record {
      at = u ∷ ws;
      there = inr (begun, inr (no-constructor room (us ++ u ∷ ws) us ws u x fits refl p s, type-parts room (us ++ u ∷ ws) (u ∷ ws) x there));
      here = at-name u ws s b;
      behind = refl;
    }

named-moved : (room : ℕ) (ts us ws : List Symbol) → ts ≡ us → Named room us ws → Named room ts ws
named-moved room ts us ws e n = subst (λ (zs : List Symbol). Named room zs ws) (sym e) n

-- a name is one symbol
one-symbol : (us : List Symbol) (x : List ℕ) → Phrase name us x → (u : Symbol) × (us ≡ u ∷ []) × (has names u.sort ≡ true)
unfolding name
one-symbol us x p =
    let t = un-turn p in
    (t.value, t.whole.is.1.0, t.whole.is.1.1)

named-reads : (room : ℕ) (us ws : List Symbol) (x : Option (Unit {0}) × List ℕ) → 3 * length (us ++ ws) ≤ room → Phrase (pair result_form name) us x → starts (61 ∷ []) ws ≡ true → Named room (us ++ ws) ws
named-reads room us ws x fits p b =
    let q = un-pair p in
    let n = one-symbol q.back x.1 q.second in
    let all : us ++ ws ≡ q.front ++ (n.0 ∷ ws) = ap (λ (zs : List Symbol). zs ++ ws) (q.parts ∙ ap (λ (zs : List Symbol). q.front ++ zs) n.1) ∙ append_assoc q.front (n.0 ∷ []) ws in
    named-moved room (us ++ ws) (q.front ++ (n.0 ∷ ws)) ws all
    (⊎_elim
    (λ (z : (x.0 ≡ None) × (q.front ≡ [])). named-moved room (q.front ++ (n.0 ∷ ws)) (n.0 ∷ ws) ws (ap (λ (zs : List Symbol). zs ++ (n.0 ∷ ws)) z.1) (named-alone room n.0 ws n.2 b))
    (λ (z : (y : Unit {0}) × (x.0 ≡ Some y) × Phrase (either (turn silently (keyword token.void)) (turn silently type_form)) q.front y).
    ⊎_elim
    (λ (v : Phrase (turn silently (keyword token.void)) q.front z.0).
    let t = un-turn v in
    let word : q.front ≡ t.value ∷ [] = t.whole.is.1.0 in
    named-moved room (q.front ++ (n.0 ∷ ws)) (t.value ∷ n.0 ∷ ws) ws (ap (λ (zs : List Symbol). zs ++ (n.0 ∷ ws)) word) (named-void room t.value n.0 ws t.whole.is.1.1 n.2 b))
    (λ (v : Phrase (turn silently type_form) q.front z.0).
    let t = un-turn v in
    named-type room q.front n.0 ws t.value (omega (arith, fits, ap length all)) t.whole n.2 b)
    (un-either z.2))
    (un-maybe q.first))

-- the other way round
record Heading (ts ws : List Symbol) : Type 0 where
  front : List Symbol
  value : Option (Unit {0}) × List ℕ
  parts : ts ≡ front ++ ws
  whole : Phrase (pair result_form name) front value

name-phrase : (u : Symbol) → has names u.sort ≡ true → Phrase name (u ∷ []) (text_of u)
unfolding name
name-phrase u s = record { is = (0, (u, (refl, s), refl)) }

heading-of : (room : ℕ) (ts at : List Symbol) → ResultRead room ts at → names_constructor at ≡ true → Heading ts (drop 1 at)
heading-of room ts [] r h = absurd cc
heading-of room [] (u ∷ ws) (inl v) h = absurd (let s = v.0 in cc)
heading-of room (t ∷ ts) (u ∷ ws) (inl v) h =
    let s = both (has names u.sort) (starts (61 ∷ []) ws) h in
    let void_there : Phrase (keyword token.void) (t ∷ []) t = record { is = (0, (refl, v.0)) } in
    record {
      front = t ∷ u ∷ [];
      value = (Some tt, text_of u);
      parts = ap (λ (zs : List Symbol). t ∷ zs) (sym v.1);
      whole = paired (some-there (at-left (turn silently type_form) (turned silently void_there))) (name-phrase u s.0);
    }
heading-of room ts (u ∷ ws) (inr (n, inl v)) h =
    let s = both (has names u.sort) (starts (61 ∷ []) ws) h in
    record { front = u ∷ []; value = (None, text_of u); parts = sym v.1; whole = paired (none-there (either (turn silently (keyword token.void)) (turn silently type_form))) (name-phrase u s.0) }
heading-of room ts (u ∷ ws) (inr (n, inr (c, r))) h =
    let s = both (has names u.sort) (starts (61 ∷ []) ws) h in
    let p = read-phrase type_form room ts (type_in (r.0, r.2)) (u ∷ ws) (type-read room ts (u ∷ ws) r.1 r.0 r.2 r.3 r.4) in
    let there : Phrase type_form p.0 (type_in (r.0, r.2)) = record { is = p.2 } in
    record {
      front = p.0 ++ u ∷ [];
      value = (Some tt, text_of u);
      parts = p.1 ∙ sym (append_assoc p.0 (u ∷ []) ws);
      whole = paired (some-there (at-right (turn silently (keyword token.void)) (turned silently there))) (name-phrase u s.0);
    }

-- what stands there is one thing
type-one : (room : ℕ) (ts a b : List Symbol) → TypeRead room ts a → TypeRead room ts b → a ≡ b
type-one room ts a b (of, mid, ds, e, d) (of', mid', ds', e', d') =
    let same : mid ≡ mid' = done_rest of of' mid mid' (sym e ∙ e') in
    done_rest ds ds' a b (sym d ∙ (ap (λ (zs : List Symbol). reads room (many dim) zs) same ∙ d'))

pub result-one : (room : ℕ) (ts a b : List Symbol) → ResultRead room ts a → ResultRead room ts b → a ≡ b
result-one room ts a b (inl x) (inl y) = x.1 ∙ sym y.1
result-one room ts a b (inl x) (inr y) = not_both (starts (57 ∷ []) ts) x.0 y.0
result-one room ts a b (inr x) (inl y) = not_both (starts (57 ∷ []) ts) y.0 x.0
result-one room ts a b (inr (n, inl x)) (inr (k, inl y)) = x.1 ∙ sym y.1
result-one room ts a b (inr (n, inl x)) (inr (k, inr y)) = not_both (names_constructor ts) x.0 y.0
result-one room ts a b (inr (n, inr x)) (inr (k, inl y)) = not_both (names_constructor ts) y.0 x.0
result-one room ts a b (inr (n, inr x)) (inr (k, inr y)) = type-one room ts a b x.1 y.1

-- ---- too many parameters behind it

full-opens : (n : ℕ) (us vs : List Symbol) → IsFull NextParam n us → starts (61 ∷ []) (us ++ vs) ≡ true
full-opens n us vs (m, inl d, le) = ap (λ (zs : List Symbol). starts (61 ∷ []) (zs ++ vs)) d.2 ∙ ap (λ (k : ℕ). has (61 ∷ []) k) d.3
full-opens n us vs (m, inr f, le) = ap (λ (zs : List Symbol). starts (61 ∷ []) (zs ++ vs)) f.parts ∙ ap (λ (k : ℕ). has (61 ∷ []) k) f.is_opening

pub named-goes : (n room : ℕ) (ts : List Symbol) → 3 * length ts ≤ room → NamedCrowds n ts → (at : List Symbol) × ResultRead room ts at × (names_constructor at ≡ true) × ParamsCrowd n (drop 1 at)
named-goes n room ts fits (us, vs, e, (front, back, x, parts, is, full)) =
    let all : ts ≡ front ++ (back ++ vs) = e ∙ (ap (λ (zs : List Symbol). zs ++ vs) parts ∙ append_assoc front back vs) in
    let r = named-moved room ts (front ++ (back ++ vs)) (back ++ vs) all (named-reads room front (back ++ vs) x (omega (arith, fits, ap length all)) (record { is = is }) (full-opens n back vs full)) in
    (r.at, r.there, r.here, subst (λ (zs : List Symbol). ParamsCrowd n zs) (sym r.behind) (back, vs, refl, full))

pub named-back : (n room : ℕ) (ts at : List Symbol) → ResultRead room ts at → names_constructor at ≡ true → ParamsCrowd n (drop 1 at) → NamedCrowds n ts
named-back n room ts at r h (us, vs, e, full) =
    let g = heading-of room ts at r h in
    (g.front ++ us, vs, g.parts ∙ (ap (λ (zs : List Symbol). g.front ++ zs) e ∙ sym (append_assoc g.front us vs)), (g.front, us, g.value, refl, g.whole.is, full))

pub constructor-opens : (at : List Symbol) → names_constructor at ≡ true → starts (61 ∷ []) (drop 1 at) ≡ true
constructor-opens [] h = absurd cc
constructor-opens (u ∷ ws) h = (both (has names u.sort) (starts (61 ∷ []) ws) h).1
