-- What the two readings behind a name must keep to: in a value they exclude each other, and in an initialiser they end in the same place.
use Rattle.std.proofs.Common.{◌≡◌, ℕ, zero, suc, ◌≤◌, ◌+◌, arith, Bool, true, false, cond, Option, Some, None, List, [], ◌∷◌, ◌++◌, ◌⊎◌, refl, sym, ap, subst, ◌∙◌, append_assoc, inl, inr}
use Rattle.std.specs.Prelude.{◌&&◌}
use Rattle.decl_grammar.specs.declared.symbol.Symbol.{Symbol}
use Rattle.decl_grammar.specs.Symbols.{operator}
use Rattle.decl_grammar.specs.TokenNames as token
use Rattle.decl_grammar.specs.Reading.{has}
use Rattle.decl_grammar.specs.Form.{Stands, Freedom, Rest, freedom_in, is_value, opened, alone, paired, listed, defaulted, assigned, anywhere, between, colons, one_of, type_reference, expression_part, expression_rest, nest, Is, Begins}
use Rattle.decl_grammar.specs.Expressions.{with_symbols, reference_form, part_symbols, step}
use Rattle.decl_grammar.specs.Rule.{WholeAt, BegunAt}
use Rattle.decl_grammar.proofs.Heads.{nil_parts, nil-open}
use Rattle.decl_grammar.proofs.Fronts.{Begins-front}
use Rattle.decl_grammar.proofs.Rivals.{Rivals, Upto, Sole, Is-up, sole-up}
use Rattle.decl_grammar.proofs.Heights.{Whole, Started, full-at, begins-at, fronts-at, upto-any, full-any, heads-any, bheads-any, begins-any}
use Rattle.decl_grammar.proofs.OpenBrackets.{within_reference, Leads, same_next}
use Rattle.decl_grammar.proofs.Effects.{in_reference, closing, Levels, Opened}
use Rattle.decl_grammar.proofs.Closed.{levels-any, opened-any}
use Rattle.decl_grammar.proofs.Crossing.{same}
use Rattle.decl_grammar.proofs.Values.{values-past, values-exclude}
use Rattle.decl_grammar.proofs.TypeEnds.{type-ends, less-ends}
use Rattle.decl_grammar.proofs.Raised.{above}
use Rattle.decl_grammar.proofs.TypeParts.{lists}
use Rattle.decl_grammar.proofs.RowPasses.{glue, glue-append, Reached, rest-passes}
use Rattle.decl_grammar.proofs.Plants.{Hole, opens_hole, Fills, Spot}
use Rattle.decl_grammar.proofs.Planted.{plants-type}
use Rattle.decl_grammar.proofs.TypesHeld.{extra, Held}
use Rattle.decl_grammar.proofs.Held.{held-at}

-- ---- the first `<`

-- behind the `<` of a type one list is open
behind-less : (t : Symbol) (us : List Symbol) (ms : List ℕ) → has (75 ∷ []) t.sort ≡ true → Leads (t ∷ us) (201 ∷ []) ms → Leads us (lists (suc zero)) ms
behind-less t us ms e l =
    let z : within_reference [] t ≡ Some (74 ∷ 201 ∷ []) = rw e refl in
    subst (λ (x : List ℕ). Leads us x ms) (same_next l.0 (74 ∷ 201 ∷ []) (within_reference [] t) l.1 z) l.2

-- a whole type is its `<` and what closes it
pub type-split : (s : Stands) (us : List Symbol) (x : Unit {0}) → Whole (expression_part s type_reference) us x → (t : Symbol) × (u : List Symbol) × (us ≡ t ∷ u) × Leads u (lists (suc zero)) []
type-split s [] x is = absurd (full-any (expression_part s type_reference) x is)
type-split s (t ∷ us) x is =
    let l : Levels in_reference (closing 201) (t ∷ us) = levels-any in_reference (expression_part s type_reference) (t ∷ us) x is in
    (t, us, refl, behind-less t us [] (heads-any (expression_part s type_reference) t us x is) (l []))

-- a part that is one symbol
one-whole : (s : Stands) (ks : List ℕ) (us : List Symbol) (x : Unit {0}) → Whole (expression_part s (one_of ks)) us x → (t : Symbol) × (us ≡ t ∷ [])
one-whole s ks us x (zero, is) = absurd is
one-whole s ks us x (suc h, is) = (is.0, is.1.0)

one-begun : (s : Stands) (ks : List ℕ) (us : List Symbol) (n : ℕ) → Started (expression_part s (one_of ks)) us n → (n ≡ 0) × ((us ≡ []) ⊎ ((t : Symbol) × (us ≡ t ∷ [])))
one-begun s ks us n (zero, b) = absurd b
one-begun s ks us n (suc h, (z, inl e)) = (z, inl e)
one-begun s ks us n (suc h, (z, inr p)) = (z, inr (p.0, p.1))

behind-one : (t z : Symbol) (u a c : List Symbol) → t ∷ u ≡ a ++ c → a ≡ z ∷ [] → (z ≡ t) × (c ≡ u)
behind-one t z u a c e d = let p : t ∷ u ≡ z ∷ c = e ∙ ap (λ (b : List Symbol). b ++ c) d in (cc, cc)

-- ---- what is open in a part that counts

counted : (s : Stands) (k : ℕ) → opened (expression_part s type_reference) k ≡ extra (is_value s) + k
counted s k = go (is_value s)
  where
    go : (c : Bool) → cond c (suc k) k ≡ extra c + k
    go true = omega arith
    go false = omega arith

at-most : (s : Stands) (k n : ℕ) → k ≡ 0 → n ≡ opened (expression_part s (one_of (operator token.less_than ∷ []))) k → n ≤ extra (is_value s)
at-most s k n z e = subst (λ (x : ℕ). x ≤ extra (is_value s)) (sym e) (go (is_value s))
  where
    go : (c : Bool) → cond c (suc k) k ≤ extra c
    go true = omega (arith, z)
    go false = omega (arith, z)

-- ---- the type has at least as much open

list-spot : (a : List Symbol) (t u : Symbol) (i : Hole) (e : ℕ) → has (75 ∷ []) u.sort ≡ true → Leads a (lists (suc zero)) (lists e) → has (opens_hole i) t.sort ≡ true → Spot in_reference i (u ∷ a) t
list-spot a t u i zero less l o =
    (201, [], 201, [], refl, (74 ∷ 201 ∷ [], less-next u less, l), refl, o)
  where
    less-next : (u : Symbol) → has (75 ∷ []) u.sort ≡ true → within_reference [] u ≡ Some (74 ∷ 201 ∷ [])
    less-next u e = rw e refl
list-spot a t u i (suc e) less l o =
    (201, [], 74, lists e, refl, (74 ∷ 201 ∷ [], less-next u less, l), refl, o)
  where
    less-next : (u : Symbol) → has (75 ∷ []) u.sort ≡ true → within_reference [] u ≡ Some (74 ∷ 201 ∷ [])
    less-next u e = rw e refl

-- what is begun in the arguments of a type may be begun in the type
hole-filled : (h : ℕ) (u t : Symbol) (a vs us : List Symbol) (i : Hole) (e g c j : ℕ) → has (75 ∷ []) u.sort ≡ true → us ≡ a ++ t ∷ vs → Leads a (lists (suc zero)) (lists e) → has (opens_hole i) t.sort ≡ true → Fills g i (t ∷ vs) c
    → Begins (WholeAt h) (BegunAt h) reference_form (u ∷ us) j → (k : ℕ) × (c ≤ k) × Begins (WholeAt (above h g)) (BegunAt (above h g)) reference_form (u ∷ us) k
hole-filled h u t a vs us i e g c j less eq l o fill b =
    let whole : u ∷ us ≡ (u ∷ a ++ t ∷ []) ++ vs = ap (λ (x : List Symbol). u ∷ x) (eq ∙ sym (append_assoc a (t ∷ []) vs)) in
    let f = Begins-front (WholeAt h) (BegunAt h) (full-at h) (begins-at h) (fronts-at h) reference_form (u ∷ us) (u ∷ a ++ t ∷ []) vs j whole b in
    let r = plants-type h g i (u ∷ a) t f.0 (list-spot a t u i e less l o) f.1 vs c fill in
    (r.0, r.1, subst (λ (x : List Symbol). Begins (WholeAt (above h g)) (BegunAt (above h g)) reference_form (u ∷ x) r.0) (sym eq) r.2)

row-tested : (b : Bool) → (same b b && true) ≡ true
row-tested true = refl
row-tested false = refl

-- the comparison behind its `<`
less-held : (s : Stands) (w : Freedom) (t : Symbol) (us : List Symbol) (n : ℕ) (ms : List ℕ) → Leads us (lists (suc zero)) ms → Begins Whole Started (step s (one_of (operator token.less_than ∷ [])) w between) (t ∷ us) n → Held (extra (is_value s)) (suc zero) us n
unfolding step part_symbols
less-held s w t us n ms l (inl (inl b)) = absurd (let z = b.0 in cc)
less-held s w t us n ms l (inl (inr q)) = inl (at-most s q.2 n (one-begun s (operator token.less_than ∷ []) (t ∷ us) q.2 q.5).0 q.4)
less-held s w t us n ms l (inr q) =
    let one = one-whole s (operator token.less_than ∷ []) q.0 q.4.0.1 q.4.1.0 in
    let r = behind-one t one.0 us q.0 q.1 q.3 one.1 in
    rest us n (subst (λ (x : List Symbol). Begins Whole Started (nest (expression_rest s w between)) x n) r.1 q.5) l
  where
    rest : (us : List Symbol) (n : ℕ) → Begins Whole Started (nest (expression_rest s w between)) us n → Leads us (lists (suc zero)) ms → Held (extra (is_value s)) (suc zero) us n
    rest us n (inl b) l = inl (omega (arith, b.1))
    rest us n (inr p) l = held-at (is_value s) p.5.0 (expression_rest s w between) (row-tested (is_value s)) (suc zero) us n ms l (inr (p.0, p.1, p.2, p.3, p.4, p.5.1))

-- where the type is begun, it may have as much open as the comparison
type-open : (s : Stands) (w : Freedom) (us : List Symbol) (j n : ℕ) → Started (expression_part s type_reference) us j → Begins Whole Started (step s (one_of (operator token.less_than ∷ [])) w between) us n
    → (k : ℕ) × (n ≤ extra (is_value s) + k) × Started (expression_part s type_reference) us k
type-open s w [] j n b c = (j, omega (arith, nil-open Whole Started (step s (one_of (operator token.less_than ∷ [])) w between) [] n refl c), b)
type-open s w (t ∷ us) j n (zero, b) c = absurd b
type-open s w (t ∷ us) j n (suc h, b) c =
    let o : Opened in_reference (closing 201) (t ∷ us) = opened-any in_reference (expression_part s type_reference) (t ∷ us) j (suc h, b) in
    let less : has (75 ∷ []) t.sort ≡ true = bheads-any (expression_part s type_reference) t us j (suc h, b) in
    let r = o [] in
    go less (less-held s w t us n (r.0 ++ []) (behind-less t us (r.0 ++ []) less r.1) c)
  where
    go : has (75 ∷ []) t.sort ≡ true → Held (extra (is_value s)) (suc zero) us n → (k : ℕ) × (n ≤ extra (is_value s) + k) × Started (expression_part s type_reference) (t ∷ us) k
    go less (inl le) = (j, omega (arith, le), (suc h, b))
    go less (inr q) =
        let f = hole-filled h t q.2 q.1 q.3 us q.0 q.4 q.5 q.6 j less q.7 q.8 q.9 q.10 b in
        (f.0, omega (arith, q.11, f.1), (suc (above h q.5), f.2))

-- ---- behind a whole type

append-end : (us rs : List Symbol) → rs ≡ [] → us ++ rs ≡ us
append-end [] rs e = e
append-end (u ∷ us) rs e = ap (λ (x : List Symbol). u ∷ x) (append-end us rs e)

-- an initialiser over a whole type goes on behind its `::`
pub less-reached : (t : Symbol) (u : List Symbol) (r : Symbol) (rs : List Symbol) (n : ℕ) → Leads u (lists (suc zero)) [] → Begins Whole Started (step assigned (one_of (operator token.less_than ∷ [])) anywhere between) (t ∷ u ++ r ∷ rs) n → Reached (r ∷ rs) n
unfolding step part_symbols
less-reached t u r rs n l (inl (inl b)) = absurd (let z = b.0 in cc)
less-reached t u r rs n l (inl (inr q)) = absurd (too-long (one-begun assigned (operator token.less_than ∷ []) (t ∷ u ++ r ∷ rs) q.2 q.5).1)
  where
    too-long : (t ∷ u ++ r ∷ rs ≡ []) ⊎ ((q : Symbol) × (t ∷ u ++ r ∷ rs ≡ q ∷ [])) → ⊥
    too-long (inl e) = cc
    too-long (inr p) = let z : u ++ r ∷ rs ≡ [] = (let y = p.1 in cc) in let x = (nil_parts u (r ∷ rs) (sym z)).1 in cc
less-reached t u r rs n l (inr q) =
    let one = one-whole assigned (operator token.less_than ∷ []) q.0 q.4.0.1 q.4.1.0 in
    let e = behind-one t one.0 (u ++ r ∷ rs) q.0 q.1 q.3 one.1 in
    rest (subst (λ (x : List Symbol). Begins Whole Started (nest (expression_rest assigned anywhere between)) x n) e.1 q.5)
  where
    rest : Begins Whole Started (nest (expression_rest assigned anywhere between)) (u ++ r ∷ rs) n → Reached (r ∷ rs) n
    rest (inl b) = absurd (let x = (nil_parts u (r ∷ rs) (sym b.0)).1 in cc)
    rest (inr p) = subst (λ (k : ℕ). Reached (r ∷ rs) k) (sym p.4) ((rest-passes p.5.0).1 anywhere between (suc zero) u r rs p.2 l p.5.1)

-- in an initialiser a `=` may stand anywhere
pub same-begun : (w : Freedom) (vs : List Symbol) (n : ℕ) → Started (expression_rest assigned w colons) vs n → Started (expression_rest assigned anywhere colons) vs n
same-begun w vs n (zero, b) = absurd b
same-begun w vs n (suc h, b) = (suc h, b)

same-rest : (l : Option ℕ) (w : Freedom) (vs : List Symbol) (y : Rest assigned) → Upto l (expression_rest assigned w colons) vs y → Upto l (expression_rest assigned anywhere colons) vs y
same-rest None w vs y (zero, is) = absurd is
same-rest None w vs y (suc h, is) = (suc h, is)
same-rest (Some zero) w vs y is = absurd is
same-rest (Some (suc h)) w vs y is = is

-- ---- the type has at least as much open

part-dominated : (s : Stands) (w : Freedom) (us : List Symbol) (j n : ℕ) → Started (expression_part s type_reference) us j → Begins Whole Started (step s (one_of (operator token.less_than ∷ [])) w between) us n
    → (t : Symbol) (us' : List Symbol) → us ≡ t ∷ us' → (k : ℕ) × (n ≤ k) × Begins Whole Started (step s type_reference w colons) us k
unfolding step part_symbols
part-dominated s w us j n b c t us' e =
    let p = type-open s w us j n b c in
    (extra (is_value s) + p.0, p.1, inl (inr (t, us', p.0, e, sym (counted s p.0), p.2)))

-- a whole type is itself its symbols
pub part-itself : (s : Stands) (a : List Symbol) (x : Unit {0}) → Whole (expression_part s type_reference) a x → Is Whole (part_symbols s type_reference) a a
unfolding part_symbols
part-itself s a x is = ((a, x), (is, refl), refl)

pub rest-begun : (us a : List Symbol) (r : Symbol) (rs : List Symbol) (n : ℕ) → us ≡ a ++ r ∷ rs → Is Whole (part_symbols assigned type_reference) a a → Started (expression_rest assigned anywhere colons) (r ∷ rs) n
    → Begins Whole Started (step assigned type_reference anywhere colons) us n
unfolding step
rest-begun us a r rs n e is b = inr (a, r ∷ rs, a, e, is, inr (r, rs, n, refl, refl, b))

past-dominated : (s : Stands) (w : Freedom) (us a c : List Symbol) (x : Unit {0}) (m n : ℕ) → us ≡ a ++ c → Whole (expression_part s type_reference) a x → Begins Whole Started (nest (expression_rest s (freedom_in s w) colons)) c m
    → Is Whole (part_symbols s type_reference) a (a) → Begins Whole Started (step s (one_of (operator token.less_than ∷ [])) (freedom_in s w) between) us n → (k : ℕ) × (n ≤ k) × Begins Whole Started (step s type_reference (freedom_in s w) colons) us k
past-dominated alone w us a c x m n e whole rest is q = absurd (values-past alone refl w a c x n whole (subst (λ (u : List Symbol). Begins Whole Started (step alone (one_of (operator token.less_than ∷ [])) w between) u n) e q))
past-dominated paired w us a c x m n e whole rest is q = absurd (values-past paired refl w a c x n whole (subst (λ (u : List Symbol). Begins Whole Started (step paired (one_of (operator token.less_than ∷ [])) w between) u n) e q))
past-dominated listed w us a c x m n e whole rest is q = absurd (values-past listed refl w a c x n whole (subst (λ (u : List Symbol). Begins Whole Started (step listed (one_of (operator token.less_than ∷ [])) w between) u n) e q))
past-dominated defaulted w us a c x m n e whole rest is q = absurd (values-past defaulted refl w a c x n whole (subst (λ (u : List Symbol). Begins Whole Started (step defaulted (one_of (operator token.less_than ∷ [])) w between) u n) e q))
past-dominated assigned w us a [] x m n e whole rest is q =
    let t = type-split assigned a x whole in
    let there : us ≡ a = e ∙ append-end a [] refl in
    let b = begins-any (expression_part assigned type_reference) a x whole in
    part-dominated assigned anywhere us b.0 n (subst (λ (u : List Symbol). Started (expression_part assigned type_reference) u b.0) (sym there) b.1) q t.0 t.1 (there ∙ t.2)
past-dominated assigned w us a (r ∷ rs) x m n e whole rest is q =
    let t = type-split assigned a x whole in
    let c : Reached (r ∷ rs) n = less-reached t.0 t.1 r rs n t.3 (subst (λ (u : List Symbol). Begins Whole Started (step assigned (one_of (operator token.less_than ∷ [])) anywhere between) u n) (e ∙ ap (λ (u : List Symbol). u ++ r ∷ rs) t.2) q) in
    (n, omega arith, rest-begun us a r rs n e is (same-begun c.0 (r ∷ rs) n c.1))

types-dominated : (s : Stands) (w : Freedom) (us : List Symbol) (m n : ℕ) → Begins Whole Started (step s type_reference (freedom_in s w) colons) us m → Begins Whole Started (step s (one_of (operator token.less_than ∷ [])) (freedom_in s w) between) us n
    → (k : ℕ) × (n ≤ k) × Begins Whole Started (step s type_reference (freedom_in s w) colons) us k
unfolding step part_symbols
types-dominated s w us m n (inl (inl b)) q = (m, omega (arith, nil-open Whole Started (step s (one_of (operator token.less_than ∷ [])) (freedom_in s w) between) us n b.0 q), inl (inl b))
types-dominated s w us m n (inl (inr b)) q = part-dominated s (freedom_in s w) us b.2 n b.5 q b.0 b.1 b.3
types-dominated s w us m n (inr b) q = past-dominated s w us b.0 b.1 b.4.0.1 m n b.3 b.4.1.0 b.5 (part-itself s b.0 b.4.0.1 b.4.1.0) q

-- ---- both mean the same

upto-past : (l : Option ℕ) (u : List Symbol) (r : Symbol) (rs : List Symbol) (z : Rest assigned) → Leads u (lists (suc zero)) [] → Upto l (expression_rest assigned anywhere between) (u ++ r ∷ rs) z
    → (w : Freedom) × (y : Rest assigned) × Upto l (expression_rest assigned w colons) (r ∷ rs) y × (z ≡ glue u y)
upto-past None u r rs z l is = let p = (rest-passes is.0).0 anywhere between (suc zero) u r rs z l is.1 in (p.0, p.1, (is.0, p.2), p.3)
upto-past (Some h) u r rs z l is = (rest-passes h).0 anywhere between (suc zero) u r rs z l is

fields-agree : (l : Option ℕ) (ts : List Symbol) (x y : Rest assigned) → Is (Sole Whole (Upto l)) (step assigned type_reference anywhere colons) ts x → Is (Upto l) (step assigned (one_of (operator token.less_than ∷ [])) anywhere between) ts y → x ≡ y
unfolding step part_symbols
fields-agree l ts x y p q = go p.1.0 p.1.1 p.1.2 p.1.3.0.1 p.1.3.1.0.0 (p.1.3.2 ∙ p.1.3.1.1) p.1.4 q.1.0 q.1.1 q.1.2 (one-whole assigned (operator token.less_than ∷ []) q.1.0 q.1.3.0.1 (upto-any l (expression_part assigned (one_of (operator token.less_than ∷ []))) q.1.0 q.1.3.0.1 q.1.3.1.0)) (q.1.3.2 ∙ q.1.3.1.1) q.1.4
  where
    go : (a rest : List Symbol) → ts ≡ a ++ rest → (v : Unit {0}) → Whole (expression_part assigned type_reference) a v → p.0.0 ≡ a → Sole Whole (Upto l) (expression_rest assigned anywhere colons) rest p.0.1
        → (b c : List Symbol) → ts ≡ b ++ c → (t : Symbol) × (b ≡ t ∷ []) → q.0.0 ≡ b → Upto l (expression_rest assigned anywhere between) c q.0.1 → x ≡ y
    go a [] e v whole pe sole b c f one qe behind = absurd (full-any (expression_rest assigned anywhere colons) p.0.1 sole.0)
    go a (r ∷ rs) e v whole pe sole b c f one qe behind =
        let t = type-split assigned a v whole in
        let both : t.0 ∷ t.1 ++ r ∷ rs ≡ b ++ c = ap (λ (u : List Symbol). u ++ r ∷ rs) (sym t.2) ∙ sym e ∙ f in
        let k = behind-one t.0 one.0 (t.1 ++ r ∷ rs) b c both one.1 in
        let past = upto-past l t.1 r rs q.0.1 t.3 (subst (λ (u : List Symbol). Upto l (expression_rest assigned anywhere between) u q.0.1) k.1 behind) in
        let same : p.0.1 ≡ past.1 = sole.1 refl past.1 (same-rest l past.0 (r ∷ rs) past.1 past.2) in
        let there : b ++ t.1 ≡ a = ap (λ (u : List Symbol). u ++ t.1) one.1 ∙ ap (λ (s : Symbol). s ∷ t.1) k.0 ∙ sym t.2 in
        p.2 ∙ ap (λ (u : List Symbol). glue u p.0.1) pe ∙ ap (λ (z : Rest assigned). glue a z) same ∙ ap (λ (u : List Symbol). glue u past.1) (sym there) ∙ sym (glue-append b t.1 past.1)
        ∙ ap (λ (z : Rest assigned). glue b z) (sym past.3) ∙ ap (λ (u : List Symbol). glue u q.0.1) (sym qe) ∙ sym q.2

-- an initialiser that goes on behind a whole type is whole as that type and what stands behind it
pub less-past : (us : List Symbol) (r : Symbol) (rs : List Symbol) (x : Rest assigned) → Whole (expression_part assigned type_reference) us tt → Is Whole (step assigned (one_of (operator token.less_than ∷ [])) anywhere between) (us ++ r ∷ rs) x
    → (y : Rest assigned) × Is Whole (step assigned type_reference anywhere colons) (us ++ r ∷ rs) y
unfolding step part_symbols
less-past us r rs x whole q =
    let t = type-split assigned us tt whole in
    let one = one-whole assigned (operator token.less_than ∷ []) q.1.0 q.1.3.0.1 q.1.3.1.0 in
    let k = behind-one t.0 one.0 (t.1 ++ r ∷ rs) q.1.0 q.1.1 (ap (λ (u : List Symbol). u ++ r ∷ rs) (sym t.2) ∙ q.1.2) one.1 in
    let past = upto-past None t.1 r rs q.0.1 t.3 (subst (λ (u : List Symbol). Whole (expression_rest assigned anywhere between) u q.0.1) k.1 q.1.4) in
    (with_symbols (us, past.1), ((us, past.1), (us, r ∷ rs, refl, ((us, tt), (whole, refl), refl), same-rest None past.0 (r ∷ rs) past.1 past.2), refl))

values-agree : (s : Stands) → is_value s ≡ true → (w : Freedom) (l : Option ℕ) (ts : List Symbol) (x y : Rest s) → Is (Sole Whole (Upto l)) (step s type_reference w colons) ts x → Is (Upto l) (step s (one_of (operator token.less_than ∷ [])) w between) ts y → x ≡ y
values-agree s e w l ts x y p q =
    absurd (values-exclude s e w ts x y
    (Is-up (Sole Whole (Upto l)) Whole (sole-up Whole (Upto l)) (step s type_reference w colons) ts x p)
    (Is-up (Upto l) Whole (upto-any l) (step s (one_of (operator token.less_than ∷ [])) w between) ts y q))

types-agree : (s : Stands) (w : Freedom) (l : Option ℕ) (ts : List Symbol) (x y : Rest s) → Is (Sole Whole (Upto l)) (step s type_reference (freedom_in s w) colons) ts x → Is (Upto l) (step s (one_of (operator token.less_than ∷ [])) (freedom_in s w) between) ts y → x ≡ y
types-agree alone w = values-agree alone refl w
types-agree paired w = values-agree paired refl w
types-agree listed w = values-agree listed refl w
types-agree defaulted w = values-agree defaulted refl w
types-agree assigned w = fields-agree

pub type-rivals : (s : Stands) (w : Freedom) → Rivals Whole Started (step s type_reference (freedom_in s w) colons) (step s (one_of (operator token.less_than ∷ [])) (freedom_in s w) between)
type-rivals s w = record {
  agree = types-agree s w;
  first_ends = type-ends s (freedom_in s w);
  other_ends = less-ends s (freedom_in s w);
  dominated = types-dominated s w;
}
