-- Phrases at whatever height: one lemma for each way to make a form of others, and one for each way to take it apart.
use Rattle.std.proofs.Common.{◌≡◌, ℕ, zero, suc, List, [], ◌∷◌, ◌++◌, Option, Some, None, ◌⊎◌, inl, inr, refl, sym, subst}
use Rattle.decl_grammar.specs.declared.symbol.Symbol.{Symbol}
use Rattle.decl_grammar.specs.Form.{Nest, Of, Form, terminal, pair, turn, maybe, many, either, nest, Is}
use Rattle.decl_grammar.specs.Types.{behind, before}
use Rattle.decl_grammar.specs.Rule.{rule, WholeAt}
use Rattle.decl_grammar.specs.File.{IsPhrase}
use Rattle.decl_grammar.proofs.Rivals.{Is-up}
use Rattle.decl_grammar.proofs.Raised.{above, whole-first, whole-second}

-- these symbols are a phrase of the form, and this is what it means
pub record Phrase {A : Type 0} (f : Form A) (ts : List Symbol) (x : A) : Type 0 where
  pub is : IsPhrase f ts x

-- ---- made of others

pub paired : {A B : Type 0} {f : Form A} {g : Form B} {us vs : List Symbol} {x : A} {y : B} → Phrase f us x → Phrase g vs y → Phrase (pair f g) (us ++ vs) (x, y)
paired {f = f} {g = g} {us = us} {vs = vs} {x = x} {y = y} p q =
    let h = p.is.0 in
    let k = q.is.0 in
    let one = Is-up (WholeAt h) (WholeAt (above h k)) (whole-first h k) f us x p.is.1 in
    let other = Is-up (WholeAt k) (WholeAt (above h k)) (whole-second h k) g vs y q.is.1 in
    record { is = (above h k, (us, vs, refl, one, other)) }

pub turned : {A B : Type 0} {f : Form A} {us : List Symbol} {x : A} (h : A → B) → Phrase f us x → Phrase (turn h f) us (h x)
turned {x = x} h p = record { is = (p.is.0, (x, p.is.1, refl)) }

pub put-behind : {A B : Type 0} {f : Form A} {g : Form B} {us vs : List Symbol} {x : A} {y : B} → Phrase f us x → Phrase g vs y → Phrase (behind f g) (us ++ vs) y
put-behind {A = A} {B = B} p q = turned (λ (z : A × B). z.1) (paired p q)

pub put-before : {A B : Type 0} {f : Form A} {g : Form B} {us vs : List Symbol} {x : A} {y : B} → Phrase f us x → Phrase g vs y → Phrase (before f g) (us ++ vs) x
put-before {A = A} {B = B} p q = turned (λ (z : A × B). z.0) (paired p q)

pub some-there : {A : Type 0} {f : Form A} {us : List Symbol} {x : A} → Phrase f us x → Phrase (maybe f) us (Some x)
some-there p = record { is = (p.is.0, p.is.1) }

pub none-there : {A : Type 0} (f : Form A) → Phrase (maybe f) [] None
none-there f = record { is = (0, refl) }

pub at-left : {A : Type 0} {f : Form A} {us : List Symbol} {x : A} (g : Form A) → Phrase f us x → Phrase (either f g) us x
at-left g p = record { is = (p.is.0, inl p.is.1) }

pub at-right : {A : Type 0} {g : Form A} {us : List Symbol} {x : A} (f : Form A) → Phrase g us x → Phrase (either f g) us x
at-right f p = record { is = (p.is.0, inr p.is.1) }

pub nested : (m : Nest) {us : List Symbol} {x : Of m} → Phrase (rule m) us x → Phrase (nest m) us x
nested m p = record { is = (suc p.is.0, p.is.1) }

pub row-nil : {A : Type 0} (f : Form A) → Phrase (many f) [] []
row-nil f = record { is = (0, refl) }

pub row-cons : {A : Type 0} {f : Form A} {us vs : List Symbol} {x : A} {xs : List A} → Phrase f us x → Phrase (many f) vs xs → Phrase (many f) (us ++ vs) (x ∷ xs)
row-cons {f = f} {us = us} {vs = vs} {x = x} {xs = xs} p q =
    let h = p.is.0 in
    let k = q.is.0 in
    let one = Is-up (WholeAt h) (WholeAt (above h k)) (whole-first h k) f us x p.is.1 in
    let other = Is-up (WholeAt k) (WholeAt (above h k)) (whole-second h k) (many f) vs xs q.is.1 in
    record { is = (above h k, (us, vs, refl, one, other)) }

pub moved : {A : Type 0} {f : Form A} {us : List Symbol} {x : A} (vs : List Symbol) → us ≡ vs → Phrase f us x → Phrase f vs x
moved {f = f} {x = x} vs e p = subst (λ (ts : List Symbol). Phrase f ts x) e p

pub means : {A : Type 0} {f : Form A} {us : List Symbol} {x : A} (y : A) → x ≡ y → Phrase f us x → Phrase f us y
means {A = A} {f = f} {us = us} y e p = subst (λ (z : A). Phrase f us z) e p

-- ---- taken apart

pub record Pair {A B : Type 0} (f : Form A) (g : Form B) (ts : List Symbol) (x : A × B) : Type 0 where
  pub front : List Symbol
  pub back : List Symbol
  pub parts : ts ≡ front ++ back
  pub first : Phrase f front x.0
  pub second : Phrase g back x.1

pub un-pair : {A B : Type 0} {f : Form A} {g : Form B} {ts : List Symbol} {x : A × B} → Phrase (pair f g) ts x → Pair f g ts x
un-pair p =
    let q = p.is.1 in
    record { front = q.0; back = q.1; parts = q.2; first = record { is = (p.is.0, q.3) }; second = record { is = (p.is.0, q.4) } }

pub record Turn {A B : Type 0} (h : A → B) (f : Form A) (ts : List Symbol) (y : B) : Type 0 where
  pub value : A
  pub whole : Phrase f ts value
  pub is_value : y ≡ h value

pub un-turn : {A B : Type 0} {h : A → B} {f : Form A} {ts : List Symbol} {y : B} → Phrase (turn h f) ts y → Turn h f ts y
un-turn p = record { value = p.is.1.0; whole = record { is = (p.is.0, p.is.1.1) }; is_value = p.is.1.2 }

-- a form behind another one, or before it
pub record Behind {A B : Type 0} (f : Form A) (g : Form B) (ts : List Symbol) (y : B) : Type 0 where
  pub front : List Symbol
  pub back : List Symbol
  pub value : A
  pub parts : ts ≡ front ++ back
  pub first : Phrase f front value
  pub second : Phrase g back y

pub un-behind : {A B : Type 0} {f : Form A} {g : Form B} {ts : List Symbol} {y : B} → Phrase (behind f g) ts y → Behind f g ts y
un-behind {y = y} p =
    let t = un-turn p in
    let q = un-pair t.whole in
    record { front = q.front; back = q.back; value = t.value.0; parts = q.parts; first = q.first; second = means y (sym t.is_value) q.second }

pub record Before {A B : Type 0} (f : Form A) (g : Form B) (ts : List Symbol) (x : A) : Type 0 where
  pub front : List Symbol
  pub back : List Symbol
  pub value : B
  pub parts : ts ≡ front ++ back
  pub first : Phrase f front x
  pub second : Phrase g back value

pub un-before : {A B : Type 0} {f : Form A} {g : Form B} {ts : List Symbol} {x : A} → Phrase (before f g) ts x → Before f g ts x
un-before {x = x} p =
    let t = un-turn p in
    let q = un-pair t.whole in
    record { front = q.front; back = q.back; value = t.value.1; parts = q.parts; first = means x (sym t.is_value) q.first; second = q.second }

pub un-maybe : {A : Type 0} {f : Form A} {ts : List Symbol} {o : Option A} → Phrase (maybe f) ts o → ((o ≡ None) × (ts ≡ [])) ⊎ ((x : A) × (o ≡ Some x) × Phrase f ts x)
un-maybe {A = A} {f = f} {ts = ts} {o = o} p = go o p.is.1
  where
    go : (q : Option A) → Is (WholeAt p.is.0) (maybe f) ts q → ((q ≡ None) × (ts ≡ [])) ⊎ ((x : A) × (q ≡ Some x) × Phrase f ts x)
    go None is = inl (refl, is)
    go (Some x) is = inr (x, refl, record { is = (p.is.0, is) })

pub un-either : {A : Type 0} {f g : Form A} {ts : List Symbol} {x : A} → Phrase (either f g) ts x → Phrase f ts x ⊎ Phrase g ts x
un-either {A = A} {f = f} {g = g} {ts = ts} {x = x} p = go p.is.1
  where
    go : Is (WholeAt p.is.0) (either f g) ts x → Phrase f ts x ⊎ Phrase g ts x
    go (inl is) = inl (record { is = (p.is.0, is) })
    go (inr is) = inr (record { is = (p.is.0, is) })

pub un-nest : (m : Nest) {ts : List Symbol} {x : Of m} → Phrase (nest m) ts x → Phrase (rule m) ts x
un-nest m {ts = ts} {x = x} p = go p.is.0 p.is.1
  where
    go : (h : ℕ) → WholeAt h m ts x → Phrase (rule m) ts x
    go zero is = absurd is
    go (suc h) is = record { is = (h, is) }

pub record Row {A : Type 0} (f : Form A) (ts : List Symbol) (x : A) (xs : List A) : Type 0 where
  pub front : List Symbol
  pub back : List Symbol
  pub parts : ts ≡ front ++ back
  pub first : Phrase f front x
  pub second : Phrase (many f) back xs

pub un-cons : {A : Type 0} {f : Form A} {ts : List Symbol} {x : A} {xs : List A} → Phrase (many f) ts (x ∷ xs) → Row f ts x xs
un-cons p =
    let q = p.is.1 in
    record { front = q.0; back = q.1; parts = q.2; first = record { is = (p.is.0, q.3) }; second = record { is = (p.is.0, q.4) } }

pub un-nil : {A : Type 0} {f : Form A} {ts : List Symbol} → Phrase (many f) ts [] → ts ≡ []
un-nil p = p.is.1

-- one symbol
pub un-symbol : {k : List ℕ} {ts : List Symbol} {t : Symbol} → Phrase (terminal k) ts t → ts ≡ t ∷ []
un-symbol p = p.is.1.0
