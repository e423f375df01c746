-- What holds of all phrases of a form whose symbols are texts and at none of whose symbols more is open than may be: one lemma for each way to make forms of others.
use Rattle.std.proofs.Common.{◌≡◌, ℕ, zero, suc, ◌≤◌, Bool, true, false, List, [], ◌∷◌, ◌++◌, length, Option, Some, None, inl, inr, refl, sym, ap, subst, ◌∙◌, arith, append_assoc}
use Rattle.std.proofs.lemmas.List.{append-nil}
use Rattle.decl_grammar.specs.declared.symbol.Symbol.{Symbol}
use Rattle.decl_grammar.specs.Form.{Nest, Of, counts, opened, Form, pair, turn, maybe, many, either, seen, nest, attempt, Each, Is, nullable}
use Rattle.decl_grammar.specs.Types.{behind, before, list_or_none, first_and_rest}
use Rattle.decl_grammar.specs.Rule.{rule, WholeAt, BegunAt}
use Rattle.decl_grammar.specs.File.{IsShallow}
use Rattle.decl_grammar.proofs.Heads.{nil-open}
use Rattle.decl_grammar.proofs.Heights.{opened-counted, opened-free, full-at, begins-at}
use Rattle.decl_grammar.proofs.Raised.{above, whole-first, whole-second, begun-second}
use Rattle.decl_grammar.proofs.Rivals.{Is-up, Begins-up}
use Rattle.decl_limits.specs.Texts.{AreTexts}
use Rattle.decl_limits.proofs.FullForms.{some-symbol}
use Rattle.decl_limits.proofs.LegalTexts.{Items, no-items, items-more, texts-front, texts-back}

-- ---- where nowhere too much is open, it is not in the parts

split-on : (ts us vs ks bs : List Symbol) → ts ≡ us ++ vs → us ≡ ks ++ bs → ts ≡ ks ++ (bs ++ vs)
split-on ts us vs ks bs e d = e ∙ ap (λ (xs : List Symbol). xs ++ vs) d ∙ append_assoc ks bs vs

pub split-in : (ts us vs ks bs : List Symbol) → ts ≡ us ++ vs → vs ≡ ks ++ bs → ts ≡ (us ++ ks) ++ bs
split-in ts us vs ks bs e d = e ∙ ap (λ (xs : List Symbol). us ++ xs) d ∙ sym (append_assoc us ks bs)

pub shallow-left : {A B : Type 0} (f : Form A) (g : Form B) (room : ℕ) (ts us vs : List Symbol) → ts ≡ us ++ vs → IsShallow (pair f g) room ts → IsShallow f room us
shallow-left f g room ts us vs e sh ks bs n d b = sh ks (bs ++ vs) n (split-on ts us vs ks bs e d) (b.0, inl b.1)

pub shallow-right : {A B : Type 0} (f : Form A) (g : Form B) (room h : ℕ) (ts us vs : List Symbol) (x : A) → ts ≡ us ++ vs → Is (WholeAt h) f us x → IsShallow (pair f g) room ts → IsShallow g room vs
shallow-right f g room h ts us vs x e is sh ks bs n d b =
    let k = above h b.0 in
    sh (us ++ ks) bs n (split-in ts us vs ks bs e d)
    (k, inr (us, ks, x, refl, Is-up (WholeAt h) (WholeAt k) (whole-first h b.0) f us x is, Begins-up (WholeAt b.0) (WholeAt k) (BegunAt b.0) (BegunAt k) (whole-second h b.0) (begun-second h b.0) g ks n b.1))

pub shallow-first : {A : Type 0} (f : Form A) (room : ℕ) (ts us vs : List Symbol) → ts ≡ us ++ vs → IsShallow (many f) room ts → IsShallow f room us
shallow-first f room ts us vs e sh ks bs n d b = sh ks (bs ++ vs) n (split-on ts us vs ks bs e d) (b.0, ([], ks, [], refl, refl, b.1))

pub shallow-rest : {A : Type 0} (f : Form A) (room h : ℕ) (ts us vs : List Symbol) (x : A) → ts ≡ us ++ vs → Is (WholeAt h) f us x → IsShallow (many f) room ts → IsShallow (many f) room vs
shallow-rest f room h ts us vs x e is sh ks bs n d b =
    let k = above h b.0 in
    let p = b.1 in
    sh (us ++ ks) bs n (split-in ts us vs ks bs e d) (
      k,
      (
        us ++ p.0,
        p.1,
        x ∷ p.2,
        ap (λ (xs : List Symbol). us ++ xs) p.3 ∙ sym (append_assoc us p.0 p.1),
        (us, p.0, refl, Is-up (WholeAt h) (WholeAt k) (whole-first h b.0) f us x is, Is-up (WholeAt b.0) (WholeAt k) (whole-second h b.0) (many f) p.0 p.2 p.4),
        Begins-up (WholeAt b.0) (WholeAt k) (BegunAt b.0) (BegunAt k) (whole-second h b.0) (begun-second h b.0) f p.1 n p.5,
      ),
    )

-- within a form that counts one less may be open
shallow-in : (m : Nest) → counts m ≡ true → (room : ℕ) (ts : List Symbol) → IsShallow (nest m) (suc room) ts → IsShallow (rule m) room ts
shallow-in m c room ts sh [] bs n e b = omega (arith, nil-open (WholeAt b.0) (BegunAt b.0) (rule m) [] n refl b.1)
shallow-in m c room ts sh (a ∷ ks) bs n e b =
    let le = sh (a ∷ ks) bs (opened m n) e (suc b.0, inr (a, ks, n, refl, refl, b.1)) in
    omega (arith, le, opened-counted m n c)

shallow-free : (m : Nest) → counts m ≡ false → (room : ℕ) (ts : List Symbol) → IsShallow (nest m) room ts → IsShallow (rule m) room ts
shallow-free m c room ts sh [] bs n e b = omega (arith, nil-open (WholeAt b.0) (BegunAt b.0) (rule m) [] n refl b.1)
shallow-free m c room ts sh (a ∷ ks) bs n e b =
    let le = sh (a ∷ ks) bs (opened m n) e (suc b.0, inr (a, ks, n, refl, refl, b.1)) in
    omega (arith, le, opened-free m n c)

-- a form that counts does not stand where nothing may be open
pub no-room : (h : ℕ) (m : Nest) → counts m ≡ true → (ts : List Symbol) (x : Of m) → IsShallow (nest m) zero ts → WholeAt h m ts x → ⊥
no-room h m c [] x sh is = full-at h m x is
no-room h m c (t ∷ ts) x sh is =
    let k = begins-at h m (t ∷ ts) x is in
    let le = sh (t ∷ ts) [] (opened m k.0) (sym (append-nil (t ∷ ts))) (h, inr (t, ts, k.0, refl, refl, k.1)) in
    omega (arith, le, opened-counted m k.0 c)

-- ---- what holds of forms

-- of phrases that stand at most this high, with this much room
pub record Has (h room : ℕ) {A : Type 0} (f : Form A) (P : List Symbol → A → Type 0) : Type 0 where
  pub there : (ts : List Symbol) (x : A) → AreTexts ts → IsShallow f room ts → Is (WholeAt h) f ts x → P ts x

abbrev pub Anything : {A : Type 0} → List Symbol → A → Type 0
Anything ts x = Unit {0}

pub anything : (h room : ℕ) {A : Type 0} (f : Form A) → Has h room f Anything
anything h room f = record { there = λ ts x a sh is. tt }

pub has-more : {h room : ℕ} {A : Type 0} {f : Form A} {P : List Symbol → A → Type 0} (Q : List Symbol → A → Type 0) → Has h room f P → ((ts : List Symbol) (x : A) → AreTexts ts → P ts x → Q ts x) → Has h room f Q
has-more Q p go = record { there = λ ts x a sh is. go ts x a (p.there ts x a sh is) }

pub has-turn : {h room : ℕ} {A B : Type 0} {f : Form A} {P : List Symbol → A → Type 0} (k : A → B) (Q : List Symbol → B → Type 0) → Has h room f P → ((ts : List Symbol) (x : A) → AreTexts ts → P ts x → Q ts (k x)) → Has h room (turn k f) Q
has-turn k Q p go = record { there = λ ts y a sh is. subst (λ z. Q ts z) (sym is.2) (go ts is.0 a (p.there ts is.0 a sh is.1)) }

pub has-pair : {h room : ℕ} {A B : Type 0} {f : Form A} {g : Form B} {P : List Symbol → A → Type 0} {Q : List Symbol → B → Type 0} (R : List Symbol → A × B → Type 0) → Has h room f P → Has h room g Q
    → ((us vs : List Symbol) (x : A × B) → AreTexts (us ++ vs) → P us x.0 → Q vs x.1 → R (us ++ vs) x) → Has h room (pair f g) R
has-pair {h} {room} {f = f} {g = g} R p q go = record {
  there = λ ts x a sh is.
      subst (λ us. R us x) (sym is.2)
      (go is.0 is.1 x (subst AreTexts is.2 a) (p.there is.0 x.0 (texts-front ts is.0 is.1 is.2 a) (shallow-left f g room ts is.0 is.1 is.2 sh) is.3)
      (q.there is.1 x.1 (texts-back ts is.0 is.1 is.2 a) (shallow-right f g room h ts is.0 is.1 x.0 is.2 is.3 sh) is.4));
}

-- behind and before a form of which nothing is asked
pub has-behind : {h room : ℕ} {A B : Type 0} {g : Form B} {f : Form A} {P : List Symbol → A → Type 0} → Has h room f P → ((us vs : List Symbol) (x : A) → P vs x → P (us ++ vs) x) → Has h room (behind g f) P
has-behind {h} {room} {g = g} {f = f} {P = P} p grow = record {
  there = λ ts x a sh is.
      subst (λ y. P ts y) (sym is.2)
      (subst (λ us. P us is.0.1) (sym is.1.2)
      (grow is.1.0 is.1.1 is.0.1 (p.there is.1.1 is.0.1 (texts-back ts is.1.0 is.1.1 is.1.2 a) (shallow-right g f room h ts is.1.0 is.1.1 is.0.0 is.1.2 is.1.3 sh) is.1.4)));
}

pub has-before : {h room : ℕ} {A B : Type 0} {f : Form A} {g : Form B} {P : List Symbol → A → Type 0} → Has h room f P → ((us vs : List Symbol) (x : A) → P us x → P (us ++ vs) x) → Has h room (before f g) P
has-before {h} {room} {f = f} {g = g} {P = P} p grow = record {
  there = λ ts x a sh is.
      subst (λ y. P ts y) (sym is.2)
      (subst (λ us. P us is.0.0) (sym is.1.2)
      (grow is.1.0 is.1.1 is.0.0 (p.there is.1.0 is.0.0 (texts-front ts is.1.0 is.1.1 is.1.2 a) (shallow-left f g room ts is.1.0 is.1.1 is.1.2 sh) is.1.3)));
}

maybe-there : {h room : ℕ} {A : Type 0} {f : Form A} {P : List Symbol → A → Type 0} (Q : List Symbol → Option A → Type 0) → Has h room f P → ((ts : List Symbol) → Q ts None) → ((ts : List Symbol) (x : A) → AreTexts ts → P ts x → Q ts (Some x))
    → (ts : List Symbol) (x : Option A) → AreTexts ts → IsShallow (maybe f) room ts → Is (WholeAt h) (maybe f) ts x → Q ts x
maybe-there Q p none some ts None a sh is = none ts
maybe-there Q p none some ts (Some x) a sh is = some ts x a (p.there ts x a sh is)

pub has-maybe : {h room : ℕ} {A : Type 0} {f : Form A} {P : List Symbol → A → Type 0} (Q : List Symbol → Option A → Type 0) → Has h room f P → ((ts : List Symbol) → Q ts None) → ((ts : List Symbol) (x : A) → AreTexts ts → P ts x → Q ts (Some x)) → Has h room (maybe f) Q
has-maybe Q p none some = record { there = maybe-there Q p none some }

either-there : {h room : ℕ} {A : Type 0} {f g : Form A} {P : List Symbol → A → Type 0} → Has h room f P → Has h room g P → (ts : List Symbol) (x : A) → AreTexts ts → IsShallow (either f g) room ts → Is (WholeAt h) (either f g) ts x → P ts x
either-there p q ts x a sh (inl is) = p.there ts x a (λ ks bs n e b. sh ks bs n e (b.0, inl b.1)) is
either-there p q ts x a sh (inr is) = q.there ts x a (λ ks bs n e b. sh ks bs n e (b.0, inr b.1)) is

pub has-either : {h room : ℕ} {A : Type 0} {f g : Form A} {P : List Symbol → A → Type 0} → Has h room f P → Has h room g P → Has h room (either f g) P
has-either p q = record { there = either-there p q }

pub has-attempt : {h room : ℕ} {A : Type 0} {f g : Form A} {P : List Symbol → A → Type 0} → Has h room f P → Has h room g P → Has h room (attempt f g) P
has-attempt p q = record { there = either-there p q }

row-there : {h room : ℕ} {A : Type 0} {f : Form A} (fits : A → Bool) → nullable f ≡ false → Has h room f (λ ts x. fits x ≡ true)
    → (xs : List A) (ts : List Symbol) → AreTexts ts → IsShallow (many f) room ts → Each (Is (WholeAt h) f) ts xs → Items fits ts xs
row-there fits never p [] ts a sh each = no-items fits ts
row-there {h} {room} {f = f} fits never p (x ∷ xs) ts a sh each =
    let first = p.there each.0 x (texts-front ts each.0 each.1 each.2 a) (shallow-first f room ts each.0 each.1 each.2 sh) each.3 in
    let rest = row-there fits never p xs each.1 (texts-back ts each.0 each.1 each.2 a) (shallow-rest f room h ts each.0 each.1 x each.2 each.3 sh) each.4 in
    subst (λ us. Items fits us (x ∷ xs)) (sym each.2) (items-more fits each.0 each.1 x xs (some-symbol h f never each.0 x each.3) first rest)

-- a row of parts, each of which fits
pub has-row : {h room : ℕ} {A : Type 0} {f : Form A} (fits : A → Bool) → nullable f ≡ false → Has h room f (λ ts x. fits x ≡ true) → Has h room (many f) (Items fits)
has-row fits never p = record { there = λ ts xs a sh is. row-there fits never p xs ts a sh is }

-- ---- forms that hold themselves

pub has-lowest : (room : ℕ) (m : Nest) (P : List Symbol → Of m → Type 0) → Has zero room (nest m) P
has-lowest room m P = record { there = λ ts x a sh is. absurd is }

pub has-no-room : (h : ℕ) (m : Nest) → counts m ≡ true → (P : List Symbol → Of m → Type 0) → Has h zero (nest m) P
has-no-room h m c P = record { there = λ ts x a sh is. absurd (no-room h m c ts x sh is) }

pub has-counted : (h room : ℕ) (m : Nest) → counts m ≡ true → (P : List Symbol → Of m → Type 0) → Has h room (rule m) P → Has (suc h) (suc room) (nest m) P
has-counted h room m c P p = record { there = λ ts x a sh is. p.there ts x a (shallow-in m c room ts sh) is }

pub has-free : (h room : ℕ) (m : Nest) → counts m ≡ false → (P : List Symbol → Of m → Type 0) → Has h room (rule m) P → Has (suc h) room (nest m) P
has-free h room m c P p = record { there = λ ts x a sh is. p.there ts x a (shallow-free m c room ts sh) is }

-- with a symbol, where the form is never empty
pub has-symbol : {h room : ℕ} {A : Type 0} {f : Form A} {P : List Symbol → A → Type 0} → nullable f ≡ false → Has h room f P → Has h room f (λ ts x. P ts x × (1 ≤ length ts))
has-symbol {h} {f = f} never p = record { there = λ ts x a sh is. (p.there ts x a sh is, some-symbol h f never ts x is) }

-- a part, and a row of parts behind it
pub has-first : {h room : ℕ} {A : Type 0} {f g : Form A} (fits : A → Bool) → nullable f ≡ false → nullable g ≡ false → Has h room f (λ ts x. fits x ≡ true) → Has h room g (λ ts x. fits x ≡ true)
    → Has h room (turn first_and_rest (pair f (many g))) (Items fits)
has-first {A = A} fits some others p q =
    has-turn (first_and_rest {A = A}) (Items fits)
    (has-pair (λ ts x. Items fits ts (x.0 ∷ x.1)) (has-symbol some p) (has-row fits others q) (λ us vs x a one more. items-more fits us vs x.0 x.1 one.1 one.0 more))
    (λ ts x a i. i)

pub has-list : {h room : ℕ} {A : Type 0} {f : Form (List A)} (fits : A → Bool) → Has h room f (Items fits) → Has h room (turn list_or_none (maybe f)) (Items fits)
has-list {A = A} fits p =
    has-turn (list_or_none {A = A}) (Items fits)
    (has-maybe (λ ts o. Items fits ts (list_or_none o)) p (λ ts. no-items fits ts) (λ ts xs a i. i))
    (λ ts o a i. i)

-- behind a form that is never empty
pub has-behind-one : {h room : ℕ} {A B : Type 0} {g : Form B} {f : Form A} {P : List Symbol → A → Type 0} (Q : List Symbol → A → Type 0) → nullable g ≡ false → Has h room f P → ((us vs : List Symbol) (x : A) → 1 ≤ length us → P vs x → Q (us ++ vs) x)
    → Has h room (behind g f) Q
has-behind-one {h} {room} {g = g} {f = f} Q never p grow = record {
  there = λ ts x a sh is.
      subst (λ y. Q ts y) (sym is.2)
      (subst (λ us. Q us is.0.1) (sym is.1.2)
      (grow is.1.0 is.1.1 is.0.1 (some-symbol h g never is.1.0 is.0.0 is.1.3) (p.there is.1.1 is.0.1 (texts-back ts is.1.0 is.1.1 is.1.2 a) (shallow-right g f room h ts is.1.0 is.1.1 is.0.0 is.1.2 is.1.3 sh) is.1.4)));
}

-- what the symbols show as they are written
pub has-seen : {h room : ℕ} {A B : Type 0} {f : Form A} {P : List Symbol → A → Type 0} (k : List Symbol → B) → Has h room f P → Has h room (seen k f) (λ ts x. (x.0 ≡ k ts) × P ts x.1)
has-seen k p = record { there = λ ts x a sh is. (is.1, p.there ts x.1 a sh is.0) }

pub has-both : {h room : ℕ} {A : Type 0} {f : Form A} {P Q : List Symbol → A → Type 0} → Has h room f P → Has h room f Q → Has h room f (λ ts x. P ts x × Q ts x)
has-both p q = record { there = λ ts x a sh is. (p.there ts x a sh is, q.there ts x a sh is) }
