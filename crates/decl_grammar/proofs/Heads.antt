-- The first token of a form, and what a whole form and an empty list of tokens begin.
use Rattle.std.proofs.Common.{◌≡◌, ℕ, suc, Bool, true, false, cond, List, [], ◌∷◌, ◌++◌, ◌⊎◌, Some, None, refl, sym, ap, subst, ◌∙◌, inl, inr}
use Rattle.std.proofs.lemmas.List.{append-nil}
use Rattle.decl_grammar.specs.declared.symbol.Symbol.{Symbol}
use Rattle.decl_grammar.specs.Reading.{has, done, fault, ◌>>=◌, one_at, pass, skip}
use Rattle.decl_grammar.specs.Form.{Nest, Of, first_of, Form, terminal, pair, turn, maybe, many, either, nest, over, seen, attempt, nullable, first, Each, Wholes, Begun, Is, Begins, opened}
use Rattle.decl_grammar.proofs.Progress.{choice_done, bind_done}
use Rattle.decl_grammar.proofs.OneToken.{or_left, or_right, has-append}

pub nil_parts : {A : Type 0} (us vs : List A) → [] ≡ us ++ vs → (us ≡ []) × (vs ≡ [])
nil_parts [] vs e = (refl, sym e)
nil_parts (u ∷ us) vs e = absurd cc

-- the head of a list in two parts
pub cons_parts : {A : Type 0} (t : A) (ts us vs : List A) → t ∷ ts ≡ us ++ vs → ((us ≡ []) × (vs ≡ t ∷ ts)) ⊎ ((us' : List A) × (us ≡ t ∷ us') × (ts ≡ us' ++ vs))
cons_parts t ts [] vs e = inl (refl, sym e)
cons_parts t ts (u ∷ us) vs e = inr (us, cc, cc)

pub word_not_empty : (k : List ℕ) (x : Symbol) (rest : List Symbol) → one_at k [] ≡ done x rest → ⊥
unfolding one_at
word_not_empty k x rest e = cc

pub skip_not_empty : (opens : List ℕ) (x : Unit {0}) (rest : List Symbol) → skip opens [] ≡ done x rest → ⊥
skip_not_empty opens x rest e =
    let a = bind_done (one_at opens []) (λ t rest. pass (suc t.sort ∷ []) rest) x rest e in
    word_not_empty opens a.0 a.1 a.2

-- no nested form is empty
abbrev pub Full : Wholes → Type 0
Full w = (m : Nest) (x : Of m) → w m [] x → ⊥

-- only a nullable form is empty
pub Is-nil : (w : Wholes) → Full w → {A : Type 0} (f : Form A) (ts : List Symbol) (x : A) → ts ≡ [] → Is w f ts x → nullable f ≡ true
Is-nil w full (terminal k) ts x z is = absurd cc
Is-nil w full (pair f g) ts x z is =
    let p = nil_parts is.0 is.1 (sym z ∙ is.2) in
    rw (Is-nil w full f is.0 x.0 p.0 is.3, Is-nil w full g is.1 x.1 p.1 is.4) refl
Is-nil w full (turn h f) ts x z is = Is-nil w full f ts is.0 z is.1
Is-nil w full (seen h f) ts x z is = Is-nil w full f ts x.1 z is.0
Is-nil w full (maybe f) ts x z is = refl
Is-nil w full (many f) ts x z is = refl
Is-nil w full (either f g) ts x z (inl is) = or_left (nullable f) (nullable g) (Is-nil w full f ts x z is)
Is-nil w full (either f g) ts x z (inr is) = or_right (nullable f) (nullable g) (Is-nil w full g ts x z is)
Is-nil w full (nest m) ts x z is = absurd (full m x (subst (λ (u : List Symbol). w m u x) z is))
Is-nil w full (over opens) ts x z is = absurd (skip_not_empty opens tt [] (ap (skip opens) (sym z) ∙ is))
Is-nil w full (attempt f g) ts x z (inl is) = or_left (nullable f) (nullable g) (Is-nil w full f ts x z is)
Is-nil w full (attempt f g) ts x z (inr is) = or_right (nullable f) (nullable g) (Is-nil w full g ts x z is)

pub word_head : (k : List ℕ) (t : Symbol) (ts : List Symbol) (x : Symbol) (rest : List Symbol) → one_at k (t ∷ ts) ≡ done x rest → has k t.sort ≡ true
unfolding one_at
word_head k t ts x rest e = elim (choice_done (has k t.sort) (done t ts) (fault (t ∷ ts)) x rest e) [ inl p ↦ p.0 | inr p ↦ absurd cc ]

pub skip_head : (opens : List ℕ) (t : Symbol) (ts : List Symbol) (x : Unit {0}) (rest : List Symbol) → skip opens (t ∷ ts) ≡ done x rest → has opens t.sort ≡ true
skip_head opens t ts x rest e =
    let a = bind_done (one_at opens (t ∷ ts)) (λ t rest. pass (suc t.sort ∷ []) rest) x rest e in
    word_head opens t ts a.0 a.1 a.2

skip_begun : (opens : List ℕ) (t : Symbol) (ts : List Symbol) → skip opens (t ∷ ts) ≡ fault [] → has opens t.sort ≡ true
unfolding one_at
skip_begun opens t ts e = go (has opens t.sort) e
  where
    go : (b : Bool) → (cond b (done t ts) (fault (t ∷ ts)) >>= λ t rest. pass (suc t.sort ∷ []) rest) ≡ fault [] → b ≡ true
    go true h = refl
    go false h = absurd cc

-- a token that begins the first part begins the pair, and so does one of the second part where the first may be empty
pair_left : (b : Bool) (ks ls : List ℕ) (n : ℕ) → has ks n ≡ true → has (cond b (ks ++ ls) ks) n ≡ true
pair_left true ks ls n h = has-append ks ls n ∙ or_left (has ks n) (has ls n) h
pair_left false ks ls n h = h

pair_right : (b : Bool) (ks ls : List ℕ) (n : ℕ) → b ≡ true → has ls n ≡ true → has (cond b (ks ++ ls) ks) n ≡ true
pair_right true ks ls n z h = has-append ks ls n ∙ or_right (has ks n) (has ls n) h
pair_right false ks ls n z h = absurd cc

abbrev pub WholeHeads : Wholes → Type 0
WholeHeads w = (m : Nest) (t : Symbol) (ts : List Symbol) (x : Of m) → w m (t ∷ ts) x → has (first_of m) t.sort ≡ true

abbrev pub BegunHeads : Begun → Type 0
BegunHeads b = (m : Nest) (t : Symbol) (ts : List Symbol) (n : ℕ) → b m (t ∷ ts) n → has (first_of m) t.sort ≡ true

-- the first token of a row of parts
pub Each-head : {A : Type 0} (P : List Symbol → A → Type 0) (ks : List ℕ) → ((t : Symbol) (us : List Symbol) (x : A) (ts : List Symbol) → ts ≡ t ∷ us → P ts x → has ks t.sort ≡ true)
    → (xs : List A) (t : Symbol) (us ts : List Symbol) → ts ≡ t ∷ us → Each P ts xs → has ks t.sort ≡ true
Each-head P ks h [] t us ts z each = absurd cc
Each-head P ks h (x ∷ xs) t us ts z each =
    elim (cons_parts t us each.0 each.1 (sym z ∙ each.2)) [
      | inl p ↦ Each-head P ks h xs t us each.1 p.1 each.4
      | inr p ↦ h t p.0 x each.0 p.1 each.3
    ]

-- the first token of a whole form
pub Is-head : (w : Wholes) → Full w → WholeHeads w → {A : Type 0} (f : Form A) (t : Symbol) (us : List Symbol) (x : A) (ts : List Symbol) → ts ≡ t ∷ us → Is w f ts x → has (first f) t.sort ≡ true
Is-head w full heads (terminal k) t us x ts z is =
    let same : t ≡ x = cc in
    rw same is.1
Is-head w full heads (pair f g) t us x ts z is =
    elim (cons_parts t us is.0 is.1 (sym z ∙ is.2)) [
      | inl p ↦ pair_right (nullable f) (first f) (first g) t.sort (Is-nil w full f is.0 x.0 p.0 is.3) (Is-head w full heads g t us x.1 is.1 p.1 is.4)
      | inr p ↦ pair_left (nullable f) (first f) (first g) t.sort (Is-head w full heads f t p.0 x.0 is.0 p.1 is.3)
    ]
Is-head w full heads (turn h f) t us x ts z is = Is-head w full heads f t us is.0 ts z is.1
Is-head w full heads (seen h f) t us x ts z is = Is-head w full heads f t us x.1 ts z is.0
Is-head w full heads (maybe f) t us None ts z is = absurd cc
Is-head w full heads (maybe f) t us (Some x) ts z is = Is-head w full heads f t us x ts z is
Is-head w full heads (many f) t us xs ts z is = Each-head (Is w f) (first f) (Is-head w full heads f) xs t us ts z is
Is-head w full heads (either f g) t us x ts z (inl is) = has-append (first f) (first g) t.sort ∙ or_left _ _ (Is-head w full heads f t us x ts z is)
Is-head w full heads (either f g) t us x ts z (inr is) = has-append (first f) (first g) t.sort ∙ or_right (has (first f) t.sort) _ (Is-head w full heads g t us x ts z is)
Is-head w full heads (nest m) t us x ts z is = heads m t us x (subst (λ (u : List Symbol). w m u x) z is)
Is-head w full heads (over opens) t us x ts z is = skip_head opens t us tt [] (ap (skip opens) (sym z) ∙ is)
Is-head w full heads (attempt f g) t us x ts z (inl is) = has-append (first f) (first g) t.sort ∙ or_left _ _ (Is-head w full heads f t us x ts z is)
Is-head w full heads (attempt f g) t us x ts z (inr is) = has-append (first f) (first g) t.sort ∙ or_right (has (first f) t.sort) _ (Is-head w full heads g t us x ts z is)

-- the first token of a form that is begun
pub Begins-head : (w : Wholes) (b : Begun) → Full w → WholeHeads w → BegunHeads b → {A : Type 0} (f : Form A) (t : Symbol) (us : List Symbol) (n : ℕ) (ts : List Symbol) → ts ≡ t ∷ us → Begins w b f ts n → has (first f) t.sort ≡ true
Begins-head w b full wh bh (terminal k) t us n ts z (p, inl e) = absurd cc
Begins-head w b full wh bh (terminal k) t us n ts z (p, inr q) =
    let same : t ≡ q.0 = cc in
    rw same q.2
Begins-head w b full wh bh (pair f g) t us n ts z (inl p) = pair_left (nullable f) (first f) (first g) t.sort (Begins-head w b full wh bh f t us n ts z p)
Begins-head w b full wh bh (pair f g) t us n ts z (inr q) =
    elim (cons_parts t us q.0 q.1 (sym z ∙ q.3)) [
      | inl p ↦ pair_right (nullable f) (first f) (first g) t.sort (Is-nil w full f q.0 q.2 p.0 q.4) (Begins-head w b full wh bh g t us n q.1 p.1 q.5)
      | inr p ↦ pair_left (nullable f) (first f) (first g) t.sort (Is-head w full wh f t p.0 q.2 q.0 p.1 q.4)
    ]
Begins-head w b full wh bh (turn h f) t us n ts z p = Begins-head w b full wh bh f t us n ts z p
Begins-head w b full wh bh (seen h f) t us n ts z p = Begins-head w b full wh bh f t us n ts z p
Begins-head w b full wh bh (maybe f) t us n ts z p = Begins-head w b full wh bh f t us n ts z p
Begins-head w b full wh bh (many f) t us n ts z q =
    elim (cons_parts t us q.0 q.1 (sym z ∙ q.3)) [
      | inl p ↦ Begins-head w b full wh bh f t us n q.1 p.1 q.5
      | inr p ↦ Each-head (Is w f) (first f) (Is-head w full wh f) q.2 t p.0 q.0 p.1 q.4
    ]
Begins-head w b full wh bh (either f g) t us n ts z (inl p) = has-append (first f) (first g) t.sort ∙ or_left _ _ (Begins-head w b full wh bh f t us n ts z p)
Begins-head w b full wh bh (either f g) t us n ts z (inr p) = has-append (first f) (first g) t.sort ∙ or_right (has (first f) t.sort) _ (Begins-head w b full wh bh g t us n ts z p)
Begins-head w b full wh bh (nest m) t us n ts z (inl p) = absurd cc
Begins-head w b full wh bh (nest m) t us n ts z (inr q) =
    let same : t ≡ q.0 = cc in
    rw same (bh m q.0 q.1 q.2 (subst (λ (u : List Symbol). b m u q.2) q.3 q.5))
Begins-head w b full wh bh (over opens) t us n ts z (p, inl e) = skip_begun opens t us (ap (skip opens) (sym z) ∙ e)
Begins-head w b full wh bh (over opens) t us n ts z (p, inr e) = skip_head opens t us tt [] (ap (skip opens) (sym z) ∙ e)
Begins-head w b full wh bh (attempt f g) t us n ts z (inl p) = has-append (first f) (first g) t.sort ∙ or_left _ _ (Begins-head w b full wh bh f t us n ts z p)
Begins-head w b full wh bh (attempt f g) t us n ts z (inr p) = has-append (first f) (first g) t.sort ∙ or_right (has (first f) t.sort) _ (Begins-head w b full wh bh g t us n ts z p)

-- no tokens begin every form, and nothing is open in it
skip_nil : (opens : List ℕ) → skip opens [] ≡ fault []
unfolding one_at
skip_nil opens = refl

pub Begins-nil : (w : Wholes) (b : Begun) {A : Type 0} (f : Form A) → Begins w b f [] 0
Begins-nil w b (terminal k) = (refl, inl refl)
Begins-nil w b (pair f g) = inl (Begins-nil w b f)
Begins-nil w b (turn h f) = Begins-nil w b f
Begins-nil w b (seen h f) = Begins-nil w b f
Begins-nil w b (maybe f) = Begins-nil w b f
Begins-nil w b (many f) = ([], [], [], refl, refl, Begins-nil w b f)
Begins-nil w b (either f g) = inl (Begins-nil w b f)
Begins-nil w b (nest m) = inl (refl, refl)
Begins-nil w b (over opens) = (refl, inl (skip_nil opens))
Begins-nil w b (attempt f g) = inl (Begins-nil w b f)

pub nil-open : (w : Wholes) (b : Begun) {A : Type 0} (f : Form A) (ts : List Symbol) (n : ℕ) → ts ≡ [] → Begins w b f ts n → n ≡ 0
nil-open w b (terminal k) ts n z p = p.0
nil-open w b (pair f g) ts n z (inl p) = nil-open w b f ts n z p
nil-open w b (pair f g) ts n z (inr q) = nil-open w b g q.1 n (nil_parts q.0 q.1 (sym z ∙ q.3)).1 q.5
nil-open w b (turn h f) ts n z p = nil-open w b f ts n z p
nil-open w b (seen h f) ts n z p = nil-open w b f ts n z p
nil-open w b (maybe f) ts n z p = nil-open w b f ts n z p
nil-open w b (many f) ts n z q = nil-open w b f q.1 n (nil_parts q.0 q.1 (sym z ∙ q.3)).1 q.5
nil-open w b (either f g) ts n z (inl p) = nil-open w b f ts n z p
nil-open w b (either f g) ts n z (inr p) = nil-open w b g ts n z p
nil-open w b (nest m) ts n z (inl p) = p.1
nil-open w b (nest m) ts n z (inr q) = absurd cc
nil-open w b (over opens) ts n z p = p.0
nil-open w b (attempt f g) ts n z (inl p) = nil-open w b f ts n z p
nil-open w b (attempt f g) ts n z (inr p) = nil-open w b g ts n z p

-- what is whole is begun
abbrev pub WholeBegins : Wholes → Begun → Type 0
WholeBegins w b = (m : Nest) (ts : List Symbol) (x : Of m) → w m ts x → (k : ℕ) × b m ts k

pub Is-begins : (w : Wholes) (b : Begun) → Full w → WholeBegins w b → {A : Type 0} (f : Form A) (ts : List Symbol) (x : A) → Is w f ts x → (n : ℕ) × Begins w b f ts n
Is-begins w b full wb (terminal k) ts x is = (0, (refl, inr (x, is.0, is.1)))
Is-begins w b full wb (pair f g) ts x is =
    let p = Is-begins w b full wb g is.1 x.1 is.4 in
    (p.0, inr (is.0, is.1, x.0, is.2, is.3, p.1))
Is-begins w b full wb (turn h f) ts x is = Is-begins w b full wb f ts is.0 is.1
Is-begins w b full wb (seen h f) ts x is = Is-begins w b full wb f ts x.1 is.0
Is-begins w b full wb (maybe f) ts None is = (0, subst (λ (u : List Symbol). Begins w b f u 0) (sym is) (Begins-nil w b f))
Is-begins w b full wb (maybe f) ts (Some x) is = Is-begins w b full wb f ts x is
Is-begins w b full wb (many f) ts xs is = (0, (ts, [], xs, sym (append-nil ts), is, Begins-nil w b f))
Is-begins w b full wb (either f g) ts x (inl is) = let p = Is-begins w b full wb f ts x is in (p.0, inl p.1)
Is-begins w b full wb (either f g) ts x (inr is) = let p = Is-begins w b full wb g ts x is in (p.0, inr p.1)
Is-begins w b full wb (nest m) [] x is = absurd (full m x is)
Is-begins w b full wb (nest m) (t ∷ ts) x is = let p = wb m (t ∷ ts) x is in (opened m p.0, inr (t, ts, p.0, refl, refl, p.1))
Is-begins w b full wb (over opens) ts x is = (0, (refl, inr is))
Is-begins w b full wb (attempt f g) ts x (inl is) = let p = Is-begins w b full wb f ts x is in (p.0, inl p.1)
Is-begins w b full wb (attempt f g) ts x (inr is) = let p = Is-begins w b full wb g ts x is in (p.0, inr p.1)
