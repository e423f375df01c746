-- What is a form is read as it, whatever follows that cannot continue it, unless it is too deep.
use Rattle.std.proofs.Common.{◌≡◌, ℕ, zero, suc, ◌<◌, ◌≤◌, Bool, true, false, cond, List, [], ◌∷◌, ◌++◌, ◌⊎◌, length, Option, Some, None, refl, sym, ap, subst, ◌∙◌, append_assoc, length-append, arith, inl, inr}
use Rattle.std.specs.Prelude.{◌&&◌}
use Rattle.std.specs.Option.{option_map_or}
use Rattle.decl_grammar.specs.declared.symbol.Symbol.{Symbol}
use Rattle.decl_grammar.specs.Reading.{has, starts, Outcome, done, fault, deep, ◌>>=◌, one_at, after, pass, skip, read_of}
use Rattle.decl_grammar.specs.Form.{Nest, Of, Form, terminal, pair, turn, maybe, many, either, nest, over, seen, attempt, nullable, first, Each, Wholes, Begun, Readers, Is, repeat, attempted, read}
use Rattle.decl_grammar.proofs.OneToken.{no, no_true, both, neither, not_both, starts-append, disjoint, disjoint-has, more_of, more, ok}
use Rattle.decl_grammar.proofs.Told.{Told, read_of-front, told}
use Rattle.decl_grammar.proofs.Rivals.{Fair, Upto, Sole, WholeUp, Is-up}
use Rattle.decl_grammar.proofs.Attempts.{Known, Beside, beside}
use Rattle.decl_grammar.proofs.Heads.{Full, WholeHeads, nil_parts, Is-nil, Is-head, Each-head}
use Rattle.std.proofs.lemmas.List.{nil_from_length}

-- the value comes with the rest, or it is too deep before the rest
abbrev pub Comes : {A : Type 0} → A → List Symbol → Outcome A → Type 0
Comes x rest o = (o ≡ done x rest) ⊎ ((at : List Symbol) × (o ≡ deep at) × (length rest < length at))

comes-pair : {A B : Type 0} (x : A) (y : B) (vs rest : List Symbol) (o : Outcome A) (two : List Symbol → Outcome B) → Comes x (vs ++ rest) o → Comes y rest (two (vs ++ rest))
    → Comes {A = A × B} (x, y) rest (o >>= λ x rest. two rest >>= λ y after. done (x, y) after)
comes-pair {A} {B} x y vs rest o two (inl e) (inl d) = inl (rw (e, d) refl)
comes-pair {A} {B} x y vs rest o two (inl e) (inr d) = inr (d.0, rw (e, d.1) refl, d.2)
comes-pair {A} {B} x y vs rest o two (inr e) d = inr (e.0, rw e.1 refl, omega (arith, e.2, length-append vs rest))

comes-turn : {A B : Type 0} (k : A → B) (x : A) (rest : List Symbol) (o : Outcome A) → Comes x rest o → Comes (k x) rest (o >>= λ x rest. done (k x) rest)
comes-turn k x rest o (inl e) = inl (rw e refl)
comes-turn k x rest o (inr e) = inr (e.0, rw e.1 refl, e.2)

abbrev done_pair : {A B : Type 0} → B → A → List Symbol → Outcome (B × A)
done_pair b a rest = done (b, a) rest

comes-seen : {A B : Type 0} (h : List Symbol → B) (x : B × A) (ts rest : List Symbol) (o : Outcome A) → x.0 ≡ h ts → Comes x.1 rest o → Comes {A = B × A} x rest (o >>= λ y after. done (h (read_of (ts ++ rest) after), y) after)
comes-seen {A} {B} h x ts rest o is (inl e) =
    let s : h (read_of (ts ++ rest) rest) ≡ x.0 = ap h (read_of-front (ts ++ rest) ts rest refl) ∙ sym is in
    inl (rw e (ap (λ (b : B). done_pair b x.1 rest) s))
comes-seen h x ts rest o is (inr e) = inr (e.0, rw e.1 refl, e.2)

comes-row : {A : Type 0} (x : A) (xs : List A) (vs rest : List Symbol) (o : Outcome A) (row : List Symbol → Outcome (List A)) → Comes x (vs ++ rest) o → Comes xs rest (row (vs ++ rest))
    → Comes (x ∷ xs) rest (o >>= λ x rest. row rest >>= λ xs after. done (x ∷ xs) after)
comes-row x xs vs rest o row (inl e) (inl d) = inl (rw (e, d) refl)
comes-row x xs vs rest o row (inl e) (inr d) = inr (d.0, rw (e, d.1) refl, d.2)
comes-row x xs vs rest o row (inr e) d = inr (e.0, rw e.1 refl, omega (arith, e.2, length-append vs rest))

comes-choice : {A : Type 0} (x : A) (rest : List Symbol) (c : Bool) (p q : Outcome A) → c ≡ true → Comes x rest p → Comes x rest (cond c p q)
comes-choice x rest true p q e h = h
comes-choice x rest false p q e h = absurd cc

comes-other : {A : Type 0} (x : A) (rest : List Symbol) (c : Bool) (p q : Outcome A) → c ≡ false → Comes x rest q → Comes x rest (cond c p q)
comes-other x rest true p q e h = absurd cc
comes-other x rest false p q e h = h

pub word-again : (k : List ℕ) (t : Symbol) (rest : List Symbol) → has k t.sort ≡ true → one_at k (t ∷ rest) ≡ done t rest
unfolding one_at
word-again k t rest e = rw e refl

pub pass-again : (ks : List ℕ) (us rest : List Symbol) → pass ks us ≡ done tt [] → pass ks (us ++ rest) ≡ done tt rest
unfolding pass
pass-again [] us rest e =
    let nothing : us ≡ [] = cc in
    ap (λ (u : List Symbol). done tt (u ++ rest)) nothing
pass-again (k ∷ ks) [] rest e = absurd cc
pass-again (k ∷ ks) (t ∷ us) rest e = go (after k ks t) e (λ next h. pass-again next us rest h)
  where
    go : (o : Option (List ℕ)) → option_map_or (λ next. pass next us) o (fault (t ∷ us)) ≡ done tt [] → ((next : List ℕ) → pass next us ≡ done tt [] → pass next (us ++ rest) ≡ done tt rest)
        → option_map_or (λ next. pass next (us ++ rest)) o (fault (t ∷ us ++ rest)) ≡ done tt rest
    go None e h = absurd cc
    go (Some next) e h = h next e

pub skip-again : (opens : List ℕ) (us rest : List Symbol) → skip opens us ≡ done tt [] → skip opens (us ++ rest) ≡ done tt rest
unfolding one_at
skip-again opens [] rest e = absurd cc
skip-again opens (t ∷ us) rest e = go (has opens t.sort) e
  where
    go : (c : Bool) → (cond c (done t us) (fault (t ∷ us)) >>= λ t rest. pass (suc t.sort ∷ []) rest) ≡ done tt [] → (cond c (done t (us ++ rest)) (fault (t ∷ us ++ rest)) >>= λ t rest. pass (suc t.sort ∷ []) rest) ≡ done tt rest
    go true e = pass-again (suc t.sort ∷ []) us rest e
    go false e = absurd cc

-- what follows the first part of a pair does not continue it
clear-first : (ks ls : List ℕ) (b : Bool) (vs rest : List Symbol) → (vs ≡ [] → b ≡ true) → ((t : Symbol) (us : List Symbol) → vs ≡ t ∷ us → has ks t.sort ≡ false) → starts (cond b (ks ++ ls) ls) rest ≡ false → starts ks (vs ++ rest) ≡ false
clear-first ks ls true [] rest z h c = (neither (starts ks rest) (starts ls rest) (sym (starts-append ks ls rest) ∙ c)).0
clear-first ks ls false [] rest z h c = absurd (let e = z refl in cc)
clear-first ks ls b (t ∷ us) rest z h c = h t us refl

clear-second : (ks ls : List ℕ) (b : Bool) (rest : List Symbol) → starts (cond b (ks ++ ls) ls) rest ≡ false → starts ls rest ≡ false
clear-second ks ls true rest c = (neither (starts ks rest) (starts ls rest) (sym (starts-append ks ls rest) ∙ c)).1
clear-second ks ls false rest c = c

-- a list that is not empty has a first token
pub starts-front : (ks : List ℕ) (us rest : List Symbol) → (us ≡ [] → ⊥) → ((t : Symbol) (vs : List Symbol) → us ≡ t ∷ vs → has ks t.sort ≡ true) → starts ks (us ++ rest) ≡ true
starts-front ks [] rest z h = absurd (z refl)
starts-front ks (t ∷ us) rest z h = h t us refl

pub starts-not : (ks : List ℕ) (us rest : List Symbol) → (us ≡ [] → ⊥) → ((t : Symbol) (vs : List Symbol) → us ≡ t ∷ vs → has ks t.sort ≡ false) → starts ks (us ++ rest) ≡ false
starts-not ks [] rest z h = absurd (z refl)
starts-not ks (t ∷ us) rest z h = h t us refl

-- what follows a part of a row does not continue it
clear-next : {A : Type 0} (P : List Symbol → A → Type 0) (ks ls : List ℕ) → ((t : Symbol) (us : List Symbol) (x : A) (ts : List Symbol) → ts ≡ t ∷ us → P ts x → has ks t.sort ≡ true) → disjoint ks ls ≡ true
    → (xs : List A) (vs rest : List Symbol) → Each P vs xs → starts ls rest ≡ false → starts ls (vs ++ rest) ≡ false
clear-next P ks ls heads d xs [] rest each c = c
clear-next P ks ls heads d xs (t ∷ vs) rest each c = disjoint-has ks ls t.sort d (Each-head P ks heads xs t vs (t ∷ vs) refl each)

pub positive : {A : Type 0} (us : List A) → (us ≡ [] → ⊥) → 0 < length us
positive [] h = absurd (h refl)
positive (u ∷ us) h = omega arith

comes-more : {A : Type 0} (ks : List ℕ) (one : List Symbol → Outcome A) (n : ℕ) (x : A) (xs : List A) (us vs rest : List Symbol) → starts ks (us ++ (vs ++ rest)) ≡ true → Comes x (vs ++ rest) (one (us ++ (vs ++ rest)))
    → Comes xs rest (repeat (starts ks) one n (vs ++ rest)) → Comes (x ∷ xs) rest (repeat (starts ks) one (suc n) (us ++ (vs ++ rest)))
comes-more ks one n x xs us vs rest s c d =
    comes-choice (x ∷ xs) rest (starts ks (us ++ (vs ++ rest))) (one (us ++ (vs ++ rest)) >>= λ x rest. repeat (starts ks) one n rest >>= λ xs after. done (x ∷ xs) after) (done [] (us ++ (vs ++ rest))) s
    (comes-row x xs vs rest (one (us ++ (vs ++ rest))) (repeat (starts ks) one n) c d)

-- a row of parts, with this many turns left
comes-each : {A : Type 0} (P : List Symbol → A → Type 0) (ks ls : List ℕ) (one : List Symbol → Outcome A)
    → ((x : A) (us : List Symbol) → us ≡ [] → P us x → ⊥) → ((t : Symbol) (us : List Symbol) (x : A) (ts : List Symbol) → ts ≡ t ∷ us → P ts x → has ks t.sort ≡ true) → disjoint ks ls ≡ true
    → ((x : A) (us rest : List Symbol) → starts ls rest ≡ false → P us x → Comes x rest (one (us ++ rest)))
    → (xs : List A) (n : ℕ) (ts rest : List Symbol) → length ts ≤ n → starts ks rest ≡ false → starts ls rest ≡ false → Each P ts xs → Comes xs rest (repeat (starts ks) one n (ts ++ rest))
comes-each P ks ls one full heads d h [] zero ts rest le c1 c2 each = inl (ap (λ (u : List Symbol). done [] (u ++ rest)) each)
comes-each {A} P ks ls one full heads d h [] (suc n) ts rest le c1 c2 each =
    subst (λ (u : List Symbol). Comes [] rest (repeat (starts ks) one (suc n) (u ++ rest))) (sym each) (comes-other [] rest (starts ks rest) (one rest >>= λ x rest. repeat (starts ks) one n rest >>= λ xs after. done (x ∷ xs) after) (done [] rest) c1 (inl refl))
comes-each P ks ls one full heads d h (x ∷ xs) zero ts rest le c1 c2 each =
    let z : ts ≡ [] = nil_from_length ts (omega arith) in
    absurd (full x each.0 (nil_parts each.0 each.1 (sym z ∙ each.2)).0 each.3)
comes-each {A} P ks ls one full heads d h (x ∷ xs) (suc n) ts rest le c1 c2 each =
    let whole : ts ++ rest ≡ each.0 ++ (each.1 ++ rest) = ap (λ (u : List Symbol). u ++ rest) each.2 ∙ append_assoc each.0 each.1 rest in
    let some : each.0 ≡ [] → ⊥ = λ z. full x each.0 z each.3 in
    let s : starts ks (each.0 ++ (each.1 ++ rest)) ≡ true = starts-front ks each.0 (each.1 ++ rest) some (λ t us z. heads t us x each.0 z each.3) in
    let fewer : length each.1 ≤ n = omega (arith, positive each.0 some, ap length each.2, length-append each.0 each.1) in
    let c : Comes x (each.1 ++ rest) (one (each.0 ++ (each.1 ++ rest))) = h x each.0 (each.1 ++ rest) (clear-next P ks ls heads d xs each.1 rest each.4 c2) each.3 in
    let later : Comes xs rest (repeat (starts ks) one n (each.1 ++ rest)) = comes-each P ks ls one full heads d h xs n each.1 rest fewer c1 c2 each.4 in
    subst (λ (u : List Symbol). Comes (x ∷ xs) rest (repeat (starts ks) one (suc n) u)) (sym whole) (comes-more ks one n x xs each.0 each.1 rest s c later)

abbrev pub NestComes : Wholes → Readers → Type 0
NestComes w r = (m : Nest) (ts : List Symbol) (x : Of m) (rest : List Symbol) → starts (more_of m) rest ≡ false → w m ts x → Comes x rest (r m (ts ++ rest))

-- of two readings the first one is whole, or the other one
comes-first : {A : Type 0} (x : A) (rest : List Symbol) (o q : Outcome A) → Comes x rest o → Comes x rest (attempted o q)
comes-first x rest o q (inl e) = inl (rw e refl)
comes-first x rest o q (inr e) = inr (e.0, rw e.1 refl, e.2)

comes-second : {A : Type 0} (x : A) (rest : List Symbol) (o q : Outcome A) → Comes x rest q → Beside x rest o → Comes x rest (attempted o q)
comes-second {A} x rest (done y at) q c h = inl (ap (λ (z : A). done z at) h.0 ∙ ap (λ (u : List Symbol). done x u) h.1)
comes-second x rest (fault at) q (inl e) h = inl (rw e refl)
comes-second x rest (fault at) q (inr e) h = inr (e.0, rw e.1 refl, e.2)
comes-second x rest (deep at) q c h = inr (at, refl, h)

-- what is known of forms that hold themselves at one height, and at any
pub record Inside (v w : Wholes) (b : Begun) (room : ℕ) (r : Readers) : Type 0 where
  pub full : Full v
  pub heads : WholeHeads v
  pub comes : NestComes v r
  pub up : WholeUp v w
  pub height : (l : Option ℕ) × WholeUp v (Upto l) × WholeUp (Upto l) v
  pub known : Known room w b r

-- what is read is the one meaning that the symbols have
one-meaning : {A : Type 0} (x y : A) (rest : List Symbol) (o : Outcome A) → o ≡ done x rest → Comes y rest o → x ≡ y
one-meaning x y rest o e (inl d) = cc
one-meaning x y rest o e (inr d) = absurd (let p = d.1 in cc)

starts-none : (ks : List ℕ) (ts : List Symbol) → ks ≡ [] → starts ks ts ≡ false
starts-none ks [] e = refl
starts-none ks (t ∷ ts) e = ap (λ (l : List ℕ). has l t.sort) e

told-alone : (v w : Wholes) (b : Begun) (room : ℕ) (r : Readers) (inside : Inside v w b room r) (m : Nest) (ts : List Symbol) (o : Outcome (Of m)) → r m ts ≡ o → Told room w b (nest m) ts o → Told room (Sole w (Upto inside.height.0)) b (nest m) ts o
told-alone v w b room r inside m ts (done x rest) e p = (
  p.0,
  p.1,
  (
    p.2,
    λ z y whole. one-meaning x y rest (r m ts) e
        (subst (λ (u : List Symbol). Comes y rest (r m u)) (sym p.1) (inside.comes m p.0 y rest (starts-none (more_of m) rest z) (inside.height.2 m p.0 y whole))),
  ),
)
told-alone v w b room r inside m ts (fault at) e p = p
told-alone v w b room r inside m ts (deep at) e p = p

pub complete : (v w : Wholes) (b : Begun) (room : ℕ) (r : Readers) → Inside v w b room r → {A : Type 0} (f : Form A) → ok f ≡ true → Fair w b f → (ts : List Symbol) (x : A) (rest : List Symbol) → starts (more f) rest ≡ false → Is v f ts x → Comes x rest (read r f (ts ++ rest))
complete v w b room r inside (terminal k) good fair ts x rest c is = inl (ap (λ (u : List Symbol). one_at k (u ++ rest)) is.0 ∙ word-again k x rest is.1)
complete v w b room r inside (pair {A} {B} f g) good fair ts x rest c is =
    let p = both (ok f) (ok g && disjoint (first g) (more f)) good in
    let q = both (ok g) (disjoint (first g) (more f)) p.1 in
    let whole : ts ++ rest ≡ is.0 ++ (is.1 ++ rest) = ap (λ (u : List Symbol). u ++ rest) is.2 ∙ append_assoc is.0 is.1 rest in
    let c1 : starts (more f) (is.1 ++ rest) ≡ false = clear-first (more f) (more g) (nullable g) is.1 rest (λ z. Is-nil v inside.full g is.1 x.1 z is.4) (λ t us z. disjoint-has (first g) (more f) t.sort q.1 (Is-head v inside.full inside.heads g t us x.1 is.1 z is.4)) c in
    let one = complete v w b room r inside f p.0 fair.0 is.0 x.0 (is.1 ++ rest) c1 is.3 in
    let two = complete v w b room r inside g q.0 fair.1 is.1 x.1 rest (clear-second (more f) (more g) (nullable g) rest c) is.4 in
    subst (λ (u : List Symbol). Comes {A = A × B} x rest (read r (pair f g) u)) (sym whole) (comes-pair x.0 x.1 is.1 rest (read r f (is.0 ++ (is.1 ++ rest))) (read r g) one two)
complete v w b room r inside (turn {A} {B} h f) good fair ts y rest c is =
    subst (λ (z : B). Comes z rest (read r (turn h f) (ts ++ rest))) (sym is.2) (comes-turn h is.0 rest (read r f (ts ++ rest)) (complete v w b room r inside f good fair ts is.0 rest c is.1))
complete v w b room r inside (seen {A} {B} h f) good fair ts x rest c is =
    comes-seen h x ts rest (read r f (ts ++ rest)) is.1 (complete v w b room r inside f good fair ts x.1 rest c is.0)
complete v w b room r inside (maybe {A} f) good fair ts None rest c is =
    let n = neither (starts (first f) rest) (starts (more f) rest) (sym (starts-append (first f) (more f) rest) ∙ c) in
    subst (λ (u : List Symbol). Comes {A = Option A} None rest (read r (maybe f) (u ++ rest))) (sym is) (comes-other None rest (starts (first f) rest) (read r f rest >>= λ x rest. done (Some x) rest) (done None rest) n.0 (inl refl))
complete v w b room r inside (maybe {A} f) good fair ts (Some x) rest c is =
    let p = both (ok f) (no (nullable f)) good in
    let n = neither (starts (first f) rest) (starts (more f) rest) (sym (starts-append (first f) (more f) rest) ∙ c) in
    let some : ts ≡ [] → ⊥ = λ z. not_both (nullable f) (Is-nil v inside.full f ts x z is) (no_true (nullable f) p.1) in
    let s = starts-front (first f) ts rest some (λ t us z. Is-head v inside.full inside.heads f t us x ts z is) in
    comes-choice (Some x) rest (starts (first f) (ts ++ rest)) (read r f (ts ++ rest) >>= λ x rest. done (Some x) rest) (done None (ts ++ rest)) s
    (comes-turn (λ (z : A). Some z) x rest (read r f (ts ++ rest)) (complete v w b room r inside f p.0 fair ts x rest n.1 is))
complete v w b room r inside (many f) good fair ts xs rest c is =
    let p = both (ok f) (no (nullable f) && disjoint (first f) (more f)) good in
    let q = both (no (nullable f)) (disjoint (first f) (more f)) p.1 in
    let n = neither (starts (first f) rest) (starts (more f) rest) (sym (starts-append (first f) (more f) rest) ∙ c) in
    comes-each (Is v f) (first f) (more f) (read r f) (λ x us z each. not_both (nullable f) (Is-nil v inside.full f us x z each) (no_true (nullable f) q.0)) (Is-head v inside.full inside.heads f) q.1
    (λ x us rest c each. complete v w b room r inside f p.0 fair us x rest c each) xs (length (ts ++ rest)) ts rest (omega (arith, length-append ts rest)) n.0 n.1 is
complete v w b room r inside (either f g) good fair ts x rest c (inl is) =
    let p = both (ok f) (ok g && (no (nullable f) && (no (nullable g) && disjoint (first g) (first f)))) good in
    let q = both (ok g) (no (nullable f) && (no (nullable g) && disjoint (first g) (first f))) p.1 in
    let z = both (no (nullable f)) (no (nullable g) && disjoint (first g) (first f)) q.1 in
    let n = neither (starts (more f) rest) (starts (more g) rest) (sym (starts-append (more f) (more g) rest) ∙ c) in
    let some : ts ≡ [] → ⊥ = λ e. not_both (nullable f) (Is-nil v inside.full f ts x e is) (no_true (nullable f) z.0) in
    comes-choice x rest (starts (first f) (ts ++ rest)) (read r f (ts ++ rest)) (read r g (ts ++ rest)) (starts-front (first f) ts rest some (λ t us e. Is-head v inside.full inside.heads f t us x ts e is)) (complete v w b room r inside f p.0 fair.0 ts x rest n.0 is)
complete v w b room r inside (either f g) good fair ts x rest c (inr is) =
    let p = both (ok f) (ok g && (no (nullable f) && (no (nullable g) && disjoint (first g) (first f)))) good in
    let q = both (ok g) (no (nullable f) && (no (nullable g) && disjoint (first g) (first f))) p.1 in
    let z = both (no (nullable f)) (no (nullable g) && disjoint (first g) (first f)) q.1 in
    let y = both (no (nullable g)) (disjoint (first g) (first f)) z.1 in
    let n = neither (starts (more f) rest) (starts (more g) rest) (sym (starts-append (more f) (more g) rest) ∙ c) in
    let some : ts ≡ [] → ⊥ = λ e. not_both (nullable g) (Is-nil v inside.full g ts x e is) (no_true (nullable g) y.0) in
    comes-other x rest (starts (first f) (ts ++ rest)) (read r f (ts ++ rest)) (read r g (ts ++ rest)) (starts-not (first f) ts rest some (λ t us e. disjoint-has (first g) (first f) t.sort y.1 (Is-head v inside.full inside.heads g t us x ts e is))) (complete v w b room r inside g q.0 fair.1 ts x rest n.1 is)
complete v w b room r inside (nest m) good fair ts x rest c is = inside.comes m ts x rest c is
complete v w b room r inside (over opens) good fair ts x rest c is = inl (skip-again opens ts rest is)
complete v w b room r inside (attempt f g) good fair ts x rest c (inl is) =
    let p = both (ok f) (ok g) good in
    let n = neither (starts (more f) rest) (starts (more g) rest) (sym (starts-append (more f) (more g) rest) ∙ c) in
    comes-first x rest (read r f (ts ++ rest)) (read r g (ts ++ rest)) (complete v w b room r inside f p.0 fair.0 ts x rest n.0 is)
complete v w b room r inside (attempt f g) good fair ts x rest c (inr is) =
    let p = both (ok f) (ok g) good in
    let n = neither (starts (more f) rest) (starts (more g) rest) (sym (starts-append (more f) (more g) rest) ∙ c) in
    comes-second x rest (read r f (ts ++ rest)) (read r g (ts ++ rest)) (complete v w b room r inside g p.1 fair.1 ts x rest n.1 is)
    (beside room w b r inside.known f g fair.2 inside.height.0 ts rest x (Is-up v w inside.up g ts x is) (Is-up v (Upto inside.height.0) inside.height.1 g ts x is) (read r f (ts ++ rest))
    (told room (Sole w (Upto inside.height.0)) b r (λ m us. told-alone v w b room r inside m us (r m us) refl (inside.known.told m us)) f (ts ++ rest)))
