-- Two readings of which the first one is decided early: where its first part is whole, the other one need not be read.
use Rattle.std.proofs.Common.{◌≡◌, ℕ, ◌<◌, ◌≤◌, Bool, true, false, cond, List, [], ◌∷◌, ◌++◌, length, refl, sym, ap, subst, ◌∙◌, append_assoc, length-append, arith, inr, ⊎_elim}
use Rattle.std.specs.Prelude.{nat_le}
use Rattle.std.proofs.lemmas.List.{append-nil}
use Rattle.decl_grammar.specs.declared.symbol.Symbol.{Symbol}
use Rattle.decl_grammar.specs.Reading.{starts, Outcome, done, fault, deep, left, ◌>>=◌}
use Rattle.decl_grammar.specs.Form.{Form, pair, turn, attempt, Wholes, Begun, Is, Begins, attempted, failed_at, further_of}
use Rattle.decl_grammar.specs.Rule.{reads, read_nest}
use Rattle.decl_grammar.proofs.OneToken.{both, more, ok}
use Rattle.decl_grammar.proofs.Heads.{Begins-nil}
use Rattle.decl_grammar.proofs.Told.{Told, told}
use Rattle.decl_grammar.proofs.Fronts.{cuts, Begins-front}
use Rattle.decl_grammar.proofs.Attempts.{Passes, reached}
use Rattle.decl_grammar.proofs.Complete.{Comes, complete}
use Rattle.decl_grammar.proofs.Passes.{bounded}
use Rattle.decl_grammar.proofs.Heights.{Whole, Started}
use Rattle.decl_grammar.proofs.Knot.{IsSound, known-any, inside-any, bounded-at, passes-any}

-- where the first part is whole, what is whole or begun by the other reading is so by the second part
pub record Wins (w : Wholes) (b : Begun) {A B C : Type 0} (f : Form A) (g : Form B) (o : Form C) : Type 0 where
  pub whole : (us vs : List Symbol) (x : A) (z : C) → Is w f us x → Is w o (us ++ vs) z → (y : B) × Is w g vs y
  pub begun : (us vs : List Symbol) (x : A) (n : ℕ) → Is w f us x → Begins w b o (us ++ vs) n → (k : ℕ) × (n ≤ k) × Begins w b g vs k

-- the form of the first reading
abbrev pub led : {A B C : Type 0} → (A × B → C) → Form A → Form B → Form C
led h f g = turn h (pair f g)

pair-done : {A B C : Type 0} (h : A × B → C) (o : Outcome A) (two : List Symbol → Outcome B) → ((ts : List Symbol) → length (left (two ts)) ≤ length ts) → (x : A) (rest : List Symbol) → o ≡ done x rest
    → (at : List Symbol) → ((o >>= λ x rest. two rest >>= λ y after. done (x, y) after) >>= λ z after. done (h z) after) ≡ fault at → length at ≤ length rest
pair-done h (done y to) two less x rest e at is = go (two to) (less to) is
  where
    same : to ≡ rest
    same = cc

    go : (q : Outcome _) → length (left q) ≤ length to → ((q >>= λ z after. done (y, z) after) >>= λ z after. done (h z) after) ≡ fault at → length at ≤ length rest
    go (done z after) le is = absurd cc
    go (fault us) le is =
        let there : us ≡ at = cc in
        omega (arith, le, ap length there, ap length same)
    go (deep us) le is = absurd cc
pair-done h (fault us) two less x rest e at is = absurd cc
pair-done h (deep us) two less x rest e at is = absurd cc

no-further : (at to : List Symbol) → length at ≤ length to → further_of at to ≡ at
no-further at to le = go (nat_le (length at) (length to)) refl
  where
    go : (c : Bool) → nat_le (length at) (length to) ≡ c → cond c at to ≡ at
    go true e = refl
    go false e = absurd (grind arith)

none-starts : (ts : List Symbol) → starts [] ts ≡ false
none-starts [] = refl
none-starts (t ∷ ts) = refl

-- what the first reading comes to, once its first part is whole and it fails behind that
record Lost (room : ℕ) {A B C : Type 0} (h : A × B → C) (f : Form A) (g : Form B) (o : Form C) (ts : List Symbol) (at : List Symbol) : Type 0 where
  sound : IsSound (attempt (led h f g) o)
  ends : more (led h f g) ≡ []
  wins : Wins Whole Started f g o
  front : List Symbol
  rest : List Symbol
  value : A
  parts : ts ≡ front ++ rest
  is : Is Whole f front value
  fails : reads room (led h f g) ts ≡ fault at
  behind : length at ≤ length rest

lost-whole : (room : ℕ) {A B C : Type 0} (h : A × B → C) (f : Form A) (g : Form B) (o : Form C) (ts at : List Symbol) → Lost room h f g o ts at → (us r : List Symbol) (z : C) → ts ≡ us ++ r → Is Whole (led h f g) us z → ⊥
lost-whole room {A} {B} {C} h f g o ts at l us r z e is =
    let good = both (ok (led h f g)) (ok o) l.sound.0 in
    let c = complete Whole Whole Started room (read_nest room) (inside-any l.sound.2 room) (led h f g) good.0 l.sound.1.0 us z r (ap (λ (ks : List ℕ). starts ks r) l.ends ∙ none-starts r) is in
    let d : Comes z r (fault at) = subst (λ (q : Outcome C). Comes z r q) (ap (reads room (led h f g)) (sym e) ∙ l.fails) c in
    ⊎_elim (λ (p : fault at ≡ done z r). absurd cc) (λ (p : (to : List Symbol) × (fault at ≡ deep to) × (length r < length to)). absurd cc) d

lost-begun : (room : ℕ) {A B C : Type 0} (h : A × B → C) (f : Form A) (g : Form B) (o : Form C) (ts at : List Symbol) → Lost room h f g o ts at → (us r : List Symbol) (n : ℕ) → ts ≡ us ++ r → Begins Whole Started (led h f g) us n → (length at ≤ length r) × (n ≤ room)
lost-begun room {A} {B} {C} h f g o ts at l us r n e begins =
    let good = both (ok (led h f g)) (ok o) l.sound.0 in
    let c = passes-any (led h f g) (good.0, l.sound.1.0, l.sound.2) room us n r begins in
    let d : Passes room n r (fault at) = subst (λ (q : Outcome C). Passes room n r q) (ap (reads room (led h f g)) (sym e) ∙ l.fails) c in
    ⊎_elim (λ (p : (length at ≤ length r) × (n ≤ room)). p) (λ (p : (to : List Symbol) × (fault at ≡ deep to) × (length r < length to)). absurd cc) d

-- the symbols of the first part begin the first reading
lost-front : (room : ℕ) {A B C : Type 0} (h : A × B → C) (f : Form A) (g : Form B) (o : Form C) (ts at : List Symbol) (l : Lost room h f g o ts at) → Begins Whole Started (led h f g) l.front 0
lost-front room h f g o ts at l = inr (l.front, [], l.value, sym (append-nil l.front), l.is, Begins-nil Whole Started g)

loses : (room : ℕ) {A B C : Type 0} (h : A × B → C) (f : Form A) (g : Form B) (o : Form C) (ts at : List Symbol) → Lost room h f g o ts at → (q : Outcome C) → Told room Whole Started o ts q → failed_at at q ≡ fault at
loses room h f g o ts at l (done z r) told =
    let e : l.front ++ l.rest ≡ told.0 ++ r = sym l.parts ∙ told.1 in
    let le : length r ≤ length l.rest = ⊎_elim
    (λ (c : (d : List Symbol) × (told.0 ≡ l.front ++ d) × (l.rest ≡ d ++ r)). omega (arith, ap length c.2, length-append c.0 r))
    (λ (c : (d : List Symbol) × (l.front ≡ told.0 ++ d) × (r ≡ d ++ l.rest)).
    let n = l.sound.1.2.other_ends told.0 c.0 z 0 told.2 (subst (λ (u : List Symbol). Begins Whole Started (led h f g) u 0) c.1 (lost-front room h f g o ts at l)) in
    omega (arith, ap length c.2, length-append c.0 l.rest, ap length n))
    (cuts l.front l.rest told.0 r e) in
    let d = reached l.front l.rest told.0 r e le in
    let y = l.wins.whole l.front d.0 l.value z l.is (subst (λ (u : List Symbol). Is Whole o u z) d.1 told.2) in
    absurd (lost-whole room h f g o ts at l told.0 r (h (l.value, y.0)) told.1 ((l.value, y.0), (l.front, d.0, d.1, l.is, y.1), refl))
loses room h f g o ts at l (fault to) told =
    let le : length at ≤ length to = ⊎_elim
    (λ (c : (d : List Symbol) × (told.0 ≡ l.front ++ d) × (l.rest ≡ d ++ to)).
    let k = l.wins.begun l.front c.0 l.value told.2 l.is (subst (λ (u : List Symbol). Begins Whole Started o u told.2) c.1 told.3) in
    (lost-begun room h f g o ts at l told.0 to k.0 told.1 (inr (l.front, c.0, l.value, c.1, l.is, k.2))).0)
    (λ (c : (d : List Symbol) × (l.front ≡ told.0 ++ d) × (to ≡ d ++ l.rest)). omega (arith, ap length c.2, length-append c.0 l.rest, l.behind))
    (cuts l.front l.rest told.0 to (sym l.parts ∙ told.1)) in
    ap (λ (u : List Symbol). fault u) (no-further at to le)
loses room h f g o ts at l (deep to) told =
    let us = told.0 ++ told.1 ∷ [] in
    let whole : ts ≡ us ++ told.2 = told.4 ∙ sym (append_assoc told.0 (told.1 ∷ []) told.2) in
    let k : (k : ℕ) × (told.5 ≤ k) × Begins Whole Started (led h f g) us k = ⊎_elim
    (λ (c : (d : List Symbol) × (us ≡ l.front ++ d) × (l.rest ≡ d ++ told.2)).
    let k = l.wins.begun l.front c.0 l.value told.5 l.is (subst (λ (u : List Symbol). Begins Whole Started o u told.5) c.1 told.7) in
    (k.0, k.1, inr (l.front, c.0, l.value, c.1, l.is, k.2)))
    (λ (c : (d : List Symbol) × (l.front ≡ us ++ d) × (told.2 ≡ d ++ l.rest)).
    let known = known-any room in
    let m = Begins-front Whole Started known.full known.begins known.fronts (led h f g) l.front us c.0 0 c.1 (lost-front room h f g o ts at l) in
    l.sound.1.2.dominated us m.0 told.5 m.1 told.7)
    (cuts l.front l.rest us told.2 (sym l.parts ∙ whole)) in
    absurd (omega (arith, k.1, told.6, (lost-begun room h f g o ts at l us told.2 k.0 whole k.2).1))

-- where the first part of the first reading is whole, what comes of both is what comes of the first one
pub won : (room : ℕ) {A B C : Type 0} (h : A × B → C) (f : Form A) (g : Form B) (o : Form C) → IsSound (attempt (led h f g) o) → more (led h f g) ≡ [] → Wins Whole Started f g o
    → (ts : List Symbol) (x : A) (rest : List Symbol) → reads room f ts ≡ done x rest → reads room (attempt (led h f g) o) ts ≡ reads room (led h f g) ts
won room {A} {B} {C} h f g o sound ends wins ts x rest e = go (reads room (led h f g) ts) refl
  where
    go : (q : Outcome C) → reads room (led h f g) ts ≡ q → attempted q (reads room o ts) ≡ q
    go (done z r) is = refl
    go (deep to) is = refl
    go (fault at) is =
        let first = told room Whole Started (read_nest room) (known-any room).told f ts in
        let p : Told room Whole Started f ts (done x rest) = subst (λ (q : Outcome A). Told room Whole Started f ts q) e first in
        let l : Lost room h f g o ts at = record {
          sound = sound;
          ends = ends;
          wins = wins;
          front = p.0;
          rest = rest;
          value = x;
          parts = p.1;
          is = p.2;
          fails = is;
          behind = pair-done h (reads room f ts) (reads room g) (bounded (read_nest room) (bounded-at room) g) x rest e at is;
        } in
        loses room h f g o ts at l (reads room o ts) (told room Whole Started (read_nest room) (known-any room).told o ts)
