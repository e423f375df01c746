-- A list of items with a comma behind each, of which one more begins: what is said of it step by step, as it is walked over.
use Rattle.std.proofs.Common.{◌≡◌, ℕ, suc, ◌+◌, ◌*◌, ◌<◌, ◌≤◌, true, false, List, [], ◌∷◌, ◌++◌, length, drop, Some, None, Result, Ok, Err, refl, sym, ap, subst, ◌∙◌, append_assoc, arith}
use Rattle.std.proofs.lemmas.Bool.{eqb-true}
use Rattle.apt_base.specs.Limits.{max_children}
use Rattle.decl_grammar.specs.declared.symbol.Symbol.{Symbol}
use Rattle.decl_grammar.specs.declared.fault.ReadFault.{ReadFault}
use Rattle.decl_grammar.specs.declared.fault.ReadFault.TheVariants as faults
use Rattle.decl_grammar.specs.Symbols.{operator}
use Rattle.decl_grammar.specs.TokenNames as token
use Rattle.decl_grammar.specs.Reading.{has, starts, Outcome, done, Gives}
use Rattle.decl_grammar.specs.Form.{Form, many, first, nullable}
use Rattle.decl_grammar.specs.Types.{sign, before}
use Rattle.decl_grammar.specs.Rule.{WholeAt, BegunAt, reads}
use Rattle.decl_grammar.specs.File.{IsPhrase}
use Rattle.decl_grammar.proofs.OneToken.{more, not_both, any-guarded}
use Rattle.decl_grammar.proofs.Heads.{Is-nil, Is-head, Begins-head}
use Rattle.decl_grammar.proofs.Opens.{opens-form}
use Rattle.decl_grammar.proofs.Progress.{done_rest}
use Rattle.decl_grammar.proofs.Complete.{starts-front}
use Rattle.decl_grammar.proofs.Nests.{fewer}
use Rattle.decl_grammar.proofs.Raised.{above, whole-first, whole-second}
use Rattle.decl_grammar.proofs.Rivals.{Is-up}
use Rattle.decl_grammar.proofs.Heights.{opens-at, full-at, heads-at, bheads-at}
use Rattle.decl_grammar.proofs.Knot.{IsSound}
use Rattle.decl_crossings.proofs.PhraseReads.{whole-reads, read-phrase}
use Rattle.decl_children.specs.Fronts.{SomeFront}
use Rattle.decl_limits.specs.Children.{OpensWith, NextItem, IsFull}
use Rattle.decl_children.specs.Fronts.{ReadOrNone}

-- ---- rows

-- An item begins at the last symbol, and before it stand items with a comma behind each, with which there are too many behind this many.
abbrev pub RowFull : {A : Type 0} → Form A → ℕ → List Symbol → Type 0
RowFull {A} f n ts =
    (front : List Symbol) × (next : Symbol) × (items : List A) × (ts ≡ front ++ next ∷ []) × IsPhrase (many (before f (sign token.comma))) front items × OpensWith f next × (max_children ≤ n + length items)

abbrev pub RowCrowds : {A : Type 0} → Form A → ℕ → List Symbol → Type 0
RowCrowds f n ts = SomeFront (RowFull f n) ts

-- the list of all items, from its opening sign on
abbrev pub ListCrowds : {A : Type 0} → ℕ → Form A → List Symbol → Type 0
ListCrowds opens f ts = SomeFront (IsFull (NextItem opens f) 0) ts

pub list-of-row : {A : Type 0} (opens : ℕ) (f : Form A) (t : Symbol) (ts : List Symbol) → t.sort ≡ operator opens → RowCrowds f 0 ts → ListCrowds opens f (t ∷ ts)
list-of-row opens f t ts e c =
    let g = c.3 in
    let item : NextItem opens f (t ∷ c.0) (length g.2) =
    record { opening = t; front = g.0; next = g.1; items = g.2; parts = ap (λ (xs : List Symbol). t ∷ xs) g.3; is_opening = e; whole = g.4; begins = g.5; count = refl } in
    (t ∷ c.0, c.1, ap (λ (xs : List Symbol). t ∷ xs) c.2, (length g.2, item, g.6))

pub row-of-list : {A : Type 0} (opens : ℕ) (f : Form A) (t : Symbol) (ts : List Symbol) → ListCrowds opens f (t ∷ ts) → RowCrowds f 0 ts
row-of-list opens f t ts c =
    let g = c.3.1 in
    let inner = g.front ++ g.next ∷ [] in
    let all : t ∷ ts ≡ g.opening ∷ (inner ++ c.1) = c.2 ∙ ap (λ (xs : List Symbol). xs ++ c.1) g.parts in
    (inner, c.1, ap (λ (xs : List Symbol). drop 1 xs) all, (g.front, g.next, g.items, refl, g.whole, g.begins, omega (arith, c.3.2, g.count)))

-- ---- how a row goes

-- a phrase of the item begins with a symbol that an item may begin with
pub item-starts : {A : Type 0} (f : Form A) → nullable f ≡ false → (us rest : List Symbol) (x : A) → IsPhrase f us x → starts (first f) (us ++ rest) ≡ true
item-starts f never us rest x is =
    let h = is.0 in
    starts-front (first f) us rest (λ z. not_both (nullable f) (Is-nil (WholeAt h) (full-at h) f us x z is.1) never)
    (λ t vs e. Is-head (WholeAt h) (full-at h) (heads-at h) f t vs x us e is.1)

pub opens-has : {A : Type 0} (f : Form A) (t : Symbol) → OpensWith f t → has (first f) t.sort ≡ true
opens-has f t opens =
    let h = opens.1.0 in
    Begins-head (WholeAt h) (BegunAt h) (full-at h) (heads-at h) (bheads-at h) f t [] opens.0 (t ∷ []) refl opens.1.1

pub has-opens : {A : Type 0} (f : Form A) (t : Symbol) → has (first f) t.sort ≡ true → OpensWith f t
has-opens f t e =
    let opens = opens-form (WholeAt 4) (BegunAt 4) 3 (λ m lt t e. opens-at 3 m (omega (arith, lt)) t e) f (any-guarded f) t e in
    (opens.0, (4, opens.1))

-- an item, its comma, and the row behind both
joined : (a : List Symbol) (c : Symbol) (b d v : List Symbol) → (((a ++ c ∷ []) ++ b) ++ d) ++ v ≡ a ++ c ∷ ((b ++ d) ++ v)
joined a c b d v =
    ap (λ (xs : List Symbol). xs ++ v) (ap (λ (xs : List Symbol). xs ++ d) (append_assoc a (c ∷ []) b) ∙ append_assoc a (c ∷ b) d) ∙ append_assoc a (c ∷ (b ++ d)) v

record Parted {A : Type 0} (f : Form A) (n : ℕ) (ts : List Symbol) : Type 0 where
  item : List Symbol
  comma : Symbol
  later : List Symbol
  value : A
  parts : ts ≡ item ++ comma ∷ later
  is_comma : comma.sort ≡ operator token.comma
  whole : IsPhrase f item value
  behind : RowCrowds f (suc n) later

-- a row with a first item is parted
parted : {A : Type 0} (f : Form A) (n : ℕ) (ts us vs : List Symbol) (x : A) (xs : List A) → ts ≡ us ++ vs → (front : List Symbol) (next : Symbol) → us ≡ front ++ next ∷ []
    → IsPhrase (many (before f (sign token.comma))) front (x ∷ xs) → OpensWith f next → max_children ≤ n + suc (length xs) → Parted f n ts
parted f n ts us vs x xs all front next e is opens le =
    let each = is.1 in
    let one = each.3 in
    let p = one.1 in
    let comma : Symbol = one.0.1 in
    let head : each.0 ≡ p.0 ++ comma ∷ [] = p.2 ∙ ap (λ (ys : List Symbol). p.0 ++ ys) p.4.0 in
    let whole : us ≡ ((p.0 ++ comma ∷ []) ++ each.1) ++ next ∷ [] = e ∙ ap (λ (ys : List Symbol). ys ++ next ∷ []) (each.2 ∙ ap (λ (ys : List Symbol). ys ++ each.1) head) in
    record {
      item = p.0;
      comma = comma;
      later = (each.1 ++ next ∷ []) ++ vs;
      value = one.0.0;
      parts = all ∙ ap (λ (ys : List Symbol). ys ++ vs) whole ∙ joined p.0 comma each.1 (next ∷ []) vs;
      is_comma = eqb-true comma.sort (operator token.comma) p.4.1;
      whole = (is.0, p.3);
      behind = (each.1 ++ next ∷ [], vs, refl, (each.1, next, xs, refl, (is.0, each.4), opens, omega (arith, le)));
    }

-- what stands first in a row may begin an item
row-starts : {A : Type 0} (f : Form A) → nullable f ≡ false → (n : ℕ) (ts : List Symbol) → RowCrowds f n ts → starts (first f) ts ≡ true
row-starts {A} f never n ts c = go c.3.2 c.3.4 c.3.6
  where
    go : (items : List A) → IsPhrase (many (before f (sign token.comma))) c.3.0 items → max_children ≤ n + length items → starts (first f) ts ≡ true
    go [] is le =
        let alone : ts ≡ c.3.1 ∷ c.1 = c.2 ∙ ap (λ (ys : List Symbol). ys ++ c.1) (c.3.3 ∙ ap (λ (ys : List Symbol). ys ++ c.3.1 ∷ []) is.1) in
        subst (λ (ys : List Symbol). starts (first f) ys ≡ true) (sym alone) (opens-has f c.3.1 c.3.5)
    go (x ∷ xs) is le =
        let p = parted f n ts c.0 c.1 x xs c.2 c.3.0 c.3.1 c.3.3 is c.3.5 le in
        subst (λ (ys : List Symbol). starts (first f) ys ≡ true) (sym p.parts) (item-starts f never p.item (p.comma ∷ p.later) p.value p.whole)

-- with fewer items before it than there may be, a full row has a first item
row-parted : {A : Type 0} (f : Form A) (n : ℕ) (ts : List Symbol) → n < max_children → RowCrowds f n ts → Parted f n ts
row-parted {A} f n ts lt c = go c.3.2 c.3.4 c.3.6
  where
    go : (items : List A) → IsPhrase (many (before f (sign token.comma))) c.3.0 items → max_children ≤ n + length items → Parted f n ts
    go [] is le = absurd (omega (arith, lt, le))
    go (x ∷ xs) is le = parted f n ts c.0 c.1 x xs c.2 c.3.0 c.3.1 c.3.3 is c.3.5 le

-- ---- a walk over a row

-- what an item is: sound, never empty, and with nothing in it that a comma would go on with
pub record IsItem {A : Type 0} (f : Form A) : Type 0 where
  pub sound : IsSound f
  pub never : nullable f ≡ false
  pub ends : has (more f) (operator token.comma) ≡ false

-- the first item is read, its comma stands behind it, and the row behind both is full
pub row-reads : {A : Type 0} (f : Form A) → IsItem f → (room n : ℕ) (ts : List Symbol) → 3 * length ts ≤ room → n < max_children → RowCrowds f n ts
    → (x : A) × (c : Symbol) × (later : List Symbol) × (reads room f ts ≡ done x (c ∷ later)) × (c.sort ≡ operator token.comma) × RowCrowds f (suc n) later
row-reads f item room n ts fits lt crowds =
    let p = row-parted f n ts lt crowds in
    let stops : starts (more f) (p.comma ∷ p.later) ≡ false = ap (λ (k : ℕ). has (more f) k) p.is_comma ∙ item.ends in
    let read_there = whole-reads f item.sound room p.item (p.comma ∷ p.later) p.value (omega (arith, fits, ap length p.parts)) stops p.whole in
    (p.value, p.comma, p.later, ap (λ (ys : List Symbol). reads room f ys) p.parts ∙ read_there, p.is_comma, p.behind)

-- and the other way round
row-back : {A : Type 0} (f : Form A) (room n : ℕ) (ts : List Symbol) (x : A) (c : Symbol) (later : List Symbol) → reads room f ts ≡ done x (c ∷ later) → c.sort ≡ operator token.comma → RowCrowds f (suc n) later → RowCrowds f n ts
row-back f room n ts x c later e is_comma crowds =
    let r = read-phrase f room ts x (c ∷ later) e in
    let us = r.0 in
    let g = crowds.3 in
    let h = r.2.0 in
    let k = g.4.0 in
    let one = Is-up (WholeAt h) (WholeAt (above h k)) (whole-first h k) f us x r.2.1 in
    let rest = Is-up (WholeAt k) (WholeAt (above h k)) (whole-second h k) (many (before f (sign token.comma))) g.0 g.2 g.4.1 in
    let sign_there : has (operator token.comma ∷ []) c.sort ≡ true = ap (λ (j : ℕ). has (operator token.comma ∷ []) j) is_comma in
    let behind_it : later ≡ (g.0 ++ g.1 ∷ []) ++ crowds.1 = crowds.2 ∙ ap (λ (ys : List Symbol). ys ++ crowds.1) g.3 in
    let all : ts ≡ (((us ++ c ∷ []) ++ g.0) ++ g.1 ∷ []) ++ crowds.1 = r.1 ∙ ap (λ (ys : List Symbol). us ++ c ∷ ys) behind_it ∙ sym (joined us c g.0 (g.1 ∷ []) crowds.1) in (
      ((us ++ c ∷ []) ++ g.0) ++ g.1 ∷ [],
      crowds.1,
      all,
      (
        (us ++ c ∷ []) ++ g.0,
        g.1,
        x ∷ g.2,
        refl,
        (above h k, (us ++ c ∷ [], g.0, refl, ((x, c), (us, c ∷ [], refl, one, (refl, sign_there)), refl), rest)),
        g.5,
        omega (arith, g.6),
      ),
    )

-- Behind this many items, of symbols no more than there were, the whole list is full at some symbol just where the rest is.
abbrev pub RowSame : {A : Type 0} → ℕ → Form A → List Symbol → ℕ → List Symbol → Type 0
RowSame opens f symbols n rest = (length rest ≤ length symbols) × (n ≤ max_children) × (ListCrowds opens f symbols → RowCrowds f n rest) × (RowCrowds f n rest → ListCrowds opens f symbols)

pub row-begins : {A : Type 0} (opens : ℕ) (f : Form A) (symbols rest : List Symbol) → starts (operator opens ∷ []) symbols ≡ true → rest ≡ drop 1 symbols → RowSame opens f symbols 0 rest
row-begins opens f [] rest s e = absurd cc
row-begins opens f (t ∷ ts) rest s e = rw e (omega arith, omega arith, row-of-list opens f t ts, list-of-row opens f t ts (eqb-true t.sort (operator opens) s))

-- the first item of a full row is what was read, so that the rest behind its comma is the row behind it
behind-read : {A : Type 0} (f : Form A) → IsItem f → (room n : ℕ) (ts : List Symbol) (x : A) (c : Symbol) (later : List Symbol) → 3 * length ts ≤ room → n < max_children → reads room f ts ≡ done x (c ∷ later) → RowCrowds f n ts → RowCrowds f (suc n) later
behind-read f item room n ts x c later fits lt e crowds =
    let r = row-reads f item room n ts fits lt crowds in
    subst (λ (ys : List Symbol). RowCrowds f (suc n) ys) (ap (λ (ys : List Symbol). drop 1 ys) (done_rest r.0 x (r.1 ∷ r.2) (c ∷ later) (sym r.3 ∙ e))) r.5

pub row-goes : {A : Type 0} (opens : ℕ) (f : Form A) → IsItem f → (symbols : List Symbol) (room n : ℕ) (ts : List Symbol) (x : A) (after rest : List Symbol) → 3 * length symbols ≤ room → n < max_children
    → reads room f ts ≡ done x after → starts (68 ∷ []) after ≡ true → rest ≡ drop 1 after → RowSame opens f symbols n ts → RowSame opens f symbols (suc n) rest
row-goes opens f item symbols room n ts x [] rest fits lt e s d same = absurd cc
row-goes opens f item symbols room n ts x (c ∷ later) rest fits lt e s d same =
    rw d (
      omega (arith, same.0, fewer room f ts x (c ∷ later) e),
      omega (arith, lt),
      λ list. behind-read f item room n ts x c later (omega (arith, fits, same.0)) lt e (same.2 list),
      λ crowds. same.3 (row-back f room n ts x c later e (eqb-true c.sort 68 s) crowds),
    )

pub row-shrinks : {A : Type 0} (f : Form A) (room : ℕ) (ts : List Symbol) (x : A) (after rest : List Symbol) → reads room f ts ≡ done x after → starts (68 ∷ []) after ≡ true → rest ≡ drop 1 after → length rest < length ts
row-shrinks f room ts x [] rest e s d = absurd cc
row-shrinks f room ts x (c ∷ later) rest e s d = omega (arith, fewer room f ts x (c ∷ later) e, ap length d)

-- as many as there may be, and one more may begin
pub row-full : {A : Type 0} (opens : ℕ) (f : Form A) (symbols : List Symbol) (n : ℕ) (ts : List Symbol) → max_children ≤ n → starts (first f) ts ≡ true → RowSame opens f symbols n ts → ListCrowds opens f symbols
row-full opens f symbols n [] le s same = absurd cc
row-full opens f symbols n (t ∷ ts) le s same = same.3 (t ∷ [], ts, refl, ([], t, [], refl, (0, refl), has-opens f t s, omega (arith, le)))

-- The row ends: none may begin, or none is read, or no comma stands behind it.
pub row-over : {A : Type 0} (opens : ℕ) (f : Form A) → IsItem f → (symbols : List Symbol) (n : ℕ) (ts : List Symbol) → starts (first f) ts ≡ false → RowSame opens f symbols n ts → ListCrowds opens f symbols → ⊥
row-over opens f item symbols n ts s same list = not_both (starts (first f) ts) (row-starts f item.never n ts (same.2 list)) s

pub row-unread : {A : Type 0} (opens : ℕ) (f : Form A) → IsItem f → (symbols : List Symbol) (room n : ℕ) (ts : List Symbol) → 3 * length symbols ≤ room → n < max_children → ((x : A) (after : List Symbol) → reads room f ts ≡ done x after → ⊥)
    → RowSame opens f symbols n ts → ListCrowds opens f symbols → ⊥
row-unread opens f item symbols room n ts fits lt none same list =
    let r = row-reads f item room n ts (omega (arith, fits, same.0)) lt (same.2 list) in
    none r.0 (r.1 ∷ r.2) r.3

pub row-stops : {A : Type 0} (opens : ℕ) (f : Form A) → IsItem f → (symbols : List Symbol) (room n : ℕ) (ts : List Symbol) (x : A) (after : List Symbol) → 3 * length symbols ≤ room → n < max_children → reads room f ts ≡ done x after → starts (68 ∷ []) after ≡ false
    → RowSame opens f symbols n ts → ListCrowds opens f symbols → ⊥
row-stops opens f item symbols room n ts x after fits lt e s same list =
    let r = row-reads f item room n ts (omega (arith, fits, same.0)) lt (same.2 list) in
    let comma_there : starts (68 ∷ []) (r.1 ∷ r.2) ≡ true = ap (λ (k : ℕ). has (68 ∷ []) k) r.4 in
    not_both (starts (68 ∷ []) after) (ap (λ (ys : List Symbol). starts (68 ∷ []) ys) (done_rest x r.0 after (r.1 ∷ r.2) (sym e ∙ r.3)) ∙ comma_there) s

-- nothing was read, for want of nothing but symbols
pub unread : {X A : Type 0} (view : X → A × List Symbol) (r : Result X ReadFault) (o : Outcome A) → Gives view r o → ReadOrNone r None → (x : A) (rest : List Symbol) → o ≡ done x rest → ⊥
unread view (Ok value) o gives none x rest e = absurd cc
unread view (Err faults.Memory) o gives none x rest e = none
unread view (Err (faults.Bad n)) o gives none x rest e = absurd (let q = gives.1 in cc)
unread view (Err (faults.Deep n)) o gives none x rest e = absurd (let q = gives.1 in cc)

-- and what was
pub was-read : {X A : Type 0} (view : X → A × List Symbol) (r : Result X ReadFault) (o : Outcome A) (y : X) → Gives view r o → ReadOrNone r (Some y) → o ≡ done (view y).0 (view y).1
was-read {X} view (Ok value) o y gives is =
    let same : y ≡ value = cc in
    gives ∙ ap (λ (z : X). done (view z).0 (view z).1) (sym same)
was-read view (Err faults.Memory) o y gives is = absurd is
was-read view (Err (faults.Bad n)) o y gives is = absurd cc
was-read view (Err (faults.Deep n)) o y gives is = absurd cc
