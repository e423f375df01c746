-- How forms that hold themselves are read.
use Rattle.std.proofs.Common.{◌≡◌, ℕ, zero, suc, ◌-◌, ◌<◌, ◌≤◌, Bool, true, false, cond, List, [], ◌∷◌, ◌++◌, length, Option, Some, None, refl, sym, ap, ◌∙◌, arith, subst}
use Rattle.decl_grammar.specs.declared.symbol.Symbol.{Symbol}
use Rattle.decl_grammar.specs.declared.fault.ReadFault.{ReadFault}
use Rattle.decl_grammar.specs.declared.fault.ReadFault.TheVariants as faults
use Rattle.decl_grammar.specs.Symbols.{operator}
use Rattle.decl_grammar.specs.TokenNames as token
use Rattle.decl_grammar.specs.Reading.{starts, Outcome, done, fault, deep, left, ◌>>=◌, Fails, one_at}
use Rattle.decl_grammar.specs.Form.{Nest, enum_rest, counts, Of, first_of, Form, maybe, nest, first, with_front, turned}
use Rattle.decl_grammar.specs.Types.{comma_item, list_or_none, one_and_rest, annotations, annotation, name}
use Rattle.decl_grammar.specs.Grammar.{enum_rest_form, some_constants, constant, constant_part}
use Rattle.decl_grammar.specs.Rule.{rule, enter_if, read_nest, reads}
use Rattle.decl_grammar.proofs.Loop.{falls}
use Rattle.decl_grammar.proofs.Passes.{bounded}
use Rattle.decl_grammar.proofs.Knot.{bounded-at}
use Rattle.decl_grammar.proofs.Fuel.{nest-is}
use Rattle.std.proofs.Common.{append_assoc}
use Rattle.std.proofs.lemmas.List.{append-nil}

-- with room, the rule is read with one less
pub some-is : (m : Nest) → counts m ≡ true → (room : ℕ) (ts : List Symbol) → 0 < room → read_nest room m ts ≡ reads (room - 1) (rule m) ts
some-is m counted zero ts lt = absurd (omega arith)
some-is m counted (suc room) ts lt =
    nest-is (suc room) m ts ∙ (ap (λ (c : Bool). enter_if m c read_nest (suc room) ts) counted ∙ ap (λ (n : ℕ). reads n (rule m) ts) (omega arith))

-- without room, the first symbol is too deep
pub none-is : (m : Nest) → counts m ≡ true → (room : ℕ) (ts : List Symbol) → room ≤ 0 → read_nest room m ts ≡ cond (starts (first_of m) ts) (deep ts) (fault ts)
none-is m counted zero ts lt = nest-is zero m ts ∙ ap (λ (c : Bool). enter_if m c read_nest zero ts) counted
none-is m counted (suc room) ts lt = absurd (omega arith)

-- why it is not read then
abbrev pub shut_fault : Bool → List Symbol → ReadFault
shut_fault c ts = cond c (faults.Deep (length ts)) (faults.Bad (length ts))

shut-cond : (A : Type 0) (c : Bool) (ts : List Symbol) → Fails {Y = A} (shut_fault c ts) (cond c (deep ts) (fault ts))
shut-cond A true ts = (ts, refl, refl)
shut-cond A false ts = (ts, refl, refl)

pub none-fails : (m : Nest) → counts m ≡ true → (room : ℕ) (ts : List Symbol) (c : Bool) (e : ReadFault) → room ≤ 0 → c ≡ starts (first_of m) ts → e ≡ shut_fault c ts → Fails e (read_nest room m ts)
none-fails m counted room ts c e lt begins is =
    subst (λ (z : ReadFault). Fails z (read_nest room m ts)) (sym (is ∙ ap (λ (b : Bool). shut_fault b ts) begins))
    (subst (λ (o : Outcome (Of m)). Fails (shut_fault (starts (first_of m) ts) ts) o) (sym (none-is m counted room ts lt)) (shut-cond (Of m) (starts (first_of m) ts) ts))

-- the rest of a row counts nothing
pub free-is : (m : Nest) → counts m ≡ false → (room : ℕ) (ts : List Symbol) → read_nest room m ts ≡ reads room (rule m) ts
free-is m free room ts = nest-is room m ts ∙ ap (λ (c : Bool). enter_if m c read_nest room ts) free

-- ---- rows of parts with commas between them, and maybe one behind the last

abbrev pub comma : List ℕ
comma = operator token.comma ∷ []

abbrev second_of : {A B : Type 0} → A × B → B
second_of x = x.1

abbrev behind_read : {A : Type 0} → Symbol → Outcome A → Outcome A
behind_read t o = turned second_of (o >>= λ y a. done (t, y) a)

-- what is read of a row where a comma stands
abbrev pub row_after : {A : Type 0} → (List Symbol → Outcome (Option (List A))) → Outcome (Option A) → Outcome (List A)
row_after next (done None rest) = done [] rest
row_after next (done (Some x) rest) = next rest >>= λ o after. done (x ∷ list_or_none o) after
row_after next (fault at) = fault at
row_after next (deep at) = deep at

-- a row is a part behind a comma, and then the same
abbrev pub RowIs : ℕ → {A : Type 0} → Form A → Form (List A) → Type 0
RowIs room f row = (ts : List Symbol) → reads room row ts ≡ row_after (reads room (maybe row)) (reads room (comma_item f) ts)

row-outcome : {A : Type 0} (t : Symbol) (c : Bool) (rest : List Symbol) (o : Outcome A) (next : List Symbol → Outcome (Option (List A)))
    → behind_read t (turned list_or_none (cond c (turned (λ x. Some x) (turned one_and_rest (o >>= λ x r. next r >>= λ y a. done (x, y) a))) (done None rest)))
    ≡ row_after next (behind_read t (cond c (turned (λ x. Some x) o) (done None rest)))
row-outcome t false rest o next = refl
row-outcome {A} t true rest (done x r) next = go (next r)
  where
    go : (p : Outcome (Option (List A))) → behind_read t (turned list_or_none (turned (λ x. Some x) (turned one_and_rest (p >>= λ y a. done (x, y) a)))) ≡ (p >>= λ y a. done (x ∷ list_or_none y) a)
    go (done y a) = refl
    go (fault at) = refl
    go (deep at) = refl
row-outcome t true rest (fault at) next = refl
row-outcome t true rest (deep at) next = refl

pub row-read : {A : Type 0} (s : Outcome Symbol) (c : List Symbol → Bool) (p : List Symbol → Outcome A) (next : List Symbol → Outcome (Option (List A)))
    → turned second_of (s >>= λ t rest. turned list_or_none (cond (c rest) (turned (λ x. Some x) (turned one_and_rest (p rest >>= λ x r. next r >>= λ y a. done (x, y) a))) (done None rest)) >>= λ y a. done (t, y) a)
    ≡ row_after next (turned second_of (s >>= λ t rest. cond (c rest) (turned (λ x. Some x) (p rest)) (done None rest) >>= λ y a. done (t, y) a))
row-read (done t rest) c p next = row-outcome t (c rest) rest (p rest) next
row-read (fault at) c p next = refl
row-read (deep at) c p next = refl

row-opens : (room : ℕ) {A : Type 0} (f : Form A) (row : Form (List A)) → RowIs room f row → first row ≡ comma → (ts : List Symbol) → starts comma ts ≡ true
    → turned list_or_none (reads room (maybe row) ts) ≡ row_after (reads room (maybe row)) (reads room (comma_item f) ts)
row-opens room {A} f row is begins ts s =
    ap (λ (c : Bool). turned list_or_none (cond c (reads room row ts >>= λ x rest. done (Some x) rest) (done None ts))) (ap (λ (ks : List ℕ). starts ks ts) begins ∙ s) ∙ (some_list (reads room row ts) ∙ is ts)
  where
    some_list : (o : Outcome (List A)) → turned list_or_none (o >>= λ x rest. done (Some x) rest) ≡ o
    some_list (done xs rest) = refl
    some_list (fault at) = refl
    some_list (deep at) = refl

-- one turn of a loop over a row
pub row-goes : (room : ℕ) {A : Type 0} (f : Form A) (row : Form (List A)) → RowIs room f row → first row ≡ comma → (front : List A) (ts : List Symbol) (x : A) (after : List Symbol) (total : Outcome (List A)) → starts comma ts ≡ true
    → reads room (comma_item f) ts ≡ done (Some x) after → with_front front (turned list_or_none (reads room (maybe row) ts)) ≡ total → with_front (front ++ x ∷ []) (turned list_or_none (reads room (maybe row) after)) ≡ total
row-goes room {A} f row is begins front ts x after total s e so_far =
    regroup (reads room (maybe row) after) ∙ (sym (ap (with_front front) (row-opens room f row is begins ts s ∙ ap (row_after (reads room (maybe row))) e)) ∙ so_far)
  where
    regroup : (o : Outcome (Option (List A))) → with_front (front ++ x ∷ []) (turned list_or_none o) ≡ with_front front (o >>= λ y after. done (x ∷ list_or_none y) after)
    regroup (done y rest) = ap (λ (ys : List A). done ys rest) (append_assoc front (x ∷ []) (list_or_none y))
    regroup (fault at) = refl
    regroup (deep at) = refl

-- a comma behind which nothing more stands
pub row-trails : (room : ℕ) {A : Type 0} (f : Form A) (row : Form (List A)) → RowIs room f row → first row ≡ comma → (front : List A) (ts after : List Symbol) (total : Outcome (List A)) → starts comma ts ≡ true
    → reads room (comma_item f) ts ≡ done None after → with_front front (turned list_or_none (reads room (maybe row) ts)) ≡ total → total ≡ done front after
row-trails room {A} f row is begins front ts after total s e so_far =
    sym so_far ∙ (ap (with_front front) (row-opens room f row is begins ts s ∙ ap (row_after (reads room (maybe row))) e) ∙ ap (λ (ys : List A). done ys after) (append-nil front))

-- a part that fails
pub row-fails : (room : ℕ) {A : Type 0} (f : Form A) (row : Form (List A)) → RowIs room f row → first row ≡ comma → (front : List A) (ts : List Symbol) (e : ReadFault) (total : Outcome (List A)) → starts comma ts ≡ true
    → Fails e (reads room (comma_item f) ts) → with_front front (turned list_or_none (reads room (maybe row) ts)) ≡ total → Fails e total
row-fails room f row is begins front ts faults.Memory total s p so_far = tt
row-fails room {A} f row is begins front ts (faults.Bad n) total s p so_far =
    (p.0, sym so_far ∙ ap (with_front front) (row-opens room f row is begins ts s ∙ ap (row_after (reads room (maybe row))) p.1), p.2)
row-fails room {A} f row is begins front ts (faults.Deep n) total s p so_far =
    (p.0, sym so_far ∙ ap (with_front front) (row-opens room f row is begins ts s ∙ ap (row_after (reads room (maybe row))) p.1), p.2)

-- no further comma
pub row-stops : (room : ℕ) {A : Type 0} (row : Form (List A)) → first row ≡ comma → (front : List A) (ts : List Symbol) (total : Outcome (List A)) → starts comma ts ≡ false
    → with_front front (turned list_or_none (reads room (maybe row) ts)) ≡ total → total ≡ done front ts
row-stops room {A} row begins front ts total s so_far =
    sym so_far ∙ (ap (λ (c : Bool). with_front front (turned list_or_none (cond c (reads room row ts >>= λ x rest. done (Some x) rest) (done None ts)))) (ap (λ (ks : List ℕ). starts ks ts) begins ∙ s) ∙ ap (λ (ys : List A). done ys ts) (append-nil front))

-- ---- no reading leaves more than there was

pub fewer : (room : ℕ) {A : Type 0} (f : Form A) (ts : List Symbol) (x : A) (rest : List Symbol) → reads room f ts ≡ done x rest → length rest ≤ length ts
fewer room {A} f ts x rest e = omega (arith, bounded (read_nest room) (bounded-at room) f ts, ap (λ (o : Outcome A). length (left o)) e)

pub fewer-turned : (room : ℕ) {A B : Type 0} (f : Form A) (h : A → B) (ts : List Symbol) (x : B) (rest : List Symbol) → turned h (reads room f ts) ≡ done x rest → length rest ≤ length ts
fewer-turned room {A} {B} f h ts x rest e = omega (arith, bounded (read_nest room) (bounded-at room) f ts, turned_left (reads room f ts), ap (λ (o : Outcome B). length (left o)) e)
  where
    turned_left : (o : Outcome A) → length (left (turned h o)) ≤ length (left o)
    turned_left (done y r) = omega arith
    turned_left (fault at) = omega arith
    turned_left (deep at) = omega arith

-- a comma and what stands behind it are fewer
pub comma-smaller : (room : ℕ) {A : Type 0} (f : Form A) (ts : List Symbol) (x : Option A) (rest : List Symbol) → reads room (comma_item f) ts ≡ done x rest → length rest < length ts
comma-smaller room f ts x rest e = falls room (comma_item f) ts x rest refl e

-- the same with what a function gave
pub row-more : (room : ℕ) {A : Type 0} (f : Form A) (row : Form (List A)) → RowIs room f row → first row ≡ comma → (front : List A) (ts : List Symbol) (o : Option A) (x : A) (after : List Symbol) (total : Outcome (List A)) → starts comma ts ≡ true
    → reads room (comma_item f) ts ≡ done o after → o ≡ Some x → with_front front (turned list_or_none (reads room (maybe row) ts)) ≡ total → with_front (front ++ x ∷ []) (turned list_or_none (reads room (maybe row) after)) ≡ total
row-more room {A} f row is begins front ts o x after total s e some so_far =
    row-goes room f row is begins front ts x after total s (e ∙ ap (λ (y : Option A). done y after) some) so_far

pub row-last : (room : ℕ) {A : Type 0} (f : Form A) (row : Form (List A)) → RowIs room f row → first row ≡ comma → (front : List A) (ts : List Symbol) (o : Option A) (after : List Symbol) (total : Outcome (List A)) → starts comma ts ≡ true
    → reads room (comma_item f) ts ≡ done o after → o ≡ None → with_front front (turned list_or_none (reads room (maybe row) ts)) ≡ total → total ≡ done front after
row-last room {A} f row is begins front ts o after total s e none so_far =
    row-trails room f row is begins front ts after total s (e ∙ ap (λ (y : Option A). done y after) none) so_far

pub enum-row : (room : ℕ) → RowIs room constant (nest enum_rest)
unfolding enum_rest_form some_constants constant constant_part annotations annotation name
enum-row room ts = free-is enum_rest refl room ts ∙ row-read (one_at comma ts) (starts (first constant)) (reads room constant) (reads room (maybe (nest enum_rest)))
