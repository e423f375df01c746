-- What the parts of a type have open: at most what is begun at a `<` or an `@` of it.
use Rattle.std.proofs.Common.{◌≡◌, ℕ, zero, suc, ◌≤◌, ◌+◌, arith, Bool, true, cond, List, [], ◌∷◌, ◌++◌, ◌⊎◌, refl, sym, ap, subst, ◌∙◌, append_assoc, inl, inr}
use Rattle.decl_grammar.specs.declared.symbol.Symbol.{Symbol}
use Rattle.decl_grammar.specs.Reading.{has}
use Rattle.decl_grammar.specs.Form.{first, type_arguments, ats, Form, pair, turn, maybe, many, nest, Is, Begins}
use Rattle.decl_grammar.specs.Types.{sign, behind, array_around, name, annotation, annotations, named_part, next_part, dim}
use Rattle.decl_grammar.specs.Expressions.{reference_form}
use Rattle.decl_grammar.specs.Rule.{WholeAt, BegunAt}
use Rattle.decl_grammar.proofs.Heads.{nil-open, Begins-head}
use Rattle.decl_grammar.proofs.Heights.{full-at, heads-at, bheads-at}
use Rattle.decl_grammar.proofs.OpenBrackets.{Leads, leads-append, leads-same, leads-split}
use Rattle.decl_grammar.proofs.Effects.{Mode, in_brackets, in_arguments, in_constant, in_reference, Effect, level, effect, Levels}
use Rattle.decl_grammar.proofs.EffectLemmas.{form-levels}
use Rattle.decl_grammar.proofs.Closed.{levels-at}
use Rattle.decl_grammar.proofs.TypeEnds.{flat, flat-open}
use Rattle.decl_grammar.proofs.TypeParts.{lists}
use Rattle.decl_grammar.proofs.Plants.{Hole, at_list, at_mark, opens_hole, Fills, angular}
use Rattle.decl_grammar.proofs.Planted.{level-name, level-dot, level-marks, level-parts, level-dims}
use Rattle.decl_grammar.specs.TokenNames as token

-- a part of a value counts
abbrev pub extra : Bool → ℕ
extra v = cond v 1 0

-- at most this many are open, or this many more than in what is begun at a `<` or an `@` of the type
abbrev pub Held : ℕ → ℕ → List Symbol → ℕ → Type 0
Held x d us n =
    (n ≤ x) ⊎
    ((i : Hole) × (a : List Symbol) × (t : Symbol) × (vs : List Symbol) × (e : ℕ) × (g : ℕ) × (c : ℕ) × (us ≡ a ++ t ∷ vs) × Leads a (lists d) (lists e) × (has (opens_hole i) t.sort ≡ true) × Fills g i (t ∷ vs) c × (n ≤ x + c))

pub none-held : (x d : ℕ) (us : List Symbol) (n : ℕ) → n ≡ 0 → Held x d us n
none-held x d us n e = inl (omega (arith, e))

-- behind other symbols of the type
pub held-behind : (x d e : ℕ) (ts a us : List Symbol) (n : ℕ) → ts ≡ a ++ us → Leads a (lists d) (lists e) → Held x e us n → Held x d ts n
held-behind x d e ts a us n s l (inl p) = inl p
held-behind x d e ts a us n s l (inr q) =
    inr (q.0, a ++ q.1, q.2, q.3, q.4, q.5, q.6, s ∙ ap (λ (u : List Symbol). a ++ u) q.7 ∙ sym (append_assoc a q.1 (q.2 ∷ q.3)), leads-append a q.1 (lists d) (lists e) (lists q.4) l q.8, q.9, q.10, q.11)

pub held-more : (x y d : ℕ) (us : List Symbol) (k n : ℕ) → n ≤ y + k → x ≡ 0 → Held x d us k → Held y d us n
held-more x y d us k n le z (inl p) = inl (omega (arith, le, z, p))
held-more x y d us k n le z (inr q) = inr (q.0, q.1, q.2, q.3, q.4, q.5, q.6, q.7, q.8, q.9, q.10, omega (arith, le, z, q.11))

-- what leads on behind a part
pub behind-part : (a us : List Symbol) (ks ls ms : List ℕ) → Leads a ks ls → Leads (a ++ us) ks ms → Leads us ls ms
behind-part a us ks ls ms p l =
    let q = leads-split a us ks ms l in
    subst (λ (x : List ℕ). Leads us x ms) (leads-same a ks q.0 ls q.1 p) q.2

-- what closes no list stays in it
stay : (d : ℕ) (a : List Symbol) → ((b : Mode) → angular b ≡ true → Levels b level a) → Leads a (lists d) (lists d)
stay zero a p = (p in_reference refl) 201 [] refl
stay (suc d) a p = (p in_arguments refl) 74 (lists d) refl

-- ---- types

abbrev Holds : ℕ → {A : Type 0} → Form A → Type 0
Holds h f = (d : ℕ) (us : List Symbol) (n : ℕ) (ms : List ℕ) → Leads us (lists d) ms → Begins (WholeAt h) (BegunAt h) f us n → Held 0 d us n

abbrev Keeps : {A : Type 0} → Form A → Type 0
Keeps f = (b : Mode) → angular b ≡ true → effect b f ≡ level

form-keeps : (h : ℕ) {A : Type 0} (f : Form A) → Keeps f → (d : ℕ) (a : List Symbol) (x : A) → Is (WholeAt h) f a x → Leads a (lists d) (lists d)
form-keeps h f k d a x is = stay d a (λ b e. subst (λ (y : Effect). Levels b y a) (k b e) (form-levels (WholeAt h) (levels-at h) b f a x is))

pub holds-flat : (h : ℕ) {A : Type 0} (f : Form A) → flat f ≡ true → Holds h f
holds-flat h f e d us n ms l b = none-held 0 d us n (flat-open (WholeAt h) (BegunAt h) f e us n b)

pub holds-pair : (h : ℕ) {A B : Type 0} (f : Form A) (g : Form B) → Keeps f → Holds h f → Holds h g → Holds h (pair f g)
holds-pair h f g k p q d us n ms l (inl b) = p d us n ms l b
holds-pair h f g k p q d us n ms l (inr b) =
    let keep = form-keeps h f k d b.0 b.2 b.4 in
    let rest = behind-part b.0 b.1 (lists d) (lists d) ms keep (subst (λ (u : List Symbol). Leads u (lists d) ms) b.3 l) in
    held-behind 0 d d us b.0 b.1 n b.3 keep (q d b.1 n ms rest b.5)

holds-many : (h : ℕ) {A : Type 0} (f : Form A) → Keeps (many f) → Holds h f → Holds h (many f)
holds-many h f k p d us n ms l b =
    let keep = form-keeps h (many f) k d b.0 b.2 b.4 in
    let rest = behind-part b.0 b.1 (lists d) (lists d) ms keep (subst (λ (u : List Symbol). Leads u (lists d) ms) b.3 l) in
    held-behind 0 d d us b.0 b.1 n b.3 keep (p d b.1 n ms rest b.5)

mark-sort : (n : ℕ) → has (first annotation) n ≡ true → has ats n ≡ true
unfolding annotation
mark-sort n e = e

pub name-flat : flat name ≡ true
unfolding name
name-flat = refl

pub holds-mark : (h : ℕ) → Holds h annotation
holds-mark h d [] n ms l b = none-held 0 d [] n (nil-open (WholeAt h) (BegunAt h) annotation [] n refl b)
holds-mark h d (t ∷ us) n ms l b =
    inr (at_mark, [], t, us, d, h, n, refl, refl, mark-sort t.sort (Begins-head (WholeAt h) (BegunAt h) (full-at h) (heads-at h) (bheads-at h) annotation t us n (t ∷ us) refl b), b, omega arith)

pub holds-list : (h : ℕ) → Holds h (nest type_arguments)
holds-list h d us n ms l (inl b) = none-held 0 d us n b.1
holds-list h d us n ms l (inr q) =
    inr (
      at_list,
      [],
      q.0,
      q.1,
      d,
      h,
      n,
      q.3,
      refl,
      bheads-at h type_arguments q.0 q.1 q.2 (subst (λ (u : List Symbol). BegunAt h type_arguments u q.2) q.3 q.5),
      (q.2, q.4, subst (λ (u : List Symbol). BegunAt h type_arguments u q.2) q.3 q.5),
      omega arith,
    )

holds-marked : (h : ℕ) {A : Type 0} (f : Form A) → Holds h f → Holds h (behind annotations f)
unfolding annotations
holds-marked h f p = holds-pair h annotations f level-marks (holds-many h annotation level-marks (holds-mark h)) p

holds-part : (h : ℕ) → Holds h named_part
unfolding named_part
holds-part h = holds-pair h name (maybe (nest type_arguments)) level-name (holds-flat h name name-flat) (holds-list h)

holds-next-part : (h : ℕ) → Holds h next_part
unfolding next_part
holds-next-part h = holds-pair h (sign token.dot) (behind annotations named_part) level-dot (holds-flat h (sign token.dot) refl) (holds-marked h named_part (holds-part h))

holds-dim : (h : ℕ) → Holds h dim
unfolding dim
holds-dim h = holds-marked h (behind (sign token.open_bracket) (turn array_around (sign token.close_bracket))) (holds-flat h (behind (sign token.open_bracket) (turn array_around (sign token.close_bracket))) refl)

pub holds-dims : (h : ℕ) → Holds h (many dim)
holds-dims h = holds-many h dim level-dims (holds-dim h)

list-keeps : Keeps (nest type_arguments)
list-keeps in_arguments e = refl
list-keeps in_reference e = refl
list-keeps in_brackets e = absurd cc
list-keeps in_constant e = absurd cc

pub holds-reference : (h : ℕ) → Holds h reference_form
unfolding reference_form
holds-reference h =
    holds-pair h (nest type_arguments) (pair (many next_part) (pair (many dim) (sign token.double_colon))) list-keeps (holds-list h)
    (holds-pair h (many next_part) (pair (many dim) (sign token.double_colon)) level-parts (holds-many h next_part level-parts (holds-next-part h))
    (holds-pair h (many dim) (sign token.double_colon) level-dims (holds-dims h) (holds-flat h (sign token.double_colon) refl)))
