-- A form and then others: what is full behind the form is what is full behind what was read.
use Rattle.std.proofs.Common.{◌≡◌, ℕ, ◌*◌, ◌≤◌, false, List, [], ◌∷◌, ◌++◌, length, refl, sym, ap, subst, ◌∙◌, append_assoc}
use Rattle.decl_grammar.specs.declared.symbol.Symbol.{Symbol}
use Rattle.decl_grammar.specs.Reading.{starts, done}
use Rattle.decl_grammar.specs.Form.{Form}
use Rattle.decl_grammar.specs.Rule.{reads}
use Rattle.decl_grammar.proofs.OneToken.{more}
use Rattle.decl_grammar.proofs.Progress.{done_rest}
use Rattle.decl_grammar.proofs.Knot.{IsSound}
use Rattle.decl_limits.specs.Children.{Then}
use Rattle.decl_children.specs.Fronts.{SomeFront}
use Rattle.decl_crossings.proofs.PhraseReads.{whole-reads, read-phrase}

-- what this holds of begins with no symbol that goes on with the form
abbrev pub Stops : {A : Type 0} → Form A → (A → List Symbol → Type 0) → Type 0
Stops {A} f p = (x : A) (us vs : List Symbol) → p x us → starts (more f) (us ++ vs) ≡ false

-- the form is read, and behind it this holds of some front
pub record Behind-read {A : Type 0} (room : ℕ) (f : Form A) (p : A → List Symbol → Type 0) (ts : List Symbol) : Type 0 where
  pub value : A
  pub rest : List Symbol
  pub there : reads room f ts ≡ done value rest
  pub holds : SomeFront (p value) rest

pub then-goes : {A : Type 0} (room : ℕ) (f : Form A) (p : A → List Symbol → Type 0) (ts : List Symbol) → IsSound f → Stops f p → 3 * length ts ≤ room → SomeFront (Then f p) ts → Behind-read room f p ts
then-goes room f p ts sound stops fits (us, vs, e, (front, back, x, parts, is, holds)) =
    let all : ts ≡ front ++ (back ++ vs) = e ∙ (ap (λ (zs : List Symbol). zs ++ vs) parts ∙ append_assoc front back vs) in
    let there = whole-reads f sound room front (back ++ vs) x (subst (λ (zs : List Symbol). 3 * length zs ≤ room) all fits) (stops x back vs holds) is in
    record { value = x; rest = back ++ vs; there = ap (λ (zs : List Symbol). reads room f zs) all ∙ there; holds = (back, vs, refl, holds) }

pub then-back : {A : Type 0} (room : ℕ) (f : Form A) (p : A → List Symbol → Type 0) (ts : List Symbol) (x : A) (rest : List Symbol) → reads room f ts ≡ done x rest → SomeFront (p x) rest → SomeFront (Then f p) ts
then-back room f p ts x rest e (us, vs, parts, holds) =
    let r = read-phrase f room ts x rest e in
    (r.0 ++ us, vs, r.1 ∙ (ap (λ (zs : List Symbol). r.0 ++ zs) parts ∙ sym (append_assoc r.0 us vs)), (r.0, us, x, refl, r.2, holds))

pub values-same : {A : Type 0} (x y : A) (a b : List Symbol) → done x a ≡ done y b → x ≡ y
values-same x y a b same = cc

-- what is read is one thing
pub then-as : {A : Type 0} (room : ℕ) (f : Form A) (p : A → List Symbol → Type 0) (ts : List Symbol) (x : A) (rest : List Symbol) → reads room f ts ≡ done x rest → Behind-read room f p ts → SomeFront (p x) rest
then-as {A} room f p ts x rest e b =
    let same : done b.value b.rest ≡ done x rest = sym b.there ∙ e in
    subst (λ (zs : List Symbol). SomeFront (p x) zs) (done_rest b.value x b.rest rest same) (subst (λ (y : A). SomeFront (p y) b.rest) (values-same b.value x b.rest rest same) b.holds)

-- nothing goes on with a form that has its end
pub ends-stop : {A : Type 0} (f : Form A) (p : A → List Symbol → Type 0) → more f ≡ [] → Stops f p
ends-stop f p e x us vs holds = ap (λ (ks : List ℕ). starts ks (us ++ vs)) e ∙ none (us ++ vs)
  where
    none : (ts : List Symbol) → starts [] ts ≡ false
    none [] = refl
    none (t ∷ ts) = refl
