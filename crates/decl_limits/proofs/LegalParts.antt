-- Phrases with all that is known of them, taken apart and put together.
use Rattle.std.proofs.Common.{◌≡◌, ℕ, List, ◌++◌, refl, sym, subst}
use Rattle.decl_grammar.specs.declared.symbol.Symbol.{Symbol}
use Rattle.decl_grammar.specs.Form.{Form, Wholes, pair, turn, Is}
use Rattle.decl_grammar.specs.Types.{behind, before}
use Rattle.decl_grammar.specs.Rule.{WholeAt}
use Rattle.decl_grammar.specs.File.{IsShallow}
use Rattle.decl_limits.specs.Texts.{AreTexts}
use Rattle.decl_limits.proofs.LegalTexts.{texts-front, texts-back}
use Rattle.decl_limits.proofs.LegalForms.{Has, shallow-left, shallow-right}

-- a phrase whose symbols are texts and at none of which more is open than may be
pub record Fine (h room : ℕ) {A : Type 0} (f : Form A) (ts : List Symbol) (x : A) : Type 0 where
  pub texts : AreTexts ts
  pub shallow : IsShallow f room ts
  pub whole : Is (WholeAt h) f ts x

pub found : {h room : ℕ} {A : Type 0} {f : Form A} {P : List Symbol → A → Type 0} {ts : List Symbol} {x : A} → Has h room f P → Fine h room f ts x → P ts x
found {ts = ts} {x = x} p fine = p.there ts x fine.texts fine.shallow fine.whole

abbrev pub Two : ℕ → ℕ → {A B : Type 0} → Form A → Form B → List Symbol → A × B → Type 0
Two h room f g ts x = (us : List Symbol) × (vs : List Symbol) × (ts ≡ us ++ vs) × Fine h room f us x.0 × Fine h room g vs x.1

pub two-parts : (h room : ℕ) {A B : Type 0} (f : Form A) (g : Form B) (ts : List Symbol) (x : A × B) → Fine h room (pair f g) ts x → Two h room f g ts x
two-parts h room f g ts x fine =
    let p = fine.whole in (
      p.0,
      p.1,
      p.2,
      record { texts = texts-front ts p.0 p.1 p.2 fine.texts; shallow = shallow-left f g room ts p.0 p.1 p.2 fine.shallow; whole = p.3 },
      record { texts = texts-back ts p.0 p.1 p.2 fine.texts; shallow = shallow-right f g room h ts p.0 p.1 x.0 p.2 p.3 fine.shallow; whole = p.4 },
    )

pub turned-part : (h room : ℕ) {A B : Type 0} (k : A → B) (f : Form A) (ts : List Symbol) (y : B) → Fine h room (turn k f) ts y → (x : A) × Fine h room f ts x × (y ≡ k x)
turned-part h room k f ts y fine = (fine.whole.0, record { texts = fine.texts; shallow = fine.shallow; whole = fine.whole.1 }, fine.whole.2)

abbrev pub Behind : ℕ → ℕ → {A B : Type 0} → Form B → Form A → List Symbol → A → Type 0
Behind h room {A} {B} g f ts x = (us : List Symbol) × (vs : List Symbol) × (y : B) × (ts ≡ us ++ vs) × Is (WholeAt h) g us y × Fine h room f vs x

pub behind-part : (h room : ℕ) {A B : Type 0} (g : Form B) (f : Form A) (ts : List Symbol) (x : A) → Fine h room (behind g f) ts x → Behind h room g f ts x
behind-part h room g f ts x fine =
    let p = fine.whole.1 in (
      p.0,
      p.1,
      fine.whole.0.0,
      p.2,
      p.3,
      record {
        texts = texts-back ts p.0 p.1 p.2 fine.texts;
        shallow = shallow-right g f room h ts p.0 p.1 fine.whole.0.0 p.2 p.3 fine.shallow;
        whole = subst (λ y. Is (WholeAt h) f p.1 y) (sym fine.whole.2) p.4;
      },
    )

abbrev pub Before : ℕ → ℕ → {A B : Type 0} → Form A → Form B → List Symbol → A → Type 0
Before h room {A} {B} f g ts x = (us : List Symbol) × (vs : List Symbol) × (y : B) × (ts ≡ us ++ vs) × Fine h room f us x × Is (WholeAt h) g vs y

pub before-part : (h room : ℕ) {A B : Type 0} (f : Form A) (g : Form B) (ts : List Symbol) (x : A) → Fine h room (before f g) ts x → Before h room f g ts x
before-part h room f g ts x fine =
    let p = fine.whole.1 in (
      p.0,
      p.1,
      fine.whole.0.1,
      p.2,
      record {
        texts = texts-front ts p.0 p.1 p.2 fine.texts;
        shallow = shallow-left f g room ts p.0 p.1 p.2 fine.shallow;
        whole = subst (λ y. Is (WholeAt h) f p.0 y) (sym fine.whole.2) p.3;
      },
      p.4,
    )

-- ---- phrases of two parts

pub pair-is : (w : Wholes) {A B : Type 0} (f : Form A) (g : Form B) (us vs : List Symbol) (x : A) (y : B) → Is w f us x → Is w g vs y → Is w (pair f g) (us ++ vs) (x, y)
pair-is w f g us vs x y a b = (us, vs, refl, a, b)

pub behind-is : (w : Wholes) {A B : Type 0} (g : Form B) (f : Form A) (us vs : List Symbol) (y : B) (x : A) → Is w g us y → Is w f vs x → Is w (behind g f) (us ++ vs) x
behind-is w g f us vs y x a b = ((y, x), (us, vs, refl, a, b), refl)

pub before-is : (w : Wholes) {A B : Type 0} (f : Form A) (g : Form B) (us vs : List Symbol) (x : A) (y : B) → Is w f us x → Is w g vs y → Is w (before f g) (us ++ vs) x
before-is w f g us vs x y a b = ((x, y), (us, vs, refl, a, b), refl)
