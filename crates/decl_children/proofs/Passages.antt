-- Phrases at the front of symbols, with what stands behind them.
use Rattle.std.proofs.Common.{◌≡◌, ℕ, ◌+◌, ◌*◌, ◌≤◌, List, [], ◌∷◌, ◌++◌, length, ◌⊎◌, inl, inr, refl, sym, ap, subst, ◌∙◌, append_assoc, length-append, arith}
use Rattle.decl_grammar.specs.declared.symbol.Symbol.{Symbol}
use Rattle.decl_grammar.specs.Reading.{done}
use Rattle.decl_grammar.specs.Form.{Form, seen}
use Rattle.decl_grammar.specs.Rule.{reads}
use Rattle.decl_grammar.proofs.Progress.{done_rest}
use Rattle.decl_children.specs.Fronts.{Passes}
use Rattle.decl_children.proofs.Phrases.{Phrase}
use Rattle.decl_children.proofs.Thens.{values-same}
use Rattle.decl_children.proofs.ThenRows.{HasEnd, end-reads}

pub passes-reads : {A : Type 0} (f : Form A) → HasEnd f → (room : ℕ) (ts : List Symbol) (x : A) (rest : List Symbol) → 3 * length ts ≤ room → Passes f ts x rest → reads room f ts ≡ done x rest
passes-reads f has room ts x rest fits (us, e, is) =
    ap (λ (zs : List Symbol). reads room f zs) e ∙ end-reads f has room us rest x (subst (λ (zs : List Symbol). 3 * length zs ≤ room) e fits) (record { is = is })

pub phrase-passes : {A : Type 0} (f : Form A) (ts us rest : List Symbol) (x : A) → ts ≡ us ++ rest → Phrase f us x → Passes f ts x rest
phrase-passes f ts us rest x e p = (us, e, p.is)

pub passed : {A : Type 0} (f : Form A) (ts rest : List Symbol) (x : A) (q : Passes f ts x rest) → Phrase f q.0 x
passed f ts rest x q = record { is = q.2 }

-- what stands at the front is one thing
pub passes-same : {A : Type 0} (f : Form A) → HasEnd f → (ts : List Symbol) (x y : A) (a b : List Symbol) → Passes f ts x a → Passes f ts y b → done x a ≡ done y b
passes-same f has ts x y a b p q = sym (passes-reads f has (3 * length ts) ts x a (omega arith) p) ∙ passes-reads f has (3 * length ts) ts y b (omega arith) q

pub passes-value : {A : Type 0} (f : Form A) → HasEnd f → (ts : List Symbol) (x y : A) (a b : List Symbol) → Passes f ts x a → Passes f ts y b → x ≡ y
passes-value f has ts x y a b p q = values-same x y a b (passes-same f has ts x y a b p q)

pub passes-rest : {A : Type 0} (f : Form A) → HasEnd f → (ts : List Symbol) (x y : A) (a b : List Symbol) → Passes f ts x a → Passes f ts y b → a ≡ b
passes-rest f has ts x y a b p q = done_rest x y a b (passes-same f has ts x y a b p q)

pub passes-less : {A : Type 0} (f : Form A) (ts : List Symbol) (x : A) (rest : List Symbol) → Passes f ts x rest → length rest ≤ length ts
passes-less f ts x rest (us, e, is) = omega (arith, ap length e, length-append us rest)

-- ---- cuts of a list in three

pub onto : {A : Type 0} {ts xs : List A} (a ys g : List A) → ts ≡ a ++ xs → xs ≡ ys ++ g → ts ≡ (a ++ ys) ++ g
onto {A = A} a ys g e d = e ∙ (ap (λ (zs : List A). a ++ zs) d ∙ sym (append_assoc a ys g))

pub under : {A : Type 0} {ts xs : List A} (a ys g : List A) → ts ≡ xs ++ g → xs ≡ a ++ ys → ts ≡ a ++ (ys ++ g)
under {A = A} a ys g e d = e ∙ (ap (λ (zs : List A). zs ++ g) d ∙ append_assoc a ys g)

-- One symbol stands behind others, and so does a part that is not empty: the symbol is its last.
pub record LastCut {A : Type 0} (us : List A) (s : A) (front back : List A) : Type 0 where
  pub inner : List A
  pub back_is : back ≡ inner ++ s ∷ []
  pub us_is : us ≡ front ++ inner

tail-is : {A : Type 0} (x y : A) (xs ys : List A) → x ∷ xs ≡ y ∷ ys → xs ≡ ys
tail-is x y xs ys e = cc

head-is : {A : Type 0} (x y : A) (xs ys : List A) → x ∷ xs ≡ y ∷ ys → x ≡ y
head-is x y xs ys e = cc

pub last-cut : {A : Type 0} (us : List A) (s : A) (front back : List A) → us ++ s ∷ [] ≡ front ++ back → (back ≡ []) ⊎ LastCut us s front back
last-cut us s [] back e = inr (record { inner = us; back_is = sym e; us_is = refl })
last-cut [] s (f ∷ []) back e = inl (sym (tail-is s f [] back e))
last-cut [] s (f ∷ g ∷ fs) back e = absurd (let q = tail-is s f [] ((g ∷ fs) ++ back) e in cc)
last-cut {A = A} (u ∷ us) s (f ∷ fs) back e = go (last-cut us s fs back (tail-is u f (us ++ s ∷ []) (fs ++ back) e))
  where
    go : (back ≡ []) ⊎ LastCut us s fs back → (back ≡ []) ⊎ LastCut (u ∷ us) s (f ∷ fs) back
    go (inl n) = inl n
    go (inr c) = inr (record { inner = c.inner; back_is = c.back_is; us_is = ap (λ (x : A). x ∷ us) (head-is u f (us ++ s ∷ []) (fs ++ back) e) ∙ ap (λ (zs : List A). f ∷ zs) c.us_is })

-- ---- what is seen as it is written

pub seen-there : {A B : Type 0} {f : Form A} {us : List Symbol} {x : A} (h : List Symbol → B) → Phrase f us x → Phrase (seen h f) us (h us, x)
seen-there h p = record { is = (p.is.0, (p.is.1, refl)) }

pub record Seen {A B : Type 0} (h : List Symbol → B) (f : Form A) (us : List Symbol) (y : B × A) : Type 0 where
  pub whole : Phrase f us y.1
  pub shown : y.0 ≡ h us

pub un-seen : {A B : Type 0} {h : List Symbol → B} {f : Form A} {us : List Symbol} {y : B × A} → Phrase (seen h f) us y → Seen h f us y
un-seen p = record { whole = record { is = (p.is.0, p.is.1.0) }; shown = p.is.1.1 }
