-- A row of phrases that have their ends, and then others: what is full behind the row, step by step.
use Rattle.std.proofs.Common.{◌≡◌, ℕ, ◌*◌, ◌≤◌, false, List, [], ◌∷◌, ◌++◌, length, ◌⊎◌, inl, inr, refl, sym, ap, subst, ◌∙◌, append_assoc}
use Rattle.decl_grammar.specs.declared.symbol.Symbol.{Symbol}
use Rattle.decl_grammar.specs.Reading.{starts, done}
use Rattle.decl_grammar.specs.Form.{Form, pair, many}
use Rattle.decl_grammar.specs.Rule.{reads}
use Rattle.decl_grammar.proofs.OneToken.{more}
use Rattle.decl_grammar.proofs.Knot.{IsSound}
use Rattle.decl_limits.specs.Children.{Then}
use Rattle.decl_children.specs.Fronts.{SomeFront}
use Rattle.decl_crossings.proofs.PhraseReads.{whole-reads, read-phrase}
use Rattle.decl_children.proofs.Phrases.{Phrase, paired, row-nil, row-cons, un-pair, un-nil, un-cons}

-- a form that has its end: nothing goes on with it
pub record HasEnd {A : Type 0} (f : Form A) : Type 0 where
  pub sound : IsSound f
  pub ends : more f ≡ []

no-more : (ks : List ℕ) → ks ≡ [] → (ts : List Symbol) → starts ks ts ≡ false
no-more ks e ts = ap (λ (ls : List ℕ). starts ls ts) e ∙ none ts
  where
    none : (us : List Symbol) → starts [] us ≡ false
    none [] = refl
    none (u ∷ us) = refl

pub end-reads : {A : Type 0} (f : Form A) → HasEnd f → (room : ℕ) (us ws : List Symbol) (x : A) → 3 * length (us ++ ws) ≤ room → Phrase f us x → reads room f (us ++ ws) ≡ done x ws
end-reads f has room us ws x fits p = whole-reads f has.sound room us ws x fits (no-more (more f) has.ends ws) p.is

-- behind none of them
pub rows-here : {A : Type 0} (f : Form A) (p : List A → List Symbol → Type 0) (ts : List Symbol) → SomeFront (p []) ts → SomeFront (Then (many f) p) ts
rows-here f p ts (us, vs, e, holds) = (us, vs, e, ([], us, [], refl, (row-nil f).is, holds))

-- behind one of them, and so before it
pub rows-later : {A : Type 0} (room : ℕ) (f : Form A) (p : List A → List Symbol → Type 0) (ts : List Symbol) (x : A) (rest : List Symbol) → reads room f ts ≡ done x rest → SomeFront (Then (many f) (λ xs. p (x ∷ xs))) rest → SomeFront (Then (many f) p) ts
rows-later room f p ts x rest e (us, vs, parts, (front, back, xs, cut, is, holds)) =
    let r = read-phrase f room ts x rest e in
    let one : Phrase f r.0 x = record { is = r.2 } in
    let others : Phrase (many f) front xs = record { is = is } in
    let all = row-cons one others in (
      r.0 ++ us,
      vs,
      r.1 ∙ (ap (λ (zs : List Symbol). r.0 ++ zs) parts ∙ sym (append_assoc r.0 us vs)),
      (r.0 ++ front, back, x ∷ xs, ap (λ (zs : List Symbol). r.0 ++ zs) cut ∙ sym (append_assoc r.0 front back), all.is, holds),
    )

-- one of them is read here, and behind it this holds
pub record One {A : Type 0} (room : ℕ) (f : Form A) (p : List A → List Symbol → Type 0) (ts : List Symbol) : Type 0 where
  pub value : A
  pub rest : List Symbol
  pub there : reads room f ts ≡ done value rest
  pub holds : SomeFront (Then (many f) (λ (xs : List A). p (value ∷ xs))) rest

pub rows-cases : {A : Type 0} (room : ℕ) (f : Form A) (p : List A → List Symbol → Type 0) (ts : List Symbol) → HasEnd f → 3 * length ts ≤ room → SomeFront (Then (many f) p) ts → SomeFront (p []) ts ⊎ One room f p ts
rows-cases {A} room f p ts has fits (us, vs, e, (front, back, xs, cut, is, holds)) = go xs (record { is = is }) holds
  where
    go : (ys : List A) → Phrase (many f) front ys → p ys back → SomeFront (p []) ts ⊎ One room f p ts
    go [] q h = inl (back, vs, e ∙ ap (λ (zs : List Symbol). zs ++ vs) (cut ∙ ap (λ (zs : List Symbol). zs ++ back) (un-nil q)), h)
    go (y ∷ ys) q h =
        let r = un-cons q in
        let all : ts ≡ r.front ++ (r.back ++ (back ++ vs)) =
        e ∙ (ap (λ (zs : List Symbol). zs ++ vs) cut ∙ (append_assoc front back vs ∙ (ap (λ (zs : List Symbol). zs ++ (back ++ vs)) r.parts ∙ append_assoc r.front r.back (back ++ vs)))) in
        let there = end-reads f has room r.front (r.back ++ (back ++ vs)) y (subst (λ (zs : List Symbol). 3 * length zs ≤ room) all fits) r.first in
        inr (record {
          value = y;
          rest = r.back ++ (back ++ vs);
          there = ap (λ (zs : List Symbol). reads room f zs) all ∙ there;
          holds = (r.back ++ back, vs, sym (append_assoc r.back back vs), (r.back, back, ys, refl, r.second.is, h));
        })

-- ---- one form and then another

pub pair-out : {A B : Type 0} (f : Form A) (g : Form B) (p : A × B → List Symbol → Type 0) (ts : List Symbol) → SomeFront (Then (pair f g) p) ts → SomeFront (Then f (λ x. Then g (λ y. p (x, y)))) ts
pair-out f g p ts (us, vs, e, (front, back, x, cut, is, holds)) =
    let there : Phrase (pair f g) front x = record { is = is } in
    let q = un-pair there in
    (us, vs, e, (q.front, q.back ++ back, x.0, cut ∙ (ap (λ (zs : List Symbol). zs ++ back) q.parts ∙ append_assoc q.front q.back back), q.first.is, (q.back, back, x.1, refl, q.second.is, holds)))

pub pair-in : {A B : Type 0} (f : Form A) (g : Form B) (p : A × B → List Symbol → Type 0) (ts : List Symbol) → SomeFront (Then f (λ x. Then g (λ y. p (x, y)))) ts → SomeFront (Then (pair f g) p) ts
pair-in f g p ts (us, vs, e, (front, mid, x, cut, is, (inner, back, y, parts, that, holds))) =
    let one : Phrase f front x = record { is = is } in
    let other : Phrase g inner y = record { is = that } in
    let both = paired one other in
    (us, vs, e, (front ++ inner, back, (x, y), cut ∙ (ap (λ (zs : List Symbol). front ++ zs) parts ∙ sym (append_assoc front inner back)), both.is, holds))
