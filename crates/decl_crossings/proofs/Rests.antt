-- How the number of fields that begin within an initialiser goes along its parts: behind a part it is what it was before it.
use Rattle.std.proofs.Common.{◌≡◌, ℕ, ◌*◌, ◌<◌, ◌≤◌, true, List, [], ◌∷◌, ◌++◌, length, refl, sym, ap, subst, ◌∙◌, append_assoc, arith}
use Rattle.decl_turns.specs.declared.states.Leave.TheVariants as leave
use Rattle.decl_turns.specs.declared.states.Place.TheVariants as place
use Rattle.decl_turns.specs.declared.states.Before.{Before}
use Rattle.decl_turns.specs.declared.states.Piece.{Piece}
use Rattle.decl_turns.specs.declared.states.Turn.{Turn}
use Rattle.decl_turns.specs.declared.states.Turn.TheVariants as turning
use Rattle.decl_turns.specs.declared.states.Next.{Next}
use Rattle.decl_turns.specs.declared.states.Next.TheVariants as next
use Rattle.decl_grammar.specs.declared.symbol.Symbol.{Symbol}
use Rattle.decl_grammar.specs.Symbols.{operator}
use Rattle.decl_grammar.specs.TokenNames as token
use Rattle.decl_grammar.specs.Reading.{has, done}
use Rattle.decl_grammar.specs.Form.{Freedom, After, Part, Rest, nest, assigned, anywhere, expression_part, expression_rest, first_of}
use Rattle.decl_grammar.specs.Expressions.{part_symbols, step}
use Rattle.decl_grammar.specs.Rule.{WholeAt, read_nest}
use Rattle.decl_grammar.specs.File.{IsPhrase}
use Rattle.decl_grammar.proofs.OneToken.{more_of_part, disjoint-has}
use Rattle.decl_grammar.proofs.Heights.{full-at, heads-at}
use Rattle.decl_grammar.proofs.Raised.{above, whole-first, whole-second}
use Rattle.decl_grammar.proofs.Knot.{IsSound, sound-plain}
use Rattle.decl_grammar.proofs.RuleFair.{fair}
use Rattle.decl_turns.specs.States.{after_of, part_at, freedom_after, form_next}
use Rattle.decl_turns.specs.Turns.{next_at}
use Rattle.decl_turns.proofs.Chosen.{chosen}
use Rattle.decl_limits.specs.Children.{blank}
use Rattle.decl_limits.specs.Separators.{separators}
use Rattle.decl_limits.proofs.Separated.{none-there, one-there}
use Rattle.decl_limits.proofs.FewFields.{rest-fewer}
use Rattle.decl_crossings.specs.Crossings.{SomeFront, closed, Declares, behind_rest, RestCrosses}
use Rattle.decl_crossings.proofs.Splits.{last-of}
use Rattle.decl_crossings.proofs.PhraseReads.{whole-reads, read-phrase, nest-sound, all-read, all-whole}
use Rattle.decl_crossings.proofs.ApartParts.{apart, stands-apart, same-part}

-- ---- a `;` alone

pub one-alone : separators (closed []) ≡ 1
one-alone = omega (arith, one-there (blank (operator token.semicolon)) [] 6 refl refl, none-there)

-- it is no rest of an initialiser in which a field begins
pub rest-alone : (n : ℕ) (a : After) → Declares (nest (expression_rest assigned anywhere a)) behind_rest n [] → ⊥
rest-alone n a d = absurd (omega (arith, (rest-fewer d.1.0 anywhere a).there (closed []) d.0 d.1.1, one-alone, d.2))

-- ---- a part, and the rest behind it

pub record Cut (p : Part) (a : After) (ts : List Symbol) (x : Rest assigned) : Type 0 where
  pub front : List Symbol
  pub back : List Symbol
  pub value : Rest assigned
  pub parts : ts ≡ front ++ back
  pub part : IsPhrase (nest (expression_part assigned p)) front tt
  pub rest : IsPhrase (nest (expression_rest assigned anywhere a)) back value
  pub same : x.1 ≡ value.1

pub cut-step : (p : Part) (a : After) (ts : List Symbol) (x : Rest assigned) → IsPhrase (step assigned p anywhere a) ts x → Cut p a ts x
unfolding step part_symbols
cut-step p a ts x is =
    let v = is.1.0 in
    let q = is.1.1 in
    record {
      front = q.0;
      back = q.1;
      value = v.1;
      parts = q.2;
      part = (is.0, q.3.1.0);
      rest = (is.0, q.4);
      same = ap (λ (y : Rest assigned). y.1) is.1.2;
    }

pub step-phrase : (p : Part) (a : After) (us ts : List Symbol) (x : Rest assigned)
    → IsPhrase (nest (expression_part assigned p)) us tt → IsPhrase (nest (expression_rest assigned anywhere a)) ts x → IsPhrase (step assigned p anywhere a) (us ++ ts) (us ++ x.0, x.1)
unfolding step part_symbols
step-phrase p a us ts x one rest =
    let first = whole-first one.0 rest.0 (expression_part assigned p) us tt one.1 in
    let second = whole-second one.0 rest.0 (expression_rest assigned anywhere a) ts x rest.1 in
    (above one.0 rest.0, ((us, x), (us, ts, refl, ((us, tt), (first, refl), refl), second), refl))

step-sound : (p : Part) (a : After) → apart p a ≡ true → IsSound (step assigned p anywhere a)
unfolding step part_symbols
step-sound p a e = sound-plain fair (step assigned p anywhere a) e refl

pub anyhow : (v : Turn) → freedom_after v anywhere ≡ anywhere
anyhow turning.Same = refl
anyhow turning.Condition = refl
anyhow turning.Colon = refl
anyhow turning.Lambda = refl

-- ---- what the first symbol chooses

-- what the rest of an initialiser is there
pub chosen-phrase : (b : Before) (nx : Next) (ts : List Symbol) (x : Rest assigned) → next_at place.Assigned leave.Anywhere b ts ≡ nx
    → IsPhrase (nest (expression_rest assigned anywhere (after_of b))) ts x → IsPhrase (form_next assigned anywhere nx ts) ts x
chosen-phrase b nx ts x here is =
    let room = 3 * length ts in
    all-whole (form_next assigned anywhere nx ts) room ts x
    (sym (chosen room place.Assigned leave.Anywhere b ts nx refl here) ∙ all-read (nest (expression_rest assigned anywhere (after_of b))) (nest-sound (expression_rest assigned anywhere (after_of b))) room ts x (omega arith) is)

-- and the other way round
pub phrase-chosen : (b : Before) (nx : Next) (ts : List Symbol) (x : Rest assigned) → next_at place.Assigned leave.Anywhere b ts ≡ nx → IsSound (form_next assigned anywhere nx ts)
    → IsPhrase (form_next assigned anywhere nx ts) ts x → IsPhrase (nest (expression_rest assigned anywhere (after_of b))) ts x
phrase-chosen b nx ts x here sound is =
    let room = 3 * length ts in
    all-whole (nest (expression_rest assigned anywhere (after_of b))) room ts x
    (chosen room place.Assigned leave.Anywhere b ts nx refl here ∙ all-read (form_next assigned anywhere nx ts) sound room ts x (omega arith) is)

-- ---- behind a part

-- Where fields begin behind what stands before a part, the part is there, and they begin behind it.
abbrev pub BehindPart : ℕ → ℕ → Part → After → List Symbol → Type 0
BehindPart n room p a ts = (after : List Symbol) × (read_nest room (expression_part assigned p) ts ≡ done tt after) × RestCrosses n a after

rest-some : (a : After) (ts : List Symbol) (x : Rest assigned) → IsPhrase (nest (expression_rest assigned anywhere a)) ts x → ts ≡ [] → ⊥
rest-some a ts x is e =
    full-at is.0 (expression_rest assigned anywhere a) x (subst (λ (us : List Symbol). WholeAt is.0 (expression_rest assigned anywhere a) us x) e is.1)

rest-head : (a : After) (q : Symbol) (qs : List Symbol) (x : Rest assigned) → IsPhrase (nest (expression_rest assigned anywhere a)) (q ∷ qs) x → has (first_of (expression_rest assigned anywhere a)) q.sort ≡ true
rest-head a q qs x is = heads-at is.0 (expression_rest assigned anywhere a) q qs x is.1

-- a front of the rest behind the part was found
found-behind : (n room : ℕ) (p : Part) (a : After) → apart p a ≡ true → (us qs zs : List Symbol) (x : Rest assigned) → 3 * length (us ++ (qs ++ zs)) ≤ room
    → IsPhrase (nest (expression_part assigned p)) us tt → Declares (nest (expression_rest assigned anywhere a)) behind_rest n qs → BehindPart n room p a (us ++ (qs ++ zs))
found-behind n room p a e us [] zs x fits is d = absurd (rest-alone n a d)
found-behind n room p a e us (q ∷ qs) zs x fits is d =
    let stops = disjoint-has (first_of (expression_rest assigned anywhere a)) (more_of_part p) q.sort e (rest-head a q (qs ++ blank (operator token.semicolon) ∷ []) d.0 d.1) in
    ((q ∷ qs) ++ zs, whole-reads (nest (expression_part assigned p)) (nest-sound (expression_part assigned p)) room us ((q ∷ qs) ++ zs) tt fits stops is, (q ∷ qs, zs, refl, d))

pub cut-behind : (n room : ℕ) (p : Part) (a : After) → apart p a ≡ true → (ws zs : List Symbol) (x : Rest assigned) → 3 * length (ws ++ zs) ≤ room
    → IsPhrase (step assigned p anywhere a) (closed ws) x → n < length x.1 → BehindPart n room p a (ws ++ zs)
cut-behind n room p a e ws zs x fits is lt =
    let cut = cut-step p a (closed ws) x is in
    let l = last-of (blank (operator token.semicolon)) ws cut.front cut.back cut.parts (rest-some a cut.back cut.value cut.rest) in
    let inner : IsPhrase (nest (expression_rest assigned anywhere a)) (closed l.0) cut.value = subst (λ (us : List Symbol). IsPhrase (nest (expression_rest assigned anywhere a)) us cut.value) l.1 cut.rest in
    let whole : ws ++ zs ≡ cut.front ++ (l.0 ++ zs) = ap (λ (us : List Symbol). us ++ zs) l.2 ∙ append_assoc cut.front l.0 zs in
    subst (λ (us : List Symbol). BehindPart n room p a us) (sym whole)
    (found-behind n room p a e cut.front l.0 zs x (subst (λ (us : List Symbol). 3 * length us ≤ room) whole fits) cut.part (cut.value, inner, omega (arith, lt, ap length cut.same)))

-- where the next symbol chooses a part
pub part-back : (n room : ℕ) (b c : Before) (p : Piece) (v : Turn) (ts : List Symbol) → next_at place.Assigned leave.Anywhere b ts ≡ next.Part p v c → 3 * length ts ≤ room
    → RestCrosses n (after_of b) ts → BehindPart n room (part_at p ts) (after_of c) ts
part-back n room b c p v ts here fits crosses =
    subst (λ (us : List Symbol). BehindPart n room (part_at p us) (after_of c) us) (sym crosses.2)
    (go crosses.0 crosses.1 (subst (λ (us : List Symbol). next_at place.Assigned leave.Anywhere b us ≡ next.Part p v c) crosses.2 here) (subst (λ (us : List Symbol). 3 * length us ≤ room) crosses.2 fits) crosses.3)
  where
    go : (ws zs : List Symbol) → next_at place.Assigned leave.Anywhere b (ws ++ zs) ≡ next.Part p v c → 3 * length (ws ++ zs) ≤ room → Declares (nest (expression_rest assigned anywhere (after_of b))) behind_rest n ws → BehindPart n room (part_at p (ws ++ zs)) (after_of c) (ws ++ zs)
    go [] zs here fits d = absurd (rest-alone n (after_of b) d)
    go (t ∷ ws) zs here fits d =
        let step_there = chosen-phrase b (next.Part p v c) (closed (t ∷ ws)) d.0 here d.1 in
        let free = subst (λ (w : Freedom). IsPhrase (step assigned (part_at p (closed (t ∷ ws))) w (after_of c)) (closed (t ∷ ws)) d.0) (anyhow v) step_there in
        subst (λ (q : Part). BehindPart n room q (after_of c) ((t ∷ ws) ++ zs)) (same-part p t (ws ++ blank (operator token.semicolon) ∷ []) (ws ++ zs))
        (cut-behind n room (part_at p (closed (t ∷ ws))) (after_of c) (stands-apart b c t (ws ++ zs) (closed (t ∷ ws)) p v here) (t ∷ ws) zs d.0 fits free d.2)

-- the symbols of a part that was read, with what is behind them
pub some-part : (p : Part) (us : List Symbol) → IsPhrase (nest (expression_part assigned p)) us tt → us ≡ [] → ⊥
some-part p us is e = full-at is.0 (expression_part assigned p) tt (subst (λ (vs : List Symbol). WholeAt is.0 (expression_part assigned p) vs tt) e is.1)

-- a front of what stands behind a part is one of all
pub longer : (f g : List Symbol → Type 0) (us ts : List Symbol) → ((vs : List Symbol) → f vs → g (us ++ vs)) → SomeFront f ts → SomeFront g (us ++ ts)
longer f g us ts go s = (us ++ s.0, s.1, ap (λ (xs : List Symbol). us ++ xs) s.2 ∙ sym (append_assoc us s.0 s.1), go s.0 s.3)

pub part-on : (n room : ℕ) (b c : Before) (p : Piece) (v : Turn) (ts after : List Symbol) → next_at place.Assigned leave.Anywhere b ts ≡ next.Part p v c
    → read_nest room (expression_part assigned (part_at p ts)) ts ≡ done tt after → RestCrosses n (after_of c) after → RestCrosses n (after_of b) ts
part-on n room b c p v ts after here read crosses =
    let q = read-phrase (nest (expression_part assigned (part_at p ts))) room ts tt after read in
    go q.0 q.1 q.2
  where
    declares : (t : Symbol) (us : List Symbol) → ts ≡ (t ∷ us) ++ after → IsPhrase (nest (expression_part assigned (part_at p ts))) (t ∷ us) tt → (vs : List Symbol)
        → Declares (nest (expression_rest assigned anywhere (after_of c))) behind_rest n vs → Declares (nest (expression_rest assigned anywhere (after_of b))) behind_rest n ((t ∷ us) ++ vs)
    declares t us e is vs d =
        let all = (t ∷ us) ++ closed vs in
        let here_too : next_at place.Assigned leave.Anywhere b all ≡ next.Part p v c = subst (λ (zs : List Symbol). next_at place.Assigned leave.Anywhere b zs ≡ next.Part p v c) e here in
        let alike : part_at p ts ≡ part_at p all = ap (part_at p) e ∙ same-part p t (us ++ after) (us ++ closed vs) in
        let one = subst (λ (q : Part). IsPhrase (nest (expression_part assigned q)) (t ∷ us) tt) alike is in
        let whole = step-phrase (part_at p all) (after_of c) (t ∷ us) (closed vs) d.0 one d.1 in
        let x : Rest assigned = ((t ∷ us) ++ d.0.0, d.0.1) in
        let sound = step-sound (part_at p all) (after_of c) (stands-apart b c t (us ++ closed vs) all p v here_too) in
        let there = phrase-chosen b (next.Part p v c) all x here_too
        (subst (λ (w : Freedom). IsSound (step assigned (part_at p all) w (after_of c))) (sym (anyhow v)) sound)
        (subst (λ (w : Freedom). IsPhrase (step assigned (part_at p all) w (after_of c)) all x) (sym (anyhow v)) whole) in
        (x, subst (λ (zs : List Symbol). IsPhrase (nest (expression_rest assigned anywhere (after_of b))) zs x) (sym (append_assoc (t ∷ us) vs (blank (operator token.semicolon) ∷ []))) there, d.2)

    go : (us : List Symbol) → ts ≡ us ++ after → IsPhrase (nest (expression_part assigned (part_at p ts))) us tt → RestCrosses n (after_of b) ts
    go [] e is = absurd (some-part (part_at p ts) [] is refl)
    go (t ∷ us) e is =
        subst (λ (zs : List Symbol). RestCrosses n (after_of b) zs) (sym e)
        (longer (Declares (nest (expression_rest assigned anywhere (after_of c))) behind_rest n) (Declares (nest (expression_rest assigned anywhere (after_of b))) behind_rest n) (t ∷ us) after (declares t us e is) crosses)
