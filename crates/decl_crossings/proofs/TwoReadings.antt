-- How the number of fields that begin within an initialiser goes where a `<` behind a name may begin the rest of a type up to its `::`: either fields begin behind that type, or they begin behind the operator `<`,
-- and where the type is whole these begin within it.
use Rattle.std.proofs.Common.{◌≡◌, ℕ, zero, suc, ◌*◌, ◌<◌, ◌≤◌, true, false, List, [], ◌∷◌, ◌++◌, ◌⊎◌, length, inl, inr, refl, sym, ap, subst, ◌∙◌, append_assoc, length-append, arith}
use Rattle.std.proofs.lemmas.List.{append-nil}
use Rattle.decl_turns.specs.declared.states.Leave.TheVariants as leave
use Rattle.decl_turns.specs.declared.states.Place.TheVariants as place
use Rattle.decl_turns.specs.declared.states.Before.{Before}
use Rattle.decl_turns.specs.declared.states.Next.TheVariants as next
use Rattle.decl_grammar.specs.declared.symbol.Symbol.{Symbol}
use Rattle.decl_grammar.specs.Symbols.{operator, numbers}
use Rattle.decl_grammar.specs.TokenNames as token
use Rattle.decl_grammar.specs.Reading.{has, starts, Outcome, done, fault, deep, read_of}
use Rattle.decl_grammar.specs.Form.{After, Part, Rest, nest, assigned, anywhere, between, name_there, colons, one_of, type_reference, expression_part, expression_rest, first_of, turned}
use Rattle.decl_grammar.specs.Expressions.{part_symbols, with_symbols, step, two_readings, signs_form}
use Rattle.decl_grammar.specs.Rule.{reads, read_nest}
use Rattle.decl_grammar.specs.File.{IsPhrase}
use Rattle.decl_grammar.proofs.Knot.{IsSound}
use Rattle.decl_grammar.proofs.RuleFair.{fair}
use Rattle.decl_grammar.proofs.TypeWins.{type-wins}
use Rattle.decl_turns.specs.States.{after_of}
use Rattle.decl_turns.specs.Turns.{next_at}
use Rattle.decl_turns.proofs.TwoThere.{two-less}
use Rattle.decl_limits.specs.Children.{blank}
use Rattle.decl_crossings.specs.Crossings.{closed, Declares, behind_rest, RestCrosses}
use Rattle.decl_crossings.proofs.Splits.{same-head, two-fronts}
use Rattle.decl_crossings.proofs.PhraseReads.{whole-reads, read-phrase, nest-sound, all-read, all-whole}
use Rattle.decl_crossings.proofs.ApartParts.{nothing-more}
use Rattle.decl_crossings.proofs.Rests.{rest-alone, cut-step, step-phrase, chosen-phrase, phrase-chosen, BehindPart, cut-behind, longer}

two-sound : IsSound (two_readings assigned anywhere)
unfolding two_readings step part_symbols numbers signs_form
two-sound = (refl, (fair (expression_rest assigned anywhere name_there)).1.0.0, fair)

-- the operator
abbrev operator_less : Part
operator_less = one_of (operator token.less_than ∷ [])

one-part : (us : List Symbol) → IsPhrase (nest (expression_part assigned operator_less)) us tt → (s : Symbol) × (us ≡ s ∷ [])
one-part us (zero, is) = absurd is
one-part us (suc h, is) = (is.0, is.1.0)

pub none-more : (ts : List Symbol) → starts [] ts ≡ false
none-more [] = refl
none-more (t ∷ ts) = refl

-- ---- what each of the two readings gives

abbrev rests : After → List Symbol → Rest assigned → Type 0
rests a ts x = IsPhrase (nest (expression_rest assigned anywhere a)) ts x

type-reading : (ts : List Symbol) (x : Rest assigned) → IsPhrase (step assigned type_reference anywhere colons) ts x → IsPhrase (two_readings assigned anywhere) ts x
unfolding two_readings
type-reading ts x is = (is.0, inl is.1)

less-reading : (ts : List Symbol) (x : Rest assigned) → IsPhrase (step assigned operator_less anywhere between) ts x → IsPhrase (two_readings assigned anywhere) ts x
unfolding two_readings
less-reading ts x is = (is.0, inr is.1)

either-reading : (ts : List Symbol) (x : Rest assigned) → IsPhrase (two_readings assigned anywhere) ts x → IsPhrase (step assigned type_reference anywhere colons) ts x ⊎ IsPhrase (step assigned operator_less anywhere between) ts x
unfolding two_readings
either-reading ts x (h, inl is) = inl (h, is)
either-reading ts x (h, inr is) = inr (h, is)

-- a `<` before the rest
less-phrase : (t : Symbol) (ts : List Symbol) (x : Rest assigned) → has (operator token.less_than ∷ []) t.sort ≡ true → rests between ts x → IsPhrase (step assigned operator_less anywhere between) (t ∷ ts) (t ∷ x.0, x.1)
less-phrase t ts x e is = step-phrase operator_less between (t ∷ []) ts x (1, (t, (refl, e), refl)) is

-- ---- forwards

-- fields that begin behind the operator
pub operator-on : (n : ℕ) (b : Before) (t : Symbol) (ts : List Symbol) → next_at place.Assigned leave.Anywhere b (t ∷ ts) ≡ next.Two → RestCrosses n between ts → RestCrosses n (after_of b) (t ∷ ts)
operator-on n b t ts here crosses =
    longer (Declares (nest (expression_rest assigned anywhere between)) behind_rest n) (Declares (nest (expression_rest assigned anywhere (after_of b))) behind_rest n) (t ∷ []) ts
    (λ vs d. (
      (t ∷ d.0.0, d.0.1),
      phrase-chosen b next.Two (closed (t ∷ vs)) (t ∷ d.0.0, d.0.1) here two-sound
          (less-reading (closed (t ∷ vs)) (t ∷ d.0.0, d.0.1) (less-phrase t (closed vs) d.0 (two-less place.Assigned leave.Anywhere b (t ∷ ts) here) d.1)),
      d.2,
    ))
    crosses

-- fields that begin behind the type
type-front : (n : ℕ) (b : Before) (t : Symbol) (us ts : List Symbol) → next_at place.Assigned leave.Anywhere b (t ∷ (us ++ ts)) ≡ next.Two → IsPhrase (nest (expression_part assigned type_reference)) (t ∷ us) tt
    → RestCrosses n colons ts → RestCrosses n (after_of b) ((t ∷ us) ++ ts)
type-front n b t us ts here is crosses =
    longer (Declares (nest (expression_rest assigned anywhere colons)) behind_rest n) (Declares (nest (expression_rest assigned anywhere (after_of b))) behind_rest n) (t ∷ us) ts
    (λ vs d.
    let x : Rest assigned = ((t ∷ us) ++ d.0.0, d.0.1) in
    let whole = type-reading ((t ∷ us) ++ closed vs) x (step-phrase type_reference colons (t ∷ us) (closed vs) d.0 is d.1) in
    let there : rests (after_of b) ((t ∷ us) ++ closed vs) x = phrase-chosen b next.Two ((t ∷ us) ++ closed vs) x here two-sound whole in
    (x, subst (λ (zs : List Symbol). rests (after_of b) zs x) (sym (append_assoc (t ∷ us) vs (blank (operator token.semicolon) ∷ []))) there, d.2))
    crosses

-- ---- backwards

pub two-back : (n room : ℕ) (b : Before) (t : Symbol) (ts : List Symbol) → next_at place.Assigned leave.Anywhere b (t ∷ ts) ≡ next.Two → 3 * length (t ∷ ts) ≤ room → RestCrosses n (after_of b) (t ∷ ts)
    → BehindPart n room type_reference colons (t ∷ ts) ⊎ RestCrosses n between ts
two-back n room b t ts here fits crosses = go crosses.0 crosses.1 crosses.2 crosses.3
  where
    typed : (x : Rest assigned) (ws zs : List Symbol) → t ∷ ts ≡ ws ++ zs → n < length x.1 → IsPhrase (step assigned type_reference anywhere colons) (closed ws) x → BehindPart n room type_reference colons (t ∷ ts)
    typed x ws zs e lt is =
        subst (λ (us : List Symbol). BehindPart n room type_reference colons us) (sym e)
        (cut-behind n room type_reference colons (nothing-more (first_of (expression_rest assigned anywhere colons))) ws zs x (subst (λ (us : List Symbol). 3 * length us ≤ room) e fits) is lt)

    compared : (x : Rest assigned) (u : Symbol) (ws zs : List Symbol) → t ∷ ts ≡ (u ∷ ws) ++ zs → n < length x.1 → IsPhrase (step assigned operator_less anywhere between) (closed (u ∷ ws)) x → RestCrosses n between ts
    compared x u ws zs e lt is =
        let cut = cut-step operator_less between (closed (u ∷ ws)) x is in
        let s = one-part cut.front cut.part in
        let whole : u ∷ closed ws ≡ s.0 ∷ cut.back = cut.parts ∙ ap (λ (us : List Symbol). us ++ cut.back) s.1 in
        let back = (same-head u s.0 (closed ws) cut.back whole).1 in
        (ws, zs, (same-head t u ts (ws ++ zs) e).1, (cut.value, subst (λ (us : List Symbol). rests between us cut.value) (sym back) cut.rest, omega (arith, lt, ap length cut.same)))

    go : (ws zs : List Symbol) → t ∷ ts ≡ ws ++ zs → Declares (nest (expression_rest assigned anywhere (after_of b))) behind_rest n ws → BehindPart n room type_reference colons (t ∷ ts) ⊎ RestCrosses n between ts
    go [] zs e d = absurd (rest-alone n (after_of b) d)
    go (u ∷ ws) zs e d =
        let same = (same-head t u ts (ws ++ zs) e).0 in
        let here_too : next_at place.Assigned leave.Anywhere b (closed (u ∷ ws)) ≡ next.Two = subst (λ (s : Symbol). next_at place.Assigned leave.Anywhere b (s ∷ (ws ++ blank (operator token.semicolon) ∷ [])) ≡ next.Two) same here in
        elim (either-reading (closed (u ∷ ws)) d.0 (chosen-phrase b next.Two (closed (u ∷ ws)) d.0 here_too d.1)) [
          | inl is ↦ inl (typed d.0 (u ∷ ws) zs e d.2 is)
          | inr is ↦ inr (compared d.0 u ws zs e d.2 is)
        ]

-- ---- where the type is whole

pub same-done : (a b : List Symbol) (o : Outcome (Unit {0})) → o ≡ done tt a → o ≡ done tt b → a ≡ b
same-done a b o e d = cc

no-longer : (ks ts : List Symbol) → ts ≡ ks ++ ts → ks ≡ []
no-longer [] ts e = refl
no-longer (k ∷ ks) ts e = absurd (omega (arith, ap length e, length-append (k ∷ ks) ts))

same-front : (us vs ts : List Symbol) → us ++ ts ≡ vs ++ ts → us ≡ vs
same-front us vs ts e = elim (two-fronts us ts vs ts e) [
  | inl p ↦ sym (p.1 ∙ ap (λ (ks : List Symbol). us ++ ks) (no-longer p.0 ts p.2) ∙ append-nil us)
  | inr p ↦ p.1 ∙ ap (λ (ks : List Symbol). vs ++ ks) (no-longer p.0 ts p.2) ∙ append-nil vs
]

-- these symbols are the type where they were read
pub type-there : (room : ℕ) (us after : List Symbol) → read_nest room (expression_part assigned type_reference) (us ++ after) ≡ done tt after → IsPhrase (nest (expression_part assigned type_reference)) us tt
type-there room us after read =
    let q = read-phrase (nest (expression_part assigned type_reference)) room (us ++ after) tt after read in
    subst (λ (vs : List Symbol). IsPhrase (nest (expression_part assigned type_reference)) vs tt) (sym (same-front us q.0 after q.1)) q.2

symbols-there : (room : ℕ) (ts after : List Symbol) → read_nest room (expression_part assigned type_reference) ts ≡ done tt after → reads room (part_symbols assigned type_reference) ts ≡ done (read_of ts after) after
unfolding part_symbols
symbols-there room ts after e = rw e refl

turned-back : (ps : List Symbol) (x : Rest assigned) (o : Outcome (Rest assigned)) → turned (λ (y : Rest assigned). with_symbols (ps, y)) o ≡ done x [] → (y : Rest assigned) × (o ≡ done y []) × (x.1 ≡ y.1)
turned-back ps x (done y rest) e = (y, cc, cc)
turned-back ps x (fault at) e = absurd cc
turned-back ps x (deep at) e = absurd cc

-- a front that is read with the operator and reaches beyond the type is read with the type
beyond : (n : ℕ) (t : Symbol) (us ks : List Symbol) → has (operator token.less_than ∷ []) t.sort ≡ true → IsPhrase (nest (expression_part assigned type_reference)) (t ∷ us) tt
    → Declares (nest (expression_rest assigned anywhere between)) behind_rest n (us ++ ks) → Declares (nest (expression_rest assigned anywhere colons)) behind_rest n ks
beyond n t us ks less is d =
    let all = (t ∷ us) ++ closed ks in
    let room = 3 * length all in
    let x : Rest assigned = (t ∷ d.0.0, d.0.1) in
    let same : closed (us ++ ks) ≡ us ++ closed ks = append_assoc us ks (blank (operator token.semicolon) ∷ []) in
    let rest = subst (λ (zs : List Symbol). rests between zs d.0) same d.1 in
    let two = all-read (two_readings assigned anywhere) two-sound room all x (omega arith) (less-reading all x (less-phrase t (us ++ closed ks) d.0 less rest)) in
    let part = whole-reads (nest (expression_part assigned type_reference)) (nest-sound (expression_part assigned type_reference)) room (t ∷ us) (closed ks) tt (omega arith) (none-more (closed ks)) is in
    let won = type-wins assigned anywhere room all (read_of all (closed ks)) (closed ks) (symbols-there room all (closed ks) part) in
    let back = turned-back (read_of all (closed ks)) x (read_nest room (expression_rest assigned anywhere colons) (closed ks)) (sym won ∙ two) in
    (back.0, all-whole (nest (expression_rest assigned anywhere colons)) room (closed ks) back.0 back.1, omega (arith, d.2, ap length back.2))

-- within the type or behind it
pub within-or-behind : (n room : ℕ) (b : Before) (t : Symbol) (us after : List Symbol) → next_at place.Assigned leave.Anywhere b (t ∷ (us ++ after)) ≡ next.Two → 3 * length (t ∷ (us ++ after)) ≤ room
    → read_nest room (expression_part assigned type_reference) (t ∷ (us ++ after)) ≡ done tt after → RestCrosses n (after_of b) (t ∷ (us ++ after)) → RestCrosses n between us ⊎ RestCrosses n colons after
within-or-behind n room b t us after here fits read crosses =
    elim (two-back n room b t (us ++ after) here fits crosses) [
      | inl p ↦ inr (subst (λ (zs : List Symbol). RestCrosses n colons zs) (same-done p.0 after (read_nest room (expression_part assigned type_reference) (t ∷ (us ++ after))) p.1 read) p.2)
      | inr p ↦ go p
    ]
  where
    go : RestCrosses n between (us ++ after) → RestCrosses n between us ⊎ RestCrosses n colons after
    go (ws, zs, e, d) = elim (two-fronts us after ws zs e) [
      | inl p ↦ inr (p.0, zs, p.2, beyond n t us p.0 (two-less place.Assigned leave.Anywhere b (t ∷ (us ++ after)) here) (type-there room (t ∷ us) after read) (subst (λ (vs : List Symbol). Declares (nest (expression_rest assigned anywhere between)) behind_rest n vs) p.1 d))
      | inr p ↦ inl (ws, p.0, p.1, d)
    ]

-- what begins within the type begins behind the operator
pub within-on : (n : ℕ) (b : Before) (t : Symbol) (us after : List Symbol) → next_at place.Assigned leave.Anywhere b (t ∷ (us ++ after)) ≡ next.Two → RestCrosses n between us → RestCrosses n (after_of b) (t ∷ (us ++ after))
within-on n b t us after here crosses =
    operator-on n b t (us ++ after) here (crosses.0, crosses.1 ++ after, ap (λ (zs : List Symbol). zs ++ after) crosses.2 ∙ append_assoc crosses.0 crosses.1 after, crosses.3)

pub type-on : (n room : ℕ) (b : Before) (t : Symbol) (us after : List Symbol) → next_at place.Assigned leave.Anywhere b (t ∷ (us ++ after)) ≡ next.Two
    → read_nest room (expression_part assigned type_reference) (t ∷ (us ++ after)) ≡ done tt after → RestCrosses n colons after → RestCrosses n (after_of b) (t ∷ (us ++ after))
type-on n room b t us after here read crosses = type-front n b t us after here (type-there room (t ∷ us) after read) crosses
