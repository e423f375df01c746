-- How the number of fields that begin goes from one field to the next: where an initialiser begins, where one ends, and behind the name and the brackets of the next field.
use Rattle.std.proofs.Common.{◌≡◌, ℕ, zero, suc, ◌*◌, ◌<◌, ◌≤◌, true, false, List, [], ◌∷◌, ◌++◌, length, Option, None, inl, inr, refl, sym, ap, subst, ◌∙◌, append_assoc, arith}
use Rattle.apt_base.specs.declared.around.Around.{Around}
use Rattle.decl_tree.specs.declared.annotation.ValueText.{ValueText}
use Rattle.decl_turns.specs.declared.states.Leave.TheVariants as leave
use Rattle.decl_turns.specs.declared.states.Place.TheVariants as place
use Rattle.decl_turns.specs.declared.states.Before.{Before}
use Rattle.decl_turns.specs.declared.states.Next.TheVariants as next
use Rattle.decl_grammar.specs.declared.symbol.Symbol.{Symbol}
use Rattle.decl_grammar.specs.declared.written.Declarator.{Declarator}
use Rattle.decl_grammar.specs.Symbols.{operator, numbers}
use Rattle.decl_grammar.specs.TokenNames as token
use Rattle.decl_grammar.specs.Reading.{has, starts, done}
use Rattle.decl_grammar.specs.Form.{After, Rest, Is, many, nest, turn, names, assigned, anywhere, between, one_of, initialiser, expression_part, expression_rest, value_end, first, first_of}
use Rattle.decl_grammar.specs.Types.{dim, annotation, annotations, annotation_body, name_chain, name, dot_name, annotation_arguments, pairs_or_value, first_pair, placed_name}
use Rattle.decl_grammar.specs.Expressions.{no_symbols, expression, initialised, value_or_end, assigned_end, initialiser_form, declarator_first}
use Rattle.decl_grammar.specs.Rule.{WholeAt, reads}
use Rattle.decl_grammar.specs.File.{IsPhrase}
use Rattle.decl_grammar.proofs.OneToken.{more, disjoint, disjoint-has}
use Rattle.decl_grammar.proofs.Heads.{Is-nil, Is-head}
use Rattle.decl_grammar.proofs.Heights.{full-at, heads-at}
use Rattle.decl_grammar.proofs.Raised.{above, whole-first, whole-second}
use Rattle.decl_grammar.proofs.Rivals.{Is-up}
use Rattle.decl_grammar.proofs.Knot.{IsSound, sound-plain}
use Rattle.decl_grammar.proofs.RuleFair.{fair}
use Rattle.decl_turns.specs.States.{after_of}
use Rattle.decl_turns.specs.Turns.{next_at}
use Rattle.decl_limits.specs.Children.{blank}
use Rattle.decl_limits.proofs.FewFields.{value-fewer, end-fewer}
use Rattle.decl_crossings.specs.Crossings.{closed, Declares, behind_value, behind_rest, behind_end, FieldCrosses, InitialiserCrosses, RestCrosses, EndCrosses}
use Rattle.decl_crossings.specs.Steps.{value_ends}
use Rattle.decl_crossings.proofs.Splits.{same-head, last-of}
use Rattle.decl_crossings.proofs.PhraseReads.{whole-reads, read-phrase}
use Rattle.decl_crossings.proofs.Rests.{one-alone, rest-alone, cut-step, chosen-phrase, phrase-chosen, longer}

abbrev behind_count : Option ValueText × List Declarator → ℕ
behind_count x = length x.1

abbrev many_of : List Declarator → ℕ
many_of ds = length ds

no-both : true ≡ false → ⊥
no-both e = cc

-- ---- a `;` alone

end-alone : (n : ℕ) → Declares (nest (value_end assigned)) behind_end n [] → ⊥
end-alone n d = absurd (omega (arith, (end-fewer d.1.0).there (closed []) d.0 d.1.1, one-alone, d.2))

value-alone : (n : ℕ) → Declares value_or_end behind_value n [] → ⊥
value-alone n d = absurd (omega (arith, (value-fewer d.1.0).there (closed []) d.0 d.1.1, one-alone, d.2))

initialiser-some : (n : ℕ) → Declares (nest initialiser) behind_value n [] → ⊥
unfolding numbers
initialiser-some n (x, (zero, is), lt) = absurd is
initialiser-some n (x, (suc h, is), lt) = no-both (sym (heads-at (suc h) initialiser (blank (operator token.semicolon)) [] x is))

-- no front of nothing has a field
pub none-behind : (n : ℕ) (a : After) → RestCrosses n a [] → ⊥
none-behind n a (ws, zs, e, d) = rest-alone n a (subst (λ (us : List Symbol). Declares (nest (expression_rest assigned anywhere a)) behind_rest n us) (nothing-before ws zs e) d)
  where
    nothing-before : (ws zs : List Symbol) → [] ≡ ws ++ zs → ws ≡ []
    nothing-before [] zs e = refl
    nothing-before (w ∷ ws) zs e = absurd cc

-- ---- where an initialiser ends

pub end-back : (n : ℕ) (b : Before) (ts : List Symbol) → next_at place.Assigned leave.Anywhere b ts ≡ next.End → RestCrosses n (after_of b) ts → EndCrosses n ts
end-back n b ts here crosses = (crosses.0, crosses.1, crosses.2, go crosses.0 crosses.1 (subst (λ (us : List Symbol). next_at place.Assigned leave.Anywhere b us ≡ next.End) crosses.2 here) crosses.3)
  where
    go : (ws zs : List Symbol) → next_at place.Assigned leave.Anywhere b (ws ++ zs) ≡ next.End → Declares (nest (expression_rest assigned anywhere (after_of b))) behind_rest n ws → Declares (nest (value_end assigned)) behind_end n ws
    go [] zs here d = absurd (rest-alone n (after_of b) d)
    go (t ∷ ws) zs here d =
        let is = chosen-phrase b next.End (closed (t ∷ ws)) d.0 here d.1 in
        (is.1.0, (is.0, is.1.1), omega (arith, d.2, ap (λ (x : Rest assigned). length x.1) is.1.2))

pub end-on : (n : ℕ) (b : Before) (ts : List Symbol) → next_at place.Assigned leave.Anywhere b ts ≡ next.End → EndCrosses n ts → RestCrosses n (after_of b) ts
end-on n b ts here crosses = (crosses.0, crosses.1, crosses.2, go crosses.0 crosses.1 (subst (λ (us : List Symbol). next_at place.Assigned leave.Anywhere b us ≡ next.End) crosses.2 here) crosses.3)
  where
    go : (ws zs : List Symbol) → next_at place.Assigned leave.Anywhere b (ws ++ zs) ≡ next.End → Declares (nest (value_end assigned)) behind_end n ws → Declares (nest (expression_rest assigned anywhere (after_of b))) behind_rest n ws
    go [] zs here d = absurd (end-alone n d)
    go (t ∷ ws) zs here d =
        let sound : IsSound (turn no_symbols (nest (value_end assigned))) = sound-plain fair (turn no_symbols (nest (value_end assigned))) refl refl in
        (([], d.0), phrase-chosen b next.End (closed (t ∷ ws)) ([], d.0) here sound (d.1.0, (d.0, d.1.1, refl)), d.2)

-- where it does not go on, and does not end
pub nothing-on : (n : ℕ) (b : Before) (ts : List Symbol) → next_at place.Assigned leave.Anywhere b ts ≡ next.Nothing → RestCrosses n (after_of b) ts → ⊥
nothing-on n b ts here crosses = go crosses.0 crosses.1 (subst (λ (us : List Symbol). next_at place.Assigned leave.Anywhere b us ≡ next.Nothing) crosses.2 here) crosses.3
  where
    no-part : (us : List Symbol) → IsPhrase (nest (expression_part assigned (one_of []))) us tt → ⊥
    no-part us (zero, is) = is
    no-part us (suc h, is) = let e = is.1.1 in absurd cc

    go : (ws zs : List Symbol) → next_at place.Assigned leave.Anywhere b (ws ++ zs) ≡ next.Nothing → Declares (nest (expression_rest assigned anywhere (after_of b))) behind_rest n ws → ⊥
    go [] zs here d = rest-alone n (after_of b) d
    go (t ∷ ws) zs here d =
        let cut = cut-step (one_of []) between (closed (t ∷ ws)) d.0 (chosen-phrase b next.Nothing (closed (t ∷ ws)) d.0 here d.1) in
        no-part cut.front cut.part

-- ---- where an initialiser begins

-- an expression is the rest of one behind nothing that tells
expression-rest : (h : ℕ) (ts : List Symbol) (x : Rest assigned) → Is (WholeAt h) (expression assigned) ts x → WholeAt (suc h) (expression_rest assigned anywhere between) ts x
expression-rest h ts x (inl is) = inl is
expression-rest h ts x (inr (inl is)) = inr (inl is)
expression-rest h ts x (inr (inr is)) = inr (inr (inl is))

initialiser-rest : (n : ℕ) (ws : List Symbol) → Declares (nest initialiser) behind_value n ws → Declares (nest (expression_rest assigned anywhere between)) behind_rest n ws
unfolding initialiser_form
initialiser-rest n ws (x, (zero, is), lt) = absurd is
initialiser-rest n ws (x, (suc h, inl is), lt) = absurd (omega (arith, lt, ap behind_count is.2))
initialiser-rest n ws (x, (suc h, inr is), lt) = (is.0, (suc h, expression-rest h (closed ws) is.0 is.1), omega (arith, lt, ap behind_count is.2))

pub initialiser-back : (n : ℕ) (ts : List Symbol) → InitialiserCrosses n ts → RestCrosses n between ts
initialiser-back n ts crosses = (crosses.0, crosses.1, crosses.2, initialiser-rest n crosses.0 crosses.3)

rest-initialiser : (n : ℕ) (t : Symbol) (ws : List Symbol) → has value_ends t.sort ≡ false → Declares (nest (expression_rest assigned anywhere between)) behind_rest n (t ∷ ws) → Declares (nest initialiser) behind_value n (t ∷ ws)
unfolding initialiser_form
rest-initialiser n t ws e (x, (zero, is), lt) = absurd is
rest-initialiser n t ws e (x, (suc h, inl is), lt) = (initialised x, (suc h, inr (x, inl is, refl)), lt)
rest-initialiser n t ws e (x, (suc h, inr (inl is)), lt) = (initialised x, (suc h, inr (x, inr (inl is), refl)), lt)
rest-initialiser n t ws e (x, (suc h, inr (inr (inl is))), lt) = (initialised x, (suc h, inr (x, inr (inr is), refl)), lt)
rest-initialiser n t ws e (x, (suc h, inr (inr (inr is))), lt) =
    absurd (no-both (sym (heads-at h (value_end assigned) t (ws ++ blank (operator token.semicolon) ∷ []) is.0 is.1) ∙ e))

pub initialiser-on : (n : ℕ) (ts : List Symbol) → starts value_ends ts ≡ false → RestCrosses n between ts → InitialiserCrosses n ts
initialiser-on n ts e crosses = (crosses.0, crosses.1, crosses.2, go crosses.0 crosses.1 (subst (λ (us : List Symbol). starts value_ends us ≡ false) crosses.2 e) crosses.3)
  where
    go : (ws zs : List Symbol) → starts value_ends (ws ++ zs) ≡ false → Declares (nest (expression_rest assigned anywhere between)) behind_rest n ws → Declares (nest initialiser) behind_value n ws
    go [] zs e d = absurd (rest-alone n between d)
    go (t ∷ ws) zs e d = rest-initialiser n t ws e d

ends-apart : disjoint value_ends (first_of initialiser) ≡ true
unfolding numbers
ends-apart = refl

pub initialiser-none : (n : ℕ) (ts : List Symbol) → starts value_ends ts ≡ true → InitialiserCrosses n ts → ⊥
initialiser-none n ts e crosses = go crosses.0 crosses.1 (subst (λ (us : List Symbol). starts value_ends us ≡ true) crosses.2 e) crosses.3
  where
    go : (ws zs : List Symbol) → starts value_ends (ws ++ zs) ≡ true → Declares (nest initialiser) behind_value n ws → ⊥
    go [] zs e d = initialiser-some n d
    go (t ∷ ws) zs e d =
        no-both (sym (heads-at d.1.0 initialiser t (ws ++ blank (operator token.semicolon) ∷ []) d.0 d.1.1) ∙ disjoint-has value_ends (first_of initialiser) t.sort ends-apart e)

-- ---- behind the name and the brackets of a field

value-initialiser : (n : ℕ) (t : Symbol) (ws : List Symbol) → has (73 ∷ []) t.sort ≡ true → Declares value_or_end behind_value n (t ∷ ws) → Declares (nest initialiser) behind_value n ws
unfolding value_or_end
value-initialiser n t ws e (x, (h, inl is), lt) =
    let q = is.1 in
    let whole : t ∷ closed ws ≡ is.0.0 ∷ q.1 = q.2 ∙ ap (λ (us : List Symbol). us ++ q.1) q.3.0 in
    (is.0.1, (h, subst (λ (us : List Symbol). WholeAt h initialiser us is.0.1) (sym (same-head t is.0.0 (closed ws) q.1 whole).1) q.4), omega (arith, lt, ap behind_count is.2))
value-initialiser n t ws e (x, (h, inr is), lt) =
    absurd (no-both (sym (heads-at h (value_end assigned) t (ws ++ blank (operator token.semicolon) ∷ []) is.0 is.1) ∙ disjoint-has (73 ∷ []) value_ends t.sort refl e))

pub value-back : (n : ℕ) (t : Symbol) (ts : List Symbol) → has (73 ∷ []) t.sort ≡ true → FieldCrosses n (t ∷ ts) → InitialiserCrosses n ts
value-back n t ts e crosses = go crosses.0 crosses.1 crosses.2 crosses.3
  where
    go : (ws zs : List Symbol) → t ∷ ts ≡ ws ++ zs → Declares value_or_end behind_value n ws → InitialiserCrosses n ts
    go [] zs same d = absurd (value-alone n d)
    go (u ∷ ws) zs same d =
        let h = same-head t u ts (ws ++ zs) same in
        (ws, zs, h.1, value-initialiser n u ws (subst (λ (s : Symbol). has (73 ∷ []) s.sort ≡ true) h.0 e) d)

pub value-on : (n : ℕ) (t : Symbol) (ts : List Symbol) → has (73 ∷ []) t.sort ≡ true → InitialiserCrosses n ts → FieldCrosses n (t ∷ ts)
unfolding value_or_end
value-on n t ts e crosses =
    longer (Declares (nest initialiser) behind_value n) (Declares value_or_end behind_value n) (t ∷ []) ts
    (λ vs d. (d.0, (d.1.0, inl ((t, d.0), (t ∷ [], closed vs, refl, (refl, e), d.1.1), refl)), d.2)) crosses

value-end : (n : ℕ) (t : Symbol) (ws : List Symbol) → has (73 ∷ []) t.sort ≡ false → Declares value_or_end behind_value n (t ∷ ws) → Declares (nest (value_end assigned)) behind_end n (t ∷ ws)
unfolding value_or_end
value-end n t ws e (x, (h, inl is), lt) =
    let q = is.1 in
    let whole : t ∷ closed ws ≡ is.0.0 ∷ q.1 = q.2 ∙ ap (λ (us : List Symbol). us ++ q.1) q.3.0 in
    absurd (no-both (sym q.3.1 ∙ (ap (λ (s : Symbol). has (73 ∷ []) s.sort) (sym (same-head t is.0.0 (closed ws) q.1 whole).0) ∙ e)))
value-end n t ws e (x, (h, inr is), lt) = (is.0, (h, is.1), omega (arith, lt, ap behind_count is.2))

pub value-end-back : (n : ℕ) (ts : List Symbol) → starts (73 ∷ []) ts ≡ false → FieldCrosses n ts → EndCrosses n ts
value-end-back n ts e crosses = (crosses.0, crosses.1, crosses.2, go crosses.0 crosses.1 (subst (λ (us : List Symbol). starts (73 ∷ []) us ≡ false) crosses.2 e) crosses.3)
  where
    go : (ws zs : List Symbol) → starts (73 ∷ []) (ws ++ zs) ≡ false → Declares value_or_end behind_value n ws → Declares (nest (value_end assigned)) behind_end n ws
    go [] zs e d = absurd (value-alone n d)
    go (t ∷ ws) zs e d = value-end n t ws e d

pub value-end-on : (n : ℕ) (ts : List Symbol) → EndCrosses n ts → FieldCrosses n ts
unfolding value_or_end
value-end-on n ts crosses = (crosses.0, crosses.1, crosses.2, ((None, crosses.3.0), (crosses.3.1.0, inr (crosses.3.0, crosses.3.1.1, refl)), crosses.3.2))

-- ---- the next field

-- behind a `,` and a name stand brackets and what may stand behind those
record NextField (n : ℕ) (ws : List Symbol) : Type 0 where
  comma : Symbol
  name : Symbol
  later : List Symbol
  brackets : List Symbol
  back : List Symbol
  dims : List Around
  value : Option ValueText × List Declarator
  parts : ws ≡ comma ∷ name ∷ later
  is_comma : has (68 ∷ []) comma.sort ≡ true
  is_name : has names name.sort ≡ true
  split : closed later ≡ brackets ++ back
  dims_are : IsPhrase (many dim) brackets dims
  rest : IsPhrase value_or_end back value
  count : n < suc (length value.1)

two-first : (c m : Symbol) (ws tail : List Symbol) → closed ws ≡ c ∷ m ∷ tail → has names m.sort ≡ true → (later : List Symbol) × (ws ≡ c ∷ m ∷ later) × (closed later ≡ tail)
two-first c m [] tail e h = absurd (nothing-is (same-head (blank (operator token.semicolon)) c [] (m ∷ tail) e).1)
  where
    nothing-is : [] ≡ m ∷ tail → ⊥
    nothing-is e = cc
two-first c m (u ∷ []) tail e h =
    let a = same-head u c (closed []) (m ∷ tail) e in
    let b = same-head (blank (operator token.semicolon)) m [] tail a.1 in
    absurd (no-both (sym h ∙ ap (λ (s : Symbol). has names s.sort) (sym b.0)))
two-first c m (u ∷ v ∷ later) tail e h =
    let a = same-head u c (closed (v ∷ later)) (m ∷ tail) e in
    let b = same-head v m (closed later) tail a.1 in
    (later, ap (λ (s : Symbol). s ∷ v ∷ later) a.0 ∙ ap (λ (s : Symbol). c ∷ s ∷ later) b.0, b.1)

comma-cut : (n : ℕ) (ws : List Symbol) → Declares (nest (value_end assigned)) behind_end n ws → NextField n ws
unfolding assigned_end
comma-cut n ws (ds, (zero, is), lt) = absurd is
comma-cut n ws (ds, (suc h, inl is), lt) = absurd (omega (arith, lt, ap many_of is.2))
comma-cut n ws (ds, (suc h, inr is), lt) =
    let q = is.1 in
    let f = q.4 in
    let r = f.1 in
    let v = r.4 in
    let whole : closed ws ≡ is.0.0 ∷ r.3.0 ∷ r.1 =
    q.2 ∙ (ap (λ (us : List Symbol). us ++ q.1) q.3.0 ∙ ap (λ (us : List Symbol). is.0.0 ∷ us) (r.2 ∙ ap (λ (us : List Symbol). us ++ r.1) r.3.1.0)) in
    let l = two-first is.0.0 r.3.0 ws r.1 whole r.3.1.1 in
    record {
      comma = is.0.0;
      name = r.3.0;
      later = l.0;
      brackets = v.0;
      back = v.1;
      dims = f.0.1.0;
      value = f.0.1.1;
      parts = l.1;
      is_comma = q.3.1;
      is_name = r.3.1.1;
      split = l.2 ∙ v.2;
      dims_are = (h, v.3);
      rest = (h, v.4);
      count = omega (arith, lt, ap many_of is.2, ap many_of f.2);
    }

-- where fields begin behind the end of one, a `,` and a name stand there
pub comma-there : (n : ℕ) (ts : List Symbol) → EndCrosses n ts → (c : Symbol) × (m : Symbol) × (rest : List Symbol) × (ts ≡ c ∷ m ∷ rest) × (has (68 ∷ []) c.sort ≡ true) × (has names m.sort ≡ true)
comma-there n ts crosses =
    let f = comma-cut n crosses.0 crosses.3 in
    (f.comma, f.name, f.later ++ crosses.1, crosses.2 ∙ ap (λ (us : List Symbol). us ++ crosses.1) f.parts, f.is_comma, f.is_name)

value-some : (ts : List Symbol) (x : Option ValueText × List Declarator) → IsPhrase value_or_end ts x → ts ≡ [] → ⊥
unfolding value_or_end
value-some ts x is e = let full : false ≡ true = Is-nil (WholeAt is.0) (full-at is.0) value_or_end ts x e is.1 in absurd cc

brackets-apart : disjoint (first value_or_end) (more (many dim)) ≡ true
unfolding value_or_end dim annotations annotation numbers
brackets-apart = refl

pub dims-sound : IsSound (many dim)
unfolding dim annotations annotation annotation_body name_chain name dot_name annotation_arguments pairs_or_value first_pair numbers
dims-sound = sound-plain fair (many dim) refl refl

value-found : (n room : ℕ) (bs qs zs : List Symbol) (ds : List Around) → 3 * length (bs ++ (qs ++ zs)) ≤ room → IsPhrase (many dim) bs ds → Declares value_or_end behind_value n qs
    → (x : List Around) × (after : List Symbol) × (reads room (many dim) (bs ++ (qs ++ zs)) ≡ done x after) × FieldCrosses n after
value-found n room bs [] zs ds fits is d = absurd (value-alone n d)
value-found n room bs (q ∷ qs) zs ds fits is d =
    let head = Is-head (WholeAt d.1.0) (full-at d.1.0) (heads-at d.1.0) value_or_end q (qs ++ blank (operator token.semicolon) ∷ []) d.0 (closed (q ∷ qs)) refl d.1.1 in
    let stops = disjoint-has (first value_or_end) (more (many dim)) q.sort brackets-apart head in
    (ds, (q ∷ qs) ++ zs, whole-reads (many dim) dims-sound room bs ((q ∷ qs) ++ zs) ds fits stops is, (q ∷ qs, zs, refl, d))

-- behind the name of the next field its brackets are read, and one field less begins behind them
pub field-back : (n room : ℕ) (c m : Symbol) (rest : List Symbol) → 3 * length rest ≤ room → EndCrosses (suc n) (c ∷ m ∷ rest)
    → (x : List Around) × (after : List Symbol) × (reads room (many dim) rest ≡ done x after) × FieldCrosses n after
field-back n room c m rest fits crosses =
    let f = comma-cut (suc n) crosses.0 crosses.3 in
    let l = last-of (blank (operator token.semicolon)) f.later f.brackets f.back f.split (value-some f.back f.value f.rest) in
    let all = crosses.2 ∙ ap (λ (us : List Symbol). us ++ crosses.1) f.parts in
    let behind = (same-head m f.name rest (f.later ++ crosses.1) (same-head c f.comma (m ∷ rest) (f.name ∷ f.later ++ crosses.1) all).1).1 in
    let whole : rest ≡ f.brackets ++ (l.0 ++ crosses.1) = behind ∙ (ap (λ (us : List Symbol). us ++ crosses.1) l.2 ∙ append_assoc f.brackets l.0 crosses.1) in
    let inner : IsPhrase value_or_end (closed l.0) f.value = subst (λ (us : List Symbol). IsPhrase value_or_end us f.value) l.1 f.rest in
    subst (λ (us : List Symbol). (x : List Around) × (after : List Symbol) × (reads room (many dim) us ≡ done x after) × FieldCrosses n after) (sym whole)
    (value-found n room f.brackets l.0 crosses.1 f.dims (subst (λ (us : List Symbol). 3 * length us ≤ room) whole fits) f.dims_are (f.value, inner, omega (arith, f.count)))

pub field-on : (n room : ℕ) (c m : Symbol) (rest after : List Symbol) (ds : List Around) → has (68 ∷ []) c.sort ≡ true → has names m.sort ≡ true → reads room (many dim) rest ≡ done ds after
    → FieldCrosses n after → EndCrosses (suc n) (c ∷ m ∷ rest)
unfolding assigned_end
field-on n room c m rest after ds is_comma is_name read crosses =
    let q = read-phrase (many dim) room rest ds after read in
    let bs = q.0 in
    let ws = crosses.0 in
    let d = crosses.3 in
    let h = above q.2.0 d.1.0 in
    let dims = Is-up (WholeAt q.2.0) (WholeAt h) (whole-first q.2.0 d.1.0) (many dim) bs ds q.2.1 in
    let value = Is-up (WholeAt d.1.0) (WholeAt h) (whole-second q.2.0 d.1.0) value_or_end (closed ws) d.0 d.1.1 in
    let all : List Declarator = declarator_first (placed_name m, (ds, d.0)) in
    let same : bs ++ closed ws ≡ closed (bs ++ ws) = sym (append_assoc bs ws (blank (operator token.semicolon) ∷ [])) in
    let is : WholeAt (suc h) (value_end assigned) (c ∷ m ∷ bs ++ closed ws) all =
    inr ((c, all), (c ∷ [], m ∷ bs ++ closed ws, refl, (refl, is_comma), ((placed_name m, (ds, d.0)), (m ∷ [], bs ++ closed ws, refl, (m, (refl, is_name), refl), (bs, closed ws, refl, dims, value)), refl)), refl) in (
      c ∷ m ∷ bs ++ ws,
      crosses.1,
      ap (λ (us : List Symbol). c ∷ m ∷ us) (q.1 ∙ ap (λ (us : List Symbol). bs ++ us) crosses.2 ∙ sym (append_assoc bs ws crosses.1)),
      (all, (suc h, subst (λ (us : List Symbol). WholeAt (suc h) (value_end assigned) (c ∷ m ∷ us) all) same is), omega (arith, d.2)),
    )

-- the next field is one already at its name
pub field-first : (c m : Symbol) (rest : List Symbol) → has (68 ∷ []) c.sort ≡ true → has names m.sort ≡ true → EndCrosses 0 (c ∷ m ∷ rest)
unfolding assigned_end value_or_end
field-first c m rest is_comma is_name =
    let s = blank (operator token.semicolon) in
    let end : WholeAt 1 (value_end assigned) (s ∷ []) [] = inl (s, (refl, refl), refl) in
    let value : Option ValueText × List Declarator = (None, []) in
    let all : List Declarator = declarator_first (placed_name m, ([], value)) in
    let is : WholeAt 2 (value_end assigned) (c ∷ m ∷ s ∷ []) all =
    inr ((c, all), (c ∷ [], m ∷ s ∷ [], refl, (refl, is_comma), ((placed_name m, ([], value)), (m ∷ [], s ∷ [], refl, (m, (refl, is_name), refl), ([], s ∷ [], refl, refl, inr ([], end, refl))), refl)), refl) in
    (c ∷ m ∷ [], rest, refl, (all, (2, is), omega arith))
