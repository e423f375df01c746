-- What each step of a walk over the fields of a declaration says.
use Rattle.std.proofs.Common.{◌≡◌, ℕ, suc, ◌-◌, ◌*◌, ◌<◌, ◌≤◌, true, false, List, [], ◌∷◌, ◌++◌, ◌⊎◌, length, take, inl, inr, refl, sym, ap, subst, ◌∙◌, length-append, arith}
use Rattle.std.proofs.Math.Seq.{take-append_seam}
use Rattle.apt_base.specs.declared.around.Around.{Around}
use Rattle.decl_turns.specs.declared.states.Leave.TheVariants as leave
use Rattle.decl_turns.specs.declared.states.Place.TheVariants as place
use Rattle.decl_turns.specs.declared.states.Before.{Before}
use Rattle.decl_turns.specs.declared.states.Piece.{Piece}
use Rattle.decl_turns.specs.declared.states.Turn.{Turn}
use Rattle.decl_turns.specs.declared.states.Next.TheVariants as next
use Rattle.decl_grammar.specs.declared.symbol.Symbol.{Symbol}
use Rattle.decl_grammar.specs.declared.fault.ReadFault.{ReadFault}
use Rattle.decl_grammar.specs.declared.fault.ReadFault.TheVariants as faults
use Rattle.decl_grammar.specs.Reading.{has, starts, Outcome, done, fault, deep, Fails}
use Rattle.decl_grammar.specs.Form.{After, Part, many, nest, names, turned, assigned, anywhere, between, colons, type_reference, expression_part}
use Rattle.decl_grammar.specs.Types.{dim, silently}
use Rattle.decl_grammar.specs.Rule.{reads, read_nest}
use Rattle.decl_grammar.specs.File.{IsPhrase}
use Rattle.decl_turns.specs.States.{after_of, part_at}
use Rattle.decl_turns.specs.Turns.{next_at}
use Rattle.decl_limits.specs.Separators.{separators}
use Rattle.decl_limits.proofs.Separated.{both-there}
use Rattle.decl_limits.proofs.FewFields.{rest-fewer}
use Rattle.decl_crossings.specs.Crossings.{closed, EndCrosses, FieldCrosses, RestCrosses}
use Rattle.decl_crossings.specs.Steps.{Alike, within_type, value_ends}
use Rattle.decl_crossings.proofs.PhraseReads.{read-phrase}
use Rattle.decl_crossings.proofs.Rests.{one-alone, some-part, part-back, part-on}
use Rattle.decl_crossings.proofs.TwoReadings.{same-done, two-back, operator-on, within-or-behind, within-on, type-on}
use Rattle.decl_crossings.proofs.FieldRows.{none-behind, end-back, end-on, initialiser-back, initialiser-on, initialiser-none, value-back, value-on, value-end-back, value-end-on, comma-there, field-back, field-on}

-- ---- what is read

-- what fails is not read
pub failed : {A : Type 0} (e : ReadFault) (o : Outcome A) (x : A) (rest : List Symbol) → Fails e o → (e ≡ faults.Memory → ⊥) → o ≡ done x rest → ⊥
failed faults.Memory o x rest f other e = other refl
failed (faults.Bad n) o x rest f other e = let d = f.1 in absurd cc
failed (faults.Deep n) o x rest f other e = let d = f.1 in absurd cc

pub part-shorter : (room : ℕ) (p : Part) (ts rest : List Symbol) → read_nest room (expression_part assigned p) ts ≡ done tt rest → length rest < length ts
part-shorter room p ts rest e =
    let q = read-phrase (nest (expression_part assigned p)) room ts tt rest e in
    go q.0 q.1 q.2
  where
    go : (us : List Symbol) → ts ≡ us ++ rest → IsPhrase (nest (expression_part assigned p)) us tt → length rest < length ts
    go [] d is = absurd (some-part p [] is refl)
    go (u ∷ us) d is = omega (arith, ap length d, length-append (u ∷ us) rest)

pub silently-done : {A : Type 0} (o : Outcome A) (rest : List Symbol) → turned silently o ≡ done tt rest → (x : A) × (o ≡ done x rest)
silently-done (done x at) rest e = (x, cc)
silently-done (fault at) rest e = absurd cc
silently-done (deep at) rest e = absurd cc

pub dims-not-longer : (room : ℕ) (ts rest : List Symbol) → turned silently (reads room (many dim) ts) ≡ done tt rest → length rest ≤ length ts
dims-not-longer room ts rest e =
    let d = silently-done (reads room (many dim) ts) rest e in
    let q = read-phrase (many dim) room ts d.0 rest d.1 in
    omega (arith, ap length q.1, length-append q.0 rest)

-- ---- a part

pub part-alike : (n room : ℕ) (b c : Before) (p : Piece) (v : Turn) (ts after : List Symbol) → next_at place.Assigned leave.Anywhere b ts ≡ next.Part p v c → 3 * length ts ≤ room
    → read_nest room (expression_part assigned (part_at p ts)) ts ≡ done tt after → Alike (RestCrosses n (after_of b) ts) (RestCrosses n (after_of c) after)
part-alike n room b c p v ts after here fits read = (
  λ crosses.
      let q = part-back n room b c p v ts here fits crosses in
      subst (λ (us : List Symbol). RestCrosses n (after_of c) us) (same-done q.0 after (read_nest room (expression_part assigned (part_at p ts)) ts) q.1 read) q.2,
  λ crosses. part-on n room b c p v ts after here read crosses,
)

pub part-over : (n room : ℕ) (b c : Before) (p : Piece) (v : Turn) (ts : List Symbol) → next_at place.Assigned leave.Anywhere b ts ≡ next.Part p v c → 3 * length ts ≤ room
    → ((rest : List Symbol) → read_nest room (expression_part assigned (part_at p ts)) ts ≡ done tt rest → ⊥) → RestCrosses n (after_of b) ts → ⊥
part-over n room b c p v ts here fits never crosses = let q = part-back n room b c p v ts here fits crosses in never q.0 q.1

-- ---- a `<` behind a name

-- no type is read there
pub operator-alike : (n room : ℕ) (b : Before) (t : Symbol) (ts : List Symbol) → next_at place.Assigned leave.Anywhere b (t ∷ ts) ≡ next.Two → 3 * length (t ∷ ts) ≤ room
    → ((rest : List Symbol) → read_nest room (expression_part assigned type_reference) (t ∷ ts) ≡ done tt rest → ⊥) → Alike (RestCrosses n (after_of b) (t ∷ ts)) (RestCrosses n between ts)
operator-alike n room b t ts here fits never = (
  λ crosses. elim (two-back n room b t ts here fits crosses) [
    | inl p ↦ absurd (never p.0 p.1)
    | inr p ↦ p
  ],
  λ crosses. operator-on n b t ts here crosses,
)

-- nothing stands behind the type
pub ended-alike : (n room : ℕ) (b : Before) (t : Symbol) (ts : List Symbol) → next_at place.Assigned leave.Anywhere b (t ∷ ts) ≡ next.Two → 3 * length (t ∷ ts) ≤ room
    → read_nest room (expression_part assigned type_reference) (t ∷ ts) ≡ done tt [] → Alike (RestCrosses n (after_of b) (t ∷ ts)) (RestCrosses n between ts)
ended-alike n room b t ts here fits read = (
  λ crosses. elim (two-back n room b t ts here fits crosses) [
    | inl p ↦ absurd (none-behind n colons (subst (λ (us : List Symbol). RestCrosses n colons us) (same-done p.0 [] (read_nest room (expression_part assigned type_reference) (t ∷ ts)) p.1 read) p.2))
    | inr p ↦ p
  ],
  λ crosses. operator-on n b t ts here crosses,
)

-- the symbols within a type are those before what stands behind it
pub within-split : (room : ℕ) (t : Symbol) (ts rest : List Symbol) → read_nest room (expression_part assigned type_reference) (t ∷ ts) ≡ done tt rest → ts ≡ within_type ts rest ++ rest
within-split room t ts rest e =
    let q = read-phrase (nest (expression_part assigned type_reference)) room (t ∷ ts) tt rest e in
    go q.0 q.1 q.2
  where
    taken : (us : List Symbol) → ts ≡ us ++ rest → ts ≡ within_type ts rest ++ rest
    taken us d =
        let count : length ts - length rest ≡ length us = omega (arith, ap length d, length-append us rest) in
        let front : within_type ts rest ≡ us = ap (λ (n : ℕ). take n ts) count ∙ (ap (λ (xs : List Symbol). take (length us) xs) d ∙ take-append_seam us rest) in
        d ∙ ap (λ (xs : List Symbol). xs ++ rest) (sym front)

    go : (us : List Symbol) → t ∷ ts ≡ us ++ rest → IsPhrase (nest (expression_part assigned type_reference)) us tt → ts ≡ within_type ts rest ++ rest
    go [] d is = absurd (some-part type_reference [] is refl)
    go (u ∷ us) d is = let same : ts ≡ us ++ rest = cc in taken us same

-- a type stands there
pub type-alike : (n room : ℕ) (b : Before) (t : Symbol) (ts rest : List Symbol) → next_at place.Assigned leave.Anywhere b (t ∷ ts) ≡ next.Two → 3 * length (t ∷ ts) ≤ room
    → read_nest room (expression_part assigned type_reference) (t ∷ ts) ≡ done tt rest → Alike (RestCrosses n (after_of b) (t ∷ ts)) (RestCrosses n between (within_type ts rest) ⊎ RestCrosses n colons rest)
type-alike n room b t ts rest here fits read =
    let e = within-split room t ts rest read in
    let us = within_type ts rest in
    let here_too = subst (λ (zs : List Symbol). next_at place.Assigned leave.Anywhere b (t ∷ zs) ≡ next.Two) e here in
    let fits_too = subst (λ (zs : List Symbol). 3 * length (t ∷ zs) ≤ room) e fits in
    let read_too = subst (λ (zs : List Symbol). read_nest room (expression_part assigned type_reference) (t ∷ zs) ≡ done tt rest) e read in (
      λ crosses. within-or-behind n room b t us rest here_too fits_too read_too (subst (λ (zs : List Symbol). RestCrosses n (after_of b) (t ∷ zs)) e crosses),
      λ found. subst (λ (zs : List Symbol). RestCrosses n (after_of b) (t ∷ zs)) (sym e) (elim found [
        | inl p ↦ within-on n b t us rest here_too p
        | inr p ↦ type-on n room b t us rest here_too read_too p
      ]),
    )

-- of few separators no fields begin within it
pub rest-counted : (n : ℕ) (a : After) (ts : List Symbol) → RestCrosses n a ts → n < separators ts
rest-counted n a ts crosses =
    let d = crosses.3 in
    omega (arith, (rest-fewer d.1.0 anywhere a).there (closed crosses.0) d.0 d.1.1, d.2, both-there (closed crosses.0) crosses.0 (closed []) refl, one-alone, both-there ts crosses.0 crosses.1 crosses.2)

pub behind-alike : (p q r : Type 0) → Alike p (q ⊎ r) → (q → ⊥) → Alike p r
behind-alike p q r a never = (λ x. elim (a.0 x) [ inl y ↦ absurd (never y) | inr y ↦ y ], λ x. a.1 (inr x))

-- ---- the end of an initialiser

pub end-alike : (n : ℕ) (b : Before) (ts : List Symbol) → next_at place.Assigned leave.Anywhere b ts ≡ next.End → Alike (RestCrosses n (after_of b) ts) (EndCrosses n ts)
end-alike n b ts here = (end-back n b ts here, end-on n b ts here)

pub alike-over : (p q : Type 0) → Alike p q → (q → ⊥) → p → ⊥
alike-over p q a never x = never (a.0 x)

pub alike-join : (p q r : Type 0) → Alike p q → Alike q r → Alike p r
alike-join p q r a b = (λ x. b.0 (a.0 x), λ x. a.1 (b.1 x))

-- too few symbols, no comma, no name
pub end-short : (n : ℕ) (ts : List Symbol) → length ts ≤ 1 → EndCrosses n ts → ⊥
end-short n ts few crosses = let p = comma-there n ts crosses in omega (arith, ap length p.3, few)

pub end-apart : (n : ℕ) (c m : Symbol) (rest : List Symbol) → EndCrosses n (c ∷ m ∷ rest) → (has (68 ∷ []) c.sort ≡ true) × (has names m.sort ≡ true)
end-apart n c m rest crosses =
    let p = comma-there n (c ∷ m ∷ rest) crosses in
    let comma : p.0 ≡ c = cc in
    let name : p.1 ≡ m = cc in
    (subst (λ (s : Symbol). has (68 ∷ []) s.sort ≡ true) comma p.4, subst (λ (s : Symbol). has names s.sort ≡ true) name p.5)

-- the name of the next field, and its brackets
pub dims-alike : (n m room : ℕ) (c s : Symbol) (rest after : List Symbol) → n ≡ suc m → 3 * length rest ≤ room → has (68 ∷ []) c.sort ≡ true → has names s.sort ≡ true
    → turned silently (reads room (many dim) rest) ≡ done tt after → Alike (EndCrosses n (c ∷ s ∷ rest)) (FieldCrosses m after)
dims-alike n m room c s rest after e fits is_comma is_name read =
    let d = silently-done (reads room (many dim) rest) after read in (
      λ crosses.
          let q = field-back m room c s rest fits (subst (λ (k : ℕ). EndCrosses k (c ∷ s ∷ rest)) e crosses) in
          subst (λ (us : List Symbol). FieldCrosses m us) (same-rest (reads room (many dim) rest) q.0 d.0 q.1 after q.2 d.1) q.3,
      λ crosses. subst (λ (k : ℕ). EndCrosses k (c ∷ s ∷ rest)) (sym e) (field-on m room c s rest after d.0 is_comma is_name d.1 crosses),
    )
  where
    same-rest : (o : Outcome (List Around)) (x y : List Around) (us vs : List Symbol) → o ≡ done x us → o ≡ done y vs → us ≡ vs
    same-rest o x y us vs a b = cc

pub dims-over : (n m room : ℕ) (c s : Symbol) (rest : List Symbol) → n ≡ suc m → 3 * length rest ≤ room
    → ((after : List Symbol) → turned silently (reads room (many dim) rest) ≡ done tt after → ⊥) → EndCrosses n (c ∷ s ∷ rest) → ⊥
dims-over n m room c s rest e fits never crosses =
    let q = field-back m room c s rest fits (subst (λ (k : ℕ). EndCrosses k (c ∷ s ∷ rest)) e crosses) in
    never q.1 (ap (λ (o : Outcome (List Around)). turned silently o) q.2)

-- ---- behind the name and the brackets of a field

pub no-value-alike : (n : ℕ) (ts : List Symbol) → starts (73 ∷ []) ts ≡ false → Alike (FieldCrosses n ts) (EndCrosses n ts)
no-value-alike n ts e = (value-end-back n ts e, value-end-on n ts)

pub value-alike : (n : ℕ) (t : Symbol) (ts : List Symbol) → has (73 ∷ []) t.sort ≡ true → starts value_ends ts ≡ false → Alike (FieldCrosses n (t ∷ ts)) (RestCrosses n between ts)
value-alike n t ts e other = (λ crosses. initialiser-back n ts (value-back n t ts e crosses), λ crosses. value-on n t ts e (initialiser-on n ts other crosses))

pub value-over : (n : ℕ) (t : Symbol) (ts : List Symbol) → has (73 ∷ []) t.sort ≡ true → starts value_ends ts ≡ true → FieldCrosses n (t ∷ ts) → ⊥
value-over n t ts e ends crosses = initialiser-none n ts ends (value-back n t ts e crosses)
