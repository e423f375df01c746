-- The laws of the steps as the functions that take them see their symbols.
use Rattle.std.proofs.Common.{◌≡◌, ℕ, suc, ◌-◌, ◌*◌, ◌<◌, ◌≤◌, Bool, true, false, Option, Some, None, Result, Ok, Err, List, [], ◌∷◌, ◌⊎◌, length, take, drop, get_or, refl, sym, ap, subst, ◌∙◌, length-append, arith}
use Rattle.std.proofs.Math.Seq.{take-length}
use Rattle.std.proofs.lemmas.Bool.{eqb-true, eq-eqb}
use Rattle.std.specs.Borrow.{Bor}
use Rattle.decl_turns.specs.declared.states.Leave.TheVariants as leave
use Rattle.decl_turns.specs.declared.states.Place.TheVariants as place
use Rattle.decl_turns.specs.declared.states.Before.{Before}
use Rattle.decl_turns.specs.declared.states.Before.TheVariants as before
use Rattle.decl_turns.specs.declared.states.Next.TheVariants as next
use Rattle.decl_grammar.specs.declared.symbol.Symbol.{Symbol}
use Rattle.decl_grammar.specs.Reading.{has, starts, Outcome, done}
use Rattle.decl_grammar.specs.Form.{many, names, turned, assigned, between, colons, type_reference, expression_part}
use Rattle.decl_grammar.specs.Types.{dim, silently}
use Rattle.decl_grammar.specs.Rule.{reads, read_nest}
use Rattle.decl_turns.specs.States.{after_of}
use Rattle.decl_turns.specs.Turns.{next_at}
use Rattle.decl_crossings.specs.declared.spots.Spot.{Spot}
use Rattle.decl_crossings.specs.declared.spots.Spot.TheVariants as spot
use Rattle.decl_crossings.specs.declared.spots.Step.{Step}
use Rattle.decl_crossings.specs.declared.spots.Step.TheVariants as steps
use Rattle.decl_crossings.specs.declared.spots.Kind.{Kind}
use Rattle.decl_crossings.specs.declared.spots.Kind.TheVariants as kinds
use Rattle.decl_crossings.specs.declared.spots.Move.{Move}
use Rattle.decl_crossings.specs.Crossings.{EndCrosses, FieldCrosses, RestCrosses}
use Rattle.decl_crossings.specs.Steps.{Alike, Found, IfTold, CrossesAt, StepTo, StepsTo, TypeStep, within_type, value_ends}
use Rattle.decl_crossings.specs.Moves.{Moved, KindTo}
use Rattle.decl_crossings.proofs.FieldRows.{comma-there, field-first}
use Rattle.decl_crossings.proofs.StepLaws.{part-shorter, operator-alike, ended-alike, within-split, type-alike, behind-alike, alike-join, dims-alike, dims-over, value-alike, value-over}

-- ---- what was found

pub some-found : (read : Outcome (Unit {0})) (o : Option (Bor (List Symbol))) (x : Bor (List Symbol)) → o ≡ Some x → Found read o → read ≡ done tt x.now
some-found read o x e p = let q : Found read (Some x) = subst (λ (z : Option (Bor (List Symbol))). Found read z) e p in q

pub none-found : (read : Outcome (Unit {0})) (o : Option (Bor (List Symbol))) → o ≡ None → Found read o → (rest : List Symbol) → read ≡ done tt rest → ⊥
none-found read o e p = let q : Found read None = subst (λ (z : Option (Bor (List Symbol))). Found read z) e p in q

-- ---- slices behind the first symbols

abbrev pub behind_one : List Symbol → List Symbol
behind_one ts = take (length ts - 1) (drop 1 ts)

abbrev pub behind_two : List Symbol → List Symbol
behind_two ts = take (length ts - 2) (drop 2 ts)

pub one-cons : (ts : List Symbol) → 1 ≤ length ts → (t : Symbol) × (ts ≡ t ∷ behind_one ts)
one-cons [] le = absurd (omega (arith, le))
one-cons (t ∷ us) le =
    let count : length (t ∷ us) - 1 ≡ length us = omega arith in
    (t, ap (λ (xs : List Symbol). t ∷ xs) (sym (ap (λ (n : ℕ). take n us) count ∙ take-length us)))

pub two-cons : (ts : List Symbol) (c m : Symbol) → 2 ≤ length ts → c ≡ get_or ts 0 c → m ≡ get_or ts 1 m → ts ≡ c ∷ m ∷ behind_two ts
two-cons [] c m le is_c is_m = absurd (omega (arith, le))
two-cons (a ∷ []) c m le is_c is_m = absurd (omega (arith, le))
two-cons (a ∷ b ∷ us) c m le is_c is_m =
    let count : length (a ∷ b ∷ us) - 2 ≡ length us = omega arith in
    let behind : us ≡ behind_two (a ∷ b ∷ us) = sym (ap (λ (n : ℕ). take n us) count ∙ take-length us) in
    let first : c ≡ a = is_c in
    let second : m ≡ b = is_m in
    ap (λ (xs : List Symbol). a ∷ b ∷ xs) behind ∙ (ap (λ (s : Symbol). s ∷ b ∷ behind_two (a ∷ b ∷ us)) (sym first) ∙ ap (λ (s : Symbol). c ∷ s ∷ behind_two (a ∷ b ∷ us)) (sym second))

-- ---- the end of an initialiser

same-two : (a b c d : Symbol) (us vs : List Symbol) → a ∷ b ∷ us ≡ c ∷ d ∷ vs → (a ≡ c) × (b ≡ d)
same-two a b c d us vs e = (cc, cc)

no-both : true ≡ false → ⊥
no-both e = cc

-- what stands first where fields begin behind it
pub first-two : (n : ℕ) (ts : List Symbol) (c m : Symbol) → 2 ≤ length ts → c ≡ get_or ts 0 c → m ≡ get_or ts 1 m → EndCrosses n ts → (has (68 ∷ []) c.sort ≡ true) × (has names m.sort ≡ true)
first-two n ts c m le is_c is_m crosses =
    let p = comma-there n ts crosses in
    let same = same-two c m p.0 p.1 (behind_two ts) p.2 (sym (two-cons ts c m le is_c is_m) ∙ p.3) in
    (subst (λ (s : Symbol). has (68 ∷ []) s.sort ≡ true) (sym same.0) p.4, subst (λ (s : Symbol). has names s.sort ≡ true) (sym same.1) p.5)

pub no-comma : (n : ℕ) (ts : List Symbol) (c m : Symbol) → 2 ≤ length ts → c ≡ get_or ts 0 c → m ≡ get_or ts 1 m → (c.sort ≡ 68 → ⊥) → EndCrosses n ts → ⊥
no-comma n ts c m le is_c is_m other crosses = other (eqb-true c.sort 68 (first-two n ts c m le is_c is_m crosses).0)

pub no-name : (n : ℕ) (ts : List Symbol) (c m : Symbol) → 2 ≤ length ts → c ≡ get_or ts 0 c → m ≡ get_or ts 1 m → has names m.sort ≡ false → EndCrosses n ts → ⊥
no-name n ts c m le is_c is_m other crosses = no-both (sym (first-two n ts c m le is_c is_m crosses).1 ∙ other)

pub name-first : (n : ℕ) (ts : List Symbol) (c m : Symbol) → 2 ≤ length ts → c ≡ get_or ts 0 c → m ≡ get_or ts 1 m → c.sort ≡ 68 → has names m.sort ≡ true → n ≡ 0 → EndCrosses n ts
name-first n ts c m le is_c is_m comma name e =
    subst (λ (k : ℕ). EndCrosses k ts) (sym e) (subst (λ (us : List Symbol). EndCrosses 0 us) (sym (two-cons ts c m le is_c is_m)) (field-first c m (behind_two ts) (eq-eqb c.sort 68 comma) name))

fits-behind : (ts : List Symbol) (c m : Symbol) (room : ℕ) → ts ≡ c ∷ m ∷ behind_two ts → 3 * length ts ≤ room → 3 * length (behind_two ts) ≤ room
fits-behind ts c m room e fits = omega (arith, ap length e, fits)

pub name-on : (n room : ℕ) (ts : List Symbol) (c m : Symbol) (after : List Symbol) → 3 * length ts ≤ room → 2 ≤ length ts → c ≡ get_or ts 0 c → m ≡ get_or ts 1 m → c.sort ≡ 68 → has names m.sort ≡ true → (n ≡ 0 → ⊥)
    → turned silently (reads room (many dim) (behind_two ts)) ≡ done tt after → length after ≤ length (behind_two ts) → Alike (EndCrosses n ts) (FieldCrosses (n - 1) after) × (length after < length ts)
name-on n room ts c m after fits le is_c is_m comma name some read fewer =
    let e = two-cons ts c m le is_c is_m in
    let more : n ≡ suc (n - 1) = omega (arith, some) in (
      subst (λ (us : List Symbol). Alike (EndCrosses n us) (FieldCrosses (n - 1) after)) (sym e)
          (dims-alike n (n - 1) room c m (behind_two ts) after more (fits-behind ts c m room e fits) (eq-eqb c.sort 68 comma) name read),
      omega (arith, ap length e, fewer),
    )

pub name-over : (n room : ℕ) (ts : List Symbol) (c m : Symbol) → 3 * length ts ≤ room → 2 ≤ length ts → c ≡ get_or ts 0 c → m ≡ get_or ts 1 m → (n ≡ 0 → ⊥)
    → ((after : List Symbol) → turned silently (reads room (many dim) (behind_two ts)) ≡ done tt after → ⊥) → EndCrosses n ts → ⊥
name-over n room ts c m fits le is_c is_m some never crosses =
    let e = two-cons ts c m le is_c is_m in
    let more : n ≡ suc (n - 1) = omega (arith, some) in
    dims-over n (n - 1) room c m (behind_two ts) more (fits-behind ts c m room e fits) never (subst (λ (us : List Symbol). EndCrosses n us) e crosses)

-- ---- behind the name and the brackets of a field

starts-some : (k : ℕ) (ts : List Symbol) → starts (k ∷ []) ts ≡ true → 1 ≤ length ts
starts-some k [] e = absurd cc
starts-some k (t ∷ ts) e = omega arith

pub value-there : (n : ℕ) (ts : List Symbol) → starts (73 ∷ []) ts ≡ true → starts value_ends (behind_one ts) ≡ false → Alike (FieldCrosses n ts) (RestCrosses n between (behind_one ts)) × (length (behind_one ts) < length ts)
value-there n ts e other =
    let p = one-cons ts (starts-some 73 ts e) in
    let here : has (73 ∷ []) p.0.sort ≡ true = subst (λ (us : List Symbol). starts (73 ∷ []) us ≡ true) p.1 e in
    (subst (λ (us : List Symbol). Alike (FieldCrosses n us) (RestCrosses n between (behind_one ts))) (sym p.1) (value-alike n p.0 (behind_one ts) here other), omega (arith, ap length p.1))

pub no-value : (n : ℕ) (ts : List Symbol) → starts (73 ∷ []) ts ≡ true → starts value_ends (behind_one ts) ≡ true → FieldCrosses n ts → ⊥
no-value n ts e ends crosses =
    let p = one-cons ts (starts-some 73 ts e) in
    let here : has (73 ∷ []) p.0.sort ≡ true = subst (λ (us : List Symbol). starts (73 ∷ []) us ≡ true) p.1 e in
    value-over n p.0 (behind_one ts) here ends (subst (λ (us : List Symbol). FieldCrosses n us) p.1 crosses)

-- what a step says of something that is alike
pub steps-alike : {E : Type 0} (n : ℕ) (p q : Type 0) (ts : List Symbol) (r : Result Step E) → Alike p q → StepsTo n q ts r → StepsTo n p ts r
steps-alike n p q ts (Ok steps.Full) a s = a.1 s
steps-alike n p q ts (Ok steps.Over) a s = λ x. s (a.0 x)
steps-alike n p q ts (Ok (steps.On m at us)) a s = (alike-join p q (CrossesAt at m us.now) a s.0, s.1)
steps-alike n p q ts (Ok (steps.Type of us)) a s = (alike-join p q (RestCrosses n between of.now ⊎ RestCrosses n colons us.now) a s.0, s.1)
steps-alike n p q ts (Err e) a s = tt

-- ---- a `<` behind a name

no-length : (ts : List Symbol) → length ts ≡ 0 → ts ≡ []
no-length [] e = refl
no-length (t ∷ ts) e = absurd (omega (arith, e))

pub less-alone : (n room : ℕ) (b : Before) (ts rest : List Symbol) → 1 ≤ length ts → next_at place.Assigned leave.Anywhere b ts ≡ next.Two → 3 * length ts ≤ room
    → read_nest room (expression_part assigned type_reference) ts ≡ done tt rest → length rest ≡ 0 → Alike (RestCrosses n (after_of b) ts) (RestCrosses n between (behind_one ts)) × (length (behind_one ts) < length ts)
less-alone n room b ts rest le here fits read none =
    let p = one-cons ts le in (
      subst (λ (us : List Symbol). Alike (RestCrosses n (after_of b) us) (RestCrosses n between (behind_one ts))) (sym p.1)
          (ended-alike n room b p.0 (behind_one ts) (subst (λ (us : List Symbol). next_at place.Assigned leave.Anywhere b us ≡ next.Two) p.1 here) (subst (λ (us : List Symbol). 3 * length us ≤ room) p.1 fits)
          (subst (λ (us : List Symbol). read_nest room (expression_part assigned type_reference) us ≡ done tt []) p.1 (read ∙ ap (λ (us : List Symbol). done tt us) (no-length rest none)))),
      omega (arith, ap length p.1),
    )

pub less-there : (n room : ℕ) (b : Before) (ts : List Symbol) → 1 ≤ length ts → next_at place.Assigned leave.Anywhere b ts ≡ next.Two → 3 * length ts ≤ room
    → ((rest : List Symbol) → read_nest room (expression_part assigned type_reference) ts ≡ done tt rest → ⊥) → Alike (RestCrosses n (after_of b) ts) (RestCrosses n between (behind_one ts)) × (length (behind_one ts) < length ts)
less-there n room b ts le here fits never =
    let p = one-cons ts le in (
      subst (λ (us : List Symbol). Alike (RestCrosses n (after_of b) us) (RestCrosses n between (behind_one ts))) (sym p.1)
          (operator-alike n room b p.0 (behind_one ts) (subst (λ (us : List Symbol). next_at place.Assigned leave.Anywhere b us ≡ next.Two) p.1 here) (subst (λ (us : List Symbol). 3 * length us ≤ room) p.1 fits)
          (subst (λ (us : List Symbol). (rest : List Symbol) → read_nest room (expression_part assigned type_reference) us ≡ done tt rest → ⊥) p.1 never)),
      omega (arith, ap length p.1),
    )

pub type-fewer : (room : ℕ) (ts rest : List Symbol) → 1 ≤ length ts → length rest < length ts → length rest ≤ length (behind_one ts)
type-fewer room ts rest le fewer = let p = one-cons ts le in omega (arith, ap length p.1, fewer)

-- a step over a type
pub type-steps : (n room : ℕ) (b : Before) (ts rest : List Symbol) (s : Step) → 1 ≤ length ts → next_at place.Assigned leave.Anywhere b ts ≡ next.Two → 3 * length ts ≤ room
    → read_nest room (expression_part assigned type_reference) ts ≡ done tt rest → TypeStep n (behind_one ts) rest s → StepTo n (RestCrosses n (after_of b) ts) ts s
type-steps n room b ts rest s le here fits read t = go s t
  where
    p : (x : Symbol) × (ts ≡ x ∷ behind_one ts)
    p = one-cons ts le

    read_there : read_nest room (expression_part assigned type_reference) (p.0 ∷ behind_one ts) ≡ done tt rest
    read_there = subst (λ (us : List Symbol). read_nest room (expression_part assigned type_reference) us ≡ done tt rest) p.1 read

    both_there : Alike (RestCrosses n (after_of b) ts) (RestCrosses n between (within_type (behind_one ts) rest) ⊎ RestCrosses n colons rest)
    both_there = subst (λ (us : List Symbol). Alike (RestCrosses n (after_of b) us) (RestCrosses n between (within_type (behind_one ts) rest) ⊎ RestCrosses n colons rest)) (sym p.1)
        (type-alike n room b p.0 (behind_one ts) rest (subst (λ (us : List Symbol). next_at place.Assigned leave.Anywhere b us ≡ next.Two) p.1 here) (subst (λ (us : List Symbol). 3 * length us ≤ room) p.1 fits) read_there)

    fewer : length rest < length ts
    fewer = part-shorter room type_reference ts rest read

    inner : length (within_type (behind_one ts) rest) < length ts
    inner = omega (arith, ap length (within-split room p.0 (behind_one ts) rest read_there), length-append (within_type (behind_one ts) rest) rest, ap length p.1)

    go : (s : Step) → TypeStep n (behind_one ts) rest s → StepTo n (RestCrosses n (after_of b) ts) ts s
    go steps.Full t = absurd t
    go steps.Over t = absurd t
    go (steps.On m at us) (same, spots, ends, never) = (
      subst (λ (zs : List Symbol). Alike (RestCrosses n (after_of b) ts) (CrossesAt at m zs)) (sym ends)
          (subst (λ (k : ℕ). Alike (RestCrosses n (after_of b) ts) (CrossesAt at k rest)) (sym same)
          (subst (λ (z : Spot). Alike (RestCrosses n (after_of b) ts) (CrossesAt z n rest)) (sym spots)
          (behind-alike (RestCrosses n (after_of b) ts) (RestCrosses n between (within_type (behind_one ts) rest)) (RestCrosses n colons rest) both_there never))),
      omega (arith, ap length ends, fewer),
    )
    go (steps.Type of us) (is_of, ends) = (
      subst (λ (zs : List Symbol). Alike (RestCrosses n (after_of b) ts) (RestCrosses n between zs ⊎ RestCrosses n colons us.now)) (sym is_of)
          (subst (λ (zs : List Symbol). Alike (RestCrosses n (after_of b) ts) (RestCrosses n between (within_type (behind_one ts) rest) ⊎ RestCrosses n colons zs)) (sym ends) both_there),
      (omega (arith, ap length is_of, inner), omega (arith, ap length ends, fewer)),
    )

-- ---- steps with the symbols that they leave

pub moved-to : (n : ℕ) (p : Type 0) (ts : List Symbol) (s : Step) (m : Move) → Moved s m → StepTo n p ts s → KindTo n p ts m.kind m.within.now m.rest.now
moved-to n p ts steps.Full m e s = rw e s
moved-to n p ts steps.Over m e s = rw e s
moved-to n p ts (steps.On k at us) m e s = rw (e.0, e.1) s
moved-to n p ts (steps.Type of us) m e s = rw (e.0, e.1, e.2) s

-- ---- the loop of the walk

pub type-smaller : (n : ℕ) (p : Type 0) (ts : List Symbol) (kind : Kind) (within rest : List Symbol) → KindTo n p ts kind within rest → kind ≡ kinds.Type → (length within < length ts) × (length rest < length ts)
type-smaller n p ts kind within rest k e = (subst (λ (z : Kind). KindTo n p ts z within rest) e k).1

-- the walk went on
pub on-kept : (whole : Type 0) (n m left size : ℕ) (at next spots : Spot) (ts : List Symbol) (kind : Kind) (within rest : List Symbol) → Alike whole (CrossesAt at n ts) → length ts ≤ size
    → KindTo n (CrossesAt at n ts) ts kind within rest → kind ≡ kinds.On m spots → left ≡ m → next ≡ spots → Alike whole (CrossesAt next left rest) × (length rest ≤ size)
on-kept whole n m left size at next spots ts kind within rest a le k e same spots_same =
    let q = subst (λ (z : Kind). KindTo n (CrossesAt at n ts) ts z within rest) e k in (
      subst (λ (z : Spot). Alike whole (CrossesAt z left rest)) (sym spots_same)
          (subst (λ (z : ℕ). Alike whole (CrossesAt spots z rest)) (sym same) (alike-join whole (CrossesAt at n ts) (CrossesAt spots m rest) a q.0)),
      omega (arith, q.1, le),
    )

-- and behind a type, within which too few fields begin
pub type-kept : (whole : Type 0) (n left size : ℕ) (at next : Spot) (ts : List Symbol) (kind : Kind) (within rest : List Symbol) → Alike whole (CrossesAt at n ts) → length ts ≤ size
    → KindTo n (CrossesAt at n ts) ts kind within rest → kind ≡ kinds.Type → (RestCrosses n between within → ⊥) → left ≡ n → next ≡ spot.Row before.Colons
    → Alike whole (CrossesAt next left rest) × (length rest ≤ size)
type-kept whole n left size at next ts kind within rest a le k e never same spots_same =
    let q = subst (λ (z : Kind). KindTo n (CrossesAt at n ts) ts z within rest) e k in (
      subst (λ (z : Spot). Alike whole (CrossesAt z left rest)) (sym spots_same)
          (subst (λ (z : ℕ). Alike whole (RestCrosses z colons rest)) (sym same)
          (alike-join whole (CrossesAt at n ts) (RestCrosses n colons rest) a (behind-alike (CrossesAt at n ts) (RestCrosses n between within) (RestCrosses n colons rest) q.0 never))),
      omega (arith, q.1.1, le),
    )

pub told-not : (p : Type 0) (b : Bool) → b ≡ false → IfTold p b → p → ⊥
told-not p true e t = absurd (no-both e)
told-not p false e t = t
