-- Initialisers and rows of fields: what is kept of an initialiser, and one field more.
use Rattle.std.specs.Prelude.{◌||◌, ◌==◌}
use Rattle.std.proofs.Common.{◌≡◌, ℕ, arith, ◌<◌, Bool, true, false, cond, Option, Some, None, List, [], ◌∷◌, ◌++◌, ◌⊎◌, length, length-append, Result, Ok, Err, refl, sym, ap, subst, ◌∙◌, ⊎_elim}
use Rattle.std.proofs.lemmas.Bool.{eqb-true}
use Rattle.decl_turns.specs.declared.states.Place.TheVariants as place
use Rattle.decl_values.specs.declared.reached.End.{End}
use Rattle.apt_base.specs.declared.around.Around.{Around}
use Rattle.decl_tree.specs.declared.annotation.ValueText.{ValueText}
use Rattle.decl_grammar.specs.declared.symbol.Symbol.{Symbol}
use Rattle.decl_grammar.specs.declared.fault.ReadFault.{ReadFault}
use Rattle.decl_grammar.specs.declared.fault.ReadFault.TheVariants as faults
use Rattle.decl_grammar.specs.declared.written.Declarator.{Declarator}
use Rattle.decl_grammar.specs.declared.written.NameAt.{NameAt}
use Rattle.decl_grammar.specs.Reading.{has, starts, Outcome, done, fault, deep, ◌>>=◌, one_at, read_of, Fails}
use Rattle.decl_grammar.specs.Form.{Rest, assigned, value_end, initialiser, constant_value, many, nest, turned, attempted, failed_at}
use Rattle.decl_grammar.specs.Types.{name_at, dim, as_written}
use Rattle.decl_grammar.specs.Expressions.{kept, kept_alone, initialised, constant_alone, initialiser_form, assigned_end, value_or_end, without_value, declarator_of, declarator_first, no_declarators}
use Rattle.decl_grammar.specs.Rule.{read_nest, reads}
use Rattle.decl_grammar.specs.Rows.{failed_upto}
use Rattle.decl_grammar.proofs.Heights.{Whole, Started}
use Rattle.decl_grammar.proofs.Told.{Told, read_of-front}
use Rattle.decl_grammar.proofs.TypeWins.{told-reads}
use Rattle.decl_grammar.proofs.Kept.{whole-kept, kept-read}
use Rattle.decl_grammar.proofs.OneToken.{disjoint-has, more_of}
use Rattle.decl_grammar.proofs.Loop.{turned_fails}
use Rattle.decl_grammar.proofs.Nests.{free-is, fewer}
use Rattle.decl_turns.specs.States.{expression_read}
use Rattle.decl_values.specs.Ends.{furthest_of, fallen_of, kept_here, Ended, ReadUpTo, EndsWith, ConstantTried, initialiser_read, value_or_end_read, declared_step, SoFar, ItemRead, ItemFails, fields_later}
use Rattle.decl_values.specs.FieldRows.{fields_from}
use Rattle.decl_turns.proofs.Chosen.{one-missing, same-sort}
use Rattle.decl_values.proofs.RowTurns.{fallen-fails}
use Rattle.decl_names.proofs.Smaller.{behind_symbol, one-smaller}
use Rattle.decl_values.proofs.RowItems.{both_far, both-counted, both-failed, turned-upto, Before, item-last, item-more, item-errs, item-ends}

-- ---- the two readings of an initialiser

abbrev constant_read : ℕ → List Symbol → Outcome ValueText
constant_read room ts = read_nest room constant_value ts

-- the first reading: a constant form, and a `;`
abbrev alone_read : List Symbol → Outcome ValueText → Outcome (Option ValueText × List Declarator)
alone_read ts o =
    turned kept_alone (turned (λ (x : List Symbol × Symbol). x.0) (turned (λ (x : List Symbol × ValueText). x.0) (o >>= λ x rest. done (as_written (read_of ts rest), x) rest) >>= λ x rest. one_at (67 ∷ []) rest >>= λ y after. done (x, y) after))

initialiser-is : (room : ℕ) (ts : List Symbol) → initialiser_read room ts ≡ attempted (alone_read ts (constant_read room ts)) (turned initialised (expression_read room place.Assigned ts))
unfolding initialiser_form constant_alone
initialiser-is room ts = free-is initialiser refl room ts

-- a constant form behind which no `;` stands, and one that fails
tried-is : (room : ℕ) (ts : List Symbol) (v : Option ValueText) (left : ℕ) → ConstantTried room ts v left → (at : List Symbol) × (left ≡ length at) × (initialiser_read room ts ≡ failed_at at (turned initialised (expression_read room place.Assigned ts)))
tried-is room ts (Some v) left t =
    (t.0, t.2, initialiser-is room ts ∙ ap (λ (o : Outcome (Option ValueText × List Declarator)). attempted o (turned initialised (expression_read room place.Assigned ts))) (ap (alone_read ts) t.1 ∙ missing))
  where
    missing : alone_read ts (done v t.0) ≡ fault t.0
    missing = rw (one-missing (67 ∷ []) t.0 t.3) refl
tried-is room ts None left t = (t.0, t.2, initialiser-is room ts ∙ ap (λ (o : Outcome (Option ValueText × List Declarator)). attempted o (turned initialised (expression_read room place.Assigned ts))) (ap (alone_read ts) t.1))

pub initialiser-deep : (room n : ℕ) (ts : List Symbol) → Fails (faults.Deep n) (constant_read room ts) → Fails (faults.Deep n) (initialiser_read room ts)
initialiser-deep room n ts f = (f.0, initialiser-is room ts ∙ ap (λ (o : Outcome (Option ValueText × List Declarator)). attempted o (turned initialised (expression_read room place.Assigned ts))) (ap (alone_read ts) f.1), f.2)

-- ---- what is kept

-- what was read of a constant form is one
whole-read : (room : ℕ) (ts rest : List Symbol) (v : ValueText) → constant_read room ts ≡ done v rest → (us : List Symbol) × (ts ≡ us ++ rest) × (kept us ≡ Some v)
whole-read room ts rest v e =
    let t : Told room Whole Started (nest constant_value) ts (done v rest) = subst (λ (o : Outcome ValueText). Told room Whole Started (nest constant_value) ts o) e (told-reads (nest constant_value) room ts) in
    (t.0, t.1, whole-kept t.0 v t.2)

left-false : (a b : Bool) → (a || b) ≡ false → a ≡ false
left-false true b e = e
left-false false b e = refl

right-false : (a b : Bool) → (a || b) ≡ false → b ≡ false
right-false true b e = absurd cc
right-false false b e = e

-- behind a field stands a `,` or a `;`, or its end fails at once
end-missing : (room : ℕ) (rest : List Symbol) → starts (67 ∷ 68 ∷ []) rest ≡ false → read_nest room (value_end assigned) rest ≡ fault rest
unfolding assigned_end one_at
end-missing room [] e = free-is (value_end assigned) refl room []
end-missing room (t ∷ rest) e = free-is (value_end assigned) refl room (t ∷ rest) ∙ go
  where
    no-first : has (67 ∷ []) t.sort ≡ false
    no-first = left-false (t.sort == 67) (t.sort == 68) e

    no-comma : has (68 ∷ []) t.sort ≡ false
    no-comma = right-false (t.sort == 67) (t.sort == 68) e

    go : reads room assigned_end (t ∷ rest) ≡ fault (t ∷ rest)
    go = rw (no-first, no-comma) refl

behind-constant : (rest : List Symbol) → starts (67 ∷ 68 ∷ []) rest ≡ true → starts (more_of constant_value) rest ≡ false
behind-constant [] e = absurd cc
behind-constant (t ∷ rest) e = disjoint-has (67 ∷ 68 ∷ []) (more_of constant_value) t.sort refl e

same-kept : (us : List Symbol) (o : Option ValueText) → ((u : ValueText) → kept us ≡ Some u → ⊥) → kept us ≡ o → kept us ≡ None
same-kept us None h e = e
same-kept us (Some u) h e = absurd (h u e)

-- where the expression ends, what is kept is what the constant form was, where that ended here
keeps : (room : ℕ) (ts us rest : List Symbol) (v : Option ValueText) (left : ℕ) → ConstantTried room ts v left → ts ≡ us ++ rest → starts (67 ∷ 68 ∷ []) rest ≡ true → kept us ≡ kept_here v left (length rest)
keeps room ts us rest None left t parts s = same-kept us (kept us) never refl ∙ sym (go (length rest == left))
  where
    go : (c : Bool) → cond {A = Option ValueText} c None None ≡ None
    go true = refl
    go false = refl

    never : (u : ValueText) → kept us ≡ Some u → ⊥
    never u e =
        ⊎_elim
        (λ (d : read_nest room constant_value (us ++ rest) ≡ done u rest). let z : fault t.0 ≡ done u rest = sym t.1 ∙ (ap (read_nest room constant_value) parts ∙ d) in absurd cc)
        (λ (d : (at : List Symbol) × (read_nest room constant_value (us ++ rest) ≡ deep at) × (length rest < length at)). let z : fault t.0 ≡ deep d.0 = sym t.1 ∙ (ap (read_nest room constant_value) parts ∙ d.1) in absurd cc)
        (kept-read room us rest u (behind-constant rest s) e)
keeps room ts us rest (Some v) left t parts s = go (length rest == left) refl
  where
    w : (front : List Symbol) × (ts ≡ front ++ t.0) × (kept front ≡ Some v)
    w = whole-read room ts t.0 v t.1

    never : (u : ValueText) → (length rest == left) ≡ false → kept us ≡ Some u → ⊥
    never u n e =
        ⊎_elim
        (λ (d : read_nest room constant_value (us ++ rest) ≡ done u rest).
        let z : done v t.0 ≡ done u rest = sym t.1 ∙ (ap (read_nest room constant_value) parts ∙ d) in
        let y : t.0 ≡ rest = cc in
        let x : left ≡ length rest = t.2 ∙ ap (λ (r : List Symbol). length r) y in
        let q : (length rest == left) ≡ true = ap (λ (m : ℕ). length rest == m) x ∙ same-sort (length rest) in
        absurd cc)
        (λ (d : (at : List Symbol) × (read_nest room constant_value (us ++ rest) ≡ deep at) × (length rest < length at)). let z : done v t.0 ≡ deep d.0 = sym t.1 ∙ (ap (read_nest room constant_value) parts ∙ d.1) in absurd cc)
        (kept-read room us rest u (behind-constant rest s) e)

    same-end : length rest ≡ length t.0 → us ≡ w.0
    same-end n = sym (read_of-front ts us rest parts) ∙ (length-cut n ∙ read_of-front ts w.0 t.0 w.1)
      where
        length-cut : length rest ≡ length t.0 → read_of ts rest ≡ read_of ts t.0
        length-cut m = rw m refl

    go : (c : Bool) → (length rest == left) ≡ c → kept us ≡ cond c (Some v) None
    go true n = let z : length rest ≡ length t.0 = eqb-true (length rest) left n ∙ t.2 in ap kept (same-end z) ∙ w.2
    go false n = same-kept us (kept us) (λ u e. never u n e) refl

abbrev kept_with : Option ValueText → List Declarator → Option ValueText × List Declarator
kept_with k ds = (k, ds)

-- either way what stands behind it is read alike
kept-alike : (room : ℕ) (ts us rest : List Symbol) (v : Option ValueText) (left : ℕ) → ConstantTried room ts v left → ts ≡ us ++ rest
    → turned (kept_with (kept us)) (read_nest room (value_end assigned) rest) ≡ turned (kept_with (kept_here v left (length rest))) (read_nest room (value_end assigned) rest)
kept-alike room ts us rest v left t parts = go (starts (67 ∷ 68 ∷ []) rest) refl
  where
    go : (c : Bool) → starts (67 ∷ 68 ∷ []) rest ≡ c → turned (kept_with (kept us)) (read_nest room (value_end assigned) rest) ≡ turned (kept_with (kept_here v left (length rest))) (read_nest room (value_end assigned) rest)
    go true s = ap (λ (k : Option ValueText). turned (kept_with k) (read_nest room (value_end assigned) rest)) (keeps room ts us rest v left t parts s)
    go false s = rw (end-missing room rest s) refl

-- ---- what functions return

pub initialiser-alone : (room : ℕ) (ts : List Symbol) (v : ValueText) (end : End) → constant_read room ts ≡ done v end.rest.now → starts (67 ∷ []) end.rest.now ≡ true → end.far ≡ None
    → ReadUpTo room place.Assigned (initialiser_read room ts) ts (Some v) end
unfolding assigned_end one_at
initialiser-alone room ts v end e s f = record { fewer = fewer room (nest constant_value) ts v end.rest.now e; far = None; kept = f; same = initialiser-is room ts ∙ (ap (λ (o : Outcome ValueText). attempted (alone_read ts o) (turned initialised (expression_read room place.Assigned ts))) e ∙ go end.rest.now s cut) }
  where
    w : (us : List Symbol) × (ts ≡ us ++ end.rest.now) × (kept us ≡ Some v)
    w = whole-read room ts end.rest.now v e

    cut : kept (read_of ts end.rest.now) ≡ Some v
    cut = ap kept (read_of-front ts w.0 end.rest.now w.1) ∙ w.2

    go : (rest : List Symbol) → starts (67 ∷ []) rest ≡ true → kept (read_of ts rest) ≡ Some v
        → attempted (alone_read ts (done v rest)) (turned initialised (expression_read room place.Assigned ts)) ≡ turned (kept_with (Some v)) (read_nest room (value_end assigned) rest)
    go [] s k = absurd cc
    go (t ∷ rest) s k = rw (free-is (value_end assigned) refl room (t ∷ rest), s, k) refl

pub initialiser-free : (room : ℕ) (ts : List Symbol) (v : Option ValueText) (left : ℕ) (end final : End) → ConstantTried room ts v left → Ended room place.Assigned (expression_read room place.Assigned ts) ts end
    → final.rest.now ≡ end.rest.now → final.far ≡ furthest_of (Some left) end.far → ReadUpTo room place.Assigned (initialiser_read room ts) ts (kept_here v left (length end.rest.now)) final
initialiser-free room ts v left end final t r re fe =
    let z = tried-is room ts v left t in
    record {
      fewer = omega (arith, ap (λ (u : List Symbol). length u) re, ap (λ (u : List Symbol). length u) r.parts, length-append r.passed end.rest.now);
      far = both_far (Some z.0) r.far;
      kept = fe ∙ both-counted (Some left) end.far (Some z.0) r.far (ap (λ (n : ℕ). Some n) z.1) r.kept;
      same =
          z.2
          ∙ (ap (λ (o : Outcome (Rest assigned)). failed_at z.0 (turned initialised o)) r.same
          ∙ (ap (failed_at z.0) (turned-upto initialised r.far (turned (λ y. (r.passed, y)) (read_nest room (value_end assigned) end.rest.now)))
          ∙ (both-failed (Some z.0) r.far (turned initialised (turned (λ y. (r.passed, y)) (read_nest room (value_end assigned) end.rest.now)))
          ∙ ap (failed_upto (both_far (Some z.0) r.far)) (joined (read_nest room (value_end assigned) end.rest.now) ∙ (kept-alike room ts r.passed end.rest.now v left t r.parts ∙ ap (λ (u : List Symbol). turned (kept_with (kept_here v left (length end.rest.now))) (read_nest room (value_end assigned) u)) (sym re))))));
    }
  where
    joined : (o : Outcome (List Declarator)) → turned initialised (turned (λ y. (r.passed, y)) o) ≡ turned (kept_with (kept r.passed)) o
    joined (done ds rest) = refl
    joined (fault at) = refl
    joined (deep at) = refl

pub initialiser-fails : (room : ℕ) (ts : List Symbol) (v : Option ValueText) (left : ℕ) (e : ReadFault) → ConstantTried room ts v left → Fails e (expression_read room place.Assigned ts) → Fails (fallen_of (Some left) e) (initialiser_read room ts)
initialiser-fails room ts v left e t f =
    let z = tried-is room ts v left t in
    subst (λ (o : Outcome (Option ValueText × List Declarator)). Fails (fallen_of (Some left) e) o) (sym z.2)
    (fallen-fails (Some left) (Some z.0) e (turned initialised (expression_read room place.Assigned ts)) (ap (λ (n : ℕ). Some n) z.1) (turned_fails initialised e (expression_read room place.Assigned ts) f))

-- `=` and an initialiser, or none
pub assigned-read : (room : ℕ) (ts rest : List Symbol) (t : Symbol) → starts (73 ∷ []) ts ≡ true → one_at (73 ∷ []) ts ≡ done t rest → value_or_end_read room ts ≡ initialiser_read room rest
unfolding value_or_end
assigned-read room ts rest t s e = rw (s, e) (second (initialiser_read room rest))
  where
    second : (o : Outcome (Option ValueText × List Declarator)) → turned behind_symbol (o >>= λ y after. done (t, y) after) ≡ o
    second (done y after) = refl
    second (fault at) = refl
    second (deep at) = refl

pub assigned-up : (room : ℕ) (ts rest : List Symbol) (t : Symbol) (c : Option ValueText) (end : End) → starts (73 ∷ []) ts ≡ true → one_at (73 ∷ []) ts ≡ done t rest → ReadUpTo room place.Assigned (initialiser_read room rest) rest c end
    → ReadUpTo room place.Assigned (value_or_end_read room ts) ts c end
assigned-up room ts rest t c end s e r = record {
  fewer = omega (arith, r.fewer, one-smaller (73 ∷ []) ts t rest e);
  far = r.far;
  kept = r.kept;
  same = assigned-read room ts rest t s e ∙ r.same;
}

pub assigned-fails : (room : ℕ) (ts : List Symbol) (e : ReadFault) → starts (73 ∷ []) ts ≡ true → Fails e (one_at (73 ∷ []) ts) → Fails e (value_or_end_read room ts)
unfolding value_or_end
assigned-fails room ts faults.Memory s f = tt
assigned-fails room ts (faults.Bad n) s f = (f.0, rw (s, f.1) refl, f.2)
assigned-fails room ts (faults.Deep n) s f = (f.0, rw (s, f.1) refl, f.2)

-- what a function gave for the initialiser is what it gives here
pub assigned-given : (room : ℕ) (ts rest : List Symbol) (t : Symbol) (result : Result (Option ValueText × End) ReadFault) → starts (73 ∷ []) ts ≡ true → one_at (73 ∷ []) ts ≡ done t rest
    → EndsWith room place.Assigned (initialiser_read room rest) rest result → EndsWith room place.Assigned (value_or_end_read room ts) ts result
assigned-given room ts rest t (Ok x) s e r = assigned-up room ts rest t x.0 x.1 s e r
assigned-given room ts rest t (Err e) s d f = subst (λ (o : Outcome (Option ValueText × List Declarator)). Fails e o) (sym (assigned-read room ts rest t s d)) f

pub unassigned-read : (room : ℕ) (ts : List Symbol) (end : End) → starts (73 ∷ []) ts ≡ false → end.rest.now ≡ ts → end.far ≡ None → ReadUpTo room place.Assigned (value_or_end_read room ts) ts None end
unfolding value_or_end
unassigned-read room ts end s re fe = record { fewer = omega (arith, ap (λ (u : List Symbol). length u) re); far = None; kept = fe; same = rw s (ap (λ (u : List Symbol). turned without_value (read_nest room (value_end assigned) u)) (sym re)) }

-- ---- rows of fields

abbrev field_first : NameAt → List Around → Option ValueText × List Declarator → List Declarator
field_first n ds v = declarator_of n ds v.0 ∷ v.1

field-before : (room : ℕ) (n : NameAt) (ds : List Around) (ts : List Symbol) (c : Option ValueText) (end : End) (r : ReadUpTo room place.Assigned (value_or_end_read room ts) ts c end)
    → Before (fields_from room n ds ts) (declarator_of n ds c) r.far (read_nest room (value_end assigned) end.rest.now)
field-before room n ds ts c end r =
    ap (turned (field_first n ds)) r.same
    ∙ (turned-upto (field_first n ds) r.far (turned (λ y. (c, y)) (read_nest room (value_end assigned) end.rest.now)) ∙ ap (failed_upto r.far) (joined (read_nest room (value_end assigned) end.rest.now)))
  where
    joined : (o : Outcome (List Declarator)) → turned (field_first n ds) (turned (λ y. (c, y)) o) ≡ turned (λ xs. declarator_of n ds c ∷ xs) o
    joined (done xs rest) = refl
    joined (fault at) = refl
    joined (deep at) = refl

abbrev declared_behind : ℕ → Outcome (Option (NameAt × List Around)) → Outcome (List Declarator)
declared_behind room (done None rest) = done [] rest
declared_behind room (done (Some x) rest) = fields_from room x.0 x.1 rest
declared_behind room (fault at) = fault at
declared_behind room (deep at) = deep at

declared-is : (room : ℕ) (ts : List Symbol) → read_nest room (value_end assigned) ts ≡ declared_behind room (declared_step room ts)
unfolding assigned_end
declared-is room ts = free-is (value_end assigned) refl room ts ∙ go (starts (67 ∷ []) ts) (one_at (67 ∷ []) ts) (one_at (68 ∷ []) ts)
  where
    closing : (o : Outcome Symbol) → turned no_declarators o ≡ declared_behind room (o >>= λ s rest. done None rest)
    closing (done s rest) = refl
    closing (fault at) = refl
    closing (deep at) = refl

    valued : (s : Symbol) (n : NameAt) (ds : List Around) (o : Outcome (Option ValueText × List Declarator))
        → turned behind_symbol (turned declarator_first ((o >>= λ y a. done (ds, y) a) >>= λ y a. done (n, y) a) >>= λ y a. done (s, y) a) ≡ turned (field_first n ds) o
    valued s n ds (done y a) = refl
    valued s n ds (fault at) = refl
    valued s n ds (deep at) = refl

    dimmed : (s : Symbol) (n : NameAt) (o : Outcome (List Around))
        → turned behind_symbol (turned declarator_first ((o >>= λ ds b. reads room value_or_end b >>= λ y a. done (ds, y) a) >>= λ y a. done (n, y) a) >>= λ y a. done (s, y) a)
        ≡ declared_behind room (o >>= λ ds after. done (Some (n, ds)) after)
    dimmed s n (done ds b) = valued s n ds (reads room value_or_end b)
    dimmed s n (fault at) = refl
    dimmed s n (deep at) = refl

    named : (s : Symbol) (o : Outcome NameAt)
        → turned behind_symbol (turned declarator_first (o >>= λ n b. (reads room (many dim) b >>= λ ds d. reads room value_or_end d >>= λ y a. done (ds, y) a) >>= λ y a. done (n, y) a) >>= λ y a. done (s, y) a)
        ≡ declared_behind room (o >>= λ n behind. reads room (many dim) behind >>= λ ds after. done (Some (n, ds)) after)
    named s (done n b) = dimmed s n (reads room (many dim) b)
    named s (fault at) = refl
    named s (deep at) = refl

    comma : (o : Outcome Symbol)
        → turned behind_symbol (o >>= λ s rest. turned declarator_first (reads room name_at rest >>= λ n b. (reads room (many dim) b >>= λ ds d. reads room value_or_end d >>= λ y a. done (ds, y) a) >>= λ y a. done (n, y) a) >>= λ y a. done (s, y) a)
        ≡ declared_behind room (o >>= λ s rest. reads room name_at rest >>= λ n behind. reads room (many dim) behind >>= λ ds after. done (Some (n, ds)) after)
    comma (done s rest) = named s (reads room name_at rest)
    comma (fault at) = refl
    comma (deep at) = refl

    go : (c : Bool) (p q : Outcome Symbol)
        → cond c (turned no_declarators p) (turned behind_symbol (q >>= λ s rest. turned declarator_first (reads room name_at rest >>= λ n b. (reads room (many dim) b >>= λ ds d. reads room value_or_end d >>= λ y a. done (ds, y) a) >>= λ y a. done (n, y) a) >>= λ y a. done (s, y) a))
        ≡ declared_behind room (cond c (p >>= λ s rest. done None rest) (q >>= λ s rest. reads room name_at rest >>= λ n behind. reads room (many dim) behind >>= λ ds after. done (Some (n, ds)) after))
    go true p q = closing p
    go false p q = comma q

pub field-read : (room : ℕ) (far : Option ℕ) (n : NameAt) (ds : List Around) (ts rest : List Symbol) (c : Option ValueText) (end final : End) (next : Option (NameAt × List Around)) (r : ReadUpTo room place.Assigned (value_or_end_read room ts) ts c end)
    → declared_step room end.rest.now ≡ done next rest → final.rest.now ≡ rest → final.far ≡ furthest_of far end.far → ItemRead (fields_from room n ds ts) far (declarator_of n ds c) (fields_later room next final.rest.now) final
field-read room far n ds ts rest c end final None r s re fe =
    item-last (fields_from room n ds ts) (declarator_of n ds c) r.far final.rest.now
    (field-before room n ds ts c end r ∙ ap (λ (o : Outcome (List Declarator)). failed_upto r.far (turned (λ xs. declarator_of n ds c ∷ xs) o)) (declared-is room end.rest.now ∙ (ap (declared_behind room) s ∙ ap (λ (u : List Symbol). done [] u) (sym re))))
field-read room far n ds ts rest c end final (Some x) r s re fe = λ total front so.
    subst (λ (m : Option ℕ). SoFar total (front ++ declarator_of n ds c ∷ []) m (fields_from room x.0 x.1 final.rest.now)) (sym fe)
    (item-more (fields_from room n ds ts) (fields_from room x.0 x.1 final.rest.now) (declarator_of n ds c) far end.far r.far r.kept
    (field-before room n ds ts c end r ∙ ap (λ (o : Outcome (List Declarator)). failed_upto r.far (turned (λ xs. declarator_of n ds c ∷ xs) o)) (declared-is room end.rest.now ∙ (ap (declared_behind room) s ∙ ap (fields_from room x.0 x.1) (sym re))))
    total front so)

pub field-fails : (room : ℕ) (far : Option ℕ) (n : NameAt) (ds : List Around) (ts : List Symbol) (e : ReadFault) → Fails e (value_or_end_read room ts) → ItemFails (fields_from room n ds ts) far (fallen_of far e)
field-fails room far n ds ts e f = item-errs (fields_from room n ds ts) far e (turned_fails (field_first n ds) e (value_or_end_read room ts) f)

declared-behind-fails : (room : ℕ) (e : ReadFault) (o : Outcome (Option (NameAt × List Around))) → Fails e o → Fails e (declared_behind room o)
declared-behind-fails room faults.Memory o f = tt
declared-behind-fails room (faults.Bad m) o f = (f.0, ap (declared_behind room) f.1, f.2)
declared-behind-fails room (faults.Deep m) o f = (f.0, ap (declared_behind room) f.1, f.2)

pub field-ends : (room : ℕ) (far : Option ℕ) (n : NameAt) (ds : List Around) (ts : List Symbol) (c : Option ValueText) (end : End) (e : ReadFault) (r : ReadUpTo room place.Assigned (value_or_end_read room ts) ts c end)
    → Fails e (declared_step room end.rest.now) → ItemFails (fields_from room n ds ts) far (fallen_of (furthest_of far end.far) e)
field-ends room far n ds ts c end e r f =
    item-ends (fields_from room n ds ts) (read_nest room (value_end assigned) end.rest.now) (declarator_of n ds c) far end.far r.far e r.kept (field-before room n ds ts c end r)
    (subst (λ (o : Outcome (List Declarator)). Fails e o) (sym (declared-is room end.rest.now)) (declared-behind-fails room e (declared_step room end.rest.now) f))
