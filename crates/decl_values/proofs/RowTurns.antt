-- One turn of the reader of an expression: a part, a type up to its `::`, the operator `<`, or the end.
use Rattle.std.specs.Prelude.{◌+◌, ◌-◌, ◌==◌, nat_le}
use Rattle.std.proofs.Common.{◌≡◌, ℕ, zero, suc, arith, ◌<◌, Bool, true, false, cond, Option, Some, None, List, [], ◌∷◌, ◌++◌, length, Result, Ok, Err, refl, sym, ap, subst, ◌∙◌, append_assoc}
use Rattle.std.proofs.lemmas.List.{append-nil}
use Rattle.decl_turns.specs.declared.states.Place.{Place}
use Rattle.decl_turns.specs.declared.states.Place.TheVariants as place
use Rattle.decl_turns.specs.declared.states.Leave.{Leave}
use Rattle.decl_turns.specs.declared.states.Leave.TheVariants as leave
use Rattle.decl_turns.specs.declared.states.Before.{Before}
use Rattle.decl_turns.specs.declared.states.Before.TheVariants as before
use Rattle.decl_turns.specs.declared.states.Piece.{Piece}
use Rattle.decl_turns.specs.declared.states.Piece.TheVariants as piece
use Rattle.decl_turns.specs.declared.states.Turn.{Turn}
use Rattle.decl_turns.specs.declared.states.Turn.TheVariants as turning
use Rattle.decl_turns.specs.declared.states.Next.TheVariants as next
use Rattle.decl_values.specs.declared.reached.Row.{Row}
use Rattle.decl_values.specs.declared.reached.End.{End}
use Rattle.decl_grammar.specs.declared.symbol.Symbol.{Symbol}
use Rattle.decl_grammar.specs.declared.fault.ReadFault.{ReadFault}
use Rattle.decl_grammar.specs.declared.fault.ReadFault.TheVariants as faults
use Rattle.decl_grammar.specs.Symbols.{operator}
use Rattle.decl_grammar.specs.TokenNames as token
use Rattle.decl_grammar.specs.Reading.{starts, Outcome, done, fault, deep, read_of, Fails}
use Rattle.decl_grammar.specs.Form.{Stands, Freedom, Part, Nest, Of, Rest, Behind, between, colons, one_of, type_reference, anywhere, conditional, expression_part, expression_rest, value_end, turn, nest, further_of, failed_at, attempted, turned}
use Rattle.decl_grammar.specs.Expressions.{part_symbols, with_symbols, step, two_readings, behind_condition}
use Rattle.decl_grammar.specs.Rule.{read_nest, reads}
use Rattle.decl_grammar.specs.Rows.{failed_upto, further_than, row_from}
use Rattle.decl_grammar.proofs.Heights.{Whole, Started}
use Rattle.decl_grammar.proofs.Told.{Told, read_of-front}
use Rattle.decl_grammar.proofs.TypeWins.{told-reads}
use Rattle.decl_grammar.proofs.Loop.{turned_fails}
use Rattle.decl_grammar.proofs.RowReads.{step-reads, step-fails, step-deep, row-goes, row-fails, row-deep, row-types, row-compares, row-sinks, row-ends, failed-more}
use Rattle.decl_turns.specs.States.{stands_of, conditions, freedom_of, after_of, part_at, leave_after, freedom_after, rest_read, expression_read, IsFree, leave_first}
use Rattle.decl_turns.specs.Turns.{next_at, first_at}
use Rattle.decl_values.specs.Ends.{part_read, counted, less_of, fallen_of, row_read, Goes, EndsHere, Ended, EndsRow}
use Rattle.decl_turns.proofs.Chosen.{chosen, first-chosen, unfit, part-alike, same-sort}
use Rattle.decl_turns.proofs.TwoThere.{two-less}

-- ---- how free a `=` is

leave-condition : (n : ℕ) → conditions (n + 1) ≡ freedom_after turning.Condition (conditions n)
leave-condition zero = let e : 0 + 1 ≡ 1 = omega arith in ap conditions e
leave-condition (suc n) = let e : suc n + 1 ≡ suc (suc n) = omega arith in ap conditions e

leave-colon : (n : ℕ) → conditions (n - 1) ≡ freedom_after turning.Colon (conditions n)
leave-colon zero = let e : 0 - 1 ≡ 0 = omega arith in ap conditions e
leave-colon (suc n) = let e : suc n - 1 ≡ n = omega arith in ap conditions e ∙ go n
  where
    go : (n : ℕ) → conditions n ≡ behind_condition (conditional n)
    go zero = refl
    go (suc n) = refl

leave-lambda : (n : ℕ) → freedom_of (leave_after turning.Lambda (leave.Within n)) ≡ freedom_after turning.Lambda (conditions n)
leave-lambda zero = refl
leave-lambda (suc n) = let e : (suc n == 0) ≡ false = grind arith in ap (λ (c : Bool). freedom_of (cond c leave.Anywhere (leave.Within (suc n)))) e

pub leave-is : (v : Turn) (l : Leave) → freedom_of (leave_after v l) ≡ freedom_after v (freedom_of l)
leave-is turning.Same l = refl
leave-is turning.Condition (leave.Within n) = leave-condition n
leave-is turning.Condition leave.Anywhere = refl
leave-is turning.Colon (leave.Within n) = leave-colon n
leave-is turning.Colon leave.Anywhere = refl
leave-is turning.Lambda (leave.Within n) = leave-lambda n
leave-is turning.Lambda leave.Anywhere = refl

stays-free : (v : Turn) → anywhere ≡ freedom_after v anywhere
stays-free turning.Same = refl
stays-free turning.Condition = refl
stays-free turning.Colon = refl
stays-free turning.Lambda = refl

pub free-after : (p : Place) (v : Turn) (l : Leave) → IsFree p l → IsFree p (leave_after v l)
free-after place.Alone v l e = refl
free-after place.Paired v l e = refl
free-after place.Listed v l e = refl
free-after place.Defaulted v l e = refl
free-after place.Assigned v l e = stays-free v ∙ ap (freedom_after v) e ∙ sym (leave-is v l)

pub free-first : (p : Place) → IsFree p (leave_first p)
free-first place.Alone = refl
free-first place.Paired = refl
free-first place.Listed = refl
free-first place.Defaulted = refl
free-first place.Assigned = refl

-- ---- places of faults

pub further-length : (a b : List Symbol) → length (further_of a b) ≡ less_of (Some (length a)) (length b)
further-length a b = go (nat_le (length a) (length b))
  where
    go : (c : Bool) → length (cond c a b) ≡ cond c (length a) (length b)
    go true = refl
    go false = refl

pub less-counted : (far : Option (List Symbol)) (at : List Symbol) → less_of (counted far) (length at) ≡ length (further_than far at)
less-counted None at = refl
less-counted (Some a) at = sym (further-length a at)

-- what is read where readings failed is the further fault
pub fallen-fails : {A : Type 0} (n : Option ℕ) (far : Option (List Symbol)) (e : ReadFault) (o : Outcome A) → n ≡ counted far → Fails e o → Fails (fallen_of n e) (failed_upto far o)
fallen-fails n far faults.Memory o k p = tt
fallen-fails n None (faults.Bad m) o k p = (p.0, p.1, ap (λ (x : Option ℕ). less_of x m) k ∙ p.2)
fallen-fails {A} n (Some a) (faults.Bad m) o k p =
    (further_of a p.0, ap (failed_at a) p.1, ap (λ (x : Option ℕ). less_of x m) k ∙ (ap (less_of (Some (length a))) p.2 ∙ sym (further-length a p.0)))
fallen-fails n None (faults.Deep m) o k p = p
fallen-fails n (Some a) (faults.Deep m) o k p = (p.0, ap (failed_at a) p.1, p.2)

-- ---- parts

pub symbols-read : (s : Stands) (p : Part) (room : ℕ) (ts rest : List Symbol) → read_nest room (expression_part s p) ts ≡ done tt rest → reads room (part_symbols s p) ts ≡ done (read_of ts rest) rest
unfolding part_symbols
symbols-read s p room ts rest e = rw e refl

pub symbols-fault : (s : Stands) (p : Part) (room : ℕ) (ts at : List Symbol) → read_nest room (expression_part s p) ts ≡ fault at → reads room (part_symbols s p) ts ≡ fault at
unfolding part_symbols
symbols-fault s p room ts at e = rw e refl

pub symbols-deep : (s : Stands) (p : Part) (room : ℕ) (ts at : List Symbol) → read_nest room (expression_part s p) ts ≡ deep at → reads room (part_symbols s p) ts ≡ deep at
unfolding part_symbols
symbols-deep s p room ts at e = rw e refl

-- the symbols that were read, and the rest
pub nest-parts : (m : Nest) (room : ℕ) (ts rest : List Symbol) (x : Of m) → read_nest room m ts ≡ done x rest → ts ≡ read_of ts rest ++ rest
nest-parts m room ts rest x e =
    let t : Told room Whole Started (nest m) ts (done x rest) = subst (λ (o : Outcome (Of m)). Told room Whole Started (nest m) ts o) e (told-reads (nest m) room ts) in
    t.1 ∙ ap (λ (u : List Symbol). u ++ rest) (sym (read_of-front ts t.0 rest t.1))

-- ---- one turn

-- a part
pub part-goes : (room : ℕ) (p : Place) (row after : Row) (pc : Piece) (v : Turn) (b : Before) → next_at p row.leave row.before row.rest.now ≡ next.Part pc v b → part_read room p pc row.rest.now ≡ done tt after.rest.now
    → after.leave ≡ leave_after v row.leave → after.before ≡ b → after.far ≡ row.far → Goes room p row (Ok after)
part-goes room p row after pc v b chosen_here read leaving stands far_same us far k free = record {
  passed = read_of row.rest.now after.rest.now;
  to = far;
  parts = nest-parts (expression_part (stands_of p) (part_at pc row.rest.now)) room row.rest.now after.rest.now tt read;
  kept = far_same ∙ k;
  free = subst (λ (l : Leave). IsFree p l) (sym leaving) (free-after p v row.leave free);
  same =
      row-goes (stands_of p) far us room (freedom_of row.leave) (freedom_after v (freedom_of row.leave)) (after_of row.before) (after_of b) (part_at pc row.rest.now) row.rest.now (read_of row.rest.now after.rest.now) after.rest.now
      (chosen room p row.leave row.before row.rest.now (next.Part pc v b) free chosen_here)
      (symbols-read (stands_of p) (part_at pc row.rest.now) room row.rest.now after.rest.now read)
      ∙ ap (λ (w : Freedom). row_from (stands_of p) far (us ++ read_of row.rest.now after.rest.now) room w (after_of b) after.rest.now) (sym (leave-is v row.leave) ∙ ap freedom_of (sym leaving))
      ∙ ap (λ (z : Before). row_from (stands_of p) far (us ++ read_of row.rest.now after.rest.now) room (freedom_of after.leave) (after_of z) after.rest.now) (sym stands);
}

pub part-fails : (room : ℕ) (p : Place) (row : Row) (pc : Piece) (v : Turn) (b : Before) (e : ReadFault) → next_at p row.leave row.before row.rest.now ≡ next.Part pc v b → Fails e (part_read room p pc row.rest.now) → Goes room p row (Err (fallen_of row.far e))
part-fails room p row pc v b faults.Memory here f us far k free = tt
part-fails room p row pc v b (faults.Bad m) here f us far k free =
    subst (λ (o : Outcome (Rest (stands_of p))). Fails (fallen_of row.far (faults.Bad m)) o)
    (sym (row-fails (stands_of p) far us room (freedom_of row.leave) (freedom_after v (freedom_of row.leave)) (after_of row.before) (after_of b) (part_at pc row.rest.now) row.rest.now f.0
    (chosen room p row.leave row.before row.rest.now (next.Part pc v b) free here) (symbols-fault (stands_of p) (part_at pc row.rest.now) room row.rest.now f.0 f.1)))
    (fallen-fails {A = Rest (stands_of p)} row.far far (faults.Bad m) (fault f.0) k (f.0, refl, f.2))
part-fails room p row pc v b (faults.Deep m) here f us far k free = (
  f.0,
  row-deep (stands_of p) far us room (freedom_of row.leave) (freedom_after v (freedom_of row.leave)) (after_of row.before) (after_of b) (part_at pc row.rest.now) row.rest.now f.0
      (chosen room p row.leave row.before row.rest.now (next.Part pc v b) free here) (symbols-deep (stands_of p) (part_at pc row.rest.now) room row.rest.now f.0 f.1),
  f.2,
)

-- nothing goes on, and the expression is not whole
pub nothing-fails : (room : ℕ) (p : Place) (row : Row) → next_at p row.leave row.before row.rest.now ≡ next.Nothing → Goes room p row (Err (fallen_of row.far (faults.Bad (length row.rest.now))))
nothing-fails room p row here us far k free =
    subst (λ (o : Outcome (Rest (stands_of p))). Fails (fallen_of row.far (faults.Bad (length row.rest.now))) o)
    (sym (ap (λ (o : Outcome (Rest (stands_of p))). failed_upto far (turned (λ y. with_symbols (us, y)) o)) (chosen room p row.leave row.before row.rest.now next.Nothing free here ∙ unfit (stands_of p) [] (freedom_of row.leave) between room row.rest.now (none-begin row.rest.now))))
    (fallen-fails {A = Rest (stands_of p)} row.far far (faults.Bad (length row.rest.now)) (fault row.rest.now) k (row.rest.now, refl, refl))
  where
    none-begin : (ts : List Symbol) → starts [] ts ≡ false
    none-begin [] = refl
    none-begin (t ∷ ts) = refl

-- a type up to its `::`
pub types-go : (room : ℕ) (p : Place) (row after : Row) → next_at p row.leave row.before row.rest.now ≡ next.Two → part_read room p piece.Reference row.rest.now ≡ done tt after.rest.now
    → after.leave ≡ row.leave → after.before ≡ before.Colons → after.far ≡ row.far → Goes room p row (Ok after)
types-go room p row after here read leaving stands far_same us far k free = record {
  passed = read_of row.rest.now after.rest.now;
  to = far;
  parts = nest-parts (expression_part (stands_of p) type_reference) room row.rest.now after.rest.now tt read;
  kept = far_same ∙ k;
  free = subst (λ (l : Leave). IsFree p l) (sym leaving) free;
  same =
      row-types (stands_of p) far us room (freedom_of row.leave) (freedom_of row.leave) (after_of row.before) row.rest.now (read_of row.rest.now after.rest.now) after.rest.now
      (chosen room p row.leave row.before row.rest.now next.Two free here ∙ ap (λ (w : Freedom). reads room (two_readings (stands_of p) w) row.rest.now) (sym free))
      (symbols-read (stands_of p) type_reference room row.rest.now after.rest.now read)
      ∙ ap (λ (w : Freedom). row_from (stands_of p) far (us ++ read_of row.rest.now after.rest.now) room w colons after.rest.now) (free ∙ ap freedom_of (sym leaving))
      ∙ ap (λ (z : Before). row_from (stands_of p) far (us ++ read_of row.rest.now after.rest.now) room (freedom_of after.leave) (after_of z) after.rest.now) (sym stands);
}

pub types-sink : (room : ℕ) (p : Place) (row : Row) (n : ℕ) → next_at p row.leave row.before row.rest.now ≡ next.Two → Fails (faults.Deep n) (part_read room p piece.Reference row.rest.now) → Goes room p row (Err (faults.Deep n))
types-sink room p row n here f us far k free = (
  f.0,
  row-sinks (stands_of p) far us room (freedom_of row.leave) (freedom_of row.leave) (after_of row.before) row.rest.now f.0
      (chosen room p row.leave row.before row.rest.now next.Two free here) (symbols-deep (stands_of p) type_reference room row.rest.now f.0 f.1),
  f.2,
)

-- a part of one symbol at a `<` is that `<`
less-part : (room : ℕ) (s : Stands) (ts : List Symbol) → starts (operator token.less_than ∷ []) ts ≡ true → read_nest room (expression_part s (part_at piece.One ts)) ts ≡ read_nest room (expression_part s (one_of (operator token.less_than ∷ []))) ts
less-part room s [] e = absurd cc
less-part room s (t ∷ ts) e = part-alike s (t.sort ∷ []) (operator token.less_than ∷ []) room t ts (same-sort t.sort) e

-- the same where two readings are there
pub two-part : (room : ℕ) (p : Place) (row : Row) → next_at p row.leave row.before row.rest.now ≡ next.Two → part_read room p piece.One row.rest.now ≡ read_nest room (expression_part (stands_of p) (one_of (operator token.less_than ∷ []))) row.rest.now
two-part room p row here = less-part room (stands_of p) row.rest.now (two-less p row.leave row.before row.rest.now here)

-- the operator `<`
pub compares-go : (room : ℕ) (p : Place) (row after : Row) (left : ℕ) → next_at p row.leave row.before row.rest.now ≡ next.Two → Fails (faults.Bad left) (part_read room p piece.Reference row.rest.now)
    → read_nest room (expression_part (stands_of p) (one_of (operator token.less_than ∷ []))) row.rest.now ≡ done tt after.rest.now
    → after.leave ≡ row.leave → after.before ≡ before.Between → after.far ≡ Some (less_of row.far left) → Goes room p row (Ok after)
compares-go room p row after left here f read leaving stands far_is us far k free = record {
  passed = read_of row.rest.now after.rest.now;
  to = Some (further_than far f.0);
  parts = nest-parts (expression_part (stands_of p) (one_of (operator token.less_than ∷ []))) room row.rest.now after.rest.now tt read;
  kept = far_is ∙ ap (λ (n : ℕ). Some n) (ap (λ (x : Option ℕ). less_of x left) k ∙ (ap (less_of (counted far)) f.2 ∙ less-counted far f.0));
  free = subst (λ (l : Leave). IsFree p l) (sym leaving) free;
  same =
      row-compares (stands_of p) far us room (freedom_of row.leave) (freedom_of row.leave) (after_of row.before) row.rest.now f.0 (read_of row.rest.now after.rest.now) after.rest.now
      (chosen room p row.leave row.before row.rest.now next.Two free here)
      (symbols-fault (stands_of p) type_reference room row.rest.now f.0 f.1)
      (symbols-read (stands_of p) (one_of (operator token.less_than ∷ [])) room row.rest.now after.rest.now read)
      ∙ ap (λ (l : Leave). row_from (stands_of p) (Some (further_than far f.0)) (us ++ read_of row.rest.now after.rest.now) room (freedom_of l) between after.rest.now) (sym leaving)
      ∙ ap (λ (z : Before). row_from (stands_of p) (Some (further_than far f.0)) (us ++ read_of row.rest.now after.rest.now) room (freedom_of after.leave) (after_of z) after.rest.now) (sym stands);
}

-- a fault of what both readings begin with
pub compares-fail : (room : ℕ) (p : Place) (row : Row) (left : ℕ) (e : ReadFault) → next_at p row.leave row.before row.rest.now ≡ next.Two → Fails (faults.Bad left) (part_read room p piece.Reference row.rest.now)
    → Fails e (read_nest room (expression_part (stands_of p) (one_of (operator token.less_than ∷ []))) row.rest.now) → Goes room p row (Err (fallen_of (Some (less_of row.far left)) e))
unfolding two_readings
compares-fail room p row left e here f g us far k free =
    subst (λ (o : Outcome (Rest (stands_of p))). Fails (fallen_of (Some (less_of row.far left)) e) o) (sym whole)
    (fallen-fails (Some (less_of row.far left)) (Some (further_than far f.0)) e (turned (λ y. with_symbols (us, y)) other)
    (ap (λ (n : ℕ). Some n) (ap (λ (x : Option ℕ). less_of x left) k ∙ (ap (less_of (counted far)) f.2 ∙ less-counted far f.0)))
    (turned-fails e (step-errs e g)))
  where
    s : Stands
    s = stands_of p

    w : Freedom
    w = freedom_of row.leave

    other : Outcome (Rest s)
    other = reads room (step s (one_of (operator token.less_than ∷ [])) w between) row.rest.now

    step-errs : (e : ReadFault) → Fails e (read_nest room (expression_part s (one_of (operator token.less_than ∷ []))) row.rest.now) → Fails e other
    step-errs faults.Memory q = tt
    step-errs (faults.Bad n) q = (q.0, step-fails s (one_of (operator token.less_than ∷ [])) w between room row.rest.now q.0 (symbols-fault s (one_of (operator token.less_than ∷ [])) room row.rest.now q.0 q.1), q.2)
    step-errs (faults.Deep n) q = (q.0, step-deep s (one_of (operator token.less_than ∷ [])) w between room row.rest.now q.0 (symbols-deep s (one_of (operator token.less_than ∷ [])) room row.rest.now q.0 q.1), q.2)

    turned-fails : (e : ReadFault) → Fails e other → Fails e (turned (λ y. with_symbols (us, y)) other)
    turned-fails faults.Memory q = tt
    turned-fails (faults.Bad n) q = (q.0, ap (turned (λ y. with_symbols (us, y))) q.1, q.2)
    turned-fails (faults.Deep n) q = (q.0, ap (turned (λ y. with_symbols (us, y))) q.1, q.2)

    moved : (o : Outcome (Rest s)) → turned (λ y. with_symbols (us, y)) (failed_at f.0 o) ≡ failed_at f.0 (turned (λ y. with_symbols (us, y)) o)
    moved (done x rest) = refl
    moved (fault at) = refl
    moved (deep at) = refl

    whole : row_read room p far us row ≡ failed_upto (Some (further_than far f.0)) (turned (λ y. with_symbols (us, y)) other)
    whole =
        ap (λ (o : Outcome (Rest s)). failed_upto far (turned (λ y. with_symbols (us, y)) o))
        (chosen room p row.leave row.before row.rest.now next.Two free here ∙ ap (λ (o : Outcome (Rest s)). attempted o other) (step-fails s type_reference w colons room row.rest.now f.0 (symbols-fault s type_reference room row.rest.now f.0 f.1)))
        ∙ ap (failed_upto far) (moved other)
        ∙ failed-more far f.0 (turned (λ y. with_symbols (us, y)) other)

-- the end of the expression
pub row-over : (room : ℕ) (p : Place) (row : Row) → next_at p row.leave row.before row.rest.now ≡ next.End → EndsHere room p row
row-over room p row here us far k free =
    row-ends (stands_of p) far us room (freedom_of row.leave) (after_of row.before) row.rest.now (chosen room p row.leave row.before row.rest.now next.End free here)
    ∙ ap (λ (u : List Symbol). failed_upto far (turned (λ y. (u, y)) (read_nest room (value_end (stands_of p)) row.rest.now))) (append-nil us)

-- ---- the loop

-- what was read up to here of the rest of an expression
pub record RowSoFar (room : ℕ) (p : Place) (read : Outcome (Rest (stands_of p))) (ts : List Symbol) (row : Row) : Type 0 where
  pub passed : List Symbol
  pub far : Option (List Symbol)
  pub parts : ts ≡ passed ++ row.rest.now
  pub kept : row.far ≡ counted far
  pub free : IsFree p row.leave
  pub same : read ≡ row_read room p far passed row

pub row-starts : (room : ℕ) (p : Place) (l : Leave) (b : Before) (ts : List Symbol) (row : Row) → IsFree p l → row.leave ≡ l → row.before ≡ b → row.rest.now ≡ ts → row.far ≡ None → RowSoFar room p (rest_read room p l b ts) ts row
row-starts room p l b ts row free le be re fe = record {
  passed = [];
  far = None;
  parts = sym re;
  kept = fe;
  free = subst (λ (x : Leave). IsFree p x) (sym le) free;
  same = sym (nothing-front (rest_read room p row.leave row.before row.rest.now) ∙ (ap (λ (x : Leave). rest_read room p x row.before row.rest.now) le ∙ (ap (λ (z : Before). rest_read room p l z row.rest.now) be ∙ ap (rest_read room p l b) re)));
}
  where
    nothing-front : (o : Outcome (Rest (stands_of p))) → turned (λ y. with_symbols ([], y)) o ≡ o
    nothing-front (done x rest) = refl
    nothing-front (fault at) = refl
    nothing-front (deep at) = refl

pub row-turns : (room : ℕ) (p : Place) (read : Outcome (Rest (stands_of p))) (ts : List Symbol) (row after : Row) → RowSoFar room p read ts row → Goes room p row (Ok after) → RowSoFar room p read ts after
row-turns room p read ts row after r goes =
    let g = goes r.passed r.far r.kept r.free in
    record {
      passed = r.passed ++ g.passed;
      far = g.to;
      parts = r.parts ∙ (ap (λ (u : List Symbol). r.passed ++ u) g.parts ∙ sym (append_assoc r.passed g.passed after.rest.now));
      kept = g.kept;
      free = g.free;
      same = r.same ∙ g.same;
    }

pub row-errs : (room : ℕ) (p : Place) (read : Outcome (Rest (stands_of p))) (ts : List Symbol) (row : Row) (e : ReadFault) → RowSoFar room p read ts row → Goes room p row (Err e) → Fails e read
row-errs room p read ts row e r goes = subst (λ (o : Outcome (Rest (stands_of p))). Fails e o) (sym r.same) (goes r.passed r.far r.kept r.free)

pub row-stops : (room : ℕ) (p : Place) (read : Outcome (Rest (stands_of p))) (ts : List Symbol) (row : Row) (end : End) → RowSoFar room p read ts row → EndsHere room p row → end.rest.now ≡ row.rest.now → end.far ≡ row.far → Ended room p read ts end
row-stops room p read ts row end r over re fe = record {
  passed = r.passed;
  far = r.far;
  parts = r.parts ∙ ap (λ (u : List Symbol). r.passed ++ u) (sym re);
  kept = fe ∙ r.kept;
  same = r.same ∙ (over r.passed r.far r.kept r.free ∙ ap (λ (u : List Symbol). failed_upto r.far (turned (λ y. (r.passed, y)) (read_nest room (value_end (stands_of p)) u))) (sym re));
}

-- ---- an expression from its first part on

begun-ends : (room : ℕ) (p : Place) (pc : Piece) (v : Turn) (b : Before) (l : Leave) (ts rest : List Symbol) (end : End) → first_at p ts ≡ next.Part pc v b → part_read room p pc ts ≡ done tt rest → l ≡ leave_after v (leave_first p)
    → Ended room p (rest_read room p l b rest) rest end → Ended room p (expression_read room p ts) ts end
begun-ends room p pc v b l ts rest end here read leaving r = record {
  passed = read_of ts rest ++ r.passed;
  far = r.far;
  parts = nest-parts (expression_part (stands_of p) (part_at pc ts)) room ts rest tt read ∙ (ap (λ (u : List Symbol). read_of ts rest ++ u) r.parts ∙ sym (append_assoc (read_of ts rest) r.passed end.rest.now));
  kept = r.kept;
  same =
      first-chosen room p ts (next.Part pc v b) here
      ∙ step-reads (stands_of p) (part_at pc ts) (freedom_after v (freedom_of (leave_first p))) (after_of b) room ts (read_of ts rest) rest (symbols-read (stands_of p) (part_at pc ts) room ts rest read)
      ∙ ap (λ (w : Freedom). turned (λ y. with_symbols (read_of ts rest, y)) (read_nest room (expression_rest (stands_of p) w (after_of b)) rest)) (sym (leave-is v (leave_first p)) ∙ ap freedom_of (sym leaving))
      ∙ ap (turned (λ y. with_symbols (read_of ts rest, y))) r.same
      ∙ in-front r.far (read_nest room (value_end (stands_of p)) end.rest.now);
}
  where
    pairs : (o : Outcome (Behind (stands_of p))) → turned (λ y. with_symbols (read_of ts rest, y)) (turned (λ y. (r.passed, y)) o) ≡ turned (λ y. (read_of ts rest ++ r.passed, y)) o
    pairs (done y after) = refl
    pairs (fault at) = refl
    pairs (deep at) = refl

    moved : (at : List Symbol) (o : Outcome (Rest (stands_of p))) → turned (λ y. with_symbols (read_of ts rest, y)) (failed_at at o) ≡ failed_at at (turned (λ y. with_symbols (read_of ts rest, y)) o)
    moved at (done x after) = refl
    moved at (fault to) = refl
    moved at (deep to) = refl

    in-front : (far : Option (List Symbol)) (o : Outcome (Behind (stands_of p))) → turned (λ y. with_symbols (read_of ts rest, y)) (failed_upto far (turned (λ y. (r.passed, y)) o)) ≡ failed_upto far (turned (λ y. (read_of ts rest ++ r.passed, y)) o)
    in-front None o = pairs o
    in-front (Some at) o = moved at (turned (λ y. (r.passed, y)) o) ∙ ap (failed_at at) (pairs o)

-- a fault of the first part, and one behind it
pub begun-part-fails : (room : ℕ) (p : Place) (pc : Piece) (v : Turn) (b : Before) (ts : List Symbol) (e : ReadFault) → first_at p ts ≡ next.Part pc v b → Fails e (part_read room p pc ts) → Fails e (expression_read room p ts)
begun-part-fails room p pc v b ts faults.Memory here f = tt
begun-part-fails room p pc v b ts (faults.Bad n) here f =
    (f.0, first-chosen room p ts (next.Part pc v b) here ∙ step-fails (stands_of p) (part_at pc ts) (freedom_after v (freedom_of (leave_first p))) (after_of b) room ts f.0 (symbols-fault (stands_of p) (part_at pc ts) room ts f.0 f.1), f.2)
begun-part-fails room p pc v b ts (faults.Deep n) here f =
    (f.0, first-chosen room p ts (next.Part pc v b) here ∙ step-deep (stands_of p) (part_at pc ts) (freedom_after v (freedom_of (leave_first p))) (after_of b) room ts f.0 (symbols-deep (stands_of p) (part_at pc ts) room ts f.0 f.1), f.2)

begun-fails : (room : ℕ) (p : Place) (pc : Piece) (v : Turn) (b : Before) (l : Leave) (ts rest : List Symbol) (e : ReadFault) → first_at p ts ≡ next.Part pc v b → part_read room p pc ts ≡ done tt rest → l ≡ leave_after v (leave_first p)
    → Fails e (rest_read room p l b rest) → Fails e (expression_read room p ts)
begun-fails room p pc v b l ts rest e here read leaving f = subst (λ (o : Outcome (Rest (stands_of p))). Fails e o) (sym whole) (turned_fails (λ y. with_symbols (read_of ts rest, y)) e (rest_read room p l b rest) f)
  where
    whole : expression_read room p ts ≡ turned (λ y. with_symbols (read_of ts rest, y)) (rest_read room p l b rest)
    whole =
        first-chosen room p ts (next.Part pc v b) here
        ∙ step-reads (stands_of p) (part_at pc ts) (freedom_after v (freedom_of (leave_first p))) (after_of b) room ts (read_of ts rest) rest (symbols-read (stands_of p) (part_at pc ts) room ts rest read)
        ∙ ap (λ (w : Freedom). turned (λ y. with_symbols (read_of ts rest, y)) (read_nest room (expression_rest (stands_of p) w (after_of b)) rest)) (sym (leave-is v (leave_first p)) ∙ ap freedom_of (sym leaving))

-- the same with what a function gave for the rest
pub begun-given : (room : ℕ) (p : Place) (pc : Piece) (v : Turn) (b : Before) (l : Leave) (ts rest : List Symbol) (result : Result End ReadFault) → first_at p ts ≡ next.Part pc v b → part_read room p pc ts ≡ done tt rest → l ≡ leave_after v (leave_first p)
    → EndsRow room p (rest_read room p l b rest) rest result → EndsRow room p (expression_read room p ts) ts result
begun-given room p pc v b l ts rest (Ok end) here read leaving r = begun-ends room p pc v b l ts rest end here read leaving r
begun-given room p pc v b l ts rest (Err e) here read leaving f = begun-fails room p pc v b l ts rest e here read leaving f

-- nothing begins here
pub none-begins : (room : ℕ) (p : Place) (ts : List Symbol) → first_at p ts ≡ next.Nothing → Fails (faults.Bad (length ts)) (expression_read room p ts)
none-begins room p ts here = (ts, first-chosen room p ts next.Nothing here ∙ unfit (stands_of p) [] (freedom_of (leave_first p)) between room ts (none-begin ts), refl)
  where
    none-begin : (ts : List Symbol) → starts [] ts ≡ false
    none-begin [] = refl
    none-begin (t ∷ ts) = refl
