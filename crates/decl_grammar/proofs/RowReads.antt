-- How the rows of expressions are read part by part, as a loop does: what was passed so far, and the furthest place at which a reading as a type failed.
use Rattle.std.specs.Prelude.{nat_le}
use Rattle.std.proofs.Common.{◌≡◌, ℕ, arith, Bool, true, false, Option, Some, None, List, [], ◌∷◌, ◌++◌, length, refl, sym, ap, ◌∙◌, append_assoc}
use Rattle.decl_grammar.specs.declared.symbol.Symbol.{Symbol}
use Rattle.decl_grammar.specs.Symbols.{operator}
use Rattle.decl_grammar.specs.TokenNames as token
use Rattle.decl_grammar.specs.Reading.{Outcome, done, fault, deep, ◌>>=◌}
use Rattle.decl_grammar.specs.Form.{Stands, Freedom, After, Part, Rest, Behind, freedom_in, between, colons, one_of, type_reference, expression_rest, value_end, turn, nest, attempted, failed_at, further_of, turned}
use Rattle.decl_grammar.specs.Expressions.{part_symbols, with_symbols, step, two_readings, no_symbols}
use Rattle.decl_grammar.specs.Rule.{read_nest, reads}
use Rattle.decl_grammar.specs.Rows.{failed_upto, further_than, row_from}
use Rattle.decl_grammar.proofs.TypeWins.{type-wins}

-- ---- places of faults

further-yes : (a b : List Symbol) → nat_le (length a) (length b) ≡ true → further_of a b ≡ a
further-yes a b e = rw e refl

further-no : (a b : List Symbol) → nat_le (length a) (length b) ≡ false → further_of a b ≡ b
further-no a b e = rw e refl

further-joined : (a b c : List Symbol) → further_of a (further_of b c) ≡ further_of (further_of a b) c
further-joined a b c = go (nat_le (length a) (length b)) (nat_le (length b) (length c)) (nat_le (length a) (length c)) refl refl refl
  where
    go : (x y z : Bool) → nat_le (length a) (length b) ≡ x → nat_le (length b) (length c) ≡ y → nat_le (length a) (length c) ≡ z → further_of a (further_of b c) ≡ further_of (further_of a b) c
    go true true true ex ey ez = ap (λ (u : List Symbol). further_of a u) (further-yes b c ey) ∙ further-yes a b ex ∙ sym (ap (λ (u : List Symbol). further_of u c) (further-yes a b ex) ∙ further-yes a c ez)
    go true true false ex ey ez = absurd (grind (arith, ex, ey, ez))
    go true false z ex ey ez = ap (λ (u : List Symbol). further_of a u) (further-no b c ey) ∙ sym (ap (λ (u : List Symbol). further_of u c) (further-yes a b ex))
    go false true z ex ey ez = ap (λ (u : List Symbol). further_of a u) (further-yes b c ey) ∙ further-no a b ex ∙ sym (ap (λ (u : List Symbol). further_of u c) (further-no a b ex) ∙ further-yes b c ey)
    go false false true ex ey ez = absurd (grind (arith, ex, ey, ez))
    go false false false ex ey ez = ap (λ (u : List Symbol). further_of a u) (further-no b c ey) ∙ further-no a c ez ∙ sym (ap (λ (u : List Symbol). further_of u c) (further-no a b ex) ∙ further-no b c ey)

failed-joined : {A : Type 0} (a b : List Symbol) (o : Outcome A) → failed_at a (failed_at b o) ≡ failed_at (further_of a b) o
failed-joined a b (done x rest) = refl
failed-joined a b (fault to) = ap (λ (u : List Symbol). fault u) (further-joined a b to)
failed-joined a b (deep to) = refl

pub failed-more : {A : Type 0} (far : Option (List Symbol)) (at : List Symbol) (o : Outcome A) → failed_upto far (failed_at at o) ≡ failed_upto (Some (further_than far at)) o
failed-more None at o = refl
failed-more (Some a) at o = failed-joined a at o

failed-turned : {A B : Type 0} (at : List Symbol) (h : A → B) (o : Outcome A) → turned h (failed_at at o) ≡ failed_at at (turned h o)
failed-turned at h (done x rest) = refl
failed-turned at h (fault to) = refl
failed-turned at h (deep to) = refl

-- ---- symbols in front

with-more : {B : Type 0} (us ps : List Symbol) (y : List Symbol × B) → with_symbols (us, with_symbols (ps, y)) ≡ with_symbols (us ++ ps, y)
with-more {B} us ps y = ap (λ (u : List Symbol). pairing u y.1) (sym (append_assoc us ps y.0))
  where
    pairing : List Symbol → B → List Symbol × B
    pairing u b = (u, b)

turned-more : {B : Type 0} (us ps : List Symbol) (o : Outcome (List Symbol × B)) → turned (λ y. with_symbols (us, y)) (turned (λ y. with_symbols (ps, y)) o) ≡ turned (λ y. with_symbols (us ++ ps, y)) o
turned-more {B} us ps (done y rest) = ap (λ (z : List Symbol × B). done z rest) (with-more us ps y)
turned-more us ps (fault at) = refl
turned-more us ps (deep at) = refl

-- ---- one part

-- a part that was read, and the rest behind it
pub step-reads : (s : Stands) (p : Part) (w : Freedom) (a : After) (room : ℕ) (ts ps rest : List Symbol) → reads room (part_symbols s p) ts ≡ done ps rest
    → reads room (step s p w a) ts ≡ turned (λ y. with_symbols (ps, y)) (read_nest room (expression_rest s w a) rest)
unfolding step
step-reads s p w a room ts ps rest e = rw e (joined (read_nest room (expression_rest s w a) rest))
  where
    joined : (o : Outcome (Rest s)) → ((o >>= λ y after. done (ps, y) after) >>= λ x rest. done (with_symbols x) rest) ≡ turned (λ y. with_symbols (ps, y)) o
    joined (done y after) = refl
    joined (fault at) = refl
    joined (deep at) = refl

pub step-fails : (s : Stands) (p : Part) (w : Freedom) (a : After) (room : ℕ) (ts at : List Symbol) → reads room (part_symbols s p) ts ≡ fault at → reads room (step s p w a) ts ≡ fault at
unfolding step
step-fails s p w a room ts at e = rw e refl

pub step-deep : (s : Stands) (p : Part) (w : Freedom) (a : After) (room : ℕ) (ts at : List Symbol) → reads room (part_symbols s p) ts ≡ deep at → reads room (step s p w a) ts ≡ deep at
unfolding step
step-deep s p w a room ts at e = rw e refl

-- ---- one turn of a loop

-- a part
pub row-goes : (s : Stands) (far : Option (List Symbol)) (us : List Symbol) (room : ℕ) (w v : Freedom) (a b : After) (p : Part) (ts ps rest : List Symbol) → read_nest room (expression_rest s w a) ts ≡ reads room (step s p v b) ts
    → reads room (part_symbols s p) ts ≡ done ps rest → row_from s far us room w a ts ≡ row_from s far (us ++ ps) room v b rest
row-goes s far us room w v a b p ts ps rest e d =
    ap (λ (o : Outcome (Rest s)). failed_upto far (turned (λ y. with_symbols (us, y)) o)) (e ∙ step-reads s p v b room ts ps rest d)
    ∙ ap (λ (o : Outcome (Rest s)). failed_upto far o) (turned-more us ps (read_nest room (expression_rest s v b) rest))

-- a part that fails
pub row-fails : (s : Stands) (far : Option (List Symbol)) (us : List Symbol) (room : ℕ) (w v : Freedom) (a b : After) (p : Part) (ts at : List Symbol) → read_nest room (expression_rest s w a) ts ≡ reads room (step s p v b) ts
    → reads room (part_symbols s p) ts ≡ fault at → row_from s far us room w a ts ≡ failed_upto far (fault at)
row-fails s far us room w v a b p ts at e d = ap (λ (o : Outcome (Rest s)). failed_upto far (turned (λ y. with_symbols (us, y)) o)) (e ∙ step-fails s p v b room ts at d)

-- a part that is too deep
pub row-deep : (s : Stands) (far : Option (List Symbol)) (us : List Symbol) (room : ℕ) (w v : Freedom) (a b : After) (p : Part) (ts at : List Symbol) → read_nest room (expression_rest s w a) ts ≡ reads room (step s p v b) ts
    → reads room (part_symbols s p) ts ≡ deep at → row_from s far us room w a ts ≡ deep at
row-deep s None us room w v a b p ts at e d = ap (λ (o : Outcome (Rest s)). turned (λ y. with_symbols (us, y)) o) (e ∙ step-deep s p v b room ts at d)
row-deep s (Some to) us room w v a b p ts at e d = ap (λ (o : Outcome (Rest s)). failed_at to (turned (λ y. with_symbols (us, y)) o)) (e ∙ step-deep s p v b room ts at d)

-- a type with its `::`, where both readings might have been
pub row-types : (s : Stands) (far : Option (List Symbol)) (us : List Symbol) (room : ℕ) (w v : Freedom) (a : After) (ts ps rest : List Symbol) → read_nest room (expression_rest s w a) ts ≡ reads room (two_readings s (freedom_in s v)) ts
    → reads room (part_symbols s type_reference) ts ≡ done ps rest → row_from s far us room w a ts ≡ row_from s far (us ++ ps) room (freedom_in s v) colons rest
row-types s far us room w v a ts ps rest e d =
    ap (λ (o : Outcome (Rest s)). failed_upto far (turned (λ y. with_symbols (us, y)) o)) (e ∙ type-wins s v room ts ps rest d)
    ∙ ap (λ (o : Outcome (Rest s)). failed_upto far o) (turned-more us ps (read_nest room (expression_rest s (freedom_in s v) colons) rest))

-- no type there: the operator, and the place at which the type failed
pub row-compares : (s : Stands) (far : Option (List Symbol)) (us : List Symbol) (room : ℕ) (w v : Freedom) (a : After) (ts at ps rest : List Symbol) → read_nest room (expression_rest s w a) ts ≡ reads room (two_readings s v) ts
    → reads room (part_symbols s type_reference) ts ≡ fault at → reads room (part_symbols s (one_of (operator token.less_than ∷ []))) ts ≡ done ps rest → row_from s far us room w a ts ≡ row_from s (Some (further_than far at)) (us ++ ps) room v between rest
unfolding two_readings
row-compares s far us room w v a ts at ps rest e d f =
    let other = reads room (step s (one_of (operator token.less_than ∷ [])) v between) ts in
    ap (λ (o : Outcome (Rest s)). failed_upto far (turned (λ y. with_symbols (us, y)) o)) (e ∙ ap (λ (o : Outcome (Rest s)). attempted o other) (step-fails s type_reference v colons room ts at d))
    ∙ ap (λ (o : Outcome (Rest s)). failed_upto far o) (failed-turned at (λ y. with_symbols (us, y)) other)
    ∙ failed-more far at (turned (λ y. with_symbols (us, y)) other)
    ∙ ap (λ (o : Outcome (Rest s)). failed_upto (Some (further_than far at)) (turned (λ y. with_symbols (us, y)) o)) (step-reads s (one_of (operator token.less_than ∷ [])) v between room ts ps rest f)
    ∙ ap (λ (o : Outcome (Rest s)). failed_upto (Some (further_than far at)) o) (turned-more us ps (read_nest room (expression_rest s v between) rest))

-- a type that is too deep
pub row-sinks : (s : Stands) (far : Option (List Symbol)) (us : List Symbol) (room : ℕ) (w v : Freedom) (a : After) (ts at : List Symbol) → read_nest room (expression_rest s w a) ts ≡ reads room (two_readings s v) ts
    → reads room (part_symbols s type_reference) ts ≡ deep at → row_from s far us room w a ts ≡ deep at
unfolding two_readings
row-sinks s None us room w v a ts at e d =
    ap (λ (o : Outcome (Rest s)). turned (λ y. with_symbols (us, y)) o) (e ∙ ap (λ (o : Outcome (Rest s)). attempted o (reads room (step s (one_of (operator token.less_than ∷ [])) v between) ts)) (step-deep s type_reference v colons room ts at d))
row-sinks s (Some to) us room w v a ts at e d =
    ap (λ (o : Outcome (Rest s)). failed_at to (turned (λ y. with_symbols (us, y)) o)) (e ∙ ap (λ (o : Outcome (Rest s)). attempted o (reads room (step s (one_of (operator token.less_than ∷ [])) v between) ts)) (step-deep s type_reference v colons room ts at d))

-- the end of the expression, and what stands behind it
pub row-ends : (s : Stands) (far : Option (List Symbol)) (us : List Symbol) (room : ℕ) (w : Freedom) (a : After) (ts : List Symbol) → read_nest room (expression_rest s w a) ts ≡ reads room (turn no_symbols (nest (value_end s))) ts
    → row_from s far us room w a ts ≡ failed_upto far (turned (λ y. (us ++ [], y)) (read_nest room (value_end s) ts))
row-ends s far us room w a ts e =
    ap (λ (o : Outcome (Rest s)). failed_upto far (turned (λ y. with_symbols (us, y)) o)) e ∙ ap (λ (o : Outcome (Rest s)). failed_upto far o) (joined (read_nest room (value_end s) ts))
  where
    joined : (o : Outcome (Behind s)) → turned (λ y. with_symbols (us, y)) (turned no_symbols o) ≡ turned (λ y. (us ++ [], y)) o
    joined (done y rest) = refl
    joined (fault at) = refl
    joined (deep at) = refl
