-- Rows of values, pairs and fields: one item more, where readings of types failed before it and in it.
use Rattle.std.proofs.Common.{◌≡◌, ℕ, Bool, true, false, cond, Option, Some, None, List, [], ◌∷◌, ◌++◌, length, refl, sym, ap, subst, ◌∙◌, append_assoc}
use Rattle.decl_turns.specs.declared.states.Place.TheVariants as place
use Rattle.decl_values.specs.declared.reached.End.{End}
use Rattle.decl_tree.specs.declared.annotation.ValueText.{ValueText}
use Rattle.decl_tree.specs.declared.annotation.ElementValuePair.{ElementValuePair}
use Rattle.decl_grammar.specs.declared.symbol.Symbol.{Symbol}
use Rattle.decl_grammar.specs.declared.fault.ReadFault.{ReadFault}
use Rattle.decl_grammar.specs.declared.fault.ReadFault.TheVariants as faults
use Rattle.decl_grammar.specs.Reading.{starts, Outcome, done, fault, deep, ◌>>=◌, one_at, Fails}
use Rattle.decl_grammar.specs.Form.{listed, paired, value_end, value_and_rest, turned, with_front}
use Rattle.decl_grammar.specs.Types.{pair_of, pair_and_rest, name, next_pair, no_values, no_pairs}
use Rattle.decl_grammar.specs.Expressions.{value_and_more, listed_values, listed_end, listed_more, paired_end}
use Rattle.decl_grammar.specs.Rule.{read_nest, reads}
use Rattle.decl_grammar.specs.Rows.{failed_upto, further_than}
use Rattle.decl_grammar.proofs.Loop.{turned_fails}
use Rattle.decl_grammar.proofs.Nests.{free-is}
use Rattle.decl_grammar.proofs.RowReads.{failed-more}
use Rattle.decl_values.specs.Ends.{counted, less_of, furthest_of, fallen_of, ReadUpTo, value_read, listed_step, paired_step, values_from, pairs_from, SoFar, ItemRead, ItemFails, later_if, pairs_later}
use Rattle.decl_values.proofs.RowTurns.{less-counted, fallen-fails}
use Rattle.decl_names.proofs.Smaller.{behind_symbol}

-- ---- places of faults, one behind the other

abbrev pub both_far : Option (List Symbol) → Option (List Symbol) → Option (List Symbol)
both_far far None = far
both_far far (Some at) = Some (further_than far at)

pub both-counted : (n m : Option ℕ) (far more : Option (List Symbol)) → n ≡ counted far → m ≡ counted more → furthest_of n m ≡ counted (both_far far more)
both-counted n m far None k j = ap (furthest_of n) j ∙ k
both-counted n m far (Some at) k j = ap (furthest_of n) j ∙ ap (λ (x : ℕ). Some x) (ap (λ (x : Option ℕ). less_of x (length at)) k ∙ less-counted far at)

pub both-failed : {A : Type 0} (far more : Option (List Symbol)) (o : Outcome A) → failed_upto far (failed_upto more o) ≡ failed_upto (both_far far more) o
both-failed far None o = refl
both-failed far (Some at) o = failed-more far at o

pub turned-upto : {A B : Type 0} (h : A → B) (far : Option (List Symbol)) (o : Outcome A) → turned h (failed_upto far o) ≡ failed_upto far (turned h o)
turned-upto h None o = refl
turned-upto h (Some at) (done x rest) = refl
turned-upto h (Some at) (fault to) = refl
turned-upto h (Some at) (deep to) = refl

pub done-upto : {A : Type 0} (far : Option (List Symbol)) (x : A) (rest : List Symbol) → failed_upto far (done x rest) ≡ done x rest
done-upto None x rest = refl
done-upto (Some at) x rest = refl

-- ---- one item

-- An item x was read up to here, and what is read is x before what stands behind it (`end`), where readings failed in it.
abbrev pub Before : {A : Type 0} → Outcome (List A) → A → Option (List Symbol) → Outcome (List A) → Type 0
Before read x more behind = read ≡ failed_upto more (turned (λ xs. x ∷ xs) behind)

front-more : {A : Type 0} (front : List A) (x : A) (o : Outcome (List A)) → with_front front (turned (λ xs. x ∷ xs) o) ≡ with_front (front ++ x ∷ []) o
front-more {A} front x (done xs rest) = ap (λ (ys : List A). done ys rest) (sym (append_assoc front (x ∷ []) xs))
front-more front x (fault at) = refl
front-more front x (deep at) = refl

-- the last item
pub item-last : {A : Type 0} (read : Outcome (List A)) (x : A) (more : Option (List Symbol)) (rest : List Symbol) → Before read x more (done [] rest) → read ≡ done (x ∷ []) rest
item-last read x more rest e = e ∙ done-upto more (x ∷ []) rest

-- one behind which others come
pub item-more : {A : Type 0} (read later : Outcome (List A)) (x : A) (n m : Option ℕ) (more : Option (List Symbol)) → m ≡ counted more → Before read x more later
    → (total : Outcome (List A)) (front : List A) → SoFar total front n read → SoFar total (front ++ x ∷ []) (furthest_of n m) later
item-more read later x n m more j e total front r = record {
  to = both_far r.to more;
  kept = both-counted n m r.to more r.kept j;
  same =
      r.same
      ∙ (ap (λ (o : Outcome (List _)). failed_upto r.to (with_front front o)) e
      ∙ (ap (failed_upto r.to) (turned-upto (λ xs. front ++ xs) more (turned (λ xs. x ∷ xs) later))
      ∙ (both-failed r.to more (with_front front (turned (λ xs. x ∷ xs) later)) ∙ ap (failed_upto (both_far r.to more)) (front-more front x later))));
}

-- a fault of an item, and one behind it
pub item-errs : {A : Type 0} (read : Outcome (List A)) (n : Option ℕ) (e : ReadFault) → Fails e read → ItemFails read n (fallen_of n e)
item-errs read n e f total front r = subst (λ (o : Outcome (List _)). Fails (fallen_of n e) o) (sym r.same) (fallen-fails n r.to e (with_front front read) r.kept (turned_fails (λ xs. front ++ xs) e read f))

pub item-ends : {A : Type 0} (read behind : Outcome (List A)) (x : A) (n m : Option ℕ) (more : Option (List Symbol)) (e : ReadFault) → m ≡ counted more → Before read x more behind → Fails e behind → ItemFails read n (fallen_of (furthest_of n m) e)
item-ends read behind x n m more e j b f total front r =
    let s = item-more read behind x n m more j b total front r in
    subst (λ (o : Outcome (List _)). Fails (fallen_of (furthest_of n m) e) o) (sym s.same) (fallen-fails (furthest_of n m) s.to e (with_front (front ++ x ∷ []) behind) s.kept (turned_fails (λ xs. (front ++ x ∷ []) ++ xs) e behind f))

-- ---- the loops

pub so-starts : {A : Type 0} (read : Outcome (List A)) → SoFar read [] None read
so-starts {A} read = record { to = None; kept = refl; same = sym (nothing-front read) }
  where
    nothing-front : (o : Outcome (List A)) → with_front [] o ≡ o
    nothing-front (done xs rest) = refl
    nothing-front (fault at) = refl
    nothing-front (deep at) = refl

pub so-ends : {A : Type 0} (total read : Outcome (List A)) (front : List A) (n : Option ℕ) (x : A) (rest : List Symbol) → SoFar total front n read → read ≡ done (x ∷ []) rest → total ≡ done (front ++ x ∷ []) rest
so-ends total read front n x rest r e = r.same ∙ (ap (λ (o : Outcome (List _)). failed_upto r.to (with_front front o)) e ∙ done-upto r.to (front ++ x ∷ []) rest)

-- ---- what stands behind a value of an array

value-before : (room : ℕ) (ts : List Symbol) (v : ValueText) (end : End) (r : ReadUpTo room place.Listed (value_read room place.Listed ts) ts v end)
    → Before (values_from room ts) v r.far (read_nest room (value_end listed) end.rest.now)
unfolding listed_values
value-before room ts v end r = ap (turned value_and_more) r.same ∙ (turned-upto value_and_more r.far (turned (λ y. (v, y)) (read_nest room (value_end listed) end.rest.now)) ∙ ap (failed_upto r.far) (joined (read_nest room (value_end listed) end.rest.now)))
  where
    joined : (o : Outcome (List ValueText)) → turned value_and_more (turned (λ y. (v, y)) o) ≡ turned (λ xs. v ∷ xs) o
    joined (done xs rest) = refl
    joined (fault at) = refl
    joined (deep at) = refl

abbrev listed_behind : ℕ → Outcome Bool → Outcome (List ValueText)
listed_behind room (done true rest) = values_from room rest
listed_behind room (done false rest) = done [] rest
listed_behind room (fault at) = fault at
listed_behind room (deep at) = deep at

listed-is : (room : ℕ) (ts : List Symbol) → read_nest room (value_end listed) ts ≡ listed_behind room (listed_step ts)
unfolding listed_more listed_end
listed-is room ts = free-is (value_end listed) refl room ts ∙ go (starts (64 ∷ []) ts) (one_at (64 ∷ []) ts) (one_at (68 ∷ []) ts)
  where
    closing : (o : Outcome Symbol) → turned no_values o ≡ listed_behind room (o >>= λ s rest. done false rest)
    closing (done s rest) = refl
    closing (fault at) = refl
    closing (deep at) = refl

    second : {B : Type 0} (s : Symbol) (o : Outcome B) → turned behind_symbol (o >>= λ y after. done (s, y) after) ≡ o
    second s (done y after) = refl
    second s (fault at) = refl
    second s (deep at) = refl

    inner : (c : Bool) (rest : List Symbol) → cond c (turned no_values (one_at (64 ∷ []) rest)) (values_from room rest) ≡ listed_behind room (cond c (one_at (64 ∷ []) rest >>= λ z after. done false after) (done true rest))
    inner true rest = closing (one_at (64 ∷ []) rest)
    inner false rest = refl

    comma : (o : Outcome Symbol) → turned behind_symbol (o >>= λ s rest. cond (starts (64 ∷ []) rest) (turned no_values (one_at (64 ∷ []) rest)) (values_from room rest) >>= λ y after. done (s, y) after)
        ≡ listed_behind room (o >>= λ s rest. cond (starts (64 ∷ []) rest) (one_at (64 ∷ []) rest >>= λ z after. done false after) (done true rest))
    comma (done s rest) = second s (cond (starts (64 ∷ []) rest) (turned no_values (one_at (64 ∷ []) rest)) (values_from room rest)) ∙ inner (starts (64 ∷ []) rest) rest
    comma (fault at) = refl
    comma (deep at) = refl

    go : (c : Bool) (p q : Outcome Symbol)
        → cond c (turned no_values p) (turned behind_symbol (q >>= λ s rest. cond (starts (64 ∷ []) rest) (turned no_values (one_at (64 ∷ []) rest)) (values_from room rest) >>= λ y after. done (s, y) after))
        ≡ listed_behind room (cond c (p >>= λ s rest. done false rest) (q >>= λ s rest. cond (starts (64 ∷ []) rest) (one_at (64 ∷ []) rest >>= λ z after. done false after) (done true rest)))
    go true p q = closing p
    go false p q = comma q

pub listed-read : (room : ℕ) (n : Option ℕ) (ts rest : List Symbol) (v : ValueText) (end final : End) (more : Bool) (r : ReadUpTo room place.Listed (value_read room place.Listed ts) ts v end)
    → listed_step end.rest.now ≡ done more rest → final.rest.now ≡ rest → final.far ≡ furthest_of n end.far → ItemRead (values_from room ts) n v (later_if more (values_from room final.rest.now)) final
listed-read room n ts rest v end final false r s re fe =
    item-last (values_from room ts) v r.far final.rest.now (value-before room ts v end r ∙ ap (λ (o : Outcome (List ValueText)). failed_upto r.far (turned (λ xs. v ∷ xs) o)) (listed-is room end.rest.now ∙ (ap (listed_behind room) s ∙ ap (λ (u : List Symbol). done [] u) (sym re))))
listed-read room n ts rest v end final true r s re fe = λ total front so.
    subst (λ (m : Option ℕ). SoFar total (front ++ v ∷ []) m (values_from room final.rest.now)) (sym fe)
    (item-more (values_from room ts) (values_from room final.rest.now) v n end.far r.far r.kept
    (value-before room ts v end r ∙ ap (λ (o : Outcome (List ValueText)). failed_upto r.far (turned (λ xs. v ∷ xs) o)) (listed-is room end.rest.now ∙ (ap (listed_behind room) s ∙ ap (values_from room) (sym re))))
    total front so)

pub listed-fails : (room : ℕ) (n : Option ℕ) (ts : List Symbol) (e : ReadFault) → Fails e (value_read room place.Listed ts) → ItemFails (values_from room ts) n (fallen_of n e)
unfolding listed_values
listed-fails room n ts e f = item-errs (values_from room ts) n e (turned_fails value_and_more e (value_read room place.Listed ts) f)

listed-behind-fails : (room : ℕ) (e : ReadFault) (o : Outcome Bool) → Fails e o → Fails e (listed_behind room o)
listed-behind-fails room faults.Memory o f = tt
listed-behind-fails room (faults.Bad m) o f = (f.0, ap (listed_behind room) f.1, f.2)
listed-behind-fails room (faults.Deep m) o f = (f.0, ap (listed_behind room) f.1, f.2)

pub listed-ends : (room : ℕ) (n : Option ℕ) (ts : List Symbol) (v : ValueText) (end : End) (e : ReadFault) (r : ReadUpTo room place.Listed (value_read room place.Listed ts) ts v end)
    → Fails e (listed_step end.rest.now) → ItemFails (values_from room ts) n (fallen_of (furthest_of n end.far) e)
listed-ends room n ts v end e r f =
    item-ends (values_from room ts) (read_nest room (value_end listed) end.rest.now) v n end.far r.far e r.kept (value-before room ts v end r)
    (subst (λ (o : Outcome (List ValueText)). Fails e o) (sym (listed-is room end.rest.now)) (listed-behind-fails room e (listed_step end.rest.now) f))

-- ---- what stands behind a value of a pair

abbrev pair_first : List ℕ → ValueText × List ElementValuePair → List ElementValuePair
pair_first text x = pair_of text x.0 ∷ x.1

pair-before : (room : ℕ) (text : List ℕ) (ts : List Symbol) (v : ValueText) (end : End) (r : ReadUpTo room place.Paired (value_read room place.Paired ts) ts v end)
    → Before (pairs_from room text ts) (pair_of text v) r.far (read_nest room (value_end paired) end.rest.now)
pair-before room text ts v end r =
    ap (turned (pair_first text)) r.same
    ∙ (turned-upto (pair_first text) r.far (turned (λ y. (v, y)) (read_nest room (value_end paired) end.rest.now)) ∙ ap (failed_upto r.far) (joined (read_nest room (value_end paired) end.rest.now)))
  where
    joined : (o : Outcome (List ElementValuePair)) → turned (pair_first text) (turned (λ y. (v, y)) o) ≡ turned (λ xs. pair_of text v ∷ xs) o
    joined (done xs rest) = refl
    joined (fault at) = refl
    joined (deep at) = refl

abbrev paired_behind : ℕ → Outcome (Option (List ℕ)) → Outcome (List ElementValuePair)
paired_behind room (done None rest) = done [] rest
paired_behind room (done (Some n) rest) = pairs_from room n rest
paired_behind room (fault at) = fault at
paired_behind room (deep at) = deep at

paired-is : (room : ℕ) (ts : List Symbol) → read_nest room (value_end paired) ts ≡ paired_behind room (paired_step room ts)
unfolding paired_end next_pair
paired-is room ts = free-is (value_end paired) refl room ts ∙ go (starts (62 ∷ []) ts) (one_at (62 ∷ []) ts) (one_at (68 ∷ []) ts)
  where
    closing : (o : Outcome Symbol) → turned no_pairs o ≡ paired_behind room (o >>= λ s rest. done None rest)
    closing (done s rest) = refl
    closing (fault at) = refl
    closing (deep at) = refl

    valued : (s : Symbol) (n : List ℕ) (z : Symbol) (o : Outcome (ValueText × List ElementValuePair))
        → turned behind_symbol (turned pair_and_rest (turned behind_symbol (o >>= λ y a. done (z, y) a) >>= λ y a. done (n, y) a) >>= λ y a. done (s, y) a) ≡ turned (pair_first n) o
    valued s n z (done y a) = refl
    valued s n z (fault at) = refl
    valued s n z (deep at) = refl

    equal : (s : Symbol) (n : List ℕ) (o : Outcome Symbol)
        → turned behind_symbol (turned pair_and_rest (turned behind_symbol (o >>= λ z b. read_nest room (value_and_rest paired) b >>= λ y a. done (z, y) a) >>= λ y a. done (n, y) a) >>= λ y a. done (s, y) a)
        ≡ paired_behind room (o >>= λ z after. done (Some n) after)
    equal s n (done z b) = valued s n z (read_nest room (value_and_rest paired) b)
    equal s n (fault at) = refl
    equal s n (deep at) = refl

    named : (s : Symbol) (o : Outcome (List ℕ))
        → turned behind_symbol (turned pair_and_rest (o >>= λ n b. turned behind_symbol (one_at (73 ∷ []) b >>= λ z d. read_nest room (value_and_rest paired) d >>= λ y a. done (z, y) a) >>= λ y a. done (n, y) a) >>= λ y a. done (s, y) a)
        ≡ paired_behind room (o >>= λ n behind. one_at (73 ∷ []) behind >>= λ z after. done (Some n) after)
    named s (done n b) = equal s n (one_at (73 ∷ []) b)
    named s (fault at) = refl
    named s (deep at) = refl

    comma : (o : Outcome Symbol)
        → turned behind_symbol (o >>= λ s rest. turned pair_and_rest (reads room name rest >>= λ n b. turned behind_symbol (one_at (73 ∷ []) b >>= λ z d. read_nest room (value_and_rest paired) d >>= λ y a. done (z, y) a) >>= λ y a. done (n, y) a) >>= λ y a. done (s, y) a)
        ≡ paired_behind room (o >>= λ s rest. reads room name rest >>= λ n behind. one_at (73 ∷ []) behind >>= λ z after. done (Some n) after)
    comma (done s rest) = named s (reads room name rest)
    comma (fault at) = refl
    comma (deep at) = refl

    go : (c : Bool) (p q : Outcome Symbol)
        → cond c (turned no_pairs p) (turned behind_symbol (q >>= λ s rest. turned pair_and_rest (reads room name rest >>= λ n b. turned behind_symbol (one_at (73 ∷ []) b >>= λ z d. read_nest room (value_and_rest paired) d >>= λ y a. done (z, y) a) >>= λ y a. done (n, y) a) >>= λ y a. done (s, y) a))
        ≡ paired_behind room (cond c (p >>= λ s rest. done None rest) (q >>= λ s rest. reads room name rest >>= λ n behind. one_at (73 ∷ []) behind >>= λ z after. done (Some n) after))
    go true p q = closing p
    go false p q = comma q

pub paired-read : (room : ℕ) (n : Option ℕ) (text : List ℕ) (ts rest : List Symbol) (v : ValueText) (end final : End) (next : Option (List ℕ)) (r : ReadUpTo room place.Paired (value_read room place.Paired ts) ts v end)
    → paired_step room end.rest.now ≡ done next rest → final.rest.now ≡ rest → final.far ≡ furthest_of n end.far → ItemRead (pairs_from room text ts) n (pair_of text v) (pairs_later room next final.rest.now) final
paired-read room n text ts rest v end final None r s re fe =
    item-last (pairs_from room text ts) (pair_of text v) r.far final.rest.now
    (pair-before room text ts v end r ∙ ap (λ (o : Outcome (List ElementValuePair)). failed_upto r.far (turned (λ xs. pair_of text v ∷ xs) o)) (paired-is room end.rest.now ∙ (ap (paired_behind room) s ∙ ap (λ (u : List Symbol). done [] u) (sym re))))
paired-read room n text ts rest v end final (Some named) r s re fe = λ total front so.
    subst (λ (m : Option ℕ). SoFar total (front ++ pair_of text v ∷ []) m (pairs_from room named final.rest.now)) (sym fe)
    (item-more (pairs_from room text ts) (pairs_from room named final.rest.now) (pair_of text v) n end.far r.far r.kept
    (pair-before room text ts v end r ∙ ap (λ (o : Outcome (List ElementValuePair)). failed_upto r.far (turned (λ xs. pair_of text v ∷ xs) o)) (paired-is room end.rest.now ∙ (ap (paired_behind room) s ∙ ap (pairs_from room named) (sym re))))
    total front so)

pub paired-fails : (room : ℕ) (n : Option ℕ) (text : List ℕ) (ts : List Symbol) (e : ReadFault) → Fails e (value_read room place.Paired ts) → ItemFails (pairs_from room text ts) n (fallen_of n e)
paired-fails room n text ts e f = item-errs (pairs_from room text ts) n e (turned_fails (pair_first text) e (value_read room place.Paired ts) f)

paired-behind-fails : (room : ℕ) (e : ReadFault) (o : Outcome (Option (List ℕ))) → Fails e o → Fails e (paired_behind room o)
paired-behind-fails room faults.Memory o f = tt
paired-behind-fails room (faults.Bad m) o f = (f.0, ap (paired_behind room) f.1, f.2)
paired-behind-fails room (faults.Deep m) o f = (f.0, ap (paired_behind room) f.1, f.2)

pub paired-ends : (room : ℕ) (n : Option ℕ) (text : List ℕ) (ts : List Symbol) (v : ValueText) (end : End) (e : ReadFault) (r : ReadUpTo room place.Paired (value_read room place.Paired ts) ts v end)
    → Fails e (paired_step room end.rest.now) → ItemFails (pairs_from room text ts) n (fallen_of (furthest_of n end.far) e)
paired-ends room n text ts v end e r f =
    item-ends (pairs_from room text ts) (read_nest room (value_end paired) end.rest.now) (pair_of text v) n end.far r.far e r.kept (pair-before room text ts v end r)
    (subst (λ (o : Outcome (List ElementValuePair)). Fails e o) (sym (paired-is room end.rest.now)) (paired-behind-fails room e (paired_step room end.rest.now) f))
