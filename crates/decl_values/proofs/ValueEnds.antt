-- Single values, up to what stands behind them.
use Rattle.std.specs.Prelude.{◌-◌, take}
use Rattle.std.proofs.Common.{◌≡◌, ℕ, arith, ◌≤◌, true, false, None, List, [], ◌∷◌, length, length-append, refl, sym, ap, subst, ◌∙◌}
use Rattle.decl_turns.specs.declared.states.Place.{Place}
use Rattle.decl_turns.specs.declared.states.Place.TheVariants as place
use Rattle.decl_values.specs.declared.reached.End.{End}
use Rattle.decl_tree.specs.declared.annotation.ValueText.{ValueText}
use Rattle.decl_tree.specs.declared.annotation.ValueText.TheVariants as value
use Rattle.decl_tree.specs.declared.annotation.AnnotationText.{AnnotationText}
use Rattle.decl_grammar.specs.declared.symbol.Symbol.{Symbol}
use Rattle.decl_grammar.specs.declared.fault.ReadFault.{ReadFault}
use Rattle.decl_grammar.specs.declared.fault.ReadFault.TheVariants as faults
use Rattle.decl_grammar.specs.Constants.{expression_of}
use Rattle.decl_grammar.specs.Reading.{starts, Outcome, done, fault, deep, ◌>>=◌, one_at, Fails}
use Rattle.decl_grammar.specs.Form.{Stands, Behind, is_value, ats, alone, paired, listed, defaulted, assigned, array_value, nested_annotation, value_and_rest, value_end, nest, turned}
use Rattle.decl_grammar.specs.Expressions.{value_of, value_form, value_there, annotation_there, expression}
use Rattle.decl_grammar.specs.Rule.{read_nest, reads}
use Rattle.decl_grammar.specs.Rows.{failed_upto}
use Rattle.decl_grammar.proofs.Told.{read_of-front}
use Rattle.decl_grammar.proofs.Loop.{turned_fails}
use Rattle.decl_grammar.proofs.Nests.{free-is, fewer}
use Rattle.decl_turns.specs.States.{stands_of, expression_read}
use Rattle.decl_values.specs.Ends.{fallen_of, Ended, ReadUpTo, value_read}
use Rattle.decl_values.proofs.RowTurns.{fallen-fails}
use Rattle.decl_values.proofs.RowItems.{turned-upto, done-upto}

-- a value is an array, an annotation or an expression, with what stands behind it
value-is : (room : ℕ) (s : Stands) (ts : List Symbol) → is_value s ≡ true → read_nest room (value_and_rest s) ts ≡ reads room (value_of s) ts
unfolding value_form value_of
value-is room alone ts e = free-is (value_and_rest alone) refl room ts
value-is room paired ts e = free-is (value_and_rest paired) refl room ts
value-is room listed ts e = free-is (value_and_rest listed) refl room ts
value-is room defaulted ts e = free-is (value_and_rest defaulted) refl room ts
value-is room assigned ts e = absurd cc

abbrev array_then : ℕ → (s : Stands) → Outcome ValueText → Outcome (ValueText × Behind s)
array_then room s o = o >>= λ x rest. read_nest room (value_end s) rest >>= λ y after. done (x, y) after

abbrev annotation_then : ℕ → (s : Stands) → Outcome AnnotationText → Outcome (ValueText × Behind s)
annotation_then room s o = turned annotation_there (o >>= λ x rest. read_nest room (value_end s) rest >>= λ y after. done (x, y) after)

array-is : (room : ℕ) (p : Place) (ts : List Symbol) → is_value (stands_of p) ≡ true → starts (63 ∷ []) ts ≡ true → value_read room p ts ≡ array_then room (stands_of p) (read_nest room array_value ts)
unfolding value_of
array-is room p ts v s = value-is room (stands_of p) ts v ∙ rw s refl

annotation-is : (room : ℕ) (p : Place) (ts : List Symbol) → is_value (stands_of p) ≡ true → starts (63 ∷ []) ts ≡ false → starts ats ts ≡ true → value_read room p ts ≡ annotation_then room (stands_of p) (read_nest room nested_annotation ts)
unfolding value_of
annotation-is room p ts v s a = value-is room (stands_of p) ts v ∙ rw (s, a) refl

pub expression-is : (room : ℕ) (p : Place) (ts : List Symbol) → is_value (stands_of p) ≡ true → starts (63 ∷ []) ts ≡ false → starts ats ts ≡ false → value_read room p ts ≡ turned value_there (expression_read room p ts)
unfolding value_of
expression-is room p ts v s a = value-is room (stands_of p) ts v ∙ rw (s, a) refl

pub array-read : (room : ℕ) (p : Place) (ts : List Symbol) (x : ValueText) (end : End) → is_value (stands_of p) ≡ true → starts (63 ∷ []) ts ≡ true → read_nest room array_value ts ≡ done x end.rest.now → end.far ≡ None
    → ReadUpTo room p (value_read room p ts) ts x end
array-read room p ts x end v s e f = record { fewer = fewer room (nest array_value) ts x end.rest.now e; far = None; kept = f; same = array-is room p ts v s ∙ ap (array_then room (stands_of p)) e }

pub array-fails : (room : ℕ) (p : Place) (ts : List Symbol) (e : ReadFault) → is_value (stands_of p) ≡ true → starts (63 ∷ []) ts ≡ true → Fails e (read_nest room array_value ts) → Fails e (value_read room p ts)
array-fails room p ts faults.Memory v s f = tt
array-fails room p ts (faults.Bad n) v s f = (f.0, array-is room p ts v s ∙ ap (array_then room (stands_of p)) f.1, f.2)
array-fails room p ts (faults.Deep n) v s f = (f.0, array-is room p ts v s ∙ ap (array_then room (stands_of p)) f.1, f.2)

pub annotation-read : (room : ℕ) (p : Place) (ts : List Symbol) (x : AnnotationText) (end : End) → is_value (stands_of p) ≡ true → starts (63 ∷ []) ts ≡ false → starts ats ts ≡ true → read_nest room nested_annotation ts ≡ done x end.rest.now → end.far ≡ None
    → ReadUpTo room p (value_read room p ts) ts (value.Nested x) end
annotation-read room p ts x end v s a e f =
    record { fewer = fewer room (nest nested_annotation) ts x end.rest.now e; far = None; kept = f; same = annotation-is room p ts v s a ∙ (ap (annotation_then room (stands_of p)) e ∙ joined (read_nest room (value_end (stands_of p)) end.rest.now)) }
  where
    joined : (o : Outcome (Behind (stands_of p))) → turned annotation_there (o >>= λ y after. done (x, y) after) ≡ turned (λ y. (value.Nested x, y)) o
    joined (done y after) = refl
    joined (fault at) = refl
    joined (deep at) = refl

pub annotation-fails : (room : ℕ) (p : Place) (ts : List Symbol) (e : ReadFault) → is_value (stands_of p) ≡ true → starts (63 ∷ []) ts ≡ false → starts ats ts ≡ true → Fails e (read_nest room nested_annotation ts) → Fails e (value_read room p ts)
annotation-fails room p ts faults.Memory v s a f = tt
annotation-fails room p ts (faults.Bad n) v s a f = (f.0, annotation-is room p ts v s a ∙ ap (annotation_then room (stands_of p)) f.1, f.2)
annotation-fails room p ts (faults.Deep n) v s a f = (f.0, annotation-is room p ts v s a ∙ ap (annotation_then room (stands_of p)) f.1, f.2)

-- ---- expressions as values

pub ended-left : (room : ℕ) (p : Place) (ts : List Symbol) (end : End) → Ended room p (expression_read room p ts) ts end → length end.rest.now ≤ length ts
ended-left room p ts end r = omega (arith, ap (λ (u : List Symbol). length u) r.parts, length-append r.passed end.rest.now)

pub ended-value : (room : ℕ) (p : Place) (ts : List Symbol) (v : ValueText) (end : End) → Ended room p (expression_read room p ts) ts end → v ≡ expression_of (take (length ts - length end.rest.now) ts)
    → ReadUpTo room p (turned value_there (expression_read room p ts)) ts v end
ended-value room p ts v end r e = record {
  fewer = ended-left room p ts end r;
  far = r.far;
  kept = r.kept;
  same =
      ap (turned value_there) r.same
      ∙ (turned-upto value_there r.far (turned (λ y. (r.passed, y)) (read_nest room (value_end (stands_of p)) end.rest.now))
      ∙ ap (failed_upto r.far) (joined (read_nest room (value_end (stands_of p)) end.rest.now) ∙ ap (λ (x : ValueText). turned (λ y. (x, y)) (read_nest room (value_end (stands_of p)) end.rest.now)) meaning));
}
  where
    meaning : expression_of r.passed ≡ v
    meaning = ap expression_of (sym (read_of-front ts r.passed end.rest.now r.parts)) ∙ sym e

    joined : (o : Outcome (Behind (stands_of p))) → turned value_there (turned (λ y. (r.passed, y)) o) ≡ turned (λ y. (expression_of r.passed, y)) o
    joined (done y after) = refl
    joined (fault at) = refl
    joined (deep at) = refl

-- ---- a value alone, and a default

pub lone-read : (room : ℕ) (ts rest : List Symbol) (v : ValueText) (end : End) (t : Symbol) → ReadUpTo room place.Alone (value_read room place.Alone ts) ts v end → one_at (62 ∷ []) end.rest.now ≡ done t rest → value_read room place.Alone ts ≡ done (v, tt) rest
lone-read room ts rest v end t r e = r.same ∙ (rw (free-is (value_end alone) refl room end.rest.now, e) (done-upto r.far (v, tt) rest))

pub lone-fails : (room : ℕ) (ts : List Symbol) (v : ValueText) (end : End) (e : ReadFault) → ReadUpTo room place.Alone (value_read room place.Alone ts) ts v end → Fails e (one_at (62 ∷ []) end.rest.now) → Fails (fallen_of end.far e) (value_read room place.Alone ts)
lone-fails room ts v end e r f =
    subst (λ (o : Outcome (ValueText × Unit {0})). Fails (fallen_of end.far e) o) (sym (r.same ∙ ap (λ (o : Outcome (Unit {0})). failed_upto r.far (turned (λ y. (v, y)) o)) (free-is (value_end alone) refl room end.rest.now)))
    (fallen-fails end.far r.far e _ r.kept (turned_fails (λ y. (v, y)) e _ (turned_fails (λ x. tt) e (one_at (62 ∷ []) end.rest.now) f)))

pub default-read : (room : ℕ) (ts rest : List Symbol) (v : ValueText) (end : End) (t : Symbol) → ReadUpTo room place.Defaulted (value_read room place.Defaulted ts) ts v end → one_at (67 ∷ []) end.rest.now ≡ done t rest → value_read room place.Defaulted ts ≡ done (v, tt) rest
default-read room ts rest v end t r e = r.same ∙ (rw (free-is (value_end defaulted) refl room end.rest.now, e) (done-upto r.far (v, tt) rest))

pub default-fails : (room : ℕ) (ts : List Symbol) (v : ValueText) (end : End) (e : ReadFault) → ReadUpTo room place.Defaulted (value_read room place.Defaulted ts) ts v end → Fails e (one_at (67 ∷ []) end.rest.now) → Fails (fallen_of end.far e) (value_read room place.Defaulted ts)
default-fails room ts v end e r f =
    subst (λ (o : Outcome (ValueText × Unit {0})). Fails (fallen_of end.far e) o) (sym (r.same ∙ ap (λ (o : Outcome (Unit {0})). failed_upto r.far (turned (λ y. (v, y)) o)) (free-is (value_end defaulted) refl room end.rest.now)))
    (fallen-fails end.far r.far e _ r.kept (turned_fails (λ y. (v, y)) e _ (turned_fails (λ x. tt) e (one_at (67 ∷ []) end.rest.now) f)))
