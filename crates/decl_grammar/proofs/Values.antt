-- In a value a type with arguments that a `::` follows is never read as a comparison.
use Rattle.std.proofs.Common.{◌≡◌, ℕ, zero, suc, true, false, List, [], ◌∷◌, ◌++◌, ◌⊎◌, refl, sym, ap, subst, ◌∙◌, append_assoc, inl, inr, ⊎_elim}
use Rattle.decl_tree.specs.declared.type_text.TypeText.{TypeText}
use Rattle.decl_tree.specs.declared.type_text.NamedPart.{NamedPart}
use Rattle.apt_base.specs.declared.around.Around.{Around}
use Rattle.decl_grammar.specs.declared.symbol.Symbol.{Symbol}
use Rattle.decl_grammar.specs.Symbols.{operator, numbers}
use Rattle.decl_grammar.specs.TokenNames as token
use Rattle.decl_grammar.specs.Reading.{has}
use Rattle.decl_grammar.specs.Form.{Stands, Freedom, Rest, is_value, first_of, names, ats, alone, paired, listed, defaulted, assigned, strict, conditional, anywhere, between, name_there, greater, colons, one_of, annotated, type_reference, type_arguments, expression_part, expression_rest, value_end, Form, pair, turn, many, either, nest, first, Each, Is, Begins}
use Rattle.decl_grammar.specs.Types.{sign, annotation, annotations, next_part, dim}
use Rattle.decl_grammar.specs.Expressions.{reference_form, annotated_form, part_symbols, step, told_steps, signs_form, other_steps, less_form, greater_dots, no_symbols, plain_dots, plain_squares}
use Rattle.decl_grammar.specs.Rule.{rule, WholeAt, BegunAt}
use Rattle.decl_grammar.proofs.OneToken.{not_both, within-has, disjoint, disjoint-has, has-append, one_or}
use Rattle.decl_grammar.proofs.Heads.{Is-nil, Is-head, Begins-head, Is-begins}
use Rattle.decl_grammar.proofs.Rivals.{Is-up, Begins-up}
use Rattle.decl_grammar.proofs.Heights.{full-at, heads-at, bheads-at, Whole, Started, whole-up, started-up, full-any, heads-any, bheads-any, begins-any}
use Rattle.decl_grammar.proofs.Crossing.{Crossed}
use Rattle.decl_grammar.proofs.Crossed.{arguments-crossed}
use Rattle.decl_grammar.proofs.Walks.{Phase, ready, dims, typed, Walks, walks-same, walks-append, walks-dims, walks-typed}
use Rattle.decl_grammar.proofs.MarkWalks.{undimmed, dim-walks, annotated-walks, annotated-undimmed}

-- ---- behind an operator `>`

-- neither `.` nor `[` nor `::` goes on there
pub greater-stops : (s : Stands) (w : Freedom) → is_value s ≡ true → disjoint (69 ∷ 65 ∷ 72 ∷ []) (first_of (expression_rest s w greater)) ≡ true
unfolding numbers
greater-stops alone strict e = refl
greater-stops alone (conditional n) e = refl
greater-stops alone anywhere e = refl
greater-stops paired strict e = refl
greater-stops paired (conditional n) e = refl
greater-stops paired anywhere e = refl
greater-stops listed strict e = refl
greater-stops listed (conditional n) e = refl
greater-stops listed anywhere e = refl
greater-stops defaulted strict e = refl
greater-stops defaulted (conditional n) e = refl
greater-stops defaulted anywhere e = refl
greater-stops assigned w e = absurd cc

not-there : (h : ℕ) {A : Type 0} (f : Form A) (t : Symbol) (us : List Symbol) (n : ℕ) → disjoint ats (first f) ≡ true → has ats t.sort ≡ true → Begins (WholeAt h) (BegunAt h) f (t ∷ us) n → ⊥
not-there h f t us n d e b =
    not_both (has (first f) t.sort) (Begins-head (WholeAt h) (BegunAt h) (full-at h) (heads-at h) (bheads-at h) f t us n (t ∷ us) refl b) (disjoint-has ats (first f) t.sort d e)

-- of the ways to go on an `@` begins one
only-marks : (h : ℕ) {A : Type 0} (told less dots marks others ends : Form A) (t : Symbol) (us : List Symbol) (n : ℕ)
    → disjoint ats (first told) ≡ true → disjoint ats (first less) ≡ true → disjoint ats (first dots) ≡ true → disjoint ats (first others) ≡ true → disjoint ats (first ends) ≡ true
    → has ats t.sort ≡ true → Begins (WholeAt h) (BegunAt h) (either told (either (either less (either dots marks)) (either others ends))) (t ∷ us) n → Begins (WholeAt h) (BegunAt h) marks (t ∷ us) n
only-marks h told less dots marks others ends t us n a b c d e p (inl x) = absurd (not-there h told t us n a p x)
only-marks h told less dots marks others ends t us n a b c d e p (inr (inl (inl x))) = absurd (not-there h less t us n b p x)
only-marks h told less dots marks others ends t us n a b c d e p (inr (inl (inr (inl x)))) = absurd (not-there h dots t us n c p x)
only-marks h told less dots marks others ends t us n a b c d e p (inr (inl (inr (inr x)))) = x
only-marks h told less dots marks others ends t us n a b c d e p (inr (inr (inl x))) = absurd (not-there h others t us n d p x)
only-marks h told less dots marks others ends t us n a b c d e p (inr (inr (inr x))) = absurd (not-there h ends t us n e p x)

marks-at : (h : ℕ) (s : Stands) → is_value s ≡ true → (w : Freedom) (t : Symbol) (us : List Symbol) (k : ℕ) → has ats t.sort ≡ true → Begins (WholeAt h) (BegunAt h) (rule (expression_rest s w greater)) (t ∷ us) k
    → Begins (WholeAt h) (BegunAt h) (step s annotated w name_there) (t ∷ us) k
unfolding numbers step part_symbols told_steps signs_form other_steps plain_dots plain_squares
marks-at h alone e strict t us k a b =
    only-marks h (told_steps alone names strict greater) (less_form alone strict greater) (greater_dots alone strict) (step alone annotated strict name_there) (other_steps alone strict) (turn no_symbols (nest (value_end alone))) t us k refl refl refl refl refl a b
marks-at h alone e (conditional n) t us k a b =
    only-marks h (told_steps alone names (conditional n) greater) (less_form alone (conditional n) greater) (greater_dots alone (conditional n)) (step alone annotated (conditional n) name_there) (other_steps alone (conditional n)) (turn no_symbols (nest (value_end alone))) t us k refl refl refl refl refl a b
marks-at h alone e anywhere t us k a b =
    only-marks h (told_steps alone names anywhere greater) (less_form alone anywhere greater) (greater_dots alone anywhere) (step alone annotated anywhere name_there) (other_steps alone anywhere) (turn no_symbols (nest (value_end alone))) t us k refl refl refl refl refl a b
marks-at h paired e strict t us k a b =
    only-marks h (told_steps paired names strict greater) (less_form paired strict greater) (greater_dots paired strict) (step paired annotated strict name_there) (other_steps paired strict) (turn no_symbols (nest (value_end paired))) t us k refl refl refl refl refl a b
marks-at h paired e (conditional n) t us k a b =
    only-marks h (told_steps paired names (conditional n) greater) (less_form paired (conditional n) greater) (greater_dots paired (conditional n)) (step paired annotated (conditional n) name_there) (other_steps paired (conditional n)) (turn no_symbols (nest (value_end paired))) t us k refl refl refl refl refl a b
marks-at h paired e anywhere t us k a b =
    only-marks h (told_steps paired names anywhere greater) (less_form paired anywhere greater) (greater_dots paired anywhere) (step paired annotated anywhere name_there) (other_steps paired anywhere) (turn no_symbols (nest (value_end paired))) t us k refl refl refl refl refl a b
marks-at h listed e strict t us k a b =
    only-marks h (told_steps listed names strict greater) (less_form listed strict greater) (greater_dots listed strict) (step listed annotated strict name_there) (other_steps listed strict) (turn no_symbols (nest (value_end listed))) t us k refl refl refl refl refl a b
marks-at h listed e (conditional n) t us k a b =
    only-marks h (told_steps listed names (conditional n) greater) (less_form listed (conditional n) greater) (greater_dots listed (conditional n)) (step listed annotated (conditional n) name_there) (other_steps listed (conditional n)) (turn no_symbols (nest (value_end listed))) t us k refl refl refl refl refl a b
marks-at h listed e anywhere t us k a b =
    only-marks h (told_steps listed names anywhere greater) (less_form listed anywhere greater) (greater_dots listed anywhere) (step listed annotated anywhere name_there) (other_steps listed anywhere) (turn no_symbols (nest (value_end listed))) t us k refl refl refl refl refl a b
marks-at h defaulted e strict t us k a b =
    only-marks h (told_steps defaulted names strict greater) (less_form defaulted strict greater) (greater_dots defaulted strict) (step defaulted annotated strict name_there) (other_steps defaulted strict) (turn no_symbols (nest (value_end defaulted))) t us k refl refl refl refl refl a b
marks-at h defaulted e (conditional n) t us k a b =
    only-marks h (told_steps defaulted names (conditional n) greater) (less_form defaulted (conditional n) greater) (greater_dots defaulted (conditional n)) (step defaulted annotated (conditional n) name_there) (other_steps defaulted (conditional n)) (turn no_symbols (nest (value_end defaulted))) t us k refl refl refl refl refl a b
marks-at h defaulted e anywhere t us k a b =
    only-marks h (told_steps defaulted names anywhere greater) (less_form defaulted anywhere greater) (greater_dots defaulted anywhere) (step defaulted annotated anywhere name_there) (other_steps defaulted anywhere) (turn no_symbols (nest (value_end defaulted))) t us k refl refl refl refl refl a b
marks-at h assigned e w t us k a b = absurd cc

pub marks-step : (s : Stands) → is_value s ≡ true → (w : Freedom) (t : Symbol) (us : List Symbol) (n : ℕ) → has ats t.sort ≡ true → Started (expression_rest s w greater) (t ∷ us) n → Begins Whole Started (step s annotated w name_there) (t ∷ us) n
marks-step s e w t us n a (zero, b) = absurd b
marks-step s e w t us n a (suc h, b) = Begins-up (WholeAt h) Whole (BegunAt h) Started (whole-up h) (started-up h) (step s annotated w name_there) (t ∷ us) n (marks-at h s e w t us n a b)

-- ---- the parts of a type behind its first arguments

abbrev pub later_parts : Form (List NamedPart × (List Around × Symbol))
later_parts = pair (many next_part) (pair (many dim) (sign token.double_colon))

pub reference-split : (s : Stands) (us : List Symbol) (x : Unit {0}) → Whole (expression_part s type_reference) us x
    → (args : List Symbol) × (bs : List Symbol) × (y : List TypeText) × (z : List NamedPart × (List Around × Symbol)) × (us ≡ args ++ bs) × Whole type_arguments args y × Is Whole later_parts bs z
unfolding reference_form
reference-split s us x (zero, is) = absurd is
reference-split s us x (suc h, is) =
    let q = is.1 in
    (q.0, q.1, is.0.0, is.0.1, q.2, (h, q.3), Is-up (WholeAt h) Whole (whole-up h) later_parts q.1 is.0.1 q.4)

pub parts-head : (n : ℕ) → has (first later_parts) n ≡ true → (has ats n ≡ true) ⊎ (has (69 ∷ 65 ∷ 72 ∷ []) n ≡ true)
unfolding next_part dim annotations annotation
parts-head n e =
    one_or (has ats n) (has (69 ∷ 65 ∷ 72 ∷ []) n) (sym (has-append ats (69 ∷ 65 ∷ 72 ∷ []) n) ∙ within-has (first later_parts) (ats ++ (69 ∷ 65 ∷ 72 ∷ [])) n refl e)

pub parts-dots : (n : ℕ) → has (first (many next_part)) n ≡ true → has ats n ≡ false
unfolding next_part
parts-dots n e = disjoint-has (69 ∷ []) ats n refl e

-- where they begin with an `@`, that is of a bracket
dims-walk : (t : Symbol) (bs : List Symbol) (z : List NamedPart × (List Around × Symbol)) → has ats t.sort ≡ true → Is Whole later_parts (t ∷ bs) z → Walks (t ∷ bs) ready dims
dims-walk t bs z a q = no-parts q.0 q.2 q.3
  where
    brackets : (ds : List Around) (d e : List Symbol) → t ∷ bs ≡ d ++ e → Each (Is Whole dim) d ds → (s : Symbol) → e ≡ s ∷ [] → has (72 ∷ []) s.sort ≡ true → Walks (t ∷ bs) ready dims
    brackets [] d e w each s p h =
        let there : t ∷ bs ≡ s ∷ [] = w ∙ ap (λ (u : List Symbol). u ++ e) each ∙ p in
        let z : t ≡ s = cc in
        absurd (not_both (has ats t.sort) a (subst (λ (u : Symbol). has ats u.sort ≡ false) (sym z) (disjoint-has (72 ∷ []) ats s.sort refl h)))
    brackets (x ∷ xs) d e w each s p h =
        subst (λ (u : List Symbol). Walks u ready dims) (sym (w ∙ ap (λ (u : List Symbol). u ++ e) each.2))
        (walks-append (each.0 ++ each.1) e ready dims dims (walks-append each.0 each.1 ready dims dims (dim-walks each.0 x each.3) (walks-dims each.1)) (walks-dims e))

    no-parts : (args : List Symbol) → t ∷ bs ≡ args ++ q.1 → Each (Is Whole next_part) args z.0 → Walks (t ∷ bs) ready dims
    no-parts [] e each = let r = q.4 in brackets z.1.0 r.0 r.1 (e ∙ r.2) r.3 z.1.1 r.4.0 r.4.1
    no-parts (u ∷ args) e each =
        let same : u ≡ t = cc in
        absurd (not_both (has ats t.sort) a (subst (λ (y : Symbol). has ats y.sort ≡ false) same (parts-dots u.sort (Is-head Whole full-any heads-any (many next_part) u args z.0 (u ∷ args) refl each))))

-- ---- what cannot be both

pub part-form : (s : Stands) (us : List Symbol) (x : Unit {0}) → Whole (expression_part s annotated) us x → Is Whole annotated_form us x
part-form s us x (zero, is) = absurd is
part-form s us x (suc h, is) = Is-up (WholeAt h) Whole (whole-up h) annotated_form us x is

pub part-begun : (s : Stands) (us : List Symbol) (n : ℕ) → Started (expression_part s annotated) us n → Begins Whole Started annotated_form us n
part-begun s us n (zero, b) = absurd b
part-begun s us n (suc h, b) = Begins-up (WholeAt h) Whole (BegunAt h) Started (whole-up h) (started-up h) annotated_form us n b

not-dims : (p : Phase) → undimmed p ≡ true → p ≡ dims → ⊥
not-dims p u e = let z : undimmed dims ≡ true = subst (λ (q : Phase). undimmed q ≡ true) e u in cc

typed-dims : typed ≡ dims → ⊥
typed-dims e = not-dims typed refl e

-- annotations before a bracket, and then a type
marked-twice : (s : Stands) (w : Freedom) (us : List Symbol) (n : ℕ) → (us ≡ [] → ⊥) → Walks us ready dims → Begins Whole Started (step s annotated w name_there) us n → ⊥
unfolding step part_symbols
marked-twice s w us n some walk (inl (inl b)) = some b.0
marked-twice s w us n some walk (inl (inr q)) =
    let g = annotated-undimmed us q.2 (part-begun s us q.2 q.5) in
    not-dims g.0 g.1 (walks-same us ready g.0 dims g.2 walk)
marked-twice s w us n some walk (inr q) =
    let one = annotated-walks q.0 q.4.0.1 (part-form s q.0 q.4.0.1 q.4.1.0) in
    typed-dims (walks-same us ready typed dims (subst (λ (u : List Symbol). Walks u ready typed) (sym q.3) (walks-append q.0 q.1 ready typed typed one (walks-typed q.1))) walk)

-- behind arguments and what follows them up to the `::` no comparison goes on
parts-not-crossed : (s : Stands) → is_value s ≡ true → (bs rs : List Symbol) (z : List NamedPart × (List Around × Symbol)) (n : ℕ) → Is Whole later_parts bs z → Crossed (is_value s) (bs ++ rs) n → ⊥
parts-not-crossed s e [] rs z n is c = absurd (let p : false ≡ true = Is-nil Whole full-any later_parts [] z refl is in cc)
parts-not-crossed s e (t ∷ bs) rs z n is (inl p) = absurd (let q = p.0 in cc)
parts-not-crossed s e (t ∷ bs) rs z n is (inr q) =
    let value : is_value q.0 ≡ true = q.2 ∙ e in
    ⊎_elim
    (λ (a : has ats t.sort ≡ true).
    marked-twice q.0 q.1 (t ∷ bs ++ rs) n (λ z. cc) (walks-append (t ∷ bs) rs ready dims dims (dims-walk t bs z a is) (walks-dims rs)) (marks-step q.0 value q.1 t (bs ++ rs) n a q.3))
    (λ (a : has (69 ∷ 65 ∷ 72 ∷ []) t.sort ≡ true).
    not_both (has (first_of (expression_rest q.0 q.1 greater)) t.sort) (bheads-any (expression_rest q.0 q.1 greater) t (bs ++ rs) n q.3)
    (disjoint-has (69 ∷ 65 ∷ 72 ∷ []) (first_of (expression_rest q.0 q.1 greater)) t.sort (greater-stops q.0 q.1 value) a))
    (parts-head t.sort (Is-head Whole full-any heads-any later_parts t bs z (t ∷ bs) refl is))

-- Behind a whole type with its `::` no comparison goes on.
pub values-past : (s : Stands) → is_value s ≡ true → (w : Freedom) (us rs : List Symbol) (x : Unit {0}) (n : ℕ) → Whole (expression_part s type_reference) us x → Begins Whole Started (step s (one_of (operator token.less_than ∷ [])) w between) (us ++ rs) n → ⊥
values-past s e w us rs x n whole b =
    let p = reference-split s us x whole in
    parts-not-crossed s e p.1 rs p.3 n p.6
    (arguments-crossed s w p.0 (p.1 ++ rs) p.2 n p.5
    (subst (λ (u : List Symbol). Begins Whole Started (step s (one_of (operator token.less_than ∷ [])) w between) u n) (ap (λ (u : List Symbol). u ++ rs) p.4 ∙ append_assoc p.0 p.1 rs) b))

-- In a value no symbols are both.
pub values-exclude : (s : Stands) → is_value s ≡ true → (w : Freedom) (ts : List Symbol) (x y : Rest s) → Is Whole (step s type_reference w colons) ts x → Is Whole (step s (one_of (operator token.less_than ∷ [])) w between) ts y → ⊥
unfolding step part_symbols
values-exclude s e w ts x y p q =
    let b = Is-begins Whole Started full-any begins-any (step s (one_of (operator token.less_than ∷ [])) w between) ts y q in
    let a = p.1 in
    values-past s e w a.0 a.1 a.3.0.1 b.0 a.3.1.0 (subst (λ (u : List Symbol). Begins Whole Started (step s (one_of (operator token.less_than ∷ [])) w between) u b.0) a.2 b.1)
