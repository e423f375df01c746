-- Values and annotations that are read are legal: an array, an annotation and a part of an expression count as open.
use lib.Utf8.{encode}
use Rattle.std.proofs.Common.{◌≡◌, ◌&&◌, ℕ, zero, suc, ◌≤◌, Bool, true, false, cond, List, [], length, codes, Option, None, Some, refl, sym, ap, subst, ◌∙◌, arith, length-append}
use Rattle.std.specs.List.{list_all, list_any}
use Rattle.std.proofs.lemmas.Str.{is_utf8-from_IsUtf8}
use Rattle.apt_base.specs.Forms.{is_name, all_fit}
use Rattle.decl_tree.specs.Legal.{pair_fits, is_legal_value, is_legal_annotation}
use Rattle.decl_tree.specs.declared.annotation.AnnotationText.{AnnotationText, out-roll-AnnotationText}
use Rattle.decl_tree.specs.declared.annotation.ElementValuePair.{ElementValuePair}
use Rattle.decl_tree.specs.declared.annotation.ValueText.{ValueText}
use Rattle.decl_tree.specs.declared.annotation.ValueText.TheOpen.{ValueText-F}
use Rattle.decl_tree.specs.declared.annotation.ValueText.TheVariants as value
use Rattle.decl_grammar.specs.TokenNames as token
use Rattle.decl_grammar.specs.declared.symbol.Symbol.{Symbol}
use Rattle.decl_grammar.specs.Form.{Stands, Behind, Form, is_value, ats, alone, paired, listed, defaulted, assigned, array_value, nested_annotation, first_name, constant_value, constant_items, value_and_rest, expression_rest, value_end, turn, nest, nullable}
use Rattle.decl_grammar.specs.Constants.{joined}
use Rattle.decl_grammar.specs.Types.{sign, behind, silently, as_written, name, named_text, pair_of, pair_and_rest, first_pair, next_pair, no_pairs, only_pair, pairs_or_value, annotation_arguments, annotation_of, annotation_body, annotation_from, annotation, no_values}
use Rattle.decl_grammar.specs.Expressions.{array_of, is_other, value_and_more, listed_values, listed_end, array_form, value_there, annotation_there, value_of, value_form, paired_end, listed_more, plain_value, plain_form, constant_end, constant_items_form, constant_array, constant_form}
use Rattle.decl_grammar.specs.Rule.{WholeAt}
use Rattle.decl_limits.specs.Texts.{AreTexts}
use Rattle.decl_limits.proofs.LegalTexts.{and-true, texts-front, Items, no-items, items-fit, items-grow, items-more, Made, made-fits, symbol-made, joined-made, chain-made}
use Rattle.decl_limits.proofs.LegalForms.{Has, anything, has-more, has-turn, has-pair, has-behind, has-behind-one, has-maybe, has-either, has-seen, has-symbol, has-lowest, has-no-room, has-counted, has-free}
use Rattle.decl_limits.proofs.LegalTypes.{name-has}
use Rattle.decl_limits.proofs.LegalExpressions.{value-legal, expression-legal}
use Rattle.decl_limits.proofs.LegalRows.{BehindFits, behind-grow, RestFits, Rests, Ends, rest-fits, expression-fits}

-- ---- what is said of them

abbrev pub LegalValue : ℕ → List Symbol → ValueText → Type 0
LegalValue room ts v = is_legal_value room v ≡ true

abbrev pub LegalMark : ℕ → List Symbol → AnnotationText → Type 0
LegalMark room ts a = is_legal_annotation room a ≡ true

-- an annotation as a value
abbrev NestedMark : ℕ → List Symbol → AnnotationText → Type 0
NestedMark room ts a = is_legal_value room (value.Nested a) ≡ true

abbrev pub ValueFits : (s : Stands) → ℕ → List Symbol → ValueText × Behind s → Type 0
ValueFits s room ts x = (is_legal_value room x.0 ≡ true) × BehindFits s room ts x.1

-- one more than there are symbols
abbrev OneMore : ℕ → List Symbol → List ValueText → Type 0
OneMore room ts vs = (list_all (is_legal_value room) vs ≡ true) × (length vs ≤ suc (length ts))

pub record ValueRows (h : ℕ) : Type 0 where
  pub array : (room : ℕ) → Has h room (nest array_value) (LegalValue room)
  pub marked : (room : ℕ) → Has h room (nest nested_annotation) (NestedMark room)
  pub constant : (room : ℕ) → Has h room (nest constant_value) (LegalValue room)
  pub items : (room : ℕ) → Has h room (nest constant_items) (Items (is_legal_value room))
  pub values : (s : Stands) → is_value s ≡ true → (room : ℕ) → Has h room (nest (value_and_rest s)) (ValueFits s room)
  pub rests : (s : Stands) → is_value s ≡ true → Rests h s
  pub ends : (s : Stands) → is_value s ≡ true → Ends h s

-- ---- annotations

mark-legal : (room : ℕ) (n : List ℕ) (ps : List ElementValuePair) → is_name n ≡ true → all_fit (pair_fits (is_legal_value room)) ps ≡ true → is_legal_annotation room (annotation_of n (Some ps)) ≡ true
unfolding is_legal_annotation
mark-legal room n ps p q =
    ap (λ a. is_name a.name && all_fit (pair_fits (is_legal_value room)) a.values) (out-roll-AnnotationText (record { name = n; values = ps })) ∙ and-true p q

bare-legal : (room : ℕ) (n : List ℕ) → is_name n ≡ true → is_legal_annotation room (annotation_of n None) ≡ true
unfolding is_legal_annotation
bare-legal room n p =
    ap (λ a. is_name a.name && all_fit (pair_fits (is_legal_value room)) a.values) (out-roll-AnnotationText (record { name = n; values = [] })) ∙ and-true p refl

value-name : is_name (codes "value") ≡ true
unfolding encode
value-name = and-true (is_utf8-from_IsUtf8 (codes "value") (codes "value", (refl, refl))) refl

abbrev Pairs : ℕ → List Symbol → List ElementValuePair → Type 0
Pairs room ts ps = Items (pair_fits (is_legal_value room)) ts ps

no-pairs-has : (h room : ℕ) (n : ℕ) → Has h room (turn no_pairs (sign n)) (Pairs room)
no-pairs-has h room n = has-turn no_pairs (Pairs room) (anything h room (sign n)) (λ ts s a p. no-items (pair_fits (is_legal_value room)) ts)

name-full : nullable name ≡ false
unfolding name
name-full = refl

-- a name, a `=` and a value with the pairs behind it
next-pair-has : (h room : ℕ) → ValueRows h → Has h room next_pair (Pairs room)
unfolding next_pair
next-pair-has h room rows =
    has-turn pair_and_rest (Pairs room)
    (has-pair (λ ts x. Pairs room ts (pair_and_rest x)) (has-symbol name-full (name-has h room)) (has-behind (rows.values paired refl room) (λ us vs x p. (p.0, behind-grow paired room us vs x.1 p.1)))
    (λ us vs x a p q. items-more (pair_fits (is_legal_value room)) us vs (pair_of x.0 x.1.0) x.1.1 p.1 (and-true p.0 q.0) q.1))
    (λ ts x a p. p)

first-name-there : (h : ℕ) (ts : List Symbol) (t : List ℕ) → AreTexts ts → WholeAt h first_name ts t → is_name t ≡ true
unfolding named_text
first-name-there zero ts t a is = absurd is
first-name-there (suc h) ts t a is =
    made-fits ts t a (subst (λ (u : List ℕ). Made ts u) (sym is.2) (symbol-made is.0 ts is.1.0 a))

first-name-has : (h room : ℕ) → Has h room (nest first_name) (λ ts t. is_name t ≡ true)
first-name-has h room = record { there = λ ts t a sh is. first-name-there h ts t a is }

first-pair-has : (h room : ℕ) → ValueRows h → Has h room first_pair (Pairs room)
unfolding first_pair
first-pair-has h room rows =
    has-turn pair_and_rest (Pairs room)
    (has-pair (λ ts x. Pairs room ts (pair_and_rest x)) (has-symbol refl (first-name-has h room)) (has-behind (rows.values paired refl room) (λ us vs x p. (p.0, behind-grow paired room us vs x.1 p.1)))
    (λ us vs x a p q. items-more (pair_fits (is_legal_value room)) us vs (pair_of x.0 x.1.0) x.1.1 p.1 (and-true p.0 q.0) q.1))
    (λ ts x a p. p)

-- the pair of a value alone is one more than there may be symbols in it; a bracket stands before it
abbrev LonePairs : ℕ → List Symbol → List ElementValuePair → Type 0
LonePairs room ts ps = (list_all (pair_fits (is_legal_value room)) ps ≡ true) × (length ps ≤ suc (length ts))

pairs-or-value-has : (h room : ℕ) → ValueRows h → Has h room pairs_or_value (LonePairs room)
unfolding pairs_or_value
pairs-or-value-has h room rows =
    has-either (has-more (LonePairs room) (first-pair-has h room rows) (λ ts ps a i. (i.fit, omega (arith, i.few))))
    (has-turn only_pair (LonePairs room) (rows.values alone refl room) (λ ts x a p. (and-true (and-true value-name p.0) refl, omega arith)))

arguments-has : (h room : ℕ) → ValueRows h → Has h room annotation_arguments (Pairs room)
unfolding annotation_arguments
arguments-has h room rows =
    has-behind-one (Pairs room) refl
    (has-either (has-more (LonePairs room) (no-pairs-has h room 1) (λ ts ps a i. (i.fit, omega (arith, i.few)))) (pairs-or-value-has h room rows))
    (λ us vs ps one p. record { fit = p.0; few = omega (arith, one, p.1, length-append us vs) })

body-has : (h room : ℕ) → ValueRows h → Has h room annotation_body (LegalMark room)
unfolding annotation_body
body-has h room rows =
    has-turn (λ (x : List ℕ × Option (List ElementValuePair)). annotation_of x.0 x.1) (LegalMark room)
    (has-pair (λ ts x. is_legal_annotation room (annotation_of x.0 x.1) ≡ true) (record { there = λ ts n a sh is. made-fits ts n a (chain-made h ts n a is) })
    (has-maybe (λ ts o. (n : List ℕ) → is_name n ≡ true → is_legal_annotation room (annotation_of n o) ≡ true) (arguments-has h room rows)
    (λ ts. λ n p. bare-legal room n p) (λ ts ps a i. λ n p. mark-legal room n ps p (items-fit (pair_fits (is_legal_value room)) ts ps a i)))
    (λ us vs x a p q. q x.0 p))
    (λ ts x a p. p)

-- an annotation behind a sign of these sorts
from-has : (h room : ℕ) → ValueRows h → (sorts : List ℕ) → Has h room (annotation_from sorts) (LegalMark room)
from-has h room rows sorts = has-behind (body-has h room rows) (λ us vs a p. p)

annotation-rule : (h room : ℕ) → ValueRows h → Has h room annotation (LegalMark room)
unfolding annotation
annotation-rule h room rows = from-has h room rows ats

-- ---- arrays

none-has : (h room : ℕ) → Has h room listed_end (Items (is_legal_value room))
unfolding listed_end
none-has h room = has-turn (no_values {A = ValueText}) (Items (is_legal_value room)) (anything h room (sign token.close_brace)) (λ ts s a p. no-items (is_legal_value room) ts)

none-more : (h room : ℕ) → Has h room listed_end (OneMore room)
none-more h room = has-more (OneMore room) (none-has h room) (λ ts vs a i. (i.fit, omega (arith, i.few)))

listed-has : (h room : ℕ) → ValueRows h → Has h room listed_values (OneMore room)
unfolding listed_values
listed-has h room rows =
    has-turn (value_and_more {A = ValueText}) (OneMore room) (rows.values listed refl room) (λ ts x a p. (and-true p.0 p.1.fit, omega (arith, p.1.few)))

opened-has : (h room n : ℕ) {f : Form (List ValueText)} → Has h room f (OneMore room) → Has h room (behind (sign n) f) (Items (is_legal_value room))
opened-has h room n p = has-behind-one (Items (is_legal_value room)) refl p (λ us vs xs one q. record { fit = q.0; few = omega (arith, one, q.1, length-append us vs) })

-- what stands between the braces is kept, or the text of the array
array-legal : (room : ℕ) (ts : List Symbol) (vs : List ValueText) → AreTexts ts → Items (is_legal_value room) ts vs → is_legal_value (suc room) (array_of (ts, vs)) ≡ true
array-legal room ts vs a i = go (list_any is_other vs)
  where
    go : (c : Bool) → is_legal_value (suc room) (cond c (value.Other (joined ts)) (value.Array vs)) ≡ true
    go true = value-legal room (ValueText-F.Other (joined ts)) (value.Other (joined ts)) (value.rolls-Other (joined ts)) (made-fits ts (joined ts) a (joined-made ts a.0))
    go false = value-legal room (ValueText-F.Array vs) (value.Array vs) (value.rolls-Array vs) (items-fit (is_legal_value room) ts vs a i)

same-array : (ts us : List Symbol) (vs : List ValueText) → us ≡ ts → array_of (us, vs) ≡ array_of (ts, vs)
same-array ts us vs e = ap (λ (ss : List Symbol). array_of (ss, vs)) e

array-rule : (h room : ℕ) → ValueRows h → Has h room array_form (LegalValue (suc room))
unfolding array_form
array-rule h room rows =
    has-turn array_of (LegalValue (suc room))
    (has-seen as_written
    (opened-has h room 2 (has-either (none-more h room) (has-either (has-more (OneMore room) (has-behind (none-has h room) (items-grow (is_legal_value room))) (λ ts vs a i. (i.fit, omega (arith, i.few)))) (listed-has h room rows)))))
    (λ ts x a p. ap (is_legal_value (suc room)) (same-array ts x.0 x.1 p.0) ∙ array-legal room ts x.1 a p.1)

-- ---- constant forms

constant-end-has : (h room : ℕ) → ValueRows h → Has h room constant_end (Items (is_legal_value room))
unfolding constant_end
constant-end-has h room rows =
    has-either (none-has h room) (has-behind (has-either (none-has h room) (rows.items room)) (items-grow (is_legal_value room)))

items-rule : (h room : ℕ) → ValueRows h → Has h room constant_items_form (Items (is_legal_value room))
unfolding constant_items_form
items-rule h room rows =
    has-turn (value_and_more {A = ValueText}) (Items (is_legal_value room))
    (has-pair (λ ts x. Items (is_legal_value room) ts (value_and_more x)) (has-symbol refl (rows.constant room)) (constant-end-has h room rows)
    (λ us vs x a p q. items-more (is_legal_value room) us vs x.0 x.1 p.1 p.0 q))
    (λ ts x a p. p)

constant-array-has : (h room : ℕ) → ValueRows h → Has h room constant_array (LegalValue (suc room))
unfolding constant_array
constant-array-has h room rows =
    has-turn value.Array (LegalValue (suc room))
    (has-behind (has-either (none-has h room) (has-either (has-behind (none-has h room) (items-grow (is_legal_value room))) (rows.items room))) (items-grow (is_legal_value room)))
    (λ ts vs a i. value-legal room (ValueText-F.Array vs) (value.Array vs) (value.rolls-Array vs) (items-fit (is_legal_value room) ts vs a i))

nested-legal : (room : ℕ) (a : AnnotationText) → is_legal_annotation room a ≡ true → is_legal_value (suc room) (value.Nested a) ≡ true
unfolding is_legal_annotation
nested-legal room a fit = value-legal room (ValueText-F.Nested a) (value.Nested a) (value.rolls-Nested a) fit

constant-rule : (h room : ℕ) → ValueRows h → Has h room constant_form (LegalValue (suc room))
unfolding constant_form
constant-rule h room rows =
    has-either (constant-array-has h room rows)
    (has-either (has-turn value.Nested (LegalValue (suc room)) (annotation-rule h room rows) (λ ts m a p. nested-legal room m p))
    (has-turn plain_value (LegalValue (suc room)) (has-seen as_written (anything h room plain_form))
    (λ ts x a p. expression-legal (suc room) (omega arith) x.0 (subst AreTexts (sym p.0) a))))

-- ---- values, and what stands behind them

value-of-has : (h room : ℕ) (s : Stands) → is_value s ≡ true → ValueRows h → Has h room (value_of s) (ValueFits s room)
unfolding value_of
value-of-has h room s e rows =
    has-either (has-pair (ValueFits s room) (rows.array room) (rows.ends s e room) (λ us vs x a p q. (p, behind-grow s room us vs x.1 q)))
    (has-either
    (has-turn annotation_there (ValueFits s room)
    (has-pair (λ ts x. ValueFits s room ts (annotation_there x)) (rows.marked room) (rows.ends s e room) (λ us vs x a p q. (p, behind-grow s room us vs x.1 q))) (λ ts x a p. p))
    (has-turn value_there (ValueFits s room) (expression-fits h s (rows.rests s e) room)
    (λ ts x a p. (expression-legal room (p.0 e) x.0 (texts-front ts x.0 p.1.0 p.1.1 a), p.1.2))))

values-rule : (h room : ℕ) (s : Stands) → is_value s ≡ true → ValueRows h → Has h room (value_form s) (ValueFits s room)
unfolding value_form
values-rule h room alone e rows = value-of-has h room alone e rows
values-rule h room paired e rows = value-of-has h room paired e rows
values-rule h room listed e rows = value-of-has h room listed e rows
values-rule h room defaulted e rows = value-of-has h room defaulted e rows
values-rule h room assigned e rows = absurd cc

listed-more-has : (h room : ℕ) → ValueRows h → Has h room listed_more (Items (is_legal_value room))
unfolding listed_more
listed-more-has h room rows = has-either (none-has h room) (opened-has h room 7 (has-either (none-more h room) (listed-has h room rows)))

paired-end-has : (h room : ℕ) → ValueRows h → Has h room paired_end (Pairs room)
unfolding paired_end
paired-end-has h room rows =
    has-either (no-pairs-has h room 1) (has-behind (next-pair-has h room rows) (items-grow (pair_fits (is_legal_value room))))

ends-rule : (h : ℕ) (s : Stands) → is_value s ≡ true → ValueRows h → Ends (suc h) s
ends-rule h alone e rows room = has-free h room (value_end alone) refl (BehindFits alone room) (has-turn silently (BehindFits alone room) (anything h room (sign token.close_parenthesis)) (λ ts s a p. tt))
ends-rule h paired e rows room = has-free h room (value_end paired) refl (BehindFits paired room) (paired-end-has h room rows)
ends-rule h listed e rows room = has-free h room (value_end listed) refl (BehindFits listed room) (listed-more-has h room rows)
ends-rule h defaulted e rows room = has-free h room (value_end defaulted) refl (BehindFits defaulted room) (has-turn silently (BehindFits defaulted room) (anything h room (sign token.semicolon)) (λ ts s a p. tt))
ends-rule h assigned e rows room = absurd cc

rests-rule : (h : ℕ) (s : Stands) → is_value s ≡ true → ValueRows h → Rests (suc h) s
rests-rule h alone e rows w a room = has-free h room (expression_rest alone w a) refl (RestFits alone room) (rest-fits h alone (rows.rests alone e) (rows.ends alone e) w a room)
rests-rule h paired e rows w a room = has-free h room (expression_rest paired w a) refl (RestFits paired room) (rest-fits h paired (rows.rests paired e) (rows.ends paired e) w a room)
rests-rule h listed e rows w a room = has-free h room (expression_rest listed w a) refl (RestFits listed room) (rest-fits h listed (rows.rests listed e) (rows.ends listed e) w a room)
rests-rule h defaulted e rows w a room = has-free h room (expression_rest defaulted w a) refl (RestFits defaulted room) (rest-fits h defaulted (rows.rests defaulted e) (rows.ends defaulted e) w a room)
rests-rule h assigned e rows w a room = absurd cc

-- ---- all heights

arrays-at : (h : ℕ) → ValueRows h → (room : ℕ) → Has (suc h) room (nest array_value) (LegalValue room)
arrays-at h rows zero = has-no-room (suc h) array_value refl (LegalValue zero)
arrays-at h rows (suc room) = has-counted h room array_value refl (LegalValue (suc room)) (array-rule h room rows)

marks-at : (h : ℕ) → ValueRows h → (room : ℕ) → Has (suc h) room (nest nested_annotation) (NestedMark room)
marks-at h rows zero = has-no-room (suc h) nested_annotation refl (NestedMark zero)
marks-at h rows (suc room) =
    has-counted h room nested_annotation refl (NestedMark (suc room)) (has-more (NestedMark (suc room)) (annotation-rule h room rows) (λ ts m a p. nested-legal room m p))

constants-at : (h : ℕ) → ValueRows h → (room : ℕ) → Has (suc h) room (nest constant_value) (LegalValue room)
constants-at h rows zero = has-no-room (suc h) constant_value refl (LegalValue zero)
constants-at h rows (suc room) = has-counted h room constant_value refl (LegalValue (suc room)) (constant-rule h room rows)

pub value-rows : (h : ℕ) → ValueRows h
value-rows zero = record {
  array = λ room. has-lowest room array_value (LegalValue room);
  marked = λ room. has-lowest room nested_annotation (NestedMark room);
  constant = λ room. has-lowest room constant_value (LegalValue room);
  items = λ room. has-lowest room constant_items (Items (is_legal_value room));
  values = λ s e room. has-lowest room (value_and_rest s) (ValueFits s room);
  rests = λ s e w a room. has-lowest room (expression_rest s w a) (RestFits s room);
  ends = λ s e room. has-lowest room (value_end s) (BehindFits s room);
}
value-rows (suc h) = record {
  array = arrays-at h (value-rows h);
  marked = marks-at h (value-rows h);
  constant = constants-at h (value-rows h);
  items = λ room. has-free h room constant_items refl (Items (is_legal_value room)) (items-rule h room (value-rows h));
  values = λ s e room. has-free h room (value_and_rest s) refl (ValueFits s room) (values-rule h room s e (value-rows h));
  rests = λ s e. rests-rule h s e (value-rows h);
  ends = λ s e. ends-rule h s e (value-rows h);
}

pub annotation-has : (h room : ℕ) → Has h room annotation (LegalMark room)
annotation-has h room = annotation-rule h room (value-rows h)

pub annotation-from-has : (h room : ℕ) (sorts : List ℕ) → Has h room (annotation_from sorts) (LegalMark room)
annotation-from-has h room sorts = from-has h room (value-rows h) sorts

-- the default of an element
pub default-has : (h room : ℕ) → Has h room (nest (value_and_rest defaulted)) (ValueFits defaulted room)
default-has h room = (value-rows h).values defaulted refl room
