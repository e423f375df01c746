-- Modifiers, type parameters and parameters that are read are legal.
use Rattle.std.proofs.Common.{◌≡◌, ◌==◌, ℕ, zero, suc, ◌+◌, ◌≤◌, Bool, true, false, cond, List, [], ◌∷◌, ◌++◌, length, Option, None, Some, refl, sym, subst, arith, append_assoc, length-append}
use Rattle.std.specs.List.{list_all}
use Rattle.std.specs.Prelude.{nat_lt}
use Rattle.std.specs.Int.Bits.{bit_or}
use Rattle.std.proofs.lemmas.Bool.{lt-ltb, ltb-true}
use Rattle.std.proofs.lemmas.Nat.{or_lt}
use Rattle.apt_base.specs.Forms.{is_name, all_fit}
use Rattle.decl_tree.specs.Legal.{is_legal_type, is_legal_annotation, is_modifiers, is_legal_type_param, is_legal_param}
use Rattle.decl_tree.specs.declared.annotation.AnnotationText.{AnnotationText}
use Rattle.apt_base.specs.declared.around.Around.{Around}
use Rattle.apt_base.specs.declared.around.Around.TheVariants as around
use Rattle.decl_tree.specs.declared.type_text.BaseType.{BaseType}
use Rattle.decl_tree.specs.declared.type_text.TypeText.{TypeText}
use Rattle.decl_grammar.specs.declared.symbol.Symbol.{Symbol}
use Rattle.decl_grammar.specs.declared.written.Modifiers.{Modifiers}
use Rattle.decl_grammar.specs.declared.written.NameAt.{NameAt}
use Rattle.decl_grammar.specs.declared.written.ParamAt.{ParamAt}
use Rattle.decl_grammar.specs.declared.written.ParamEnd.{ParamEnd}
use Rattle.decl_grammar.specs.declared.written.ParamEnd.TheVariants as param_end
use Rattle.decl_grammar.specs.declared.written.Params.{Params}
use Rattle.decl_grammar.specs.declared.written.TypeParamAt.{TypeParamAt}
use Rattle.decl_grammar.specs.Symbols.{word, operator}
use Rattle.decl_grammar.specs.TokenNames as token
use Rattle.decl_grammar.specs.Constants.{type_of}
use Rattle.decl_grammar.specs.Form.{ParamRest, Form, param_rest, first_rest, modifier_words, plain_words, terminal, pair, turn, maybe, many, nest, nullable}
use Rattle.decl_grammar.specs.Types.{keyword, annotations, type_param_of, type_param, next_type_param, type_params, optional_params, dim, Mark, bit, marked, bit_of, bit_mark, no_modifiers, with_bit, with_annotation, with_marks, marks_of, modifier_annotation, modifier_from, modifier, plain_modifier, modifiers_form, type_modifiers, list_or_none}
use Rattle.decl_grammar.specs.Grammar.{param_modifier, param_modifiers, param_of, params_or_none, in_array, ended_last, end_and_rest, param_ended, apply_rest, params_from, next_params, any_number, varargs, bracket_rest, annotated_rest, named_with, named_end, param_rest_form, receiver_end, receiver, dot_this, with_dims, end_named, FirstBehind, dims_and_rest, comma_first, alone_or, behind_first_name, first_named, first_rest_form, FirstRest, annotated_only, final_and, final_first, plain_first, behind_annotations, first_from, first_params, optional_first, params}
use Rattle.decl_grammar.proofs.Firsts.{annotation_full, modifier_full, param_modifier_full, next_type_param_full}
use Rattle.decl_grammar.proofs.OneToken.{both}
use Rattle.decl_limits.specs.Texts.{AreTexts}
use Rattle.decl_limits.proofs.LegalTexts.{and-true, texts-front, list-short, Items, items-fit, items-before, items-more}
use Rattle.decl_limits.proofs.LegalForms.{Has, anything, has-more, has-turn, has-pair, has-behind, has-before, has-maybe, has-either, has-row, has-first, has-symbol, has-lowest, has-free}
use Rattle.decl_limits.proofs.LegalTypes.{BaseFits, type-of-legal, type-legal, base-type-has, arguments-has, bounds-has}
use Rattle.decl_limits.proofs.LegalValues.{annotation-has, annotation-from-has}
use Rattle.decl_limits.proofs.LegalFields.{NameFits, name-at-has}

-- ---- modifiers

abbrev mark_fits : ℕ → Mark → Bool
mark_fits room (bit b) = nat_lt b 4096
mark_fits room (marked a) = is_legal_annotation room a

abbrev pub Marks : ℕ → List Symbol → List AnnotationText → Type 0
Marks room ts xs = Items (is_legal_annotation room) ts xs

abbrev pub ModifiersFit : ℕ → List Symbol → Modifiers → Type 0
ModifiersFit room ts m = (is_modifiers m.bits ≡ true) × Marks room ts m.annotations

one-bit : (c : Bool) (a b : ℕ) → nat_lt a 4096 ≡ true → nat_lt b 4096 ≡ true → nat_lt (cond c a b) 4096 ≡ true
one-bit true a b p q = p
one-bit false a b p q = q

bits-fit : (n : ℕ) → nat_lt (bit_of n) 4096 ≡ true
bits-fit n =
    one-bit (n == word token.public) 1 (cond (n == word token.protected) 2 (cond (n == word token.private) 4 (cond (n == word token.abstract) 8 (cond (n == word token.default) 16 (cond (n == word token.static) 32 (cond (n == word token.final) 64 (cond (n == word token.transient) 128 (cond (n == word token.volatile) 256 (cond (n == word token.synchronized) 512 (cond (n == word token.native) 1024 2048)))))))))) refl
    (one-bit (n == word token.protected) 2 (cond (n == word token.private) 4 (cond (n == word token.abstract) 8 (cond (n == word token.default) 16 (cond (n == word token.static) 32 (cond (n == word token.final) 64 (cond (n == word token.transient) 128 (cond (n == word token.volatile) 256 (cond (n == word token.synchronized) 512 (cond (n == word token.native) 1024 2048))))))))) refl
    (one-bit (n == word token.private) 4 (cond (n == word token.abstract) 8 (cond (n == word token.default) 16 (cond (n == word token.static) 32 (cond (n == word token.final) 64 (cond (n == word token.transient) 128 (cond (n == word token.volatile) 256 (cond (n == word token.synchronized) 512 (cond (n == word token.native) 1024 2048)))))))) refl
    (one-bit (n == word token.abstract) 8 (cond (n == word token.default) 16 (cond (n == word token.static) 32 (cond (n == word token.final) 64 (cond (n == word token.transient) 128 (cond (n == word token.volatile) 256 (cond (n == word token.synchronized) 512 (cond (n == word token.native) 1024 2048))))))) refl
    (one-bit (n == word token.default) 16 (cond (n == word token.static) 32 (cond (n == word token.final) 64 (cond (n == word token.transient) 128 (cond (n == word token.volatile) 256 (cond (n == word token.synchronized) 512 (cond (n == word token.native) 1024 2048)))))) refl
    (one-bit (n == word token.static) 32 (cond (n == word token.final) 64 (cond (n == word token.transient) 128 (cond (n == word token.volatile) 256 (cond (n == word token.synchronized) 512 (cond (n == word token.native) 1024 2048))))) refl
    (one-bit (n == word token.final) 64 (cond (n == word token.transient) 128 (cond (n == word token.volatile) 256 (cond (n == word token.synchronized) 512 (cond (n == word token.native) 1024 2048)))) refl
    (one-bit (n == word token.transient) 128 (cond (n == word token.volatile) 256 (cond (n == word token.synchronized) 512 (cond (n == word token.native) 1024 2048))) refl
    (one-bit (n == word token.volatile) 256 (cond (n == word token.synchronized) 512 (cond (n == word token.native) 1024 2048)) refl
    (one-bit (n == word token.synchronized) 512 (cond (n == word token.native) 1024 2048) refl
    (one-bit (n == word token.native) 1024 2048 refl refl))))))))))

pub or-fits : (a b : ℕ) → nat_lt a 4096 ≡ true → nat_lt b 4096 ≡ true → nat_lt (bit_or a b) 4096 ≡ true
or-fits a b p q = lt-ltb (bit_or a b) 4096 (or_lt 12 a b (ltb-true a 4096 p) (ltb-true b 4096 q))

pub list_all-one : {A : Type 0} (fits : A → Bool) (xs : List A) (x : A) → list_all fits xs ≡ true → fits x ≡ true → list_all fits (xs ++ x ∷ []) ≡ true
list_all-one fits [] x p q = and-true q refl
list_all-one fits (y ∷ ys) x p q = let z = both (fits y) (list_all fits ys) p in and-true z.0 (list_all-one fits ys x z.1 q)

-- modifiers with more marks: this many annotations more at most
marks-fit : (room n : ℕ) (m : Modifiers) (ks : List Mark) → is_modifiers m.bits ≡ true → list_all (is_legal_annotation room) m.annotations ≡ true → length m.annotations ≤ n → list_all (mark_fits room) ks ≡ true
    → (is_modifiers (with_marks m ks).bits ≡ true) × (list_all (is_legal_annotation room) (with_marks m ks).annotations ≡ true) × (length (with_marks m ks).annotations ≤ n + length ks)
marks-fit room n m [] p q le fit = (p, q, omega (arith, le))
marks-fit room n m (bit b ∷ ks) p q le fit =
    let z = both (nat_lt b 4096) (list_all (mark_fits room) ks) fit in
    let r = marks-fit room n (with_bit b m) ks (or-fits m.bits b p z.0) q le z.1 in
    (r.0, r.1, omega (arith, r.2))
marks-fit room n m (marked a ∷ ks) p q le fit =
    let z = both (is_legal_annotation room a) (list_all (mark_fits room) ks) fit in
    let r = marks-fit room (suc n) (with_annotation a m) ks p (list_all-one (is_legal_annotation room) m.annotations a q z.0) (omega (arith, le, length-append m.annotations (a ∷ []))) z.1 in
    (r.0, r.1, omega (arith, r.2))

mark-has : (h room : ℕ) (words : List ℕ) → Has h room (modifier_from words) (λ ts k. mark_fits room k ≡ true)
unfolding modifier_annotation
mark-has h room words =
    has-either (has-turn bit_mark (λ ts k. mark_fits room k ≡ true) (anything h room (terminal words)) (λ ts s a p. bits-fit s.sort))
    (has-turn marked (λ ts k. mark_fits room k ≡ true) (annotation-from-has h room (operator token.at ∷ [])) (λ ts m a p. p))

pub modifier-has : (h room : ℕ) → Has h room modifier (λ ts k. mark_fits room k ≡ true)
unfolding modifier
modifier-has h room = mark-has h room modifier_words

pub plain-modifier-has : (h room : ℕ) → Has h room plain_modifier (λ ts k. mark_fits room k ≡ true)
unfolding plain_modifier
plain-modifier-has h room = mark-has h room plain_words

all-marks : (room : ℕ) (ts : List Symbol) (ks : List Mark) → Items (mark_fits room) ts ks → ModifiersFit room ts (with_marks no_modifiers ks)
all-marks room ts ks i =
    let r = marks-fit room 0 no_modifiers ks refl refl (omega arith) i.fit in
    (r.0, record { fit = r.1; few = omega (arith, r.2, i.few) })

pub type-modifiers-have : (h room : ℕ) → Has h room type_modifiers (ModifiersFit room)
unfolding type_modifiers
type-modifiers-have h room =
    has-turn (with_marks no_modifiers) (ModifiersFit room) (has-row (mark_fits room) modifier_full (modifier-has h room)) (λ ts ks a i. all-marks room ts ks i)

-- one modifier, and others
pub some-marks : (h room : ℕ) (f : Form Mark) → nullable f ≡ false → Has h room f (λ ts k. mark_fits room k ≡ true) → Has h room (modifiers_form f) (ModifiersFit room)
some-marks h room f never p =
    has-turn marks_of (ModifiersFit room)
    (has-pair (λ ts x. Items (mark_fits room) ts (x.0 ∷ x.1)) (has-symbol never p) (has-row (mark_fits room) modifier_full (modifier-has h room)) (λ us vs x a k ks. items-more (mark_fits room) us vs x.0 x.1 k.1 k.0 ks))
    (λ ts x a i. all-marks room ts (x.0 ∷ x.1) i)

-- ---- type parameters

pub annotations-have : (h room : ℕ) → Has h room annotations (Marks room)
unfolding annotations
annotations-have h room = has-row (is_legal_annotation room) annotation_full (annotation-has h room)

abbrev pub type_param_fits : ℕ → TypeParamAt → Bool
type_param_fits room p = is_legal_type_param room p.param

type-param-legal : (room : ℕ) (marks : List AnnotationText) (n : NameAt) (bs : List TypeText) → all_fit (is_legal_annotation room) marks ≡ true → is_name n.name ≡ true → all_fit (is_legal_type room) bs ≡ true
    → is_legal_type_param room (record { name = n.name; annotations = marks; bounds = bs }) ≡ true
unfolding is_legal_type_param
type-param-legal room marks n bs p q r = and-true (and-true q p) r

type-param-has : (h room : ℕ) → Has h room type_param (λ ts p. type_param_fits room p ≡ true)
unfolding type_param
type-param-has h room =
    has-turn (λ (x : List AnnotationText × (NameAt × Option (List TypeText))). type_param_of x.0 x.1.0 x.1.1) (λ ts p. type_param_fits room p ≡ true)
    (has-pair (λ ts x. (all_fit (is_legal_annotation room) x.0 ≡ true) × ((is_name x.1.0.name ≡ true) × (all_fit (is_legal_type room) (list_or_none x.1.1) ≡ true)))
    (has-more (λ ts xs. all_fit (is_legal_annotation room) xs ≡ true) (annotations-have h room) (λ ts xs a i. items-fit (is_legal_annotation room) ts xs a i))
    (has-pair (λ ts x. (is_name x.0.name ≡ true) × (all_fit (is_legal_type room) (list_or_none x.1) ≡ true)) (name-at-has h room)
    (has-maybe (λ ts o. all_fit (is_legal_type room) (list_or_none o) ≡ true) (bounds-has h room) (λ ts. refl) (λ ts bs a i. items-fit (is_legal_type room) ts bs a i))
    (λ us vs x a p q. (p, q)))
    (λ us vs x a p q. (p, q)))
    (λ ts x a p. type-param-legal room x.0 x.1.0 (list_or_none x.1.1) p.0 p.1.0 p.1.1)

type-param-full : nullable type_param ≡ false
unfolding type_param annotations
type-param-full = refl

next-type-param-has : (h room : ℕ) → Has h room next_type_param (λ ts p. type_param_fits room p ≡ true)
unfolding next_type_param
next-type-param-has h room = has-behind (type-param-has h room) (λ us vs p q. q)

abbrev pub TypeParamsFit : ℕ → List Symbol → List TypeParamAt → Type 0
TypeParamsFit room ts ps = list_all (type_param_fits room) ps ≡ true

pub type-params-have : (h room : ℕ) → Has h room type_params (TypeParamsFit room)
unfolding type_params
type-params-have h room =
    has-behind
    (has-before
    (has-more (TypeParamsFit room) (has-first (type_param_fits room) type-param-full next_type_param_full (type-param-has h room) (next-type-param-has h room)) (λ ts ps a i. i.fit))
    (λ us vs ps p. p))
    (λ us vs ps p. p)

pub optional-params-have : (h room : ℕ) → Has h room optional_params (TypeParamsFit room)
unfolding optional_params
optional-params-have h room =
    has-turn (list_or_none {A = TypeParamAt}) (TypeParamsFit room)
    (has-maybe (λ ts o. TypeParamsFit room ts (list_or_none o)) (type-params-have h room) (λ ts. refl) (λ ts ps a p. p)) (λ ts o a p. p)

-- ---- parameters

abbrev pub param_fits : ℕ → ParamAt → Bool
param_fits room p = is_legal_param room p.param

abbrev pub ParamsFit : ℕ → List Symbol → List ParamAt × Bool → Type 0
ParamsFit room ts ps = list_all (param_fits room) ps.0 ≡ true

-- modifiers without the symbols that they are made of
abbrev pub Modified : ℕ → Modifiers → Type 0
Modified room m = (is_modifiers m.bits ≡ true) × (all_fit (is_legal_annotation room) m.annotations ≡ true)

param-legal : (room : ℕ) (n : NameAt) (ds : List Around) (m : Modifiers) (of : BaseType) (items : List Around) → is_name n.name ≡ true → Modified room m → BaseFits room of → param_fits room (param_of n ds m of items) ≡ true
unfolding is_legal_param
param-legal room n ds m of items p q r =
    and-true (and-true (and-true p q.0) q.1) (type-legal room (type_of of (ds ++ items)) (type-of-legal room of (ds ++ items) r))

abbrev EndFits : List Symbol → ParamEnd → Type 0
EndFits ts (param_end.Named n ds) = is_name n.name ≡ true
EndFits ts (param_end.AnyNumber n) = is_name n.name ≡ true
EndFits ts param_end.Receiver = Unit {0}

ended-legal : (room : ℕ) (e : ParamEnd) (ts us : List Symbol) (m : Modifiers) (of : BaseType) (items : List Around) (ps : List ParamAt × Bool) → EndFits ts e → Modified room m → BaseFits room of → ParamsFit room us ps → ParamsFit room us (param_ended e m of items ps)
ended-legal room (param_end.Named n ds) ts us m of items ps p q r rest = and-true (param-legal room n ds m of items p q r) rest
ended-legal room (param_end.AnyNumber n) ts us m of items ps p q r rest = and-true (param-legal room n (around.Array ∷ []) m of items p q r) refl
ended-legal room param_end.Receiver ts us m of items ps p q r rest = rest

-- behind the type of a parameter: legal parameters, whatever legal modifiers and base stand before
abbrev RestParams : ℕ → List Symbol → ParamRest → Type 0
RestParams room ts r = (m : Modifiers) (of : BaseType) (items : List Around) → Modified room m → BaseFits room of → ParamsFit room ts (param_ended r.1.0 m of items r.1.1)

record ParamLegal (h : ℕ) : Type 0 where
  later : (room : ℕ) → Has h room (nest param_rest) (RestParams room)
  first : (room : ℕ) → Has h room (nest first_rest) (RestParams room)

param-modifier-has : (h room : ℕ) → Has h room param_modifier (λ ts k. mark_fits room k ≡ true)
unfolding param_modifier
param-modifier-has h room =
    has-either (has-turn bit_mark (λ ts k. mark_fits room k ≡ true) (anything h room (keyword token.final)) (λ ts s a p. bits-fit s.sort))
    (has-turn marked (λ ts k. mark_fits room k ≡ true) (annotation-has h room) (λ ts m a p. p))

param-modifiers-have : (h room : ℕ) → Has h room param_modifiers (ModifiersFit room)
unfolding param_modifiers
param-modifiers-have h room =
    has-turn (with_marks no_modifiers) (ModifiersFit room) (has-row (mark_fits room) param_modifier_full (param-modifier-has h room)) (λ ts ks a i. all-marks room ts ks i)

pub modified-is : (room : ℕ) (ts : List Symbol) (m : Modifiers) → AreTexts ts → ModifiersFit room ts m → Modified room m
modified-is room ts m a f = (f.0, items-fit (is_legal_annotation room) ts m.annotations a f.1)

from-has : (h room : ℕ) → ParamLegal h → Has h room params_from (ParamsFit room)
unfolding params_from
from-has h room rows =
    has-turn apply_rest (ParamsFit room)
    (has-pair (λ ts x. ParamsFit room ts (apply_rest x)) (has-more (λ ts m. Modified room m) (param-modifiers-have h room) (λ ts m a f. modified-is room ts m a f))
    (has-pair (λ ts x. BaseFits room x.0 × RestParams room ts x.1) (base-type-has h room (arguments-has h)) (rows.later room) (λ us vs x a p q. (p, q)))
    (λ us vs x a p q. q.1 x.0 x.1.0 x.1.1.0 p q.0))
    (λ ts x a p. p)

next-has : (h room : ℕ) → ParamLegal h → Has h room next_params (ParamsFit room)
unfolding next_params
next-has h room rows = has-behind (from-has h room rows) (λ us vs ps p. p)

abbrev SomeFit : ℕ → List Symbol → Option (List ParamAt × Bool) → Type 0
SomeFit room ts o = ParamsFit room ts (params_or_none o)

some-next : (h room : ℕ) → ParamLegal h → Has h room (maybe next_params) (SomeFit room)
some-next h room rows = has-maybe (SomeFit room) (next-has h room rows) (λ ts. refl) (λ ts ps a p. p)

bracket-has : (h room : ℕ) (rest : Form ParamRest) → Has h room rest (RestParams room) → Has h room (bracket_rest rest) (RestParams room)
bracket-has h room rest p = has-behind (has-behind (has-turn in_array (RestParams room) p (λ ts r a q. q)) (λ us vs r q. q)) (λ us vs r q. q)

varargs-has : (h room : ℕ) → Has h room (turn ended_last varargs) (RestParams room)
unfolding varargs
varargs-has h room =
    has-turn ended_last (RestParams room) (has-turn any_number EndFits (has-behind (name-at-has h room) (λ us vs n p. p)) (λ ts n a p. p))
    (λ ts e a p. λ m of items q r. ended-legal room e ts ts m of items ([], false) p q r refl)

annotated-has : (h room : ℕ) (rest : Form ParamRest) → Has h room rest (RestParams room) → Has h room (annotated_rest rest) (RestParams room)
annotated-has h room rest p = has-behind (has-behind (has-either (bracket-has h room rest p) (varargs-has h room)) (λ us vs r q. q)) (λ us vs r q. q)

-- an end, and the parameters behind it
end-has : (h room : ℕ) → ParamLegal h → (f : Form ParamEnd) → Has h room f EndFits → Has h room (turn end_and_rest (pair f (maybe next_params))) (RestParams room)
end-has h room rows f p =
    has-turn end_and_rest (RestParams room)
    (has-pair (λ ts v. RestParams room ts (end_and_rest v)) p (some-next h room rows) (λ us vs v a e ps. λ m of items q r. ended-legal room v.0 us (us ++ vs) m of items (params_or_none v.1) e q r ps))
    (λ ts v a q. q)

named-end-has : (h room : ℕ) → Has h room named_end EndFits
unfolding named_end
named-end-has h room = has-turn named_with EndFits (has-pair (λ ts v. NameFits ts v.0) (name-at-has h room) (anything h room (many dim)) (λ us vs v a p q. p)) (λ ts v a p. p)

later-rule : (h room : ℕ) → ParamLegal h → Has h room param_rest_form (RestParams room)
unfolding param_rest_form
later-rule h room rows =
    has-either (bracket-has h room (nest param_rest) (rows.later room))
    (has-either (annotated-has h room (nest param_rest) (rows.later room)) (has-either (varargs-has h room) (end-has h room rows named_end (named-end-has h room))))

abbrev BehindName : ℕ → List Symbol → FirstBehind → Type 0
BehindName room ts x = ParamsFit room ts x.1

behind-name-has : (h room : ℕ) → ParamLegal h → Has h room behind_first_name (BehindName room)
unfolding behind_first_name
behind-name-has h room rows =
    has-turn alone_or (BehindName room)
    (has-maybe (λ ts o. BehindName room ts (alone_or o))
    (has-either (has-turn dims_and_rest (BehindName room) (has-pair (λ ts v. SomeFit room ts v.1) (anything h room dot_this) (some-next h room rows) (λ us vs v a p q. q)) (λ ts v a q. q))
    (has-either (has-turn dims_and_rest (BehindName room) (has-pair (λ ts v. SomeFit room ts v.1) (anything h room with_dims) (some-next h room rows) (λ us vs v a p q. q)) (λ ts v a q. q))
    (has-turn comma_first (BehindName room) (next-has h room rows) (λ ts ps a q. q))))
    (λ ts. refl) (λ ts v a q. q))
    (λ ts o a q. q)

end-named-fits : (ts : List Symbol) (n : NameAt) (o : Option (List Around)) → is_name n.name ≡ true → EndFits ts (end_named n o)
end-named-fits ts n None p = tt
end-named-fits ts n (Some ds) p = p

first-rule : (h room : ℕ) → ParamLegal h → Has h room first_rest_form (RestParams room)
unfolding first_rest_form receiver
first-rule h room rows =
    has-either (bracket-has h room (nest first_rest) (rows.first room))
    (has-either (annotated-has h room (nest first_rest) (rows.first room))
    (has-either (varargs-has h room)
    (has-either (end-has h room rows receiver (has-turn receiver_end EndFits (anything h room (keyword token.this)) (λ ts s a p. tt)))
    (has-turn first_named (RestParams room)
    (has-pair (λ ts v. RestParams room ts (first_named v)) (name-at-has h room) (behind-name-has h room rows)
    (λ us vs v a p ps. λ m of items q r. ended-legal room (end_named v.0 v.1.0) us (us ++ vs) m of items v.1.1 (end-named-fits us v.0 v.1.0 p) q r ps))
    (λ ts v a q. q)))))

param-legal-rows : (h : ℕ) → ParamLegal h
param-legal-rows zero = record { later = λ room. has-lowest room param_rest (RestParams room); first = λ room. has-lowest room first_rest (RestParams room) }
param-legal-rows (suc h) = record {
  later = λ room. has-free h room param_rest refl (RestParams room) (later-rule h room (param-legal-rows h));
  first = λ room. has-free h room first_rest refl (RestParams room) (first-rule h room (param-legal-rows h));
}

-- of the first parameter, behind its annotations
abbrev FoundFits : ℕ → List Symbol → FirstRest → Type 0
FoundFits room ts g = (us : List Symbol) (found : List AnnotationText) → AreTexts (us ++ ts) → Marks room us found → ParamsFit room ts (g found)

-- `final` and other modifiers behind the annotations
final-marks : (room : ℕ) (us vs : List Symbol) (found : List AnnotationText) (ks : List Mark) → AreTexts (us ++ vs) → Marks room us found → Items (mark_fits room) vs ks → Modified room (with_marks (final_and found) ks)
final-marks room us vs found ks a i j =
    let r = marks-fit room (length us) (final_and found) ks refl i.fit i.few j.fit in
    (r.0, and-true (list-short (us ++ vs) (with_marks (final_and found) ks).annotations a (omega (arith, r.2, j.few, length-append us vs))) r.1)

found-has : (h room : ℕ) → Has h room behind_annotations (FoundFits room)
unfolding behind_annotations
found-has h room =
    let rows = param-legal-rows h in
    let based = has-pair (λ ts (x : BaseType × ParamRest). BaseFits room x.0 × RestParams room ts x.1) (base-type-has h room (arguments-has h)) (rows.later room) (λ us vs x a p q. (p, q)) in
    let first = has-pair (λ ts (x : BaseType × ParamRest). BaseFits room x.0 × RestParams room ts x.1) (base-type-has h room (arguments-has h)) (rows.first room) (λ us vs x a p q. (p, q)) in
    has-either
    (has-turn final_first (FoundFits room)
    (has-behind
    (has-pair (λ ts v. FoundFits room ts (final_first v)) (has-row (mark_fits room) param_modifier_full (param-modifier-has h room)) based
    (λ vs ws v a j q. λ us found b i. q.1 (with_marks (final_and found) v.0) v.1.0 v.1.1.0 (final-marks room us vs found v.0 (texts-front (us ++ (vs ++ ws)) (us ++ vs) ws (sym (append_assoc us vs ws)) b) i j) q.0))
    (λ vs ws v p. λ us found b i. p (us ++ vs) found (subst AreTexts (sym (append_assoc us vs ws)) b) (items-before (is_legal_annotation room) us vs found i)))
    (λ ts v a p. p))
    (has-turn plain_first (FoundFits room) first
    (λ ts v a q. λ us found b i. q.1 (annotated_only found) v.0 v.1.0 (refl, items-fit (is_legal_annotation room) us found (texts-front (us ++ ts) us ts refl b) i) q.0))

pub first-params-have : (h room : ℕ) → Has h room first_params (ParamsFit room)
unfolding first_params
first-params-have h room =
    has-turn first_from (ParamsFit room)
    (has-pair (λ ts x. ParamsFit room ts (first_from x)) (annotations-have h room) (found-has h room) (λ us vs x a i p. p us x.0 a i))
    (λ ts x a p. p)

abbrev pub AllParams : ℕ → List Symbol → Params → Type 0
AllParams room ts p = list_all (param_fits room) p.params ≡ true

pub params-have : (h room : ℕ) → Has h room params (AllParams room)
unfolding params
params-have h room =
    has-behind
    (has-before
    (has-turn optional_first (AllParams room) (has-maybe (SomeFit room) (first-params-have h room) (λ ts. refl) (λ ts ps a p. p)) (λ ts o a p. p))
    (λ us vs p q. q))
    (λ us vs p q. q)
