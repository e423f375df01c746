-- The value of an expression is legal: what its symbols spell, or their text.
use Rattle.std.proofs.Common.{◌≡◌, ◌&&◌, ℕ, zero, suc, ◌+◌, ◌<◌, ◌≤◌, Bool, true, false, cond, List, [], ◌∷◌, ◌++◌, length, map, codes, Option, None, Some, option_map, option_and_then, refl, sym, ap, subst, ◌∙◌, arith, append_assoc, length-append}
use Rattle.std.specs.List.{list_all, slice_split, onto_first}
use Rattle.std.specs.Option.{option_or, option_map_or}
use Rattle.std.specs.Str.{IsUtf8}
use Rattle.std.proofs.lemmas.Bool.{lt-ltb, le-leb}
use Rattle.std.proofs.lemmas.List.Sums.{sum_by-cons, sum_by-append}
use Rattle.std.proofs.lemmas.Str.{IsUtf8-append}
use Rattle.apt_base.specs.Forms.{is_name}
use Rattle.decl_tree.specs.Legal.{part_fits, inside_type, is_legal_type, plain_fits, is_plain, value_fits, is_legal_value}
use Rattle.decl_tree.specs.declared.annotation.AnnotationText.{AnnotationText}
use Rattle.decl_tree.specs.declared.annotation.ElementValuePair.{ElementValuePair}
use Rattle.decl_tree.specs.declared.annotation.ValueText.{ValueText, roll-ValueText, out-ValueText, out-roll-ValueText}
use Rattle.decl_tree.specs.declared.annotation.ValueText.TheOpen.{ValueText-F}
use Rattle.decl_tree.specs.declared.annotation.ValueText.TheVariants as value
use Rattle.apt_base.specs.declared.around.Around.{Around}
use Rattle.apt_base.specs.declared.around.Around.TheVariants as around
use Rattle.decl_tree.specs.declared.type_text.BaseType.{BaseType}
use Rattle.decl_tree.specs.declared.type_text.BaseType.TheVariants as base
use Rattle.decl_tree.specs.declared.type_text.NamedPart.{NamedPart}
use Rattle.decl_tree.specs.declared.type_text.PrimitiveKind.{PrimitiveKind}
use Rattle.decl_tree.specs.declared.type_text.PrimitiveKind.TheVariants as primitive
use Rattle.decl_grammar.specs.declared.symbol.Symbol.{Symbol}
use Rattle.decl_grammar.specs.Constants.{is_literal, is_numeral, is_operator, is_word, is_dot_name, joined, chain_from, chain_of, primitive_of, name_part, type_of, dim_here, class_here, class_end, class_named, class_primitive, class_void, class_of, literal_of, negated_of, plain_of, every, is_plus, parts_of, two_or_more, joined_of, constant_of, expression_of}
use Rattle.decl_grammar.specs.Constants as constants
use Rattle.decl_grammar.specs.TokenNames as token
use Rattle.decl_limits.specs.Texts.{bytes_of, AreUtf8, AreTexts}
use Rattle.decl_limits.proofs.LegalTexts.{and-true, dot-utf8, size, symbols-few, texts-front, texts-back, Items, items-fit, items-before, items-append, Made, made-fits, made-before, symbol-made, joined-made}
use Rattle.decl_limits.proofs.LegalTypes.{part-legal, BaseFits, TypeFits, named-legal, primitive-legal, type-of-legal, type-legal}

-- ---- values by their variants

abbrev ValueLayer : Type 0
ValueLayer = ValueText-F ValueText AnnotationText ElementValuePair

pub value-legal : (room : ℕ) (x : ValueLayer) (v : ValueText) → roll-ValueText x ≡ v → value_fits (is_legal_type room) (is_legal_value room) x ≡ true → is_legal_value (suc room) v ≡ true
unfolding is_legal_value
value-legal room x v rolls fit =
    ap (λ w. value_fits (is_legal_type room) (is_legal_value room) (out-ValueText w)) (sym rolls) ∙ (ap (value_fits (is_legal_type room) (is_legal_value room)) (out-roll-ValueText x) ∙ fit)

plain-value : (x : ValueLayer) (v : ValueText) → roll-ValueText x ≡ v → plain_fits x ≡ true → is_plain v ≡ true
unfolding is_plain
plain-value x v rolls fit = ap (λ w. plain_fits (out-ValueText w)) (sym rolls) ∙ (ap plain_fits (out-roll-ValueText x) ∙ fit)

-- this holds of what is there
abbrev Some-is : {A : Type 0} → (A → Type 0) → Option A → Type 0
Some-is P None = Unit {0}
Some-is P (Some x) = P x

either-is : {A : Type 0} (P : A → Type 0) (o p : Option A) → Some-is P o → Some-is P p → Some-is P (option_or o p)
either-is P None p a b = b
either-is P (Some x) p a b = a

mapped-is : {A B : Type 0} (P : A → Type 0) (Q : B → Type 0) (k : A → B) (o : Option A) → ((x : A) → P x → Q (k x)) → Some-is P o → Some-is Q (option_map k o)
mapped-is P Q k None go a = tt
mapped-is P Q k (Some x) go a = go x a

choice-is : {A : Type 0} (P : A → Type 0) (c : Bool) (o p : Option A) → Some-is P o → Some-is P p → Some-is P (cond c o p)
choice-is P true o p a b = a
choice-is P false o p a b = b

-- ---- literals and chains of names

first-name : (s : Symbol) (ss : List Symbol) → AreTexts (s ∷ ss) → is_name s.text ≡ true
first-name s ss a =
    let b = texts-front (s ∷ ss) (s ∷ []) ss refl a in
    made-fits (s ∷ []) s.text b (symbol-made s (s ∷ []) refl b)

literal-is : (Q : ValueText → Type 0) → ((t : List ℕ) → is_name t ≡ true → Q (value.Literal t)) → (ss : List Symbol) → AreTexts ss → Some-is Q (literal_of ss)
literal-is Q go [] a = tt
literal-is Q go (s ∷ []) a = choice-is Q (is_literal s) (Some (value.Literal s.text)) None (go s.text (first-name s [] a)) tt
literal-is Q go (s ∷ t ∷ ss) a = tt

-- a name behind a dot, put behind a text
next-made : (us : List Symbol) (s n : Symbol) (t : List ℕ) → Made us t → IsUtf8 n.text → Made (us ++ s ∷ n ∷ []) ((t ++ codes ".") ++ n.text)
next-made us s n t m utf8 = record {
  utf8 = IsUtf8-append (t ++ codes ".") n.text (IsUtf8-append t (codes ".") m.utf8 dot-utf8) utf8;
  short = omega (arith, m.short, length-append (t ++ codes ".") n.text, length-append t (codes "."), sum_by-append bytes_of us (s ∷ n ∷ []), sum_by-cons bytes_of s (n ∷ []), sum_by-cons bytes_of n []);
}

chain-from-made : (us : List Symbol) (t : List ℕ) (ss : List Symbol) → Made us t → AreUtf8 ss → Some-is (Made (us ++ ss)) (chain_from t ss)
chain-from-made us t [] m a = made-before us [] t m
chain-from-made us t (s ∷ []) m a = tt
chain-from-made us t (s ∷ n ∷ ss) m a =
    let rest = chain-from-made (us ++ s ∷ n ∷ []) ((t ++ codes ".") ++ n.text) ss (next-made us s n t m a.2.0) a.2.2 in
    choice-is (Made (us ++ s ∷ n ∷ ss)) (is_dot_name s n) (chain_from ((t ++ codes ".") ++ n.text) ss) None
    (subst (λ (vs : List Symbol). Some-is (Made vs) (chain_from ((t ++ codes ".") ++ n.text) ss)) (append_assoc us (s ∷ n ∷ []) ss) rest) tt

chain-of-made : (ss : List Symbol) → AreTexts ss → Some-is (Made ss) (chain_of ss)
chain-of-made [] a = tt
chain-of-made (s ∷ ss) a =
    choice-is (Made (s ∷ ss)) (constants.is_name s) (chain_from s.text ss) None
    (chain-from-made (s ∷ []) s.text ss (symbol-made s (s ∷ []) refl (texts-front (s ∷ ss) (s ∷ []) ss refl a)) a.0.2) tt

plain-is : (Q : ValueText → Type 0) → ((t : List ℕ) → is_name t ≡ true → Q (value.Literal t)) → ((t : List ℕ) → is_name t ≡ true → Q (value.Chain t)) → (ss : List Symbol) → AreTexts ss → Some-is Q (plain_of ss)
plain-is Q literal chain ss a =
    either-is Q (literal_of ss) (option_map value.Chain (chain_of ss)) (literal-is Q literal ss a)
    (mapped-is (Made ss) Q value.Chain (chain_of ss) (λ t m. chain t (made-fits ss t a m)) (chain-of-made ss a))

abbrev Legal : ℕ → ValueText → Type 0
Legal room v = is_legal_value (suc room) v ≡ true

plain-legal : (room : ℕ) (ss : List Symbol) → AreTexts ss → Some-is (Legal room) (plain_of ss)
plain-legal room ss a =
    plain-is (Legal room) (λ t e. value-legal room (ValueText-F.Literal t) (value.Literal t) (value.rolls-Literal t) e)
    (λ t e. value-legal room (ValueText-F.Chain t) (value.Chain t) (value.rolls-Chain t) e) ss a

-- a numeral with a `-` before it
negated-legal : (room : ℕ) (ss : List Symbol) → AreTexts ss → Some-is (Legal room) (negated_of ss)
negated-legal room [] a = tt
negated-legal room (s ∷ []) a = tt
negated-legal room (s ∷ t ∷ []) a =
    let name = first-name t [] (texts-back (s ∷ t ∷ []) (s ∷ []) (t ∷ []) refl a) in
    choice-is (Legal room) (is_operator token.minus s && is_numeral t) (Some (value.Negated t.text)) None
    (value-legal room (ValueText-F.Negated t.text) (value.Negated t.text) (value.rolls-Negated t.text) name) tt
negated-legal room (s ∷ t ∷ u ∷ ss) a = tt

-- ---- class literals

class-end-legal : (room : ℕ) (of : BaseType) (items : List Around) (ss : List Symbol) → BaseFits room of → Some-is (TypeFits room) (class_end of items ss)
class-end-legal room of items [] fit = tt
class-end-legal room of items (s ∷ []) fit = tt
class-end-legal room of items (s ∷ t ∷ ss) fit =
    choice-is (TypeFits room) (dim_here (s ∷ t ∷ ss)) (class_end of (items ++ around.Array ∷ []) ss) (cond (class_here (s ∷ t ∷ ss)) (Some (type_of of items)) None)
    (class-end-legal room of (items ++ around.Array ∷ []) ss fit)
    (choice-is (TypeFits room) (class_here (s ∷ t ∷ ss)) (Some (type_of of items)) None (type-of-legal room of items fit) tt)

name-part-legal : (room : ℕ) (s : Symbol) (ss : List Symbol) → AreTexts (s ∷ ss) → Items (part_fits (inside_type room)) (s ∷ []) (name_part s.text ∷ [])
name-part-legal room s ss a = record { fit = and-true (part-legal (inside_type room) s.text None (first-name s ss a) refl) refl; few = omega arith }

class-named-legal : (room : ℕ) (us : List Symbol) (parts : List NamedPart) (ss : List Symbol) → Items (part_fits (inside_type room)) us parts → AreTexts (us ++ ss) → Some-is (TypeFits room) (class_named parts ss)
class-named-legal room us parts [] i a = tt
class-named-legal room us parts (s ∷ []) i a = tt
class-named-legal room us parts (s ∷ n ∷ ss) i a =
    let next = name-part-legal room n ss (texts-back (us ++ s ∷ n ∷ ss) (us ++ s ∷ []) (n ∷ ss) (sym (append_assoc us (s ∷ []) (n ∷ ss))) a) in
    let more = items-append (part_fits (inside_type room)) (us ++ s ∷ []) (n ∷ []) parts (name_part n.text ∷ []) (items-before (part_fits (inside_type room)) us (s ∷ []) parts i) next in
    let whole : us ++ s ∷ n ∷ ss ≡ ((us ++ s ∷ []) ++ n ∷ []) ++ ss = sym (append_assoc us (s ∷ []) (n ∷ ss)) ∙ sym (append_assoc (us ++ s ∷ []) (n ∷ []) ss) in
    let named = named-legal room parts (items-fit (part_fits (inside_type room)) us parts (texts-front (us ++ s ∷ n ∷ ss) us (s ∷ n ∷ ss) refl a) i) in
    choice-is (TypeFits room) (is_dot_name s n) (class_named (parts ++ name_part n.text ∷ []) ss) (class_end (base.Named parts) [] (s ∷ n ∷ ss))
    (class-named-legal room ((us ++ s ∷ []) ++ n ∷ []) (parts ++ name_part n.text ∷ []) ss more (subst AreTexts whole a))
    (class-end-legal room (base.Named parts) [] (s ∷ n ∷ ss) named)

class-primitive-legal : (room : ℕ) (kind : Option PrimitiveKind) (ss : List Symbol) → Some-is (TypeFits room) (class_primitive kind ss)
class-primitive-legal room None ss = tt
class-primitive-legal room (Some kind) ss = class-end-legal room (base.Primitive kind) [] ss (primitive-legal room kind)

class-of-legal : (room : ℕ) (ss : List Symbol) → AreTexts ss → Some-is (TypeFits room) (class_of ss)
class-of-legal room [] a = tt
class-of-legal room (s ∷ ss) a =
    choice-is (TypeFits room) (constants.is_name s) (class_named (name_part s.text ∷ []) ss) (cond (is_word token.void s) (class_void ss) (class_primitive (primitive_of s.sort) ss))
    (class-named-legal room (s ∷ []) (name_part s.text ∷ []) ss (name-part-legal room s ss a) a)
    (choice-is (TypeFits room) (is_word token.void s) (class_void ss) (class_primitive (primitive_of s.sort) ss)
    (choice-is (TypeFits room) (class_here ss) (Some (type_of (base.Primitive primitive.Void) [])) None (type-of-legal room (base.Primitive primitive.Void) [] (primitive-legal room primitive.Void)) tt)
    (class-primitive-legal room (primitive_of s.sort) ss))

class-legal : (room : ℕ) (ss : List Symbol) → AreTexts ss → Some-is (Legal room) (option_map value.Class (class_of ss))
class-legal room ss a =
    mapped-is (TypeFits room) (Legal room) value.Class (class_of ss)
    (λ of fit. value-legal room (ValueText-F.Class of) (value.Class of) (value.rolls-Class of) (type-legal room of fit)) (class-of-legal room ss a)

-- ---- literals and names between which a `+` stands

abbrev Pieces : ℕ → List (List Symbol) → Type 0
Pieces n [] = Unit {0}
Pieces n (p ∷ ps) = AreUtf8 p × (size p ≤ n) × Pieces n ps

pieces-up : (n m : ℕ) (ps : List (List Symbol)) → n ≤ m → Pieces n ps → Pieces m ps
pieces-up n m [] le a = tt
pieces-up n m (p ∷ ps) le a = (a.0, omega (arith, a.1, le), pieces-up n m ps le a.2)

first-piece : (s : Symbol) (n : ℕ) (ps : List (List Symbol)) → AreUtf8 (s ∷ []) → Pieces n ps → Pieces (bytes_of s + n) (onto_first s ps)
first-piece s n [] u a = (u, omega (arith, sum_by-cons bytes_of s []), tt)
first-piece s n (p ∷ ps) u a = ((u.0, u.1, a.0), omega (arith, a.1, sum_by-cons bytes_of s p), pieces-up n (bytes_of s + n) ps (omega arith) a.2)

all-pieces : (ss : List Symbol) → AreUtf8 ss → Pieces (size ss) (slice_split is_plus ss)
all-pieces [] a = (tt, omega arith, tt)
all-pieces (s ∷ ss) a = go (is_plus s) (all-pieces ss a.2)
  where
    go : (c : Bool) → Pieces (size ss) (slice_split is_plus ss) → Pieces (size (s ∷ ss)) (cond c ([] ∷ slice_split is_plus ss) (onto_first s (slice_split is_plus ss)))
    go true ps = (tt, omega arith, pieces-up (size ss) (size (s ∷ ss)) (slice_split is_plus ss) (omega (arith, sum_by-cons bytes_of s ss)) ps)
    go false ps = pieces-up (bytes_of s + size ss) (size (s ∷ ss)) (onto_first s (slice_split is_plus ss)) (omega (arith, sum_by-cons bytes_of s ss)) (first-piece s (size ss) (slice_split is_plus ss) (a.0, a.1, tt) ps)

first-few : (s : Symbol) (ps : List (List Symbol)) → length (onto_first s ps) ≤ suc (length ps)
first-few s [] = omega arith
first-few s (p ∷ ps) = omega arith

pieces-few : (ss : List Symbol) → length (slice_split is_plus ss) ≤ suc (length ss + length ss)
pieces-few [] = omega arith
pieces-few (s ∷ ss) = go (is_plus s) (pieces-few ss)
  where
    go : (c : Bool) → length (slice_split is_plus ss) ≤ suc (length ss + length ss) → length (cond c ([] ∷ slice_split is_plus ss) (onto_first s (slice_split is_plus ss))) ≤ suc (length (s ∷ ss) + length (s ∷ ss))
    go true few = omega (arith, few)
    go false few = omega (arith, few, first-few s (slice_split is_plus ss))

abbrev PlainItems : ℕ → List ValueText → Type 0
PlainItems n vs = (list_all is_plain vs ≡ true) × (length vs ≤ n)

abbrev Plain : ValueText → Type 0
Plain v = is_plain v ≡ true

plain-plain : (ss : List Symbol) → AreTexts ss → Some-is Plain (plain_of ss)
plain-plain ss a =
    plain-is Plain (λ t e. plain-value (ValueText-F.Literal t) (value.Literal t) (value.rolls-Literal t) e)
    (λ t e. plain-value (ValueText-F.Chain t) (value.Chain t) (value.rolls-Chain t) e) ss a

every-plain : (n : ℕ) → n ≤ 1_073_741_824 → (ps : List (List Symbol)) → Pieces n ps → Some-is (PlainItems (length ps)) (every (map plain_of ps))
every-plain n small [] a = (refl, omega arith)
every-plain n small (p ∷ ps) a = go (plain_of p) (every (map plain_of ps)) (plain-plain p (a.0, omega (arith, a.1, small))) (every-plain n small ps a.2)
  where
    go : (o : Option ValueText) (os : Option (List ValueText)) → Some-is Plain o → Some-is (PlainItems (length ps)) os → Some-is (PlainItems (length (p ∷ ps))) (option_and_then (λ y. option_map (λ ys. y ∷ ys) os) o)
    go None os e es = tt
    go (Some v) None e es = tt
    go (Some v) (Some vs) e es = (and-true e es.0, omega (arith, es.1))

two-legal : (room n : ℕ) → n < 0x1_0000_0000 → (vs : List ValueText) → PlainItems n vs → Some-is (Legal room) (two_or_more vs)
two-legal room n small [] i = tt
two-legal room n small (v ∷ []) i = tt
two-legal room n small (v ∷ w ∷ vs) i =
    value-legal room (ValueText-F.Joined (v ∷ w ∷ vs)) (value.Joined (v ∷ w ∷ vs)) (value.rolls-Joined (v ∷ w ∷ vs))
    (and-true (and-true (lt-ltb _ _ (omega (arith, i.1, small))) i.0) (le-leb 2 (length (v ∷ w ∷ vs)) (omega arith)))

joined-legal : (room : ℕ) (ss : List Symbol) → AreTexts ss → Some-is (Legal room) (joined_of ss)
joined-legal room ss a =
    go (parts_of ss) (every-plain (size ss) a.1 (slice_split is_plus ss) (all-pieces ss a.0))
  where
    go : (o : Option (List ValueText)) → Some-is (PlainItems (length (slice_split is_plus ss))) o → Some-is (Legal room) (option_and_then two_or_more o)
    go None i = tt
    go (Some vs) i = two-legal room (length (slice_split is_plus ss)) (omega (arith, pieces-few ss, symbols-few ss, a.1)) vs i

-- ---- expressions

expression-suc : (room : ℕ) (ss : List Symbol) → AreTexts ss → is_legal_value (suc room) (expression_of ss) ≡ true
unfolding expression_of
expression-suc room ss a = go (constant_of ss) constant
  where
    other : Legal room (value.Other (joined ss))
    other = value-legal room (ValueText-F.Other (joined ss)) (value.Other (joined ss)) (value.rolls-Other (joined ss)) (made-fits ss (joined ss) a (joined-made ss a.0))

    constant : Some-is (Legal room) (constant_of ss)
    constant =
        either-is (Legal room) (plain_of ss) (option_or (negated_of ss) (option_or (option_map value.Class (class_of ss)) (joined_of ss))) (plain-legal room ss a)
        (either-is (Legal room) (negated_of ss) (option_or (option_map value.Class (class_of ss)) (joined_of ss)) (negated-legal room ss a)
        (either-is (Legal room) (option_map value.Class (class_of ss)) (joined_of ss) (class-legal room ss a) (joined-legal room ss a)))

    go : (o : Option ValueText) → Some-is (Legal room) o → Legal room (option_map_or (λ v. v) o (value.Other (joined ss)))
    go None e = other
    go (Some v) e = e

-- a value is open itself
pub expression-legal : (room : ℕ) → 1 ≤ room → (ss : List Symbol) → AreTexts ss → is_legal_value room (expression_of ss) ≡ true
expression-legal zero one ss a = absurd (omega (arith, one))
expression-legal (suc room) one ss a = expression-suc room ss a
