-- Types that are read are legal: a list of type arguments counts as open, so within it they nest one less.
use Rattle.std.proofs.Common.{◌≡◌, ◌&&◌, ℕ, zero, suc, Bool, true, false, List, [], ◌∷◌, Option, refl, sym, ap, ◌∙◌}
use Rattle.apt_base.specs.Forms.{is_name, all_fit, fits_if_some}
use Rattle.decl_tree.specs.Legal.{part_fits, base_fits, inside_type, is_legal_type}
use Rattle.apt_base.specs.declared.around.Around.{Around}
use Rattle.apt_base.specs.declared.around.Around.TheVariants as around
use Rattle.decl_tree.specs.declared.type_text.BaseType.{BaseType, out-BaseType, out-roll-BaseType}
use Rattle.decl_tree.specs.declared.type_text.BaseType.TheOpen.{BaseType-F}
use Rattle.decl_tree.specs.declared.type_text.BaseType.TheVariants as base
use Rattle.decl_tree.specs.declared.type_text.NamedPart.{NamedPart, out-roll-NamedPart}
use Rattle.decl_tree.specs.declared.type_text.PrimitiveKind.{PrimitiveKind}
use Rattle.decl_tree.specs.declared.type_text.TypeText.{TypeText, out-TypeText, out-roll-TypeText}
use Rattle.decl_grammar.specs.declared.symbol.Symbol.{Symbol}
use Rattle.decl_grammar.specs.Form.{Shape, type_arguments, pair, turn, many, nest, nullable}
use Rattle.decl_grammar.specs.Constants.{named_part_of, type_of}
use Rattle.decl_grammar.specs.Types.{behind, name, annotations, primitive_type, named_part, next_part, class_type, dim, first_and_rest, keyword, base_type, type_in, type_form, class_array, primitive_array, reference, annotated_reference, bounded, wildcard_bound, wildcard_of, wildcard, type_argument, next_argument, arguments_form, class_text, annotated_class, next_bound, bounds, next_class, classes}
use Rattle.decl_grammar.proofs.Firsts.{next_part_full, next_argument_full, next_bound_full, next_class_full}
use Rattle.decl_limits.proofs.LegalTexts.{and-true, Items, items-fit, items-grow, items-before, made-fits, name-made}
use Rattle.decl_limits.proofs.LegalForms.{Has, anything, has-turn, has-pair, has-more, has-behind, has-before, has-maybe, has-either, has-lowest, has-no-room, has-counted, has-first}

-- ---- names, and what is made of parts

pub name-has : (h room : ℕ) → Has h room name (λ ts t. is_name t ≡ true)
name-has h room = record { there = λ ts t a sh is. made-fits ts t a (name-made h ts t a is) }

pub part-legal : (inside : TypeText → Bool) (n : List ℕ) (os : Option (List TypeText)) → is_name n ≡ true → fits_if_some (all_fit inside) os ≡ true → part_fits inside (named_part_of n os) ≡ true
part-legal inside n os p q =
    ap (λ part. is_name part.name && fits_if_some (all_fit inside) part.arguments) (out-roll-NamedPart (record { name = n; arguments = os })) ∙ and-true p q

abbrev pub BaseFits : ℕ → BaseType → Type 0
BaseFits room of = base_fits (inside_type room) (out-BaseType of) ≡ true

abbrev pub TypeFits : ℕ → TypeText → Type 0
TypeFits room text = BaseFits room (out-TypeText text).base

pub primitive-legal : (room : ℕ) (kind : PrimitiveKind) → BaseFits room (base.Primitive kind)
primitive-legal room kind =
    ap (λ of. base_fits (inside_type room) (out-BaseType of)) (sym (base.rolls-Primitive kind)) ∙ ap (base_fits (inside_type room)) (out-roll-BaseType (BaseType-F.Primitive kind))

pub named-legal : (room : ℕ) (parts : List NamedPart) → all_fit (part_fits (inside_type room)) parts ≡ true → BaseFits room (base.Named parts)
named-legal room parts fit =
    ap (λ of. base_fits (inside_type room) (out-BaseType of)) (sym (base.rolls-Named parts)) ∙ (ap (base_fits (inside_type room)) (out-roll-BaseType (BaseType-F.Named parts)) ∙ fit)

wildcard-legal : (room : ℕ) → BaseFits room base.Wildcard
wildcard-legal room =
    ap (λ of. base_fits (inside_type room) (out-BaseType of)) (sym base.rolls-Wildcard) ∙ ap (base_fits (inside_type room)) (out-roll-BaseType BaseType-F.Wildcard)

-- of what stands around a base nothing is asked
pub type-of-legal : (room : ℕ) (of : BaseType) (items : List Around) → BaseFits room of → TypeFits room (type_of of items)
type-of-legal room of items fit =
    ap (λ text. base_fits (inside_type room) (out-BaseType text.base)) (out-roll-TypeText (record { around = items; base = of })) ∙ fit

inside-legal : (room : ℕ) (text : TypeText) → TypeFits room text → inside_type (suc room) text ≡ true
unfolding inside_type
inside-legal room text fit = fit

pub type-legal : (room : ℕ) (text : TypeText) → TypeFits room text → is_legal_type room text ≡ true
unfolding is_legal_type
type-legal room text fit = fit

-- ---- forms of types, over those of lists of type arguments

abbrev pub Arguments : ℕ → Type 0
Arguments h = (room : ℕ) → Has h room (nest type_arguments) (Items (inside_type room))

abbrev pub PartFits : ℕ → List Symbol → NamedPart → Type 0
PartFits room ts part = part_fits (inside_type room) part ≡ true

pub part-has : (h room : ℕ) → Arguments h → Has h room named_part (PartFits room)
unfolding named_part
part-has h room arguments =
    has-turn (λ (x : List ℕ × Option (List TypeText)). named_part_of x.0 x.1) (PartFits room)
    (has-pair (λ ts x. (is_name x.0 ≡ true) × (fits_if_some (all_fit (inside_type room)) x.1 ≡ true)) (name-has h room)
    (has-maybe (λ ts os. fits_if_some (all_fit (inside_type room)) os ≡ true) (arguments room) (λ ts. refl) (λ ts xs a i. items-fit (inside_type room) ts xs a i))
    (λ us vs x a p q. (p, q)))
    (λ ts x a p. part-legal (inside_type room) x.0 x.1 p.0 p.1)

pub next-part-has : (h room : ℕ) → Arguments h → Has h room next_part (PartFits room)
unfolding next_part
next-part-has h room arguments = has-behind (has-behind (part-has h room arguments) (λ us vs x p. p)) (λ us vs x p. p)

part-full : nullable named_part ≡ false
unfolding named_part name
part-full = refl

class-type-has : (h room : ℕ) → Arguments h → Has h room class_type (Items (part_fits (inside_type room)))
unfolding class_type
class-type-has h room arguments = has-first (part_fits (inside_type room)) part-full next_part_full (part-has h room arguments) (next-part-has h room arguments)

abbrev BaseLegal : ℕ → List Symbol → BaseType → Type 0
BaseLegal room ts of = BaseFits room of

abbrev ShapeLegal : ℕ → List Symbol → Shape → Type 0
ShapeLegal room ts x = BaseFits room x.0

abbrev TextLegal : ℕ → List Symbol → TypeText → Type 0
TextLegal room ts text = TypeFits room text

named-has : (h room : ℕ) → Arguments h → Has h room (turn base.Named class_type) (BaseLegal room)
named-has h room arguments = has-turn base.Named (BaseLegal room) (class-type-has h room arguments) (λ ts xs a i. named-legal room xs (items-fit (part_fits (inside_type room)) ts xs a i))

primitive-has : (h room : ℕ) → Has h room (turn base.Primitive primitive_type) (BaseLegal room)
primitive-has h room = has-turn base.Primitive (BaseLegal room) (anything h room primitive_type) (λ ts kind a p. primitive-legal room kind)

pub base-type-has : (h room : ℕ) → Arguments h → Has h room base_type (BaseLegal room)
unfolding base_type
base-type-has h room arguments = has-either (primitive-has h room) (named-has h room arguments)

pub type-form-has : (h room : ℕ) → Arguments h → Has h room type_form (λ ts text. is_legal_type room text ≡ true)
unfolding type_form
type-form-has h room arguments =
    has-turn type_in (λ ts text. is_legal_type room text ≡ true)
    (has-pair (ShapeLegal room) (base-type-has h room arguments) (anything h room (many dim)) (λ us vs x a p q. p))
    (λ ts x a p. type-legal room (type_in x) (type-of-legal room x.0 x.1 p))

reference-has : (h room : ℕ) → Arguments h → Has h room reference (ShapeLegal room)
unfolding reference class_array primitive_array
reference-has h room arguments =
    has-either (has-pair (ShapeLegal room) (named-has h room arguments) (anything h room (many dim)) (λ us vs x a p q. p))
    (has-pair (ShapeLegal room) (primitive-has h room) (anything h room (turn first_and_rest (pair dim (many dim)))) (λ us vs x a p q. p))

annotated-has : (h room : ℕ) → Arguments h → Has h room annotated_reference (ShapeLegal room)
unfolding annotated_reference
annotated-has h room arguments = has-behind (reference-has h room arguments) (λ us vs x p. p)

bounded-has : (h room : ℕ) → Arguments h → (item : Around) (word : ℕ) → Has h room (turn (bounded item) (behind (keyword word) annotated_reference)) (TextLegal room)
bounded-has h room arguments item word =
    has-turn (bounded item) (TextLegal room) (has-behind (annotated-has h room arguments) (λ us vs x p. p))
    (λ ts x a p. type-of-legal room (out-TypeText (type_in x)).base (item ∷ (out-TypeText (type_in x)).around) (type-of-legal room x.0 x.1 p))

wildcard-has : (h room : ℕ) → Arguments h → Has h room wildcard (TextLegal room)
unfolding wildcard wildcard_bound
wildcard-has h room arguments =
    has-turn wildcard_of (TextLegal room)
    (has-behind
    (has-maybe (λ ts o. TypeFits room (wildcard_of o)) (has-either (bounded-has h room arguments around.Extends 16) (bounded-has h room arguments around.Super 39))
    (λ ts. type-of-legal room base.Wildcard [] (wildcard-legal room)) (λ ts text a p. p))
    (λ us vs o p. p))
    (λ ts o a p. p)

argument-has : (h room : ℕ) → Arguments h → Has h room type_argument (λ ts text. inside_type (suc room) text ≡ true)
unfolding type_argument
argument-has h room arguments =
    has-behind
    (has-more (λ ts text. inside_type (suc room) text ≡ true)
    (has-either (wildcard-has h room arguments) (has-turn type_in (TextLegal room) (reference-has h room arguments) (λ ts x a p. type-of-legal room x.0 x.1 p)))
    (λ ts text a p. inside-legal room text p))
    (λ us vs text p. p)

argument-full : nullable type_argument ≡ false
unfolding type_argument annotations wildcard reference class_array class_type named_part name primitive_array primitive_type
argument-full = refl

next-argument-has : (h room : ℕ) → Arguments h → Has h room next_argument (λ ts text. inside_type (suc room) text ≡ true)
unfolding next_argument
next-argument-has h room arguments = has-behind (argument-has h room arguments) (λ us vs text p. p)

list-has : (h room : ℕ) → Arguments h → Has h room arguments_form (Items (inside_type (suc room)))
unfolding arguments_form
list-has h room arguments =
    has-behind
    (has-before (has-first (inside_type (suc room)) argument-full next_argument_full (argument-has h room arguments) (next-argument-has h room arguments)) (items-before (inside_type (suc room))))
    (items-grow (inside_type (suc room)))

pub arguments-has : (h : ℕ) → Arguments h
arguments-has zero room = has-lowest room type_arguments (Items (inside_type room))
arguments-has (suc h) zero = has-no-room (suc h) type_arguments refl (Items (inside_type zero))
arguments-has (suc h) (suc room) = has-counted h room type_arguments refl (Items (inside_type (suc room))) (list-has h room (arguments-has h))

-- ---- types elsewhere

abbrev pub LegalType : ℕ → List Symbol → TypeText → Type 0
LegalType room ts text = is_legal_type room text ≡ true

pub class-has : (h room : ℕ) → Has h room annotated_class (LegalType room)
unfolding annotated_class
class-has h room =
    has-behind
    (has-turn class_text (LegalType room) (class-type-has h room (arguments-has h))
    (λ ts xs a i. type-legal room (class_text xs) (type-of-legal room (base.Named xs) [] (named-legal room xs (items-fit (part_fits (inside_type room)) ts xs a i)))))
    (λ us vs text p. p)

pub class-full : nullable annotated_class ≡ false
unfolding annotated_class annotations class_type named_part name
class-full = refl

next-bound-has : (h room : ℕ) → Has h room next_bound (LegalType room)
unfolding next_bound
next-bound-has h room = has-behind (class-has h room) (λ us vs text p. p)

pub bounds-has : (h room : ℕ) → Has h room bounds (Items (is_legal_type room))
unfolding bounds
bounds-has h room = has-behind (has-first (is_legal_type room) class-full next_bound_full (class-has h room) (next-bound-has h room)) (items-grow (is_legal_type room))

next-class-has : (h room : ℕ) → Has h room next_class (LegalType room)
unfolding next_class
next-class-has h room = has-behind (class-has h room) (λ us vs text p. p)

pub classes-has : (h room : ℕ) → Has h room classes (Items (is_legal_type room))
unfolding classes
classes-has h room = has-first (is_legal_type room) class-full next_class_full (class-has h room) (next-class-has h room)
