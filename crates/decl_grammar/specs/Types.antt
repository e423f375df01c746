-- Short forms, names, annotations and types (JLS 3.8, 4, 6.5, 9.7), over symbols: what the phrases of each are, and what they mean.
use Rattle.std.specs.Prelude.{ℕ, List, [], ◌∷◌, ◌++◌, Option, Some, None, if◌then◌else◌, codes, ◌==◌}
use Rattle.decl_tree.specs.declared.type_text.TypeText.{TypeText, out-TypeText}
use Rattle.decl_tree.specs.declared.annotation.ValueText.{ValueText}
use Rattle.decl_tree.specs.declared.annotation.ElementValuePair.{ElementValuePair}
use Rattle.decl_tree.specs.declared.annotation.AnnotationText.{AnnotationText, roll-AnnotationText}
use Rattle.apt_base.specs.declared.around.Around.{Around}
use Rattle.decl_tree.specs.declared.type_text.BaseType.{BaseType}
use Rattle.decl_grammar.specs.declared.written.Modifiers.{Modifiers}
use Rattle.decl_grammar.specs.declared.written.NameAt.{NameAt}
use Rattle.decl_grammar.specs.declared.written.TypeParamAt.{TypeParamAt}
use Rattle.decl_grammar.specs.declared.symbol.Symbol.{Symbol}
use Rattle.decl_grammar.specs.Symbols.{named, word, operator}
use Rattle.decl_grammar.specs.TokenNames as token
use Rattle.std.specs.Option.{option_map_or}
use Rattle.std.specs.Int.Bits.{bit_or}
use Rattle.decl_tree.specs.declared.type_text.PrimitiveKind.{PrimitiveKind}
use Rattle.decl_tree.specs.declared.type_text.NamedPart.{NamedPart}
use Rattle.decl_grammar.specs.Constants.{primitive_of, named_part_of, type_of, more_dotted}
use Rattle.apt_base.specs.declared.around.Around.TheVariants as around
use Rattle.decl_tree.specs.declared.type_text.BaseType.TheVariants as base
use Rattle.decl_tree.specs.declared.type_text.PrimitiveKind.TheVariants as primitive
use Rattle.decl_grammar.specs.Form.{Shape, Form, names, ats, primitive_sorts, plain_words, modifier_words, alone, paired, type_arguments, first_name, modifiers, value_and_rest, terminal, pair, turn, maybe, many, either, nest}

-- Annotations of types are passed over.

-- ---- short forms

-- the reserved word, and the operator, with this number
abbrev pub keyword : ℕ → Form Symbol
keyword n = terminal (word n ∷ [])

abbrev pub sign : ℕ → Form Symbol
sign n = terminal (operator n ∷ [])

-- a form behind another, and one before another
abbrev pub behind : {A B : Type 0} → Form B → Form A → Form A
behind g f = turn (λ x. x.1) (pair g f)

abbrev pub before : {A B : Type 0} → Form A → Form B → Form A
before f g = turn (λ x. x.0) (pair f g)

abbrev pub list_or_none : {A : Type 0} → Option (List A) → List A
list_or_none None = []
list_or_none (Some xs) = xs

abbrev pub first_and_rest : {A : Type 0} → A × List A → List A
first_and_rest x = x.0 ∷ x.1

-- a comma, and what stands behind it, where it begins there
abbrev pub comma_item : {A : Type 0} → Form A → Form (Option A)
comma_item f = behind (sign token.comma) (maybe f)

-- ---- names (JLS 3.8, 6.5)

abbrev pub text_of : Symbol → List ℕ
text_of s = s.text

unfoldable pub name : Form (List ℕ)
name = turn text_of (terminal names)

-- a name with its line, where it is that of what is declared
abbrev pub placed_name : Symbol → NameAt
placed_name s = record { name = text_of s; line = s.line }

abbrev pub name_at : Form NameAt
name_at = turn placed_name (terminal names)

-- a name that a `=` follows
unfoldable pub named_text : Form (List ℕ)
named_text = turn text_of (terminal (named ∷ []))

-- . Name
unfoldable pub dot_name : Form (List ℕ)
dot_name = behind (sign token.dot) name

abbrev pub dotted_name : List ℕ × List (List ℕ) → List ℕ
dotted_name x = more_dotted x.0 x.1

-- Name { . Name }
unfoldable pub name_chain : Form (List ℕ)
name_chain = turn dotted_name (pair name (many dot_name))

-- ---- annotations (JLS 9.7)

abbrev pub pair_of : List ℕ → ValueText → ElementValuePair
pair_of n v = record { name = n; value = v }

-- a pair, and those behind it
abbrev pub pair_and_rest : List ℕ × (ValueText × List ElementValuePair) → List ElementValuePair
pair_and_rest x = pair_of x.0 x.1.0 ∷ x.1.1

-- a value alone is that of the element `value` (JLS 9.7.3)
abbrev pub lone_pair : ValueText → List ElementValuePair
lone_pair v = pair_of (codes "value") v ∷ []

-- Name = Value, and all behind it up to the `)`, where the name might still be a value
unfoldable pub first_pair : Form (List ElementValuePair)
first_pair = turn pair_and_rest (pair (nest first_name) (behind (sign token.equals) (nest (value_and_rest paired))))

-- Name = Value, and all behind it
unfoldable pub next_pair : Form (List ElementValuePair)
next_pair = turn pair_and_rest (pair name (behind (sign token.equals) (nest (value_and_rest paired))))

abbrev pub no_pairs : Symbol → List ElementValuePair
no_pairs s = []

abbrev pub only_pair : ValueText × Unit {0} → List ElementValuePair
only_pair x = lone_pair x.0

-- PairsOrValue )
unfoldable pub pairs_or_value : Form (List ElementValuePair)
pairs_or_value = either first_pair (turn only_pair (nest (value_and_rest alone)))

-- ( [PairsOrValue] )
unfoldable pub annotation_arguments : Form (List ElementValuePair)
annotation_arguments = behind (sign token.open_parenthesis) (either (turn no_pairs (sign token.close_parenthesis)) pairs_or_value)

abbrev pub annotation_of : List ℕ → Option (List ElementValuePair) → AnnotationText
annotation_of n values = roll-AnnotationText (record { name = n; values = list_or_none values })

-- Name { . Name } [Arguments]
unfoldable pub annotation_body : Form AnnotationText
annotation_body = turn (λ x. annotation_of x.0 x.1) (pair name_chain (maybe annotation_arguments))

abbrev pub annotation_from : List ℕ → Form AnnotationText
annotation_from sorts = behind (terminal sorts) annotation_body

-- @ Name { . Name } [Arguments]
unfoldable pub annotation : Form AnnotationText
annotation = annotation_from ats

-- the same where the `@` of an annotation interface begins no annotation
unfoldable pub modifier_annotation : Form AnnotationText
modifier_annotation = annotation_from (operator token.at ∷ [])

unfoldable pub annotations : Form (List AnnotationText)
annotations = many annotation

-- an item, and those behind it
abbrev pub one_and_rest : {A : Type 0} → A × Option (List A) → List A
one_and_rest x = x.0 ∷ list_or_none x.1

abbrev pub no_values : {A : Type 0} → Symbol → List A
no_values s = []

-- what is read means nothing
abbrev pub silently : {A : Type 0} → A → Unit {0}
silently v = tt

abbrev pub as_written : List Symbol → List Symbol
as_written ts = ts

-- ---- types (JLS 4, 8.3, 10.2)

abbrev pub kind_of_word : ℕ → PrimitiveKind
kind_of_word n = option_map_or (λ k. k) (primitive_of n) primitive.Void

abbrev pub kind_of : Symbol → PrimitiveKind
kind_of s = kind_of_word s.sort

unfoldable pub primitive_type : Form PrimitiveKind
primitive_type = turn kind_of (terminal primitive_sorts)

-- Name [TypeArguments]
unfoldable pub named_part : Form NamedPart
named_part = turn (λ x. named_part_of x.0 x.1) (pair name (maybe (nest type_arguments)))

-- . Annotations NamedPart
unfoldable pub next_part : Form NamedPart
next_part = behind (sign token.dot) (behind annotations named_part)

-- NamedPart { . Annotations NamedPart }
unfoldable pub class_type : Form (List NamedPart)
class_type = turn first_and_rest (pair named_part (many next_part))

abbrev pub array_around : Symbol → Around
array_around s = around.Array

-- Annotations [ ]
unfoldable pub dim : Form Around
dim = behind annotations (behind (sign token.open_bracket) (turn array_around (sign token.close_bracket)))

unfoldable pub base_type : Form BaseType
base_type = either (turn base.Primitive primitive_type) (turn base.Named class_type)

abbrev pub type_in : Shape → TypeText
type_in x = type_of x.0 x.1

unfoldable pub type_form : Form TypeText
type_form = turn type_in (pair base_type (many dim))

-- ClassType { [ ] }
unfoldable pub class_array : Form Shape
class_array = pair (turn base.Named class_type) (many dim)

-- PrimitiveType [ ] { [ ] }
unfoldable pub primitive_array : Form Shape
primitive_array = pair (turn base.Primitive primitive_type) (turn first_and_rest (pair dim (many dim)))

-- of a primitive type an array alone is a reference type (JLS 4.3)
unfoldable pub reference : Form Shape
reference = either class_array primitive_array

-- Annotations Reference
unfoldable pub annotated_reference : Form Shape
annotated_reference = behind annotations reference

-- a type within something around it
abbrev pub bounded_text : Around → TypeText → TypeText
bounded_text item text = type_of (out-TypeText text).base (item ∷ (out-TypeText text).around)

abbrev pub bounded : Around → Shape → TypeText
bounded item x = bounded_text item (type_in x)

-- extends Reference, or super Reference
unfoldable pub wildcard_bound : Form TypeText
wildcard_bound =
    either (turn (bounded around.Extends) (behind (keyword token.extends) annotated_reference))
    (turn (bounded around.Super) (behind (keyword token.super) annotated_reference))

abbrev pub wildcard_of : Option TypeText → TypeText
wildcard_of None = type_of base.Wildcard []
wildcard_of (Some w) = w

-- ? [WildcardBound]
unfoldable pub wildcard : Form TypeText
wildcard = turn wildcard_of (behind (sign token.question) (maybe wildcard_bound))

-- JLS 4.5.1
unfoldable pub type_argument : Form TypeText
type_argument = behind annotations (either wildcard (turn type_in reference))

-- , TypeArgument
unfoldable pub next_argument : Form TypeText
next_argument = behind (sign token.comma) type_argument

-- < TypeArgument { , TypeArgument } >
unfoldable pub arguments_form : Form (List TypeText)
arguments_form = behind (sign token.less_than) (before (turn first_and_rest (pair type_argument (many next_argument))) (sign token.greater_than))

abbrev pub class_text : List NamedPart → TypeText
class_text parts = type_of (base.Named parts) []

-- Annotations ClassType
unfoldable pub annotated_class : Form TypeText
annotated_class = behind annotations (turn class_text class_type)

-- & Annotations ClassType
unfoldable pub next_bound : Form TypeText
next_bound = behind (sign token.ampersand) annotated_class

-- extends Bound { & Bound }
unfoldable pub bounds : Form (List TypeText)
bounds = behind (keyword token.extends) (turn first_and_rest (pair annotated_class (many next_bound)))

abbrev pub type_param_of : List AnnotationText → NameAt → Option (List TypeText) → TypeParamAt
type_param_of marks n bs = record { param = record { name = n.name; annotations = marks; bounds = list_or_none bs }; line = n.line }

-- JLS 8.1.2
unfoldable pub type_param : Form TypeParamAt
type_param = turn (λ x. type_param_of x.0 x.1.0 x.1.1) (pair annotations (pair name_at (maybe bounds)))

-- , TypeParam
unfoldable pub next_type_param : Form TypeParamAt
next_type_param = behind (sign token.comma) type_param

-- < TypeParam { , TypeParam } >
unfoldable pub type_params : Form (List TypeParamAt)
type_params = behind (sign token.less_than) (before (turn first_and_rest (pair type_param (many next_type_param))) (sign token.greater_than))

unfoldable pub optional_params : Form (List TypeParamAt)
optional_params = turn list_or_none (maybe type_params)

-- , Annotations ClassType
unfoldable pub next_class : Form TypeText
next_class = behind (sign token.comma) annotated_class

-- ClassType { , ClassType }
unfoldable pub classes : Form (List TypeText)
classes = turn first_and_rest (pair annotated_class (many next_class))

-- ---- modifiers (JLS 8.1.1, 8.3.1, 8.4.3)

-- what one modifier is: a bit, or an annotation
pub data Mark : Type 0 where
  bit : ℕ → Mark
  marked : AnnotationText → Mark

-- the bit of a modifier, by its sort
abbrev pub bit_of : ℕ → ℕ
bit_of n =
    if n == word token.public then 1 else if n == word token.protected then 2 else if n == word token.private then 4 else if n == word token.abstract then 8
    else if n == word token.default then 16 else if n == word token.static then 32 else if n == word token.final then 64 else if n == word token.transient then 128
    else if n == word token.volatile then 256 else if n == word token.synchronized then 512 else if n == word token.native then 1024 else 2048

abbrev pub bit_mark : Symbol → Mark
bit_mark s = bit (bit_of s.sort)

abbrev pub no_modifiers : Modifiers
no_modifiers = record { bits = 0; annotations = [] }

abbrev pub with_bit : ℕ → Modifiers → Modifiers
with_bit b m = record { bits = bit_or m.bits b; annotations = m.annotations }

abbrev pub with_annotation : AnnotationText → Modifiers → Modifiers
with_annotation a m = record { bits = m.bits; annotations = m.annotations ++ a ∷ [] }

abbrev pub with_mark : Modifiers → Mark → Modifiers
with_mark m (bit b) = with_bit b m
with_mark m (marked a) = with_annotation a m

-- modifiers, and more of them
abbrev pub with_marks : Modifiers → List Mark → Modifiers
with_marks m [] = m
with_marks m (k ∷ ks) = with_marks (with_mark m k) ks

abbrev pub marks_of : Mark × List Mark → Modifiers
marks_of x = with_marks no_modifiers (x.0 ∷ x.1)

abbrev pub modifier_from : List ℕ → Form Mark
modifier_from words = either (turn bit_mark (terminal words)) (turn marked modifier_annotation)

unfoldable pub modifier : Form Mark
modifier = modifier_from modifier_words

unfoldable pub plain_modifier : Form Mark
plain_modifier = modifier_from plain_words

-- Modifier { Modifier }
abbrev pub modifiers_form : Form Mark → Form Modifiers
modifiers_form f = turn marks_of (pair f (many modifier))

abbrev pub modifiers_or_none : Option Modifiers → Modifiers
modifiers_or_none None = no_modifiers
modifiers_or_none (Some m) = m

-- those of a member, which might still be those of a nested type
unfoldable pub optional_modifiers : Form Modifiers
optional_modifiers = turn modifiers_or_none (maybe (nest modifiers))

-- those of a type that is not nested
unfoldable pub type_modifiers : Form Modifiers
type_modifiers = turn (with_marks no_modifiers) (many modifier)
