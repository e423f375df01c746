-- The value of an annotation's element that some symbols spell (JLS 9.7.1, 15.28): the constant forms, and the text of any other.
use Rattle.std.specs.Prelude.{◌≡◌, ℕ, ◌==◌, ◌&&◌, ◌||◌, nat_le, Bool, false, List, [], ◌∷◌, ◌++◌, Option, None, Some, if◌then◌else◌, codes, map, option_map, option_and_then}
use Rattle.std.specs.List.{slice_split}
use Rattle.std.specs.Option.{option_or, option_map_or}
use Rattle.std.specs.Borrow.{Bor}
use Rattle.decl_tree.specs.declared.type_text.PrimitiveKind.{PrimitiveKind}
use Rattle.decl_tree.specs.declared.type_text.PrimitiveKind.TheVariants as primitive
use Rattle.apt_base.specs.declared.around.Around.{Around}
use Rattle.apt_base.specs.declared.around.Around.TheVariants as around
use Rattle.decl_tree.specs.declared.type_text.BaseType.{BaseType}
use Rattle.decl_tree.specs.declared.type_text.BaseType.TheVariants as base
use Rattle.decl_tree.specs.declared.type_text.TypeText.{TypeText, roll-TypeText}
use Rattle.decl_tree.specs.declared.type_text.NamedPart.{NamedPart, roll-NamedPart}
use Rattle.decl_tree.specs.declared.annotation.ValueText.{ValueText}
use Rattle.decl_tree.specs.declared.annotation.ValueText.TheVariants as value
use Rattle.decl_grammar.specs.declared.symbol.Symbol.{Symbol}
use Rattle.decl_grammar.specs.Symbols.{named, integer, floating, null, word, operator}
use Rattle.decl_grammar.specs.TokenNames as token

-- ---- symbols

abbrev pub is_name : Symbol → Bool
is_name s = nat_le s.sort named

abbrev pub is_literal : Symbol → Bool
is_literal s = nat_le integer s.sort && nat_le s.sort null

abbrev pub is_numeral : Symbol → Bool
is_numeral s = (s.sort == integer) || (s.sort == floating)

-- the operator or the reserved word with this number
abbrev pub is_operator : ℕ → Symbol → Bool
is_operator n s = s.sort == operator n

abbrev pub is_word : ℕ → Symbol → Bool
is_word n s = s.sort == word n

-- `.` and a name
abbrev pub is_dot_name : Symbol → Symbol → Bool
is_dot_name s t = is_operator token.dot s && is_name t

-- the name behind the dot that stands first, where there are such
abbrev pub dotted_name : List Symbol → Option Symbol
dotted_name [] = None
dotted_name (s ∷ []) = None
dotted_name (s ∷ n ∷ ss) = if is_dot_name s n then Some n else None

-- a symbol that a function gives, where there is one
abbrev pub symbol_seen : Option (Bor Symbol) → Option Symbol
symbol_seen o = option_map (λ s. s.now) o

-- what is behind the first two
abbrev pub behind_two : List Symbol → List Symbol
behind_two [] = []
behind_two (s ∷ []) = []
behind_two (s ∷ n ∷ ss) = ss

-- this is what was wanted of the next two symbols, and what is behind them is left
abbrev pub TwoRead : {A : Type 0} → A → A → List Symbol → List Symbol → Type 0
TwoRead got wanted rest ts = (got ≡ wanted) × (rest ≡ behind_two ts)

-- the name behind the dot that stands first, where both are there
abbrev pub DottedRead : Option Symbol → List Symbol → List Symbol → Type 0
DottedRead got rest ts = TwoRead got (dotted_name ts) rest ts

-- a text, where nothing is behind it
abbrev pub text_alone : List ℕ → List Symbol → Option (List ℕ)
text_alone t [] = Some t
text_alone t (s ∷ ss) = None

-- ---- texts

-- the text of a token with a space before it, and nothing for a further part of one
abbrev pub spaced_one : Symbol → List ℕ
spaced_one s = if s.further then [] else codes " " ++ s.text

-- the texts of the tokens, each with a space before it
abbrev pub spaced : List Symbol → List ℕ
spaced [] = []
spaced (s ∷ ss) = if s.further then spaced ss else codes " " ++ (s.text ++ spaced ss)

-- the texts of the tokens, with a space between any two
abbrev pub joined : List Symbol → List ℕ
joined [] = []
joined (s ∷ ss) = s.text ++ spaced ss

-- a text with names behind it, each with a dot before it
abbrev pub more_dotted : List ℕ → List (List ℕ) → List ℕ
more_dotted t [] = t
more_dotted t (n ∷ ns) = more_dotted ((t ++ codes ".") ++ n) ns

-- ---- names and class literals

-- names behind a text, each with a dot before it
abbrev pub chain_from : List ℕ → List Symbol → Option (List ℕ)
chain_from t [] = Some t
chain_from t (s ∷ []) = None
chain_from t (s ∷ n ∷ ss) = if is_dot_name s n then chain_from ((t ++ codes ".") ++ n.text) ss else None

-- names, with a dot between any two (JLS 6.5)
abbrev pub chain_of : List Symbol → Option (List ℕ)
chain_of [] = None
chain_of (s ∷ ss) = if is_name s then chain_from s.text ss else None

-- the primitive type that the reserved word of this sort is
abbrev pub primitive_of : ℕ → Option PrimitiveKind
primitive_of n =
    if n == word token.boolean then Some primitive.Boolean else if n == word token.byte then Some primitive.Byte else if n == word token.short then Some primitive.Short
    else if n == word token.int then Some primitive.Int else if n == word token.long then Some primitive.Long else if n == word token.char then Some primitive.Char
    else if n == word token.float then Some primitive.Float else if n == word token.double then Some primitive.Double else None

abbrev pub named_part_of : List ℕ → Option (List TypeText) → NamedPart
named_part_of name arguments = roll-NamedPart (record { name = name; arguments = arguments })

abbrev pub name_part : List ℕ → NamedPart
name_part name = named_part_of name None

-- a base with these around it, from the outside in
abbrev pub type_of : BaseType → List Around → TypeText
type_of of items = roll-TypeText (record { around = items; base = of })

-- `[` and `]` stand first
abbrev pub dim_here : List Symbol → Bool
dim_here [] = false
dim_here (s ∷ []) = false
dim_here (s ∷ t ∷ ss) = is_operator token.open_bracket s && is_operator token.close_bracket t

-- these are `.` and `class`
abbrev pub class_here : List Symbol → Bool
class_here (s ∷ t ∷ []) = is_operator token.dot s && is_word token.class t
class_here _ = false

-- the rest of a class literal: pairs of brackets, and then `.` and `class`
abbrev pub class_end : BaseType → List Around → List Symbol → Option TypeText
class_end of items [] = None
class_end of items (s ∷ []) = None
class_end of items (s ∷ t ∷ ss) = if dim_here (s ∷ t ∷ ss) then class_end of (items ++ around.Array ∷ []) ss else if class_here (s ∷ t ∷ ss) then Some (type_of of items) else None

-- the rest behind a name of a class
abbrev pub class_named : List NamedPart → List Symbol → Option TypeText
class_named parts [] = None
class_named parts (s ∷ []) = None
class_named parts (s ∷ n ∷ ss) = if is_dot_name s n then class_named (parts ++ name_part n.text ∷ []) ss else class_end (base.Named parts) [] (s ∷ n ∷ ss)

abbrev pub class_primitive : Option PrimitiveKind → List Symbol → Option TypeText
class_primitive None ss = None
class_primitive (Some kind) ss = class_end (base.Primitive kind) [] ss

-- the rest behind `void`, which has no brackets
abbrev pub class_void : List Symbol → Option TypeText
class_void ss = if class_here ss then Some (type_of (base.Primitive primitive.Void) []) else None

-- a class literal (JLS 15.8.2)
abbrev pub class_of : List Symbol → Option TypeText
class_of [] = None
class_of (s ∷ ss) = if is_name s then class_named (name_part s.text ∷ []) ss else if is_word token.void s then class_void ss else class_primitive (primitive_of s.sort) ss

-- ---- values

abbrev pub literal_of : List Symbol → Option ValueText
literal_of [] = None
literal_of (s ∷ []) = if is_literal s then Some (value.Literal s.text) else None
literal_of (s ∷ t ∷ ss) = None

-- a numeral with a `-` before it
abbrev pub negated_of : List Symbol → Option ValueText
negated_of [] = None
negated_of (s ∷ []) = None
negated_of (s ∷ t ∷ []) = if is_operator token.minus s && is_numeral t then Some (value.Negated t.text) else None
negated_of (s ∷ t ∷ u ∷ ss) = None

-- a literal, or names that dots join
abbrev pub plain_of : List Symbol → Option ValueText
plain_of ss = option_or (literal_of ss) (option_map value.Chain (chain_of ss))

-- all of them, where none is missing
abbrev pub every : {A : Type 0} → List (Option A) → Option (List A)
every [] = Some []
every (x ∷ xs) = option_and_then (λ y. option_map (λ ys. y ∷ ys) (every xs)) x

abbrev pub is_plus : Symbol → Bool
is_plus s = is_operator token.plus s

-- the literals and names between which a `+` stands
abbrev pub parts_of : List Symbol → Option (List ValueText)
parts_of ss = every (map plain_of (slice_split is_plus ss))

abbrev pub two_or_more : List ValueText → Option ValueText
two_or_more [] = None
two_or_more (v ∷ []) = None
two_or_more (v ∷ w ∷ vs) = Some (value.Joined (v ∷ w ∷ vs))

-- literals and names, with a `+` between any two
abbrev pub joined_of : List Symbol → Option ValueText
joined_of ss = option_and_then two_or_more (parts_of ss)

-- the constant form that the symbols are, none of which is an array or an annotation
abbrev pub constant_of : List Symbol → Option ValueText
constant_of ss = option_or (plain_of ss) (option_or (negated_of ss) (option_or (option_map value.Class (class_of ss)) (joined_of ss)))

-- the value that the symbols of an expression have
unfoldable pub expression_of : List Symbol → ValueText
expression_of ss = option_map_or (λ v. v) (constant_of ss) (value.Other (joined ss))
