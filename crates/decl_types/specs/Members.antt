-- What is read of members: behind their type and name, put behind others, and what begins them.
use Rattle.std.specs.Prelude.{ℕ, Bool, true, false, List, [], ◌∷◌, ◌++◌}
use Rattle.decl_tree.specs.declared.type_text.TypeText.{TypeText}
use Rattle.decl_grammar.specs.declared.written.NameAt.{NameAt}
use Rattle.decl_grammar.specs.declared.written.MemberAt.{MemberAt}
use Rattle.decl_grammar.specs.declared.written.TypeParamAt.{TypeParamAt}
use Rattle.decl_grammar.specs.declared.symbol.Symbol.{Symbol}
use Rattle.decl_grammar.specs.declared.written.MemberRest.{MemberRest}
use Rattle.decl_grammar.specs.Reading.{Outcome}
use Rattle.decl_grammar.specs.Rows.{row_behind}
use Rattle.decl_grammar.specs.declared.written.Unmodified.{Unmodified}
use Rattle.decl_grammar.specs.declared.written.Signature.{Signature}
use Rattle.decl_grammar.specs.declared.written.Declarator.{Declarator}
use Rattle.decl_tree.specs.declared.declaration.TypeKind.{TypeKind}
use Rattle.decl_tree.specs.declared.declaration.TypeKind.TheVariants as kind
use Rattle.decl_grammar.specs.Expressions.{declarator_of}
use Rattle.decl_grammar.specs.Form.{Form, turned, first_of, nested_type, names, plain_words, modifier_words, primitive_sorts}
use Rattle.decl_grammar.specs.Types.{next_type_param}
use Rattle.decl_grammar.specs.Grammar.{Named, Typed, rest_form, field_rest, fields_named, method_named, joined_lists}
use Rattle.decl_grammar.specs.Rule.{reads}
use Rattle.decl_grammar.specs.Symbols.{operator, word}
use Rattle.decl_grammar.specs.TokenNames as token

-- the member with this type and this name
abbrev pub named_as : TypeText → NameAt → Named → Unmodified
named_as of n f = f of n

-- what stands behind this type and this name
abbrev pub rest_at : TypeText → NameAt → ℕ → MemberRest → List Symbol → Outcome Unmodified
rest_at of n room kind ts = turned (named_as of n) (reads room (rest_form kind) ts)

-- a method of this type and this name, from its signature
abbrev pub method_at : TypeText → NameAt → ℕ → Form Signature → List Symbol → Outcome Unmodified
method_at of n room f ts = turned (λ s. method_named s of n) (reads room f ts)

-- the fields of a declaration, of which the first name is known
abbrev pub declarators_at : NameAt → ℕ → List Symbol → Outcome (List Declarator)
declarators_at n room ts = turned (λ v. declarator_of n v.0 v.1.0 ∷ v.1.1) (reads room field_rest ts)

-- the fields of this type, of which the first name is known
abbrev pub fields_at : TypeText → NameAt → ℕ → List Symbol → Outcome Unmodified
fields_at of n room ts = turned (λ v. fields_named v of n) (reads room field_rest ts)

-- the type parameters behind commas, behind others
abbrev pub type_params_behind : List TypeParamAt → ℕ → List Symbol → Outcome (List TypeParamAt)
type_params_behind front room ts = row_behind front room next_type_param ts

-- the member behind this first name
abbrev pub named_at : NameAt → Typed → Unmodified
named_at n f = f n

-- members behind others
abbrev pub with_members : List MemberAt → List (List MemberAt) → List MemberAt
with_members front all = front ++ joined_lists all

abbrev pub behind_members : List MemberAt → List MemberAt → List MemberAt
behind_members front more = front ++ more

-- whether a type of this kind may have initialisers (JLS 8.6)
abbrev pub has_blocks : TypeKind → Bool
has_blocks kind.Enum = true
has_blocks kind.Class = true
has_blocks kind.AnnotationType = false
has_blocks kind.Interface = false

-- ---- the sorts of symbol that begin members

-- a member without modifiers, of a class or of an interface
abbrev pub unmodified_firsts : List ℕ
unmodified_firsts = first_of nested_type ++ ((word token.void ∷ []) ++ (primitive_sorts ++ (names ++ operator token.less_than ∷ [])))

abbrev pub element_firsts : List ℕ
element_firsts = first_of nested_type ++ (primitive_sorts ++ names)

abbrev pub modifier_firsts : List ℕ
modifier_firsts = modifier_words ++ operator token.at ∷ []

abbrev pub plain_firsts : List ℕ
plain_firsts = plain_words ++ operator token.at ∷ []

abbrev pub modified_firsts : TypeKind → List ℕ
modified_firsts kind.Enum = unmodified_firsts ++ (plain_firsts ++ word token.static ∷ [])
modified_firsts kind.Class = unmodified_firsts ++ (plain_firsts ++ word token.static ∷ [])
modified_firsts kind.AnnotationType = modifier_firsts ++ element_firsts
modified_firsts kind.Interface = modifier_firsts ++ unmodified_firsts

abbrev pub block_or : TypeKind → List ℕ → List ℕ
block_or kind.Enum ks = (operator token.open_brace ∷ []) ++ ks
block_or kind.Class ks = (operator token.open_brace ∷ []) ++ ks
block_or kind.AnnotationType ks = ks
block_or kind.Interface ks = ks

abbrev pub member_firsts : TypeKind → List ℕ
member_firsts k = (operator token.semicolon ∷ []) ++ block_or k (modified_firsts k)
