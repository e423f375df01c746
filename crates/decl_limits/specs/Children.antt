-- Child lists that are too long. A child list is that of a type (its type parameters, then its members, then what the language adds) or of a method or constructor
-- (its type parameters, then its parameters). What is written counts from its first symbol on, as long as the symbols so far may still make it one; what the language
-- adds to a type counts from the last symbol of the type on. Symbols are full where at the last of them a child list has more items than it may.
use Rattle.std.specs.Prelude.{◌≡◌, ℕ, zero, suc, ◌+◌, ◌<◌, ◌≤◌, false, List, [], ◌∷◌, ◌++◌, length, ◌⊎◌, None}
use Rattle.apt_base.specs.Limits.{max_children}
use Rattle.decl_tree.specs.Legal.{children}
use Rattle.decl_tree.specs.declared.declaration.Member.{Member, out-Member}
use Rattle.decl_tree.specs.declared.declaration.Member.TheOpen.{Member-F}
use Rattle.decl_tree.specs.declared.declaration.TypeDecl.{TypeDecl}
use Rattle.decl_tree.specs.declared.declaration.TypeKind.{TypeKind}
use Rattle.decl_tree.specs.declared.declaration.TypeKind.TheVariants as kind
use Rattle.decl_grammar.specs.declared.symbol.Symbol.{Symbol}
use Rattle.decl_grammar.specs.declared.written.MemberAt.{MemberAt}
use Rattle.decl_grammar.specs.declared.written.Modifiers.{Modifiers}
use Rattle.decl_grammar.specs.declared.written.ParamAt.{ParamAt}
use Rattle.decl_grammar.specs.declared.written.TypeRest.{TypeRest}
use Rattle.decl_grammar.specs.Symbols.{operator, word, at_interface}
use Rattle.decl_grammar.specs.TokenNames as token
use Rattle.decl_grammar.specs.Form.{Form, terminal, pair, turn, maybe, many, either}
use Rattle.decl_grammar.specs.Types.{keyword, sign, behind, before, name, annotations, silently, type_form, type_param, optional_params, no_modifiers, type_modifiers}
use Rattle.decl_grammar.specs.Grammar.{params_from, first_params, superclass, implemented, extended, constant, constants, joined_lists, member_form, modified_form, type_rest, ordinary, declaration_of, Ordinary}
use Rattle.decl_grammar.specs.File.{IsPhrase, BeginsPhrase}

-- ---- one item more

-- the form may begin with this symbol
abbrev pub OpensWith : {A : Type 0} → Form A → Symbol → Type 0
OpensWith f t = (n : ℕ) × BeginsPhrase f (t ∷ []) n

-- a symbol of this sort without a text: what closes a declaration that is not closed yet, of which the sort alone tells
abbrev pub blank : ℕ → Symbol
blank sort = record { sort = sort; further = false; start = 0; line = 0; text = []; doc = None }

-- An item of a list begins at the last symbol. Before it stand the list's opening sign and this many items, each with a comma behind it.
pub record NextItem {A : Type 0} (opens : ℕ) (item : Form A) (ts : List Symbol) (n : ℕ) : Type 0 where
  pub opening : Symbol
  pub front : List Symbol
  pub next : Symbol
  pub items : List A
  pub parts : ts ≡ opening ∷ (front ++ next ∷ [])
  pub is_opening : opening.sort ≡ operator opens
  pub whole : IsPhrase (many (before item (sign token.comma))) front items
  pub begins : OpensWith item next
  pub count : n ≡ length items

-- a type parameter begins, behind this many
abbrev pub NextTypeParam : List Symbol → ℕ → Type 0
NextTypeParam ts n = NextItem token.less_than type_param ts n

-- a constant of an enum
abbrev pub NextConstant : List Symbol → ℕ → Type 0
NextConstant ts n = NextItem token.open_brace constant ts n

-- A further parameter begins at the last symbol. Before the comma that stands there the parameters were whole, and the last of them is not of any number.
pub record FurtherParam (ts : List Symbol) (n : ℕ) : Type 0 where
  pub opening : Symbol
  pub front : List Symbol
  pub comma : Symbol
  pub next : Symbol
  pub items : List ParamAt
  pub parts : ts ≡ opening ∷ (front ++ comma ∷ next ∷ [])
  pub is_opening : opening.sort ≡ operator token.open_parenthesis
  pub is_comma : comma.sort ≡ operator token.comma
  pub whole : IsPhrase first_params front (items, false)
  pub begins : OpensWith params_from next
  pub count : n ≡ length items

-- a parameter begins, behind this many: the first one directly behind the bracket
abbrev pub NextParam : List Symbol → ℕ → Type 0
NextParam ts n =
    ((opening : Symbol) × (next : Symbol) × (ts ≡ opening ∷ next ∷ []) × (opening.sort ≡ operator token.open_parenthesis) × OpensWith first_params next × (n ≡ 0))
    ⊎ FurtherParam ts n

-- ---- types that are not closed yet

-- of a class and of an interface up to the `{` (JLS 8.1, 9.1): how many type parameters it has
unfoldable pub class_heading : Form ℕ
class_heading = turn length (behind (keyword token.class) (behind name (before optional_params (pair superclass (before implemented (sign token.open_brace))))))

unfoldable pub interface_heading : Form ℕ
interface_heading = turn length (behind (keyword token.interface) (behind name (before optional_params (before extended (sign token.open_brace)))))

abbrev pub no_children : {A : Type 0} → A → ℕ
no_children x = 0

unfoldable pub annotation_heading : Form ℕ
annotation_heading = turn no_children (behind (terminal (at_interface ∷ [])) (behind (keyword token.interface) (before name (sign token.open_brace))))

-- of an enum up to what stands before its `{` (JLS 8.9)
unfoldable pub enum_heading : Form (Unit {0})
enum_heading = turn silently (behind (keyword token.enum) (behind name implemented))

-- whole members of a type of this kind: how many there are
abbrev pub members_there : List (List MemberAt) → ℕ
members_there ms = length (joined_lists ms)

unfoldable pub whole_members : TypeKind → Form ℕ
whole_members k = turn members_there (many (member_form k))

-- the constants of an enum up to their `;`
unfoldable pub whole_constants : Form ℕ
whole_constants = turn length (behind enum_heading (behind (sign token.open_brace) (before constants (sign token.semicolon))))

abbrev pub both : ℕ × ℕ → ℕ
both x = x.0 + x.1

-- A type of this kind, up to a place where a further member may stand: how many children it has there.
unfoldable pub open_type : TypeKind → Form ℕ
open_type kind.Class = turn both (pair class_heading (whole_members kind.Class))
open_type kind.Interface = turn both (pair interface_heading (whole_members kind.Interface))
open_type kind.AnnotationType = turn both (pair annotation_heading (whole_members kind.AnnotationType))
open_type kind.Enum = turn both (pair whole_constants (whole_members kind.Enum))

-- `class` or `interface` and a name
unfoldable pub generic_name : Form (Unit {0})
generic_name = turn silently (pair (terminal (word token.class ∷ word token.interface ∷ [])) name)

-- a method or a constructor up to its parameters: how many type parameters it has (JLS 8.4, 8.8)
unfoldable pub executable_heading : Form ℕ
executable_heading =
    turn length (before optional_params (pair annotations (pair (maybe (either (turn silently (keyword token.void)) (turn silently type_form))) name)))

-- ---- full

-- the symbols are those of a form and then others, of which this holds
abbrev pub Then : {A : Type 0} → Form A → (A → List Symbol → Type 0) → List Symbol → Type 0
Then {A} f p ts = (us : List Symbol) × (vs : List Symbol) × (x : A) × (ts ≡ us ++ vs) × IsPhrase f us x × p x vs

-- an item begins, and as many as there may be stand before it
abbrev pub IsFull : (List Symbol → ℕ → Type 0) → ℕ → List Symbol → Type 0
IsFull next n ts = (m : ℕ) × next ts m × (max_children ≤ n + m)

-- in a method or a constructor behind its modifiers: in its type parameters, or in its parameters
abbrev pub ExecutableFull : List Symbol → Type 0
ExecutableFull ts = IsFull NextTypeParam 0 ts ⊎ Then executable_heading (IsFull NextParam) ts

-- how many children a method or a constructor has
abbrev pub own_children : Member-F Member TypeDecl → ℕ
own_children (Member-F.Method method) = length method.parameters + length method.arguments
own_children (Member-F.Constructor constructor) = length constructor.parameters + length constructor.arguments
own_children _ = 0

abbrev pub member_children : MemberAt → ℕ
member_children x = own_children (out-Member x.member)

-- A member begins at its first symbol. The fields of one declaration begin at their names: with a `;` behind the name they are a whole member (JLS 8.3).
-- Or a member is full in itself: where it is whole, by its own child list, and where it is not, in its list or in the type that it is, of which `inside` says it.
abbrev pub MemberFull : (List Symbol → Type 0) → TypeKind → ℕ → List Symbol → Type 0
MemberFull inside k n ts =
    ((t : Symbol) × (ts ≡ t ∷ []) × OpensWith (modified_form k) t × (max_children ≤ n))
    ⊎ (((ms : List MemberAt) × IsPhrase (member_form k) (ts ++ blank (operator token.semicolon) ∷ []) ms × (max_children < n + length ms))
    ⊎ (((m : MemberAt) × IsPhrase (member_form k) ts (m ∷ []) × (max_children < member_children m))
    ⊎ Then type_modifiers (λ (m : Modifiers) us. inside us ⊎ ExecutableFull us) ts))

abbrev pub declared_children : TypeRest → ℕ
declared_children x = children (declaration_of None no_modifiers x)

-- In a type behind its modifiers: in its type parameters, in its constants, in its members or, where it is whole, by what the language adds to it. A type stands within
-- others at most this high.
unfoldable pub TypeFull : ℕ → List Symbol → Type 0
TypeFull zero ts = ⊥
TypeFull (suc h) ts =
    Then generic_name (λ x us. IsFull NextTypeParam 0 us) ts
    ⊎ (Then enum_heading (λ x us. IsFull NextConstant 0 us) ts
    ⊎ (((k : TypeKind) × Then (open_type k) (MemberFull (TypeFull h) k) ts)
    ⊎ ((x : TypeRest) × IsPhrase type_rest ts x × (max_children < declared_children x))))

-- in a file: behind whole types, and the modifiers of a type
abbrev pub FileFull : List Symbol → Type 0
FileFull ts = Then ordinary (λ (x : Ordinary) us. Then type_modifiers (λ (m : Modifiers) vs. (h : ℕ) × TypeFull h vs) us) ts

-- some front of the symbols is full
abbrev pub IsCrowded : List Symbol → Type 0
IsCrowded ts = (us : List Symbol) × (vs : List Symbol) × (ts ≡ us ++ vs) × FileFull us
