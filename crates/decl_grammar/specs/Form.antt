-- Forms of a grammar: which symbols are a form, which begin it, and how it is read from left to right.
use Rattle.std.specs.Prelude.{◌≡◌, ℕ, zero, suc, Bool, true, false, List, [], ◌∷◌, ◌++◌, length, nat_le, Option, Some, None, if◌then◌else◌, ◌||◌, ◌&&◌, ◌⊎◌}
use Rattle.decl_tree.specs.declared.type_text.TypeText.{TypeText}
use Rattle.decl_tree.specs.declared.annotation.ValueText.{ValueText}
use Rattle.decl_tree.specs.declared.annotation.ElementValuePair.{ElementValuePair}
use Rattle.decl_tree.specs.declared.annotation.AnnotationText.{AnnotationText}
use Rattle.apt_base.specs.declared.around.Around.{Around}
use Rattle.decl_tree.specs.declared.type_text.BaseType.{BaseType}
use Rattle.decl_grammar.specs.declared.written.ParamAt.{ParamAt}
use Rattle.decl_grammar.specs.declared.written.MemberAt.{MemberAt}
use Rattle.decl_tree.specs.declared.compilation.Import.{Import}
use Rattle.decl_grammar.specs.declared.written.Modifiers.{Modifiers}
use Rattle.decl_grammar.specs.declared.written.TypeRest.{TypeRest}
use Rattle.decl_grammar.specs.declared.written.Declarator.{Declarator}
use Rattle.decl_grammar.specs.declared.written.ParamEnd.{ParamEnd}
use Rattle.decl_grammar.specs.declared.symbol.Symbol.{Symbol}
use Rattle.decl_grammar.specs.Symbols.{identifier, named, integer, at_interface, word, operator, numbers}
use Rattle.decl_grammar.specs.TokenNames as token
use Rattle.decl_grammar.specs.Reading.{has, starts, Outcome, done, fault, ◌>>=◌, one_at, read_of, skip, deep}

-- Where an expression stands: alone in the brackets of an annotation, behind the `=` of a pair there, in an array, as the
-- default of an element, or as the initialiser of a field.
pub data Stands : Type 0 where
  alone : Stands
  paired : Stands
  listed : Stands
  defaulted : Stands
  assigned : Stands

-- Whether a `=` may stand here: not yet; within this many conditions and one more, up to its `:`; or anywhere, as in a
-- lambda and an initialiser (JLS 15.25 to 15.27).
pub data Freedom : Type 0 where
  strict : Freedom
  conditional : ℕ → Freedom
  anywhere : Freedom

-- in an initialiser it may stand anywhere
abbrev pub freedom_in : Stands → Freedom → Freedom
freedom_in alone w = w
freedom_in paired w = w
freedom_in listed w = w
freedom_in defaulted w = w
freedom_in assigned w = anywhere

-- What stands before the next part of an expression: nothing that tells, a name, a `>`, a `.`, a `::`, type arguments behind
-- a `::`, a type that is created; and of a type that is tested the `instanceof`, a name, type arguments, or brackets.
pub data After : Type 0 where
  between : After
  name_there : After
  greater : After
  dot : After
  colons : After
  colon_arguments : After
  creation : After
  test : After
  test_name : After
  test_arguments : After
  test_end : After

-- The parts of an expression: a symbol of one of these sorts, a bracket with all up to where it is closed, type arguments,
-- annotations up to the type behind them, what is created, the rest of a type from its arguments up to its `::`; and of a
-- type that is tested the `instanceof`, a further name, and a pair of brackets.
pub data Part : Type 0 where
  one_of : List ℕ → Part
  bracketed : List ℕ → Part
  arguments : Part
  annotated : Part
  created : Part
  type_reference : Part
  tested : Part
  tested_name : Part
  tested_dim : Part

-- The forms that hold themselves.
pub data Nest : Type 0 where
  -- a list of type arguments
  type_arguments : Nest
  -- the type arguments of a class that is created, which may be `<>` (JLS 15.9)
  created_arguments : Nest
  -- an array and an annotation as values, and the name of a first pair, which might still be a value
  array_value : Nest
  nested_annotation : Nest
  first_name : Nest
  -- a constant form, as long as an initialiser might still be one
  constant_value : Nest
  -- a part of an expression: within a value it counts, since the value is open there
  expression_part : Stands → Part → Nest
  -- a type behind its modifiers, and modifiers, which might still be those of a type: any, those of which the first is not `static`, and a first `static`
  nested_type : Nest
  modifiers : Nest
  plain_modifiers : Nest
  static_word : Nest
  -- The rest of a row, which holds itself and counts nothing: a name of an import, a constant of an enum, and the type of a parameter, which may be the receiver where it is the first one.
  import_rest : Nest
  enum_rest : Nest
  param_rest : Nest
  first_rest : Nest
  -- The same of values: a value and all behind it, the rest of an expression and all behind it, an initialiser and all
  -- behind it, what stands behind a value, and the rest of constant forms.
  value_and_rest : Stands → Nest
  expression_rest : Stands → Freedom → After → Nest
  initialiser : Nest
  value_end : Stands → Nest
  constant_items : Nest
  constant_chain : Nest

-- whether an expression that stands here is a value
abbrev pub is_value : Stands → Bool
is_value assigned = false
is_value _ = true

-- those that count as open
abbrev pub counts : Nest → Bool
counts (expression_part s p) = is_value s
counts import_rest = false
counts enum_rest = false
counts param_rest = false
counts first_rest = false
counts (value_and_rest s) = false
counts (expression_rest s w a) = false
counts initialiser = false
counts (value_end s) = false
counts constant_items = false
counts constant_chain = false
counts _ = true

-- ---- what the rests of rows mean

-- what stands around a base, and the base
abbrev pub Shape : Type 0
Shape = BaseType × List Around

-- behind the type of a parameter: the brackets there, its end, and the parameters after it and whether the last of them takes any number of arguments
abbrev pub ParamRest : Type 0
ParamRest = List Around × (ParamEnd × (List ParamAt × Bool))

-- a rest gives an import once the name before it is known
abbrev pub ImportRest : Type 0
ImportRest = List ℕ → Import

-- what stands behind a value, by where it stands, up to the bracket or the `;` that ends all of them
abbrev pub Behind : Stands → Type 0
Behind alone = Unit {0}
Behind paired = List ElementValuePair
Behind listed = List ValueText
Behind defaulted = Unit {0}
Behind assigned = List Declarator

-- the symbols of the rest of an expression, and what stands behind it
abbrev pub Rest : Stands → Type 0
Rest s = List Symbol × Behind s

abbrev pub Of : Nest → Type 0
Of type_arguments = List TypeText
Of created_arguments = List TypeText
Of array_value = ValueText
Of nested_annotation = AnnotationText
Of first_name = List ℕ
Of constant_value = ValueText
Of (expression_part s p) = Unit {0}
Of nested_type = TypeRest
Of modifiers = Modifiers
Of plain_modifiers = Modifiers
Of static_word = Symbol
Of import_rest = ImportRest
Of enum_rest = List MemberAt
Of param_rest = ParamRest
Of first_rest = ParamRest
Of (value_and_rest s) = ValueText × Behind s
Of (expression_rest s w a) = Rest s
Of initialiser = Option ValueText × List Declarator
Of (value_end s) = Behind s
Of constant_items = List ValueText
Of constant_chain = Unit {0}

-- A form of the grammar, by the type of what it means.
pub data Form : Type 0 → Type 1 where
  -- one symbol of one of these sorts
  terminal : List ℕ → Form Symbol
  pair : {A B : Type 0} → Form A → Form B → Form (A × B)
  turn : {A B : Type 0} → (A → B) → Form A → Form B
  maybe : {A : Type 0} → Form A → Form (Option A)
  many : {A : Type 0} → Form A → Form (List A)
  either : {A : Type 0} → Form A → Form A → Form A
  -- the same symbols, and what they show as they are written
  seen : {A B : Type 0} → (List Symbol → B) → Form A → Form (B × A)
  nest : (m : Nest) → Form (Of m)
  -- a bracket of one of these sorts, and all up to where it is closed
  over : List ℕ → Form (Unit {0})
  -- Two readings of which no next symbol tells: while both may still be, both are begun.
  attempt : {A : Type 0} → Form A → Form A → Form A

-- ---- what is a form

-- these symbols are a row of such parts
abbrev pub Each : {A : Type 0} → (List Symbol → A → Type 0) → List Symbol → List A → Type 0
Each P ts [] = ts ≡ []
Each P ts (x ∷ xs) = (us : List Symbol) × (vs : List Symbol) × (ts ≡ us ++ vs) × P us x × Each P vs xs

-- this many are open in it, and one more where it counts
abbrev pub opened : Nest → ℕ → ℕ
opened m k = if counts m then suc k else k

-- what is a nested form, what begins one with this many open in it, how one is read
abbrev pub Wholes : Type 1
Wholes = (m : Nest) → List Symbol → Of m → Type 0

abbrev pub Begun : Type 1
Begun = (m : Nest) → List Symbol → ℕ → Type 0

abbrev pub Readers : Type 0
Readers = (m : Nest) → List Symbol → Outcome (Of m)

-- these symbols are this form, and this is its meaning
abbrev pub Is : Wholes → {A : Type 0} → Form A → List Symbol → A → Type 0
Is inner (terminal k) ts t = (ts ≡ t ∷ []) × (has k t.sort ≡ true)
Is inner (pair f g) ts x = (us : List Symbol) × (vs : List Symbol) × (ts ≡ us ++ vs) × Is inner f us x.0 × Is inner g vs x.1
Is inner (turn {A} {B} h f) ts y = (x : A) × Is inner f ts x × (y ≡ h x)
Is inner (maybe f) ts None = ts ≡ []
Is inner (maybe f) ts (Some x) = Is inner f ts x
Is inner (many f) ts xs = Each (Is inner f) ts xs
Is inner (either f g) ts x = Is inner f ts x ⊎ Is inner g ts x
Is inner (seen h f) ts x = Is inner f ts x.1 × (x.0 ≡ h ts)
Is inner (nest m) ts x = inner m ts x
Is inner (over opens) ts x = skip opens ts ≡ done tt []
Is inner (attempt f g) ts x = Is inner f ts x ⊎ Is inner g ts x

-- These symbols begin this form: of its parts the first ones are whole and the next one is begun. This many nested
-- forms are begun around the end, each with at least its first symbol.
abbrev pub Begins : Wholes → Begun → {A : Type 0} → Form A → List Symbol → ℕ → Type 0
Begins whole begun (terminal k) ts n = (n ≡ 0) × ((ts ≡ []) ⊎ ((t : Symbol) × (ts ≡ t ∷ []) × (has k t.sort ≡ true)))
Begins whole begun (pair {A} {B} f g) ts n = Begins whole begun f ts n ⊎ ((us : List Symbol) × (vs : List Symbol) × (x : A) × (ts ≡ us ++ vs) × Is whole f us x × Begins whole begun g vs n)
Begins whole begun (turn h f) ts n = Begins whole begun f ts n
Begins whole begun (maybe f) ts n = Begins whole begun f ts n
Begins whole begun (many {A} f) ts n = (us : List Symbol) × (vs : List Symbol) × (xs : List A) × (ts ≡ us ++ vs) × Each (Is whole f) us xs × Begins whole begun f vs n
Begins whole begun (either f g) ts n = Begins whole begun f ts n ⊎ Begins whole begun g ts n
Begins whole begun (seen h f) ts n = Begins whole begun f ts n
Begins whole begun (nest m) ts n = ((ts ≡ []) × (n ≡ 0)) ⊎ ((t : Symbol) × (us : List Symbol) × (k : ℕ) × (ts ≡ t ∷ us) × (n ≡ opened m k) × begun m ts k)
Begins whole begun (attempt f g) ts n = Begins whole begun f ts n ⊎ Begins whole begun g ts n
Begins whole begun (over opens) ts n = (n ≡ 0) × ((skip opens ts ≡ fault []) ⊎ (skip opens ts ≡ done tt []))

-- ---- reading from left to right

abbrev pub nullable : {A : Type 0} → Form A → Bool
nullable (terminal k) = false
nullable (pair f g) = nullable f && nullable g
nullable (turn h f) = nullable f
nullable (maybe f) = true
nullable (many f) = true
nullable (either f g) = nullable f || nullable g
nullable (seen h f) = nullable f
nullable (nest m) = false
nullable (over opens) = false
nullable (attempt f g) = nullable f || nullable g

-- ---- what begins nested forms

abbrev pub names : List ℕ
names = identifier ∷ named ∷ []

abbrev pub ats : List ℕ
ats = operator token.at ∷ at_interface ∷ []

-- the reserved words but `instanceof` and `new`
abbrev pub plain_expression_words : List ℕ
plain_expression_words = numbers (word token.abstract) 25 ++ (numbers (word token.int) 4 ++ numbers (word token.«package») 20)

-- What tells nothing in an expression: literals, words, and all operators but brackets, `,`, `;`, `.`, `::`, `@`, `=`, `<`, `>`, `?`, `:` and `->`.
abbrev pub plain_sorts : List ℕ
plain_sorts =
    numbers integer 7
    ++ (plain_expression_words ++ (operator token.ellipsis ∷ operator token.exclamation ∷ operator token.tilde ∷ numbers (operator token.double_equals) 30))

-- `.` and `::`
abbrev pub dots : List ℕ
dots = operator token.dot ∷ operator token.double_colon ∷ []

-- `new`, `instanceof`, `>`, `?`, `:`, `->` and `(`, which may stand anywhere in an expression
abbrev pub telling_sorts : List ℕ
telling_sorts =
    word token.new ∷ word token.instanceof ∷ operator token.greater_than ∷ operator token.question ∷ operator token.colon ∷ operator token.arrow
    ∷ operator token.open_parenthesis ∷ []

-- the primitive types (JLS 4.2)
abbrev pub primitive_sorts : List ℕ
primitive_sorts =
    word token.boolean ∷ word token.byte ∷ word token.short ∷ word token.int ∷ word token.long ∷ word token.char ∷ word token.float ∷ word token.double
    ∷ []

-- `=`, where it may stand
abbrev pub equals : Freedom → List ℕ
equals strict = []
equals (conditional n) = operator token.equals ∷ []
equals anywhere = operator token.equals ∷ []

-- the names that begin an expression: where a pair may stand, no name that a `=` follows
abbrev pub first_names : Stands → List ℕ
first_names alone = identifier ∷ []
first_names _ = names

-- what ends a value and what stands behind it: a bracket or a `;`, or a `,`
abbrev pub ends : Stands → List ℕ
ends alone = operator token.close_parenthesis ∷ []
ends paired = operator token.close_parenthesis ∷ operator token.comma ∷ []
ends listed = operator token.close_brace ∷ operator token.comma ∷ []
ends defaulted = operator token.semicolon ∷ []
ends assigned = operator token.semicolon ∷ operator token.comma ∷ []

-- what begins an expression: as a value nothing that begins an array or an annotation
abbrev pub value_sorts : Stands → List ℕ
value_sorts s = first_names s ++ (plain_sorts ++ (telling_sorts ++ (operator token.less_than ∷ (dots ++ operator token.open_bracket ∷ []))))

abbrev pub expression_sorts : Stands → List ℕ
expression_sorts assigned = value_sorts assigned ++ (operator token.open_brace ∷ operator token.equals ∷ ats)
expression_sorts s = value_sorts s

-- `<`: behind a type that is created it has begun its arguments, and behind `::` with arguments a name or `new` comes
abbrev pub less_sorts : After → List ℕ
less_sorts creation = []
less_sorts colon_arguments = []
less_sorts name_there = operator token.less_than ∷ []
less_sorts between = operator token.less_than ∷ []
less_sorts greater = operator token.less_than ∷ []
less_sorts dot = operator token.less_than ∷ []
less_sorts colons = operator token.less_than ∷ []
less_sorts test = operator token.less_than ∷ []
less_sorts test_name = operator token.less_than ∷ []
less_sorts test_arguments = operator token.less_than ∷ []
less_sorts test_end = operator token.less_than ∷ []

-- `.` and `::`, which behind a type that is created have gone on with it, and which in a value stand behind no `>` that is an operator
abbrev pub dot_sorts : Stands → After → List ℕ
dot_sorts s creation = []
dot_sorts s greater = if is_value s then [] else dots
dot_sorts s _ = dots

-- `[`, in the same way
abbrev pub square_sorts : Stands → After → List ℕ
square_sorts s greater = if is_value s then [] else operator token.open_bracket ∷ []
square_sorts s _ = operator token.open_bracket ∷ []

-- what goes on with an expression; behind `instanceof` a type comes
abbrev pub later_sorts : Stands → Freedom → After → List ℕ
later_sorts s w test = names ++ primitive_sorts
later_sorts s w a =
    names ++ (plain_sorts ++ (telling_sorts ++ (less_sorts a ++ (dot_sorts s a ++ (square_sorts s a ++ (ats ++ (operator token.open_brace ∷ equals w)))))))

-- what ends an expression and what stands behind it, which behind `instanceof` may not come yet
abbrev pub later_ends : Stands → After → List ℕ
later_ends s test = []
later_ends s _ = ends s

-- what begins a constant form: `{`, `@`, literals, names, `-`, the primitive types and `void`
abbrev pub constant_sorts : List ℕ
constant_sorts =
    operator token.open_brace
    ∷ (ats
    ++ (names
    ++ (numbers integer 7
    ++ operator token.minus ∷ word token.void ∷ word token.boolean ∷ word token.byte ∷ word token.short ∷ word token.int ∷ word token.long
    ∷ word token.char ∷ word token.float ∷ word token.double ∷ [])))

abbrev pub first_of_part : Part → List ℕ
first_of_part (one_of ks) = ks
first_of_part (bracketed ks) = ks
first_of_part arguments = operator token.less_than ∷ []
first_of_part annotated = ats
first_of_part created = word token.new ∷ []
first_of_part tested = word token.instanceof ∷ []
first_of_part tested_name = operator token.dot ∷ []
first_of_part tested_dim = operator token.open_bracket ∷ ats
first_of_part type_reference = operator token.less_than ∷ []

-- the modifiers but `static`, and no annotations
abbrev pub plain_words : List ℕ
plain_words =
    word token.public ∷ word token.protected ∷ word token.private ∷ word token.abstract ∷ word token.default ∷ word token.final ∷ word token.transient
    ∷ word token.volatile ∷ word token.synchronized ∷ word token.native ∷ word token.strictfp ∷ []

abbrev pub modifier_words : List ℕ
modifier_words = word token.static ∷ plain_words

-- the sorts of symbol that begin them
abbrev pub first_of : Nest → List ℕ
first_of type_arguments = operator token.less_than ∷ []
first_of created_arguments = operator token.less_than ∷ []
first_of array_value = operator token.open_brace ∷ []
first_of nested_annotation = ats
first_of constant_value = constant_sorts
first_of (expression_part s p) = first_of_part p
first_of first_name = named ∷ []
first_of nested_type = word token.class ∷ word token.interface ∷ at_interface ∷ word token.enum ∷ []
first_of modifiers = modifier_words ++ operator token.at ∷ []
first_of plain_modifiers = plain_words ++ operator token.at ∷ []
first_of static_word = word token.static ∷ []
first_of import_rest = operator token.dot ∷ []
first_of enum_rest = operator token.comma ∷ []
first_of param_rest = operator token.open_bracket ∷ (ats ++ operator token.ellipsis ∷ names)
first_of first_rest = operator token.open_bracket ∷ (ats ++ operator token.ellipsis ∷ word token.this ∷ names)
first_of (value_and_rest s) = operator token.open_brace ∷ (ats ++ expression_sorts s)
first_of (expression_rest s w a) = later_sorts s (freedom_in s w) a ++ later_ends s a
first_of initialiser = expression_sorts assigned
first_of (value_end s) = ends s
first_of constant_items = constant_sorts
first_of constant_chain = operator token.dot ∷ operator token.open_bracket ∷ operator token.plus ∷ []

-- the sorts of symbol that may begin a form
abbrev pub first : {A : Type 0} → Form A → List ℕ
first (terminal k) = k
first (pair f g) = if nullable f then first f ++ first g else first f
first (turn h f) = first f
first (maybe f) = first f
first (many f) = first f
first (either f g) = first f ++ first g
first (seen h f) = first f
first (nest m) = first_of m
first (over opens) = opens
first (attempt f g) = first f ++ first g

abbrev pub repeat : {A : Type 0} → (List Symbol → Bool) → (List Symbol → Outcome A) → ℕ → List Symbol → Outcome (List A)
repeat more one zero ts = done [] ts
repeat more one (suc n) ts = if more ts then (one ts >>= λ x rest. repeat more one n rest >>= λ xs after. done (x ∷ xs) after) else done [] ts

-- of two lists of symbols that are left the one that is further on
abbrev pub further_of : List Symbol → List Symbol → List Symbol
further_of at to = if nat_le (length at) (length to) then at else to

-- What two readings give of which the first one failed here: the place of a fault is the further one.
abbrev pub failed_at : {A : Type 0} → List Symbol → Outcome A → Outcome A
failed_at at (done x rest) = done x rest
failed_at at (fault to) = fault (further_of at to)
failed_at at (deep to) = deep to

-- What two readings give: the first one, and where that fails, the other one.
abbrev pub attempted : {A : Type 0} → Outcome A → Outcome A → Outcome A
attempted (done x rest) other = done x rest
attempted (fault at) other = failed_at at other
attempted (deep at) other = deep at

abbrev pub read : Readers → {A : Type 0} → Form A → List Symbol → Outcome A
read inner (terminal k) ts = one_at k ts
read inner (pair f g) ts = read inner f ts >>= λ x rest. read inner g rest >>= λ y after. done (x, y) after
read inner (turn h f) ts = read inner f ts >>= λ x rest. done (h x) rest
read inner (maybe f) ts = if starts (first f) ts then (read inner f ts >>= λ x rest. done (Some x) rest) else done None ts
read inner (many f) ts = repeat (starts (first f)) (read inner f) (length ts) ts
read inner (either f g) ts = if starts (first f) ts then read inner f ts else read inner g ts
read inner (seen h f) ts = read inner f ts >>= λ x rest. done (h (read_of ts rest), x) rest
read inner (nest m) ts = inner m ts
read inner (over opens) ts = skip opens ts
read inner (attempt f g) ts = attempted (read inner f ts) (read inner g ts)

-- what was read, with another meaning
abbrev pub turned : {A B : Type 0} → (A → B) → Outcome A → Outcome B
turned h r = r >>= λ x rest. done (h x) rest

-- what was read before, and what is still read
abbrev pub with_front : {A : Type 0} → List A → Outcome (List A) → Outcome (List A)
with_front front read = turned (λ xs. front ++ xs) read
