-- Values of annotations and initialisers of fields (JLS 8.3, 9.7.1, 15.28): expressions as rows of parts, of which the constant forms are kept.
use Rattle.std.specs.Prelude.{ℕ, zero, suc, Bool, true, false, List, [], ◌∷◌, ◌++◌, length, Option, Some, None, if◌then◌else◌, ◌*◌}
use Rattle.decl_tree.specs.declared.type_text.TypeText.{TypeText}
use Rattle.decl_tree.specs.declared.annotation.ValueText.{ValueText, out-ValueText}
use Rattle.decl_tree.specs.declared.annotation.ElementValuePair.{ElementValuePair}
use Rattle.decl_tree.specs.declared.annotation.AnnotationText.{AnnotationText}
use Rattle.apt_base.specs.declared.around.Around.{Around}
use Rattle.decl_grammar.specs.declared.written.Declarator.{Declarator}
use Rattle.decl_grammar.specs.declared.written.NameAt.{NameAt}
use Rattle.decl_grammar.specs.declared.symbol.Symbol.{Symbol}
use Rattle.decl_grammar.specs.Symbols.{word, operator, numbers, integer, floating}
use Rattle.decl_grammar.specs.TokenNames as token
use Rattle.decl_grammar.specs.Reading.{Outcome, done, fault}
use Rattle.std.specs.List.{list_any}
use Rattle.decl_grammar.specs.Constants.{expression_of, joined}
use Rattle.decl_tree.specs.declared.annotation.ValueText.TheOpen.{ValueText-F}
use Rattle.decl_tree.specs.declared.annotation.ValueText.TheVariants as value
use Rattle.decl_grammar.specs.Form.{freedom_in, Stands, Freedom, After, Part, Nest, Behind, Rest, Of, Form, Readers, names, ats, plain_sorts, primitive_sorts, equals, first_names, less_sorts, read, alone, paired, listed, defaulted, assigned, strict, conditional, anywhere, between, name_there, greater, dot, colons, colon_arguments, creation, test, test_name, test_arguments, test_end, one_of, bracketed, arguments, annotated, created, type_reference, tested, tested_name, tested_dim, type_arguments, created_arguments, array_value, nested_annotation, first_name, constant_value, expression_part, nested_type, modifiers, plain_modifiers, static_word, import_rest, enum_rest, param_rest, first_rest, value_and_rest, expression_rest, initialiser, value_end, constant_items, constant_chain, terminal, pair, turn, maybe, many, either, seen, nest, over, attempt}
use Rattle.decl_grammar.specs.Types.{keyword, sign, behind, before, list_or_none, first_and_rest, name, name_at, named_text, name_chain, next_pair, no_pairs, annotation, annotations, no_values, silently, as_written, primitive_type, next_part, dim, type_argument, next_argument, arguments_form}

-- A row is read together with all that stands behind it, up to the bracket or the `;` that ends it all: while the arguments
-- of a type may still be a comparison, two readings go on side by side, and the place of a fault is the further one.

-- ---- parts of an expression

-- Name [TypeArguments]
unfoldable pub created_part : Form (Unit {0})
created_part = turn silently (pair name (maybe (nest created_arguments)))

-- . Annotations CreatedPart
unfoldable pub next_created_part : Form (Unit {0})
next_created_part = behind (sign token.dot) (behind annotations created_part)

-- the class that is created, or the primitive type of an array that is (JLS 15.9, 15.10.1)
unfoldable pub created_type : Form (Unit {0})
created_type = either (turn silently (pair created_part (many next_created_part))) (turn silently primitive_type)

-- new [TypeArguments] Annotations CreatedType
unfoldable pub creation_form : Form (Unit {0})
creation_form = behind (keyword token.new) (behind (maybe (nest type_arguments)) (behind annotations created_type))

-- < [TypeArgument { , TypeArgument }] >
unfoldable pub created_arguments_form : Form (List TypeText)
created_arguments_form =
    behind (sign token.less_than) (before (turn list_or_none (maybe (turn first_and_rest (pair type_argument (many next_argument))))) (sign token.greater_than))

-- instanceof Annotations (JLS 15.20.2)
unfoldable pub test_form : Form (Unit {0})
test_form = turn silently (pair (keyword token.instanceof) annotations)

-- . Annotations Name
unfoldable pub test_name_form : Form (Unit {0})
test_name_form = turn silently (behind (sign token.dot) (behind annotations name))

-- Behind the first name of a type with arguments: TypeArguments { . Annotations Name [TypeArguments] } { [ ] } ::
unfoldable pub reference_form : Form (Unit {0})
reference_form = turn silently (pair (nest type_arguments) (pair (many next_part) (pair (many dim) (sign token.double_colon))))

-- @ Name { . Name } [( .. )]
unfoldable pub annotation_over : Form (Unit {0})
annotation_over = turn silently (pair (terminal ats) (pair name_chain (maybe (over (operator token.open_parenthesis ∷ [])))))

-- annotations, and the first symbol of the type behind them (JLS 15.13)
unfoldable pub annotated_form : Form (Unit {0})
annotated_form = turn silently (pair annotation_over (pair (many annotation_over) (terminal (names ++ primitive_sorts))))

abbrev pub part_form : Part → Form (Unit {0})
part_form (one_of sorts) = turn silently (terminal sorts)
part_form (bracketed opens) = over opens
part_form arguments = turn silently (nest type_arguments)
part_form annotated = annotated_form
part_form created = creation_form
part_form type_reference = reference_form
part_form tested = test_form
part_form tested_name = test_name_form
part_form tested_dim = turn silently dim

-- ---- an expression, and what stands behind it

-- the symbols of a part
abbrev pub symbols_of_part : List Symbol × Unit {0} → List Symbol
symbols_of_part x = x.0

unfoldable pub part_symbols : Stands → Part → Form (List Symbol)
part_symbols s p = turn symbols_of_part (seen as_written (nest (expression_part s p)))

-- symbols before the rest of an expression
abbrev pub with_symbols : {B : Type 0} → List Symbol × (List Symbol × B) → List Symbol × B
with_symbols x = (x.0 ++ x.1.0, x.1.1)

-- a part, and the rest behind it
unfoldable pub step : (s : Stands) → Part → Freedom → After → Form (Rest s)
step s p w a = turn with_symbols (pair (part_symbols s p) (nest (expression_rest s w a)))

-- how free a `=` is behind `?`, behind `:` and behind `->`
abbrev pub in_condition : Freedom → Freedom
in_condition strict = conditional zero
in_condition (conditional n) = conditional (suc n)
in_condition anywhere = anywhere

abbrev pub behind_condition : Freedom → Freedom
behind_condition strict = strict
behind_condition (conditional zero) = strict
behind_condition (conditional (suc n)) = conditional n
behind_condition anywhere = anywhere

abbrev pub in_lambda : Freedom → Freedom
in_lambda strict = anywhere
in_lambda (conditional n) = conditional n
in_lambda anywhere = anywhere

-- `.`, and `::`
unfoldable pub plain_dots : (s : Stands) → Freedom → Form (Rest s)
plain_dots s w = either (step s (one_of (operator token.dot ∷ [])) w dot) (step s (one_of (operator token.double_colon ∷ [])) w colons)

-- `[` and all up to its `]`, and `@`
unfoldable pub plain_squares : (s : Stands) → Freedom → Form (Rest s)
plain_squares s w = either (step s (bracketed (operator token.open_bracket ∷ [])) w between) (step s (one_of ats) w between)

-- `new`, which behind `::` names a constructor (JLS 15.13)
abbrev pub new_step : (s : Stands) → Freedom → After → Form (Rest s)
new_step s w colons = step s (one_of (word token.new ∷ [])) w between
new_step s w colon_arguments = step s (one_of (word token.new ∷ [])) w between
new_step s w a = step s created w creation

-- what may stand anywhere, with these names
unfoldable pub told_steps : (s : Stands) → List ℕ → Freedom → After → Form (Rest s)
told_steps s sorts w a =
    either (step s (one_of sorts) w name_there)
    (either (step s (one_of plain_sorts) w between)
    (either (step s (bracketed (operator token.open_parenthesis ∷ [])) w between)
    (either (new_step s w a)
    (either (step s tested w test)
    (either (step s (one_of (operator token.greater_than ∷ [])) w greater)
    (either (step s (one_of (operator token.question ∷ [])) (in_condition w) between)
    (either (step s (one_of (operator token.colon ∷ [])) (behind_condition w) between)
    (step s (one_of (operator token.arrow ∷ [])) (in_lambda w) between))))))))

-- Behind a name: the rest of a type with arguments that a `::` follows, or the operator `<`.
unfoldable pub two_readings : (s : Stands) → Freedom → Form (Rest s)
two_readings s w =
    attempt (step s type_reference w colons) (step s (one_of (operator token.less_than ∷ [])) w between)

-- `<` by what stands before it
abbrev pub less_form : (s : Stands) → Freedom → After → Form (Rest s)
less_form s w name_there = two_readings s w
less_form s w dot = step s arguments w between
less_form s w colons = step s arguments w colon_arguments
less_form s w test_name = step s arguments w test_arguments
less_form s w a = step s (one_of (less_sorts a)) w between

-- In a value, behind a `>` that is an operator, stand no `.`, `::` and `[`, and behind an `@` there comes a type: so a type
-- with arguments before `::` is never read as a comparison.
abbrev pub greater_dots : (s : Stands) → Freedom → Form (Rest s)
greater_dots assigned w = plain_dots assigned w
greater_dots s w = step s (one_of []) w between

abbrev pub greater_squares : (s : Stands) → Freedom → Form (Rest s)
greater_squares assigned w = plain_squares assigned w
greater_squares s w = step s annotated w name_there

-- `.` and `::` by what stands before them
abbrev pub dot_form : (s : Stands) → Freedom → After → Form (Rest s)
dot_form s w test_name = either (step s tested_name w test_name) (step s (one_of (operator token.double_colon ∷ [])) w colons)
dot_form s w test_arguments = either (step s tested_name w test_name) (step s (one_of (operator token.double_colon ∷ [])) w colons)
dot_form s w creation = step s (one_of []) w between
dot_form s w greater = greater_dots s w
dot_form s w a = plain_dots s w

-- `[` and `@` by what stands before them: behind a type that is tested a pair of its brackets
abbrev pub square_form : (s : Stands) → Freedom → After → Form (Rest s)
square_form s w test_name = step s tested_dim w test_end
square_form s w test_arguments = step s tested_dim w test_end
square_form s w test_end = step s tested_dim w test_end
square_form s w greater = greater_squares s w
square_form s w a = plain_squares s w

-- `{` and `=`
unfoldable pub other_steps : (s : Stands) → Freedom → Form (Rest s)
other_steps s w = either (step s (bracketed (operator token.open_brace ∷ [])) w between) (step s (one_of (equals w)) w between)

abbrev pub no_symbols : {B : Type 0} → B → List Symbol × B
no_symbols b = ([], b)

-- what goes on with an expression by what stands before it
unfoldable pub signs_form : (s : Stands) → Freedom → After → Form (Rest s)
signs_form s w a = either (less_form s w a) (either (dot_form s w a) (square_form s w a))

-- the rest of an expression, and what stands behind it; behind `instanceof` a type comes
abbrev pub rest_form : (s : Stands) → Freedom → After → Form (Rest s)
rest_form s w test = either (step s (one_of names) w test_name) (step s (one_of primitive_sorts) w test_end)
rest_form s w a =
    either (told_steps s names w a) (either (signs_form s w a) (either (other_steps s w) (turn no_symbols (nest (value_end s)))))

-- as a value an expression begins with no `@`, `{` and `=`
unfoldable pub value_squares : (s : Stands) → Form (Rest s)
value_squares s = step s (bracketed (operator token.open_bracket ∷ [])) strict between

-- an expression, and what stands behind it
abbrev pub expression : (s : Stands) → Form (Rest s)
expression assigned = either (told_steps assigned names anywhere between) (either (signs_form assigned anywhere between) (other_steps assigned anywhere))
expression s =
    either (told_steps s (first_names s) strict between) (either (less_form s strict between) (either (plain_dots s strict) (value_squares s)))

-- ---- values

abbrev pub other_value : ValueText-F ValueText AnnotationText ElementValuePair → Bool
other_value (ValueText-F.Other text) = true
other_value _ = false

abbrev pub is_other : ValueText → Bool
is_other v = other_value (out-ValueText v)

-- an array, which is kept as its tokens where one of its values is no constant form
abbrev pub array_of : List Symbol × List ValueText → ValueText
array_of x = if list_any is_other x.1 then value.Other (joined x.0) else value.Array x.1

abbrev pub value_and_more : {A : Type 0} → A × List A → List A
value_and_more x = x.0 ∷ x.1

-- Value, and all behind it up to the `}`
unfoldable pub listed_values : Form (List ValueText)
listed_values = turn value_and_more (nest (value_and_rest listed))

-- the end of an array, behind a `,` or not
unfoldable pub listed_end : Form (List ValueText)
listed_end = turn no_values (sign token.close_brace)

-- { [Value { , Value }] [,] }
unfoldable pub array_form : Form ValueText
array_form =
    turn array_of (seen as_written (behind (sign token.open_brace) (either listed_end (either (behind (sign token.comma) listed_end) listed_values))))

abbrev pub value_there : {B : Type 0} → List Symbol × B → ValueText × B
value_there x = (expression_of x.0, x.1)

abbrev pub annotation_there : {B : Type 0} → AnnotationText × B → ValueText × B
annotation_there x = (value.Nested x.0, x.1)

-- an array, an annotation or an expression, and what stands behind it
unfoldable pub value_of : (s : Stands) → Form (ValueText × Behind s)
value_of s =
    either (pair (nest array_value) (nest (value_end s)))
    (either (turn annotation_there (pair (nest nested_annotation) (nest (value_end s)))) (turn value_there (expression s)))

-- a value, and what stands behind it
unfoldable pub value_form : (s : Stands) → Form (ValueText × Behind s)
value_form assigned = turn value_there (expression assigned)
value_form alone = value_of alone
value_form paired = value_of paired
value_form listed = value_of listed
value_form defaulted = value_of defaulted

-- ---- what stands behind a value

-- , Name = Value, or )
unfoldable pub paired_end : Form (List ElementValuePair)
paired_end = either (turn no_pairs (sign token.close_parenthesis)) (behind (sign token.comma) next_pair)

-- , Value, or [,] }
unfoldable pub listed_more : Form (List ValueText)
listed_more = either listed_end (behind (sign token.comma) (either listed_end listed_values))

abbrev pub declarator_of : NameAt → List Around → Option ValueText → Declarator
declarator_of n ds v = record { name = n; dims = ds; constant = v }

abbrev pub no_declarators : Symbol → List Declarator
no_declarators s = []

abbrev pub without_value : List Declarator → Option ValueText × List Declarator
without_value ds = (None, ds)

-- [= Initialiser] { , Declarator } ;
unfoldable pub value_or_end : Form (Option ValueText × List Declarator)
value_or_end = either (behind (sign token.equals) (nest initialiser)) (turn without_value (nest (value_end assigned)))

abbrev pub declarator_first : NameAt × (List Around × (Option ValueText × List Declarator)) → List Declarator
declarator_first x = declarator_of x.0 x.1.0 x.1.1.0 ∷ x.1.1.1

-- , Name { [ ] } [= Initialiser] .., or ; (JLS 8.3)
unfoldable pub assigned_end : Form (List Declarator)
assigned_end = either (turn no_declarators (sign token.semicolon)) (behind (sign token.comma) (turn declarator_first (pair name_at (pair (many dim) value_or_end))))

abbrev pub end_form : (s : Stands) → Form (Behind s)
end_form alone = turn silently (sign token.close_parenthesis)
end_form paired = paired_end
end_form listed = listed_more
end_form defaulted = turn silently (sign token.semicolon)
end_form assigned = assigned_end

-- ---- constant forms

-- a literal, or names that dots join
unfoldable pub plain_constant : Form (Unit {0})
plain_constant = either (turn silently (terminal (numbers integer 7))) (turn silently name_chain)

-- + PlainConstant
unfoldable pub plus_constant : Form (Unit {0})
plus_constant = behind (sign token.plus) plain_constant

-- [ ]
unfoldable pub bare_dim : Form Symbol
bare_dim = behind (sign token.open_bracket) (sign token.close_bracket)

-- . class
unfoldable pub dot_class : Form Symbol
dot_class = behind (sign token.dot) (keyword token.class)

-- [ ] { [ ] } . class
unfoldable pub array_class : Form Symbol
array_class = behind bare_dim (behind (many bare_dim) dot_class)

-- Behind a name: . Name .., . class, [ ] .. . class, or + ..
unfoldable pub chain_form : Form (Unit {0})
chain_form =
    either (behind (sign token.dot) (either (turn silently (keyword token.class)) (turn silently (pair name (maybe (nest constant_chain))))))
    (either (turn silently array_class) (turn silently (pair plus_constant (many plus_constant))))

unfoldable pub literal_constant : Form (Unit {0})
literal_constant = turn silently (pair (terminal (numbers integer 7)) (many plus_constant))

unfoldable pub named_constant : Form (Unit {0})
named_constant = turn silently (pair name (maybe (nest constant_chain)))

-- - Numeral
unfoldable pub negated_constant : Form (Unit {0})
negated_constant = turn silently (behind (sign token.minus) (terminal (integer ∷ floating ∷ [])))

unfoldable pub primitive_class : Form (Unit {0})
primitive_class = turn silently (behind primitive_type (behind (many bare_dim) dot_class))

unfoldable pub void_class : Form (Unit {0})
void_class = turn silently (behind (keyword token.void) dot_class)

-- a constant form that is no array and no annotation
unfoldable pub plain_form : Form (Unit {0})
plain_form = either literal_constant (either named_constant (either negated_constant (either primitive_class void_class)))

abbrev pub plain_value : List Symbol × Unit {0} → ValueText
plain_value x = expression_of x.0

unfoldable pub constant_end : Form (List ValueText)
constant_end = either listed_end (behind (sign token.comma) (either listed_end (nest constant_items)))

-- ConstantForm, and all behind it up to the `}`
unfoldable pub constant_items_form : Form (List ValueText)
constant_items_form = turn value_and_more (pair (nest constant_value) constant_end)

-- { [ConstantForm { , ConstantForm }] [,] }
unfoldable pub constant_array : Form ValueText
constant_array = turn value.Array (behind (sign token.open_brace) (either listed_end (either (behind (sign token.comma) listed_end) (nest constant_items))))

-- JLS 15.28 as far as it is kept
unfoldable pub constant_form : Form ValueText
constant_form = either constant_array (either (turn value.Nested annotation) (turn plain_value (seen as_written plain_form)))

-- ---- the rules of types and values, which hold no declarations

abbrev pub value_rule : (m : Nest) → Form (Of m)
value_rule type_arguments = arguments_form
value_rule created_arguments = created_arguments_form
value_rule array_value = array_form
value_rule nested_annotation = annotation
value_rule first_name = named_text
value_rule constant_value = constant_form
value_rule (expression_part s p) = part_form p
value_rule (value_and_rest s) = value_form s
value_rule (expression_rest s w a) = rest_form s (freedom_in s w) a
value_rule constant_items = constant_items_form
value_rule constant_chain = chain_form
value_rule (value_end alone) = end_form alone
value_rule (value_end paired) = end_form paired
value_rule (value_end listed) = end_form listed
value_rule (value_end defaulted) = end_form defaulted
value_rule (value_end assigned) = nest (value_end assigned)
value_rule initialiser = nest initialiser
value_rule nested_type = nest nested_type
value_rule modifiers = nest modifiers
value_rule plain_modifiers = nest plain_modifiers
value_rule static_word = nest static_word
value_rule import_rest = nest import_rest
value_rule enum_rest = nest enum_rest
value_rule param_rest = nest param_rest
value_rule first_rest = nest first_rest

-- reading by rules through this many forms that hold themselves, however many are open
abbrev pub read_by : ((m : Nest) → Form (Of m)) → ℕ → Readers
read_by rules zero m ts = fault ts
read_by rules (suc n) m ts = read (read_by rules n) (rules m) ts

abbrev pub whole_of : {A : Type 0} → Outcome A → Option A
whole_of (done x []) = Some x
whole_of _ = None

-- the constant form that all these symbols are, where they are one
unfoldable pub kept : List Symbol → Option ValueText
kept ts = whole_of (read_by value_rule (3 * suc (length ts)) constant_value ts)

-- ---- initialisers (JLS 8.3)

unfoldable pub constant_alone : Form (List Symbol)
constant_alone = before (turn (λ x. x.0) (seen as_written (nest constant_value))) (sign token.semicolon)

abbrev pub initialised : List Symbol × List Declarator → Option ValueText × List Declarator
initialised x = (kept x.0, x.1)

abbrev pub kept_alone : List Symbol → Option ValueText × List Declarator
kept_alone ss = (kept ss, [])

-- An initialiser, and all behind it up to the `;`. As long as it might still be a constant form, that is open as a value.
unfoldable pub initialiser_form : Form (Option ValueText × List Declarator)
initialiser_form = attempt (turn kept_alone constant_alone) (turn initialised (expression assigned))
