-- How an expression goes on, by where it stands, by what stands before the next symbol, and by its sort.
use Rattle.std.specs.Prelude.{ℕ, Bool, true, false, List, [], ◌∷◌, Option, Some, None, if◌then◌else◌, ◌==◌}
use Rattle.decl_turns.specs.declared.states.Place.{Place}
use Rattle.decl_turns.specs.declared.states.Leave.{Leave}
use Rattle.decl_turns.specs.declared.states.Before.{Before}
use Rattle.decl_turns.specs.declared.states.Before.TheVariants as before
use Rattle.decl_turns.specs.declared.states.Piece.{Piece}
use Rattle.decl_turns.specs.declared.states.Piece.TheVariants as piece
use Rattle.decl_turns.specs.declared.states.Turn.TheVariants as turning
use Rattle.decl_turns.specs.declared.states.Next.{Next}
use Rattle.decl_turns.specs.declared.states.Next.TheVariants as next
use Rattle.decl_grammar.specs.declared.symbol.Symbol.{Symbol}
use Rattle.decl_grammar.specs.Reading.{has}
use Rattle.decl_grammar.specs.Form.{is_value, freedom_in, names, ats, plain_sorts, primitive_sorts, equals, first_names}
use Rattle.decl_turns.specs.States.{stands_of, freedom_of}
use Rattle.decl_grammar.specs.Symbols.{operator, word}
use Rattle.decl_grammar.specs.TokenNames as token

-- one of these, where a test holds, and the first of two that is there
abbrev pub some_if : Bool → Next → Option Next
some_if true x = Some x
some_if false x = None

abbrev pub or_else : Option Next → Option Next → Option Next
or_else None o = o
or_else (Some x) o = Some x

abbrev pub or_next : Option Next → Next → Next
or_next None x = x
or_next (Some y) x = y

-- one symbol, behind which this stands
abbrev pub one_then : Before → Next
one_then b = next.Part piece.One turning.Same b

-- a part that changes nothing of where a `=` may stand
abbrev pub then_part : Piece → Before → Next
then_part p b = next.Part p turning.Same b

-- `new`, which behind `::` names a constructor (JLS 15.13)
abbrev pub new_next : Before → Next
new_next before.Colons = one_then before.Between
new_next before.ColonArguments = one_then before.Between
new_next before.Between = then_part piece.Created before.Creation
new_next before.Name = then_part piece.Created before.Creation
new_next before.Greater = then_part piece.Created before.Creation
new_next before.Dot = then_part piece.Created before.Creation
new_next before.Creation = then_part piece.Created before.Creation
new_next before.Test = then_part piece.Created before.Creation
new_next before.TestName = then_part piece.Created before.Creation
new_next before.TestArguments = then_part piece.Created before.Creation
new_next before.TestEnd = then_part piece.Created before.Creation

-- `>`, `?`, `:` and `->`
abbrev pub sign_next : ℕ → Option Next
sign_next n =
    or_else (some_if (n == operator token.greater_than) (one_then before.Greater))
    (or_else (some_if (n == operator token.question) (next.Part piece.One turning.Condition before.Between))
    (or_else (some_if (n == operator token.colon) (next.Part piece.One turning.Colon before.Between))
    (some_if (n == operator token.arrow) (next.Part piece.One turning.Lambda before.Between))))

-- `(`, `new` and `instanceof`, and those signs
abbrev pub word_next : Before → ℕ → Option Next
word_next b n =
    or_else (some_if (n == operator token.open_parenthesis) (then_part piece.Round before.Between))
    (or_else (some_if (n == word token.new) (new_next b))
    (or_else (some_if (n == word token.instanceof) (then_part piece.Tested before.Test))
    (sign_next n)))

-- what may stand anywhere, with these names
abbrev pub told_next : List ℕ → Before → ℕ → Option Next
told_next sorts b n =
    or_else (some_if (has sorts n) (one_then before.Name))
    (or_else (some_if (has plain_sorts n) (one_then before.Between))
    (word_next b n))

-- `<` by what stands before it
abbrev pub less_there : Before → Option Next
less_there before.Name = Some next.Two
less_there before.Dot = Some (then_part piece.Arguments before.Between)
less_there before.Colons = Some (then_part piece.Arguments before.ColonArguments)
less_there before.TestName = Some (then_part piece.Arguments before.TestArguments)
less_there before.ColonArguments = None
less_there before.Creation = None
less_there before.Between = Some (one_then before.Between)
less_there before.Greater = Some (one_then before.Between)
less_there before.Test = Some (one_then before.Between)
less_there before.TestArguments = Some (one_then before.Between)
less_there before.TestEnd = Some (one_then before.Between)

abbrev pub only_if : Bool → Option Next → Option Next
only_if true o = o
only_if false o = None

-- `.` and `::`
abbrev pub plain_dots_next : ℕ → Option Next
plain_dots_next n =
    or_else (some_if (n == operator token.dot) (one_then before.Dot)) (some_if (n == operator token.double_colon) (one_then before.Colons))

abbrev pub tested_dots_next : ℕ → Option Next
tested_dots_next n =
    or_else (some_if (n == operator token.dot) (then_part piece.TestedName before.TestName)) (some_if (n == operator token.double_colon) (one_then before.Colons))

-- `.` and `::` by what stands before them
abbrev pub dots_next : Bool → Before → ℕ → Option Next
dots_next valued before.TestName n = tested_dots_next n
dots_next valued before.TestArguments n = tested_dots_next n
dots_next valued before.Creation n = None
dots_next valued before.Greater n = if valued then None else plain_dots_next n
dots_next valued before.Between n = plain_dots_next n
dots_next valued before.Name n = plain_dots_next n
dots_next valued before.Dot n = plain_dots_next n
dots_next valued before.Colons n = plain_dots_next n
dots_next valued before.ColonArguments n = plain_dots_next n
dots_next valued before.Test n = plain_dots_next n
dots_next valued before.TestEnd n = plain_dots_next n

-- `[` and `@`
abbrev pub plain_squares_next : ℕ → Option Next
plain_squares_next n = or_else (some_if (n == operator token.open_bracket) (then_part piece.Square before.Between)) (some_if (has ats n) (one_then before.Between))

abbrev pub tested_squares_next : ℕ → Option Next
tested_squares_next n = some_if (has (operator token.open_bracket ∷ ats) n) (then_part piece.TestedDim before.TestEnd)

abbrev pub annotated_next : ℕ → Option Next
annotated_next n = some_if (has ats n) (then_part piece.Annotated before.Name)

-- `[` and `@` by what stands before them
abbrev pub squares_next : Bool → Before → ℕ → Option Next
squares_next valued before.TestName n = tested_squares_next n
squares_next valued before.TestArguments n = tested_squares_next n
squares_next valued before.TestEnd n = tested_squares_next n
squares_next valued before.Greater n = if valued then annotated_next n else plain_squares_next n
squares_next valued before.Between n = plain_squares_next n
squares_next valued before.Name n = plain_squares_next n
squares_next valued before.Dot n = plain_squares_next n
squares_next valued before.Colons n = plain_squares_next n
squares_next valued before.ColonArguments n = plain_squares_next n
squares_next valued before.Creation n = plain_squares_next n
squares_next valued before.Test n = plain_squares_next n

-- `<`, `.`, `::`, `[` and `@` by what stands before them
abbrev pub signs_next : Bool → Before → ℕ → Option Next
signs_next valued b n = or_else (only_if (n == operator token.less_than) (less_there b)) (or_else (dots_next valued b n) (squares_next valued b n))

-- `{`, and `=` where it may stand
abbrev pub braces_next : List ℕ → ℕ → Option Next
braces_next signs n = or_else (some_if (n == operator token.open_brace) (then_part piece.Brace before.Between)) (some_if (has signs n) (one_then before.Between))

-- behind `instanceof` a type comes
abbrev pub test_next : ℕ → Next
test_next n = or_next (or_else (some_if (has names n) (one_then before.TestName)) (some_if (has primitive_sorts n) (one_then before.TestEnd))) next.Nothing

-- what goes on with an expression, or that it ends
abbrev pub plain_next : Bool → List ℕ → Before → ℕ → Next
plain_next valued signs b n = or_next (told_next names b n) (or_next (signs_next valued b n) (or_next (braces_next signs n) next.End))

abbrev pub later_next : Bool → List ℕ → Before → ℕ → Next
later_next valued signs before.Test n = test_next n
later_next valued signs before.Between n = plain_next valued signs before.Between n
later_next valued signs before.Name n = plain_next valued signs before.Name n
later_next valued signs before.Greater n = plain_next valued signs before.Greater n
later_next valued signs before.Dot n = plain_next valued signs before.Dot n
later_next valued signs before.Colons n = plain_next valued signs before.Colons n
later_next valued signs before.ColonArguments n = plain_next valued signs before.ColonArguments n
later_next valued signs before.Creation n = plain_next valued signs before.Creation n
later_next valued signs before.TestName n = plain_next valued signs before.TestName n
later_next valued signs before.TestArguments n = plain_next valued signs before.TestArguments n
later_next valued signs before.TestEnd n = plain_next valued signs before.TestEnd n

-- the same where no symbol is left
abbrev pub none_left : Before → Next
none_left before.Test = next.Nothing
none_left before.Between = next.End
none_left before.Name = next.End
none_left before.Greater = next.End
none_left before.Dot = next.End
none_left before.Colons = next.End
none_left before.ColonArguments = next.End
none_left before.Creation = next.End
none_left before.TestName = next.End
none_left before.TestArguments = next.End
none_left before.TestEnd = next.End

-- whether an expression that stands here is a value, and where in it a `=` may stand
abbrev pub valued_at : Place → Bool
valued_at p = is_value (stands_of p)

abbrev pub equals_at : Place → Leave → List ℕ
equals_at p l = equals (freedom_in (stands_of p) (freedom_of l))

-- how an expression goes on here
abbrev pub next_at : Place → Leave → Before → List Symbol → Next
next_at p l b [] = none_left b
next_at p l b (t ∷ ts) = later_next (valued_at p) (equals_at p l) b t.sort

-- ---- the first part

-- of a value, names and signs that may stand anywhere aside
abbrev pub value_signs_next : ℕ → Next
value_signs_next n =
    or_next
    (or_else (some_if (n == operator token.less_than) (one_then before.Between))
    (or_else (plain_dots_next n) (some_if (n == operator token.open_bracket) (then_part piece.Square before.Between))))
    next.Nothing

-- of a value: nothing that begins an array or an annotation
abbrev pub value_first : List ℕ → ℕ → Next
value_first sorts n = or_next (told_next sorts before.Between n) (value_signs_next n)

-- of an initialiser
abbrev pub assigned_first : ℕ → Next
assigned_first n =
    or_next (told_next names before.Between n) (or_next (signs_next false before.Between n) (or_next (braces_next (operator token.equals ∷ []) n) next.Nothing))

abbrev pub first_of_sort : Bool → List ℕ → ℕ → Next
first_of_sort true sorts n = value_first sorts n
first_of_sort false sorts n = assigned_first n

-- how an expression begins here
abbrev pub first_at : Place → List Symbol → Next
first_at p [] = next.Nothing
first_at p (t ∷ ts) = first_of_sort (valued_at p) (first_names (stands_of p)) t.sort
