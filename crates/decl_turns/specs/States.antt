-- What the states of a reader of expressions are in the grammar.
use Rattle.std.specs.Prelude.{◌≡◌, ℕ, zero, suc, ◌+◌, ◌-◌, List, [], ◌∷◌, ◌==◌, if◌then◌else◌}
use Rattle.decl_turns.specs.declared.states.Place.{Place}
use Rattle.decl_turns.specs.declared.states.Place.TheVariants as place
use Rattle.decl_turns.specs.declared.states.Leave.{Leave}
use Rattle.decl_turns.specs.declared.states.Leave.TheVariants as leave
use Rattle.decl_turns.specs.declared.states.Before.{Before}
use Rattle.decl_turns.specs.declared.states.Before.TheVariants as before
use Rattle.decl_turns.specs.declared.states.Piece.{Piece}
use Rattle.decl_turns.specs.declared.states.Piece.TheVariants as piece
use Rattle.decl_turns.specs.declared.states.Turn.{Turn}
use Rattle.decl_turns.specs.declared.states.Turn.TheVariants as turning
use Rattle.decl_turns.specs.declared.states.Next.{Next}
use Rattle.decl_turns.specs.declared.states.Next.TheVariants as next
use Rattle.decl_grammar.specs.declared.symbol.Symbol.{Symbol}
use Rattle.decl_grammar.specs.Symbols.{operator}
use Rattle.decl_grammar.specs.TokenNames as token
use Rattle.decl_grammar.specs.Reading.{Outcome}
use Rattle.decl_grammar.specs.Form.{Stands, Freedom, After, Part, Rest, Form, alone, paired, listed, defaulted, assigned, strict, conditional, anywhere, between, name_there, greater, dot, colons, colon_arguments, creation, test, test_name, test_arguments, test_end, one_of, bracketed, arguments, annotated, created, type_reference, tested, tested_name, tested_dim, value_end, turn, nest, expression_rest, freedom_in}
use Rattle.decl_grammar.specs.Expressions.{step, two_readings, expression, no_symbols, in_condition, behind_condition, in_lambda}
use Rattle.decl_grammar.specs.Rule.{read_nest, reads}

-- where an expression stands
abbrev pub stands_of : Place → Stands
stands_of place.Alone = alone
stands_of place.Paired = paired
stands_of place.Listed = listed
stands_of place.Defaulted = defaulted
stands_of place.Assigned = assigned

-- as many conditions as are open: none, or one more than the grammar counts
abbrev pub conditions : ℕ → Freedom
conditions zero = strict
conditions (suc n) = conditional n

abbrev pub freedom_of : Leave → Freedom
freedom_of (leave.Within n) = conditions n
freedom_of leave.Anywhere = anywhere

abbrev pub after_of : Before → After
after_of before.Between = between
after_of before.Name = name_there
after_of before.Greater = greater
after_of before.Dot = dot
after_of before.Colons = colons
after_of before.ColonArguments = colon_arguments
after_of before.Creation = creation
after_of before.Test = test
after_of before.TestName = test_name
after_of before.TestArguments = test_arguments
after_of before.TestEnd = test_end

-- the sort of the next symbol, where there is one
abbrev pub sorts_at : List Symbol → List ℕ
sorts_at [] = []
sorts_at (t ∷ ts) = t.sort ∷ []

-- the part that begins here
abbrev pub part_at : Piece → List Symbol → Part
part_at piece.One ts = one_of (sorts_at ts)
part_at piece.Round ts = bracketed (operator token.open_parenthesis ∷ [])
part_at piece.Brace ts = bracketed (operator token.open_brace ∷ [])
part_at piece.Square ts = bracketed (operator token.open_bracket ∷ [])
part_at piece.Arguments ts = arguments
part_at piece.Annotated ts = annotated
part_at piece.Created ts = created
part_at piece.Reference ts = type_reference
part_at piece.Tested ts = tested
part_at piece.TestedName ts = tested_name
part_at piece.TestedDim ts = tested_dim

-- how free a `=` is behind a part
abbrev pub leave_after : Turn → Leave → Leave
leave_after turning.Same l = l
leave_after turning.Condition (leave.Within n) = leave.Within (n + 1)
leave_after turning.Condition leave.Anywhere = leave.Anywhere
leave_after turning.Colon (leave.Within n) = leave.Within (n - 1)
leave_after turning.Colon leave.Anywhere = leave.Anywhere
leave_after turning.Lambda (leave.Within n) = if n == 0 then leave.Anywhere else leave.Within n
leave_after turning.Lambda leave.Anywhere = leave.Anywhere

-- the same in the grammar
abbrev pub freedom_after : Turn → Freedom → Freedom
freedom_after turning.Same w = w
freedom_after turning.Condition w = in_condition w
freedom_after turning.Colon w = behind_condition w
freedom_after turning.Lambda w = in_lambda w

-- the form that an expression goes on with; one that does not go on fails at once
abbrev pub form_next : (s : Stands) → Freedom → Next → List Symbol → Form (Rest s)
form_next s w (next.Part p v b) ts = step s (part_at p ts) (freedom_after v w) (after_of b)
form_next s w next.Two ts = two_readings s w
form_next s w next.Nothing ts = step s (one_of []) w between
form_next s w next.End ts = turn no_symbols (nest (value_end s))

-- the rest of an expression that stands here
abbrev pub rest_read : ℕ → (p : Place) → Leave → Before → List Symbol → Outcome (Rest (stands_of p))
rest_read room p l b ts = read_nest room (expression_rest (stands_of p) (freedom_of l) (after_of b)) ts

abbrev pub expression_read : ℕ → (p : Place) → List Symbol → Outcome (Rest (stands_of p))
expression_read room p ts = reads room (expression (stands_of p)) ts

-- in an initialiser a `=` may stand anywhere
abbrev pub IsFree : Place → Leave → Type 0
IsFree p l = freedom_in (stands_of p) (freedom_of l) ≡ freedom_of l

-- how free a `=` is where an expression begins
abbrev pub leave_first : Place → Leave
leave_first place.Alone = leave.Within 0
leave_first place.Paired = leave.Within 0
leave_first place.Listed = leave.Within 0
leave_first place.Defaulted = leave.Within 0
leave_first place.Assigned = leave.Anywhere
