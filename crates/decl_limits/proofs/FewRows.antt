-- How many separators the rest of an expression has at least, with all behind it, by where the expression stands: those of what ends it.
use Rattle.std.proofs.Common.{◌≡◌, ℕ, suc, List, [], ◌∷◌, length, refl, arith}
use Rattle.decl_grammar.specs.Symbols.{word, operator, numbers}
use Rattle.decl_grammar.specs.TokenNames as token
use Rattle.decl_grammar.specs.Form.{Stands, Freedom, After, strict, conditional, anywhere, Part, Behind, Rest, names, ats, plain_sorts, primitive_sorts, equals, less_sorts, alone, paired, listed, defaulted, assigned, between, name_there, greater, dot, colons, colon_arguments, creation, test, test_name, test_arguments, test_end, one_of, bracketed, arguments, annotated, created, type_reference, tested, tested_name, tested_dim, expression_rest, value_end, turn, either, nest}
use Rattle.decl_grammar.specs.Expressions.{in_condition, behind_condition, in_lambda, part_symbols, with_symbols, step, told_steps, new_step, two_readings, less_form, plain_dots, plain_squares, greater_dots, greater_squares, dot_form, square_form, other_steps, signs_form, no_symbols, rest_form}
use Rattle.decl_limits.proofs.Braces.{level, terminal_effect, part_effect}
use Rattle.decl_limits.proofs.Counted.{AtLeast, none, in-pair, in-turn, in-either, in-attempt}

-- what is said of the end: behind an initialiser the further fields and the `;`, behind a default the `;`
abbrev pub ended : (s : Stands) → Behind s → ℕ
ended assigned ds = suc (length ds)
ended defaulted v = 1
ended alone v = 0
ended paired v = 0
ended listed v = 0

abbrev pub behind_row : (s : Stands) → Rest s → ℕ
behind_row s x = ended s x.1

-- of the rests of an expression that stands here, and of what ends it
pub record Rows (s : Stands) (h : ℕ) : Type 0 where
  pub rest : (w : Freedom) (a : After) → AtLeast h (nest (expression_rest s w a)) (behind_row s)
  pub end : AtLeast h (nest (value_end s)) (ended s)

pub step-least : (s : Stands) (h : ℕ) → Rows s h → (p : Part) → part_effect p ≡ level → (w : Freedom) (a : After) → AtLeast h (step s p w a) (behind_row s)
unfolding step part_symbols
step-least s h rows p even w a = in-turn with_symbols (behind_row s) (in-pair (none h (part_symbols s p) even) (rows.rest w a)) (λ x. omega arith)

plain-even : terminal_effect plain_sorts ≡ level
unfolding numbers
plain-even = refl

equals-even : (w : Freedom) → terminal_effect (equals w) ≡ level
equals-even strict = refl
equals-even (conditional n) = refl
equals-even anywhere = refl

new-least : (s : Stands) (h : ℕ) → Rows s h → (w : Freedom) (a : After) → AtLeast h (new_step s w a) (behind_row s)
new-least s h rows w between = step-least s h rows created refl w creation
new-least s h rows w name_there = step-least s h rows created refl w creation
new-least s h rows w greater = step-least s h rows created refl w creation
new-least s h rows w dot = step-least s h rows created refl w creation
new-least s h rows w colons = step-least s h rows (one_of (word token.new ∷ [])) refl w between
new-least s h rows w colon_arguments = step-least s h rows (one_of (word token.new ∷ [])) refl w between
new-least s h rows w creation = step-least s h rows created refl w creation
new-least s h rows w test = step-least s h rows created refl w creation
new-least s h rows w test_name = step-least s h rows created refl w creation
new-least s h rows w test_arguments = step-least s h rows created refl w creation
new-least s h rows w test_end = step-least s h rows created refl w creation

pub told-least : (s : Stands) (h : ℕ) → Rows s h → (sorts : List ℕ) → terminal_effect sorts ≡ level → (w : Freedom) (a : After) → AtLeast h (told_steps s sorts w a) (behind_row s)
unfolding told_steps
told-least s h rows sorts even w a =
    in-either (step-least s h rows (one_of sorts) even w name_there)
    (in-either (step-least s h rows (one_of plain_sorts) plain-even w between)
    (in-either (step-least s h rows (bracketed (operator token.open_parenthesis ∷ [])) refl w between)
    (in-either (new-least s h rows w a)
    (in-either (step-least s h rows tested refl w test)
    (in-either (step-least s h rows (one_of (operator token.greater_than ∷ [])) refl w greater)
    (in-either (step-least s h rows (one_of (operator token.question ∷ [])) refl (in_condition w) between)
    (in-either (step-least s h rows (one_of (operator token.colon ∷ [])) refl (behind_condition w) between)
    (step-least s h rows (one_of (operator token.arrow ∷ [])) refl (in_lambda w) between))))))))

pub less-least : (s : Stands) (h : ℕ) → Rows s h → (w : Freedom) (a : After) → AtLeast h (less_form s w a) (behind_row s)
unfolding two_readings
less-least s h rows w between = step-least s h rows (one_of (less_sorts between)) refl w between
less-least s h rows w name_there = in-attempt (step-least s h rows type_reference refl w colons) (step-least s h rows (one_of (operator token.less_than ∷ [])) refl w between)
less-least s h rows w greater = step-least s h rows (one_of (less_sorts greater)) refl w between
less-least s h rows w dot = step-least s h rows arguments refl w between
less-least s h rows w colons = step-least s h rows arguments refl w colon_arguments
less-least s h rows w colon_arguments = step-least s h rows (one_of (less_sorts colon_arguments)) refl w between
less-least s h rows w creation = step-least s h rows (one_of (less_sorts creation)) refl w between
less-least s h rows w test = step-least s h rows (one_of (less_sorts test)) refl w between
less-least s h rows w test_name = step-least s h rows arguments refl w test_arguments
less-least s h rows w test_arguments = step-least s h rows (one_of (less_sorts test_arguments)) refl w between
less-least s h rows w test_end = step-least s h rows (one_of (less_sorts test_end)) refl w between

pub plain-dots-least : (s : Stands) (h : ℕ) → Rows s h → (w : Freedom) → AtLeast h (plain_dots s w) (behind_row s)
unfolding plain_dots
plain-dots-least s h rows w = in-either (step-least s h rows (one_of (operator token.dot ∷ [])) refl w dot) (step-least s h rows (one_of (operator token.double_colon ∷ [])) refl w colons)

greater-dots-least : (s : Stands) (h : ℕ) → Rows s h → (w : Freedom) → AtLeast h (greater_dots s w) (behind_row s)
greater-dots-least assigned h rows w = plain-dots-least assigned h rows w
greater-dots-least alone h rows w = step-least alone h rows (one_of []) refl w between
greater-dots-least paired h rows w = step-least paired h rows (one_of []) refl w between
greater-dots-least listed h rows w = step-least listed h rows (one_of []) refl w between
greater-dots-least defaulted h rows w = step-least defaulted h rows (one_of []) refl w between

test-dots-least : (s : Stands) (h : ℕ) → Rows s h → (w : Freedom) → AtLeast h (dot_form s w test_name) (behind_row s)
test-dots-least s h rows w = in-either (step-least s h rows tested_name refl w test_name) (step-least s h rows (one_of (operator token.double_colon ∷ [])) refl w colons)

dot-least : (s : Stands) (h : ℕ) → Rows s h → (w : Freedom) (a : After) → AtLeast h (dot_form s w a) (behind_row s)
dot-least s h rows w between = plain-dots-least s h rows w
dot-least s h rows w name_there = plain-dots-least s h rows w
dot-least s h rows w greater = greater-dots-least s h rows w
dot-least s h rows w dot = plain-dots-least s h rows w
dot-least s h rows w colons = plain-dots-least s h rows w
dot-least s h rows w colon_arguments = plain-dots-least s h rows w
dot-least s h rows w creation = step-least s h rows (one_of []) refl w between
dot-least s h rows w test = plain-dots-least s h rows w
dot-least s h rows w test_name = test-dots-least s h rows w
dot-least s h rows w test_arguments = test-dots-least s h rows w
dot-least s h rows w test_end = plain-dots-least s h rows w

plain-squares-least : (s : Stands) (h : ℕ) → Rows s h → (w : Freedom) → AtLeast h (plain_squares s w) (behind_row s)
unfolding plain_squares
plain-squares-least s h rows w = in-either (step-least s h rows (bracketed (operator token.open_bracket ∷ [])) refl w between) (step-least s h rows (one_of ats) refl w between)

greater-squares-least : (s : Stands) (h : ℕ) → Rows s h → (w : Freedom) → AtLeast h (greater_squares s w) (behind_row s)
greater-squares-least assigned h rows w = plain-squares-least assigned h rows w
greater-squares-least alone h rows w = step-least alone h rows annotated refl w name_there
greater-squares-least paired h rows w = step-least paired h rows annotated refl w name_there
greater-squares-least listed h rows w = step-least listed h rows annotated refl w name_there
greater-squares-least defaulted h rows w = step-least defaulted h rows annotated refl w name_there

square-least : (s : Stands) (h : ℕ) → Rows s h → (w : Freedom) (a : After) → AtLeast h (square_form s w a) (behind_row s)
square-least s h rows w between = plain-squares-least s h rows w
square-least s h rows w name_there = plain-squares-least s h rows w
square-least s h rows w greater = greater-squares-least s h rows w
square-least s h rows w dot = plain-squares-least s h rows w
square-least s h rows w colons = plain-squares-least s h rows w
square-least s h rows w colon_arguments = plain-squares-least s h rows w
square-least s h rows w creation = plain-squares-least s h rows w
square-least s h rows w test = plain-squares-least s h rows w
square-least s h rows w test_name = step-least s h rows tested_dim refl w test_end
square-least s h rows w test_arguments = step-least s h rows tested_dim refl w test_end
square-least s h rows w test_end = step-least s h rows tested_dim refl w test_end

pub signs-least : (s : Stands) (h : ℕ) → Rows s h → (w : Freedom) (a : After) → AtLeast h (signs_form s w a) (behind_row s)
unfolding signs_form
signs-least s h rows w a = in-either (less-least s h rows w a) (in-either (dot-least s h rows w a) (square-least s h rows w a))

pub other-least : (s : Stands) (h : ℕ) → Rows s h → (w : Freedom) → AtLeast h (other_steps s w) (behind_row s)
unfolding other_steps
other-least s h rows w = in-either (step-least s h rows (bracketed (operator token.open_brace ∷ [])) refl w between) (step-least s h rows (one_of (equals w)) (equals-even w) w between)

ends-least : (s : Stands) (h : ℕ) → Rows s h → AtLeast h (turn no_symbols (nest (value_end s))) (behind_row s)
ends-least s h rows = in-turn no_symbols (behind_row s) rows.end (λ v. omega arith)

going-least : (s : Stands) (h : ℕ) → Rows s h → (w : Freedom) (a : After)
    → AtLeast h (either (told_steps s names w a) (either (signs_form s w a) (either (other_steps s w) (turn no_symbols (nest (value_end s)))))) (behind_row s)
going-least s h rows w a = in-either (told-least s h rows names refl w a) (in-either (signs-least s h rows w a) (in-either (other-least s h rows w) (ends-least s h rows)))

pub any-least : (s : Stands) (h : ℕ) → Rows s h → (w : Freedom) (a : After) → AtLeast h (rest_form s w a) (behind_row s)
any-least s h rows w test = in-either (step-least s h rows (one_of names) refl w test_name) (step-least s h rows (one_of primitive_sorts) refl w test_end)
any-least s h rows w between = going-least s h rows w between
any-least s h rows w name_there = going-least s h rows w name_there
any-least s h rows w greater = going-least s h rows w greater
any-least s h rows w dot = going-least s h rows w dot
any-least s h rows w colons = going-least s h rows w colons
any-least s h rows w colon_arguments = going-least s h rows w colon_arguments
any-least s h rows w creation = going-least s h rows w creation
any-least s h rows w test_name = going-least s h rows w test_name
any-least s h rows w test_arguments = going-least s h rows w test_arguments
any-least s h rows w test_end = going-least s h rows w test_end
