-- What the next symbol chooses is what the form of an expression reads there.
use Rattle.std.specs.Prelude.{◌||◌, ◌==◌, ◌-◌}
use Rattle.std.proofs.Common.{◌≡◌, ℕ, zero, suc, arith, Bool, true, false, cond, Option, Some, None, List, [], ◌∷◌, refl, sym, ap, subst, ◌∙◌}
use Rattle.decl_turns.specs.declared.states.Place.{Place}
use Rattle.decl_turns.specs.declared.states.Place.TheVariants as place
use Rattle.decl_turns.specs.declared.states.Leave.{Leave}
use Rattle.decl_turns.specs.declared.states.Before.{Before}
use Rattle.decl_turns.specs.declared.states.Before.TheVariants as before
use Rattle.decl_turns.specs.declared.states.Piece.{Piece}
use Rattle.decl_turns.specs.declared.states.Piece.TheVariants as piece
use Rattle.decl_turns.specs.declared.states.Turn.{Turn}
use Rattle.decl_turns.specs.declared.states.Turn.TheVariants as turning
use Rattle.decl_turns.specs.declared.states.Next.{Next}
use Rattle.decl_turns.specs.declared.states.Next.TheVariants as next
use Rattle.decl_grammar.specs.declared.symbol.Symbol.{Symbol}
use Rattle.decl_grammar.specs.Symbols.{operator, word}
use Rattle.decl_grammar.specs.TokenNames as token
use Rattle.decl_grammar.specs.Reading.{has, starts, Outcome, done, fault, deep, ◌>>=◌, one_at, read_of}
use Rattle.decl_grammar.specs.Form.{Stands, Freedom, After, Part, Rest, Form, is_value, first, first_of_part, names, ats, plain_sorts, primitive_sorts, equals, first_names, alone, paired, listed, defaulted, assigned, strict, anywhere, between, name_there, greater, dot, colons, test, test_name, test_end, one_of, bracketed, arguments, annotated, tested, tested_name, tested_dim, expression_part, expression_rest, value_end, turn, either, nest}
use Rattle.decl_grammar.specs.Types.{as_written}
use Rattle.decl_grammar.specs.Expressions.{part_symbols, symbols_of_part, with_symbols, step, told_steps, new_step, two_readings, less_form, plain_dots, plain_squares, greater_dots, greater_squares, dot_form, square_form, signs_form, other_steps, rest_form, value_squares, no_symbols, expression, in_condition, behind_condition, in_lambda}
use Rattle.decl_grammar.specs.Rule.{enter_if, read_nest, reads}
use Rattle.decl_grammar.proofs.OneToken.{has-append}
use Rattle.decl_grammar.proofs.Fuel.{nest-is}
use Rattle.decl_grammar.proofs.Complete.{word-again}
use Rattle.decl_grammar.proofs.Nests.{free-is}
use Rattle.decl_turns.specs.States.{stands_of, freedom_of, after_of, part_at, freedom_after, form_next, IsFree, rest_read, expression_read, leave_first}
use Rattle.decl_turns.specs.Turns.{some_if, or_else, or_next, only_if, one_then, then_part, new_next, sign_next, word_next, told_next, less_there, plain_dots_next, tested_dots_next, dots_next, plain_squares_next, tested_squares_next, annotated_next, squares_next, signs_next, braces_next, test_next, plain_next, later_next, next_at, value_signs_next, value_first, assigned_first, first_at, valued_at}

-- ---- parts of one symbol

pub same-sort : (n : ℕ) → (n == n) ≡ true
same-sort n = grind arith

abbrev step_read : (s : Stands) → Freedom → After → ℕ → List Symbol → Outcome (Unit {0}) → Outcome (Rest s)
step_read s w a room ts o =
    ((((o >>= λ x rest. done (as_written (read_of ts rest), x) rest) >>= λ x rest. done (symbols_of_part x) rest) >>= λ x rest. read_nest room (expression_rest s w a) rest >>= λ y after. done (x, y) after) >>= λ x rest. done (with_symbols x) rest)

step-is : (s : Stands) (p : Part) (w : Freedom) (a : After) (room : ℕ) (ts : List Symbol) → reads room (step s p w a) ts ≡ step_read s w a room ts (read_nest room (expression_part s p) ts)
unfolding step part_symbols
step-is s p w a room ts = refl

step-first : (s : Stands) (p : Part) (w : Freedom) (a : After) → first (step s p w a) ≡ first_of_part p
unfolding step part_symbols
step-first s p w a = refl

step-has : (s : Stands) (p : Part) (w : Freedom) (a : After) (n : ℕ) (c : Bool) → has (first_of_part p) n ≡ c → has (first (step s p w a)) n ≡ c
step-has s p w a n c e = ap (λ (ks : List ℕ). has ks n) (step-first s p w a) ∙ e

one-there : (ks ls : List ℕ) (t : Symbol) (ts : List Symbol) → has ks t.sort ≡ true → has ls t.sort ≡ true → one_at ks (t ∷ ts) ≡ one_at ls (t ∷ ts)
one-there ks ls t ts e d = word-again ks t ts e ∙ sym (word-again ls t ts d)

pub part-alike : (s : Stands) (ks ls : List ℕ) (room : ℕ) (t : Symbol) (ts : List Symbol) → has ks t.sort ≡ true → has ls t.sort ≡ true
    → read_nest room (expression_part s (one_of ks)) (t ∷ ts) ≡ read_nest room (expression_part s (one_of ls)) (t ∷ ts)
part-alike s ks ls room t ts e d =
    nest-is room (expression_part s (one_of ks)) (t ∷ ts) ∙ go (is_value s) room ∙ sym (nest-is room (expression_part s (one_of ls)) (t ∷ ts))
  where
    go : (c : Bool) (room : ℕ) → enter_if (expression_part s (one_of ks)) c read_nest room (t ∷ ts) ≡ enter_if (expression_part s (one_of ls)) c read_nest room (t ∷ ts)
    go true zero = ap (λ (c : Bool). cond c (deep (t ∷ ts)) (fault (t ∷ ts))) (e ∙ sym d)
    go true (suc room) = ap (λ (o : Outcome Symbol). o >>= λ x rest. done tt rest) (one-there ks ls t ts e d)
    go false room = ap (λ (o : Outcome Symbol). o >>= λ x rest. done tt rest) (one-there ks ls t ts e d)

-- where no such symbol comes the part fails at once
pub one-missing : (ks : List ℕ) (ts : List Symbol) → starts ks ts ≡ false → one_at ks ts ≡ fault ts
unfolding one_at
one-missing ks [] e = refl
one-missing ks (t ∷ ts) e = rw e refl

part-missing : (s : Stands) (ks : List ℕ) (room : ℕ) (ts : List Symbol) → starts ks ts ≡ false → read_nest room (expression_part s (one_of ks)) ts ≡ fault ts
part-missing s ks room ts e = nest-is room (expression_part s (one_of ks)) ts ∙ go (is_value s) room
  where
    go : (c : Bool) (room : ℕ) → enter_if (expression_part s (one_of ks)) c read_nest room ts ≡ fault ts
    go true zero = ap (λ (c : Bool). cond c (deep ts) (fault ts)) e
    go true (suc room) = ap (λ (o : Outcome Symbol). o >>= λ x rest. done tt rest) (one-missing ks ts e)
    go false room = ap (λ (o : Outcome Symbol). o >>= λ x rest. done tt rest) (one-missing ks ts e)

bracket-missing : (s : Stands) (ks : List ℕ) (room : ℕ) (ts : List Symbol) → starts ks ts ≡ false → read_nest room (expression_part s (bracketed ks)) ts ≡ fault ts
bracket-missing s ks room ts e = nest-is room (expression_part s (bracketed ks)) ts ∙ go (is_value s) room
  where
    go : (c : Bool) (room : ℕ) → enter_if (expression_part s (bracketed ks)) c read_nest room ts ≡ fault ts
    go true zero = ap (λ (c : Bool). cond c (deep ts) (fault ts)) e
    go true (suc room) = rw (one-missing ks ts e) refl
    go false room = rw (one-missing ks ts e) refl

pub unfit : (s : Stands) (ks : List ℕ) (w : Freedom) (a : After) (room : ℕ) (ts : List Symbol) → starts ks ts ≡ false → reads room (step s (one_of ks) w a) ts ≡ fault ts
unfit s ks w a room ts e = step-is s (one_of ks) w a room ts ∙ ap (step_read s w a room ts) (part-missing s ks room ts e)

unfit-bracket : (s : Stands) (ks : List ℕ) (w : Freedom) (a : After) (room : ℕ) (ts : List Symbol) → starts ks ts ≡ false → reads room (step s (bracketed ks) w a) ts ≡ fault ts
unfit-bracket s ks w a room ts e = step-is s (bracketed ks) w a room ts ∙ ap (step_read s w a room ts) (bracket-missing s ks room ts e)

-- ---- alternatives

-- what is chosen of a form's alternatives: none, where none begins here, or one, which is then what is read
abbrev Picks : ℕ → (s : Stands) → Freedom → Form (Rest s) → Option Next → Symbol → List Symbol → Type 0
Picks room s w f None t ts = has (first f) t.sort ≡ false
Picks room s w f (Some nx) t ts = (has (first f) t.sort ≡ true) × (reads room f (t ∷ ts) ≡ reads room (form_next s w nx (t ∷ ts)) (t ∷ ts))

abbrev Picked : ℕ → (s : Stands) → Freedom → Form (Rest s) → Next → List Symbol → Type 0
Picked room s w f nx ts = reads room f ts ≡ reads room (form_next s w nx ts) ts

either-is : (room : ℕ) (s : Stands) (f g : Form (Rest s)) (t : Symbol) (ts : List Symbol) (c : Bool) → has (first f) t.sort ≡ c → reads room (either f g) (t ∷ ts) ≡ cond c (reads room f (t ∷ ts)) (reads room g (t ∷ ts))
either-is room s f g t ts c e = ap (λ (b : Bool). cond b (reads room f (t ∷ ts)) (reads room g (t ∷ ts))) e

either-has : (s : Stands) (f g : Form (Rest s)) (n : ℕ) (c : Bool) → has (first f) n ≡ c → has (first (either f g)) n ≡ (c || has (first g) n)
either-has s f g n c e = has-append (first f) (first g) n ∙ ap (λ (b : Bool). b || has (first g) n) e

or-picks : (room : ℕ) (s : Stands) (w : Freedom) (f g : Form (Rest s)) (o p : Option Next) (t : Symbol) (ts : List Symbol) → Picks room s w f o t ts → Picks room s w g p t ts → Picks room s w (either f g) (or_else o p) t ts
or-picks room s w f g None None t ts e d = either-has s f g t.sort false e ∙ d
or-picks room s w f g None (Some nx) t ts e d = (either-has s f g t.sort false e ∙ d.0, either-is room s f g t ts false e ∙ d.1)
or-picks room s w f g (Some nx) p t ts e d = (either-has s f g t.sort true e.0, either-is room s f g t ts true e.0 ∙ e.1)

next-picked : (room : ℕ) (s : Stands) (w : Freedom) (f g : Form (Rest s)) (o : Option Next) (nx : Next) (t : Symbol) (ts : List Symbol) → Picks room s w f o t ts → Picked room s w g nx (t ∷ ts) → Picked room s w (either f g) (or_next o nx) (t ∷ ts)
next-picked room s w f g None nx t ts e d = either-is room s f g t ts false e ∙ d
next-picked room s w f g (Some y) nx t ts e d = either-is room s f g t ts true e.0 ∙ e.1

-- the last alternative, which fails where it does not begin
last-picked : (room : ℕ) (s : Stands) (w : Freedom) (f : Form (Rest s)) (o : Option Next) (t : Symbol) (ts : List Symbol) → Picks room s w f o t ts → (has (first f) t.sort ≡ false → reads room f (t ∷ ts) ≡ fault (t ∷ ts)) → Picked room s w f (or_next o next.Nothing) (t ∷ ts)
last-picked room s w f None t ts e h = h e ∙ sym (unfit s [] w between room (t ∷ ts) refl)
last-picked room s w f (Some y) t ts e h = e.1

or-moves : (o p : Option Next) (nx : Next) → or_next (or_else o p) nx ≡ or_next o (or_next p nx)
or-moves None p nx = refl
or-moves (Some y) p nx = refl

pick-part : (room : ℕ) (s : Stands) (w : Freedom) (pc : Piece) (v : Turn) (b : Before) (t : Symbol) (ts : List Symbol) (c : Bool) → has (first_of_part (part_at pc (t ∷ ts))) t.sort ≡ c
    → Picks room s w (step s (part_at pc (t ∷ ts)) (freedom_after v w) (after_of b)) (some_if c (next.Part pc v b)) t ts
pick-part room s w pc v b t ts true e = (step-has s (part_at pc (t ∷ ts)) (freedom_after v w) (after_of b) t.sort true e, refl)
pick-part room s w pc v b t ts false e = step-has s (part_at pc (t ∷ ts)) (freedom_after v w) (after_of b) t.sort false e

pick-one : (room : ℕ) (s : Stands) (w : Freedom) (ks : List ℕ) (v : Turn) (b : Before) (t : Symbol) (ts : List Symbol) (c : Bool) → has ks t.sort ≡ c
    → Picks room s w (step s (one_of ks) (freedom_after v w) (after_of b)) (some_if c (next.Part piece.One v b)) t ts
pick-one room s w ks v b t ts true e = (
  step-has s (one_of ks) (freedom_after v w) (after_of b) t.sort true e,
  step-is s (one_of ks) (freedom_after v w) (after_of b) room (t ∷ ts)
      ∙ (ap (step_read s (freedom_after v w) (after_of b) room (t ∷ ts)) (part-alike s ks (t.sort ∷ []) room t ts e (same-sort t.sort))
      ∙ sym (step-is s (one_of (t.sort ∷ [])) (freedom_after v w) (after_of b) room (t ∷ ts))),
)
pick-one room s w ks v b t ts false e = step-has s (one_of ks) (freedom_after v w) (after_of b) t.sort false e

-- nothing of this kind
pick-none : (room : ℕ) (s : Stands) (w v : Freedom) (a : After) (t : Symbol) (ts : List Symbol) → Picks room s w (step s (one_of []) v a) None t ts
pick-none room s w v a t ts = step-has s (one_of []) v a t.sort false refl

only-some : (room : ℕ) (s : Stands) (w : Freedom) (f : Form (Rest s)) (c : Bool) (x : Next) (t : Symbol) (ts : List Symbol) → Picks room s w f (some_if c x) t ts → Picks room s w f (only_if c (Some x)) t ts
only-some room s w f true x t ts e = e
only-some room s w f false x t ts e = e

only-none : (room : ℕ) (s : Stands) (w : Freedom) (f : Form (Rest s)) (c : Bool) (t : Symbol) (ts : List Symbol) → Picks room s w f None t ts → Picks room s w f (only_if c None) t ts
only-none room s w f true t ts e = e
only-none room s w f false t ts e = e

-- ---- the alternatives of the grammar

abbrev the_greater : ℕ → Option Next
the_greater n = some_if (n == 74) (one_then before.Greater)

abbrev the_question : ℕ → Option Next
the_question n = some_if (n == 78) (next.Part piece.One turning.Condition before.Between)

abbrev the_colon : ℕ → Option Next
the_colon n = some_if (n == 79) (next.Part piece.One turning.Colon before.Between)

abbrev the_arrow : ℕ → Option Next
the_arrow n = some_if (n == 80) (next.Part piece.One turning.Lambda before.Between)

abbrev the_test : ℕ → Option Next
the_test n = some_if (n == 35) (then_part piece.Tested before.Test)

abbrev the_new : Before → ℕ → Option Next
the_new b n = some_if (n == 40) (new_next b)

abbrev the_round : ℕ → Option Next
the_round n = some_if (n == 61) (then_part piece.Round before.Between)

abbrev the_plain : ℕ → Option Next
the_plain n = some_if (has plain_sorts n) (one_then before.Between)

abbrev the_name : List ℕ → ℕ → Option Next
the_name sorts n = some_if (has sorts n) (one_then before.Name)

abbrev arrow_form : (s : Stands) → Freedom → Form (Rest s)
arrow_form s w = step s (one_of (operator token.arrow ∷ [])) (in_lambda w) between

abbrev colon_tail : (s : Stands) → Freedom → Form (Rest s)
colon_tail s w = either (step s (one_of (operator token.colon ∷ [])) (behind_condition w) between) (arrow_form s w)

abbrev question_tail : (s : Stands) → Freedom → Form (Rest s)
question_tail s w = either (step s (one_of (operator token.question ∷ [])) (in_condition w) between) (colon_tail s w)

abbrev greater_tail : (s : Stands) → Freedom → Form (Rest s)
greater_tail s w = either (step s (one_of (operator token.greater_than ∷ [])) w greater) (question_tail s w)

abbrev test_tail : (s : Stands) → Freedom → Form (Rest s)
test_tail s w = either (step s tested w test) (greater_tail s w)

abbrev new_tail : (s : Stands) → Freedom → After → Form (Rest s)
new_tail s w a = either (new_step s w a) (test_tail s w)

abbrev round_tail : (s : Stands) → Freedom → After → Form (Rest s)
round_tail s w a = either (step s (bracketed (operator token.open_parenthesis ∷ [])) w between) (new_tail s w a)

abbrev plain_tail : (s : Stands) → Freedom → After → Form (Rest s)
plain_tail s w a = either (step s (one_of plain_sorts) w between) (round_tail s w a)

sign-picks : (room : ℕ) (s : Stands) (w : Freedom) (t : Symbol) (ts : List Symbol) → Picks room s w (greater_tail s w) (sign_next t.sort) t ts
sign-picks room s w t ts =
    or-picks room s w (step s (one_of (operator token.greater_than ∷ [])) w greater) (question_tail s w) (the_greater t.sort) (or_else (the_question t.sort) (or_else (the_colon t.sort) (the_arrow t.sort))) t ts
    (pick-one room s w (operator token.greater_than ∷ []) turning.Same before.Greater t ts (t.sort == 74) refl)
    (or-picks room s w (step s (one_of (operator token.question ∷ [])) (in_condition w) between) (colon_tail s w) (the_question t.sort) (or_else (the_colon t.sort) (the_arrow t.sort)) t ts
    (pick-one room s w (operator token.question ∷ []) turning.Condition before.Between t ts (t.sort == 78) refl)
    (or-picks room s w (step s (one_of (operator token.colon ∷ [])) (behind_condition w) between) (arrow_form s w) (the_colon t.sort) (the_arrow t.sort) t ts
    (pick-one room s w (operator token.colon ∷ []) turning.Colon before.Between t ts (t.sort == 79) refl)
    (pick-one room s w (operator token.arrow ∷ []) turning.Lambda before.Between t ts (t.sort == 80) refl)))

new-picks : (room : ℕ) (s : Stands) (w : Freedom) (b : Before) (t : Symbol) (ts : List Symbol) → Picks room s w (new_step s w (after_of b)) (some_if (t.sort == 40) (new_next b)) t ts
new-picks room s w before.Colons t ts = pick-one room s w (word token.new ∷ []) turning.Same before.Between t ts (t.sort == 40) refl
new-picks room s w before.ColonArguments t ts = pick-one room s w (word token.new ∷ []) turning.Same before.Between t ts (t.sort == 40) refl
new-picks room s w before.Between t ts = pick-part room s w piece.Created turning.Same before.Creation t ts (t.sort == 40) refl
new-picks room s w before.Name t ts = pick-part room s w piece.Created turning.Same before.Creation t ts (t.sort == 40) refl
new-picks room s w before.Greater t ts = pick-part room s w piece.Created turning.Same before.Creation t ts (t.sort == 40) refl
new-picks room s w before.Dot t ts = pick-part room s w piece.Created turning.Same before.Creation t ts (t.sort == 40) refl
new-picks room s w before.Creation t ts = pick-part room s w piece.Created turning.Same before.Creation t ts (t.sort == 40) refl
new-picks room s w before.Test t ts = pick-part room s w piece.Created turning.Same before.Creation t ts (t.sort == 40) refl
new-picks room s w before.TestName t ts = pick-part room s w piece.Created turning.Same before.Creation t ts (t.sort == 40) refl
new-picks room s w before.TestArguments t ts = pick-part room s w piece.Created turning.Same before.Creation t ts (t.sort == 40) refl
new-picks room s w before.TestEnd t ts = pick-part room s w piece.Created turning.Same before.Creation t ts (t.sort == 40) refl

told-picks : (room : ℕ) (s : Stands) (w : Freedom) (sorts : List ℕ) (b : Before) (t : Symbol) (ts : List Symbol) → Picks room s w (told_steps s sorts w (after_of b)) (told_next sorts b t.sort) t ts
unfolding told_steps
told-picks room s w sorts b t ts =
    or-picks room s w (step s (one_of sorts) w name_there) (plain_tail s w (after_of b)) (the_name sorts t.sort) (or_else (the_plain t.sort) (word_next b t.sort)) t ts
    (pick-one room s w sorts turning.Same before.Name t ts (has sorts t.sort) refl)
    (or-picks room s w (step s (one_of plain_sorts) w between) (round_tail s w (after_of b)) (the_plain t.sort) (word_next b t.sort) t ts
    (pick-one room s w plain_sorts turning.Same before.Between t ts (has plain_sorts t.sort) refl)
    (or-picks room s w (step s (bracketed (operator token.open_parenthesis ∷ [])) w between) (new_tail s w (after_of b)) (the_round t.sort) (or_else (the_new b t.sort) (or_else (the_test t.sort) (sign_next t.sort))) t ts
    (pick-part room s w piece.Round turning.Same before.Between t ts (t.sort == 61) refl)
    (or-picks room s w (new_step s w (after_of b)) (test_tail s w) (the_new b t.sort) (or_else (the_test t.sort) (sign_next t.sort)) t ts
    (new-picks room s w b t ts)
    (or-picks room s w (step s tested w test) (greater_tail s w) (the_test t.sort) (sign_next t.sort) t ts
    (pick-part room s w piece.Tested turning.Same before.Test t ts (t.sort == 35) refl)
    (sign-picks room s w t ts)))))

two-has : (s : Stands) (w : Freedom) (n : ℕ) (c : Bool) → (n == 75) ≡ c → has (first (two_readings s w)) n ≡ c
unfolding two_readings step part_symbols
two-has s w n true e = rw e refl
two-has s w n false e = rw e refl

two-picks : (room : ℕ) (s : Stands) (w : Freedom) (t : Symbol) (ts : List Symbol) (c : Bool) → (t.sort == 75) ≡ c → Picks room s w (two_readings s w) (only_if c (Some next.Two)) t ts
two-picks room s w t ts true e = (two-has s w t.sort true e, refl)
two-picks room s w t ts false e = two-has s w t.sort false e

less-one : (room : ℕ) (s : Stands) (w : Freedom) (t : Symbol) (ts : List Symbol) → Picks room s w (step s (one_of (operator token.less_than ∷ [])) w between) (only_if (t.sort == 75) (Some (one_then before.Between))) t ts
less-one room s w t ts = only-some room s w (step s (one_of (operator token.less_than ∷ [])) w between) (t.sort == 75) (one_then before.Between) t ts (pick-one room s w (operator token.less_than ∷ []) turning.Same before.Between t ts (t.sort == 75) refl)

less-arguments : (room : ℕ) (s : Stands) (w : Freedom) (b : Before) (t : Symbol) (ts : List Symbol) → Picks room s w (step s arguments w (after_of b)) (only_if (t.sort == 75) (Some (next.Part piece.Arguments turning.Same b))) t ts
less-arguments room s w b t ts = only-some room s w (step s arguments w (after_of b)) (t.sort == 75) (next.Part piece.Arguments turning.Same b) t ts (pick-part room s w piece.Arguments turning.Same b t ts (t.sort == 75) refl)

less-none : (room : ℕ) (s : Stands) (w : Freedom) (t : Symbol) (ts : List Symbol) → Picks room s w (step s (one_of []) w between) (only_if (t.sort == 75) None) t ts
less-none room s w t ts = only-none room s w (step s (one_of []) w between) (t.sort == 75) t ts (pick-none room s w w between t ts)

less-picks : (room : ℕ) (s : Stands) (w : Freedom) (b : Before) (t : Symbol) (ts : List Symbol) → Picks room s w (less_form s w (after_of b)) (only_if (t.sort == 75) (less_there b)) t ts
less-picks room s w before.Name t ts = two-picks room s w t ts (t.sort == 75) refl
less-picks room s w before.Dot t ts = less-arguments room s w before.Between t ts
less-picks room s w before.Colons t ts = less-arguments room s w before.ColonArguments t ts
less-picks room s w before.TestName t ts = less-arguments room s w before.TestArguments t ts
less-picks room s w before.ColonArguments t ts = less-none room s w t ts
less-picks room s w before.Creation t ts = less-none room s w t ts
less-picks room s w before.Between t ts = less-one room s w t ts
less-picks room s w before.Greater t ts = less-one room s w t ts
less-picks room s w before.Test t ts = less-one room s w t ts
less-picks room s w before.TestArguments t ts = less-one room s w t ts
less-picks room s w before.TestEnd t ts = less-one room s w t ts

plain-dots-picks : (room : ℕ) (s : Stands) (w : Freedom) (t : Symbol) (ts : List Symbol) → Picks room s w (plain_dots s w) (plain_dots_next t.sort) t ts
unfolding plain_dots
plain-dots-picks room s w t ts =
    or-picks room s w (step s (one_of (operator token.dot ∷ [])) w dot) (step s (one_of (operator token.double_colon ∷ [])) w colons) (some_if (t.sort == 69) (one_then before.Dot)) (some_if (t.sort == 72) (one_then before.Colons)) t ts
    (pick-one room s w (operator token.dot ∷ []) turning.Same before.Dot t ts (t.sort == 69) refl) (pick-one room s w (operator token.double_colon ∷ []) turning.Same before.Colons t ts (t.sort == 72) refl)

tested-dots-picks : (room : ℕ) (s : Stands) (w : Freedom) (t : Symbol) (ts : List Symbol) → Picks room s w (either (step s tested_name w test_name) (step s (one_of (operator token.double_colon ∷ [])) w colons)) (tested_dots_next t.sort) t ts
tested-dots-picks room s w t ts =
    or-picks room s w (step s tested_name w test_name) (step s (one_of (operator token.double_colon ∷ [])) w colons) (some_if (t.sort == 69) (then_part piece.TestedName before.TestName)) (some_if (t.sort == 72) (one_then before.Colons)) t ts
    (pick-part room s w piece.TestedName turning.Same before.TestName t ts (t.sort == 69) refl) (pick-one room s w (operator token.double_colon ∷ []) turning.Same before.Colons t ts (t.sort == 72) refl)

greater-dots-picks : (room : ℕ) (s : Stands) (w : Freedom) (t : Symbol) (ts : List Symbol) → Picks room s w (greater_dots s w) (dots_next (is_value s) before.Greater t.sort) t ts
greater-dots-picks room assigned w t ts = plain-dots-picks room assigned w t ts
greater-dots-picks room alone w t ts = pick-none room alone w w between t ts
greater-dots-picks room paired w t ts = pick-none room paired w w between t ts
greater-dots-picks room listed w t ts = pick-none room listed w w between t ts
greater-dots-picks room defaulted w t ts = pick-none room defaulted w w between t ts

dots-picks : (room : ℕ) (s : Stands) (w : Freedom) (b : Before) (t : Symbol) (ts : List Symbol) → Picks room s w (dot_form s w (after_of b)) (dots_next (is_value s) b t.sort) t ts
dots-picks room s w before.TestName t ts = tested-dots-picks room s w t ts
dots-picks room s w before.TestArguments t ts = tested-dots-picks room s w t ts
dots-picks room s w before.Creation t ts = pick-none room s w w between t ts
dots-picks room s w before.Greater t ts = greater-dots-picks room s w t ts
dots-picks room s w before.Between t ts = plain-dots-picks room s w t ts
dots-picks room s w before.Name t ts = plain-dots-picks room s w t ts
dots-picks room s w before.Dot t ts = plain-dots-picks room s w t ts
dots-picks room s w before.Colons t ts = plain-dots-picks room s w t ts
dots-picks room s w before.ColonArguments t ts = plain-dots-picks room s w t ts
dots-picks room s w before.Test t ts = plain-dots-picks room s w t ts
dots-picks room s w before.TestEnd t ts = plain-dots-picks room s w t ts

plain-squares-picks : (room : ℕ) (s : Stands) (w : Freedom) (t : Symbol) (ts : List Symbol) → Picks room s w (plain_squares s w) (plain_squares_next t.sort) t ts
unfolding plain_squares
plain-squares-picks room s w t ts =
    or-picks room s w (step s (bracketed (operator token.open_bracket ∷ [])) w between) (step s (one_of ats) w between) (some_if (t.sort == 65) (then_part piece.Square before.Between)) (some_if (has ats t.sort) (one_then before.Between)) t ts
    (pick-part room s w piece.Square turning.Same before.Between t ts (t.sort == 65) refl) (pick-one room s w ats turning.Same before.Between t ts (has ats t.sort) refl)

tested-squares-picks : (room : ℕ) (s : Stands) (w : Freedom) (t : Symbol) (ts : List Symbol) → Picks room s w (step s tested_dim w test_end) (tested_squares_next t.sort) t ts
tested-squares-picks room s w t ts = pick-part room s w piece.TestedDim turning.Same before.TestEnd t ts (has (65 ∷ ats) t.sort) refl

annotated-picks : (room : ℕ) (s : Stands) (w : Freedom) (t : Symbol) (ts : List Symbol) → Picks room s w (step s annotated w name_there) (annotated_next t.sort) t ts
annotated-picks room s w t ts = pick-part room s w piece.Annotated turning.Same before.Name t ts (has ats t.sort) refl

greater-squares-picks : (room : ℕ) (s : Stands) (w : Freedom) (t : Symbol) (ts : List Symbol) → Picks room s w (greater_squares s w) (squares_next (is_value s) before.Greater t.sort) t ts
greater-squares-picks room assigned w t ts = plain-squares-picks room assigned w t ts
greater-squares-picks room alone w t ts = annotated-picks room alone w t ts
greater-squares-picks room paired w t ts = annotated-picks room paired w t ts
greater-squares-picks room listed w t ts = annotated-picks room listed w t ts
greater-squares-picks room defaulted w t ts = annotated-picks room defaulted w t ts

squares-picks : (room : ℕ) (s : Stands) (w : Freedom) (b : Before) (t : Symbol) (ts : List Symbol) → Picks room s w (square_form s w (after_of b)) (squares_next (is_value s) b t.sort) t ts
squares-picks room s w before.TestName t ts = tested-squares-picks room s w t ts
squares-picks room s w before.TestArguments t ts = tested-squares-picks room s w t ts
squares-picks room s w before.TestEnd t ts = tested-squares-picks room s w t ts
squares-picks room s w before.Greater t ts = greater-squares-picks room s w t ts
squares-picks room s w before.Between t ts = plain-squares-picks room s w t ts
squares-picks room s w before.Name t ts = plain-squares-picks room s w t ts
squares-picks room s w before.Dot t ts = plain-squares-picks room s w t ts
squares-picks room s w before.Colons t ts = plain-squares-picks room s w t ts
squares-picks room s w before.ColonArguments t ts = plain-squares-picks room s w t ts
squares-picks room s w before.Creation t ts = plain-squares-picks room s w t ts
squares-picks room s w before.Test t ts = plain-squares-picks room s w t ts

signs-picks : (room : ℕ) (s : Stands) (w : Freedom) (b : Before) (t : Symbol) (ts : List Symbol) → Picks room s w (signs_form s w (after_of b)) (signs_next (is_value s) b t.sort) t ts
unfolding signs_form
signs-picks room s w b t ts =
    or-picks room s w (less_form s w (after_of b)) (either (dot_form s w (after_of b)) (square_form s w (after_of b))) (only_if (t.sort == 75) (less_there b)) (or_else (dots_next (is_value s) b t.sort) (squares_next (is_value s) b t.sort)) t ts (less-picks room s w b t ts)
    (or-picks room s w (dot_form s w (after_of b)) (square_form s w (after_of b)) (dots_next (is_value s) b t.sort) (squares_next (is_value s) b t.sort) t ts (dots-picks room s w b t ts) (squares-picks room s w b t ts))

braces-picks : (room : ℕ) (s : Stands) (w : Freedom) (t : Symbol) (ts : List Symbol) → Picks room s w (other_steps s w) (braces_next (equals w) t.sort) t ts
unfolding other_steps
braces-picks room s w t ts =
    or-picks room s w (step s (bracketed (operator token.open_brace ∷ [])) w between) (step s (one_of (equals w)) w between) (some_if (t.sort == 63) (then_part piece.Brace before.Between)) (some_if (has (equals w) t.sort) (one_then before.Between)) t ts
    (pick-part room s w piece.Brace turning.Same before.Between t ts (t.sort == 63) refl) (pick-one room s w (equals w) turning.Same before.Between t ts (has (equals w) t.sort) refl)

-- ---- what an expression goes on with

plain-picked : (room : ℕ) (s : Stands) (w : Freedom) (b : Before) (t : Symbol) (ts : List Symbol)
    → Picked room s w (either (told_steps s names w (after_of b)) (either (signs_form s w (after_of b)) (either (other_steps s w) (turn no_symbols (nest (value_end s)))))) (plain_next (is_value s) (equals w) b t.sort) (t ∷ ts)
plain-picked room s w b t ts =
    next-picked room s w (told_steps s names w (after_of b)) (either (signs_form s w (after_of b)) (either (other_steps s w) (turn no_symbols (nest (value_end s))))) (told_next names b t.sort) (or_next (signs_next (is_value s) b t.sort) (or_next (braces_next (equals w) t.sort) next.End)) t ts (told-picks room s w names b t ts)
    (next-picked room s w (signs_form s w (after_of b)) (either (other_steps s w) (turn no_symbols (nest (value_end s)))) (signs_next (is_value s) b t.sort) (or_next (braces_next (equals w) t.sort) next.End) t ts (signs-picks room s w b t ts)
    (next-picked room s w (other_steps s w) (turn no_symbols (nest (value_end s))) (braces_next (equals w) t.sort) next.End t ts (braces-picks room s w t ts) refl))

test-picked : (room : ℕ) (s : Stands) (w : Freedom) (t : Symbol) (ts : List Symbol) → Picked room s w (either (step s (one_of names) w test_name) (step s (one_of primitive_sorts) w test_end)) (test_next t.sort) (t ∷ ts)
test-picked room s w t ts =
    subst (λ (nx : Next). Picked room s w (either (step s (one_of names) w test_name) (step s (one_of primitive_sorts) w test_end)) nx (t ∷ ts))
    (sym (or-moves (some_if (has names t.sort) (one_then before.TestName)) (some_if (has primitive_sorts t.sort) (one_then before.TestEnd)) next.Nothing))
    (next-picked room s w (step s (one_of names) w test_name) (step s (one_of primitive_sorts) w test_end) (some_if (has names t.sort) (one_then before.TestName)) (or_next (some_if (has primitive_sorts t.sort) (one_then before.TestEnd)) next.Nothing) t ts
    (pick-one room s w names turning.Same before.TestName t ts (has names t.sort) refl)
    (last-picked room s w (step s (one_of primitive_sorts) w test_end) (some_if (has primitive_sorts t.sort) (one_then before.TestEnd)) t ts
    (pick-one room s w primitive_sorts turning.Same before.TestEnd t ts (has primitive_sorts t.sort) refl)
    (λ e. unfit s primitive_sorts w test_end room (t ∷ ts) (sym (step-has s (one_of primitive_sorts) w test_end t.sort (has primitive_sorts t.sort) refl) ∙ e))))

later-picked : (room : ℕ) (s : Stands) (w : Freedom) (b : Before) (t : Symbol) (ts : List Symbol) → Picked room s w (rest_form s w (after_of b)) (later_next (is_value s) (equals w) b t.sort) (t ∷ ts)
later-picked room s w before.Test t ts = test-picked room s w t ts
later-picked room s w before.Between t ts = plain-picked room s w before.Between t ts
later-picked room s w before.Name t ts = plain-picked room s w before.Name t ts
later-picked room s w before.Greater t ts = plain-picked room s w before.Greater t ts
later-picked room s w before.Dot t ts = plain-picked room s w before.Dot t ts
later-picked room s w before.Colons t ts = plain-picked room s w before.Colons t ts
later-picked room s w before.ColonArguments t ts = plain-picked room s w before.ColonArguments t ts
later-picked room s w before.Creation t ts = plain-picked room s w before.Creation t ts
later-picked room s w before.TestName t ts = plain-picked room s w before.TestName t ts
later-picked room s w before.TestArguments t ts = plain-picked room s w before.TestArguments t ts
later-picked room s w before.TestEnd t ts = plain-picked room s w before.TestEnd t ts

-- the same where no symbol is left
rest-picked : (room : ℕ) (p : Place) (l : Leave) (b : Before) (ts : List Symbol) → IsFree p l
    → Picked room (stands_of p) (freedom_of l) (rest_form (stands_of p) (freedom_of l) (after_of b)) (next_at p l b ts) ts
rest-picked room p l b (t ∷ ts) free =
    subst (λ (v : Freedom). Picked room (stands_of p) (freedom_of l) (rest_form (stands_of p) (freedom_of l) (after_of b)) (later_next (valued_at p) (equals v) b t.sort) (t ∷ ts)) (sym free) (later-picked room (stands_of p) (freedom_of l) b t ts)
rest-picked room p l before.Test [] free = unfit (stands_of p) primitive_sorts (freedom_of l) test_end room [] refl ∙ sym (unfit (stands_of p) [] (freedom_of l) between room [] refl)
rest-picked room p l before.Between [] free = refl
rest-picked room p l before.Name [] free = refl
rest-picked room p l before.Greater [] free = refl
rest-picked room p l before.Dot [] free = refl
rest-picked room p l before.Colons [] free = refl
rest-picked room p l before.ColonArguments [] free = refl
rest-picked room p l before.Creation [] free = refl
rest-picked room p l before.TestName [] free = refl
rest-picked room p l before.TestArguments [] free = refl
rest-picked room p l before.TestEnd [] free = refl

pub chosen : (room : ℕ) (p : Place) (l : Leave) (b : Before) (ts : List Symbol) (nx : Next) → IsFree p l → next_at p l b ts ≡ nx
    → rest_read room p l b ts ≡ reads room (form_next (stands_of p) (freedom_of l) nx ts) ts
chosen room p l b ts nx free e =
    free-is (expression_rest (stands_of p) (freedom_of l) (after_of b)) refl room ts
    ∙ ap (λ (v : Freedom). reads room (rest_form (stands_of p) v (after_of b)) ts) free
    ∙ rest-picked room p l b ts free
    ∙ ap (λ (x : Next). reads room (form_next (stands_of p) (freedom_of l) x ts) ts) e

-- ---- what an expression begins with

has-step : (s : Stands) (ks : List ℕ) (w : Freedom) (a : After) (n : ℕ) → has (first (step s (one_of ks) w a)) n ≡ false → has ks n ≡ false
has-step s ks w a n e = sym (step-has s (one_of ks) w a n (has ks n) refl) ∙ e

value-picked : (room : ℕ) (s : Stands) (t : Symbol) (ts : List Symbol)
    → Picked room s strict (either (told_steps s (first_names s) strict between) (either (less_form s strict between) (either (plain_dots s strict) (value_squares s)))) (value_first (first_names s) t.sort) (t ∷ ts)
unfolding value_squares
value-picked room s t ts =
    next-picked room s strict (told_steps s (first_names s) strict between) (either (step s (one_of (operator token.less_than ∷ [])) strict between) (either (plain_dots s strict) (step s (bracketed (operator token.open_bracket ∷ [])) strict between))) (told_next (first_names s) before.Between t.sort) (value_signs_next t.sort) t ts
    (told-picks room s strict (first_names s) before.Between t ts)
    (subst (λ (nx : Next). Picked room s strict (either (step s (one_of (operator token.less_than ∷ [])) strict between) (either (plain_dots s strict) (step s (bracketed (operator token.open_bracket ∷ [])) strict between))) nx (t ∷ ts))
    (sym (or-moves (some_if (t.sort == 75) (one_then before.Between)) (or_else (plain_dots_next t.sort) squares) next.Nothing ∙ ap (λ (nx : Next). or_next (some_if (t.sort == 75) (one_then before.Between)) nx) (or-moves (plain_dots_next t.sort) squares next.Nothing)))
    (next-picked room s strict (step s (one_of (operator token.less_than ∷ [])) strict between) (either (plain_dots s strict) (step s (bracketed (operator token.open_bracket ∷ [])) strict between)) (some_if (t.sort == 75) (one_then before.Between)) (or_next (plain_dots_next t.sort) (or_next squares next.Nothing)) t ts
    (pick-one room s strict (operator token.less_than ∷ []) turning.Same before.Between t ts (t.sort == 75) refl)
    (next-picked room s strict (plain_dots s strict) (step s (bracketed (operator token.open_bracket ∷ [])) strict between) (plain_dots_next t.sort) (or_next squares next.Nothing) t ts (plain-dots-picks room s strict t ts)
    (last-picked room s strict (step s (bracketed (operator token.open_bracket ∷ [])) strict between) squares t ts
    (pick-part room s strict piece.Square turning.Same before.Between t ts (t.sort == 65) refl)
    (λ e. unfit-bracket s (operator token.open_bracket ∷ []) strict between room (t ∷ ts) (sym (step-has s (bracketed (operator token.open_bracket ∷ [])) strict between t.sort (t.sort == 65) refl) ∙ e))))))
  where
    squares : Option Next
    squares = some_if (t.sort == 65) (next.Part piece.Square turning.Same before.Between)

assigned-picked : (room : ℕ) (t : Symbol) (ts : List Symbol) → Picked room assigned anywhere (expression assigned) (assigned_first t.sort) (t ∷ ts)
unfolding other_steps
assigned-picked room t ts =
    next-picked room assigned anywhere (told_steps assigned names anywhere between) (either (signs_form assigned anywhere between) (either braced equal)) (told_next names before.Between t.sort) (or_next (signs_next false before.Between t.sort) (or_next (braces_next (73 ∷ []) t.sort) next.Nothing)) t ts (told-picks room assigned anywhere names before.Between t ts)
    (next-picked room assigned anywhere (signs_form assigned anywhere between) (either braced equal) (signs_next false before.Between t.sort) (or_next (braces_next (73 ∷ []) t.sort) next.Nothing) t ts (signs-picks room assigned anywhere before.Between t ts)
    (subst (λ (nx : Next). Picked room assigned anywhere (either braced equal) nx (t ∷ ts))
    (sym (or-moves (some_if (t.sort == 63) (next.Part piece.Brace turning.Same before.Between)) (some_if (t.sort == 73) (one_then before.Between)) next.Nothing))
    (next-picked room assigned anywhere braced equal (some_if (t.sort == 63) (next.Part piece.Brace turning.Same before.Between)) (or_next (some_if (t.sort == 73) (one_then before.Between)) next.Nothing) t ts
    (pick-part room assigned anywhere piece.Brace turning.Same before.Between t ts (t.sort == 63) refl)
    (last-picked room assigned anywhere equal (some_if (t.sort == 73) (one_then before.Between)) t ts
    (pick-one room assigned anywhere (operator token.equals ∷ []) turning.Same before.Between t ts (t.sort == 73) refl)
    (λ e. unfit assigned (operator token.equals ∷ []) anywhere between room (t ∷ ts) (has-step assigned (operator token.equals ∷ []) anywhere between t.sort e))))))
  where
    braced : Form (Rest assigned)
    braced = step assigned (bracketed (operator token.open_brace ∷ [])) anywhere between

    equal : Form (Rest assigned)
    equal = step assigned (one_of (operator token.equals ∷ [])) anywhere between

first-picked : (room : ℕ) (p : Place) (ts : List Symbol) → Picked room (stands_of p) (freedom_of (leave_first p)) (expression (stands_of p)) (first_at p ts) ts
unfolding value_squares other_steps
first-picked room place.Alone (t ∷ ts) = value-picked room alone t ts
first-picked room place.Paired (t ∷ ts) = value-picked room paired t ts
first-picked room place.Listed (t ∷ ts) = value-picked room listed t ts
first-picked room place.Defaulted (t ∷ ts) = value-picked room defaulted t ts
first-picked room place.Assigned (t ∷ ts) = assigned-picked room t ts
first-picked room place.Alone [] = unfit-bracket alone (operator token.open_bracket ∷ []) strict between room [] refl ∙ sym (unfit alone [] strict between room [] refl)
first-picked room place.Paired [] = unfit-bracket paired (operator token.open_bracket ∷ []) strict between room [] refl ∙ sym (unfit paired [] strict between room [] refl)
first-picked room place.Listed [] = unfit-bracket listed (operator token.open_bracket ∷ []) strict between room [] refl ∙ sym (unfit listed [] strict between room [] refl)
first-picked room place.Defaulted [] = unfit-bracket defaulted (operator token.open_bracket ∷ []) strict between room [] refl ∙ sym (unfit defaulted [] strict between room [] refl)
first-picked room place.Assigned [] = unfit assigned (operator token.equals ∷ []) anywhere between room [] refl ∙ sym (unfit assigned [] anywhere between room [] refl)

pub first-chosen : (room : ℕ) (p : Place) (ts : List Symbol) (nx : Next) → first_at p ts ≡ nx → expression_read room p ts ≡ reads room (form_next (stands_of p) (freedom_of (leave_first p)) nx ts) ts
first-chosen room p ts nx e = first-picked room p ts ∙ ap (λ (x : Next). reads room (form_next (stands_of p) (freedom_of (leave_first p)) x ts) ts) e
