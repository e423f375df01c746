-- What stands behind a part of an initialiser doesn't go on with that part.
use Rattle.std.specs.Prelude.{◌==◌}
use Rattle.std.proofs.Common.{◌≡◌, ℕ, Bool, true, false, Option, Some, None, List, [], ◌∷◌, refl, sym, ap, ◌∙◌}
use Rattle.decl_turns.specs.declared.states.Leave.TheVariants as leave
use Rattle.decl_turns.specs.declared.states.Place.TheVariants as place
use Rattle.decl_turns.specs.declared.states.Before.{Before}
use Rattle.decl_turns.specs.declared.states.Before.TheVariants as before
use Rattle.decl_turns.specs.declared.states.Piece.{Piece}
use Rattle.decl_turns.specs.declared.states.Piece.TheVariants as piece
use Rattle.decl_turns.specs.declared.states.Turn.{Turn}
use Rattle.decl_turns.specs.declared.states.Next.{Next}
use Rattle.decl_turns.specs.declared.states.Next.TheVariants as next
use Rattle.decl_grammar.specs.declared.symbol.Symbol.{Symbol}
use Rattle.decl_grammar.specs.Symbols.{numbers}
use Rattle.decl_grammar.specs.Reading.{has}
use Rattle.decl_grammar.specs.Form.{Part, After, names, ats, plain_sorts, primitive_sorts, first_of, expression_rest, assigned, anywhere}
use Rattle.decl_grammar.proofs.OneToken.{disjoint, more_of_part}
use Rattle.decl_turns.specs.States.{after_of, part_at}
use Rattle.decl_turns.specs.Turns.{some_if, or_else, or_next, only_if, one_then, new_next, sign_next, word_next, told_next, less_there, plain_dots_next, tested_dots_next, dots_next, plain_squares_next, tested_squares_next, squares_next, signs_next, braces_next, test_next, plain_next, later_next, next_at}

-- behind what is created, and behind an `instanceof`, stands what the grammar has there
abbrev fits_there : Piece → Before → Bool
fits_there piece.Created before.Creation = true
fits_there piece.Created b = false
fits_there piece.Tested before.Test = true
fits_there piece.Tested b = false
fits_there p b = true

abbrev fits : Next → Bool
fits (next.Part p v b) = fits_there p b
fits next.Two = true
fits next.Nothing = true
fits next.End = true

abbrev AllFit : Option Next → Type 0
AllFit None = Unit {0}
AllFit (Some x) = fits x ≡ true

if-fits : (c : Bool) (x : Next) → fits x ≡ true → AllFit (some_if c x)
if-fits true x e = e
if-fits false x e = tt

else-fits : (o p : Option Next) → AllFit o → AllFit p → AllFit (or_else o p)
else-fits None p e d = d
else-fits (Some x) p e d = e

next-fits : (o : Option Next) (nx : Next) → AllFit o → fits nx ≡ true → fits (or_next o nx) ≡ true
next-fits None nx e d = d
next-fits (Some x) nx e d = e

one-fits : (c : Bool) (x : Next) (p : Option Next) → fits x ≡ true → AllFit p → AllFit (or_else (some_if c x) p)
one-fits true x p e d = e
one-fits false x p e d = d

new-fits : (b : Before) → fits (new_next b) ≡ true
new-fits before.Colons = refl
new-fits before.ColonArguments = refl
new-fits before.Between = refl
new-fits before.Name = refl
new-fits before.Greater = refl
new-fits before.Dot = refl
new-fits before.Creation = refl
new-fits before.Test = refl
new-fits before.TestName = refl
new-fits before.TestArguments = refl
new-fits before.TestEnd = refl

sign-fits : (n : ℕ) → AllFit (sign_next n)
sign-fits n = one-fits (n == 74) _ _ refl (one-fits (n == 78) _ _ refl (one-fits (n == 79) _ _ refl (if-fits (n == 80) _ refl)))

word-fits : (b : Before) (n : ℕ) → AllFit (word_next b n)
word-fits b n = one-fits (n == 61) _ _ refl (one-fits (n == 40) (new_next b) _ (new-fits b) (one-fits (n == 35) _ _ refl (sign-fits n)))

told-fits : (b : Before) (n : ℕ) → AllFit (told_next names b n)
told-fits b n = one-fits (has names n) _ _ refl (one-fits (has plain_sorts n) _ _ refl (word-fits b n))

less-fits : (c : Bool) (b : Before) → AllFit (only_if c (less_there b))
less-fits false b = tt
less-fits true before.Name = refl
less-fits true before.Dot = refl
less-fits true before.Colons = refl
less-fits true before.TestName = refl
less-fits true before.ColonArguments = tt
less-fits true before.Creation = tt
less-fits true before.Between = refl
less-fits true before.Greater = refl
less-fits true before.Test = refl
less-fits true before.TestArguments = refl
less-fits true before.TestEnd = refl

plain-dots-fit : (n : ℕ) → AllFit (plain_dots_next n)
plain-dots-fit n = one-fits (n == 69) _ _ refl (if-fits (n == 72) _ refl)

tested-dots-fit : (n : ℕ) → AllFit (tested_dots_next n)
tested-dots-fit n = one-fits (n == 69) _ _ refl (if-fits (n == 72) _ refl)

dots-fit : (b : Before) (n : ℕ) → AllFit (dots_next false b n)
dots-fit before.TestName n = tested-dots-fit n
dots-fit before.TestArguments n = tested-dots-fit n
dots-fit before.Creation n = tt
dots-fit before.Greater n = plain-dots-fit n
dots-fit before.Between n = plain-dots-fit n
dots-fit before.Name n = plain-dots-fit n
dots-fit before.Dot n = plain-dots-fit n
dots-fit before.Colons n = plain-dots-fit n
dots-fit before.ColonArguments n = plain-dots-fit n
dots-fit before.Test n = plain-dots-fit n
dots-fit before.TestEnd n = plain-dots-fit n

plain-squares-fit : (n : ℕ) → AllFit (plain_squares_next n)
plain-squares-fit n = one-fits (n == 65) _ _ refl (if-fits (has ats n) _ refl)

tested-squares-fit : (n : ℕ) → AllFit (tested_squares_next n)
tested-squares-fit n = if-fits (has (65 ∷ ats) n) _ refl

squares-fit : (b : Before) (n : ℕ) → AllFit (squares_next false b n)
squares-fit before.TestName n = tested-squares-fit n
squares-fit before.TestArguments n = tested-squares-fit n
squares-fit before.TestEnd n = tested-squares-fit n
squares-fit before.Greater n = plain-squares-fit n
squares-fit before.Between n = plain-squares-fit n
squares-fit before.Name n = plain-squares-fit n
squares-fit before.Dot n = plain-squares-fit n
squares-fit before.Colons n = plain-squares-fit n
squares-fit before.ColonArguments n = plain-squares-fit n
squares-fit before.Creation n = plain-squares-fit n
squares-fit before.Test n = plain-squares-fit n

signs-fit : (b : Before) (n : ℕ) → AllFit (signs_next false b n)
signs-fit b n =
    else-fits (only_if (n == 75) (less_there b)) (or_else (dots_next false b n) (squares_next false b n)) (less-fits (n == 75) b)
    (else-fits (dots_next false b n) (squares_next false b n) (dots-fit b n) (squares-fit b n))

braces-fit : (ks : List ℕ) (n : ℕ) → AllFit (braces_next ks n)
braces-fit ks n = one-fits (n == 63) _ _ refl (if-fits (has ks n) _ refl)

plain-fits : (ks : List ℕ) (b : Before) (n : ℕ) → fits (plain_next false ks b n) ≡ true
plain-fits ks b n =
    next-fits (told_next names b n) (or_next (signs_next false b n) (or_next (braces_next ks n) next.End)) (told-fits b n)
    (next-fits (signs_next false b n) (or_next (braces_next ks n) next.End) (signs-fit b n) (next-fits (braces_next ks n) next.End (braces-fit ks n) refl))

test-fits : (n : ℕ) → fits (test_next n) ≡ true
test-fits n = next-fits (or_else (some_if (has names n) (one_then before.TestName)) (some_if (has primitive_sorts n) (one_then before.TestEnd))) next.Nothing (one-fits (has names n) _ _ refl (if-fits (has primitive_sorts n) _ refl)) refl

later-fits : (ks : List ℕ) (b : Before) (n : ℕ) → fits (later_next false ks b n) ≡ true
later-fits ks before.Test n = test-fits n
later-fits ks before.Between n = plain-fits ks before.Between n
later-fits ks before.Name n = plain-fits ks before.Name n
later-fits ks before.Greater n = plain-fits ks before.Greater n
later-fits ks before.Dot n = plain-fits ks before.Dot n
later-fits ks before.Colons n = plain-fits ks before.Colons n
later-fits ks before.ColonArguments n = plain-fits ks before.ColonArguments n
later-fits ks before.Creation n = plain-fits ks before.Creation n
later-fits ks before.TestName n = plain-fits ks before.TestName n
later-fits ks before.TestArguments n = plain-fits ks before.TestArguments n
later-fits ks before.TestEnd n = plain-fits ks before.TestEnd n

-- ---- the part, and what stands behind it

-- what begins the rest of an initialiser doesn't go on with the part before it
abbrev pub apart : Part → After → Bool
apart p a = disjoint (first_of (expression_rest assigned anywhere a)) (more_of_part p)

pub nothing-more : (ks : List ℕ) → disjoint ks [] ≡ true
nothing-more [] = refl
nothing-more (k ∷ ks) = nothing-more ks

piece-apart : (p : Piece) (b : Before) (ts : List Symbol) → fits_there p b ≡ true → apart (part_at p ts) (after_of b) ≡ true
unfolding numbers
piece-apart piece.Created before.Creation ts e = refl
piece-apart piece.Created before.Colons ts e = absurd cc
piece-apart piece.Created before.ColonArguments ts e = absurd cc
piece-apart piece.Created before.Between ts e = absurd cc
piece-apart piece.Created before.Name ts e = absurd cc
piece-apart piece.Created before.Greater ts e = absurd cc
piece-apart piece.Created before.Dot ts e = absurd cc
piece-apart piece.Created before.Test ts e = absurd cc
piece-apart piece.Created before.TestName ts e = absurd cc
piece-apart piece.Created before.TestArguments ts e = absurd cc
piece-apart piece.Created before.TestEnd ts e = absurd cc
piece-apart piece.Tested before.Test ts e = refl
piece-apart piece.Tested before.Creation ts e = absurd cc
piece-apart piece.Tested before.Colons ts e = absurd cc
piece-apart piece.Tested before.ColonArguments ts e = absurd cc
piece-apart piece.Tested before.Between ts e = absurd cc
piece-apart piece.Tested before.Name ts e = absurd cc
piece-apart piece.Tested before.Greater ts e = absurd cc
piece-apart piece.Tested before.Dot ts e = absurd cc
piece-apart piece.Tested before.TestName ts e = absurd cc
piece-apart piece.Tested before.TestArguments ts e = absurd cc
piece-apart piece.Tested before.TestEnd ts e = absurd cc
piece-apart piece.One b ts e = nothing-more (first_of (expression_rest assigned anywhere (after_of b)))
piece-apart piece.Round b ts e = nothing-more (first_of (expression_rest assigned anywhere (after_of b)))
piece-apart piece.Brace b ts e = nothing-more (first_of (expression_rest assigned anywhere (after_of b)))
piece-apart piece.Square b ts e = nothing-more (first_of (expression_rest assigned anywhere (after_of b)))
piece-apart piece.Arguments b ts e = nothing-more (first_of (expression_rest assigned anywhere (after_of b)))
piece-apart piece.Annotated b ts e = nothing-more (first_of (expression_rest assigned anywhere (after_of b)))
piece-apart piece.Reference b ts e = nothing-more (first_of (expression_rest assigned anywhere (after_of b)))
piece-apart piece.TestedName b ts e = nothing-more (first_of (expression_rest assigned anywhere (after_of b)))
piece-apart piece.TestedDim b ts e = nothing-more (first_of (expression_rest assigned anywhere (after_of b)))

pub stands-apart : (b c : Before) (t : Symbol) (ts us : List Symbol) (p : Piece) (v : Turn) → next_at place.Assigned leave.Anywhere b (t ∷ ts) ≡ next.Part p v c → apart (part_at p us) (after_of c) ≡ true
stands-apart b c t ts us p v e = piece-apart p c us (sym (ap fits e) ∙ later-fits (73 ∷ []) b t.sort)

-- which part begins is told by the first symbol
pub same-part : (p : Piece) (t : Symbol) (ts us : List Symbol) → part_at p (t ∷ ts) ≡ part_at p (t ∷ us)
same-part piece.One t ts us = refl
same-part piece.Round t ts us = refl
same-part piece.Brace t ts us = refl
same-part piece.Square t ts us = refl
same-part piece.Arguments t ts us = refl
same-part piece.Annotated t ts us = refl
same-part piece.Created t ts us = refl
same-part piece.Reference t ts us = refl
same-part piece.Tested t ts us = refl
same-part piece.TestedName t ts us = refl
same-part piece.TestedDim t ts us = refl
