-- An expression begins with a part, or with none that may stand there.
use Rattle.std.specs.Prelude.{◌==◌}
use Rattle.std.proofs.Common.{◌≡◌, ℕ, Bool, true, false, Option, Some, None, List, [], ◌∷◌, refl, sym, ap, ◌∙◌}
use Rattle.decl_turns.specs.declared.states.Place.{Place}
use Rattle.decl_turns.specs.declared.states.Place.TheVariants as place
use Rattle.decl_turns.specs.declared.states.Before.TheVariants as before
use Rattle.decl_turns.specs.declared.states.Piece.TheVariants as piece
use Rattle.decl_turns.specs.declared.states.Turn.TheVariants as turning
use Rattle.decl_turns.specs.declared.states.Next.{Next}
use Rattle.decl_turns.specs.declared.states.Next.TheVariants as next
use Rattle.decl_grammar.specs.declared.symbol.Symbol.{Symbol}
use Rattle.decl_grammar.specs.Reading.{has}
use Rattle.decl_grammar.specs.Form.{names, ats, plain_sorts, first_names}
use Rattle.decl_turns.specs.States.{stands_of}
use Rattle.decl_turns.specs.Turns.{some_if, or_else, or_next, only_if, one_then, then_part, sign_next, word_next, told_next, plain_dots_next, plain_squares_next, signs_next, braces_next, value_signs_next, assigned_first, first_at}

-- a part, or nothing
abbrev is_first : Next → Bool
is_first (next.Part p v b) = true
is_first next.Nothing = true
is_first next.Two = false
is_first next.End = false

abbrev AllFirst : Option Next → Type 0
AllFirst None = Unit {0}
AllFirst (Some x) = is_first x ≡ true

if-first : (c : Bool) (x : Next) → is_first x ≡ true → AllFirst (some_if c x)
if-first true x e = e
if-first false x e = tt

else-first : (o p : Option Next) → AllFirst o → AllFirst p → AllFirst (or_else o p)
else-first None p e d = d
else-first (Some x) p e d = e

next-first : (o : Option Next) (nx : Next) → AllFirst o → is_first nx ≡ true → is_first (or_next o nx) ≡ true
next-first None nx e d = d
next-first (Some x) nx e d = e

sign-first : (n : ℕ) → AllFirst (sign_next n)
sign-first n =
    else-first (some_if (n == 74) (one_then before.Greater)) (or_else (some_if (n == 78) (next.Part piece.One turning.Condition before.Between)) (or_else (some_if (n == 79) (next.Part piece.One turning.Colon before.Between)) (some_if (n == 80) (next.Part piece.One turning.Lambda before.Between)))) (if-first (n == 74) (one_then before.Greater) refl)
    (else-first (some_if (n == 78) (next.Part piece.One turning.Condition before.Between)) (or_else (some_if (n == 79) (next.Part piece.One turning.Colon before.Between)) (some_if (n == 80) (next.Part piece.One turning.Lambda before.Between))) (if-first (n == 78) (next.Part piece.One turning.Condition before.Between) refl)
    (else-first (some_if (n == 79) (next.Part piece.One turning.Colon before.Between)) (some_if (n == 80) (next.Part piece.One turning.Lambda before.Between)) (if-first (n == 79) (next.Part piece.One turning.Colon before.Between) refl) (if-first (n == 80) (next.Part piece.One turning.Lambda before.Between) refl)))

word-first : (n : ℕ) → AllFirst (word_next before.Between n)
word-first n =
    else-first (some_if (n == 61) (then_part piece.Round before.Between)) (or_else (some_if (n == 40) (then_part piece.Created before.Creation)) (or_else (some_if (n == 35) (then_part piece.Tested before.Test)) (sign_next n))) (if-first (n == 61) (then_part piece.Round before.Between) refl)
    (else-first (some_if (n == 40) (then_part piece.Created before.Creation)) (or_else (some_if (n == 35) (then_part piece.Tested before.Test)) (sign_next n)) (if-first (n == 40) (then_part piece.Created before.Creation) refl)
    (else-first (some_if (n == 35) (then_part piece.Tested before.Test)) (sign_next n) (if-first (n == 35) (then_part piece.Tested before.Test) refl) (sign-first n)))

told-first : (sorts : List ℕ) (n : ℕ) → AllFirst (told_next sorts before.Between n)
told-first sorts n =
    else-first (some_if (has sorts n) (one_then before.Name)) (or_else (some_if (has plain_sorts n) (one_then before.Between)) (word_next before.Between n)) (if-first (has sorts n) (one_then before.Name) refl)
    (else-first (some_if (has plain_sorts n) (one_then before.Between)) (word_next before.Between n) (if-first (has plain_sorts n) (one_then before.Between) refl) (word-first n))

dots-first : (n : ℕ) → AllFirst (plain_dots_next n)
dots-first n = else-first (some_if (n == 69) (one_then before.Dot)) (some_if (n == 72) (one_then before.Colons)) (if-first (n == 69) (one_then before.Dot) refl) (if-first (n == 72) (one_then before.Colons) refl)

squares-first : (n : ℕ) → AllFirst (plain_squares_next n)
squares-first n =
    else-first (some_if (n == 65) (then_part piece.Square before.Between)) (some_if (has ats n) (one_then before.Between)) (if-first (n == 65) (then_part piece.Square before.Between) refl) (if-first (has ats n) (one_then before.Between) refl)

less-first : (c : Bool) → AllFirst (some_if c (one_then before.Between))
less-first c = if-first c (one_then before.Between) refl

value-signs-first : (n : ℕ) → is_first (value_signs_next n) ≡ true
value-signs-first n =
    next-first (or_else (some_if (n == 75) (one_then before.Between)) (or_else (plain_dots_next n) square)) next.Nothing
    (else-first (some_if (n == 75) (one_then before.Between)) (or_else (plain_dots_next n) square) (less-first (n == 75))
    (else-first (plain_dots_next n) square (dots-first n) (if-first (n == 65) (then_part piece.Square before.Between) refl)))
    refl
  where
    square : Option Next
    square = some_if (n == 65) (then_part piece.Square before.Between)

braces-first : (n : ℕ) → AllFirst (braces_next (73 ∷ []) n)
braces-first n =
    else-first (some_if (n == 63) (then_part piece.Brace before.Between)) (some_if (n == 73) (one_then before.Between)) (if-first (n == 63) (then_part piece.Brace before.Between) refl) (if-first (n == 73) (one_then before.Between) refl)

assigned-first : (n : ℕ) → is_first (assigned_first n) ≡ true
assigned-first n =
    next-first (told_next names before.Between n) (or_next (signs_next false before.Between n) (or_next (braces_next (73 ∷ []) n) next.Nothing)) (told-first names n)
    (next-first (signs_next false before.Between n) (or_next (braces_next (73 ∷ []) n) next.Nothing) (signs (n == 75)) (next-first (braces_next (73 ∷ []) n) next.Nothing (braces-first n) refl))
  where
    rest : AllFirst (or_else (plain_dots_next n) (plain_squares_next n))
    rest = else-first (plain_dots_next n) (plain_squares_next n) (dots-first n) (squares-first n)

    signs : (c : Bool) → AllFirst (or_else (only_if c (Some (one_then before.Between))) (or_else (plain_dots_next n) (plain_squares_next n)))
    signs true = refl
    signs false = rest

value-first : (sorts : List ℕ) (n : ℕ) → is_first (or_next (told_next sorts before.Between n) (value_signs_next n)) ≡ true
value-first sorts n = next-first (told_next sorts before.Between n) (value_signs_next n) (told-first sorts n) (value-signs-first n)

begins-first : (p : Place) (ts : List Symbol) → is_first (first_at p ts) ≡ true
begins-first p [] = refl
begins-first place.Alone (t ∷ ts) = value-first (first_names (stands_of place.Alone)) t.sort
begins-first place.Paired (t ∷ ts) = value-first (first_names (stands_of place.Paired)) t.sort
begins-first place.Listed (t ∷ ts) = value-first (first_names (stands_of place.Listed)) t.sort
begins-first place.Defaulted (t ∷ ts) = value-first (first_names (stands_of place.Defaulted)) t.sort
begins-first place.Assigned (t ∷ ts) = assigned-first t.sort

pub never-two : (p : Place) (ts : List Symbol) → first_at p ts ≡ next.Two → ⊥
never-two p ts e = let z : true ≡ false = sym (begins-first p ts) ∙ ap is_first e in absurd cc

pub never-end : (p : Place) (ts : List Symbol) → first_at p ts ≡ next.End → ⊥
never-end p ts e = let z : true ≡ false = sym (begins-first p ts) ∙ ap is_first e in absurd cc
