-- Two readings there are at a `<` alone.
use Rattle.std.specs.Prelude.{◌==◌}
use Rattle.std.proofs.Common.{◌≡◌, ℕ, Bool, true, false, cond, Option, Some, None, List, [], ◌∷◌, refl, sym, ap, ◌∙◌}
use Rattle.decl_turns.specs.declared.states.Place.{Place}
use Rattle.decl_turns.specs.declared.states.Leave.{Leave}
use Rattle.decl_turns.specs.declared.states.Before.{Before}
use Rattle.decl_turns.specs.declared.states.Before.TheVariants as before
use Rattle.decl_turns.specs.declared.states.Piece.TheVariants as piece
use Rattle.decl_turns.specs.declared.states.Turn.TheVariants as turning
use Rattle.decl_turns.specs.declared.states.Next.{Next}
use Rattle.decl_turns.specs.declared.states.Next.TheVariants as next
use Rattle.decl_grammar.specs.declared.symbol.Symbol.{Symbol}
use Rattle.decl_grammar.specs.Reading.{has, starts}
use Rattle.decl_grammar.specs.Form.{names, ats, plain_sorts, primitive_sorts}
use Rattle.decl_turns.specs.Turns.{some_if, or_else, or_next, one_then, then_part, new_next, sign_next, word_next, told_next, plain_dots_next, tested_dots_next, dots_next, plain_squares_next, annotated_next, squares_next, signs_next, braces_next, test_next, plain_next, later_next, none_left, next_at, valued_at, equals_at}

abbrev is_one : Next → Bool
is_one next.Two = false
is_one (next.Part p v b) = true
is_one next.Nothing = true
is_one next.End = true

abbrev AllOne : Option Next → Type 0
AllOne None = Unit {0}
AllOne (Some x) = is_one x ≡ true

if-one : (c : Bool) (x : Next) → is_one x ≡ true → AllOne (some_if c x)
if-one true x e = e
if-one false x e = tt

else-one : (o p : Option Next) → AllOne o → AllOne p → AllOne (or_else o p)
else-one None p e d = d
else-one (Some x) p e d = e

next-one : (o : Option Next) (nx : Next) → AllOne o → is_one nx ≡ true → is_one (or_next o nx) ≡ true
next-one None nx e d = d
next-one (Some x) nx e d = e

new-one : (b : Before) → is_one (new_next b) ≡ true
new-one before.Colons = refl
new-one before.ColonArguments = refl
new-one before.Between = refl
new-one before.Name = refl
new-one before.Greater = refl
new-one before.Dot = refl
new-one before.Creation = refl
new-one before.Test = refl
new-one before.TestName = refl
new-one before.TestArguments = refl
new-one before.TestEnd = refl

sign-one : (n : ℕ) → AllOne (sign_next n)
sign-one n =
    else-one (some_if (n == 74) (one_then before.Greater)) (or_else (some_if (n == 78) (next.Part piece.One turning.Condition before.Between)) (or_else (some_if (n == 79) (next.Part piece.One turning.Colon before.Between)) (some_if (n == 80) (next.Part piece.One turning.Lambda before.Between)))) (if-one (n == 74) (one_then before.Greater) refl)
    (else-one (some_if (n == 78) (next.Part piece.One turning.Condition before.Between)) (or_else (some_if (n == 79) (next.Part piece.One turning.Colon before.Between)) (some_if (n == 80) (next.Part piece.One turning.Lambda before.Between))) (if-one (n == 78) (next.Part piece.One turning.Condition before.Between) refl)
    (else-one (some_if (n == 79) (next.Part piece.One turning.Colon before.Between)) (some_if (n == 80) (next.Part piece.One turning.Lambda before.Between)) (if-one (n == 79) (next.Part piece.One turning.Colon before.Between) refl) (if-one (n == 80) (next.Part piece.One turning.Lambda before.Between) refl)))

word-one : (b : Before) (n : ℕ) → AllOne (word_next b n)
word-one b n =
    else-one (some_if (n == 61) (then_part piece.Round before.Between)) (or_else (some_if (n == 40) (new_next b)) (or_else (some_if (n == 35) (then_part piece.Tested before.Test)) (sign_next n))) (if-one (n == 61) (then_part piece.Round before.Between) refl)
    (else-one (some_if (n == 40) (new_next b)) (or_else (some_if (n == 35) (then_part piece.Tested before.Test)) (sign_next n)) (if-one (n == 40) (new_next b) (new-one b))
    (else-one (some_if (n == 35) (then_part piece.Tested before.Test)) (sign_next n) (if-one (n == 35) (then_part piece.Tested before.Test) refl) (sign-one n)))

told-one : (b : Before) (n : ℕ) → AllOne (told_next names b n)
told-one b n =
    else-one (some_if (has names n) (one_then before.Name)) (or_else (some_if (has plain_sorts n) (one_then before.Between)) (word_next b n)) (if-one (has names n) (one_then before.Name) refl)
    (else-one (some_if (has plain_sorts n) (one_then before.Between)) (word_next b n) (if-one (has plain_sorts n) (one_then before.Between) refl) (word-one b n))

plain-dots-one : (n : ℕ) → AllOne (plain_dots_next n)
plain-dots-one n = else-one (some_if (n == 69) (one_then before.Dot)) (some_if (n == 72) (one_then before.Colons)) (if-one (n == 69) (one_then before.Dot) refl) (if-one (n == 72) (one_then before.Colons) refl)

tested-dots-one : (n : ℕ) → AllOne (tested_dots_next n)
tested-dots-one n = else-one (some_if (n == 69) (then_part piece.TestedName before.TestName)) (some_if (n == 72) (one_then before.Colons)) (if-one (n == 69) (then_part piece.TestedName before.TestName) refl) (if-one (n == 72) (one_then before.Colons) refl)

greater-dots-one : (c : Bool) (n : ℕ) → AllOne (cond c None (plain_dots_next n))
greater-dots-one true n = tt
greater-dots-one false n = plain-dots-one n

dots-one : (c : Bool) (b : Before) (n : ℕ) → AllOne (dots_next c b n)
dots-one c before.TestName n = tested-dots-one n
dots-one c before.TestArguments n = tested-dots-one n
dots-one c before.Creation n = tt
dots-one c before.Greater n = greater-dots-one c n
dots-one c before.Between n = plain-dots-one n
dots-one c before.Name n = plain-dots-one n
dots-one c before.Dot n = plain-dots-one n
dots-one c before.Colons n = plain-dots-one n
dots-one c before.ColonArguments n = plain-dots-one n
dots-one c before.Test n = plain-dots-one n
dots-one c before.TestEnd n = plain-dots-one n

plain-squares-one : (n : ℕ) → AllOne (plain_squares_next n)
plain-squares-one n = else-one (some_if (n == 65) (then_part piece.Square before.Between)) (some_if (has ats n) (one_then before.Between)) (if-one (n == 65) (then_part piece.Square before.Between) refl) (if-one (has ats n) (one_then before.Between) refl)

greater-squares-one : (c : Bool) (n : ℕ) → AllOne (cond c (annotated_next n) (plain_squares_next n))
greater-squares-one true n = if-one (has ats n) (then_part piece.Annotated before.Name) refl
greater-squares-one false n = plain-squares-one n

squares-one : (c : Bool) (b : Before) (n : ℕ) → AllOne (squares_next c b n)
squares-one c before.TestName n = if-one (has (65 ∷ ats) n) (then_part piece.TestedDim before.TestEnd) refl
squares-one c before.TestArguments n = if-one (has (65 ∷ ats) n) (then_part piece.TestedDim before.TestEnd) refl
squares-one c before.TestEnd n = if-one (has (65 ∷ ats) n) (then_part piece.TestedDim before.TestEnd) refl
squares-one c before.Greater n = greater-squares-one c n
squares-one c before.Between n = plain-squares-one n
squares-one c before.Name n = plain-squares-one n
squares-one c before.Dot n = plain-squares-one n
squares-one c before.Colons n = plain-squares-one n
squares-one c before.ColonArguments n = plain-squares-one n
squares-one c before.Creation n = plain-squares-one n
squares-one c before.Test n = plain-squares-one n

braces-one : (ks : List ℕ) (n : ℕ) → AllOne (braces_next ks n)
braces-one ks n = else-one (some_if (n == 63) (then_part piece.Brace before.Between)) (some_if (has ks n) (one_then before.Between)) (if-one (n == 63) (then_part piece.Brace before.Between) refl) (if-one (has ks n) (one_then before.Between) refl)

signs-one : (c : Bool) (b : Before) (n : ℕ) → (n == 75) ≡ false → AllOne (signs_next c b n)
signs-one c b n e = rw e (else-one (dots_next c b n) (squares_next c b n) (dots-one c b n) (squares-one c b n))

plain-one : (c : Bool) (ks : List ℕ) (b : Before) (n : ℕ) → (n == 75) ≡ false → is_one (plain_next c ks b n) ≡ true
plain-one c ks b n e = next-one (told_next names b n) (or_next (signs_next c b n) (or_next (braces_next ks n) next.End)) (told-one b n) (next-one (signs_next c b n) (or_next (braces_next ks n) next.End) (signs-one c b n e) (next-one (braces_next ks n) next.End (braces-one ks n) refl))

test-one : (n : ℕ) → is_one (test_next n) ≡ true
test-one n =
    next-one (or_else (some_if (has names n) (one_then before.TestName)) (some_if (has primitive_sorts n) (one_then before.TestEnd))) next.Nothing
    (else-one (some_if (has names n) (one_then before.TestName)) (some_if (has primitive_sorts n) (one_then before.TestEnd)) (if-one (has names n) (one_then before.TestName) refl) (if-one (has primitive_sorts n) (one_then before.TestEnd) refl))
    refl

later-one : (c : Bool) (ks : List ℕ) (b : Before) (n : ℕ) → (n == 75) ≡ false → is_one (later_next c ks b n) ≡ true
later-one c ks before.Test n e = test-one n
later-one c ks before.Between n e = plain-one c ks before.Between n e
later-one c ks before.Name n e = plain-one c ks before.Name n e
later-one c ks before.Greater n e = plain-one c ks before.Greater n e
later-one c ks before.Dot n e = plain-one c ks before.Dot n e
later-one c ks before.Colons n e = plain-one c ks before.Colons n e
later-one c ks before.ColonArguments n e = plain-one c ks before.ColonArguments n e
later-one c ks before.Creation n e = plain-one c ks before.Creation n e
later-one c ks before.TestName n e = plain-one c ks before.TestName n e
later-one c ks before.TestArguments n e = plain-one c ks before.TestArguments n e
later-one c ks before.TestEnd n e = plain-one c ks before.TestEnd n e

left-one : (b : Before) → is_one (none_left b) ≡ true
left-one before.Test = refl
left-one before.Between = refl
left-one before.Name = refl
left-one before.Greater = refl
left-one before.Dot = refl
left-one before.Colons = refl
left-one before.ColonArguments = refl
left-one before.Creation = refl
left-one before.TestName = refl
left-one before.TestArguments = refl
left-one before.TestEnd = refl

pub two-less : (p : Place) (l : Leave) (b : Before) (ts : List Symbol) → next_at p l b ts ≡ next.Two → starts (75 ∷ []) ts ≡ true
two-less p l b [] e = let z : true ≡ false = sym (left-one b) ∙ ap is_one e in absurd cc
two-less p l b (t ∷ ts) e = go (t.sort == 75) refl
  where
    go : (c : Bool) → (t.sort == 75) ≡ c → c ≡ true
    go true z = refl
    go false z = let y : true ≡ false = sym (later-one (valued_at p) (equals_at p l) b t.sort z) ∙ ap is_one e in absurd cc
