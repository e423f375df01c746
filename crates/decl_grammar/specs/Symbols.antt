-- The sorts of the symbols of a file, by number: identifiers, literals, reserved words and operators. A symbol is a token, or a `>` of a `>>` or a `>>>`.
-- Two tokens are of a sort of their own by the token that follows: an identifier that a `=` follows, and a `@` that `interface` follows.
use Rattle.std.specs.Prelude.{ℕ, zero, suc, ◌+◌, List, [], ◌∷◌}

-- an identifier that no `=` follows
abbrev pub identifier : ℕ
identifier = 0

-- an identifier that `=` follows
abbrev pub named : ℕ
named = 1

-- an integer literal
abbrev pub integer : ℕ
integer = 2

-- a floating-point literal
abbrev pub floating : ℕ
floating = 3

-- a character literal
abbrev pub character : ℕ
character = 4

-- a string literal
abbrev pub text : ℕ
text = 5

-- a text block
abbrev pub text_block : ℕ
text_block = 6

-- `true` or `false`
abbrev pub truth : ℕ
truth = 7

-- `null`
abbrev pub null : ℕ
null = 8

-- a `@` that `interface` follows
abbrev pub at_interface : ℕ
at_interface = 9

-- the reserved word with this number
abbrev pub word : ℕ → ℕ
word n = 10 + n

-- the operator with this number
abbrev pub operator : ℕ → ℕ
operator n = 61 + n

-- this many numbers from one on
unfoldable pub numbers : ℕ → ℕ → List ℕ
numbers n zero = []
numbers n (suc k) = n ∷ numbers (suc n) k
