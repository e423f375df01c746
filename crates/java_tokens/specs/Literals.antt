-- The forms of white space, comments, words and literals (JLS 3.4 to 3.8, 3.10), over the sorts of characters.
use Rattle.std.specs.Prelude.{ℕ, zero, suc, List, [], ◌∷◌, if◌then◌else◌, map}
use Rattle.java_tokens.specs.Forms.{Form, IsOf, among, empty, one, many, optional, ◌or◌, ◌then◌}
use Rattle.java_tokens.specs.Sorts.{sort_of}

-- sorts from one on
abbrev sorts_from : ℕ → ℕ → List ℕ
sorts_from n zero = []
sorts_from n (suc k) = n ∷ sorts_from (suc n) k

abbrev without : List ℕ → List ℕ → List ℕ
without left [] = []
without left (n ∷ ns) = if among left n then without left ns else n ∷ without left ns

abbrev every_sort : List ℕ
every_sort = sorts_from 0 26

-- a character of any sort, and of any sort but these
abbrev pub any : Form
any = one every_sort

abbrev pub any_but : List ℕ → Form
any_but sorts = one (without sorts every_sort)

-- single characters
abbrev pub zero_digit : Form
zero_digit = one (0 ∷ [])

abbrev pub letter_b : Form
letter_b = one (4 ∷ [])

abbrev pub letter_e : Form
letter_e = one (6 ∷ [])

abbrev pub letter_l : Form
letter_l = one (8 ∷ [])

abbrev pub letter_p : Form
letter_p = one (9 ∷ [])

abbrev pub letter_x : Form
letter_x = one (10 ∷ [])

abbrev pub underscore : Form
underscore = one (11 ∷ [])

abbrev pub dot : Form
dot = one (14 ∷ [])

abbrev pub sign : Form
sign = one (15 ∷ [])

abbrev pub slash : Form
slash = one (16 ∷ [])

abbrev pub star : Form
star = one (17 ∷ [])

abbrev pub quote : Form
quote = one (18 ∷ [])

abbrev pub tick : Form
tick = one (19 ∷ [])

abbrev pub backslash : Form
backslash = one (20 ∷ [])

abbrev pub carriage_return : Form
carriage_return = one (21 ∷ [])

abbrev pub line_feed : Form
line_feed = one (22 ∷ [])

-- a space, a tab or a form feed
abbrev pub blank : Form
blank = one (23 ∷ [])

-- JLS 3.4: a line end
abbrev pub line_end : Form
line_end = line_feed or (carriage_return then optional line_feed)

-- JLS 3.6
abbrev pub white_space : Form
white_space = blank or line_end

-- JLS 3.7: from `//` to the end of the line
abbrev pub line_comment : Form
line_comment = slash then slash then many (any_but (21 ∷ 22 ∷ []))

-- what stands between `/*` and `*/`: no `*`, or some `*` and no `/` after them
abbrev pub comment_item : Form
comment_item = any_but (17 ∷ []) or (star then many star then any_but (16 ∷ 17 ∷ []))

-- from `/*` to the first `*/`
abbrev pub block_comment : Form
block_comment = slash then star then many comment_item then star then many star then slash

abbrev pub separator : Form
separator = white_space or line_comment or block_comment

-- JLS 3.8: the sorts of characters that begin an identifier, and of those that go on with one
abbrev pub word_starts : List ℕ
word_starts = 4 ∷ 5 ∷ 6 ∷ 7 ∷ 8 ∷ 9 ∷ 10 ∷ 11 ∷ 12 ∷ []

abbrev pub word_parts : List ℕ
word_parts = 0 ∷ 1 ∷ 2 ∷ 3 ∷ 25 ∷ 4 ∷ 5 ∷ 6 ∷ 7 ∷ 8 ∷ 9 ∷ 10 ∷ 11 ∷ 12 ∷ 13 ∷ []

abbrev pub word : Form
word = one word_starts then many (one word_parts)

-- JLS 3.10.1: digits of these sorts, with `_` between any two
abbrev pub digits : List ℕ → Form
digits sorts = one sorts then (empty or (many (one (11 ∷ sorts)) then one sorts))

abbrev binary_digits : List ℕ
binary_digits = 0 ∷ 1 ∷ []

abbrev octal_digits : List ℕ
octal_digits = 0 ∷ 1 ∷ 2 ∷ 25 ∷ []

abbrev decimal_digits : List ℕ
decimal_digits = 0 ∷ 1 ∷ 2 ∷ 3 ∷ 25 ∷ []

abbrev hex_digits : List ℕ
hex_digits = 0 ∷ 1 ∷ 2 ∷ 3 ∷ 25 ∷ 4 ∷ 5 ∷ 6 ∷ 7 ∷ []

abbrev pub non_zero_digit : Form
non_zero_digit = one (1 ∷ 2 ∷ 3 ∷ 25 ∷ [])

abbrev pub decimal_numeral : Form
decimal_numeral =
    zero_digit
    or (non_zero_digit then optional (digits decimal_digits))
    or (non_zero_digit then underscore then many underscore then digits decimal_digits)

abbrev pub octal_numeral : Form
octal_numeral = zero_digit then many underscore then digits octal_digits

abbrev pub hex_numeral : Form
hex_numeral = zero_digit then letter_x then digits hex_digits

abbrev pub binary_numeral : Form
binary_numeral = zero_digit then letter_b then digits binary_digits

abbrev pub integer : Form
integer = (decimal_numeral or octal_numeral or hex_numeral or binary_numeral) then optional letter_l

-- JLS 3.10.2
abbrev pub float_suffix : Form
float_suffix = one (5 ∷ [])

abbrev pub exponent : Form
exponent = letter_e then optional sign then digits decimal_digits

abbrev pub decimal_floating : Form
decimal_floating =
    (digits decimal_digits then dot then optional (digits decimal_digits) then optional exponent
    then optional float_suffix)
    or (dot then digits decimal_digits then optional exponent then optional float_suffix)
    or (digits decimal_digits then exponent then optional float_suffix)
    or (digits decimal_digits then optional exponent then float_suffix)

abbrev pub hex_significand : Form
hex_significand =
    (zero_digit then letter_x then digits hex_digits then optional dot)
    or (zero_digit then letter_x then optional (digits hex_digits) then dot then digits hex_digits)

abbrev pub binary_exponent : Form
binary_exponent = letter_p then optional sign then digits decimal_digits

abbrev pub hex_floating : Form
hex_floating = hex_significand then binary_exponent then optional float_suffix

abbrev pub floating : Form
floating = decimal_floating or hex_floating

-- JLS 3.10.4 to 3.10.7: a `\` and any character but a line end
abbrev pub escape : Form
escape = backslash then any_but (21 ∷ 22 ∷ [])

-- JLS 3.10.7: an octal escape of two or three digits
abbrev pub octal_escape : Form
octal_escape =
    backslash
    then ((one octal_digits then one octal_digits) or (one (0 ∷ 1 ∷ 2 ∷ []) then one octal_digits then one octal_digits))

abbrev pub character : Form
character = tick then (any_but (19 ∷ 20 ∷ 21 ∷ 22 ∷ []) or escape or octal_escape) then tick

abbrev pub text : Form
text = quote then many (any_but (18 ∷ 20 ∷ 21 ∷ 22 ∷ []) or escape) then quote

-- a character of a text block that is no `"`
abbrev pub block_item : Form
block_item = any_but (18 ∷ 20 ∷ []) or (backslash then any)

-- three `"`, blanks and a line end, what holds no three `"` but by escapes, and three `"`
abbrev pub text_block : Form
text_block =
    quote then quote then quote then many blank then line_end
    then many (block_item or (quote then block_item) or (quote then quote then block_item))
    then quote then quote then quote

-- the characters of a text are of a form
abbrev pub Is : Form → List ℕ → Type 0
Is form chars = IsOf form (map sort_of chars)
