-- The table of the characters and tokens of files (JLS 3.3 to 3.12).
use Rattle.std.specs.Prelude.{ℕ, List, [], ◌∷◌, ◌++◌, codes, None, Some}
use Rattle.java_tokens.specs.declared.token.TokenKind.{TokenKind}
use Rattle.java_tokens.specs.declared.token.TokenKind.TheVariants.{Identifier, Reserved, Integer, Operator, Truth, Null}
use Rattle.java_tokens.specs.Tokens.{Lexeme}
use Rattle.vector_tables.specs.Cases.{Wanted, Row, characters, no_characters, tokens, no_tokens}

-- a token at an offset on a line, without a doc comment
abbrev token : TokenKind → ℕ → ℕ → List ℕ → Lexeme
token kind start line text = record { kind = kind; start = start; line = line; text = text; doc = None }

-- the same with one
abbrev documented : TokenKind → ℕ → ℕ → List ℕ → List ℕ → Lexeme
documented kind start line text doc = record { kind = kind; start = start; line = line; text = text; doc = Some doc }

abbrev row : List ℕ → Wanted → Row
row file wanted = record { file = file; wanted = wanted }

abbrev pub token_rows : List Row
token_rows =
    -- the longest operator, and a literal with an underscore and a suffix
    row (codes "a>>>=1_0L") (tokens (token Identifier 0 1 (codes "a") ∷ token (Operator 49) 1 1 (codes ">>>=") ∷ token Integer 5 1 (codes "1_0L") ∷ [])) ∷
    -- a string without an end
    row (codes "\"a") (no_tokens 0) ∷
    -- a keyword
    row (codes "int") (tokens (token (Reserved 26) 0 1 (codes "int") ∷ [])) ∷
    -- the last keyword
    row (codes "_") (tokens (token (Reserved 50) 0 1 (codes "_") ∷ [])) ∷
    -- a backslash that an escape gives begins no escape
    row (codes "\\u005cu005a") (characters (codes "\\u005a")) ∷
    -- nor does the second of two
    row (codes "\\\\u0041") (characters (codes "\\\\u0041")) ∷
    -- an escape with more than one `u`
    row (codes "\\uuu0041") (characters (codes "A")) ∷
    -- two surrogates
    row (codes "\\ud83d\\ude00") (characters (240 ∷ 159 ∷ 152 ∷ 128 ∷ [])) ∷
    -- a lone surrogate
    row (codes "\\ud800x") (no_characters 0) ∷
    -- an escape without four digits
    row (codes "\\u00g1") (no_characters 0) ∷
    -- a file without escapes
    row (codes "int") (characters (codes "int")) ∷
    -- the place at which no token goes on
    row (codes "a \"b") (no_tokens 2) ∷
    -- the place of an escape that gives no character
    row (codes "a\\ud800") (no_characters 1) ∷
    -- lines end at CR LF, at LF and at CR; a doc comment belongs to the next token
    row (codes "a" ++ (13 ∷ 10 ∷ (codes "/** d */ // x\nb" ++ (13 ∷ codes "c")))) (tokens (token Identifier 0 1 (codes "a") ∷ documented Identifier 17 3 (codes "b") (codes "/** d */") ∷ token Identifier 19 4 (codes "c") ∷ [])) ∷
    -- offsets are those of the file
    row (codes "\\u0061 b") (tokens (token Identifier 0 1 (codes "a") ∷ token Identifier 7 1 (codes "b") ∷ [])) ∷
    -- the literals that are words
    row (codes "true null") (tokens (token Truth 0 1 (codes "true") ∷ token Null 5 1 (codes "null") ∷ [])) ∷
    -- an empty comment is no doc comment
    row (codes "/**/x") (tokens (token Identifier 4 1 (codes "x") ∷ [])) ∷
    []
