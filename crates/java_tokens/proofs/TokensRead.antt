-- What is read behind some tokens of a file.
use Rattle.std.proofs.Common.{◌≡◌, ℕ, ◌+◌, ◌<◌, ◌≤◌, Bool, List, [], ◌∷◌, ◌++◌, length, take, drop, cond, slice_index, string_bytes, Option, None, Some, Ok, refl, sym, ap, subst, arith}
use Rattle.std.proofs.lemmas.Str.{IsUtf8-string_bytes, encodes-chars}
use Rattle.std.specs.Str.{chars, IsUtf8}
use Rattle.apt_base.specs.Limits.{max_file_bytes}
use Rattle.java_tokens.specs.declared.token.TokenKind.{TokenKind}
use Rattle.java_tokens.specs.declared.chars.Chars.{Chars}
use Rattle.java_tokens.specs.declared.token_reader.TokenReader.{TokenReader}
use Rattle.java_tokens.specs.Tokens.{HasNoNext, IsEnd, Lexeme, line_ends, returns, is_doc}
use Rattle.java_tokens.specs.declared.token.Token.{Token}
use Rattle.java_tokens.specs.TokensShown.{codes_in, offsets_in, shown_token, shown_tokens, IsCharAt, AreTokensIn, IsTokenFaultIn}
use Rattle.java_tokens.specs.TokenReading.{HasRead, ReadsOn}
use Rattle.java_tokens.specs.Table.{IsFront}
use Rattle.java_tokens.proofs.TokensGathered.{IsBehind, lexing_done, lexing_stuck, lexing_some, lexing_far, moved_token, moved_separator}

-- the offset of the character behind this many bytes
abbrev pub IsStart : Chars → ℕ → ℕ → Type 0
IsStart read width start = (n : ℕ) → IsCharAt read n width → start ≡ slice_index (offsets_in read) n

-- what is left and the place before it, behind a front of a text
pub record IsPassed (rest text back : List ℕ) (w width width' line line' : ℕ) (r r' : Bool) : Type 0 where
  pub text_is : text ≡ take w rest
  pub back_is : back ≡ drop w rest
  pub width_is : width' ≡ width + length text
  pub line_is : line' ≡ line + line_ends r (chars text)
  pub return_is : r' ≡ returns r (chars text)

pub begun_behind : (read : Chars) (ts : List Lexeme) (reader : TokenReader) → HasRead read ts reader → IsBehind read ts reader.rest.now reader.place.width reader.place.line reader.place.after_return None
begun_behind read ts reader has = (has.before, has.lexing)

pub behind_near : (read : Chars) (ts : List Lexeme) (rest : List ℕ) (width line : ℕ) (r : Bool) (doc : Option (List ℕ)) → IsBehind read ts rest width line r doc → (width + length rest ≤ max_file_bytes) × (line ≤ width + 1)
behind_near read ts rest width line r doc (before, lexing) =
    let far = lexing_far _ _ _ _ _ _ _ _ _ lexing in
    (omega (arith, lexing.total, ap length (encodes-chars (string_bytes read.text) (IsUtf8-string_bytes read.text)), read.small), omega (arith, far.0, far.1))

pub separator_behind : (read : Chars) (ts : List Lexeme) (rest text back : List ℕ) (w width width' line line' : ℕ) (r r' : Bool) (doc doc' : Option (List ℕ)) → IsUtf8 rest → IsPassed rest text back w width width' line line' r r' → IsFront (chars rest) w None
    → doc' ≡ cond (is_doc (chars text)) (Some text) doc → IsBehind read ts rest width line r doc → IsBehind read ts back width' line' r' doc'
separator_behind read ts rest text back w width width' line line' r r' doc doc' utf8 passed front doc_is (before, lexing) = (
  before + length (chars text),
  moved_separator (codes_in read) (offsets_in read) rest text back w before (before + length (chars text)) width width' line line' r r' doc doc' ts utf8
      (record { text_is = passed.text_is; back_is = passed.back_is; before_is = refl; width_is = passed.width_is; line_is = passed.line_is; return_is = passed.return_is }) lexing front doc_is,
)

pub token_behind : (read : Chars) (ts : List Lexeme) (rest text back : List ℕ) (w width width' line line' start : ℕ) (r r' : Bool) (doc : Option (List ℕ)) (kind : TokenKind) → IsUtf8 rest → IsPassed rest text back w width width' line line' r r' → IsFront (chars rest) w (Some kind)
    → ¬ IsEnd (chars rest) → IsStart read width start → IsBehind read ts rest width line r doc → IsBehind read (ts ++ record { kind = kind; start = start; line = line; text = text; doc = doc } ∷ []) back width' line' r' None
token_behind read ts rest text back w width width' line line' start r r' doc kind utf8 passed front on begins (before, lexing) = (
  before + length (chars text),
  moved_token (codes_in read) (offsets_in read) rest text back w before (before + length (chars text)) width width' line line' r r' doc ts (record { kind = kind; start = start; line = line; text = text; doc = doc }) kind utf8
      (record { text_is = passed.text_is; back_is = passed.back_is; before_is = refl; width_is = passed.width_is; line_is = passed.line_is; return_is = passed.return_is }) lexing front
      (ap (λ s. record { kind = kind; start = s; line = line; text = text; doc = doc }) (begins before (lexing_some _ _ _ _ _ _ _ _ _ lexing on, lexing.wide))),
)

pub end_behind : (read : Chars) (ts : List Lexeme) (rest : List ℕ) (width line : ℕ) (r : Bool) (doc : Option (List ℕ)) → IsEnd (chars rest) → IsBehind read ts rest width line r doc → AreTokensIn read ts
end_behind read ts rest width line r doc end (before, lexing) = lexing_done _ _ _ _ _ _ _ _ _ lexing end

pub fault_behind : (read : Chars) (ts : List Lexeme) (rest : List ℕ) (width line start : ℕ) (r : Bool) (doc : Option (List ℕ)) → ¬ IsEnd (chars rest) → HasNoNext (chars rest) → IsStart read width start → IsBehind read ts rest width line r doc → IsTokenFaultIn read start
fault_behind read ts rest width line start r doc on none begins (before, lexing) =
    subst (λ p. IsTokenFaultIn read p) (sym (begins before (lexing_some _ _ _ _ _ _ _ _ _ lexing on, lexing.wide))) (lexing_stuck _ _ _ _ _ _ _ _ _ lexing on none)

-- the tokens that a reader has read are those of its own file
pub own_file : (read : Chars) (ts : List Lexeme) (reader : TokenReader) → HasRead read ts reader → HasRead reader.chars.now ts reader
own_file read ts reader has = subst (λ r. HasRead r ts reader) (sym has.file) has

pub shown_push : (ts : List Token) (t : Token) → shown_tokens (ts ++ t ∷ []) ≡ shown_tokens ts ++ shown_token t ∷ []
shown_push [] t = refl
shown_push (x ∷ ts) t = ap (λ l. shown_token x ∷ l) (shown_push ts t)

pub one_more : (old : TokenReader) (ts : List Lexeme) (new : TokenReader) (result : Option Token) (token : Token) → result ≡ Some token → ReadsOn old ts new (Ok result) → HasRead old.chars.now (ts ++ shown_token token ∷ []) new × (length new.rest.now < length old.rest.now)
one_more old ts new result token is reads = subst (λ r. ReadsOn old ts new (Ok r)) is reads

pub no_more : (old : TokenReader) (ts : List Lexeme) (new : TokenReader) (result : Option Token) → result ≡ None → ReadsOn old ts new (Ok result) → AreTokensIn old.chars.now ts
no_more old ts new result is reads = (subst (λ r. ReadsOn old ts new (Ok r)) is reads).0
