-- The symbols of a file of at most 8 MiB are small: its tokens are slices of its characters, one behind another, and so are their doc comments; a `>>>` is three symbols with its text.
use Rattle.std.proofs.Common.{◌≡◌, ◌==◌, ℕ, ◌+◌, ◌*◌, ◌<◌, ◌≤◌, Bool, true, false, cond, List, [], ◌∷◌, ◌++◌, length, Option, None, Some, refl, ap, ◌∙◌, arith, length-append, string_bytes}
use Rattle.std.specs.Option.{option_map_or}
use Rattle.std.specs.List.{sum_by}
use Rattle.std.specs.Str.{encode_utf8_all}
use Rattle.std.specs.Char.{encode_utf8}
use Rattle.std.proofs.lemmas.List.Sums.{sum_by-append}
use Rattle.std.proofs.lemmas.Str.{length-encode, len_utf8_bounds, encodes-append, encodes-chars, IsUtf8-string_bytes}
use Rattle.java_tokens.specs.declared.chars.Chars.{Chars}
use Rattle.java_tokens.specs.Tokens.{Element, Reads, is_doc, Lexeme, tokens_from}
use Rattle.java_tokens.specs.TokensShown.{codes_in, offsets_in, AreTokensIn}
use Rattle.java_tokens.proofs.NextFronts.{next_some}
use Rattle.decl_grammar.specs.SymbolList.{sort_of, sort_before, symbol_of, closing, symbols_before, symbols_of}
use Rattle.decl_limits.specs.Texts.{bytes_of, IsSmall}

-- ---- the tokens of a text

-- the bytes of characters
abbrev pub bytes : List ℕ → ℕ
bytes cs = length (encode_utf8_all cs)

pub some-bytes : (cs : List ℕ) → 0 < length cs → 0 < bytes cs
some-bytes [] h = absurd (omega (arith, h))
some-bytes (c ∷ cs) h = omega (arith, length-append (encode_utf8 c) (encode_utf8_all cs), length-encode c, (len_utf8_bounds c).0)

pub both-bytes : (text front rest : List ℕ) → text ≡ front ++ rest → bytes text ≡ bytes front + bytes rest
both-bytes text front rest split = ap bytes split ∙ (ap length (encodes-append front rest) ∙ length-append (encode_utf8_all front) (encode_utf8_all rest))

abbrev doc_bytes : Option (List ℕ) → ℕ
doc_bytes doc = option_map_or (λ doc. length doc) doc 0

-- what a token has: its text, its doc comment, and one
abbrev weight : Lexeme → ℕ
weight l = length l.text + doc_bytes l.doc + 1

abbrev total : List Lexeme → ℕ
total [] = 0
total (l ∷ ls) = weight l + total ls

-- a separator may be the doc comment of the next token
doc-grows : (c : Bool) (t : List ℕ) (doc : Option (List ℕ)) → doc_bytes (cond c (Some (encode_utf8_all t)) doc) ≤ doc_bytes doc + bytes t
doc-grows true t doc = omega arith
doc-grows false t doc = omega arith

lexed-few : (all offsets : List ℕ) (es : List Element) (text rest : List ℕ) (before : ℕ) (doc : Option (List ℕ)) → Reads text es rest → total (tokens_from all offsets before doc es) ≤ doc_bytes doc + 2 * bytes text
lexed-few all offsets [] text rest before doc reads = omega arith
lexed-few all offsets ((None, t) ∷ es) text rest before doc reads =
    let later : Option (List ℕ) = cond (is_doc t) (Some (encode_utf8_all t)) doc in
    omega (arith, doc-grows (is_doc t) t doc, both-bytes text t reads.0 reads.1.split, lexed-few all offsets es reads.0 rest (before + length t) later reads.2)
lexed-few all offsets ((Some kind, t) ∷ es) text rest before doc reads =
    omega (arith, some-bytes t (next_some text t reads.0 (Some kind) reads.1), both-bytes text t reads.0 reads.1.split, lexed-few all offsets es reads.0 rest (before + length t) None reads.2)

-- ---- their symbols

-- at most three symbols with the text and the doc comment of a token
three-few : (a b : Bool) (t : Lexeme) (n : ℕ)
    → sum_by bytes_of (cond a (closing false t ∷ closing true t ∷ []) (cond b (closing false t ∷ closing true t ∷ closing true t ∷ []) (symbol_of n false t ∷ []))) ≤ 3 * weight t
three-few true b t n = omega arith
three-few false true t n = omega arith
three-few false false t n = omega arith

symbols-few : (ts : List Lexeme) → sum_by bytes_of (symbols_of ts) ≤ 3 * total ts
symbols-few [] = omega arith
symbols-few (t ∷ ts) =
    let n = sort_of t.kind in
    omega (arith, sum_by-append bytes_of (symbols_before t ts) (symbols_of ts), three-few (n == 98) (n == 99) t (sort_before n ts), symbols-few ts)

pub small-symbols : (read : Chars) (ts : List Lexeme) → AreTokensIn read ts → IsSmall (symbols_of ts)
small-symbols read ts are =
    omega (arith, symbols-few ts, ap total are.2, lexed-few (codes_in read) (offsets_in read) are.0 (codes_in read) are.1.0 0 None are.1.1, ap length (encodes-chars (string_bytes read.text) (IsUtf8-string_bytes read.text)), read.small)
