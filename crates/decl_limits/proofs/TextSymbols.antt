-- The texts and the doc comments of the symbols of a file are in UTF-8, since each is the bytes of some of its characters.
use Rattle.std.proofs.Common.{◌≡◌, ◌==◌, ℕ, ◌+◌, Bool, true, false, cond, List, [], ◌∷◌, ◌++◌, length, Option, None, Some, refl, sym, subst, string_bytes}
use Rattle.std.specs.Str.{IsUtf8, all_scalars, encode_utf8_all}
use Rattle.std.proofs.lemmas.Str.{scalars-chars, IsUtf8-string_bytes}
use Rattle.java_tokens.specs.declared.chars.Chars.{Chars}
use Rattle.java_tokens.specs.Tokens.{Element, Reads, is_doc, Lexeme, tokens_from}
use Rattle.java_tokens.specs.TokensShown.{codes_in, offsets_in, AreTokensIn}
use Rattle.decl_grammar.specs.declared.symbol.Symbol.{Symbol}
use Rattle.decl_grammar.specs.SymbolList.{sort_of, sort_before, symbol_of, closing, symbols_of}
use Rattle.decl_limits.specs.Texts.{IsDocText, AreUtf8, AreTexts}
use Rattle.decl_limits.proofs.LegalDocs.{scalars-front, scalars-back}
use Rattle.decl_limits.proofs.SmallSymbols.{small-symbols}

-- ---- the tokens of a text

abbrev AllUtf8 : List Lexeme → Type 0
AllUtf8 [] = Unit {0}
AllUtf8 (l ∷ ls) = IsUtf8 l.text × IsDocText l.doc × AllUtf8 ls

encoded : (cs : List ℕ) → all_scalars cs ≡ true → IsUtf8 (encode_utf8_all cs)
encoded cs e = (cs, (e, refl))

later-doc : (c : Bool) (t : List ℕ) (doc : Option (List ℕ)) → IsUtf8 (encode_utf8_all t) → IsDocText doc → IsDocText (cond c (Some (encode_utf8_all t)) doc)
later-doc true t doc u d = u
later-doc false t doc u d = d

lexed-utf8 : (all offsets : List ℕ) (es : List Element) (text rest : List ℕ) (before : ℕ) (doc : Option (List ℕ)) → all_scalars text ≡ true → IsDocText doc → Reads text es rest → AllUtf8 (tokens_from all offsets before doc es)
lexed-utf8 all offsets [] text rest before doc scalars d reads = tt
lexed-utf8 all offsets ((None, t) ∷ es) text rest before doc scalars d reads =
    let whole = subst (λ (cs : List ℕ). all_scalars cs ≡ true) reads.1.split scalars in
    let later : Option (List ℕ) = cond (is_doc t) (Some (encode_utf8_all t)) doc in
    lexed-utf8 all offsets es reads.0 rest (before + length t) later (scalars-back t reads.0 whole) (later-doc (is_doc t) t doc (encoded t (scalars-front t reads.0 whole)) d) reads.2
lexed-utf8 all offsets ((Some kind, t) ∷ es) text rest before doc scalars d reads =
    let whole = subst (λ (cs : List ℕ). all_scalars cs ≡ true) reads.1.split scalars in
    (encoded t (scalars-front t reads.0 whole), d, lexed-utf8 all offsets es reads.0 rest (before + length t) None (scalars-back t reads.0 whole) tt reads.2)

-- ---- their symbols

-- one, two or three symbols with the text and the doc comment of a token
three-utf8 : (a b : Bool) (t : Lexeme) (n : ℕ) (ss : List Symbol) → IsUtf8 t.text → IsDocText t.doc → AreUtf8 ss
    → AreUtf8 (cond a (closing false t ∷ closing true t ∷ []) (cond b (closing false t ∷ closing true t ∷ closing true t ∷ []) (symbol_of n false t ∷ [])) ++ ss)
three-utf8 true b t n ss u d more = (u, d, (u, d, more))
three-utf8 false true t n ss u d more = (u, d, (u, d, (u, d, more)))
three-utf8 false false t n ss u d more = (u, d, more)

symbols-utf8 : (ts : List Lexeme) → AllUtf8 ts → AreUtf8 (symbols_of ts)
symbols-utf8 [] a = tt
symbols-utf8 (t ∷ ts) a =
    let n = sort_of t.kind in
    three-utf8 (n == 98) (n == 99) t (sort_before n ts) (symbols_of ts) a.0 a.1 (symbols-utf8 ts a.2)

pub text-symbols : (read : Chars) (ts : List Lexeme) → AreTokensIn read ts → AreTexts (symbols_of ts)
text-symbols read ts are =
    let scalars = scalars-chars (string_bytes read.text) (IsUtf8-string_bytes read.text) in
    let lexed = lexed-utf8 (codes_in read) (offsets_in read) are.0 (codes_in read) are.1.0 0 None scalars tt are.1.1 in
    (symbols-utf8 ts (subst AllUtf8 (sym are.2) lexed), small-symbols read ts are)
