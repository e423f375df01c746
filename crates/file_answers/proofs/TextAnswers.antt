-- A file has symbols, or a place where its characters or tokens stop; never both, and one of either.
use Rattle.std.proofs.Common.{◌≡◌, ℕ, List, ◌⊎◌, inl, inr, refl, sym, ap, subst, ◌∙◌}
use Rattle.java_tokens.specs.Characters.{Placed, AreChars, IsDecided}
use Rattle.java_tokens.specs.Tokens.{Lexeme, AreTokens, IsTokenFault, HasTokens}
use Rattle.java_tokens.proofs.Laws as chars
use Rattle.java_tokens.proofs.Totals as decided_chars
use Rattle.java_tokens.proofs.Lists as tokens
use Rattle.decl_grammar.specs.declared.symbol.Symbol.{Symbol}
use Rattle.decl_grammar.specs.SymbolList.{symbols_of}
use Rattle.decl_parser.specs.Parsed.{codes_of, offsets_of, HasSymbols, IsTextFault}

-- ---- one of the two

abbrev pub Symbolled : List ℕ → Type 0
Symbolled bytes = ((ss : List Symbol) × HasSymbols bytes ss) ⊎ ((place : ℕ) × IsTextFault bytes place)

by_tokens : (bytes : List ℕ) (cs : List Placed) → AreChars bytes cs → HasTokens (codes_of cs) (offsets_of cs) → Symbolled bytes
by_tokens bytes cs are (inl found) = inl (symbols_of found.0, (cs, found.0, are, found.1, refl))
by_tokens bytes cs are (inr stop) = inr (stop.0, inr (cs, are, stop.1))

by_chars : (bytes : List ℕ) → IsDecided bytes → Symbolled bytes
by_chars bytes (inl found) = by_tokens bytes found.0 found.1 (tokens.list_or_place (codes_of found.0) (offsets_of found.0))
by_chars bytes (inr stop) = inr (stop.0, inl stop.1)

pub symbols-or-place : (bytes : List ℕ) → Symbolled bytes
symbols-or-place bytes = by_chars bytes (decided_chars.list_or_place bytes)

-- ---- one of either

-- tokens of the same characters
moved : (cs ds : List Placed) (ts : List Lexeme) → cs ≡ ds → AreTokens (codes_of cs) (offsets_of cs) ts → AreTokens (codes_of ds) (offsets_of ds) ts
moved cs ds ts same are = subst (λ (xs : List Placed). AreTokens (codes_of xs) (offsets_of xs) ts) same are

pub one-symbols : (bytes : List ℕ) (ss ts : List Symbol) → HasSymbols bytes ss → HasSymbols bytes ts → ss ≡ ts
one-symbols bytes ss ts (cs, ls, are, lexed, is) (ds, ms, are', lexed', is') =
    let lexemes : ls ≡ ms = tokens.one_list (codes_of ds) (offsets_of ds) ls ms (moved cs ds ls (chars.one_list bytes cs ds are are') lexed) lexed' in
    is ∙ ap symbols_of lexemes ∙ sym is'

pub never-both : (bytes : List ℕ) (ss : List Symbol) (place : ℕ) → HasSymbols bytes ss → IsTextFault bytes place → ⊥
never-both bytes ss place (cs, ls, are, lexed, is) (inl stop) = chars.never_both bytes cs place are stop
never-both bytes ss place (cs, ls, are, lexed, is) (inr (ds, are', stop)) = tokens.never_both (codes_of ds) (offsets_of ds) ls place (moved cs ds ls (chars.one_list bytes cs ds are are') lexed) stop

pub one-stop : (bytes : List ℕ) (p q : ℕ) → IsTextFault bytes p → IsTextFault bytes q → p ≡ q
one-stop bytes p q (inl stop) (inl stop') = chars.one_place bytes p q stop stop'
one-stop bytes p q (inl stop) (inr (ds, are, stop')) = absurd (chars.never_both bytes ds p are stop)
one-stop bytes p q (inr (cs, are, stop)) (inl stop') = absurd (chars.never_both bytes cs q are stop')
one-stop bytes p q (inr (cs, are, stop)) (inr (ds, are', stop')) =
    let same : cs ≡ ds = chars.one_list bytes cs ds are are' in
    tokens.one_place (codes_of ds) (offsets_of ds) p q (subst (λ (xs : List Placed). IsTokenFault (codes_of xs) (offsets_of xs) p) same stop) stop'
