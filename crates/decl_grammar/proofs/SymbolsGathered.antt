-- The symbols of a file, gathered as its tokens are read.
use Rattle.std.proofs.Common.{◌≡◌, ◌+◌, ◌<◌, List, [], ◌∷◌, ◌++◌, length, Option, None, Some, Result, Ok, Err, sym, ap, subst, ◌∙◌, append_assoc, append-nil, arith}
use Rattle.std.specs.Prelude.{IsErrAnd, MatchResult}
use Rattle.java_tokens.specs.declared.token.Token.{Token}
use Rattle.java_tokens.specs.declared.chars.Chars.{Chars}
use Rattle.java_tokens.specs.declared.token_reader.TokenReader.{TokenReader}
use Rattle.java_tokens.specs.declared.fault.TextFault.{TextFault}
use Rattle.java_tokens.specs.declared.fault.TextFault.TheVariants.{Memory}
use Rattle.java_tokens.specs.CharsShown.{FaultAt}
use Rattle.java_tokens.specs.Tokens.{Lexeme}
use Rattle.java_tokens.specs.TokensShown.{shown_token, AreTokensIn, IsTokenFaultIn}
use Rattle.java_tokens.specs.TokenReading.{HasRead, ReadsOn}
use Rattle.decl_grammar.specs.declared.symbol.Symbol.{Symbol}
use Rattle.decl_grammar.specs.SymbolList.{symbols_before, symbols_of, shown_next, shown_before}
use Rattle.decl_grammar.specs.SymbolReading.{IsGathering, Gathers, BeginWith, AreFirstOf}

-- where there is a last one
pub gathers-some : (read : Chars) (reader : TokenReader) (last : Option Token) (token : Token) (found : List Symbol) → last ≡ Some token → Gathers read reader last found → IsGathering read reader token found
gathers-some read reader last token found is g = subst (λ (t : Option Token). Gathers read reader t found) is g

-- where there is none
pub gathers-none : (read : Chars) (reader : TokenReader) (last : Option Token) (found : List Symbol) → last ≡ None → Gathers read reader last found → (ts : List Lexeme) × AreTokensIn read ts × (found ≡ symbols_of ts)
gathers-none read reader last found is g = subst (λ (t : Option Token). Gathers read reader t found) is g

-- what a call for the next token asks for
pub can-read : (read : Chars) (reader : TokenReader) (ts : List Lexeme) → HasRead read ts reader → HasRead reader.chars.now ts reader
can-read read reader ts h = subst (λ (r : Chars). HasRead r ts reader) (sym h.file) h

-- before the first token
pub gathers-first : (read : Chars) (old new : TokenReader) (next : Option Token) (found : List Symbol) → HasRead read [] old → ReadsOn old [] new (Ok next) → found ≡ [] → Gathers read new next found
gathers-first read old new None found h (are, same) none = ([], subst (λ (r : Chars). AreTokensIn r []) h.file are, none)
gathers-first read old new (Some token) found h on none = record {
  done = [];
  has_read = subst (λ (r : Chars). HasRead r (shown_token token ∷ []) new) h.file on.0;
  shown = λ more. ap (λ ss. ss ++ symbols_of (shown_token token ∷ more)) (sym none);
}

-- one token more
pub gathers-more : (read : Chars) (old new : TokenReader) (last : Token) (next : Option Token) (found all : List Symbol) (g : IsGathering read old last found) → ReadsOn old (g.done ++ shown_token last ∷ []) new (Ok next) → all ≡ found ++ shown_before last next → Gathers read new next all
gathers-more read old new last None found all g (are, same) put =
    (g.done ++ shown_token last ∷ [], subst (λ (r : Chars). AreTokensIn r (g.done ++ shown_token last ∷ [])) g.has_read.file are, put ∙ (ap (λ ss. found ++ ss) (sym (append-nil (symbols_before (shown_token last) []))) ∙ sym (g.shown [])))
gathers-more read old new last (Some token) found all g on put = record {
  done = g.done ++ shown_token last ∷ [];
  has_read = subst (λ (r : Chars). HasRead r ((g.done ++ shown_token last ∷ []) ++ shown_token token ∷ []) new) g.has_read.file on.0;
  shown = λ more.
      ap symbols_of (append_assoc g.done (shown_token last ∷ []) (shown_token token ∷ more))
      ∙ (g.shown (shown_token token ∷ more)
      ∙ (sym (append_assoc found (symbols_before (shown_token last) (shown_token token ∷ [])) (symbols_of (shown_token token ∷ more)))
      ∙ ap (λ ss. ss ++ symbols_of (shown_token token ∷ more)) (sym put)));
}

-- a fault of the tokens
pub fault-read : (read : Chars) (old new : TokenReader) (ts : List Lexeme) (fault : TextFault) → HasRead read ts old → ReadsOn old ts new (Err fault) → FaultAt (IsTokenFaultIn read) fault
fault-read read old new ts fault h (place, is, bad, same) = subst (FaultAt (IsTokenFaultIn read)) (sym is) (subst (λ (r : Chars). IsTokenFaultIn r place) h.file bad)

-- out of memory
pub fault-memory : (read : Chars) (fault : TextFault) → fault ≡ Memory → FaultAt (IsTokenFaultIn read) fault
fault-memory read fault is = subst (FaultAt (IsTokenFaultIn read)) (sym is) tt

-- what a fault is answered with
pub fails-as : {X : Type 0} (read : Chars) (P : X → Type 0) (result : Result X TextFault) (fault : TextFault) → IsErrAnd result (λ e. e ≡ fault) → FaultAt (IsTokenFaultIn read) fault
    → MatchResult result P (FaultAt (IsTokenFaultIn read))
fails-as read P (Ok x) fault is at = absurd is
fails-as read P (Err e) fault is at = subst (FaultAt (IsTokenFaultIn read)) (sym is) at

-- the loop ends: with each token less is left to read, and behind the last one nothing is held
pub nearer : (old new : TokenReader) (ts : List Lexeme) (last next : Option Token) (token : Token) → last ≡ Some token → ReadsOn old ts new (Ok next) → length new.rest.now + length (shown_next next) < length old.rest.now + length (shown_next last)
nearer old new ts last None token is (are, same) = omega (arith, ap (λ (r : TokenReader). length r.rest.now) same, ap (λ (t : Option Token). length (shown_next t)) is)
nearer old new ts last (Some after) token is (read, less) = omega (arith, less, ap (λ (t : Option Token). length (shown_next t)) is)

-- all symbols are the first ones of themselves
pub first-all : (all : List Symbol) → AreFirstOf all all
first-all all = ([], sym (append-nil all))

-- and of themselves with more behind them
pub first-more : (found all more new : List Symbol) → AreFirstOf found all → new ≡ all ++ more → AreFirstOf found new
first-more found all more new (behind, is) put = (behind ++ more, put ∙ (ap (λ ss. ss ++ more) is ∙ append_assoc found behind more))

-- ---- the rest of the tokens is read for a fault alone

-- whatever tokens come behind the last one, these symbols are the first ones of all
pub record IsPassing (read : Chars) (reader : TokenReader) (last : Token) (found : List Symbol) : Type 0 where
  pub done : List Lexeme
  pub has_read : HasRead read (done ++ shown_token last ∷ []) reader
  pub front : (more : List Lexeme) → (behind : List Symbol) × (symbols_of (done ++ shown_token last ∷ more) ≡ found ++ behind)

-- the same where there is a last one, and of all tokens of the file where there is none
abbrev pub Passes : Chars → TokenReader → Option Token → List Symbol → Type 0
Passes read reader None found = BeginWith read found
Passes read reader (Some last) found = IsPassing read reader last found

pub passes-some : (read : Chars) (reader : TokenReader) (last : Option Token) (token : Token) (found : List Symbol) → last ≡ Some token → Passes read reader last found → IsPassing read reader token found
passes-some read reader last token found is p = subst (λ (t : Option Token). Passes read reader t found) is p

pub passes-none : (read : Chars) (reader : TokenReader) (last : Option Token) (found : List Symbol) → last ≡ None → Passes read reader last found → BeginWith read found
passes-none read reader last found is p = subst (λ (t : Option Token). Passes read reader t found) is p

-- from the symbols that were gathered on
pub passes-first : (read : Chars) (reader : TokenReader) (last : Option Token) (found : List Symbol) → Gathers read reader last found → Passes read reader last found
passes-first read reader None found (ts, are, is) = (ts, [], are, sym is ∙ sym (append-nil found))
passes-first read reader (Some last) found g = record {
  done = g.done;
  has_read = g.has_read;
  front = λ more. (symbols_of (shown_token last ∷ more), g.shown more);
}

-- one token more
pub passes-more : (read : Chars) (old new : TokenReader) (last : Token) (next : Option Token) (found : List Symbol) (p : IsPassing read old last found) → ReadsOn old (p.done ++ shown_token last ∷ []) new (Ok next) → Passes read new next found
passes-more read old new last None found p (are, same) =
    let f = p.front [] in
    (p.done ++ shown_token last ∷ [], f.0, subst (λ (r : Chars). AreTokensIn r (p.done ++ shown_token last ∷ [])) p.has_read.file are, f.1)
passes-more read old new last (Some token) found p on = record {
  done = p.done ++ shown_token last ∷ [];
  has_read = subst (λ (r : Chars). HasRead r ((p.done ++ shown_token last ∷ []) ++ shown_token token ∷ []) new) p.has_read.file on.0;
  front = λ more.
      let f = p.front (shown_token token ∷ more) in
      (f.0, ap symbols_of (append_assoc p.done (shown_token last ∷ []) (shown_token token ∷ more)) ∙ f.1);
}
