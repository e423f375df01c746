-- What reading the symbols of a file returns, put together: a whole file, its first fault, or too much open, each with what the walk over the child lists says.
use Rattle.std.proofs.Common.{◌≡◌, ℕ, Bool, true, false, List, [], ◌∷◌, ◌++◌, inl, inr, length, take, Result, Ok, Err, refl, sym, ap, subst, ◌∙◌}
use Rattle.std.proofs.lemmas.List.{append-nil}
use Rattle.apt_base.specs.declared.kinds.What.TheVariants as limits
use Rattle.apt_base.specs.declared.memory.NoMemory.{NoMemory}
use Rattle.decl_grammar.specs.declared.symbol.Symbol.{Symbol}
use Rattle.java_tokens.specs.declared.chars.Chars.{Chars}
use Rattle.java_tokens.specs.declared.fault.TextFault.{TextFault}
use Rattle.java_tokens.specs.declared.fault.TextFault.TheVariants as text
use Rattle.java_tokens.specs.Characters.{AreChars, IsCharFault}
use Rattle.java_tokens.specs.CharsShown.{FaultAt}
use Rattle.java_tokens.specs.Tokens.{Lexeme}
use Rattle.java_tokens.specs.TokensShown.{placed_in, AreTokensIn, IsTokenFaultIn}
use Rattle.decl_grammar.specs.SymbolList.{symbols_of}
use Rattle.decl_parser.specs.declared.parsing.Parsed.{Parsed}
use Rattle.decl_parser.specs.declared.parsing.FileFault.{FileFault}
use Rattle.decl_parser.specs.declared.parsing.FileFault.TheVariants as faults
use Rattle.decl_grammar.specs.Grammar.{Ordinary, Info, ordinary, package_info}
use Rattle.decl_grammar.specs.File.{IsPhrase, BeginsPhrase}
use Rattle.decl_grammar.proofs.Prefixes.{phrase-front, reading-front}
use Rattle.decl_children.specs.Fronts.{Tells}
use Rattle.decl_limits.specs.Children.{IsCrowded}
use Rattle.decl_limits.specs.Limits.{IsWhole}
use Rattle.decl_parser.proofs.Places.{place-there}
use Rattle.decl_parser.proofs.ShownChars.{tokens-placed, fault-placed}
use Rattle.decl_parser.specs.Parsed.{offset_at, HasFaultAt, IsDeepAt, NoChildren, AnswersOrdinary, AnswersInfo, AnswersSymbols, gives, bad, too_deep, too_many, too_long, no_memory, UnlessCrowded, first, crowded, memory, given, long, without_memory, is_info, fault_of, AnswersChars, token_bad, by_tokens, token_memory, AnswersFile, text_bad, by_symbols, text_memory, GivesNamed, GivesNamedInfo}

take-front : (us at : List Symbol) → take (length us) (us ++ at) ≡ us
take-front [] at = refl
take-front (u ∷ us) at = ap (λ (xs : List Symbol). u ∷ xs) (take-front us at)

-- the symbols before the one with this number
taken : (us at ts : List Symbol) (n : ℕ) → n ≡ length us → ts ≡ us ++ at → take n ts ≡ us
taken us at ts n is parts = ap (λ (k : ℕ). take k ts) is ∙ (ap (λ (xs : List Symbol). take (length us) xs) parts ∙ take-front us at)

-- ---- the walk is asked of symbols that begin a file

pub begins-whole : (ts : List Symbol) (x : Ordinary) → IsPhrase ordinary ts x → (n : ℕ) × BeginsPhrase ordinary ts n
begins-whole ts x is = reading-front ordinary ts [] x (subst (λ (us : List Symbol). IsPhrase ordinary us x) (sym (append-nil ts)) is)

pub begins-fault : (ts before : List Symbol) (n : ℕ) → HasFaultAt ordinary n ts → before ≡ take n ts → (k : ℕ) × BeginsPhrase ordinary before k
begins-fault ts before n w is =
    subst (λ (xs : List Symbol). (k : ℕ) × BeginsPhrase ordinary xs k) (sym (is ∙ taken w.0 w.1 ts n w.2 w.3.parts)) w.3.begins

pub begins-deep : (ts before : List Symbol) (n : ℕ) → IsDeepAt ordinary n ts → before ≡ take n ts → (k : ℕ) × BeginsPhrase ordinary before k
begins-deep ts before n w is =
    subst (λ (xs : List Symbol). (k : ℕ) × BeginsPhrase ordinary xs k) (sym (is ∙ taken w.0 (w.1 ∷ w.2) ts n w.3 w.4.parts))
    (phrase-front ordinary w.0 (w.1 ∷ []) w.4.open_there.0 w.4.open_there.2)

-- ---- what the walk answers

pub crowded-unless : (us : List Symbol) (wanted : FileFault) (full : Bool) → full ≡ true → Tells {E = NoMemory} (IsCrowded us) (Ok full) → UnlessCrowded us wanted (faults.TooLarge limits.Children)
crowded-unless us wanted true is told = crowded refl told
crowded-unless us wanted false is told = absurd cc

pub clear-unless : (us : List Symbol) (wanted : FileFault) (full : Bool) → full ≡ false → Tells {E = NoMemory} (IsCrowded us) (Ok full) → UnlessCrowded us wanted wanted
clear-unless us wanted true is told = absurd cc
clear-unless us wanted false is told = first refl told

pub memory-unless : (us : List Symbol) (wanted : FileFault) → UnlessCrowded us wanted faults.Memory
memory-unless us wanted = memory refl

pub is-clear : (us : List Symbol) (full : Bool) → full ≡ false → Tells {E = NoMemory} (IsCrowded us) (Ok full) → IsCrowded us → ⊥
is-clear us true is told = absurd cc
is-clear us false is told = told

-- ---- the answers

pub bad-answers : (ts before : List Symbol) (n place end : ℕ) (e : FileFault) → HasFaultAt ordinary n ts → place ≡ offset_at n ts end → before ≡ take n ts
    → UnlessCrowded before (faults.Bad place) e → AnswersOrdinary end ts (Err e)
bad-answers ts before n place end e w placed is u = go (subst (λ (xs : List Symbol). UnlessCrowded xs (faults.Bad place) e) (is ∙ taken w.0 w.1 ts n w.2 w.3.parts) u)
  where
    there : place ≡ offset_at 0 w.1 end
    there = place-there ordinary n place end ts w placed

    go : UnlessCrowded w.0 (faults.Bad place) e → AnswersOrdinary end ts (Err e)
    go (first same few) = bad w.0 w.1 place (ap Err same) w.3 there few
    go (crowded same full) = too_many w.0 (ap Err same) (inr (inl (w.1, w.3))) full
    go (memory same) = no_memory (ap Err same)

pub deep-answers : (ts before : List Symbol) (n end : ℕ) (e : FileFault) → IsDeepAt ordinary n ts → before ≡ take n ts
    → UnlessCrowded before (faults.TooLarge limits.Depth) e → AnswersOrdinary end ts (Err e)
deep-answers ts before n end e w is u = go (subst (λ (xs : List Symbol). UnlessCrowded xs (faults.TooLarge limits.Depth) e) (is ∙ taken w.0 (w.1 ∷ w.2) ts n w.3 w.4.parts) u)
  where
    go : UnlessCrowded w.0 (faults.TooLarge limits.Depth) e → AnswersOrdinary end ts (Err e)
    go (first same few) = too_deep w.0 w.1 w.2 (ap Err same) w.4 few
    go (crowded same full) = too_many w.0 (ap Err same) (inr (inr (w.1, w.2, w.4))) full
    go (memory same) = no_memory (ap Err same)

pub whole-answers : (ts : List Symbol) (x : Ordinary) (end : ℕ) (r : Result Parsed FileFault) (full : Bool) → IsWhole ordinary ts x → full ≡ false → Tells {E = NoMemory} (IsCrowded ts) (Ok full) → GivesNamed x r → AnswersOrdinary end ts r
whole-answers ts x end r full w is told named = go (is-clear ts full is told) named
  where
    go : (IsCrowded ts → ⊥) → GivesNamed x r → AnswersOrdinary end ts r
    go few (given parsed same named shown) = gives x parsed same w few named shown
    go few (long same not_named) = too_long x same w few not_named
    go few (without_memory same) = no_memory same

pub crowded-answers : (ts : List Symbol) (x : Ordinary) (end : ℕ) (full : Bool) → IsWhole ordinary ts x → full ≡ true → Tells {E = NoMemory} (IsCrowded ts) (Ok full) → AnswersOrdinary end ts (Err (faults.TooLarge limits.Children))
crowded-answers ts x end true w is told = too_many ts refl (inl (refl, (x, w))) told
crowded-answers ts x end false w is told = absurd cc

pub memory-answers : (ts : List Symbol) (end : ℕ) → AnswersOrdinary end ts (Err faults.Memory)
memory-answers ts end = no_memory refl

-- ---- files `package-info.java`, in which nothing has children

none : (us : List Symbol) → NoChildren us → ⊥
none us c = c

pub info-bad : (ts : List Symbol) (n place end : ℕ) → HasFaultAt package_info n ts → place ≡ offset_at n ts end → AnswersInfo end ts (Err (faults.Bad place))
info-bad ts n place end w placed = bad w.0 w.1 place refl w.3 (place-there package_info n place end ts w placed) (none w.0)

pub info-deep : (ts : List Symbol) (n end : ℕ) → IsDeepAt package_info n ts → AnswersInfo end ts (Err (faults.TooLarge limits.Depth))
info-deep ts n end w = too_deep w.0 w.1 w.2 refl w.4 (none w.0)

pub info-whole : (ts : List Symbol) (x : Info) (end : ℕ) (r : Result Parsed FileFault) → IsWhole package_info ts x → GivesNamedInfo x r → AnswersInfo end ts r
info-whole ts x end r w (given parsed same named shown) = gives x parsed same w (none ts) named shown
info-whole ts x end r w (long same not_named) = too_long x same w (none ts) not_named
info-whole ts x end r w (without_memory same) = no_memory same

pub info-memory : (ts : List Symbol) (end : ℕ) → AnswersInfo end ts (Err faults.Memory)
info-memory ts end = no_memory refl

-- ---- from the symbols of a file on

pub symbols-info : (info : Bool) (end : ℕ) (ts : List Symbol) (r : Result Parsed FileFault) → info ≡ true → AnswersInfo end ts r → AnswersSymbols info end ts r
symbols-info true end ts r is answer = answer
symbols-info false end ts r is answer = absurd cc

pub symbols-ordinary : (info : Bool) (end : ℕ) (ts : List Symbol) (r : Result Parsed FileFault) → info ≡ false → AnswersOrdinary end ts r → AnswersSymbols info end ts r
symbols-ordinary true end ts r is answer = absurd cc
symbols-ordinary false end ts r is answer = answer

-- ---- from the characters of a file on

pub chars-symbols : (info : Bool) (end : ℕ) (read : Chars) (ts : List Lexeme) (row : List Symbol) (r : Result Parsed FileFault) → AreTokensIn read ts → row ≡ symbols_of ts → AnswersSymbols info end row r → AnswersChars info end read r
chars-symbols info end read ts row r are same answer = by_tokens ts are (subst (λ (xs : List Symbol). AnswersSymbols info end xs r) same answer)

pub chars-fault : (info : Bool) (end : ℕ) (read : Chars) (fault : TextFault) (e : FileFault) → e ≡ fault_of fault → FaultAt (IsTokenFaultIn read) fault → AnswersChars info end read (Err e)
chars-fault info end read (text.Bad place) e is at = token_bad place (ap Err is) at
chars-fault info end read text.Memory e is at = token_memory (ap Err is)

pub file-chars : (path bytes : List ℕ) (info : Bool) (end : ℕ) (read : Chars) (r : Result Parsed FileFault) → info ≡ is_info path → end ≡ length bytes → AreChars bytes (placed_in read) → AnswersChars info end read r → AnswersFile path bytes r
file-chars path bytes info end read r is length_is are answer =
    go (subst (λ (n : ℕ). AnswersChars (is_info path) n read r) length_is (subst (λ (b : Bool). AnswersChars b end read r) is answer))
  where
    go : AnswersChars (is_info path) (length bytes) read r → AnswersFile path bytes r
    go (token_bad place same fault) = text_bad place same (inr (placed_in read, are, fault-placed read place fault))
    go (by_tokens ts tokens answer) = by_symbols (symbols_of ts) (placed_in read, ts, are, tokens-placed read ts tokens, refl) answer
    go (token_memory same) = text_memory same

pub file-fault : (path bytes : List ℕ) (fault : TextFault) (e : FileFault) → e ≡ fault_of fault → FaultAt (IsCharFault bytes) fault → AnswersFile path bytes (Err e)
file-fault path bytes (text.Bad place) e is at = text_bad place (ap Err is) (inl at)
file-fault path bytes text.Memory e is at = text_memory (ap Err is)
