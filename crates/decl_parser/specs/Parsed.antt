-- What reading a file returns: its units with the lines of their elements, the place of its first fault, or the limit that it passes first.
-- The limits of depth and of children are tested in the order of the symbols and before the first fault alone, and that of names last, in a file that has a reading.
use Rattle.std.specs.Prelude.{◌≡◌, ℕ, Bool, true, false, ◌||◌, List, [], ◌∷◌, length, map, ◌⊎◌, Option, Result, Ok, Err, slice_get, bytes_eq, codes, nat_eq}
use Rattle.std.specs.Option.{option_map_or}
use Rattle.std.specs.List.{ends_with}
use Rattle.apt_base.specs.declared.kinds.What.TheVariants as limits
use Rattle.apt_base.specs.Limits.{max_depth}
use Rattle.decl_tree.specs.declared.compilation.Import.{Import}
use Rattle.decl_grammar.specs.declared.written.TypeAt.{TypeAt}
use Rattle.java_tokens.specs.declared.fault.TextFault.{TextFault}
use Rattle.java_tokens.specs.declared.fault.TextFault.TheVariants as text
use Rattle.java_tokens.specs.declared.chars.Chars.{Chars}
use Rattle.java_tokens.specs.Characters.{Placed, AreChars, IsCharFault}
use Rattle.java_tokens.specs.Tokens.{Lexeme, AreTokens, IsTokenFault}
use Rattle.java_tokens.specs.TokensShown.{AreTokensIn, IsTokenFaultIn}
use Rattle.decl_grammar.specs.declared.symbol.Symbol.{Symbol}
use Rattle.decl_parser.specs.declared.parsing.Parsed.{Parsed}
use Rattle.decl_parser.specs.declared.parsing.FileFault.{FileFault}
use Rattle.decl_parser.specs.declared.parsing.FileFault.TheVariants as faults
use Rattle.decl_grammar.specs.SymbolList.{symbols_of}
use Rattle.decl_grammar.specs.Form.{Form}
use Rattle.decl_grammar.specs.Grammar.{Ordinary, Info, ordinary, package_info}
use Rattle.decl_grammar.specs.File.{IsFirstFault, IsFirstDeep}
use Rattle.decl_limits.specs.Limits.{IsWhole, AllLegal}
use Rattle.decl_limits.specs.Units.{Declared, units_from, units_of, info_units}
use Rattle.decl_limits.specs.Names.{is_named, info_named}
use Rattle.decl_limits.specs.Children.{IsCrowded}

-- the offset of the symbol with this number, or the length of the file where there is none
abbrev pub offset_at : ℕ → List Symbol → ℕ → ℕ
offset_at n ss end = option_map_or (λ s. s.start) (slice_get ss n) end

abbrev pub shown_parsed : Parsed → Declared
shown_parsed p = (p.units, p.lines)

-- the symbols of a file at which its child lists are looked at: all, or those before its first fault, or those before the first at which too much is open
abbrev pub AreSeen : {A : Type 0} → Form A → List Symbol → List Symbol → Type 0
AreSeen {A} f ts us =
    ((us ≡ ts) × ((x : A) × IsWhole f ts x))
    ⊎ (((at : List Symbol) × IsFirstFault f max_depth ts us at) ⊎ ((t : Symbol) × (vs : List Symbol) × IsFirstDeep f max_depth ts us t vs))

-- What the symbols of a file come to, where it is of this form, gives these units, has names that are short enough where this is true, and has child lists that are too long where
-- this holds of the symbols. At the same symbol depth comes before children.
pub data Answers {A : Type 0} (f : Form A) (units : A → Declared) (named : A → Bool) (crowded : List Symbol → Type 0) (end : ℕ) (ts : List Symbol) (result : Result Parsed FileFault) : Type 0 where
  -- its units, and the lines of their elements
  gives : (x : A) (parsed : Parsed) → result ≡ Ok parsed → IsWhole f ts x → (crowded ts → ⊥) → named x ≡ true → shown_parsed parsed ≡ units x → Answers f units named crowded end ts result
  -- the place of its first fault
  bad : (us at : List Symbol) (place : ℕ) → result ≡ Err (faults.Bad place) → IsFirstFault f max_depth ts us at → place ≡ offset_at 0 at end → (crowded us → ⊥) → Answers f units named crowded end ts result
  -- too much is open, before any fault and before a child list is too long
  too_deep : (us : List Symbol) (t : Symbol) (vs : List Symbol) → result ≡ Err (faults.TooLarge limits.Depth) → IsFirstDeep f max_depth ts us t vs → (crowded us → ⊥) → Answers f units named crowded end ts result
  -- a child list is too long, before any fault and before too much is open
  too_many : (us : List Symbol) → result ≡ Err (faults.TooLarge limits.Children) → AreSeen f ts us → crowded us → Answers f units named crowded end ts result
  -- a name is too long, in a file that has a reading within the other limits
  too_long : (x : A) → result ≡ Err (faults.TooLarge limits.Name) → IsWhole f ts x → (crowded ts → ⊥) → named x ≡ false → Answers f units named crowded end ts result
  -- memory ran out
  no_memory : result ≡ Err faults.Memory → Answers f units named crowded end ts result

-- no element of a file `package-info.java` has children
abbrev pub NoChildren : List Symbol → Type 0
NoChildren ts = ⊥

abbrev pub AnswersOrdinary : ℕ → List Symbol → Result Parsed FileFault → Type 0
AnswersOrdinary end ts result = Answers ordinary units_of is_named IsCrowded end ts result

abbrev pub AnswersInfo : ℕ → List Symbol → Result Parsed FileFault → Type 0
AnswersInfo end ts result = Answers package_info info_units info_named NoChildren end ts result

-- ---- a law

-- units with their lines as they are seen, a place or a limit
abbrev pub shown_answer : Result Parsed FileFault → Result Declared FileFault
shown_answer (Ok p) = Ok (shown_parsed p)
shown_answer (Err e) = Err e

-- two answers are the same, or one of them is out of memory
abbrev pub SameAnswer : Result Parsed FileFault → Result Parsed FileFault → Type 0
SameAnswer r s = (shown_answer r ≡ shown_answer s) ⊎ ((r ≡ Err faults.Memory) ⊎ (s ≡ Err faults.Memory))

-- the same symbols of a file of the same length have at most one answer but when memory runs out
abbrev pub HasOneAnswer : (ℕ → List Symbol → Result Parsed FileFault → Type 0) → Type 0
HasOneAnswer answers = (end : ℕ) (ts : List Symbol) (r s : Result Parsed FileFault) → answers end ts r → answers end ts s → SameAnswer r s

-- ---- from the bytes of a file on

-- the path of a file `package-info.java`
abbrev pub is_info : List ℕ → Bool
is_info path = bytes_eq path (codes "package-info.java") || ends_with nat_eq path (codes "/package-info.java")

-- characters, and the offset of each
abbrev pub codes_of : List Placed → List ℕ
codes_of cs = map (λ (c : Placed). c.0) cs

abbrev pub offsets_of : List Placed → List ℕ
offsets_of cs = map (λ (c : Placed). c.1) cs

-- a file has these symbols
abbrev pub HasSymbols : List ℕ → List Symbol → Type 0
HasSymbols bytes ss = (cs : List Placed) × (ts : List Lexeme) × AreChars bytes cs × AreTokens (codes_of cs) (offsets_of cs) ts × (ss ≡ symbols_of ts)

-- the place of a fault of its characters, or of its tokens
abbrev pub IsTextFault : List ℕ → ℕ → Type 0
IsTextFault bytes place = IsCharFault bytes place ⊎ ((cs : List Placed) × AreChars bytes cs × IsTokenFault (codes_of cs) (offsets_of cs) place)

abbrev pub AnswersSymbols : Bool → ℕ → List Symbol → Result Parsed FileFault → Type 0
AnswersSymbols true end ts result = AnswersInfo end ts result
AnswersSymbols false end ts result = AnswersOrdinary end ts result

-- What a file comes to: a fault of its characters or tokens comes before any of the grammar and before any limit.
pub data AnswersFile (path bytes : List ℕ) (result : Result Parsed FileFault) : Type 0 where
  text_bad : (place : ℕ) → result ≡ Err (faults.Bad place) → IsTextFault bytes place → AnswersFile path bytes result
  by_symbols : (ss : List Symbol) → HasSymbols bytes ss → AnswersSymbols (is_info path) (length bytes) ss result → AnswersFile path bytes result
  text_memory : result ≡ Err faults.Memory → AnswersFile path bytes result

-- ---- parts of this, as the functions have them

-- the first fault is at the symbol with this number, or at the end where that is how many there are
abbrev pub HasFaultAt : {A : Type 0} → Form A → ℕ → List Symbol → Type 0
HasFaultAt f n ts = (us : List Symbol) × (at : List Symbol) × (n ≡ length us) × IsFirstFault f max_depth ts us at

-- the symbol with this number is the first at which too much is open
abbrev pub IsDeepAt : {A : Type 0} → Form A → ℕ → List Symbol → Type 0
IsDeepAt f n ts = (us : List Symbol) × (t : Symbol) × (vs : List Symbol) × (n ≡ length us) × IsFirstDeep f max_depth ts us t vs

-- a fault, unless a child list is too long in the symbols before it, or memory ran out
pub data UnlessCrowded (us : List Symbol) (wanted result : FileFault) : Type 0 where
  first : result ≡ wanted → (IsCrowded us → ⊥) → UnlessCrowded us wanted result
  crowded : result ≡ faults.TooLarge limits.Children → IsCrowded us → UnlessCrowded us wanted result
  memory : result ≡ faults.Memory → UnlessCrowded us wanted result

abbrev pub UnitsLegal : List ℕ → List Import → List (List ℕ) → List (Option TypeAt) → Type 0
UnitsLegal pkg imports siblings ds = AllLegal (units_from pkg imports siblings ds)

abbrev pub UnitLegal : List ℕ → List Import → List (List ℕ) → Option TypeAt → Type 0
UnitLegal pkg imports siblings d = UnitsLegal pkg imports siblings (d ∷ [])

-- what was read, unless a name is too long or memory ran out
pub data NamedOr {A : Type 0} (named : A → Bool) (units : A → Declared) (x : A) (result : Result Parsed FileFault) : Type 0 where
  given : (parsed : Parsed) → result ≡ Ok parsed → named x ≡ true → shown_parsed parsed ≡ units x → NamedOr named units x result
  long : result ≡ Err (faults.TooLarge limits.Name) → named x ≡ false → NamedOr named units x result
  without_memory : result ≡ Err faults.Memory → NamedOr named units x result

abbrev pub GivesNamed : Ordinary → Result Parsed FileFault → Type 0
GivesNamed x result = NamedOr is_named units_of x result

abbrev pub GivesNamedInfo : Info → Result Parsed FileFault → Type 0
GivesNamedInfo x result = NamedOr info_named info_units x result

abbrev pub fault_of : TextFault → FileFault
fault_of (text.Bad place) = faults.Bad place
fault_of text.Memory = faults.Memory

-- what the characters of a file come to
pub data AnswersChars (info : Bool) (end : ℕ) (read : Chars) (result : Result Parsed FileFault) : Type 0 where
  token_bad : (place : ℕ) → result ≡ Err (faults.Bad place) → IsTokenFaultIn read place → AnswersChars info end read result
  by_tokens : (ts : List Lexeme) → AreTokensIn read ts → AnswersSymbols info end (symbols_of ts) result → AnswersChars info end read result
  token_memory : result ≡ Err faults.Memory → AnswersChars info end read result
