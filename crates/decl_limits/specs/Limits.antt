-- Files within the limits, and the laws on them: what they declare is legal.
use Rattle.std.specs.Prelude.{◌≡◌, ℕ, ◌+◌, ◌*◌, ◌≤◌, true, List, [], ◌∷◌}
use Rattle.apt_base.specs.Limits.{max_children, max_depth}
use Rattle.decl_tree.specs.declared.compilation.UnitText.{UnitText}
use Rattle.decl_tree.specs.Legal.{is_legal}
use Rattle.java_tokens.specs.declared.chars.Chars.{Chars}
use Rattle.java_tokens.specs.Tokens.{Lexeme}
use Rattle.java_tokens.specs.TokensShown.{AreTokensIn}
use Rattle.decl_grammar.specs.declared.symbol.Symbol.{Symbol}
use Rattle.decl_grammar.specs.SymbolList.{symbols_of}
use Rattle.decl_grammar.specs.Form.{Form}
use Rattle.decl_grammar.specs.Grammar.{Ordinary, Info, ordinary, package_info}
use Rattle.decl_grammar.specs.File.{IsPhrase, IsShallow}
use Rattle.decl_limits.specs.Texts.{AreTexts}
use Rattle.decl_limits.specs.Units.{units_of, info_units}
use Rattle.decl_limits.specs.Names.{is_named, info_named}
use Rattle.decl_limits.specs.Children.{IsCrowded}
use Rattle.decl_limits.specs.Separators.{most_separators}

-- the symbols are a file, at none of which more is open than may be
abbrev pub IsWhole : {A : Type 0} → Form A → List Symbol → A → Type 0
IsWhole f ts x = IsPhrase f ts x × IsShallow f max_depth ts

abbrev pub AllLegal : List UnitText → Type 0
AllLegal [] = Unit {0}
AllLegal (u ∷ us) = (is_legal u ≡ true) × AllLegal us

-- the units of what a file declares are legal where its names are short enough
abbrev pub AreLegal : Ordinary → Type 0
AreLegal x = is_named x ≡ true → AllLegal (units_of x).0

abbrev pub IsLegalInfo : Info → Type 0
IsLegalInfo x = info_named x ≡ true → AllLegal (info_units x).0

-- ---- laws

-- Symbols are not crowded where within no braces more of them separate than half as many as a child list may have items, less two. Each item has a separator of its own, the type parameters of a type in
-- what stands around it and its members in its braces, but for the first one of either, and for at most three that the language adds to a type.
abbrev pub FewAreNotCrowded : Type 0
FewAreNotCrowded = (ts : List Symbol) → 4 + 2 * most_separators ts ≤ max_children → IsCrowded ts → ⊥

-- The units of an ordinary file are legal, where its symbols are those of a text, at none of them too much is open, no child list is too long and its names are short enough.
abbrev pub HasLegalUnits : Type 0
HasLegalUnits = (ts : List Symbol) (x : Ordinary) → AreTexts ts → IsWhole ordinary ts x → (IsCrowded ts → ⊥) → AreLegal x

-- the same of a file `package-info.java`, in which nothing has children
abbrev pub HasLegalInfo : Type 0
HasLegalInfo = (ts : List Symbol) (x : Info) → AreTexts ts → IsWhole package_info ts x → IsLegalInfo x

-- the symbols of the tokens of a file are those of a text
abbrev pub TokensAreTexts : Type 0
TokensAreTexts = (read : Chars) (ts : List Lexeme) → AreTokensIn read ts → AreTexts (symbols_of ts)
