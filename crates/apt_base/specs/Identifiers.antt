-- Identifiers (JLS 3.8), names of dots, and the patterns by which a processor names the annotations that it supports.
use Rattle.std.specs.Prelude.{ℕ, suc, Bool, false, not, ◌&&◌, ◌||◌, ◌==◌, ◌≡◌, ◌<◌, List, [], ◌∷◌, ◌++◌, length, get_or, codes, if◌then◌else◌}
use Rattle.std.specs.List.{list_any, list_all}
use Rattle.std.specs.Str.{bytes_eq, chars}
use Rattle.unicode_ident.specs.Ident.{is_xid_start, is_xid_continue}

-- the keywords (JLS 3.9), in the order of the alphabet, with `_` last
abbrev pub keywords : List (List ℕ)
keywords =
    codes "abstract" ∷ codes "assert" ∷ codes "boolean" ∷ codes "break" ∷ codes "byte" ∷ codes "case" ∷
    codes "catch" ∷ codes "char" ∷ codes "class" ∷ codes "const" ∷ codes "continue" ∷ codes "default" ∷
    codes "do" ∷ codes "double" ∷ codes "else" ∷ codes "enum" ∷ codes "extends" ∷ codes "final" ∷
    codes "finally" ∷ codes "float" ∷ codes "for" ∷ codes "goto" ∷ codes "if" ∷ codes "implements" ∷
    codes "import" ∷ codes "instanceof" ∷ codes "int" ∷ codes "interface" ∷ codes "long" ∷ codes "native" ∷
    codes "new" ∷ codes "package" ∷ codes "private" ∷ codes "protected" ∷ codes "public" ∷ codes "return" ∷
    codes "short" ∷ codes "static" ∷ codes "strictfp" ∷ codes "super" ∷ codes "switch" ∷
    codes "synchronized" ∷ codes "this" ∷ codes "throw" ∷ codes "throws" ∷ codes "transient" ∷ codes "try" ∷
    codes "void" ∷ codes "volatile" ∷ codes "while" ∷ codes "_" ∷ []

-- the literals that are no identifiers either (JLS 3.10.3, 3.10.7)
abbrev pub word_literals : List (List ℕ)
word_literals = codes "true" ∷ codes "false" ∷ codes "null" ∷ []

abbrev pub reserved_words : List (List ℕ)
reserved_words = keywords ++ word_literals

-- texts with the numbers from one on
abbrev pub numbered : ℕ → List (List ℕ) → List (List ℕ × ℕ)
numbered n [] = []
numbered n (text ∷ texts) = (text, n) ∷ numbered (suc n) texts

unfoldable pub is_reserved : List ℕ → Bool
is_reserved text = list_any (bytes_eq text) reserved_words

-- `_` is 95 and `$` is 36
abbrev pub starts_identifier : ℕ → Bool
starts_identifier c = is_xid_start c || (c == 95) || (c == 36)

abbrev pub continues_identifier : ℕ → Bool
continues_identifier c = is_xid_continue c || (c == 36)

abbrev pub is_word : List ℕ → Bool
is_word [] = false
is_word (c ∷ cs) = starts_identifier c && list_all continues_identifier cs

unfoldable pub is_identifier : List ℕ → Bool
is_identifier text = is_word (chars text) && not (is_reserved text)

-- the parts that dots, which are 46, join
abbrev pub to_first : ℕ → List (List ℕ) → List (List ℕ)
to_first c [] = (c ∷ []) ∷ []
to_first c (part ∷ parts) = (c ∷ part) ∷ parts

abbrev pub parts : List ℕ → List (List ℕ)
parts [] = [] ∷ []
parts (c ∷ cs) = if c == 46 then [] ∷ parts cs else to_first c (parts cs)

abbrev pub HasNoDot : List ℕ → Type 0
HasNoDot text = (i : ℕ) → i < length text → get_or text i 0 ≡ 46 → ⊥

-- a text in two parts, of which the first has no dot, and a dot between them
abbrev pub IsSplit : List ℕ → List ℕ → List ℕ → Type 0
IsSplit text first rest = (text ≡ first ++ (46 ∷ rest)) × HasNoDot first

-- each part is an identifier, but the last of them may be what is asked of it
abbrev pub names_then : (List ℕ → Bool) → List (List ℕ) → Bool
names_then ends [] = false
names_then ends (last ∷ []) = ends last
names_then ends (part ∷ next ∷ more) = is_identifier part && names_then ends (next ∷ more)

-- identifiers joined by dots
unfoldable pub is_dotted : List ℕ → Bool
is_dotted text = names_then is_identifier (parts text)

abbrev pub is_star : List ℕ → Bool
is_star text = bytes_eq text (codes "*")

-- identifiers joined by dots, the same followed by `.*`, or `*`
unfoldable pub is_pattern : List ℕ → Bool
is_pattern text = names_then (λ last. is_star last || is_identifier last) (parts text)
