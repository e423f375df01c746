-- The words of a line: kinds of elements by the names of `ElementKind` (JSR 269), and modifiers by those of the language (JLS 8.1.1, 8.3.1, 8.4.3, 9.4).
use Rattle.std.specs.Prelude.{ℕ, List, [], ◌∷◌, ◌++◌, map, filter, codes}
use Rattle.std.specs.List.{flat_map}
use Rattle.decl_elements.specs.Modifiers.{has}
use Rattle.decl_elements.specs.Shown.{Shown, Package, Enum, Class, AnnotationType, Interface, EnumConstant, Field, Parameter, Method, Constructor, TypeParameter}
use denote.Bor.{Bor}

abbrev pub kind_word : Shown → List ℕ
kind_word (Package info) = codes "package"
kind_word (Enum d) = codes "enum"
kind_word (Class d) = codes "class"
kind_word (AnnotationType d) = codes "annotation_type"
kind_word (Interface d) = codes "interface"
kind_word (EnumConstant member) = codes "enum_constant"
kind_word (Field member) = codes "field"
kind_word (Parameter parameter) = codes "parameter"
kind_word (Method member) = codes "method"
kind_word (Constructor member) = codes "constructor"
kind_word (TypeParameter parameter) = codes "type_parameter"

-- ---- modifiers

-- each with its bit, the lowest first
abbrev pub modifier_rows : List (ℕ × List ℕ)
modifier_rows =
    (1, codes "public") ∷ (2, codes "protected") ∷ (4, codes "private") ∷ (8, codes "abstract")
    ∷ (16, codes "default") ∷ (32, codes "static") ∷ (64, codes "final") ∷ (128, codes "transient")
    ∷ (256, codes "volatile") ∷ (512, codes "synchronized") ∷ (1024, codes "native") ∷ (2048, codes "strictfp") ∷ []

-- the words of those rows whose bits are among the modifiers
abbrev pub words_among : List (ℕ × List ℕ) → ℕ → List (List ℕ)
words_among rows modifiers = map (λ row. row.1) (filter (λ row. has row.0 modifiers) rows)

-- in the order of their bits
unfoldable pub modifier_words : ℕ → List (List ℕ)
modifier_words modifiers = words_among modifier_rows modifiers

-- a row in memory, as a value
abbrev pub shown_row : ℕ × Bor (List ℕ) → ℕ × List ℕ
shown_row row = (row.0, row.1.now)

-- ---- text

-- each word behind a space, which is 32
abbrev pub spaced : List (List ℕ) → List ℕ
spaced words = flat_map (λ word. 32 ∷ word) words
