-- The sorts of characters that the lexical grammar tells apart, and each character's sort.
-- The letters that numerals use have sorts of their own. `word_starts_are` and `word_parts_are` of `proofs/Identifiers`
-- show that the sorts of words are those of the Unicode classes.
use Rattle.std.specs.Prelude.{ℕ, List, [], ◌∷◌, codes, if◌then◌else◌}
use Rattle.unicode_ident.specs.Ident.{is_xid_start, is_xid_continue}
use Rattle.java_tokens.specs.Forms.{among}

abbrev pub letter : ℕ
letter = 12

abbrev pub part : ℕ
part = 13

abbrev pub other : ℕ
other = 24

-- the other ASCII control characters
abbrev pub controls : List ℕ
controls = 0 ∷ 1 ∷ 2 ∷ 3 ∷ 4 ∷ 5 ∷ 6 ∷ 7 ∷ 8 ∷ 11 ∷ 14 ∷ 15 ∷ 16 ∷ 17 ∷ 18 ∷ 19 ∷ 20 ∷ 21 ∷ 22 ∷ 23 ∷ 24 ∷ 25 ∷ 26 ∷ 27 ∷ 28 ∷ 29 ∷ 30 ∷ 31 ∷ 127 ∷ []

-- the characters that have a sort of their own or with a few others
abbrev pub sort_rows : List (List ℕ × ℕ)
sort_rows =
    (codes "0", 0) ∷ (codes "1", 1) ∷ (codes "23", 2) ∷ (codes "4567", 25) ∷ (codes "89", 3)
    ∷ (codes "bB", 4) ∷ (codes "dDfF", 5) ∷ (codes "eE", 6) ∷ (codes "aAcC", 7) ∷ (codes "lL", 8) ∷ (codes "pP", 9) ∷ (codes "xX", 10)
    ∷ (codes "_", 11) ∷ (codes "$", 12)
    ∷ (codes ".", 14) ∷ (codes "+-", 15) ∷ (codes "/", 16) ∷ (codes "*", 17) ∷ (codes "\"", 18) ∷ (codes "'", 19) ∷ (codes "\\", 20)
    ∷ (13 ∷ [], 21) ∷ (10 ∷ [], 22) ∷ (32 ∷ 9 ∷ 12 ∷ [], 23)
    ∷ (codes "ghijkmnoqrstuvwyzGHIJKMNOQRSTUVWYZ", letter) ∷ (codes "(){}[];,@:=><!~?&|^%#`", other) ∷ (controls, other) ∷ []

-- the sort of any other character, by its Unicode classes
abbrev pub class_sort : ℕ → ℕ
class_sort c = if is_xid_start c then letter else (if is_xid_continue c then part else other)

abbrev pub sort_in : List (List ℕ × ℕ) → ℕ → ℕ
sort_in [] c = class_sort c
sort_in (row ∷ rows) c = if among row.0 c then row.1 else sort_in rows c

-- the sort of a character
unfoldable pub sort_of : ℕ → ℕ
sort_of c = sort_in sort_rows c
