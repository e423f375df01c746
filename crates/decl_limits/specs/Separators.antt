-- Which symbols stand between the items of a child list or end one of them, how many they are, and how many of them at most stand directly within the same braces.
use Rattle.std.specs.Prelude.{ℕ, suc, Bool, List, [], ◌∷◌, if◌then◌else◌, max}
use Rattle.std.specs.List.{count_by}
use Rattle.decl_grammar.specs.declared.symbol.Symbol.{Symbol}
use Rattle.decl_grammar.specs.Symbols.{operator}
use Rattle.decl_grammar.specs.TokenNames as token
use Rattle.decl_grammar.specs.Reading.{has}

-- `}`, `;` and `,`
abbrev pub separating : List ℕ
separating = operator token.close_brace ∷ operator token.semicolon ∷ operator token.comma ∷ []

abbrev pub separates : Symbol → Bool
separates s = has separating s.sort

-- how many of these symbols separate
unfoldable pub separators : List Symbol → ℕ
separators ts = count_by separates ts

-- ---- within the same braces

-- How many symbols separated so far within the innermost braces that are open, and within each pair around these, the inner ones first: a `,` and a `;` count where they stand, and
-- a `}` in what stands around the braces that it closes. What stands in no braces counts as if the file were one. And the most that were counted so far within the same braces.
pub record Scan : Type 0 where
  pub count : ℕ
  pub around : List ℕ
  pub most : ℕ

-- before the first symbol
abbrev pub unscanned : Scan
unscanned = record { count = 0; around = []; most = 0 }

-- one more within the innermost braces, where this many were counted there, this many around these, and at most this many anywhere
abbrev pub counted_one : ℕ → List ℕ → ℕ → Scan
counted_one n ns most = record { count = suc n; around = ns; most = max most (suc n) }

abbrev pub one_more : Scan → Scan
one_more s = counted_one s.count s.around s.most

-- behind a `{`
abbrev pub entered : Scan → Scan
entered s = record { count = 0; around = s.count ∷ s.around; most = s.most }

-- behind a `}`: one more in what stands around the braces; one that closes none counts like a `;`
abbrev pub left_to : List ℕ → ℕ → ℕ → Scan
left_to [] n most = counted_one n [] most
left_to (k ∷ ks) n most = counted_one k ks most

abbrev pub left_behind : Scan → Scan
left_behind s = left_to s.around s.count s.most

-- behind one symbol more
abbrev pub scan_next : Scan → Symbol → Scan
scan_next s t =
    if has (operator token.open_brace ∷ []) t.sort then entered s
    else if has (operator token.close_brace ∷ []) t.sort then left_behind s
    else if has (operator token.semicolon ∷ operator token.comma ∷ []) t.sort then one_more s
    else s

-- behind some symbols more
unfoldable pub scanned : Scan → List Symbol → Scan
scanned s [] = s
scanned s (t ∷ ts) = scanned (scan_next s t) ts

-- the most of these symbols that separate directly within the same braces
abbrev pub most_separators : List Symbol → ℕ
most_separators ts = (scanned unscanned ts).most
