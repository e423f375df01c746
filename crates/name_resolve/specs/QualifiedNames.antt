-- Qualified names: names that dots join (JLS 6.2).
use Rattle.std.specs.Prelude.{ℕ, List, [], ◌∷◌, ◌++◌}

-- a prefix of a qualified name, joined by dots, and the names after it
pub record Prefix : Type 0 where
  pub joined : List ℕ
  pub after : List (List ℕ)

-- each prefix of a qualified name that is longer than what is joined before, the shortest first
abbrev pub prefixes_after : List ℕ → List (List ℕ) → List Prefix
prefixes_after before [] = []
prefixes_after before (name ∷ names) = record { joined = before ++ 46 ∷ name; after = names } ∷ prefixes_after (before ++ 46 ∷ name) names

-- each prefix of a qualified name, the shortest first and the whole name last
abbrev pub prefixes : List (List ℕ) → List Prefix
prefixes [] = []
prefixes (name ∷ names) = record { joined = name; after = names } ∷ prefixes_after name names
