-- How the first rows of a table are found by the first bytes of their texts, and by their numbers.
use Rattle.std.specs.Prelude.{◌≡◌, ◌≢◌, ℕ, ◌-◌, ◌<◌, ◌≤◌, List, slice_index}
use Rattle.case_table.specs.Rows.{Row, text_at, number_at, key_of}

-- the key of the text at a place
abbrev pub key_at : List Row → ℕ → ℕ
key_at rows k = key_of (text_at rows k)

-- the end of the row that is looked at after the one at a place
abbrev pub next_of : List Row → List ℕ → ℕ → ℕ
next_of rows nexts k = slice_index nexts (number_at rows k)

-- an end is that of the last row with a key below a place
pub record IsLast (rows : List Row) (key below end : ℕ) : Type 0 where
  pub within : end ≤ below
  pub has : 0 < end → key_at rows (end - 1) ≡ key
  pub past : (k : ℕ) → end ≤ k → k < below → key_at rows k ≢ key

-- each key has the end of its last row, and each row the end of the one before with its key
pub record IsIndexed (rows : List Row) (count : ℕ) (heads nexts : List ℕ) : Type 0 where
  pub heads_last : (key : ℕ) → key < 256 → IsLast rows key count (slice_index heads key)
  pub nexts_last : (k : ℕ) → k < count → IsLast rows (key_at rows k) k (next_of rows nexts k)

-- each number has the end of its row, and 0 where none of the first rows has it
pub record IsPlaced (rows : List Row) (count : ℕ) (places : List ℕ) : Type 0 where
  pub within : (n : ℕ) → n < 256 → slice_index places n ≤ count
  pub found : (n : ℕ) → n < 256 → 0 < slice_index places n → number_at rows (slice_index places n - 1) ≡ n
  pub absent : (n : ℕ) → n < 256 → slice_index places n ≡ 0 → (k : ℕ) → k < count → number_at rows k ≢ n
