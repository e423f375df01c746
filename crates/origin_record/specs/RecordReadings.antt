-- Which bytes have a reading as a record, and which record that is.
use Rattle.std.specs.Prelude.{◌≡◌, ℕ, ◌≤◌, true, List, length}
use Rattle.record_forms.specs.RecordTable.{spelling, fits}
use Rattle.record_forms.specs.declared.record.Record.{Record}
use Rattle.origin_record.specs.Conditions.{most_bytes, meets}

-- a record that can be read: its fields are as their forms ask, and it meets the conditions
abbrev pub IsRecord : Record → Type 0
IsRecord value = (fits value ≡ true) × (meets value ≡ true)

-- the bytes are not too many, they are the spelling of the record, its fields are as their forms ask, and it meets the conditions
pub record IsReading (bytes : List ℕ) (value : Record) : Type 0 where
  pub short : length bytes ≤ most_bytes
  pub spelled : bytes ≡ spelling value
  pub fits : fits value ≡ true
  pub meets : meets value ≡ true

-- the bytes are those of no record
abbrev pub HasNoReading : List ℕ → Type 0
HasNoReading bytes = (value : Record) → IsReading bytes value → ⊥

-- no other record is read from the bytes
abbrev pub IsOnlyReading : List ℕ → Record → Type 0
IsOnlyReading bytes value = (other : Record) → IsReading bytes other → other ≡ value
