-- Which bytes spell a record, and which record that is.
use Rattle.std.specs.Prelude.{◌≡◌, ℕ, true, List}
use Rattle.record_forms.specs.RecordTable.{spelling, fits}
use Rattle.record_forms.specs.declared.record.Record.{Record}

-- the bytes are the spelling of the record, whose fields are as their forms ask
abbrev pub IsSpelled : Record → List ℕ → Type 0
IsSpelled value bytes = (fits value ≡ true) × (bytes ≡ spelling value)

-- they are that of no other record
abbrev pub IsOnlySpelled : List ℕ → Record → Type 0
IsOnlySpelled bytes value = (other : Record) → IsSpelled other bytes → other ≡ value

-- they are that of none
abbrev pub IsNoRecord : List ℕ → Type 0
IsNoRecord bytes = (value : Record) → IsSpelled value bytes → ⊥
