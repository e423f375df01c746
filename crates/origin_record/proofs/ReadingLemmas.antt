-- Which bytes have a reading as a record, by what record they spell.
use Rattle.std.proofs.Common.{◌≡◌, ℕ, ◌<◌, ◌≤◌, Bool, true, false, List, length, refl, sym, ap, ◌∙◌, arith}
use Rattle.record_forms.specs.RecordTable.{spelling, fits, whole_record}
use Rattle.record_forms.specs.Records.{IsSpelled, IsOnlySpelled, IsNoRecord}
use Rattle.record_forms.specs.declared.record.Record.{Record}
use Rattle.record_forms.proofs.RecordLaws.{whole_record-again, is_only}
use Rattle.origin_record.specs.Conditions.{most_bytes, meets}
use Rattle.origin_record.specs.RecordReadings.{IsRecord, IsReading, HasNoReading, IsOnlyReading}

-- a reading is a record that the bytes spell
pub is_spelled : (bytes : List ℕ) (value : Record) → IsReading bytes value → IsSpelled value bytes
is_spelled bytes value reading = (reading.fits, reading.spelled)

pub reading_from : (bytes : List ℕ) (value : Record) → length bytes ≤ most_bytes → IsSpelled value bytes → meets value ≡ true → IsReading bytes value
reading_from bytes value short spelled met = record { short = short; spelled = spelled.1; fits = spelled.0; meets = met }

pub only_reading : (bytes : List ℕ) (value : Record) → IsOnlySpelled bytes value → IsOnlyReading bytes value
only_reading bytes value only other reading = only other (is_spelled bytes other reading)

pub none_too_long : (bytes : List ℕ) → most_bytes < length bytes → HasNoReading bytes
none_too_long bytes long value reading = omega (arith, long, reading.short)

pub none_unspelled : (bytes : List ℕ) → IsNoRecord bytes → HasNoReading bytes
none_unspelled bytes none value reading = none value (is_spelled bytes value reading)

not_both : (b : Bool) → b ≡ true → b ≡ false → ⊥
not_both b e f = cc

pub none_unmet : (bytes : List ℕ) (value : Record) → IsOnlySpelled bytes value → meets value ≡ false → HasNoReading bytes
none_unmet bytes value only unmet other reading = not_both (meets other) reading.meets (ap meets (only other (is_spelled bytes other reading)) ∙ unmet)

-- ---- what a record is spelled as

pub reading_of_spelling : (bytes : List ℕ) (value : Record) → length bytes ≤ most_bytes → bytes ≡ spelling value → IsRecord value → IsReading bytes value
reading_of_spelling bytes value short spelled is = record { short = short; spelled = spelled; fits = is.0; meets = is.1 }

pub only_of_spelling : (bytes : List ℕ) (value : Record) → bytes ≡ spelling value → IsRecord value → IsOnlyReading bytes value
only_of_spelling bytes value spelled is = only_reading bytes value (is_only bytes value (ap whole_record spelled ∙ whole_record-again value is.0))
