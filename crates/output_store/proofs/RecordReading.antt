-- The record of a tree, by what is read of its file.
use Rattle.std.proofs.Common.{◌≡◌, ℕ, ◌+◌, ◌<◌, Bool, true, false, nat_le, cond, ◌&&◌, List, [], length, take, min, Option, None, Some, option_map, option_and_then, unwrap_or, IfSome, Vec, refl, sym, ap, subst, ◌∙◌, arith, true≢false}
use Rattle.std.proofs.lemmas.Bool.{leb-true, leb-false, le-leb, lt-leb, and_parts}
use Rattle.std.proofs.lemmas.List.{take_all, length-take}
use Rattle.apt_base.specs.Fields.{◌>>=◌}
use Rattle.apt_base.proofs.FieldsLemmas.{IsBytes}
use Rattle.std.specs.declared.alloc.Global.{Global}
use Rattle.apt_outside.specs.Files.{Files, file_at, Reads}
use Rattle.record_forms.specs.RecordTable.{fits, whole_record}
use Rattle.record_forms.specs.declared.record.Record.{Record}
use Rattle.record_forms.proofs.RecordLaws.{whole_record-spelled, whole_record-again}
use Rattle.origin_record.specs.Conditions.{most_bytes, meets}
use Rattle.origin_record.specs.RecordReadings.{IsReading, HasNoReading}
use Rattle.output_store.specs.Output.{record_path, record_in, record_of, named_files, files_named}
use Rattle.output_store.specs.Reading.{read_as, found_as, record_file, record_held, named_by, IsReadable}
use Rattle.output_store.specs.declared.recorded.RecordFile.{RecordFile}
use Rattle.output_store.specs.declared.recorded.RecordFile.TheVariants.{Absent, Damaged, Present}

-- a record that the bytes are read as is the record that they are
pub record_in-reading : (bytes : List ℕ) (value : Record) → IsReading bytes value → record_in bytes ≡ Some value
unfolding record_in
record_in-reading bytes value reading =
    let read : whole_record bytes ≡ Some value = ap whole_record reading.spelled ∙ whole_record-again value reading.fits in
    rw (read, le-leb (length bytes) most_bytes reading.short, reading.meets) refl

-- and one that is read from its own spelling
pub readable_by : (bytes : List ℕ) (value : Record) → IsReading bytes value → IsReadable value
readable_by bytes value reading = subst (λ (bs : List ℕ). IsReading bs value) reading.spelled reading

-- the record, where the test of it passes
abbrev tested : List ℕ → Option Record → Option Record
tested bytes found = found >>= (λ value. cond (nat_le (length bytes) most_bytes && meets value) (Some value) None)

untested : (bytes : List ℕ) (found : Option Record) → ((value : Record) → found ≡ Some value → (nat_le (length bytes) most_bytes && meets value) ≡ true → ⊥) → tested bytes found ≡ None
untested bytes None never = refl
untested bytes (Some value) never = go (nat_le (length bytes) most_bytes && meets value) (never value refl)
  where
    go : (b : Bool) → (b ≡ true → ⊥) → ◌≡◌ {A = Option Record} (cond b (Some value) None) None
    go true h = absurd (h refl)
    go false h = refl

-- bytes without a reading are those of no record
pub record_in-none : (bytes : List ℕ) → IsBytes bytes → HasNoReading bytes → record_in bytes ≡ None
unfolding record_in
record_in-none bytes bs none = untested bytes (whole_record bytes) (λ value read passes.
    let t = and_parts (nat_le (length bytes) most_bytes) (meets value) passes in
    let spelled = whole_record-spelled bytes value bs read in
    none value (record { short = leb-true (length bytes) most_bytes t.0; spelled = spelled.0; fits = spelled.1; meets = t.1 }))

-- what is read meets the conditions of a record
record_in-meets : (bytes : List ℕ) → IfSome (record_in bytes) (λ value. meets value ≡ true)
unfolding record_in
record_in-meets bytes = go (whole_record bytes)
  where
    test : (value : Record) (b : Bool) → (nat_le (length bytes) most_bytes && meets value) ≡ b → IfSome (cond b (Some value) None) (λ v. meets v ≡ true)
    test value true e = (and_parts (nat_le (length bytes) most_bytes) (meets value) e).1
    test value false e = tt

    go : (found : Option Record) → IfSome (tested bytes found) (λ v. meets v ≡ true)
    go None = tt
    go (Some value) = test value (nat_le (length bytes) most_bytes && meets value) refl

-- too many bytes are those of no record
record_in-long : (bytes : List ℕ) → most_bytes < length bytes → record_in bytes ≡ None
unfolding record_in
record_in-long bytes long = untested bytes (whole_record bytes) (λ value read passes. true≢false (sym (and_parts (nat_le (length bytes) most_bytes) (meets value) passes).0 ∙ lt-leb (length bytes) most_bytes long))

cut_bytes : (bytes : List ℕ) (short : Bool) → nat_le (length bytes) most_bytes ≡ short → record_in (take (most_bytes + 1) bytes) ≡ record_in bytes
cut_bytes bytes true short = ap record_in (take_all (most_bytes + 1) bytes (omega (arith, leb-true (length bytes) most_bytes short)))
cut_bytes bytes false long =
    let past : most_bytes < length bytes = omega (arith, leb-false (length bytes) most_bytes long) in
    let cut : length (take (most_bytes + 1) bytes) ≡ min (most_bytes + 1) (length bytes) = length-take (most_bytes + 1) bytes in
    record_in-long (take (most_bytes + 1) bytes) (omega (arith, cut, past)) ∙ sym (record_in-long bytes past)

-- the bytes up to one past the limit tell what the file is
pub found_as-cut : (bytes : Option (List ℕ)) → found_as (option_map (take (most_bytes + 1)) bytes) ≡ found_as bytes
found_as-cut None = refl
found_as-cut (Some bytes) = ap read_as (cut_bytes bytes (nat_le (length bytes) most_bytes) refl)

-- what is read of the file of the record tells what it is
pub file_as_read : (files : Files) (found : Option (Vec ℕ Global)) → Reads files record_path most_bytes found → found_as (option_map (λ v. v.items) found) ≡ record_file files
file_as_read files found reads = ap found_as reads ∙ found_as-cut (file_at files record_path)

held_as : (value : Option Record) → record_held (read_as value) ≡ value
held_as None = refl
held_as (Some value) = refl

held_of : (bytes : Option (List ℕ)) → record_held (found_as bytes) ≡ option_and_then record_in bytes
held_of None = refl
held_of (Some bytes) = held_as (record_in bytes)

-- and so does the record of a tree
pub record_of-meets : (files : Files) → IfSome (record_of files) (λ value. meets value ≡ true)
record_of-meets files = go (file_at files record_path)
  where
    go : (bytes : Option (List ℕ)) → IfSome (option_and_then record_in bytes) (λ value. meets value ≡ true)
    go None = tt
    go (Some bytes) = record_in-meets bytes

-- the record of a tree is that of its file
pub record_held-file : (files : Files) → record_held (record_file files) ≡ record_of files
record_held-file files = held_of (file_at files record_path)

named_of : (file : RecordFile) → named_by file ≡ unwrap_or (option_map named_files (record_held file)) []
named_of Absent = refl
named_of Damaged = refl
named_of (Present value) = refl

-- and so are the files that it names
pub named_by-file : (files : Files) → named_by (record_file files) ≡ files_named files
unfolding files_named
named_by-file files = named_of (record_file files) ∙ ap (λ (o : Option Record). unwrap_or (option_map named_files o) []) (record_held-file files)
