-- What is asked of a record beside the forms of its fields, sentence by sentence.
use Rattle.std.specs.Prelude.{ℕ, Bool, true, not, ◌&&◌, ◌==◌, nat_lt, nat_le, is_some, List, [], ◌∷◌, length, map}
use Rattle.std.specs.Borrow.{Bor}
use Rattle.std.specs.List.{list_any, list_all, flat_map}
use Rattle.apt_base.specs.declared.element.ElementRef.{ElementRef}
use Rattle.wire_frames.specs.Readings.{are_distinct}
use Rattle.record_forms.specs.declared.record.Record.{Record}
use Rattle.record_forms.specs.declared.record.Entry.{Entry}
use Rattle.record_forms.specs.declared.record.Note.{Note}
use Rattle.record_forms.specs.declared.record.StoredFile.{StoredFile}
use Rattle.origin_record.specs.OldTables.{table_at}

-- how many bytes and how many rounds a record has at most
abbrev pub most_bytes : ℕ
most_bytes = 1073741824

abbrev pub most_rounds : ℕ
most_rounds = 64

-- there are as many Hellos as processors
abbrev pub has_each_hello : Record → Bool
has_each_hello value = length value.hellos == length value.key.processors

-- there are from 1 to 64 rounds
abbrev pub has_rounds : Record → Bool
has_rounds value = nat_le 1 (length value.rounds) && nat_le (length value.rounds) most_rounds

-- the processor's number is below the count of processors, and the round's from 1 to the count of rounds
abbrev pub is_numbered : ℕ → ℕ → Entry → Bool
is_numbered processors rounds entry = nat_lt entry.processor processors && (nat_le 1 entry.round && nat_le entry.round rounds)

abbrev pub is_below : ℕ → Note → Bool
is_below processors note = nat_lt note.processor processors

-- so it is in each entry, and the processor's number in each note
unfoldable pub entries_are_numbered : Record → Bool
entries_are_numbered value = list_all (is_numbered (length value.key.processors) (length value.rounds)) value.entries

unfoldable pub notes_are_numbered : Record → Bool
notes_are_numbered value = list_all (is_below (length value.key.processors)) value.notes

-- the numbers of the store files and the paths of all entries, in order
abbrev pub stores_of : List StoredFile → List ℕ
stores_of files = map (λ file. file.store) files

abbrev pub paths_of : List StoredFile → List (List ℕ)
paths_of files = map (λ file. file.path) files

abbrev pub stores_in : List Entry → List ℕ
stores_in entries = flat_map (λ entry. stores_of entry.files) entries

abbrev pub paths_in : List Entry → List (List ℕ)
paths_in entries = flat_map (λ entry. paths_of entry.files) entries

-- texts that are lent
abbrev pub lent : List (Bor (List ℕ)) → List (List ℕ)
lent texts = map (λ text. text.now) texts

-- no number is there twice
unfoldable pub are_different : List ℕ → Bool
are_different [] = true
are_different (number ∷ others) = not (list_any (λ other. number == other) others) && are_different others

-- the numbers of the store files are distinct
abbrev pub stores_are_distinct : Record → Bool
stores_are_distinct value = are_different (stores_in value.entries)

-- no path comes twice
abbrev pub paths_are_distinct : Record → Bool
paths_are_distinct value = are_distinct (paths_in value.entries)

-- each shape has a reading whose name is the one beside it, no unit name comes twice, and the units have at most 50,000 types: so all of them enter one table
abbrev pub units_enter : Record → Bool
units_enter value = is_some (table_at value (length value.rounds))

-- all of that
unfoldable pub meets : Record → Bool
meets value =
    has_each_hello value && has_rounds value && entries_are_numbered value && notes_are_numbered value && stores_are_distinct value
    && paths_are_distinct value && units_enter value
