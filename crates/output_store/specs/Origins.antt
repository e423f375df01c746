-- What a published file came from, by the record.
use Rattle.std.specs.Prelude.{ℕ, Bool, List, slice_get, find, Option, Some}
use Rattle.std.specs.List.{list_any}
use Rattle.std.specs.Str.{bytes_eq}
use Rattle.apt_base.specs.Fields.{◌>>=◌}
use Rattle.record_forms.specs.declared.record.Record.{Record}
use Rattle.record_forms.specs.declared.record.Entry.{Entry}

-- the entry has a file of this path
abbrev pub has_file : List ℕ → Entry → Bool
has_file path entry = list_any (λ file. bytes_eq file.path path) entry.files

-- the first entry that has one
abbrev pub entry_of : List ℕ → List Entry → Option Entry
entry_of path entries = find (has_file path) entries

-- the name of the entry's processor, and the entry
unfoldable pub why_of : Record → List ℕ → Option (List ℕ × Entry)
why_of value path = do
  entry ← entry_of path value.entries
  processor ← slice_get value.key.processors entry.processor
  Some (processor.name, entry)
