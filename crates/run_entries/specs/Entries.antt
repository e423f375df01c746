-- The entries of a record: what each processor gave in each round in which it was asked.
-- An isolating one has an entry for each root to which something was offered, with what has that root as its one origin; and one without an origin exactly where something else is left. Any other has one for the round.
-- The files of an entry are in the order of their paths, and its messages are numbered within it.
use Rattle.std.specs.Prelude.{ℕ, suc, Bool, List, [], ◌∷◌, ◌++◌, map, Option, None, Some, if◌then◌else◌}
use Rattle.std.specs.List.{flat_map}
use Rattle.wire_frames.specs.declared.frame.Message.{Message}
use Rattle.apt_filer.specs.Orders.{in_order}
use Rattle.record_forms.specs.RecordTable.{file_less}
use Rattle.record_forms.specs.declared.record.Entry.{Entry}
use Rattle.record_forms.specs.declared.record.StoredFile.{StoredFile}
use Rattle.record_forms.specs.declared.record.StoredMessage.{StoredMessage}
use Rattle.run_entries.specs.declared.processed.GeneratedFile.{GeneratedFile}
use Rattle.run_entries.specs.declared.processed.Processed.{Processed}
use Rattle.run_entries.specs.Kinds.{is_isolating}
use Rattle.run_entries.specs.Maps.{Stores, number_at}
use Rattle.run_entries.specs.Outputs.{Root, roots_of, files_from, messages_from, files_left, messages_left, leaves_some}

-- ---- files and messages of an entry

-- a file under the number that its path has in the store
abbrev pub stored_file : Stores → GeneratedFile → StoredFile
stored_file stores file = record { path = file.path; type_name = file.type_name; store = number_at stores file.path; length = file.length; origins = file.origins }

abbrev pub stored_files : Stores → List GeneratedFile → List StoredFile
stored_files stores files = in_order file_less (map (stored_file stores) files)

abbrev pub stored_message : ℕ → Message → StoredMessage
stored_message number message = record { number = number; kind = message.kind; element = message.element; text = message.text }

-- from this number on
abbrev pub numbered : ℕ → List Message → List StoredMessage
numbered number [] = []
numbered number (message ∷ messages) = stored_message number message ∷ numbered (suc number) messages

-- ---- one entry

-- the root of which it is, or none; the names that were offered; and the roots that carry one of them
pub record Head : Type 0 where
  pub origin : Option (List ℕ)
  pub offered : List (List ℕ)
  pub annotated : List (List ℕ)

abbrev pub entry_with : Stores → Processed → Head → List GeneratedFile → List Message → Entry
entry_with stores done head files messages = record {
  round = done.round;
  processor = done.processor;
  origin = head.origin;
  offered = head.offered;
  annotated = head.annotated;
  files = stored_files stores files;
  messages = numbered 0 messages;
}

-- of a root
abbrev pub head_at : Root → Head
head_at root = record { origin = Some root.0; offered = root.1; annotated = [] }

abbrev pub entry_at : Stores → Processed → Root → Entry
entry_at stores done root = entry_with stores done (head_at root) (files_from root.0 done) (messages_from root.0 done)

-- of what is left
abbrev pub head_left : Head
head_left = record { origin = None; offered = []; annotated = [] }

abbrev pub entry_left : Stores → Processed → Entry
entry_left stores done = entry_with stores done head_left (files_left done) (messages_left done)

-- of a whole round
abbrev pub head_of : Processed → Head
head_of done = record { origin = None; offered = done.offered; annotated = roots_of done }

abbrev pub whole_entry : Stores → Processed → Entry
whole_entry stores done = entry_with stores done (head_of done) done.files done.messages

-- ---- the entries

abbrev pub if_some_left : Stores → Processed → List Entry
if_some_left stores done = if leaves_some done then entry_left stores done ∷ [] else []

abbrev pub root_entries : Stores → Processed → List Entry
root_entries stores done = map (entry_at stores done) done.annotated

-- of an isolating processor in a round
unfoldable pub isolating_entries : Stores → Processed → List Entry
isolating_entries stores done = if_some_left stores done ++ root_entries stores done

-- of one processor in one round
unfoldable pub entries_by : Stores → Processed → List Entry
entries_by stores done = if is_isolating done.kind then isolating_entries stores done else whole_entry stores done ∷ []

-- of all that was done, in order of round and processor
abbrev pub entries_of : Stores → List Processed → List Entry
entries_of stores processed = flat_map (entries_by stores) processed
