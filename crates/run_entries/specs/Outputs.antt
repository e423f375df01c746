-- What a processor gave in a round, by its origins: a file or a message is attributed to a root where that root is its one origin, and something was offered there (JSR 269, `Filer`, originating elements).
use Rattle.std.specs.Prelude.{ℕ, Bool, not, ◌&&◌, ◌==◌, List, [], length, map, filter}
use Rattle.std.specs.List.{list_any}
use Rattle.std.specs.Option.{option_map_or}
use Rattle.wire_frames.specs.declared.frame.Creation.{Creation}
use Rattle.wire_frames.specs.declared.frame.Message.{Message}
use Rattle.apt_filer.specs.Filing.{path_of, content_of, type_name_of}
use Rattle.apt_filer.specs.Origins.{Origin, origin_of, originating, message_origin, is_unit}
use Rattle.run_entries.specs.declared.processed.GeneratedFile.{GeneratedFile}
use Rattle.run_entries.specs.declared.processed.Processed.{Processed}

-- ---- files

-- the name of a source's type, or the empty text
abbrev pub type_text : Creation → List ℕ
type_text creation = option_map_or (λ name. name) (type_name_of creation) []

-- the file of a creation
abbrev pub file_of : Creation → GeneratedFile
file_of creation = record { path = path_of creation; type_name = type_text creation; length = length (content_of creation); origins = originating creation }

abbrev pub file_origin : GeneratedFile → Origin
file_origin file = origin_of file.origins

-- ---- roots with names of annotations

-- its name, and names that it carries: those that are present on it, or of these those that are offered
abbrev pub Root : Type 0
Root = List ℕ × List (List ℕ)

abbrev pub root_name : Root → List ℕ
root_name root = root.0

abbrev pub roots_of : Processed → List (List ℕ)
roots_of done = map root_name done.annotated

-- ---- what was given for one root

abbrev pub is_file_from : List ℕ → GeneratedFile → Bool
is_file_from unit file = is_unit unit (file_origin file)

abbrev pub is_message_from : List ℕ → Message → Bool
is_message_from unit message = is_unit unit (message_origin message)

abbrev pub files_from : List ℕ → Processed → List GeneratedFile
files_from unit done = filter (is_file_from unit) done.files

abbrev pub messages_from : List ℕ → Processed → List Message
messages_from unit done = filter (is_message_from unit) done.messages

-- ---- what is left: it has no origin, or several, or one that is no such root

abbrev pub is_attributed : List (List ℕ) → Origin → Bool
is_attributed roots origin = list_any (λ root. is_unit root origin) roots

abbrev pub is_file_left : List (List ℕ) → GeneratedFile → Bool
is_file_left roots file = not (is_attributed roots (file_origin file))

abbrev pub is_message_left : List (List ℕ) → Message → Bool
is_message_left roots message = not (is_attributed roots (message_origin message))

abbrev pub files_left : Processed → List GeneratedFile
files_left done = filter (is_file_left (roots_of done)) done.files

abbrev pub messages_left : Processed → List Message
messages_left done = filter (is_message_left (roots_of done)) done.messages

-- something is left
abbrev pub leaves_some : Processed → Bool
leaves_some done = not ((length (files_left done) == 0) && (length (messages_left done) == 0))
