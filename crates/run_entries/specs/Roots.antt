-- What the code finds out of what was given, on the way to entries: sets of roots, places of files and messages, and heads.
use Rattle.std.specs.Prelude.{◌≡◌, ℕ, Bool, false, not, ◌&&◌, ◌==◌, List, [], ◌∷◌, length, filter, map, slice_get}
use Rattle.std.specs.Option.{option_to_list}
use Rattle.std.specs.FinMap as fin
use Rattle.apt_base.specs.Names.{NameSet}
use Rattle.wire_frames.specs.declared.frame.Message.{Message}
use Rattle.apt_filer.specs.Origins.{Origin, One, Several, Missing, message_origin}
use Rattle.run_entries.specs.declared.parts.Left.{Left}
use Rattle.run_entries.specs.declared.recorded_entries.Head as code
use Rattle.run_entries.specs.declared.processed.GeneratedFile.{GeneratedFile}
use Rattle.run_entries.specs.declared.processed.Processed.{Processed}
use Rattle.record_forms.specs.declared.record.StoredFile.{StoredFile}
use Rattle.run_entries.specs.Annotated.{carries_some}
use Rattle.run_entries.specs.Entries.{Head, stored_file}
use Rattle.run_entries.specs.Maps.{Stores, PlaceMap, places_at}
use Rattle.run_entries.specs.Outputs.{Root, roots_of, file_origin, is_file_from, is_message_from, is_file_left, is_message_left}
use Rattle.run_entries.specs.Positions.{positions, items_at}

-- ---- sets of names

-- a root with those of its names that are in the set
abbrev pub carried_in : NameSet → Root → Root
carried_in set root = (root.0, filter (fin.contains_key set) root.1)

-- this one, if it carries some, and those of several that do
abbrev pub carried_by : NameSet → Root → List Root
carried_by set root = filter carries_some (carried_in set root ∷ [])

abbrev pub all_carried : NameSet → List Root → List Root
all_carried set roots = filter carries_some (map (carried_in set) roots)

-- an origin is one of the roots of the set
abbrev pub is_root : NameSet → Origin → Bool
is_root roots (One unit) = fin.contains_key roots unit
is_root roots Several = false
is_root roots Missing = false

abbrev pub is_file_outside : NameSet → GeneratedFile → Bool
is_file_outside roots file = not (is_root roots (file_origin file))

abbrev pub is_message_outside : NameSet → Message → Bool
is_message_outside roots message = not (is_root roots (message_origin message))

-- ---- places

-- at each name are the places of the files that come of it
abbrev pub AreFilePlaces : PlaceMap → List GeneratedFile → Type 0
AreFilePlaces places files = (unit : List ℕ) → places_at places unit ≡ positions (is_file_from unit) 0 files

abbrev pub AreMessagePlaces : PlaceMap → List Message → Type 0
AreMessagePlaces places messages = (unit : List ℕ) → places_at places unit ≡ positions (is_message_from unit) 0 messages

-- the file at a place, if one is there, and those at several
abbrev pub file_there : Stores → List GeneratedFile → ℕ → List StoredFile
file_there stores files at = map (stored_file stores) (option_to_list (slice_get files at))

abbrev pub files_there : Stores → List GeneratedFile → List ℕ → List StoredFile
files_there stores files places = map (stored_file stores) (items_at files places)

-- these are the places of what is left
pub record AreLeft (done : Processed) (left : Left) : Type 0 where
  pub files : left.files ≡ positions (is_file_left (roots_of done)) 0 done.files
  pub messages : left.messages ≡ positions (is_message_left (roots_of done)) 0 done.messages

abbrev pub has_some : Left → Bool
has_some left = not ((length left.files == 0) && (length left.messages == 0))

-- ---- heads

abbrev pub shown_head : code.Head → Head
shown_head head = record { origin = head.origin; offered = head.offered; annotated = head.annotated }
