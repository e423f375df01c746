-- What is asked of what processors did in a run, so that the entries that come of it are those of a record.
use Rattle.std.specs.Prelude.{◌≡◌, ℕ, Bool, true, ◌&&◌, ◌||◌, ◌==◌, nat_lt, nat_le, List, map}
use Rattle.std.specs.List.{flat_map, AllByRecursion}
use Rattle.apt_base.specs.Forms.{is_name, all_fit}
use Rattle.wire_frames.specs.Readings.{are_distinct}
use Rattle.wire_frames.specs.declared.frame.Message.{Message}
use Rattle.record_forms.specs.Forms.{u16, u32, ascends, text_less}
use Rattle.record_forms.specs.RecordTable as form
use Rattle.origin_record.specs.Conditions.{are_different}
use Rattle.run_entries.specs.declared.processed.GeneratedFile.{GeneratedFile}
use Rattle.run_entries.specs.declared.processed.Processed.{Processed}
use Rattle.run_entries.specs.Entries.{stored_file, stored_message}
use Rattle.run_entries.specs.Maps.{Stores, number_at}
use Rattle.run_entries.specs.Outputs.{Root, roots_of}

-- ---- order

-- by round, and within a round by processor
abbrev pub done_less : Processed → Processed → Bool
done_less a b = nat_lt a.round b.round || (a.round == b.round && nat_lt a.processor b.processor)

-- the names that were offered ascend, and so do the roots by their names, and the names that each root carries
pub record IsInOrder (done : Processed) : Type 0 where
  pub offered : ascends text_less done.offered ≡ true
  pub roots : ascends text_less (roots_of done) ≡ true
  pub carried : AllByRecursion (λ (root : Root). ascends text_less root.1 ≡ true) done.annotated

pub record AreInOrder (processed : List Processed) : Type 0 where
  -- no processor is there twice in one round
  pub ascending : ascends done_less processed ≡ true
  pub each : AllByRecursion IsInOrder processed

-- ---- files

-- all files, in the order in which they were given, and their paths
abbrev pub files_of : List Processed → List GeneratedFile
files_of processed = flat_map (λ (done : Processed). done.files) processed

abbrev pub path_of : GeneratedFile → List ℕ
path_of file = file.path

abbrev pub given_paths : List Processed → List (List ℕ)
given_paths processed = map path_of (files_of processed)

-- no two files have one path
abbrev pub HaveOwnPaths : List Processed → Type 0
HaveOwnPaths processed = are_distinct (given_paths processed) ≡ true

-- no two files have one number in the store
abbrev pub HaveOwnNumbers : Stores → List Processed → Type 0
HaveOwnNumbers stores processed = are_different (map (number_at stores) (given_paths processed)) ≡ true

-- ---- counts

-- the processor's number is below this count, and the round's is from 1 to that one
abbrev pub is_within : ℕ → ℕ → Processed → Bool
is_within processors rounds done = nat_lt done.processor processors && (nat_le 1 done.round && nat_le done.round rounds)

-- ---- fields

abbrev pub file_fits : Stores → GeneratedFile → Bool
file_fits stores file = form.file.fits (stored_file stores file)

abbrev pub message_fits : Message → Bool
message_fits message = form.message.fits (stored_message 0 message)

-- its numbers and texts are such as the fields of a record take, and no list is too long to be counted there
pub record HasFields (stores : Stores) (done : Processed) : Type 0 where
  pub round : u32.fits done.round ≡ true
  pub processor : u16.fits done.processor ≡ true
  pub offered : all_fit is_name done.offered ≡ true
  pub roots : all_fit is_name (roots_of done) ≡ true
  pub carried : AllByRecursion (λ (root : Root). all_fit is_name root.1 ≡ true) done.annotated
  pub files : all_fit (file_fits stores) done.files ≡ true
  pub messages : all_fit message_fits done.messages ≡ true
