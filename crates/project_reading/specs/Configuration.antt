-- What the three files of a project's configuration and the options of the words come to, or the first refusal. All files are read before any is looked into:
-- one that is too large is told before one that is off its form. The file of services is read only where `apt.json` has no order.
use Rattle.std.specs.Prelude.{◌≡◌, ◌⊎◌, ℕ, Bool, true, false, not, List, [], None, Some, map, Result, Ok, Err, if◌then◌else◌}
use Rattle.apt_base.specs.declared.kinds.Kind.{Kind}
use Rattle.apt_base.specs.declared.kinds.What.TheVariants as what
use Rattle.apt_outside.specs.Files.{Files}
use Rattle.apt_outside.specs.Child.{Try}
use Rattle.tree_store.specs.declared.config.ConfigFile.TheVariants as file
use Rattle.tree_store.specs.declared.config.RawLists.{RawLists}
use Rattle.tree_store.specs.Config as tree
use Rattle.project_config.specs.declared.fault.ConfigFault.{ConfigFault}
use Rattle.project_config.specs.declared.fault.ConfigFault.TheVariants as wrong
use Rattle.project_config.specs.declared.processor.Processor.{Processor}
use Rattle.project_config.specs.declared.settings.Settings.{Settings}
use Rattle.project_config.specs.Answers as reading
use Rattle.project_config.specs.Reading.{has_order}
use Rattle.project_config.specs.Discovery.{settings_of}
use Rattle.record_forms.specs.declared.record.Key.{Key}
use Rattle.record_forms.specs.declared.record.KeyProcessor.{KeyProcessor}
use Rattle.project_units.specs.Refusals.{Refusal, BadConfig, UnknownProcessor, BadStub, BadSource, DuplicateType, Place, Json, Item, Line, past}
use Rattle.project_units.specs.Units.{and_then}
use Rattle.project_units.specs.Plans.{Plan, inits_fit}

-- options as keys and their values, in the order in which the words of a call give them
abbrev pub Options : Type 0
Options = List (List ℕ × List ℕ)

-- ---- the bytes

-- of each file its bytes, where it is there and is read
pub record Configuration : Type 0 where
  pub config : tree.Bytes
  pub lists : RawLists

-- the one fault of files that are told is that one is too large
abbrev pub within : {A : Type 0} → tree.Reading A → Result A Refusal
within (Ok value) = Ok value
within (Err fault) = Err (past what.ConfigBytes)

-- the file of services is asked for where `apt.json` has no order
abbrev pub lists_in : Files → tree.Bytes → tree.Reading RawLists
lists_in project config = tree.lists_of (not (has_order config)) project

abbrev pub with_lists : tree.Bytes → RawLists → Result Configuration Refusal
with_lists config lists = Ok (record { config = config; lists = lists })

abbrev pub lists_behind : Files → tree.Bytes → Result Configuration Refusal
lists_behind project config = and_then (within (lists_in project config)) (with_lists config)

-- the files of a project, or the refusal of the first that is too large
abbrev pub files_of : Files → Result Configuration Refusal
files_of project = and_then (within (tree.config_of project)) (lists_behind project)

-- ---- what they say

-- an absent file of lines says nothing
abbrev pub said : tree.Bytes → List ℕ
said None = []
said (Some bytes) = bytes

-- Why a configuration is refused. No definition wants memory: that case does not come.
abbrev pub refusal_by : ConfigFault → Refusal
refusal_by wrong.Json = BadConfig (tree.path_of file.Config) Json
refusal_by (wrong.Item place) = BadConfig (tree.path_of file.Config) (Item place)
refusal_by (wrong.ServiceLine line) = BadConfig (tree.path_of file.Services) (Line line)
refusal_by (wrong.KindLine line) = BadConfig (tree.path_of file.Kinds) (Line line)
refusal_by wrong.TooManyProcessors = past what.Processors
refusal_by (wrong.UnknownProcessor name) = UnknownProcessor name
refusal_by wrong.Memory = BadConfig [] Json

abbrev pub on_form : {A : Type 0} → reading.Reading A → Result A Refusal
on_form (Ok value) = Ok value
on_form (Err fault) = Err (refusal_by fault)

-- a place that a file with this path has: `apt.json` as a whole or an item of it, or a line of one of the two others
abbrev pub IsPlaceOf : List ℕ → Place → Type 0
IsPlaceOf path Json = path ≡ tree.path_of file.Config
IsPlaceOf path (Item item) = path ≡ tree.path_of file.Config
IsPlaceOf path (Line line) = (path ≡ tree.path_of file.Services) ⊎ (path ≡ tree.path_of file.Kinds)

-- a refusal that nothing but the files of a project comes to, whatever its run would be
abbrev pub is_of_project : Refusal → Bool
is_of_project (BadConfig path place) = true
is_of_project (UnknownProcessor name) = true
is_of_project (BadStub path place) = true
is_of_project (BadSource path place) = true
is_of_project (DuplicateType name first second) = true
is_of_project other = false

-- the level, the options and the processors, or the first refusal
abbrev pub settings_in : Options → Configuration → Result Settings Refusal
settings_in options c = on_form (settings_of c.config (said c.lists.services) (said c.lists.kinds) options)

-- ---- what a run is told

abbrev pub try_in : Processor → Try
try_in processor = (processor.name, processor.command)

abbrev pub kind_in : Processor → Kind
kind_in processor = processor.kind

abbrev pub plan_in : Settings → Plan
plan_in settings = record {
  level = settings.level;
  options = settings.options;
  processors = map try_in settings.processors;
  kinds = map kind_in settings.processors;
}

-- the first frame to each processor is within the limit of a frame
abbrev pub fitting : Plan → Result Plan Refusal
fitting plan = if inits_fit plan then Ok plan else Err (past what.Frame)

abbrev pub settings_fit : Settings → Result Plan Refusal
settings_fit settings = fitting (plan_in settings)

-- what the run of a project with this configuration is told, with these options of the words, or the first refusal
abbrev pub plan_by : Options → Configuration → Result Plan Refusal
plan_by options c = and_then (settings_in options c) settings_fit

-- ---- the key of a build

-- a processor as the key has it
abbrev pub key_processor : Processor → KeyProcessor
key_processor p = record { name = p.name; command = p.command; version = p.version; kind = p.kind }

-- these settings as a key, with these stub files
abbrev pub key_in : Settings → List (List ℕ × List ℕ) → Key
key_in settings stubs = record { level = settings.level; options = settings.options; processors = map key_processor settings.processors; stubs = stubs }

-- a key with other stub files
abbrev pub with_stubs : Key → List (List ℕ × List ℕ) → Key
with_stubs key stubs = record { level = key.level; options = key.options; processors = key.processors; stubs = stubs }

-- the key of a build with this configuration, these options of the words over it, and these stub files
pub record IsKeyOf (options : Options) (c : Configuration) (stubs : List (List ℕ × List ℕ)) (key : Key) : Type 0 where
  pub settings : Settings
  pub are_settings : settings_in options c ≡ Ok settings
  pub is : key ≡ key_in settings stubs
