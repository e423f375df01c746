-- The files of a project's configuration: `apt.json`, the file of services and the file of kinds. Each may be absent, and has a limit.
use Rattle.std.specs.Prelude.{◌≡◌, ◌≤◌, ℕ, nat_le, Bool, true, false, List, length, codes, Option, None, Some, IfSome, Result, Ok, Err, if◌then◌else◌}
use Rattle.apt_outside.specs.Files.{Files, file_at}
use Rattle.tree_store.specs.declared.config.ConfigFile.{ConfigFile}
use Rattle.tree_store.specs.declared.config.ConfigFile.TheVariants.{Config, Services, Kinds}
use Rattle.tree_store.specs.declared.config.RawLists.{RawLists}
use Rattle.tree_store.specs.declared.fault.ConfigReadFault.{ConfigReadFault}
use Rattle.tree_store.specs.declared.fault.ConfigReadFault.TheVariants.{Failed, TooLarge, Memory}

-- a value, or the first file that is too large
abbrev pub Reading : Type 0 → Type 0
Reading A = Result A ConfigReadFault

-- the bytes of a file, and none of one that is absent
abbrev pub Bytes : Type 0
Bytes = Option (List ℕ)

-- where a file stands
abbrev pub path_of : ConfigFile → List ℕ
path_of Config = codes "apt.json"
path_of Services = codes "res/META-INF/services/javax.annotation.processing.Processor"
path_of Kinds = codes "res/META-INF/gradle/incremental.annotation.processors"

-- the most bytes of one
abbrev pub most_bytes : ℕ
most_bytes = 1048576

-- what stands is read whole, or is too large
abbrev pub within : ConfigFile → Bytes → Reading Bytes
within file None = Ok None
within file (Some bytes) = if nat_le (length bytes) most_bytes then Ok (Some bytes) else Err (TooLarge file)

-- what a file is read as
abbrev pub read_of : ConfigFile → Files → Reading Bytes
read_of file files = within file (file_at files (path_of file))

-- `apt.json`
abbrev pub config_of : Files → Reading Bytes
config_of files = read_of Config files

-- the file of services, where it is asked for
abbrev pub services_of : Bool → Files → Reading Bytes
services_of true files = read_of Services files
services_of false files = Ok None

-- two files, of which the first fault counts
abbrev pub both : Reading Bytes → Reading Bytes → Reading RawLists
both (Err fault) kinds = Err fault
both (Ok services) (Err fault) = Err fault
both (Ok services) (Ok kinds) = Ok (record { services = services; kinds = kinds })

-- the file of services, where it is asked for, and then the file of kinds
abbrev pub lists_of : Bool → Files → Reading RawLists
lists_of asked files = both (services_of asked files) (read_of Kinds files)

-- a call answered this, or the tree failed in it, or memory was wanted
abbrev pub Answers : {A : Type 0} → Reading A → Reading A → Type 0
Answers (Ok value) reading = reading ≡ Ok value
Answers (Err (TooLarge file)) reading = reading ≡ Err (TooLarge file)
Answers (Err Failed) reading = Unit {0}
Answers (Err Memory) reading = Unit {0}

-- Of any tree, also of one that doesn't tell what it holds:

-- what a file is read as is within the limit
abbrev pub IsShort : Bytes → Type 0
IsShort file = IfSome file (λ bytes. length bytes ≤ most_bytes)

-- both files are within it, and the file of services is there only where it was asked for
pub record AreLists (asked : Bool) (lists : RawLists) : Type 0 where
  pub services : IsShort lists.services
  pub kinds : IsShort lists.kinds
  pub unasked : asked ≡ false → lists.services ≡ None

-- the file of kinds is one of the lists, and that of services where it is asked for
abbrev pub is_list : Bool → ConfigFile → Bool
is_list asked Config = false
is_list asked Services = asked
is_list asked Kinds = true

-- a file that is named as too large is one of these
abbrev pub Names : {A : Type 0} → Result A ConfigReadFault → (ConfigFile → Type 0) → Type 0
Names (Err (TooLarge file)) IsOne = IsOne file
Names (Err Failed) IsOne = Unit {0}
Names (Err Memory) IsOne = Unit {0}
Names (Ok value) IsOne = Unit {0}
