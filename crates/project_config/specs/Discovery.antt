-- Which processors a project has, in which order, how each is started and of which kind it is.
use Rattle.std.specs.Prelude.{ℕ, List, [], ◌∷◌, length, nat_le, Option, Some, None, Ok, Err, if◌then◌else◌}
use Rattle.std.specs.Str.{bytes_eq}
use Rattle.apt_base.specs.Limits.{max_processors}
use Rattle.apt_base.specs.declared.kinds.Kind.{Kind}
use Rattle.apt_base.specs.declared.kinds.Kind.TheVariants.{Undeclared}
use Rattle.processor_claims.specs.Lines.{first_bad, said_in, name_in}
use Rattle.processor_claims.specs.Services.{names_of}
use Rattle.processor_claims.specs.Kinds.{kind_in, kinds_of}
use Rattle.project_config.specs.declared.config.Config.{Config}
use Rattle.project_config.specs.declared.config.ProcessorRow.{ProcessorRow}
use Rattle.project_config.specs.declared.processor.Processor.{Processor}
use Rattle.project_config.specs.declared.settings.Settings.{Settings}
use Rattle.project_config.specs.declared.fault.ConfigFault.{ConfigFault}
use Rattle.project_config.specs.declared.fault.ConfigFault.TheVariants.{ServiceLine, KindLine, TooManyProcessors, UnknownProcessor}
use Rattle.project_config.specs.Answers.{Reading, ◌>>=◌}
use Rattle.project_config.specs.Reading.{config_of}
use Rattle.project_config.specs.Options.{with_options}

-- what a file of lines says, or its first bad line
abbrev pub lines_as : {A : Type 0} → (ℕ → ConfigFault) → Option ℕ → A → Reading A
lines_as fault None said = Ok said
lines_as fault (Some line) said = Err (fault line)

-- the names in the order of discovery: those of the configuration, and those of the file of services where it has none
abbrev pub names_in : Option (List (List ℕ)) → List ℕ → Reading (List (List ℕ))
names_in (Some order) services = Ok order
names_in None services = lines_as ServiceLine (first_bad name_in (said_in services)) (names_of services)

abbrev pub kinds_in : List ℕ → Reading (List (List ℕ × Kind))
kinds_in file = lines_as KindLine (first_bad kind_in (said_in file)) (kinds_of file)

-- a project has at most 64 processors
abbrev pub few : List (List ℕ) → Reading (List (List ℕ))
few names = if nat_le (length names) max_processors then Ok names else Err TooManyProcessors

-- the row of a name
abbrev pub row_named : List ℕ → List ProcessorRow → Option ProcessorRow
row_named name [] = None
row_named name (row ∷ rows) = if bytes_eq row.name name then Some row else row_named name rows

-- the kind that is declared of a name
abbrev pub kind_of : List ℕ → List (List ℕ × Kind) → Kind
kind_of name [] = Undeclared
kind_of name (entry ∷ entries) = if bytes_eq entry.0 name then entry.1 else kind_of name entries

abbrev pub processor_by : List ℕ → Kind → Option ProcessorRow → Reading Processor
processor_by name kind None = Err (UnknownProcessor name)
processor_by name kind (Some row) = Ok (record { name = name; command = row.command; version = row.version; kind = kind })

abbrev pub processors_of : List ProcessorRow → List (List ℕ × Kind) → List (List ℕ) → Reading (List Processor)
processors_of rows kinds [] = Ok []
processors_of rows kinds (name ∷ names) = do
  processor ← processor_by name (kind_of name kinds) (row_named name rows)
  processors ← processors_of rows kinds names
  Ok (processor ∷ processors)

-- the processors of a project, or the first fault: the file of services, the kinds, their number, and then the rows
abbrev pub discovered : Config → List ℕ → List ℕ → Reading (List Processor)
discovered config services file = do
  all ← names_in config.order services
  kinds ← kinds_in file
  names ← few all
  processors_of config.processors kinds names

-- what the configuration says, with the options of the words over its own
abbrev pub settings_of : Option (List ℕ) → List ℕ → List ℕ → List (List ℕ × List ℕ) → Reading Settings
settings_of file services kinds words = do
  config ← config_of file
  processors ← discovered config services kinds
  Ok (record { level = config.level; options = with_options config.options words; processors = processors })
