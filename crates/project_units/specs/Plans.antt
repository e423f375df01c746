-- What a run over a project is told: the level, the options, and the processors, each by its name, its command and its declared kind; and the first frame to each of them.
use Rattle.std.specs.Prelude.{ℕ, nat_le, Bool, List, length, map}
use Rattle.std.specs.List.{list_all}
use Rattle.apt_base.specs.declared.kinds.Kind.{Kind}
use Rattle.apt_base.specs.declared.kinds.What.TheVariants as what
use Rattle.apt_outside.specs.Child.{Try}
use Rattle.wire_frames.specs.declared.frame.Frame.{Frame}
use Rattle.wire_frames.specs.declared.frame.Frame.TheVariants as frame
use Rattle.wire_frames.specs.Frames.{spelling}
use Rattle.record_forms.specs.declared.record.Key.{Key}
use Rattle.record_forms.specs.declared.record.KeyProcessor.{KeyProcessor}
use Rattle.project_units.specs.Limits.{limit_of}

-- the source level, the options, and the processors in the order of discovery, each by its name and its command, with the kinds that they declare
pub record Plan : Type 0 where
  pub level : ℕ
  pub options : List (List ℕ × List ℕ)
  pub processors : List Try
  pub kinds : List Kind

-- the first frame of the host to the processor with this name
abbrev pub init_of : Plan → List ℕ → Frame
init_of plan name = frame.Init (record { name = name; level = plan.level; options = plan.options })

-- its bytes
abbrev pub init_frame : Plan → List ℕ → List ℕ
init_frame plan name = spelling (init_of plan name)

-- ---- the plan of a key

-- a processor's name and command
abbrev pub try_of : KeyProcessor → Try
try_of processor = (processor.name, processor.command)

abbrev pub tries_in : Key → List Try
tries_in key = map try_of key.processors

abbrev pub name_of : KeyProcessor → List ℕ
name_of processor = processor.name

abbrev pub names_in : Key → List (List ℕ)
names_in key = map name_of key.processors

abbrev pub kind_of : KeyProcessor → Kind
kind_of processor = processor.kind

abbrev pub kinds_in : Key → List Kind
kinds_in key = map kind_of key.processors

-- what the run of a project with this key is told
abbrev pub plan_of : Key → Plan
plan_of key = record { level = key.level; options = key.options; processors = tries_in key; kinds = kinds_in key }

-- the first frame to the processor with this name is within the limit of a frame
abbrev pub init_fits : Plan → List ℕ → Bool
init_fits plan name = nat_le (length (init_frame plan name)) (limit_of what.Frame)

-- so is that to each processor
abbrev pub inits_fit : Plan → Bool
inits_fit plan = list_all (λ (processor : Try). init_fits plan processor.0) plan.processors
