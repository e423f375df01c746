-- What a processor does by the reply for which it waits, of the root that it handles or of its round.
use Rattle.std.specs.Prelude.{ℕ, ◌+◌, ◌*◌, ◌<◌, List, drop, length, Option, None, Some}
use Rattle.apt_base.specs.declared.element.ElementRef.{ElementRef}
use Rattle.wire_frames.specs.declared.frame.Frame.{Frame}
use Rattle.wire_frames.specs.declared.reply.Reply.{Reply}
use Rattle.local_procs.specs.declared.checker.CheckStage.{CheckStage}
use Rattle.local_procs.specs.declared.checker.CheckStage.TheVariants as checks
use Rattle.local_procs.specs.declared.local.Local.{Local}
use Rattle.local_procs.specs.declared.local.Local.TheVariants as locals
use Rattle.local_procs.specs.declared.stage.Stage.{Stage}
use Rattle.local_procs.specs.declared.stage.Stage.TheVariants as stages
use Rattle.local_procs.specs.Plans.{Plan, Sends, Ends, done}
use Rattle.local_procs.specs.Checker as checker
use Rattle.local_procs.specs.Builder as builder
use Rattle.local_procs.specs.declared.builder.Building.{Building}
use Rattle.local_procs.specs.declared.builder.BuildStage.{BuildStage}
use Rattle.local_procs.specs.declared.builder.BuildStage.TheVariants as builds
use Rattle.local_procs.specs.Chain as chain
use Rattle.local_procs.specs.declared.chain.ChainStage.{ChainStage}
use Rattle.local_procs.specs.declared.chain.ChainStage.TheVariants as chains
use Rattle.local_procs.specs.Registry as registry
use Rattle.local_procs.specs.declared.registry.RegistryStage.{RegistryStage}
use Rattle.local_procs.specs.declared.registry.RegistryStage.TheVariants as registers
use Rattle.local_procs.specs.declared.registry.RegistryStep.{RegistryStep}
use Rattle.local_procs.specs.declared.registry.RegistryStep.TheVariants as registry_steps

-- a step: nothing more is sent for the root, or a frame is
abbrev pub Step : Type 0 → Type 0
Step S = Option (Frame × S)

-- go says how a stage goes on
abbrev pub plan_by : {S : Type 0} → (S → Reply → Plan) → Step S → Plan
plan_by go None = done
plan_by go (Some x) = Sends x.0 (go x.1)

-- the stage that follows is nearer to the end
abbrev pub Falls : {S : Type 0} → (S → ℕ) → ℕ → Step S → Type 0
Falls rank before None = Unit {0}
Falls rank before (Some x) = rank x.1 < before

-- ---- checker

abbrev pub check_go : ElementRef → CheckStage → Reply → Plan
check_go root checks.Info = checker.after_info root
check_go root (checks.Annotations simple) = checker.after_annotations root simple
check_go root checks.Comment = checker.after_comment root
check_go root checks.Last = checker.after_last

abbrev pub check_rank : CheckStage → ℕ
check_rank checks.Info = 3
check_rank (checks.Annotations simple) = 2
check_rank checks.Comment = 1
check_rank checks.Last = 0

-- ---- chain

abbrev pub chain_go : ElementRef → ChainStage → Reply → Plan
chain_go root chains.Info = chain.after_info root
chain_go root (chains.Annotations info) = chain.after_annotations root info
chain_go root chains.Last = chain.after_last

abbrev pub chain_rank : ChainStage → ℕ
chain_rank chains.Info = 2
chain_rank (chains.Annotations info) = 1
chain_rank chains.Last = 0

-- ---- builder

-- for each member that is left
abbrev pub rest_rank : Building → ℕ
rest_rank building = 4 * length (drop building.next building.members)

-- what is left of its members, by the text so far
abbrev pub rest_of : ElementRef → Building → List ℕ → Plan
rest_of root building = builder.members root building.canonical (drop building.next building.members)

abbrev pub build_go : ElementRef → BuildStage → Reply → Plan
build_go root builds.Info = builder.after_info root
build_go root (builds.Annotations info) = builder.after_annotations root info
build_go root (builds.Enclosed info) = builder.after_enclosed root info
build_go root (builds.Member building member) = builder.after_member (rest_of root building) building.text member
build_go root (builds.Type building name) = builder.after_type (rest_of root building) building.text name
build_go root (builds.Print building name) = builder.after_print (rest_of root building) building.text name
build_go root builds.Creation = builder.after_creation root
build_go root builds.Last = builder.after_warning

abbrev pub build_rank : BuildStage → ℕ
build_rank builds.Info = 4004
build_rank (builds.Annotations info) = 4003
build_rank (builds.Enclosed info) = 4002
build_rank (builds.Member building member) = rest_rank building + 5
build_rank (builds.Type building name) = rest_rank building + 4
build_rank (builds.Print building name) = rest_rank building + 3
build_rank builds.Creation = 1
build_rank builds.Last = 0

-- ---- registry, of its round

abbrev pub registry_go : RegistryStage → Reply → Plan
registry_go (registers.Registered over kept) = registry.after_registered over kept
registry_go (registers.File kept) = registry.after_file kept

abbrev pub registry_plan : RegistryStep → Plan
registry_plan (registry_steps.Sends sent stage) = Sends sent (registry_go stage)
registry_plan (registry_steps.Ends kept) = Ends kept

-- ---- all

abbrev pub go_of : ElementRef → Stage → Reply → Plan
go_of root (stages.Checks stage) = check_go root stage
go_of root (stages.Builds stage) = build_go root stage
go_of root (stages.Chains stage) = chain_go root stage

abbrev pub rank_of : Stage → ℕ
rank_of (stages.Checks stage) = check_rank stage
rank_of (stages.Builds stage) = build_rank stage
rank_of (stages.Chains stage) = chain_rank stage

-- what a processor does for a root: registry handles none
abbrev pub plan_for : Local → ElementRef → Plan
plan_for locals.Checker root = checker.checks root
plan_for locals.Builder root = builder.builds root
plan_for locals.Chain root = chain.chains root
plan_for locals.Registry root = done
