-- From what reading and settling a configuration give to what a project's run is told.
use Rattle.std.proofs.Common.{◌≡◌, ℕ, ◌≤◌, true, false, cond, List, [], ◌∷◌, map, length, None, Some, Result, Ok, Err, inl, inr, refl, sym, ap, ◌∙◌, subst, arith}
use Rattle.std.specs.Prelude.{IfOk}
use Rattle.std.proofs.lemmas.List.{length-map}
use Rattle.apt_base.specs.declared.kinds.Kind.{Kind}
use Rattle.apt_base.specs.declared.kinds.What.{What}
use Rattle.apt_base.specs.declared.kinds.What.TheVariants as what
use Rattle.apt_outside.specs.Files.{Files}
use Rattle.apt_outside.specs.Child.{Try}
use Rattle.tree_store.specs.declared.config.RawLists.{RawLists}
use Rattle.tree_store.specs.declared.fault.ConfigReadFault.{ConfigReadFault}
use Rattle.tree_store.specs.declared.fault.ConfigReadFault.TheVariants as reads
use Rattle.tree_store.specs.Cause.{HasConfigCause}
use Rattle.tree_store.specs.Config as tree
use Rattle.project_config.specs.declared.fault.ConfigFault.{ConfigFault}
use Rattle.project_config.specs.declared.fault.ConfigFault.TheVariants as wrong
use Rattle.project_config.specs.declared.processor.Processor.{Processor}
use Rattle.project_config.specs.declared.settings.Settings.{Settings}
use Rattle.project_config.specs.Answers as reading
use Rattle.project_config.specs.Discovery.{settings_of}
use Rattle.project_config.specs.Settled.{IsSettled}
use Rattle.record_forms.specs.declared.record.Key.{Key}
use Rattle.record_forms.specs.declared.record.KeyProcessor.{KeyProcessor}
use Rattle.project_units.specs.Refusals.{past}
use Rattle.project_units.specs.Plans.{Plan, plan_of, try_of, kind_of, inits_fit}
use Rattle.project_units.specs.Units.{and_then}
use Rattle.project_reading.specs.declared.status.Status.{Status}
use Rattle.project_reading.specs.Configuration.{Options, Configuration, within, lists_in, with_lists, lists_behind, files_of, said, on_form, settings_in, try_in, kind_in, plan_in, fitting, key_processor, key_in, IsKeyOf}
use Rattle.project_reading.specs.Verdicts.{Verdict, Refused, OrMemory, is_tree, named_in, HasCause}
use Rattle.project_reading.specs.Endings.{EndsEarly}
use Rattle.project_reading.specs.Entering.{of_read, of_config, RefusesAs, IsDueRead}

-- ---- the files

-- one that was not read
pub read_as : {A : Type 0} (due : tree.Reading A) (fault : ConfigReadFault) → tree.Answers (Err fault) due → RefusesAs (within due) (of_read fault)
read_as due reads.Failed answers = refl
read_as due (reads.TooLarge file) answers = ap within answers
read_as due reads.Memory answers = tt

pub early_read : (fault : ConfigReadFault) → EndsEarly is_tree (of_read fault)
early_read reads.Failed = refl
early_read (reads.TooLarge file) = tt
early_read reads.Memory = tt

pub unnamed_read : (fault : ConfigReadFault) → named_in (of_read fault) ≡ None
unnamed_read reads.Failed = refl
unnamed_read (reads.TooLarge file) = refl
unnamed_read reads.Memory = refl

pub due_read : (fault : ConfigReadFault) → IsDueRead (of_read fault)
due_read reads.Failed = tt
due_read (reads.TooLarge file) = refl
due_read reads.Memory = tt

pub cause_read : {A : Type 0} (fault : ConfigReadFault) (before now : ℕ) → HasConfigCause {T = A} before now (Err fault) → HasCause is_tree (of_read fault) before now
cause_read reads.Failed before now cause = record { later = cause.later; rose = λ fails. cause.failed refl }
cause_read (reads.TooLarge file) before now cause = record { later = cause.later; rose = λ fails. absurd cc }
cause_read reads.Memory before now cause = record { later = cause.later; rose = λ fails. absurd cc }

module _ (project : Files) (config : tree.Bytes) (is : tree.config_of project ≡ Ok config) where
  pub files_behind : files_of project ≡ lists_behind project config
  files_behind = ap (λ r. and_then (within r) (lists_behind project)) is

  pub files_are : (lists : RawLists) → lists_in project config ≡ Ok lists → files_of project ≡ with_lists config lists
  files_are lists rest = files_behind ∙ ap (λ r. and_then (within r) (with_lists config)) rest

-- a file of lines that is within the limit says no more
pub said_short : (file : tree.Bytes) → tree.IsShort file → length (said file) ≤ 1048576
said_short None short = omega arith
said_short (Some bytes) short = short

-- ---- what they say

-- what is off its form
pub form_as : {A : Type 0} (due : reading.Reading A) (fault : ConfigFault) → reading.OrMemory {A = A} (Err fault) due → RefusesAs (on_form due) (of_config fault)
form_as due wrong.Json is = ap on_form is
form_as due (wrong.Item place) is = ap on_form is
form_as due (wrong.ServiceLine line) is = ap on_form is
form_as due (wrong.KindLine line) is = ap on_form is
form_as due wrong.TooManyProcessors is = ap on_form is
form_as due (wrong.UnknownProcessor name) is = ap on_form is
form_as due wrong.Memory is = tt

due_config : (fault : ConfigFault) → IsDueRead (of_config fault)
due_config wrong.Json = refl
due_config (wrong.Item place) = refl
due_config (wrong.ServiceLine line) = inl refl
due_config (wrong.KindLine line) = inr refl
due_config wrong.TooManyProcessors = refl
due_config (wrong.UnknownProcessor name) = tt
due_config wrong.Memory = tt

pub due_form : (fault : ConfigFault) (v : Verdict) → OrMemory (of_config fault) v → IsDueRead v
due_form fault v (inl same) = subst IsDueRead (sym same) (due_config fault)
due_form fault v (inr memory) = subst IsDueRead (sym memory) tt

pub settings_are : (options : Options) (c : Configuration) (settings : Settings) → settings_of c.config (said c.lists.services) (said c.lists.kinds) options ≡ Ok settings → settings_in options c ≡ Ok settings
settings_are options c settings is = ap on_form is

-- ---- the first frames

pub fits : (plan : Plan) → inits_fit plan ≡ true → fitting plan ≡ Ok plan
fits plan is = ap (λ b. cond b (Ok plan) (Err (past what.Frame))) is

pub fits_not : (plan : Plan) → inits_fit plan ≡ false → fitting plan ≡ Err (past what.Frame)
fits_not plan is = ap (λ b. cond b (Ok plan) (Err (past what.Frame))) is

pub due_past : (limited : What) (v : Verdict) → v ≡ Refused (past limited) → IsDueRead v
due_past limited v is = subst IsDueRead (sym is) refl

-- ---- the key

abbrev plan_with : ℕ → Options → List Try → List Kind → Plan
plan_with level options tries kinds = record { level = level; options = options; processors = tries; kinds = kinds }

-- the run tries the processors of a key
tries_same : (processors : List Processor) → map try_of (map key_processor processors) ≡ map try_in processors
tries_same [] = refl
tries_same (processor ∷ processors) = ap (λ tries. try_in processor ∷ tries) (tries_same processors)

kinds_same : (processors : List Processor) → map kind_of (map key_processor processors) ≡ map kind_in processors
kinds_same [] = refl
kinds_same (processor ∷ processors) = ap (λ kinds. kind_in processor ∷ kinds) (kinds_same processors)

pub plan_same : (key : Key) (settings : Settings) (stubs : List (List ℕ × List ℕ)) → key ≡ key_in settings stubs → plan_of key ≡ plan_in settings
plan_same key settings stubs is =
    ap plan_of is ∙ ap (λ tries. plan_with settings.level settings.options tries (map kind_of (map key_processor settings.processors))) (tries_same settings.processors)
    ∙ ap (plan_with settings.level settings.options (map try_in settings.processors)) (kinds_same settings.processors)

abbrev key_with : Settings → List KeyProcessor → List (List ℕ × List ℕ) → Key
key_with settings processors stubs = record { level = settings.level; options = settings.options; processors = processors; stubs = stubs }

pub keys_same : (settings : Settings) (processors : List KeyProcessor) (stubs : List (List ℕ × List ℕ)) → processors ≡ map key_processor settings.processors → stubs ≡ [] → key_with settings processors stubs ≡ key_in settings []
keys_same settings processors stubs same none = ap (λ ps. key_with settings ps stubs) same ∙ ap (key_with settings (map key_processor settings.processors)) none

pub key_whole : (options : Options) (c : Configuration) (settings : Settings) (result : Result Key Status) → settings_in options c ≡ Ok settings → IfOk result (λ key. key ≡ key_in settings []) → IfOk result (IsKeyOf options c [])
key_whole options c settings (Ok key) are is = record { settings = settings; are_settings = are; is = is }
key_whole options c settings (Err status) are is = tt

-- a key of settled settings has no more processors than these
module _ (key : Key) (settings : Settings) (same : plan_of key ≡ plan_in settings) (settled : IsSettled settings) where
  tries_are : map try_of key.processors ≡ map try_in settings.processors
  tries_are = ap (λ (plan : Plan). plan.processors) same

  count_is : length key.processors ≡ length settings.processors
  count_is = sym (length-map key.processors try_of) ∙ ap length tries_are ∙ length-map settings.processors try_in

  pub few_key : length key.processors ≤ 64
  few_key = subst (λ n. n ≤ 64) (sym count_is) settled.few
