-- What holds of the settings of every project, so that a build may rely on it.
use Rattle.std.specs.Prelude.{◌≡◌, ◌<◌, ◌≤◌, length, map}
use Rattle.std.specs.List.{AllByRecursion, IsDistinct}
use Rattle.std.specs.List.Sorted.{IsStrictlySortedBy}
use Rattle.std.specs.Ordering.{nat_cmp}
use Rattle.std.specs.Cmp.Lexicographic.{slice_cmp}
use Rattle.std.specs.Str.{bytes_eq}
use Rattle.apt_base.specs.Limits.{max_processors}
use Rattle.project_config.specs.declared.processor.Processor.{Processor}
use Rattle.project_config.specs.declared.settings.Settings.{Settings}

-- the options ascend by their keys; there are at most 64 processors, of different names, each with a program
pub record IsSettled (settings : Settings) : Type 0 where
  pub level : settings.level ≡ 11
  pub options : IsStrictlySortedBy (slice_cmp nat_cmp) (map (λ option. option.0) settings.options)
  pub few : length settings.processors ≤ max_processors
  pub names : IsDistinct bytes_eq (map (λ (processor : Processor). processor.name) settings.processors)
  pub commands : AllByRecursion (λ (processor : Processor). 0 < length processor.command) settings.processors
