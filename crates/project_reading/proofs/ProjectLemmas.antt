-- From what its files come to, to what a project is read as.
use Rattle.std.proofs.Common.{◌≡◌, ℕ, Bool, ◌≤◌, List, [], length, subst, Result, Ok, Err, None, refl, sym, ap, ◌∙◌}
use Rattle.apt_base.specs.declared.kinds.What.{What}
use Rattle.apt_outside.specs.Files.{Files}
use Rattle.unit_locations.specs.LocatedTable.{LocatedTable}
use Rattle.tree_store.specs.declared.fault.SourceReadFault.{SourceReadFault}
use Rattle.tree_store.specs.declared.fault.SourceReadFault.TheVariants as reads
use Rattle.tree_store.specs.declared.sources.RawSources.{RawSources}
use Rattle.tree_store.specs.Cause.{HasSourceCause}
use Rattle.tree_store.specs.Sources.{sources_of, Gives}
use Rattle.record_forms.specs.declared.record.Key.{Key}
use Rattle.project_units.specs.declared.project.Project.{Project}
use Rattle.project_units.specs.Refusals.{Refusal}
use Rattle.project_units.specs.Plans.{Plan, plan_of}
use Rattle.project_units.specs.Units.{and_then}
use Rattle.project_reading.specs.declared.sources.Tables.{Tables}
use Rattle.project_reading.specs.Configuration.{Options, Configuration, files_of, plan_by, with_stubs, IsKeyOf}
use Rattle.project_reading.specs.Project.{shown_project, Read, tables_of, read_with, look_into, within_limits, read_behind, read_of, KeepsAll, Keeps}
use Rattle.project_reading.specs.Verdicts.{Verdict, is_tree, named_in, HasCause}
use Rattle.project_reading.specs.Endings.{EndsEarly}
use Rattle.project_reading.specs.Entering.{of_sources, RefusesAs, IsDueRead}
use Rattle.project_reading.proofs.Refusing.{refuses_then, refuses_behind}

-- ---- sources and stubs that were not read

pub sources_as : (due : Result RawSources What) (fault : SourceReadFault) → Gives due (Err fault) → RefusesAs (within_limits due) (of_sources fault)
sources_as due reads.Failed gives = refl
sources_as due (reads.TooLarge limit) gives = ap within_limits gives
sources_as due reads.Memory gives = tt

pub early_sources : (fault : SourceReadFault) → EndsEarly is_tree (of_sources fault)
early_sources reads.Failed = refl
early_sources (reads.TooLarge limit) = tt
early_sources reads.Memory = tt

pub unnamed_sources : (fault : SourceReadFault) → named_in (of_sources fault) ≡ None
unnamed_sources reads.Failed = refl
unnamed_sources (reads.TooLarge limit) = refl
unnamed_sources reads.Memory = refl

pub due_sources : (fault : SourceReadFault) → IsDueRead (of_sources fault)
due_sources reads.Failed = tt
due_sources (reads.TooLarge limit) = refl
due_sources reads.Memory = tt

pub cause_sources : {A : Type 0} (fault : SourceReadFault) (before now : ℕ) → HasSourceCause {T = A} before now (Err fault) → HasCause is_tree (of_sources fault) before now
cause_sources reads.Failed before now cause = record { later = cause.later; rose = λ fails. cause.failed refl }
cause_sources (reads.TooLarge limit) before now cause = record { later = cause.later; rose = λ fails. absurd cc }
cause_sources reads.Memory before now cause = record { later = cause.later; rose = λ fails. absurd cc }

-- ---- the project, step by step

-- one whose files of the configuration are refused
pub refuses_files : (options : Options) (project : Files) (v : Verdict) → RefusesAs (files_of project) v → RefusesAs (read_of options project) v
refuses_files options project v refuses = refuses_then (files_of project) v (read_behind options project) refuses

module _ (options : Options) (project : Files) (c : Configuration) (files : files_of project ≡ Ok c) where
  -- one whose sources and stubs are not given
  pub refuses_sources : (v : Verdict) → RefusesAs (within_limits (sources_of project)) v → RefusesAs (read_of options project) v
  refuses_sources v refuses =
      refuses_behind (files_of project) v c (read_behind options project) files (refuses_then (within_limits (sources_of project)) v (look_into options c) refuses)

  module _ (given : RawSources) (are : sources_of project ≡ Ok given) where
    within_is : within_limits (sources_of project) ≡ Ok given
    within_is = ap within_limits are

    looked : (v : Verdict) → RefusesAs (look_into options c given) v → RefusesAs (read_of options project) v
    looked v refuses = refuses_behind (files_of project) v c (read_behind options project) files (refuses_behind (within_limits (sources_of project)) v given (look_into options c) within_is refuses)

    abbrev with_table : Plan → Result Read Refusal
    with_table plan = read_with plan (tables_of given)

    -- one whose configuration is refused
    pub refuses_plan : (v : Verdict) → RefusesAs (plan_by options c) v → RefusesAs (read_of options project) v
    refuses_plan v refuses = looked v (refuses_then (plan_by options c) v with_table refuses)

    module _ (plan : Plan) (is : plan_by options c ≡ Ok plan) where
      abbrev as_read : Tables → Result Read Refusal
      as_read tables = Ok (record { plan = plan; table = tables.initial })

      -- one of whose files one gives no units, or one of whose units is not entered
      pub refuses_tables : (v : Verdict) → RefusesAs (tables_of given) v → RefusesAs (read_of options project) v
      refuses_tables v refuses = looked v (refuses_behind (plan_by options c) v plan with_table is (refuses_then (tables_of given) v as_read refuses))

      -- one that is read
      pub project_is : (tables : Tables) → tables_of given ≡ Ok tables → read_of options project ≡ as_read tables
      project_is tables entered =
          ap (λ r. and_then r (read_behind options project)) files ∙ ap (λ r. and_then r (look_into options c)) within_is ∙ ap (λ r. and_then r with_table) is
          ∙ ap (read_with plan) entered

-- ---- the project that is kept

module _ (key : Key) (stubs : List (List ℕ × List ℕ)) (tables : Tables) (project : Project) (same : project.key ≡ with_stubs key stubs) (initial : project.initial ≡ tables.initial) where
  pub shown-kept : shown_project project ≡ record { plan = plan_of key; table = tables.initial }
  shown-kept =
      ap (λ (k : Key). record { plan = plan_of k; table = project.initial }) same ∙ ap (λ (t : LocatedTable). record { plan = plan_of key; table = t }) initial

  pub tables-kept : (due : Result Tables Refusal) → project.stubs ≡ tables.stubs → due ≡ Ok tables → due ≡ Ok (record { stubs = project.stubs; initial = project.initial })
  tables-kept due alone is =
      is ∙ ap (λ (t : LocatedTable). Ok (record { stubs = t; initial = tables.initial })) (sym alone) ∙ ap (λ (t : LocatedTable). Ok (record { stubs = project.stubs; initial = t })) (sym initial)

  pub few-kept : length key.processors ≤ 64 → length project.key.processors ≤ 64
  few-kept few = subst (λ (k : Key). length k.processors ≤ 64) (sym same) few

  pub key-kept : (options : Options) (c : Configuration) → IsKeyOf options c [] key → IsKeyOf options c stubs project.key
  key-kept options c whole = record { settings = whole.settings; are_settings = whole.are_settings; is = same ∙ ap (λ (k : Key). with_stubs k stubs) whole.is }

pub keeps-all : (tells : Bool) (options : Options) (files : Files) (project : Project) → KeepsAll tells options files project → Keeps tells options files project
unfolding Keeps
keeps-all tells options files project all = all
