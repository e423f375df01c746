-- The record of a finished run stands.
use Rattle.std.proofs.Common.{◌≡◌, ℕ, false, length, map, Option, Ok, List, refl, subst}
use Rattle.std.proofs.lemmas.List.{length-map}
use Rattle.std.specs.List.{AllByRecursion}
use Rattle.run_entries.specs.declared.processed.Processed.{Processed}
use Rattle.run_entries.specs.Stands.{StandsFor}
use Rattle.run_entries.proofs.StandLemmas.{entries_stand}
use Rattle.apt_outside.specs.Child.{Says}
use Rattle.unit_locations.specs.LocatedTable.{LocatedTable}
use Rattle.record_forms.specs.declared.record.Key.{Key}
use Rattle.project_units.specs.Creations.{files_among}
use Rattle.project_units.specs.Plans.{plan_of, try_of}
use Rattle.round_engine.specs.declared.running.Finished as declared
use Rattle.round_engine.specs.Run.{Finished, run_of, frames_of}
use Rattle.round_engine.specs.Clean.{FinishesAs, shown_finished}
use Rattle.run_record.specs.Next.{stores_in, record_of, IsIn}
use Rattle.project_units.specs.declared.project.Project.{Project}
use Rattle.run_record.specs.Stands.{remembered, StandsAs}
use Rattle.run_record.proofs.ProjectStubs.{has_stubs}
use Rattle.run_record.proofs.NumberedFiles.{stored_at, has_made}
use Rattle.run_record.proofs.StoredEntries.{HasFile, entries_stored}
use Rattle.run_record.proofs.RememberedRuns.{IsOneOf, IfGoes, IsBacked, all_weaker, run_backed}

module _ (says : Says) (key : Key) (table : LocatedTable) (started : ℕ) (finished : declared.Finished) (store : ℕ → Option (List ℕ))
    (is : FinishesAs (run_of says (plan_of key) table) started finished) (stand : AllByRecursion (IsIn store) finished.files) where
  abbrev run : Finished
  run = shown_finished (frames_of (run_of says (plan_of key) table)) is.made finished

  stands_for : StandsFor (remembered run) store (record_of key table.table finished)
  stands_for =
      let all = files_among run.made in
      let stores = stores_in finished.files in
      let backed : IsBacked (length key.processors) run.made run.processed =
      subst (λ n. IsBacked n run.made run.processed) (length-map key.processors try_of)
      (subst (IfGoes (λ (run : Finished). IsBacked (length (plan_of key).processors) run.made run.processed)) is.is (run_backed says (plan_of key) table)) in
      let files_stored : AllByRecursion (λ (done : Processed). AllByRecursion (HasFile store all stores) done.files) run.processed =
      all_weaker (λ (done : Processed). AllByRecursion (IsOneOf run.made) done.files) (λ (done : Processed). AllByRecursion (HasFile store all stores) done.files)
      (λ done. all_weaker (IsOneOf run.made) (HasFile store all stores) (λ file made. stored_at store all finished.files file.path is.has.files stand (has_made file.path run.made made)) done.files) run.processed backed.files in
      entries_stand (remembered run) stores (length key.processors) store (record_of key table.table finished)
      (record { hellos = refl; rounds = refl; entries = refl; notes = refl; few = backed.few }) (entries_stored store all stores run.processed files_stored)

pub record_stands : (project : Project) (finished : declared.Finished) → StandsAs project finished (record_of project.key project.initial.table finished)
record_stands project finished tells options tree says started store keeps is clean stand = record {
  table = project.initial;
  is = record { stubs = has_stubs tells options tree project keeps; sources = refl };
  run = run says project.key project.initial started finished store is stand;
  comes = is.is;
  clean = clean;
  stands = stands_for says project.key project.initial started finished store is stand;
}
