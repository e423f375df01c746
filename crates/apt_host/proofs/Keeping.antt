-- A build keeps its promises, wherever it ends, and behind the line of its status.
use Rattle.std.proofs.Common.{◌≡◌, ◌≢◌, ℕ, ◌≤◌, Bool, true, List, length, map, None, Ok, Err, IfSome, Contains, refl, sym, ◌∙◌, subst}
use Rattle.std.proofs.lemmas.Bool.{false≢true}
use Rattle.apt_outside.specs.Count.{Told}
use Rattle.apt_outside.specs.Files.{Files}
use Rattle.apt_outside.specs.Child.{State}
use Rattle.tree_store.specs.RecordFormat.{record_form}
use Rattle.tree_store.specs.Output.{StoresStand}
use Rattle.tree_store.specs.Storing.{AreTaken}
use Rattle.record_forms.specs.declared.record.Key.{Key}
use Rattle.project_units.specs.Plans.{tries_in, names_in}
use Rattle.round_engine.specs.declared.running.Finished.{Finished}
use Rattle.round_engine.specs.Clean.{AreNumbered, Talked}
use Rattle.project_reading.specs.declared.status.Status.{Status}
use Rattle.project_reading.specs.Configuration.{Options}
use Rattle.project_reading.specs.Project.{Read, read_of}
use Rattle.project_reading.specs.Verdicts.{Verdict, Done, Memory, OrFree, verdict, named_in, is_tree, is_children, fails}
use Rattle.project_reading.specs.Endings.{EndsEarly}
use Rattle.project_reading.specs.Entering.{RefusesAs, IsDueRead}
use Rattle.apt_host.specs.BuildEndings.{IsConcluded}
use Rattle.apt_host.specs.Making.{Makes, RefusesRun, concluded}
use Rattle.apt_host.specs.Listed.{entry_of, numbered_of, Places}
use Rattle.apt_host.specs.Texts.{Finishes}
use Rattle.apt_host.specs.Promises.{Leaves, LeavesUndone, IsDue, Builds, processors_in}
use Rattle.apt_host.specs.Builds.{UsesKey}
use Rattle.apt_host.proofs.Early.{not_done_early, not_run_early, unnamed_concluded}
use Rattle.apt_host.proofs.EarlyRefusals.{refuses_read, refuses_free, refuses_concluded, refuses_after, due_project, due_concluded}
use Rattle.apt_host.proofs.Leaving.{leaves_memory, leaves_keep, leaves_early, shown_memory}
use Rattle.apt_host.proofs.Using.{uses_none, uses_key, uses_memory}
use Rattle.apt_host.proofs.Writing.{memory_or_not, not_done, talked}
use Rattle.apt_host.proofs.Building.{leaves_all, stores_stand, publishes_finished, publishes_not, answers_read, answers_refused, answers_finished, shows_unread, shown_refused, shown_finished}

module _ (tells talks : Bool) (options : Options) where
  -- ---- before the run

  -- the project was not read, or its store not listed, or memory was wanted: no child was started
  pub builds_unread : (old new : Files) (state : State) (rose : Type 0) (v : Verdict) → EndsEarly is_tree v → named_in v ≡ None → IsDueRead v → Told tells (RefusesAs (read_of options old) v)
      → Told tells (new ≡ old) → Builds tells talks options old new state state rose v
  builds_unread old new state rose v early none due refuses same = record {
    answer = answers_read tells talks options state.says old v refuses;
    refused = refuses_read tells options old state state v refuses;
    due = due_project state state v none due;
    published = publishes_not tells talks options state.says old new v (not_done_early is_tree v early);
    leaves = λ told. leaves_early is_tree v old new early (same told);
    kept = λ told. leaves_keep v old new (leaves_early is_tree v old new early (same told));
    stand = λ told. subst (λ files. StoresStand old → StoresStand files) (sym (same told)) (λ stand. stand);
    uses = uses_none tells talks options old v state (not_run_early is_tree v refl early) none;
    shown = λ told said. shows_unread rose (read_of options old) state v (refuses told);
  }

  module _ (old : Files) (read : Read) (is : Told tells (read_of options old ≡ Ok read)) (key : Key) (are : Told tells (tries_in key ≡ processors_in (read_of options old))) (few : length key.processors ≤ 64)
      (before after : State) where
    -- ---- a run that was refused, or failed

    pub builds_refused : (new : Files) → Told tells (new ≡ old) → (rose : Type 0) (status : Status) → EndsEarly is_children (verdict status) → UsesKey talks key (verdict status) before after
        → RefusesRun before after (verdict status) → IsDue before after (verdict status) → Talked talks read.plan.processors (Makes read before after (Err status))
        → Builds tells talks options old new before after rose (verdict status)
    builds_refused new same rose status early uses refused due makes =
        let v = verdict status in
        record {
          answer = answers_refused tells talks options old read before after is status makes;
          refused = refuses_after tells options old before after v refused;
          due = due;
          published = publishes_not tells talks options before.says old new v (not_done_early is_children v early);
          leaves = λ told. leaves_early is_children v old new early (same told);
          kept = λ told. leaves_keep v old new (leaves_early is_children v old new early (same told));
          stand = λ told. subst (λ files. StoresStand old → StoresStand files) (sym (same told)) (λ stand. stand);
          uses = uses_key tells talks options old key before after are few v v uses (λ run. absurd (false≢true (sym (not_run_early is_children v refl early) ∙ run))) uses.named;
          shown = shown_refused tells talks options old read before after is status makes rose early;
        }

    -- ---- a run that was finished

    module _ (taken : List ℕ) (finished : Finished) (numbered : AreNumbered taken finished.files) (makes : Talked talks read.plan.processors (Makes read before after (Ok finished))) (v : Verdict)
        (mid new : Files) (taken_are : Told tells (AreTaken mid taken)) (same : Told tells (mid ≡ old))
        (placed : Told tells (v ≡ Done → Places (map numbered_of finished.files) (record_form (map entry_of finished.files)) mid new)) (undone : Told tells (LeavesUndone v mid new)) where
      leaves_here : Told tells (Leaves v old new)
      leaves_here = λ told. subst (λ files. Leaves v files new) (same told) (leaves_all taken finished numbered v mid new (taken_are told) (placed told) (undone told))

      pub builds_finished : (rose : Type 0) → OrFree (concluded finished) v → IsConcluded v → UsesKey talks key Done before after → Builds tells talks options old new before after rose v
      builds_finished rose answer concludes uses = record {
        answer = answers_finished tells talks options old read before after is taken finished numbered makes v answer;
        refused = refuses_concluded tells options old before after v concludes;
        due = due_concluded before after v concludes;
        published = publishes_finished tells talks options old read before after is taken finished numbered makes v answer mid new taken_are same placed;
        leaves = leaves_here;
        kept = λ told. leaves_keep v old new (leaves_here told);
        stand = λ told stand. stores_stand taken finished numbered v mid new (taken_are told) (placed told) (undone told) (subst StoresStand (sym (same told)) stand);
        uses = uses_key tells talks options old key before after are few Done v uses (λ run. refl) (subst (λ name. IfSome name (Contains (names_in key))) (sym (unnamed_concluded v concludes)) tt);
        shown = shown_finished tells talks options old read before after is taken finished numbered makes v answer rose concludes;
      }

  -- ---- behind the line of its status

  module _ (old new : Files) (before after : State) (rose : Type 0) where
    abbrev Keeps : Verdict → Type 0
    Keeps = Builds tells talks options old new before after rose

    -- which finds no memory
    keeps_memory : (v : Verdict) → (fails is_children v ≡ true → rose) → v ≢ Done → Keeps v → Keeps Memory
    keeps_memory v cause ne builds = record {
      answer = λ told. talked talks (read_of options old) _ (λ free. absurd (false≢true (sym free)));
      refused = refuses_free tells options old before after Memory refl;
      due = tt;
      published = publishes_not tells talks options before.says old new Memory (λ done. cc);
      leaves = λ told. leaves_memory v old new ne (builds.leaves told);
      kept = λ told. leaves_keep Memory old new (leaves_memory v old new ne (builds.leaves told));
      stand = builds.stand;
      uses = uses_memory tells talks options old v before after builds.uses;
      shown = λ told said. shown_memory rose (read_of options old) v before after cause (builds.shown told said);
    }

    pub builds_finish : (v w : Verdict) → (fails is_children v ≡ true → rose) → Finishes v w → Keeps v → Keeps w
    builds_finish v w cause finishes builds = memory_or_not w (Keeps w)
        (λ memory. subst Keeps (sym memory) (keeps_memory v cause (not_done v w finishes memory) builds))
        (λ ne. subst Keeps (sym (finishes.same ne)) builds)
