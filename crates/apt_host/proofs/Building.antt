-- From what was spelled to what a build leaves.
use Rattle.std.proofs.Common.{◌≡◌, ◌≢◌, ℕ, zero, suc, ◌<◌, ◌^◌, List, [], ◌∷◌, length, map, get_or, All, None, Result, Ok, Err, inl, inr, refl, sym, ap, ◌∙◌, subst, Contains, arith, Option}
use Rattle.std.specs.Prelude.{AllPairs, ◌+◌, ◌==◌, cond, not, Bool, true, false}
use Rattle.std.specs.FinMap as fin
use Rattle.std.proofs.lemmas.List.Elements.{All-head, All-tail, All-cons}
use Rattle.std.proofs.lemmas.List.{length-map}
use Rattle.apt_outside.specs.Count.{Told}
use Rattle.apt_outside.specs.Files.{Files, file_at}
use Rattle.apt_outside.specs.Child.{Says, Try, State}
use Rattle.tree_store.specs.declared.record.StoredFile.{StoredFile}
use Rattle.apt_base.specs.Fields.{is_text}
use Rattle.tree_store.specs.RecordFormat.{record_form, IsEntry}
use Rattle.tree_store.specs.Output.{store_path, output_of, StoresStand}
use Rattle.tree_store.specs.Storing.{Numbered, paths_of, AreTaken, AreDistinct, AreAbsent, ChangesAmong, Holds}
use Rattle.tree_store.proofs.OutputLemmas.{output_of-record_form, from_entries-entries}
use Rattle.tree_store.proofs.Publishing.{absent_from_taken, Holds-written}
use Rattle.round_engine.specs.declared.numbering.Made.{Made}
use Rattle.round_engine.specs.Numbering.{AreLeast}
use Rattle.round_engine.specs.declared.running.Finished.{Finished}
use Rattle.project_units.specs.Refusals.{Refusal, Tree, Sink, Children}
use Rattle.project_units.specs.Creations.{files_among}
use Rattle.round_engine.specs.Run.{frames_of, run_of}
use Rattle.round_engine.specs.Shown.{ShowsNoMore}
use Rattle.round_engine.specs.Clean.{AreNumbered, ShowsWhole, Talked, is_error, is_warning, count_of}
use Rattle.round_engine.proofs.FrontsOfHellos.{shows_nothing}
use Rattle.round_engine.proofs.NumberingLemmas.{All-from_AreLeast, AllPairs-from_AreLeast}
use Rattle.project_reading.specs.declared.status.Status.{Status}
use Rattle.project_reading.specs.Configuration.{Options}
use Rattle.project_reading.specs.Project.{Read, read_of}
use Rattle.apt_host.specs.CleanBuild.{Summary, reported_in, summary, Outcome, outcome_of, outcome_of_run, clean, verdict_of}
use Rattle.apt_host.specs.CleanBuild as outcome
use Rattle.apt_host.specs.Report.{report_of, errors_report, report_text}
use Rattle.project_reading.specs.Verdicts.{Verdict, Done, Errors, Refused, Failed, Input, Memory, is_free, is_finished, is_children, OrFree, verdict}
use Rattle.apt_host.specs.Listed.{listed, entry_of, numbered_of, file_of, Gains, GainsFirst, Places, FitsEntry}
use Rattle.project_reading.specs.Endings.{EndsEarly}
use Rattle.project_reading.specs.Entering.{RefusesAs}
use Rattle.apt_host.specs.Making.{finished_summary, concluded, concluding_report, outcome_with, Makes}
use Rattle.apt_host.specs.Texts.{IsFront, Adds, WritesText}
use Rattle.apt_host.specs.Promises.{TalkedOf, ToldOf, Answers, Stores, Publishes, PublishesOutcome, PublishesClean, Leaves, LeavesUndone, StoresBuilt, StoresOutcome, StoresFirst, CountsStarts, Reports, ShowsBy, ShowsOver}
use Rattle.apt_host.proofs.MakingLemmas.{talked_then}
use Rattle.apt_host.proofs.Writing.{talked, front_more}
use Rattle.apt_host.proofs.Leaving.{stands_by}
use Rattle.apt_host.specs.Exempt.{exempt_in, IsExempt}
use Rattle.apt_host.specs.BuildEndings.{IsConcluded}

-- ---- the store's new files

firsts : (made : List Made) → map (λ f. f.0) (map numbered_of made) ≡ map (λ m. m.store) made
firsts [] = refl
firsts (m ∷ made) = ap (λ ns. m.store ∷ ns) (firsts made)

zeroth : (files : Numbered) (i : ℕ) (d : ℕ × List ℕ) → get_or (map (λ f. f.0) files) i d.0 ≡ (get_or files i d).0
zeroth [] i d = refl
zeroth (f ∷ files) zero d = refl
zeroth (f ∷ files) (suc i) d = zeroth files i d

apart : (files : Numbered) → AllPairs (λ a b. a ≢ b) (map (λ f. f.0) files) → AreDistinct files
apart files pairs = λ i j d before below same. pairs i j d.0 before (subst (λ n. j < n) (sym (length-map files (λ f. f.0))) below) (zeroth files i d ∙ same ∙ sym (zeroth files j d))

-- a build is done, or it isn't
pub either_way : (v : Verdict) (A : Type 0) → (v ≡ Done → A) → (v ≢ Done → A) → A
either_way Done A done other = done refl
either_way (Errors count) A done other = other (λ e. cc)
either_way (Refused refusal) A done other = other (λ e. cc)
either_way (Failed object) A done other = other (λ e. cc)
either_way (Input fault) A done other = other (λ e. cc)
either_way Memory A done other = other (λ e. cc)

-- the store files of a build
stores_built : (files : Files) (v : Verdict) (old new : Files) → (v ≡ Done → Publishes files old new) → (v ≢ Done → (entries : List StoredFile) × Stores files entries old new) → StoresBuilt files v old new
stores_built files Done old new done other = done refl
stores_built files (Errors count) old new done other = other (λ e. cc)
stores_built files (Refused refusal) old new done other = other (λ e. cc)
stores_built files (Failed object) old new done other = other (λ e. cc)
stores_built files (Input fault) old new done other = other (λ e. cc)
stores_built files Memory old new done other = other (λ e. cc)

-- what is known of a file that was made is what an entry needs
entries_fit : (made : List Made) → All (λ (file : Made). is_text file.path ≡ true) made → All FitsEntry made → All IsEntry (map entry_of made)
entries_fit [] texts sizes = λ k d below. absurd (omega arith)
entries_fit (m ∷ made) texts sizes =
    let size : FitsEntry m = All-head FitsEntry m made sizes in
    All-cons IsEntry (entry_of m) (map entry_of made) (record { path = size.1; text = All-head (λ (file : Made). is_text file.path ≡ true) m made texts; store = size.0; size = size.2 })
    (entries_fit made (All-tail (λ (file : Made). is_text file.path ≡ true) m made texts) (All-tail FitsEntry m made sizes))

module _ (taken : List ℕ) (finished : Finished) (numbered : AreNumbered taken finished.files) where
  abbrev all : List Made
  all = finished.files

  -- their numbers differ
  pub distinct_made : AreDistinct (map numbered_of all)
  distinct_made = apart (map numbered_of all) (subst (AllPairs (λ a b. a ≢ b)) (sym (firsts all)) (AllPairs-from_AreLeast taken [] (map (λ m. m.store) all) numbered.numbers))

  fit : All IsEntry (map entry_of all)
  fit = entries_fit all numbered.texts numbered.sizes

  absents : (tree : Files) → AreTaken tree taken → (made : List Made) → All IsEntry (map entry_of made) → All (λ n. ¬ Contains taken n) (map (λ m. m.store) made) → AreAbsent tree (map numbered_of made)
  absents tree are [] fit free = λ k d below. absurd (omega arith)
  absents tree are (m ∷ made) fit free = All-cons (λ path. file_at tree path ≡ None) (store_path m.store) (paths_of (map numbered_of made))
      (absent_from_taken tree taken m.store are (All-head IsEntry (entry_of m) (map entry_of made) fit).store (All-head (λ n. ¬ Contains taken n) m.store (map (λ m. m.store) made) free))
      (absents tree are made (All-tail IsEntry (entry_of m) (map entry_of made) fit) (All-tail (λ n. ¬ Contains taken n) m.store (map (λ m. m.store) made) free))

  -- no file stands at their paths
  pub absent_made : (tree : Files) → AreTaken tree taken → AreAbsent tree (map numbered_of all)
  absent_made tree are = absents tree are all fit (All-from_AreLeast taken [] (map (λ m. m.store) all) numbered.numbers)

  -- ---- what is published

  stores_are : (made : List Made) → map (λ e. e.store) (map entry_of made) ≡ map (λ m. m.store) made
  stores_are [] = refl
  stores_are (m ∷ made) = ap (λ ns. m.store ∷ ns) (stores_are made)

  -- what the report and the record name
  lines : (made : List Made) → map listed (map entry_of made) ≡ map (λ file. (file.0, length file.1)) (map file_of made)
  lines [] = refl
  lines (m ∷ made) = ap (λ ls. (m.path, length m.bytes) ∷ ls) (lines made)

  pub listed_are : (files : Files) → map file_of all ≡ fin.entries files → map listed (map entry_of all) ≡ map (λ file. (file.0, length file.1)) (fin.entries files)
  listed_are files files_are = lines all ∙ ap (map (λ file. (file.0, length file.1))) files_are

  paths_are : (made : List Made) → paths_of (map numbered_of made) ≡ map (λ e. store_path e.store) (map entry_of made)
  paths_are [] = refl
  paths_are (m ∷ made) = ap (λ ps. store_path m.store ∷ ps) (paths_are made)

  module _ (files : Files) (files_are : map file_of all ≡ fin.entries files) (old : Files) (are : AreTaken old taken) where
    held : (mid : Files) → Gains (map numbered_of all) old mid → Holds mid (map entry_of all) files
    held mid gains = Holds-written (λ (m : Made). m.path) (λ (m : Made). m.bytes) (λ (m : Made). m.store) mid files all gains.written (sym files_are)

    pub stores : (mid : Files) → Gains (map numbered_of all) old mid → Stores files (map entry_of all) old mid
    stores mid gains = record {
      held = held mid gains;
      only = subst (λ paths. ChangesAmong paths old mid) (paths_are all) gains.only;
      taken = taken;
      are_taken = are;
      numbers = subst (AreLeast taken []) (sym (stores_are all)) numbered.numbers;
    }

    pub publishes : (new : Files) → Places (map numbered_of all) (record_form (map entry_of all)) old new → Publishes files old new × StoresStand new
    publishes new p =
        let count : length (map entry_of all) < 2 ^ 32 = subst (λ n. n < 2 ^ 32) (sym (length-map all entry_of)) numbered.count in
        let both = output_of-record_form p.mid (map entry_of all) files count fit (held p.mid p.gains) in (
          record {
            entries = map entry_of all;
            mid = p.mid;
            stores = stores p.mid p.gains;
            committed = p.committed;
            output = ap output_of p.committed ∙ both.0;
          },
          subst StoresStand (sym p.committed) both.1,
        )

  module _ (v : Verdict) (old new : Files) (are : AreTaken old taken) (placed : v ≡ Done → Places (map numbered_of all) (record_form (map entry_of all)) old new) (undone : LeavesUndone v old new) where
    -- what it leaves, whether it is published or not
    pub leaves_all : Leaves v old new
    leaves_all = either_way v (Leaves v old new)
        (λ done. subst (λ w. Leaves w old new) (sym done) (numbered.published, (publishes numbered.published numbered.entries old are new (placed done)).0))
        undone

    -- and each store file stands
    pub stores_stand : StoresStand old → StoresStand new
    stores_stand stand = either_way v (StoresStand new)
        (λ done. (publishes numbered.published numbered.entries old are new (placed done)).1)
        (λ ne. stands_by v old new ne leaves_all stand)

-- the report of a build in which no error was printed
pub report_is : (processors : List (List ℕ)) (finished : Finished) → finished.errors ≡ 0 → report_of (finished_summary processors finished) (map listed (map entry_of finished.files)) ≡ concluding_report processors finished
report_is processors finished none = sym (ap (λ n. cond (n == 0) (report_of (finished_summary processors finished) (map listed (map entry_of finished.files))) (errors_report (finished_summary processors finished))) none)

-- a number of errors, by the test for none
is_zero : (n : ℕ) → (n == 0) ≡ true → n ≡ 0
is_zero n is = grind arith

not_zero : (n : ℕ) → (n == 0) ≡ false → n ≢ 0
not_zero n is = grind arith

-- one that ended with a report was neither at fault nor out of memory
ended_unfree : (v : Verdict) → is_finished v ≡ true → is_free v ≡ false
ended_unfree Done done = refl
ended_unfree (Errors count) done = refl
ended_unfree (Refused refusal) done = refl
ended_unfree (Failed object) done = absurd cc
ended_unfree (Input fault) done = absurd cc
ended_unfree Memory done = absurd cc

-- ---- a build that ended before its run was finished

by_case : {P : Type 0} (b : Bool) → (b ≡ true → P) → (b ≡ false → P) → P
by_case true first second = first refl
by_case false first second = second refl

module _ (tells talks : Bool) (options : Options) (says : Says) (project : Files) where
  -- the project is refused, or the tree failed or memory was wanted
  answer_of_read : (v : Verdict) → RefusesAs (read_of options project) v → OrFree (verdict_of (clean says options project)) v
  answer_of_read Done refuses = absurd refuses
  answer_of_read (Errors count) refuses = absurd refuses
  answer_of_read (Refused refusal) refuses = λ free. sym (ap (λ o. verdict_of (outcome_of says o)) refuses)
  answer_of_read (Failed object) refuses = λ free. absurd cc
  answer_of_read (Input fault) refuses = absurd refuses
  answer_of_read Memory refuses = λ free. absurd cc

  pub answers_read : (v : Verdict) → Told tells (RefusesAs (read_of options project) v) → Answers tells talks options says project v
  answers_read v refuses = λ told. talked talks (read_of options project) _ (answer_of_read v (refuses told))

  pub publishes_not : (new : Files) (v : Verdict) → v ≢ Done → PublishesClean tells talks options says project new v
  publishes_not new v ne = λ told. talked talks (read_of options project) _ (λ done. absurd (ne done))

-- the whole run was shown
shows_whole : (P Q : Type 0) (v : Verdict) → P → ShowsBy v P Q
shows_whole P Q Done p = p
shows_whole P Q (Errors count) p = p
shows_whole P Q (Refused refusal) p = p
shows_whole P Q (Failed Tree) p = inl p
shows_whole P Q (Failed Sink) p = p
shows_whole P Q (Failed (Children processor)) p = tt
shows_whole P Q (Input fault) p = p
shows_whole P Q Memory p = tt

-- a run ended early
shows_early : (P Q : Type 0) (v : Verdict) → EndsEarly is_children v → (is_free v ≡ false → P) → ShowsBy v P Q
shows_early P Q Done early shown = absurd early
shows_early P Q (Errors count) early shown = absurd early
shows_early P Q (Refused refusal) early shown = shown refl
shows_early P Q (Failed Tree) early shown = absurd (let e : false ≡ true = early in cc)
shows_early P Q (Failed Sink) early shown = absurd (let e : false ≡ true = early in cc)
shows_early P Q (Failed (Children processor)) early shown = tt
shows_early P Q (Input fault) early shown = absurd early
shows_early P Q Memory early shown = tt

-- the child that is exempt by a verdict
exempt_is : (rose : Type 0) (v : Verdict) → IsExempt rose v (exempt_in v)
exempt_is rose Done = refl
exempt_is rose (Errors count) = refl
exempt_is rose (Refused refusal) = refl
exempt_is rose (Failed object) = refl
exempt_is rose (Input fault) = refl
exempt_is rose Memory = inl refl

-- a build whose run was finished exempts none
exempts_none : (rose : Type 0) (v : Verdict) → IsConcluded v → IsExempt rose v None
exempts_none rose Done concluded = refl
exempts_none rose (Errors count) concluded = refl
exempts_none rose (Refused refusal) concluded = absurd concluded
exempts_none rose (Failed Tree) concluded = refl
exempts_none rose (Failed Sink) concluded = refl
exempts_none rose (Failed (Children processor)) concluded = absurd cc
exempts_none rose (Input fault) concluded = absurd concluded
exempts_none rose Memory concluded = inl refl

-- nothing was shown to a child
no_fronts : (read : Read) (state : State) → ShowsNoMore None read.plan.processors (frames_of (run_of state.says read.plan read.table)) state state
no_fronts read state = shows_nothing read.plan.processors (frames_of (run_of state.says read.plan read.table)) state

pub shows_unread : (rose : Type 0) (read : Result Read Refusal) (state : State) (v : Verdict) → RefusesAs read v → ShowsOver rose read state state v
shows_unread rose (Err refusal) state v refuses = λ k. refl
shows_unread rose (Ok read) state Done refuses = absurd refuses
shows_unread rose (Ok read) state (Errors count) refuses = absurd refuses
shows_unread rose (Ok read) state (Refused refusal) refuses = absurd (let e : Ok read ≡ Err refusal = refuses in cc)
shows_unread rose (Ok read) state (Failed Tree) refuses = record { by = inr refl; exempt = None; is_exempt = refl; fronts = no_fronts read state }
shows_unread rose (Ok read) state (Failed Sink) refuses = absurd (let e : false ≡ true = refuses in cc)
shows_unread rose (Ok read) state (Failed (Children processor)) refuses = absurd (let e : false ≡ true = refuses in cc)
shows_unread rose (Ok read) state (Input fault) refuses = absurd refuses
shows_unread rose (Ok read) state Memory refuses = record { by = tt; exempt = None; is_exempt = inl refl; fronts = no_fronts read state }

-- ---- a build whose run is known

made_of : (talks : Bool) (processors : List Try) (M : Type 0) → Talked talks processors M → talks ≡ true → M
made_of talks [] M makes told = makes
made_of talks (processor ∷ others) M makes told = makes told

talked_over : (talks : Bool) (due : Result Read Refusal) (read : Read) (M P : Type 0) → due ≡ Ok read → Talked talks read.plan.processors M → (M → P) → TalkedOf talks due P
talked_over talks due read M P is makes then = subst (λ o. TalkedOf talks o P) (sym is) (talked_then talks read.plan.processors M P makes then)

-- the frames of its run
shown_over : (rose : Type 0) (due : Result Read Refusal) (read : Read) (before after : State) (v : Verdict) (exempt : Option (List ℕ)) → due ≡ Ok read → IsExempt rose v exempt
    → ShowsBy v (ShowsWhole read.plan.processors (run_of before.says read.plan read.table) before after) (after ≡ before)
    → ShowsNoMore exempt read.plan.processors (frames_of (run_of before.says read.plan read.table)) before after → ShowsOver rose due before after v
shown_over rose due read before after v exempt is is_exempt by fronts = subst (λ o. ShowsOver rose o before after v) (sym is) (record { by = by; exempt = exempt; is_exempt = is_exempt; fronts = fronts })

module _ (tells talks : Bool) (options : Options) (project : Files) (read : Read) (before after : State) (is : Told tells (read_of options project ≡ Ok read)) where
  abbrev whole : Result Read Refusal
  whole = read_of options project

  abbrev processors : List Try
  processors = read.plan.processors

  abbrev MakesAs : Result Finished Status → Type 0
  MakesAs result = Makes read before after result

  -- a run that was refused
  module _ (status : Status) (makes : Talked talks processors (MakesAs (Err status))) where
    abbrev MakesHere : Type 0
    MakesHere = MakesAs (Err status)

    pub answers_refused : Answers tells talks options before.says project (verdict status)
    answers_refused = λ told. talked_over talks whole read MakesHere _ (is told) makes
        (λ m. subst (λ o. OrFree (verdict_of (outcome_of before.says o)) (verdict status)) (sym (is told)) m.comes)

    pub shown_refused : (rose : Type 0) → EndsEarly is_children (verdict status) → Told tells (Told talks (ShowsOver rose whole before after (verdict status)))
    shown_refused rose early = λ told said. shown_over rose whole read before after (verdict status) (exempt_in (verdict status)) (is told) (exempt_is rose (verdict status))
        (shows_early (ShowsWhole processors (run_of before.says read.plan read.table) before after) (after ≡ before) (verdict status) early (λ free. (made_of talks processors MakesHere makes said).shown (ap not free)))
        (made_of talks processors MakesHere makes said).fronts

  -- a run that was finished
  module _ (taken : List ℕ) (finished : Finished) (numbered : AreNumbered taken finished.files) (makes : Talked talks processors (MakesAs (Ok finished))) where
    abbrev MadeHere : Type 0
    MadeHere = MakesAs (Ok finished)

    abbrev names_here : List (List ℕ)
    names_here = outcome.names_in read.plan

    abbrev summary_here : Summary
    summary_here = finished_summary names_here finished

    abbrev outcome_here : Outcome
    outcome_here = outcome_with names_here finished numbered.published

    -- as many children were started as there are names
    started_is : MadeHere → length names_here ≡ finished.started
    started_is m = length-map processors (λ (processor : Try). processor.0) ∙ sym m.comes.started

    -- what its summary is, by how many were started and by how many errors and warnings there were
    abbrev summary_by : ℕ → ℕ → ℕ → Summary
    summary_by started errors warnings = record {
      started = started;
      rounds = finished.rounds;
      processors = names_here;
      messages = map (reported_in finished.table) finished.messages;
      unread = finished.unread;
      errors = errors;
      warnings = warnings;
    }

    summed : MadeHere → summary names_here finished.rounds finished.table finished.messages finished.unread ≡ summary_here
    summed m =
        let errors = count_of is_error finished.messages in
        let warnings = count_of is_warning finished.messages + length finished.unread in
        ap (λ n. summary_by n errors warnings) (started_is m) ∙ ap (λ n. summary_by finished.started n warnings) (sym m.comes.has.errors)
        ∙ ap (λ n. summary_by finished.started finished.errors n) (sym m.comes.has.warnings)

    -- the files that were made are those of the run
    files_are : (m : MadeHere) → files_among m.comes.made ≡ numbered.published
    files_are m = sym (from_entries-entries (files_among m.comes.made)) ∙ ap (λ es. fin.from_entries es) (sym m.comes.has.files ∙ numbered.entries) ∙ from_entries-entries numbered.published

    -- the clean build's outcome
    outcome_is_here : tells ≡ true → MadeHere → outcome_here ≡ clean before.says options project
    outcome_is_here told m = sym (ap (outcome_of before.says) (is told) ∙ ap (outcome_of_run read.plan) m.comes.is
        ∙ ap (λ s. outcome.finished s (files_among m.comes.made)) (summed m) ∙ ap (λ files. outcome.finished summary_here files) (files_are m))

    pub outcome_told : ToldOf tells talks options project (outcome_here ≡ clean before.says options project)
    outcome_told = λ told. talked_over talks whole read MadeHere _ (is told) makes (outcome_is_here told)

    -- errors were printed, or none was
    some_errors : (finished.errors == 0) ≡ false → outcome_here ≡ outcome.Errors summary_here
    some_errors some = ap (λ b. cond b (outcome.Built numbered.published summary_here) (outcome.Errors summary_here)) some

    no_errors : (finished.errors == 0) ≡ true → outcome_here ≡ outcome.Built numbered.published summary_here
    no_errors none = ap (λ b. cond b (outcome.Built numbered.published summary_here) (outcome.Errors summary_here)) none

    either : {P : Type 0} → ((finished.errors == 0) ≡ true → P) → ((finished.errors == 0) ≡ false → P) → P
    either built errors = by_case (finished.errors == 0) built errors

    verdict_here : concluded finished ≡ verdict_of outcome_here
    verdict_here = either (λ none. ap (λ b. cond b Done (Errors finished.errors)) none ∙ sym (ap verdict_of (no_errors none)))
        (λ some. ap (λ b. cond b Done (Errors finished.errors)) some ∙ sym (ap verdict_of (some_errors some)))

    report_here : report_text outcome_here ≡ concluding_report names_here finished
    report_here = either
        (λ none. ap report_text (no_errors none) ∙ ap (report_of summary_here) (sym (listed_are taken finished numbered numbered.published numbered.entries))
        ∙ sym (ap (λ b. cond b (report_of summary_here (map listed (map entry_of finished.files))) (errors_report summary_here)) none))
        (λ some. ap report_text (some_errors some) ∙ sym (ap (λ b. cond b (report_of summary_here (map listed (map entry_of finished.files))) (errors_report summary_here)) some))

    -- its report has the number of the starts
    counts_here : after.starts ≡ before.starts + finished.started → CountsStarts outcome_here before after
    counts_here starts = either (λ none. subst (λ o. CountsStarts o before after) (sym (no_errors none)) starts) (λ some. subst (λ o. CountsStarts o before after) (sym (some_errors some)) starts)

    module _ (v : Verdict) (answer : OrFree (concluded finished) v) where
      -- the verdict is that of the clean build
      pub answers_finished : Answers tells talks options before.says project v
      answers_finished = λ told. talked_over talks whole read MadeHere _ (is told) makes
          (λ m. subst (λ o. OrFree (verdict_of o) v) (outcome_is_here told m) (subst (λ w. OrFree w v) verdict_here answer))

      pub shown_finished : (rose : Type 0) → IsConcluded v → Told tells (Told talks (ShowsOver rose whole before after v))
      shown_finished rose concluded = λ told said. shown_over rose whole read before after v None (is told) (exempts_none rose v concluded)
          (shows_whole (ShowsWhole processors (run_of before.says read.plan read.table) before after) (after ≡ before) v ((made_of talks processors MadeHere makes said).shown refl))
          (made_of talks processors MadeHere makes said).fronts

      module _ (old new : Files) (are : Told tells (AreTaken old taken)) (same : Told tells (old ≡ project)) where
        abbrev PlacesHere : Type 0
        PlacesHere = Places (map numbered_of finished.files) (record_form (map entry_of finished.files)) old new

        published_here : tells ≡ true → (v ≡ Done → PlacesHere) → v ≡ Done → PublishesOutcome outcome_here old new
        published_here told placed done = either
            (λ none. subst (λ o. PublishesOutcome o old new) (sym (no_errors none)) (publishes taken finished numbered numbered.published numbered.entries old (are told) new (placed done)).0)
            (λ some. absurd (let e : Done ≡ Errors finished.errors = sym done ∙ answer (ap is_free done) ∙ ap (λ b. cond b Done (Errors finished.errors)) some in cc))

        -- what a finished build published is the clean build's
        pub publishes_finished : Told tells (v ≡ Done → PlacesHere) → PublishesClean tells talks options before.says project new v
        publishes_finished placed = λ told. talked_over talks whole read MadeHere _ (is told) makes
            (λ m done. subst (λ o. PublishesOutcome o project new) (outcome_is_here told m) (subst (λ t. PublishesOutcome outcome_here t new) (same told) (published_here told (placed told) done)))

        -- the files of a run without errors
        stores_files : tells ≡ true → (v ≡ Done → PlacesHere) → (v ≢ Done → Gains (map numbered_of finished.files) old new) → StoresBuilt numbered.published v old new
        stores_files told placed gains = stores_built numbered.published v old new
            (λ done. (publishes taken finished numbered numbered.published numbered.entries old (are told) new (placed done)).0)
            (λ ne. (map entry_of finished.files, stores taken finished numbered numbered.published numbered.entries old (are told) new (gains ne)))

        stores_here : (text : List ℕ) → tells ≡ true → (v ≡ Done → PlacesHere) → (finished.errors ≢ 0 → new ≡ old) → (finished.errors ≡ 0 → GainsFirst v text (map numbered_of finished.files) old new)
            → StoresFirst outcome_here v text project new
        stores_here text told placed unstored gains some = subst (λ t. StoresOutcome outcome_here v t new) (same told) (either
            (λ none. subst (λ o. StoresOutcome o v old new) (sym (no_errors none)) (stores_files told placed (λ ne. gains (is_zero finished.errors none) ne some)))
            (λ errors. subst (λ o. StoresOutcome o v old new) (sym (some_errors errors)) (unstored (not_zero finished.errors errors))))

        -- what was written is the report of the outcome
        pub reports_finished : (rose : Type 0) (written written' : List ℕ) → after.starts ≡ before.starts + finished.started → Told tells (v ≡ Done → PlacesHere) → Told tells (finished.errors ≢ 0 → new ≡ old)
            → Adds (λ text. IsFront ⊥ (concluding_report names_here finished) v text × Told tells (finished.errors ≡ 0 → GainsFirst v text (map numbered_of finished.files) old new)) written written'
            → WritesText (Reports tells talks options project new before after v) v rose written written'
        reports_finished rose written written' starts placed unstored (text, (front, gains), added) = record {
          whole = report_text outcome_here;
          text = text;
          prints = record {
            outcome = outcome_here;
            is_clean = outcome_told;
            is_report = refl;
            ended = λ done. answer (ended_unfree v done) ∙ verdict_here;
            counted = λ some. counts_here starts;
            stores = λ told. stores_here text told (placed told) (unstored told) (gains told);
          };
          is_front = subst (λ r. IsFront rose r v text) (sym report_here) (front_more ⊥ rose _ v text (λ never. absurd never) front);
          added = added;
        }
