-- What is written, by the verdict.
use Rattle.std.proofs.Common.{◌≡◌, ◌≢◌, ℕ, Bool, true, false, List, [], ◌∷◌, Result, Ok, Err, refl, sym, ap, ◌∙◌, subst, inl, inr, take, append-nil}
use Rattle.std.proofs.lemmas.Bool.{false≢true}
use Rattle.apt_outside.specs.Count.{Rose}
use Rattle.apt_outside.specs.Files.{Files}
use Rattle.apt_outside.specs.Child.{Try, State}
use Rattle.apt_outside.specs.declared.fault.Fault.{Fault}
use Rattle.apt_outside.specs.declared.fault.Fault.TheVariants as outside
use Rattle.apt_outside.specs.Stream.{Appends}
use Rattle.apt_host.specs.BuildEndings.{sink_verdict}
use Rattle.project_units.specs.Refusals.{Refusal, Object, Tree, Sink, Children}
use Rattle.round_engine.specs.Clean.{Talked}
use Rattle.project_reading.specs.Configuration.{Options}
use Rattle.project_reading.specs.Project.{Read, read_of}
use Rattle.apt_host.specs.CleanBuild.{Outcome, clean, verdict_of}
use Rattle.apt_host.specs.CleanBuild as outcome
use Rattle.apt_host.specs.Report.{report_text}
use Rattle.project_reading.specs.Verdicts.{Verdict, Done, Errors, Refused, Failed, Input, Memory, OrMemory, is_finished, is_sink, fails, HasCause}
use Rattle.apt_host.specs.Texts.{IsFront, IsLine, Adds, WritesText, Writes, Finishes}
use Rattle.apt_host.specs.Promises.{TalkedOf, StoresBuilt, StoresOutcome, Reports}

-- a status is out of memory, or it is not
pub memory_or_not : (v : Verdict) (A : Type 0) → (v ≡ Memory → A) → (v ≢ Memory → A) → A
memory_or_not Memory A is other = is refl
memory_or_not Done A is other = other (λ e. cc)
memory_or_not (Errors count) A is other = other (λ e. cc)
memory_or_not (Refused refusal) A is other = other (λ e. cc)
memory_or_not (Failed object) A is other = other (λ e. cc)
memory_or_not (Input fault) A is other = other (λ e. cc)

-- a fact that holds holds where it is told
talked_by : (talks : Bool) (processors : List Try) (P : Type 0) → P → Talked talks processors P
talked_by talks [] P p = p
talked_by talks (processor ∷ others) P p = λ told. p

pub talked : (talks : Bool) (read : Result Read Refusal) (P : Type 0) → P → TalkedOf talks read P
talked talks (Err refusal) P p = p
talked talks (Ok read) P p = talked_by talks read.plan.processors P p

-- ---- the report

-- before the report nothing stands
pub nothing_yet : (rose : Type 0) (report : List ℕ) (v : Verdict) → is_finished v ≡ false → fails is_sink v ≡ false → IsFront rose report v []
nothing_yet rose report Done unfinished other = absurd cc
nothing_yet rose report (Errors count) unfinished other = absurd cc
nothing_yet rose report (Refused refusal) unfinished other = refl
nothing_yet rose report (Failed Tree) unfinished other = inl refl
nothing_yet rose report (Failed Sink) unfinished other = absurd cc
nothing_yet rose report (Failed (Children processor)) unfinished other = refl
nothing_yet rose report (Input fault) unfinished other = refl
nothing_yet rose report Memory unfinished other = inl refl

-- the sink failed or memory was wanted for the report, of which a part was written
pub some_written : (report old new : List ℕ) (fault : Fault) → report ≢ [] → Appends old new report (Err fault) → Adds (IsFront ⊥ report (sink_verdict fault)) old new
some_written report old new outside.Failed some appends = (take appends.some.0 report, (some, (appends.some.0, refl)), appends.some.1)
some_written report old new outside.Memory some appends = ([], inl refl, appends.memory refl ∙ sym (append-nil old))

front_memory : (rose : Type 0) (report : List ℕ) (v : Verdict) (text : List ℕ) → (fails is_sink v ≡ true → rose) → IsFront rose report v text → IsFront rose report Memory text
front_memory rose report Done text why f = inr (inl f)
front_memory rose report (Errors count) text why f = inr (inl f)
front_memory rose report (Refused refusal) text why f = inl f
front_memory rose report (Failed Tree) text why (inl f) = inl f
front_memory rose report (Failed Tree) text why (inr f) = inr (inl f)
front_memory rose report (Failed Sink) text why f = inr (inr (why refl, f.1))
front_memory rose report (Failed (Children processor)) text why f = inl f
front_memory rose report (Input fault) text why f = inl f
front_memory rose report Memory text why f = f

pub front_more : (r s : Type 0) (report : List ℕ) (v : Verdict) (text : List ℕ) → (r → s) → IsFront r report v text → IsFront s report v text
front_more r s report Done text more f = f
front_more r s report (Errors count) text more f = f
front_more r s report (Refused refusal) text more f = f
front_more r s report (Failed object) text more f = f
front_more r s report (Input fault) text more f = f
front_more r s report Memory text more (inl f) = inl f
front_more r s report Memory text more (inr (inl f)) = inr (inl f)
front_more r s report Memory text more (inr (inr f)) = inr (inr (more f.0, f.1))

-- the front stays one when the line wants memory
front_after : (rose : Type 0) (report : List ℕ) (v w : Verdict) (text : List ℕ) → (fails is_sink v ≡ true → rose) → (w ≢ Memory → w ≡ v) → IsFront rose report v text → IsFront rose report w text
front_after rose report v w text why same f = memory_or_not w (IsFront rose report w text)
    (λ memory. subst (λ u. IsFront rose report u text) (sym memory) (front_memory rose report v text why f))
    (λ ne. subst (λ u. IsFront rose report u text) (sym (same ne)) f)

line_more : (v : Verdict) (r s : Type 0) (line : List ℕ) → (r → s) → IsLine v r line → IsLine v s line
line_more v r s line more (inl all) = inl all
line_more v r s line more (inr (inl memory)) = inr (inl memory)
line_more v r s line more (inr (inr cut)) = inr (inr (more cut.0, cut.1))

-- what a build that is not done has in the store stands there also where the line wants memory
built_memory : (files : Files) (v : Verdict) (old new : Files) → v ≢ Done → StoresBuilt files v old new → StoresBuilt files Memory old new
built_memory files Done old new ne stores = absurd (ne refl)
built_memory files (Errors count) old new ne stores = stores
built_memory files (Refused refusal) old new ne stores = stores
built_memory files (Failed object) old new ne stores = stores
built_memory files (Input fault) old new ne stores = stores
built_memory files Memory old new ne stores = stores

stores_memory : (o : Outcome) (v : Verdict) (old new : Files) → v ≢ Done → StoresOutcome o v old new → StoresOutcome o Memory old new
stores_memory (outcome.Built files summary) v old new ne stores = built_memory files v old new ne stores
stores_memory (outcome.Errors summary) v old new ne stores = stores
stores_memory (outcome.Refused refusal) v old new ne stores = stores

-- a build that is done stays so
pub not_done : (before after : Verdict) → Finishes before after → after ≡ Memory → before ≢ Done
not_done before after finishes memory done = let e : Memory ≡ Done = sym memory ∙ (finishes.done (ap is_finished done) ∙ done) in cc

stores_finish : (o : Outcome) (v w : Verdict) (old new : Files) → Finishes v w → StoresOutcome o v old new → StoresOutcome o w old new
stores_finish o v w old new finishes stores = memory_or_not w (StoresOutcome o w old new)
    (λ memory. subst (λ u. StoresOutcome o u old new) (sym memory) (stores_memory o v old new (not_done v w finishes memory) stores))
    (λ ne. subst (λ u. StoresOutcome o u old new) (sym (finishes.same ne)) stores)

-- ---- the text of any command

-- nothing of it was written
pub writes_nothing : (P : List ℕ → List ℕ → Type 0) (v : Verdict) (rose : Type 0) (whole old : List ℕ) → is_finished v ≡ false → fails is_sink v ≡ false → P whole [] → WritesText P v rose old old
writes_nothing P v rose whole old unfinished other prints = record { whole = whole; text = []; prints = prints; is_front = nothing_yet rose whole v unfinished other; added = sym (append-nil old) }

-- the sink failed or memory was wanted for it
pub writes_some : (P : List ℕ → List ℕ → Type 0) (whole old new : List ℕ) (fault : Fault) (rose : Type 0) → whole ≢ [] → ((text : List ℕ) → P whole text) → Appends old new whole (Err fault)
    → WritesText P (sink_verdict fault) rose old new
writes_some P whole old new fault rose some prints appends =
    let adds = some_written whole old new fault some appends in
    record {
      whole = whole;
      text = adds.0;
      prints = prints adds.0;
      is_front = front_more ⊥ rose whole (sink_verdict fault) adds.0 (λ never. absurd never) adds.1;
      added = adds.2;
    }

-- and then the line of the status
pub writes_all : (P Q : List ℕ → List ℕ → Type 0) (v w : Verdict) (r1 r2 s : Type 0) (old mid new : List ℕ) → Finishes v w → (r1 → s) → (r2 → s) → (fails is_sink v ≡ true → s)
    → ((whole text : List ℕ) → P whole text → Q whole text) → WritesText P v r1 old mid → Adds (IsLine w r2) mid new → Writes Q w s old new
writes_all P Q v w r1 r2 s old mid new fin more more_line why keeps written (line, is_line, ends) = record {
  mid = mid;
  text = record {
    whole = written.whole;
    text = written.text;
    prints = keeps written.whole written.text written.prints;
    is_front = front_after s written.whole v w written.text why fin.same (front_more r1 s written.whole v written.text more written.is_front);
    added = written.added;
  };
  line = (line, line_more w r2 s line more_line is_line, ends);
}

-- ---- the report of a build

module _ (tells talks : Bool) (options : Options) (project project' : Files) (before after : State) where
  abbrev IsReport : Verdict → List ℕ → List ℕ → Type 0
  IsReport v = Reports tells talks options project project' before after v

  abbrev cleaned : Outcome
  cleaned = clean before.says options project

  -- nothing of it stands yet
  pub reports_nothing : (v : Verdict) → is_finished v ≡ false → IsReport v (report_text cleaned) []
  reports_nothing v unfinished = record {
    outcome = cleaned;
    is_clean = λ told. talked talks (read_of options project) (cleaned ≡ cleaned) refl;
    is_report = refl;
    ended = λ done. absurd (false≢true (sym unfinished ∙ done));
    counted = λ some. absurd (some refl);
    stores = λ told some. absurd (some refl);
  }

  -- and nothing of it was written
  pub begins_with_nothing : (v : Verdict) (rose : Type 0) (old : List ℕ) → is_finished v ≡ false → fails is_sink v ≡ false → WritesText (IsReport v) v rose old old
  begins_with_nothing v rose old unfinished other = writes_nothing (IsReport v) v rose (report_text cleaned) old unfinished other (reports_nothing v unfinished)

  -- its answer is that of its outcome
  ended_after : (v w : Verdict) (o : Outcome) → (w ≢ Memory → w ≡ v) → (is_finished v ≡ true → v ≡ verdict_of o) → is_finished w ≡ true → w ≡ verdict_of o
  ended_after v w o same ended done =
      let as_before : w ≡ v = same (λ memory. false≢true (sym (ap is_finished memory) ∙ done)) in
      as_before ∙ ended (sym (ap is_finished as_before) ∙ done)

  -- behind the line of a refusal
  pub reports_finish : (v w : Verdict) → Finishes v w → (whole text : List ℕ) → IsReport v whole text → IsReport w whole text
  reports_finish v w fin whole text reports = record {
    outcome = reports.outcome;
    is_clean = reports.is_clean;
    is_report = reports.is_report;
    ended = ended_after v w reports.outcome fin.same reports.ended;
    counted = reports.counted;
    stores = λ told some. stores_finish reports.outcome v w project project' fin (reports.stores told some);
  }

-- ---- the answer, behind the line of a refusal

pub or_memory : (v w : Verdict) → Finishes v w → OrMemory v w
or_memory v w fin = memory_or_not w (OrMemory v w) (λ memory. inr memory) (λ ne. inl (fin.same ne))

-- out of memory stays so
pub memory_stays : (w : Verdict) → Finishes Memory w → w ≡ Memory
memory_stays w fin = memory_or_not w (w ≡ Memory) (λ memory. memory) (λ ne. fin.same ne)

-- its cause
pub cause_finish : (is : Object → Bool) (v w : Verdict) (before now : ℕ) → Finishes v w → HasCause is v before now → HasCause is w before now
cause_finish is v w before now fin cause = record {
  later = cause.later;
  rose = λ failed. memory_or_not w (Rose before now)
      (λ memory. absurd (false≢true (sym (ap (fails is) memory) ∙ failed)))
      (λ ne. cause.rose (ap (fails is) (sym (fin.same ne)) ∙ failed));
}
