-- The rounds of a run that are shown one after another, over children before and after each: what comes of them.
use Rattle.std.proofs.Common.{◌≡◌, ℕ, suc, Bool, true, false, List, [], length, drop, Result, Ok, Err, refl, sym, ap, subst, ◌∙◌}
use Rattle.std.specs.Prelude.{◌||◌, not}
use Rattle.std.specs.FinMap as fin
use Rattle.apt_outside.specs.Child.{Try, State}
use Rattle.wire_frames.specs.declared.frame.Creation.{Creation}
use Rattle.unit_locations.specs.LocatedTable.{LocatedTable}
use Rattle.round_engine.specs.declared.beginning.Discovered as code_discovered
use Rattle.round_engine.specs.declared.progress.Progress as code_progress
use Rattle.project_units.specs.declared.refusal.Refusal as declared
use Rattle.project_units.specs.declared.refusal.Refusal.TheVariants as code
use Rattle.round_engine.specs.declared.rounds.Round.{Round}
use Rattle.round_engine.specs.declared.rounds.Rounds.{Rounds}
use Rattle.project_units.specs.Refusals as stop
use Rattle.project_units.specs.Refusals.{Refusal, Stop, exempt_by}
use Rattle.project_units.specs.Faults.{stop_of}
use Rattle.project_units.specs.Entering.{RefusesAs}
use Rattle.project_units.specs.Units.{Entered, enter_all, all_of}
use Rattle.round_engine.specs.Run.{Discovered, Progress, Run, Finished, round_of, has_error, ask, last_of, next_of, last_round, rounds_before_last, rounds_from}
use Rattle.project_units.specs.Creations.{creates_source, sources_among}
use Rattle.round_engine.specs.Fronts.{AreFronts, FrontsBut}
use Rattle.round_engine.specs.Shown.{Stands, Goes, StopsAs, sent_by, sent_in_progress, sent_in_finished, all_sent, standing, shown_discovered, shown_rounds, rounds_until}
use Rattle.round_engine.proofs.FrontsOfFrames.{fronts_exact, fronts_more, ask_fronts, last_fronts, later_fronts, round_then}
use Rattle.round_engine.proofs.AskedProcessors.{still_theirs, goes_memory}
use Rattle.round_engine.proofs.RoundsOfARun.{last_ok, last_err, rounds_opened, rounds_after, rounds_stop, rounds_close, rounds_refused, rounds_go, rounds_full}

-- ---- the last round

module _ (d : code_discovered.Discovered) (processors : List Try) (r : Round) (p : code_progress.Progress) (k : State) (over : r.over ≡ true) (none : r.roots ≡ []) where
  abbrev run : Discovered
  run = shown_discovered k.says processors d

  abbrev before : Progress
  before = standing d.group p k

  abbrev last : Run
  last = last_round ask run r.number r.error r.table before

  abbrev with_roots : Bool → List (List ℕ) → Round
  with_roots b roots = record { number = r.number; over = b; error = r.error; table = r.table; roots = roots }

  is_last : r ≡ last_of r.number r.error r.table
  is_last = ap (λ b. with_roots b r.roots) over ∙ ap (with_roots true) none

  -- the round was refused
  pub last_refused : {T V : Type 0} (one : T → Progress) (means : V → Finished) (refusal : declared.Refusal) (k' : State) → Goes sent_in_progress d processors (round_of ask run r before) one (Err refusal) k' → Goes sent_in_finished d processors last means (Err refusal) k'
  last_refused one means refusal k' goes = record { comes = stops (stop_of refusal) goes.comes; same = goes.same; ready = tt; fronts = fronts }
    where
      stops : (s : Stop) → StopsAs (round_of ask run r before) (all_sent k'.known d.group) s → StopsAs last (all_sent k'.known d.group) s
      stops (stop.Refused refused) is = last_err ask run r.number r.error r.table before (record { sent = all_sent k'.known d.group; refusal = refused }) (ap (λ q. round_of ask run q before) (sym is_last) ∙ is)
      stops (stop.Failed object) is = tt
      stops stop.Memory is = tt

      fronts : FrontsBut (exempt_by (stop_of refusal)) processors (all_sent k'.known d.group) (sent_by sent_in_finished last)
      fronts = fronts_more (exempt_by (stop_of refusal)) processors (all_sent k'.known d.group) (sent_by sent_in_progress (round_of ask run (last_of r.number r.error r.table) before)) (sent_by sent_in_finished last)
          (subst (λ q. FrontsBut (exempt_by (stop_of refusal)) processors (all_sent k'.known d.group) (sent_by sent_in_progress (round_of ask run q before))) is_last goes.fronts)
          (last_fronts ask run (ask_fronts run) r.number r.error r.table before)

  -- memory was wanted behind it
  pub last_memory : {T V : Type 0} (done : T) (p' : code_progress.Progress) (k' : State) (means : V → Finished) (refusal : declared.Refusal) → stop_of refusal ≡ stop.Memory
      → Goes sent_in_progress d processors (round_of ask run r before) (λ (x : T). standing d.group p' k') (Ok done) k' → Goes sent_in_finished d processors last means (Err refusal) k'
  last_memory done p' k' means refusal memory goes = goes_memory sent_in_finished d processors last means refusal k' goes.same memory
      (fronts_exact (all_sent k'.known d.group) (sent_by sent_in_finished last)
      (ap (sent_by sent_in_finished) (last_ok ask run r.number r.error r.table before (standing d.group p' k') (ap (λ q. round_of ask run q before) (sym is_last) ∙ goes.comes))))

  -- it was shown, and this is what the run comes to
  pub last_ends : {T : Type 0} (done : T) (p' : code_progress.Progress) (k' : State) (rounds : Rounds) → Goes sent_in_progress d processors (round_of ask run r before) (λ (x : T). standing d.group p' k') (Ok done) k'
      → rounds ≡ rounds_until r (length p.filer.made) p'
      → Goes sent_in_finished d processors last (λ all. shown_rounds d all k') (Ok rounds) k'
  last_ends done p' k' rounds goes is = record {
    comes = last_ok ask run r.number r.error r.table before (standing d.group p' k') (ap (λ q. round_of ask run q before) (sym is_last) ∙ goes.comes)
        ∙ ap (λ all. Ok (shown_rounds d all k')) (sym is);
    same = goes.same;
    ready = goes.ready;
    fronts = fronts_exact (all_sent k'.known d.group) (sent_by sent_in_finished last)
        (ap (sent_by sent_in_finished) (last_ok ask run r.number r.error r.table before (standing d.group p' k') (ap (λ q. round_of ask run q before) (sym is_last) ∙ goes.comes)));
  }

-- ---- a round that is not the last

-- The rounds are under way: the processors stand ready, and what is left decides what comes of the whole.
pub record AreUnderway (d : code_discovered.Discovered) (processors : List Try) (table : LocatedTable) (p0 : code_progress.Progress) (k0 : State) (left : ℕ) (r : Round) (p : code_progress.Progress) (k : State) : Type 0 where
  pub stands : Stands d processors k
  pub said : k.says ≡ k0.says
  pub way : rounds_from ask (shown_discovered k0.says processors d) left r (standing d.group p k)
      ≡ rounds_from ask (shown_discovered k0.says processors d) rounds_before_last (next_of 1 (all_of table)) (standing d.group p0 k0)

pub rounds_begin : (d : code_discovered.Discovered) (processors : List Try) (table : LocatedTable) (p : code_progress.Progress) (k : State) (r : Round) → Stands d processors k → r ≡ next_of 1 (all_of table)
    → AreUnderway d processors table p k rounds_before_last r p k
rounds_begin d processors table p k r stands is = record {
  stands = stands;
  said = refl;
  way = ap (λ q. rounds_from ask (shown_discovered k.says processors d) rounds_before_last q (standing d.group p k)) is;
}

module _ (d : code_discovered.Discovered) (processors : List Try) (table : LocatedTable) (p0 : code_progress.Progress) (k0 : State) where
  abbrev all : Discovered
  all = shown_discovered k0.says processors d

  abbrev whole : Run
  whole = rounds_from ask all rounds_before_last (next_of 1 (all_of table)) (standing d.group p0 k0)

  -- no round is left that is not the last
  pub rounds_many : {T : Type 0} (means : T → Finished) (left : ℕ) (r : Round) (p : code_progress.Progress) (k : State) → left ≡ 0 → AreUnderway d processors table p0 k0 left r p k
      → Goes sent_in_finished d processors whole means (Err code.TooManyRounds) k
  rounds_many means left r p k none is = record {
    comes = rounds_full ask all whole left r (standing d.group p k) none is.way;
    same = still_theirs d processors k is.stands;
    ready = tt;
    fronts = fronts_exact (all_sent k.known d.group) (sent_by sent_in_finished whole) (ap (sent_by sent_in_finished) (rounds_full ask all whole left r (standing d.group p k) none is.way));
  }

  module _ (left : ℕ) (r : Round) (p : code_progress.Progress) (k : State) (is : AreUnderway d processors table p0 k0 (suc left) r p k) where
    abbrev now : Progress
    now = standing d.group p k

    shown_is : round_of ask all r now ≡ round_of ask (shown_discovered k.says processors d) r now
    shown_is = ap (λ says. round_of ask (shown_discovered says processors d) r now) (sym is.said)

    -- the round was refused
    pub rounds_stopped : {T V : Type 0} (one : T → Progress) (means : V → Finished) (refusal : declared.Refusal) (k' : State) → Goes sent_in_progress d processors (round_of ask (shown_discovered k.says processors d) r now) one (Err refusal) k'
        → Goes sent_in_finished d processors whole means (Err refusal) k'
    rounds_stopped one means refusal k' goes = record { comes = stops (stop_of refusal) goes.comes; same = goes.same; ready = tt; fronts = fronts }
      where
        stops : (s : Stop) → StopsAs (round_of ask (shown_discovered k.says processors d) r now) (all_sent k'.known d.group) s → StopsAs whole (all_sent k'.known d.group) s
        stops (stop.Refused refused) so = rounds_stop ask all whole left r now is.way (record { sent = all_sent k'.known d.group; refusal = refused }) (shown_is ∙ so)
        stops (stop.Failed object) so = tt
        stops stop.Memory so = tt

        fronts : FrontsBut (exempt_by (stop_of refusal)) processors (all_sent k'.known d.group) (sent_by sent_in_finished whole)
        fronts = fronts_more (exempt_by (stop_of refusal)) processors (all_sent k'.known d.group) (sent_by sent_in_progress (round_of ask all r now)) (sent_by sent_in_finished whole)
            (subst (λ course. FrontsBut (exempt_by (stop_of refusal)) processors (all_sent k'.known d.group) (sent_by sent_in_progress course)) (sym shown_is) goes.fronts)
            (subst (λ course. AreFronts (sent_by sent_in_progress (round_of ask all r now)) (sent_by sent_in_finished course)) (rounds_opened ask all whole left r now is.way) (round_then ask all (ask_fronts all) left r now (round_of ask all r now)))

    module _ {T : Type 0} (done : T) (p' : code_progress.Progress) (k' : State) (goes : Goes sent_in_progress d processors (round_of ask (shown_discovered k.says processors d) r now) (λ (x : T). standing d.group p' k') (Ok done) k')
        (same : k'.says ≡ k.says) where
      abbrev later : Progress
      later = standing d.group p' k'

      abbrev made : List Creation
      made = drop (length p.filer.made) p'.filer.made

      abbrev error : Bool
      error = has_error (drop (length p.messages) p'.messages)

      round_is : round_of ask all r now ≡ Ok later
      round_is = shown_is ∙ goes.comes

      said_then : k'.says ≡ k0.says
      said_then = same ∙ is.said

      -- the last one comes behind it
      pub rounds_last : {V : Type 0} (means : V → Finished) (result : Result V declared.Refusal) (k'' : State) (last : Round) → (error || not (creates_source made)) ≡ true
          → last.number ≡ suc r.number → last.error ≡ error → last.table ≡ r.table
          → Goes sent_in_finished d processors (last_round ask (shown_discovered k'.says processors d) last.number last.error last.table later) means result k'' → Goes sent_in_finished d processors whole means result k''
      rounds_last means result k'' last closes number errors tables ends = subst (λ course. Goes sent_in_finished d processors course means result k'')
          (ap (λ says. last_round ask (shown_discovered says processors d) last.number last.error last.table later) said_then
          ∙ ap (λ n. last_round ask all n last.error last.table later) number ∙ ap (λ e. last_round ask all (suc r.number) e last.table later) errors
          ∙ ap (λ t. last_round ask all (suc r.number) error t later) tables ∙ rounds_close ask all whole left r now is.way later round_is closes) ends

      -- a source of it is refused
      pub rounds_unread : {V : Type 0} (means : V → Finished) (refusal : declared.Refusal) → (error || not (creates_source made)) ≡ false
          → RefusesAs (enter_all r.table (fin.entries (sources_among made))) (stop_of refusal) → Goes sent_in_finished d processors whole means (Err refusal) k'
      rounds_unread means refusal more refuses = record {
        comes = stops (stop_of refusal) refuses;
        same = goes.same;
        ready = tt;
        fronts = none_exempt (stop_of refusal) refuses;
      }
        where
          stops : (s : Stop) → RefusesAs (enter_all r.table (fin.entries (sources_among made))) s → StopsAs whole (all_sent k'.known d.group) s
          stops (stop.Refused refused) so = rounds_refused ask all whole left r now is.way later round_is more refused so
          stops (stop.Failed object) so = absurd so
          stops stop.Memory so = tt

          so_far : AreFronts (all_sent k'.known d.group) (sent_by sent_in_finished whole)
          so_far = subst (λ course. AreFronts later.sent (sent_by sent_in_finished course)) (rounds_after ask all whole left r now is.way later round_is) (later_fronts ask all (ask_fronts all) left r now later)

          none_exempt : (s : Stop) → RefusesAs (enter_all r.table (fin.entries (sources_among made))) s → FrontsBut (exempt_by s) processors (all_sent k'.known d.group) (sent_by sent_in_finished whole)
          none_exempt (stop.Refused refused) so = so_far
          none_exempt (stop.Failed object) so = absurd so
          none_exempt stop.Memory so = so_far

      -- its sources were entered
      pub rounds_next : (entered : Entered) (next : Round) → (error || not (creates_source made)) ≡ false → enter_all r.table (fin.entries (sources_among made)) ≡ Ok entered → next ≡ next_of (suc r.number) entered
          → AreUnderway d processors table p0 k0 left next p' k'
      rounds_next entered next more enters is_next = record {
        stands = goes.ready;
        said = said_then;
        way = ap (λ q. rounds_from ask all left q later) is_next ∙ rounds_go ask all whole left r now is.way later round_is more entered enters;
      }

-- the same for any processors that stand so
pub record RunsOn (d : code_discovered.Discovered) (table : LocatedTable) (p0 : code_progress.Progress) (k0 : State) (left : ℕ) (r : Round) (p : code_progress.Progress) (k : State) : Type 0 where
  pub on : (processors : List Try) → Stands d processors k0 → AreUnderway d processors table p0 k0 left r p k
