-- A round whose turns were all taken comes to its end.
use Rattle.std.proofs.Common.{◌≡◌, List, [], ◌∷◌, ◌++◌, Ok, Err, sym, ap, subst, ◌∙◌}
use Rattle.apt_outside.specs.Child.{Try, State}
use Rattle.round_engine.specs.declared.rounds.PastRound.{PastRound}
use Rattle.round_engine.specs.declared.beginning.Discovered as code_discovered
use Rattle.round_engine.specs.declared.progress.Progress as code_progress
use Rattle.round_engine.specs.declared.rounds.Round.{Round}
use Rattle.project_units.specs.declared.refusal.Refusal as declared
use Rattle.project_units.specs.Refusals as stop
use Rattle.project_units.specs.Refusals.{Stop, exempt_by}
use Rattle.project_units.specs.Faults.{stop_of}
use Rattle.round_engine.specs.Fronts.{FrontsBut}
use Rattle.round_engine.specs.Remembering.{past_round}
use Rattle.round_engine.specs.Run.{Discovered, Progress, ask, ended, turns_of, round_of, ◌>>=◌}
use Rattle.round_engine.specs.Shown.{Goes, StopsAs, sent_by, sent_in_progress, all_sent, standing, shown_discovered}
use Rattle.round_engine.proofs.FrontsOfFrames.{fronts_exact, end_sends}
use Rattle.round_engine.proofs.AskedProcessors.{goes_memory}

module _ (d : code_discovered.Discovered) (r : Round) (processors : List Try) (p0 : code_progress.Progress) (k0 : State) where
  abbrev run : Discovered
  run = shown_discovered k0.says processors d

  abbrev before : Progress
  before = standing d.group p0 k0

  -- a turn was refused
  pub round_refused : {T V : Type 0} (one : T → Progress) (means : V → Progress) (refusal : declared.Refusal) (k : State) → Goes sent_in_progress d processors (turns_of ask run r before) one (Err refusal) k
      → Goes sent_in_progress d processors (round_of ask run r before) means (Err refusal) k
  round_refused one means refusal k goes = record {
    comes = stops (stop_of refusal) goes.comes;
    same = goes.same;
    ready = tt;
    fronts = subst (FrontsBut (exempt_by (stop_of refusal)) processors (all_sent k.known d.group)) (sym (end_sends r (turns_of ask run r before))) goes.fronts;
  }
    where
      stops : (s : Stop) → StopsAs (turns_of ask run r before) (all_sent k.known d.group) s → StopsAs (round_of ask run r before) (all_sent k.known d.group) s
      stops (stop.Refused refused) is = ap (λ o. o >>= (λ after. Ok (ended r after))) is
      stops (stop.Failed object) is = tt
      stops stop.Memory is = tt

  module _ {T : Type 0} (done : T) (p : code_progress.Progress) (k : State) (goes : Goes sent_in_progress d processors (turns_of ask run r before) (λ (x : T). standing d.group p k) (Ok done) k) where
    round_is : round_of ask run r before ≡ Ok (ended r (standing d.group p k))
    round_is = ap (λ o. o >>= (λ after. Ok (ended r after))) goes.comes

    -- memory was wanted for what is remembered of it
    pub round_memory : {V : Type 0} (means : V → Progress) (refusal : declared.Refusal) → stop_of refusal ≡ stop.Memory → Goes sent_in_progress d processors (round_of ask run r before) means (Err refusal) k
    round_memory means refusal memory = goes_memory sent_in_progress d processors (round_of ask run r before) means refusal k goes.same memory
        (fronts_exact (all_sent k.known d.group) (sent_by sent_in_progress (round_of ask run r before)) (ap (sent_by sent_in_progress) round_is))

    -- it is remembered
    pub round_ends : {V : Type 0} (value : V) (past : List PastRound) → past ≡ p.past ++ past_round r ∷ []
        → Goes sent_in_progress d processors (round_of ask run r before)
        (λ (x : V). standing d.group (record { contributed = p.contributed; filer = p.filer; messages = p.messages; processed = p.processed; past = past }) k) (Ok value) k
    round_ends value past is = record {
      comes = round_is ∙ ap (λ all. Ok (standing d.group (record { contributed = p.contributed; filer = p.filer; messages = p.messages; processed = p.processed; past = all }) k)) (sym is);
      same = goes.same;
      ready = goes.ready;
      fronts = fronts_exact (all_sent k.known d.group) (sent_by sent_in_progress (round_of ask run r before)) (ap (sent_by sent_in_progress) round_is);
    }
