-- A round in which one processor after another is asked, as a turn says: what comes of it.
use Rattle.std.proofs.Common.{◌≡◌, ℕ, zero, suc, ◌<◌, ◌≤◌, Bool, false, List, [], ◌∷◌, ◌++◌, length, Some, Ok, Err, refl, sym, ap, subst, ◌∙◌, arith}
use Rattle.std.proofs.lemmas.Grind.{common_steps}
use Rattle.apt_outside.specs.Count.{Rose}
use Rattle.apt_outside.specs.Child.{Try, State}
use Rattle.processor_claims.specs.declared.turn.Turn.{Turn}
use Rattle.processor_claims.specs.Asked.{asked}
use Rattle.processor_claims.specs.Turns.{offered, waiting_count, IsComing, Asks, AsksNobody}
use Rattle.element_table.specs.TypeTable.{TypeTable}
use Rattle.round_env.specs.declared.environment.RoundEnv.{RoundEnv}
use Rattle.round_engine.specs.declared.beginning.Discovered as code_discovered
use Rattle.round_engine.specs.declared.progress.Progress as code_progress
use Rattle.project_units.specs.declared.refusal.Refusal as declared
use Rattle.round_engine.specs.declared.rounds.Round.{Round}
use Rattle.project_units.specs.Refusals as stop
use Rattle.project_units.specs.Refusals.{Stop, exempt_by}
use Rattle.project_units.specs.Faults.{stop_of, HasReason}
use Rattle.round_engine.specs.Run.{Frames, Discovered, Progress, present_in, offered_names, env_of, next_asked, show, ask, turns_of}
use Rattle.round_engine.specs.Fronts.{AreFronts, FrontsBut}
use Rattle.round_engine.specs.Shown.{Stands, Goes, StopsAs, sent_by, sent_in_step, sent_in_progress, all_sent, standing, shown_discovered}
use Rattle.round_engine.proofs.AskedInTurn.{Ahead, Underway, ahead_begins, ahead_next, ahead_nobody, ahead_answered, way_begins, step_opened, way_goes, way_stops, way_ends}
use Rattle.round_engine.proofs.FrontsOfFrames.{fronts_more, ask_fronts, asks_fronts, step_fronts}
use Rattle.round_engine.proofs.AskedProcessors.{still_theirs, goes_memory}

-- what rose in a later part rose in the whole
rose_later : (old mid new : ℕ) → old ≤ mid → Rose mid new → Rose old new
rose_later old mid new later rose = grind (arith, common_steps)

-- A refusal that a later part gave has its reason in the whole.
pub reason_later : {A B : Type 0} (start before now : ℕ) (refusal : declared.Refusal) → start ≤ before → HasReason {T = A} before now (Err refusal) → HasReason {T = B} start now (Err refusal)
reason_later start before now refusal first reason =
    record { later = omega (arith, first, reason.later); failed = λ is. rose_later start before now first (reason.failed is) }

-- A round is under way: its processors stand ready, some have answered, and those that the turn has still to ask are the rest of the list.
pub record IsAsking (d : code_discovered.Discovered) (r : Round) (p0 : code_progress.Progress) (k0 : State) (processors : List Try) (p : code_progress.Progress) (k : State) (turn : Turn) (claimed : Bool) : Type 0 where
  pub stands : Stands d processors k
  pub said : k.says ≡ k0.says
  pub answers : List Bool
  pub left : ℕ
  pub ahead : Ahead (asked d.supported p0.contributed.items (present_in r) r.over) answers turn claimed
  pub room : waiting_count turn ≤ left
  pub way : Underway ask (shown_discovered k0.says processors d) r (standing d.group p0 k0) left answers (standing d.group p k)

pub asking_begins : (d : code_discovered.Discovered) (r : Round) (p0 : code_progress.Progress) (k0 : State) (processors : List Try) (turn : Turn) → Stands d processors k0 → length d.group ≡ length d.supported
    → (present : List (List ℕ)) → present ≡ present_in r → IsComing (asked d.supported p0.contributed.items present r.over) turn → waiting_count turn ≡ length d.supported
    → IsAsking d r p0 k0 processors p0 k0 turn false
asking_begins d r p0 k0 processors turn stands group present present_is coming waiting = record {
  stands = stands;
  said = refl;
  answers = [];
  left = length processors;
  ahead = ahead_begins (asked d.supported p0.contributed.items (present_in r) r.over) turn
      (subst (λ names. IsComing (asked d.supported p0.contributed.items names r.over) turn) present_is coming);
  room = omega (arith, stands.count, group, waiting);
  way = way_begins ask (shown_discovered k0.says processors d) r (standing d.group p0 k0);
}

positive : (n : ℕ) → 0 < n → (m : ℕ) × (n ≡ suc m)
positive zero lt = absurd (omega (arith, lt))
positive (suc m) lt = (m, refl)

module _ (d : code_discovered.Discovered) (r : Round) (p0 : code_progress.Progress) (k0 : State) (processors : List Try) (p : code_progress.Progress) (k : State) (turn : Turn) (claimed : Bool)
    (is : IsAsking d r p0 k0 processors p k turn claimed) where
  abbrev run : Discovered
  run = shown_discovered k0.says processors d

  abbrev before : Progress
  before = standing d.group p0 k0

  abbrev now : Progress
  now = standing d.group p k

  abbrev listed : List Bool → List (ℕ × List ℕ)
  listed = asked d.supported p0.contributed.items (present_in r) r.over

  far : AreFronts (all_sent k.known d.group) (sent_by sent_in_progress (turns_of ask run r before))
  far = subst (λ course. AreFronts now.sent (sent_by sent_in_progress course)) is.way.rest (asks_fronts ask run (ask_fronts run) r before.contributed is.left is.answers now)

  -- nobody is left
  pub asking_ends : {T : Type 0} (done : T) → AsksNobody turn claimed → Goes sent_in_progress d processors (turns_of ask run r before) (λ (x : T). now) (Ok done) k
  asking_ends done nobody = record {
    comes = way_ends ask run r before is.answers now is.left is.way (ahead_nobody listed is.answers turn claimed is.ahead nobody);
    same = still_theirs d processors k is.stands;
    ready = is.stands;
    fronts = far;
  }

  -- memory was wanted for the names of the next one
  pub asking_memory : {T : Type 0} (means : T → Progress) (refusal : declared.Refusal) → stop_of refusal ≡ stop.Memory → Goes sent_in_progress d processors (turns_of ask run r before) means (Err refusal) k
  asking_memory means refusal memory = goes_memory sent_in_progress d processors (turns_of ask run r before) means refusal k (still_theirs d processors k is.stands) memory far

  module _ (number : ℕ) (new : Turn) (asks : Asks turn claimed number new) (fewer : waiting_count new < waiting_count turn) (table : TypeTable) (env : RoundEnv)
      (table_is : table ≡ r.table.table) (env_is : env ≡ env_of r (offered_names r (offered new))) where
    next_is : next_asked run r before.contributed is.answers ≡ Some (number, offered new)
    next_is = ahead_next listed is.answers turn claimed is.ahead number new asks

    fuel : (left : ℕ) × (is.left ≡ suc left)
    fuel = positive is.left (omega (arith, is.room, fewer))

    way : Underway ask run r before (suc fuel.0) is.answers now
    way = subst (λ left. Underway ask run r before left is.answers now) fuel.1 is.way

    -- what the code asks is what the definition asks
    asks_it : show (shown_discovered k.says processors d) table env now number ≡ ask run r now (number, offered new)
    asks_it = ap (λ says. show (shown_discovered says processors d) table env now number) is.said
        ∙ ap (λ t. show run t env now number) table_is ∙ ap (λ e. show run r.table.table e now number) env_is

    -- one more has answered
    pub asking_goes : (p' : code_progress.Progress) (k' : State) (claim : Bool)
        → Goes sent_in_step d processors (show (shown_discovered k.says processors d) table env now number) (λ c. (standing d.group p' k', c)) (Ok claim) k' → k'.says ≡ k.says
        → IsAsking d r p0 k0 processors p' k' new claim
    asking_goes p' k' claim goes same = record {
      stands = goes.ready;
      said = same ∙ is.said;
      answers = is.answers ++ claim ∷ [];
      left = fuel.0;
      ahead = ahead_answered listed is.answers turn claimed is.ahead number new claim asks;
      room = omega (arith, is.room, fewer, fuel.1);
      way = way_goes ask run r before is.answers now fuel.0 way (number, offered new) next_is (standing d.group p' k') claim (sym asks_it ∙ goes.comes);
    }

    stops : (sent : List Frames) (s : Stop) → StopsAs (show (shown_discovered k.says processors d) table env now number) sent s → StopsAs (turns_of ask run r before) sent s
    stops sent (stop.Refused refusal) so = way_stops ask run r before is.answers now fuel.0 way (number, offered new) next_is (record { sent = sent; refusal = refusal }) (sym asks_it ∙ so)
    stops sent (stop.Failed object) so = tt
    stops sent stop.Memory so = tt

    -- the run was refused
    pub asking_stops : {T : Type 0} (means : T → Progress) (one : Bool → Progress × Bool) (refusal : declared.Refusal) (k' : State)
        → Goes sent_in_step d processors (show (shown_discovered k.says processors d) table env now number) one (Err refusal) k' → Goes sent_in_progress d processors (turns_of ask run r before) means (Err refusal) k'
    asking_stops means one refusal k' goes = record {
      comes = stops (all_sent k'.known d.group) (stop_of refusal) goes.comes;
      same = goes.same;
      ready = tt;
      fronts = fronts_more (exempt_by (stop_of refusal)) processors (all_sent k'.known d.group) (sent_by sent_in_step (ask run r now (number, offered new))) (sent_by sent_in_progress (turns_of ask run r before))
          (subst (λ course. FrontsBut (exempt_by (stop_of refusal)) processors (all_sent k'.known d.group) (sent_by sent_in_step course)) asks_it goes.fronts)
          (subst (λ course. AreFronts (sent_by sent_in_step (ask run r now (number, offered new))) (sent_by sent_in_progress course))
          (step_opened ask run r before is.answers now fuel.0 way (number, offered new) next_is) (step_fronts ask run (ask_fronts run) r before.contributed fuel.0 is.answers (ask run r now (number, offered new))));
    }

-- the same for any processors that stand so
pub record AsksOn (d : code_discovered.Discovered) (r : Round) (p0 : code_progress.Progress) (k0 : State) (p : code_progress.Progress) (k : State) (turn : Turn) (claimed : Bool) : Type 0 where
  pub on : (processors : List Try) → Stands d processors k0 → IsAsking d r p0 k0 processors p k turn claimed
