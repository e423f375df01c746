-- A part of a run in which processors are asked: what it leaves as it was, and whom its refusals name.
use Rattle.std.proofs.Common.{◌≡◌, ℕ, zero, suc, ◌<◌, Bool, true, List, [], ◌∷◌, ◌++◌, length, drop, get_or, set, Some, Result, Ok, Err, refl, sym, ap, ◌∙◌, subst, arith}
use Rattle.std.specs.List.{AllByRecursion}
use Rattle.apt_outside.specs.Child.{Try, State, Attends}
use Rattle.apt_filer.specs.Filing.{Filings}
use Rattle.child_session.specs.declared.fault.SessionFault.{SessionFault}
use Rattle.child_session.specs.declared.fault.SessionFault.TheVariants as fault
use Rattle.child_session.specs.declared.round.Answer.{Answer}
use Rattle.child_session.specs.Talk.{WasAnswered}
use Rattle.child_session.specs.Round as session
use Rattle.element_table.specs.TypeTable.{TypeTable}
use Rattle.round_env.specs.declared.environment.RoundEnv.{RoundEnv}
use Rattle.round_engine.specs.declared.beginning.Discovered as code_discovered
use Rattle.round_engine.specs.declared.progress.Progress as code_progress
use Rattle.project_units.specs.declared.refusal.Refusal as declared
use Rattle.round_engine.specs.declared.rounds.Round.{Round}
use Rattle.project_units.specs.Refusals as stop
use Rattle.project_units.specs.Refusals.{exempt_by}
use Rattle.project_units.specs.Faults.{stop_of}
use Rattle.round_engine.specs.Faults.{of_session}
use Rattle.round_engine.specs.Run.{Frames, Course, Discovered, Progress, Finished, claim_at, kind_at, showing, place, show, ask, turns_of, round_of, rounds_from}
use Rattle.round_engine.specs.Fronts.{AreFronts, FrontsBut}
use Rattle.round_engine.specs.Remembering.{processed_by}
use Rattle.round_engine.specs.Shown.{EachOf, IsOf, Serves, Stands, AttendsAll, Goes, StopsAs, sent_by, sent_in_step, sent_in_progress, sent_in_finished, all_sent, standing, shown_discovered}
use Rattle.round_engine.proofs.ChildrenOfARun.{outside-get, each-weaker}
use Rattle.round_engine.proofs.FrontsOfFrames.{fronts_exact, named_at, show_fronts, show_some, show_but_one, ask_fronts, turns_fronts, round_fronts, rounds_fronts}
use Rattle.round_engine.proofs.ActsInARun.{name_is, after, sent_after, show_ok, show_err, some_sent, all_shown, stands_so, ready_after, same_after}

-- ---- what is left as it was

pub attends_none : (group : List ℕ) (k : State) → AttendsAll group k k
attends_none group k = record { same_says = refl; same_tried = refl; others = λ child out. refl }

pub attends_more : (group : List ℕ) (k0 k1 k2 : State) → AttendsAll group k0 k1 → AttendsAll group k1 k2 → AttendsAll group k0 k2
attends_more group k0 k1 k2 first second = record {
  same_says = second.same_says ∙ first.same_says;
  same_tried = second.same_tried ∙ first.same_tried;
  others = λ child out. second.others child out ∙ first.others child out;
}

-- a call on the child at a place
pub attends_at : (group : List ℕ) (at : ℕ) (k0 k1 : State) → at < length group → Attends (get_or group at 0) k0 k1 → AttendsAll group k0 k1
attends_at group at k0 k1 lt attends = record {
  same_says = attends.same_says;
  same_tried = attends.same_tried;
  others = λ child out. attends.change.others child (λ e. outside-get child group at lt out (sym e));
}

pub all_at : (P : ℕ → Type 0) (group : List ℕ) (at : ℕ) → at < length group → AllByRecursion P group → P (get_or group at 0)
all_at P [] at lt all = absurd (omega (arith, lt))
all_at P (k ∷ group) zero lt all = all.0
all_at P (k ∷ group) (suc at) lt all = all_at P group at (omega (arith, lt)) all.1

-- ---- a part of a run that stops when memory runs out

pub still_theirs : (d : code_discovered.Discovered) (processors : List Try) (now : State) → Stands d processors now → EachOf IsOf processors d.group now.known
still_theirs d processors now stands = each-weaker (Serves now.says) IsOf (λ p c serves. serves.is) processors d.group now.known stands.each

pub goes_memory : {A T : Type 0} (sent_in : A → List Frames) (d : code_discovered.Discovered) (processors : List Try) (course : Course A) (means : T → A) (refusal : declared.Refusal) (now : State)
    → EachOf IsOf processors d.group now.known → stop_of refusal ≡ stop.Memory → AreFronts (all_sent now.known d.group) (sent_by sent_in course) → Goes sent_in d processors course means (Err refusal) now
goes_memory sent_in d processors course means refusal now same memory fronts = record {
  comes = subst (StopsAs course (all_sent now.known d.group)) (sym memory) tt;
  same = same;
  ready = tt;
  fronts = subst (λ s. FrontsBut (exempt_by s) processors (all_sent now.known d.group) (sent_by sent_in course)) (sym memory) fronts;
}

-- before a part began
module _ (d : code_discovered.Discovered) (processors : List Try) (k : State) (stands : Stands d processors k) (p : code_progress.Progress) (refusal : declared.Refusal) (memory : stop_of refusal ≡ stop.Memory) where
  abbrev at_first : Discovered
  at_first = shown_discovered k.says processors d

  pub step_unbegun : {T : Type 0} (table : TypeTable) (env : RoundEnv) (number : ℕ) (means : T → Progress × Bool) → Goes sent_in_step d processors (show at_first table env (standing d.group p k) number) means (Err refusal) k
  step_unbegun table env number means = goes_memory sent_in_step d processors (show at_first table env (standing d.group p k) number) means refusal k (still_theirs d processors k stands) memory
      (show_fronts at_first table env (standing d.group p k) number)

  pub turns_unbegun : {T : Type 0} (r : Round) (means : T → Progress) → Goes sent_in_progress d processors (turns_of ask at_first r (standing d.group p k)) means (Err refusal) k
  turns_unbegun r means = goes_memory sent_in_progress d processors (turns_of ask at_first r (standing d.group p k)) means refusal k (still_theirs d processors k stands) memory
      (turns_fronts ask at_first (ask_fronts at_first) r (standing d.group p k))

  pub round_unbegun : {T : Type 0} (r : Round) (means : T → Progress) → Goes sent_in_progress d processors (round_of ask at_first r (standing d.group p k)) means (Err refusal) k
  round_unbegun r means = goes_memory sent_in_progress d processors (round_of ask at_first r (standing d.group p k)) means refusal k (still_theirs d processors k stands) memory
      (round_fronts ask at_first (ask_fronts at_first) r (standing d.group p k))

  pub rounds_unbegun : {T : Type 0} (left : ℕ) (r : Round) (means : T → Finished) → Goes sent_in_finished d processors (rounds_from ask at_first left r (standing d.group p k)) means (Err refusal) k
  rounds_unbegun left r means = goes_memory sent_in_finished d processors (rounds_from ask at_first left r (standing d.group p k)) means refusal k (still_theirs d processors k stands) memory
      (rounds_fronts ask at_first (ask_fronts at_first) left r (standing d.group p k))

-- ---- one processor is shown a round

module _ (d : code_discovered.Discovered) (k0 k1 : State) (number : ℕ) (lt : number < length d.group) (table : TypeTable) (env : RoundEnv) (p : code_progress.Progress) (filings' : Filings)
    (attends : Attends (get_or d.group number 0) k0 k1) (processors : List Try) (stands : Stands d processors k0) where
  abbrev run : Discovered
  run = shown_discovered k0.says processors d

  abbrev Showed : Result Answer SessionFault → Type 0
  Showed result = WasAnswered (get_or d.group number 0) k0 k1 (session.Shows k0.says table (showing env (claim_at run number)) p.filer filings' result)

  abbrev Asked_so : {T : Type 0} → (T → Progress × Bool) → Result T declared.Refusal → Type 0
  Asked_so means result = Goes sent_in_step d processors (show run table env (standing d.group p k0) number) means result k1

  abbrev step : Course (Progress × Bool)
  step = show run table env (standing d.group p k0) number

  module _ (result : Result Answer SessionFault) (shows : Showed result) where
    abbrev sent_to : Frames
    sent_to = (after d processors k0 k1 number stands lt table env p filings' result shows attends.change.others).0.sent

    -- what all were sent
    sent_is : all_sent k1.known d.group ≡ set (all_sent k0.known d.group) number sent_to
    sent_is = sent_after d processors k0 k1 number stands lt table env p filings' result shows attends.change.others

    -- a fault of the children came: the others were sent what they are sent
    others_so : FrontsBut (Some (get_or processors number ([], [])).0) processors (all_sent k1.known d.group) (sent_by sent_in_step step)
    others_so = subst (λ sent. FrontsBut (Some (get_or processors number ([], [])).0) processors sent (sent_by sent_in_step step)) (sym sent_is)
        (show_but_one run table env (standing d.group p k0) number (get_or processors number ([], [])).0 processors (named_at processors number (get_or processors number ([], [])).0 (omega (arith, lt, stands.count)) refl) sent_to)

    -- memory ran out before it was done
    some_so : result ≡ Err fault.Memory → AreFronts (all_sent k1.known d.group) (sent_by sent_in_step step)
    some_so is = subst (λ sent. AreFronts sent (sent_by sent_in_step step)) (sym sent_is)
        (show_some run table env (standing d.group p k0) number sent_to (some_sent d processors k0 k1 number stands lt table env p filings' result shows attends.change.others is))

    -- it was done
    all_so : (answer : Answer) → result ≡ Ok answer → AreFronts (all_sent k1.known d.group) (sent_by sent_in_step step)
    all_so answer is = fronts_exact (all_sent k1.known d.group) (sent_by sent_in_step step) (all_shown d processors k0 k1 number stands lt table env p filings' result shows attends.change.others answer is)

  -- what all were sent by a session's fault
  fault_so : (f : SessionFault) → Showed (Err f) → StopsAs step (all_sent k1.known d.group) (of_session (get_or processors number ([], [])).0 f)
      → FrontsBut (exempt_by (of_session (get_or processors number ([], [])).0 f)) processors (all_sent k1.known d.group) (sent_by sent_in_step step)
  fault_so fault.Failed shows comes = others_so (Err fault.Failed) shows
  fault_so fault.Memory shows comes = some_so (Err fault.Memory) shows refl
  fault_so (fault.Breach breach) shows comes = fronts_exact (all_sent k1.known d.group) (sent_by sent_in_step step) (ap (sent_by sent_in_step) comes)
  fault_so (fault.TooManyQuestions most) shows comes = fronts_exact (all_sent k1.known d.group) (sent_by sent_in_step step) (ap (sent_by sent_in_step) comes)
  fault_so (fault.ClaimBroken declared said) shows comes = fronts_exact (all_sent k1.known d.group) (sent_by sent_in_step step) (ap (sent_by sent_in_step) comes)

  -- its session failed
  pub asks_err : (means : Bool → Progress × Bool) (f : SessionFault) (refusal : declared.Refusal) → Showed (Err f) → stop_of refusal ≡ of_session (get_or d.names number []) f → Asked_so means (Err refusal)
  asks_err means f refusal shows due_as =
      let due : stop_of refusal ≡ of_session (get_or processors number ([], [])).0 f = due_as ∙ ap (λ name. of_session name f) (name_is d processors k0 k1 number stands lt) in
      let comes : StopsAs step (all_sent k1.known d.group) (of_session (get_or processors number ([], [])).0 f) =
      show_err d processors k0 k1 number stands lt table env p filings' (Err f) shows attends.change.others f (of_session (get_or processors number ([], [])).0 f) refl refl in
      record {
        comes = subst (StopsAs step (all_sent k1.known d.group)) (sym due) comes;
        same = same_after d processors k0 k1 number stands lt table env p filings' (Err f) shows attends.change.others;
        ready = tt;
        fronts = subst (λ s. FrontsBut (exempt_by s) processors (all_sent k1.known d.group) (sent_by sent_in_step step)) (sym due) (fault_so f shows comes);
      }

  -- it was done, but memory was wanted for what it printed
  pub asks_memory : (means : Bool → Progress × Bool) (answer : Answer) (refusal : declared.Refusal) → Showed (Ok answer) → stop_of refusal ≡ stop.Memory → Asked_so means (Err refusal)
  asks_memory means answer refusal shows memory =
      goes_memory sent_in_step d processors (show run table env (standing d.group p k0) number) means refusal k1
      (same_after d processors k0 k1 number stands lt table env p filings' (Ok answer) shows attends.change.others) memory (all_so (Ok answer) shows answer refl)

  -- it was done
  pub asks_ok : (p' : code_progress.Progress) (answer : Answer) → Showed (Ok answer) → p'.contributed.items ≡ set p.contributed.items number true → p'.filer ≡ filings' → p'.messages ≡ p.messages ++ place env.number number 0 answer.messages
      → p'.processed ≡ p.processed ++ processed_by (kind_at run number) table env number p.processed (drop (length p.filer.made) filings'.made) answer ∷ [] → p'.past ≡ p.past
      → Asked_so (λ claimed. (standing d.group p' k1, claimed)) (Ok answer.claimed)
  asks_ok p' answer shows contributed filed messages processed past = record {
    comes = show_ok d processors k0 k1 number stands lt table env p filings' (Ok answer) shows attends.change.others answer refl
        ∙ ap (λ q. Ok (q, answer.claimed)) (stands_so d processors k0 k1 number stands lt table env p filings' (Ok answer) shows attends.change.others answer refl p' contributed filed messages processed past);
    same = same_after d processors k0 k1 number stands lt table env p filings' (Ok answer) shows attends.change.others;
    ready = ready_after d processors k0 k1 number stands lt table env p filings' (Ok answer) shows attends.change.others answer refl attends.same_says;
    fronts = all_so (Ok answer) shows answer refl;
  }
