-- What comes of a round that one processor of a run is shown: from what its child is told to have done to how far the run is.
use Rattle.std.proofs.Common.{◌≡◌, ℕ, ◌<◌, Bool, true, List, [], ◌∷◌, ◌++◌, length, drop, set, get_or, Option, None, Some, Result, Ok, Err, IfSome, IsSomeAnd, IsErrOf, refl, sym, ap, subst, ◌∙◌, arith}
use Rattle.std.proofs.lemmas.List.{get_or-map}
use Rattle.std.proofs.Math.Seq.{drop-append_seam}
use Rattle.apt_base.specs.declared.kinds.Claim.{Claim}
use Rattle.apt_outside.specs.Child.{Try, Child, State, OthersKept}
use Rattle.frame_breaches.specs.declared.breach.Breach.{Breach}
use Rattle.element_table.specs.TypeTable.{TypeTable}
use Rattle.round_env.specs.declared.environment.RoundEnv.{RoundEnv}
use Rattle.apt_filer.specs.Filing.{Filings}
use Rattle.child_session.specs.declared.fault.SessionFault.{SessionFault}
use Rattle.child_session.specs.declared.fault.SessionFault.TheVariants as fault
use Rattle.child_session.specs.declared.request.Request.{Request}
use Rattle.child_session.specs.declared.request.Turn.{Turn}
use Rattle.child_session.specs.declared.request.Turn.TheVariants.{Ends, Differs, Asks, Leaves}
use Rattle.child_session.specs.declared.round.Showing.{Showing}
use Rattle.child_session.specs.declared.round.Answer.{Answer}
use Rattle.child_session.specs.Talk.{HasAnswered, WasAnswered}
use Rattle.child_session.specs.Replies.{Exchange, Shown, shown_of, filed_all}
use Rattle.child_session.specs.Acts as acts
use Rattle.child_session.specs.Acts.{Act, messages, answer_by, claimed_by, end_of, outcome}
use Rattle.child_session.specs.Round as session
use Rattle.child_session.specs.Round.{IsFront}
use Rattle.child_session.proofs.FiledFiles.{files-made}
use Rattle.apt_filer.specs.declared.messages.Placed.{Placed}
use Rattle.round_engine.specs.declared.rounds.PastRound.{PastRound}
use Rattle.run_entries.specs.declared.processed.Processed.{Processed}
use Rattle.round_engine.specs.declared.progress.Progress as code_progress
use Rattle.round_engine.specs.declared.beginning.Discovered as code_discovered
use Rattle.project_units.specs.Refusals.{Stop, Refusal, LeavesProtocol, TooManyQuestions, ClaimBroken}
use Rattle.round_engine.specs.Faults.{of_session}
use Rattle.round_engine.specs.Remembering.{processed_by}
use Rattle.round_engine.specs.Run.{Frames, Course, Discovered, Progress, claim_at, kind_at, sent_at, showing, act, place, sent_with, processed_in, with_act, after_act, show}
use Rattle.round_engine.specs.Shown.{all_sent, EachOf, IsOf, Serves, Stands, shown_discovered, standing, StopsAs, sent_by, sent_in_step}
use Rattle.round_engine.proofs.ChildrenOfARun.{frames_in, all_sent-at, all_sent-get, each-get, each-at, each-weaker}

-- ---- the turn that ended an act, by its outcome

abbrev turn_in : Result Answer SessionFault → Turn → Turn
turn_in (Ok answer) other = Ends answer.claimed
turn_in (Err (fault.Breach breach)) other = Leaves breach
turn_in (Err (fault.ClaimBroken declared said)) other = Differs said
turn_in (Err (fault.TooManyQuestions most)) other = other
turn_in (Err fault.Failed) other = other
turn_in (Err fault.Memory) other = other

abbrev answer_in : Result Answer SessionFault → Answer → Answer
answer_in (Ok answer) other = answer
answer_in (Err f) other = other

abbrev limit_in : Result Answer SessionFault → ℕ → ℕ
limit_in (Ok answer) other = other
limit_in (Err (fault.TooManyQuestions most)) other = most
limit_in (Err (fault.Breach breach)) other = other
limit_in (Err (fault.ClaimBroken declared said)) other = other
limit_in (Err fault.Failed) other = other
limit_in (Err fault.Memory) other = other

abbrev claim_in : Result Answer SessionFault → Claim → Claim
claim_in (Ok answer) other = other
claim_in (Err (fault.ClaimBroken declared said)) other = declared
claim_in (Err (fault.TooManyQuestions most)) other = other
claim_in (Err (fault.Breach breach)) other = other
claim_in (Err fault.Failed) other = other
claim_in (Err fault.Memory) other = other

-- it was done
pub record WasDone (shown : Shown) (exchanges : List Exchange) (turn : Turn) (answer : Answer) : Type 0 where
  pub last : turn ≡ Ends answer.claimed
  pub claimed : Bool
  pub given : answer ≡ answer_by shown exchanges claimed

-- it asked once more than it may
pub record WasOver (limit most : ℕ) (turn : Turn) : Type 0 where
  pub request : Request
  pub last : turn ≡ Asks request
  pub is : most ≡ limit

-- it broke its claim
pub record WasBroken (declared claim : Claim) (said : Bool) (turn : Turn) : Type 0 where
  pub last : turn ≡ Differs said
  pub is : claim ≡ declared

module _ (shown : Shown) (declared : Claim) (limit : ℕ) (exchanges : List Exchange) where
  abbrev end_in : Turn → Result Answer SessionFault
  end_in turn = end_of declared limit turn (answer_by shown exchanges (claimed_by turn))

  end_done : (turn : Turn) (answer : Answer) → Ok answer ≡ end_in turn → WasDone shown exchanges turn answer
  end_done (Ends claimed) answer is = record { last = sym (ap (λ o. turn_in o (Ends claimed)) is); claimed = claimed; given = ap (λ o. answer_in o answer) is }
  end_done (Differs said) answer is = absurd cc
  end_done (Asks request) answer is = absurd cc
  end_done (Leaves breach) answer is = absurd cc

  end_left : (turn : Turn) (breach : Breach) → Err (fault.Breach breach) ≡ end_in turn → turn ≡ Leaves breach
  end_left (Ends claimed) breach is = absurd cc
  end_left (Differs said) breach is = absurd cc
  end_left (Asks request) breach is = absurd cc
  end_left (Leaves other) breach is = sym (ap (λ o. turn_in o (Leaves other)) is)

  end_over : (turn : Turn) (most : ℕ) → Err (fault.TooManyQuestions most) ≡ end_in turn → WasOver limit most turn
  end_over (Ends claimed) most is = absurd cc
  end_over (Differs said) most is = absurd cc
  end_over (Asks request) most is = record { request = request; last = refl; is = ap (λ o. limit_in o 0) is }
  end_over (Leaves breach) most is = absurd cc

  end_broken : (turn : Turn) (claim : Claim) (said : Bool) → Err (fault.ClaimBroken claim said) ≡ end_in turn → WasBroken declared claim said turn
  end_broken (Ends claimed) claim said is = absurd cc
  end_broken (Differs other) claim said is = record { last = sym (ap (λ o. turn_in o (Differs other)) is); is = ap (λ o. claim_in o declared) is }
  end_broken (Asks request) claim said is = absurd cc
  end_broken (Leaves breach) claim said is = absurd cc

outcome_is : (shown : Shown) (declared : Claim) (limit : ℕ) (whole : Act) → outcome shown declared limit whole ≡ end_of declared limit whole.last (answer_by shown whole.exchanges (claimed_by whole.last))
unfolding outcome
outcome_is shown declared limit whole = refl

-- ---- one processor of a run

some_of : (o : Option Child) (P : Child → Type 0) → IsSomeAnd o P → (b : Child) × (o ≡ Some b) × P b
some_of None P h = absurd h
some_of (Some b) P h = (b, refl, h)

module _ (d : code_discovered.Discovered) (processors : List Try) (k0 k1 : State) (number : ℕ) (stands : Stands d processors k0) (lt : number < length d.group) where
  abbrev child : ℕ
  child = get_or d.group number 0

  abbrev processor : Try
  processor = get_or processors number ([], [])

  abbrev run : Discovered
  run = shown_discovered k0.says processors d

  -- the name that the code has
  pub name_is : get_or d.names number [] ≡ processor.0
  name_is = ap (λ names. get_or names number []) (sym stands.names) ∙ get_or-map _ processors number ([], []) [] (omega (arith, lt, stands.count))

  pub before : (b : Child) × (k0.known child ≡ Some b) × Serves k0.says processor b
  before = some_of (k0.known child) (Serves k0.says processor) (each-get (Serves k0.says) processors d.group number k0.known lt stands.each)

  module _ (table : TypeTable) (env : RoundEnv) (p : code_progress.Progress) (filings' : Filings) (result : Result Answer SessionFault)
      (shows : WasAnswered child k0 k1 (session.Shows k0.says table (showing env (claim_at run number)) p.filer filings' result)) (kept : OthersKept child k0.known k1.known) where
    abbrev shown : Showing
    shown = showing env (claim_at run number)

    abbrev now : Progress
    now = standing d.group p k0

    abbrev ShowsOf : Child → Child → Type 0
    ShowsOf b a = session.Shows k0.says table shown p.filer filings' result b a

    pub after : (a : Child) × (k1.known child ≡ Some a) × ShowsOf before.0 a
    after = some_of (k1.known child) (ShowsOf before.0)
        (subst (λ o. IfSome o (λ b. HasAnswered k0.says b → IsSomeAnd (k1.known child) (ShowsOf b))) before.1 shows before.2.answered)

    sent_before : sent_at now number ≡ before.0.sent
    sent_before = all_sent-get d.group number k0.known lt ∙ ap frames_in before.1

    -- what the child did
    abbrev whole : Act
    whole = session.act (k0.says before.0.name before.0.command) table shown before.0.sent p.filer.taken

    -- it is the act of the definition
    act_is : act run table env now number ≡ whole
    act_is = ap (λ sent. session.act (k0.says processor.0 processor.1) table shown sent p.filer.taken) sent_before
        ∙ ap (λ name. session.act (k0.says name processor.1) table shown before.0.sent p.filer.taken) (sym before.2.is.name)
        ∙ ap (λ command. session.act (k0.says before.0.name command) table shown before.0.sent p.filer.taken) (sym before.2.is.command)

    show_is : show run table env now number ≡ after_act run table env now number whole.exchanges whole.last
    show_is = ap (λ (a : Act). after_act run table env now number a.exchanges a.last) act_is

    -- what all were sent in the end
    pub sent_after : all_sent k1.known d.group ≡ set (all_sent k0.known d.group) number after.0.sent
    sent_after = all_sent-at d.group number k0.known k1.known lt stands.different kept ∙ ap (λ o. set (all_sent k0.known d.group) number (frames_in o)) after.1

    is_after : IsOf processor after.0
    is_after = record { name = after.2.name ∙ before.2.is.name; command = after.2.command ∙ before.2.is.command }

    -- ---- a result that comes of the child

    module _ (due : session.is_due result ≡ true) where
      abbrev all : session.IsWhole table shown whole before.0.sent after.0.sent p.filer filings' result
      all = after.2.comes.all due

      -- what its child was sent is what the run sends it
      sent_is : sent_with table env now number whole.exchanges ≡ after.0.sent
      sent_is = ap (λ sent. sent ++ acts.frames_of (shown_of table env) whole.exchanges) sent_before ∙ sym all.sent_is

      all_is : set now.sent number (sent_with table env now number whole.exchanges) ≡ all_sent k1.known d.group
      all_is = ap (set now.sent number) sent_is ∙ sym sent_after

      -- the last turn decides what comes of it
      ends_so : result ≡ end_of shown.claim shown.limit whole.last (answer_by (shown_of table env) whole.exchanges (claimed_by whole.last))
      ends_so = all.result_is ∙ outcome_is (shown_of table env) shown.claim shown.limit whole

    -- ---- it was done

    module _ (answer : Answer) (is : result ≡ Ok answer) where
      due_ok : session.is_due result ≡ true
      due_ok = ap session.is_due is

      done : WasDone (shown_of table env) whole.exchanges whole.last answer
      done = end_done (shown_of table env) shown.claim shown.limit whole.exchanges whole.last answer (sym is ∙ ends_so due_ok)

      -- the act
      pub show_ok : show run table env now number ≡ Ok (with_act run table env now number whole.exchanges, answer.claimed)
      show_ok = show_is ∙ ap (after_act run table env now number whole.exchanges) done.last

      -- the files that the filer gained are those of the act
      gained : drop (length p.filer.made) filings'.made ≡ acts.files whole.exchanges
      gained = ap (λ (f : Filings). drop (length p.filer.made) f.made) (all due_ok).filed ∙ ap (drop (length p.filer.made)) (files-made p.filer whole.exchanges).made
          ∙ drop-append_seam p.filer.made (acts.files whole.exchanges)

      -- what is remembered of it, by these files and the answer
      abbrev given : Processed
      given = processed_by (kind_at run number) table env number p.processed (drop (length p.filer.made) filings'.made) answer

      given_is : given ≡ processed_in run table env now number whole.exchanges
      given_is = ap (λ files. processed_by (kind_at run number) table env number p.processed files answer) gained
          ∙ ap (processed_by (kind_at run number) table env number p.processed (acts.files whole.exchanges)) done.given

      abbrev progress_of : List Frames → List Bool → Filings → List Placed → List Processed → List PastRound → Progress
      progress_of sent contributed filings printed processed past =
          record { sent = sent; contributed = contributed; filings = filings; messages = printed; processed = processed; past = past }

      -- how far the run is then
      pub stands_so : (p' : code_progress.Progress) → p'.contributed.items ≡ set p.contributed.items number true → p'.filer ≡ filings'
          → p'.messages ≡ p.messages ++ place env.number number 0 answer.messages
          → p'.processed ≡ p.processed ++ processed_by (kind_at run number) table env number p.processed (drop (length p.filer.made) filings'.made) answer ∷ []
          → p'.past ≡ p.past → with_act run table env now number whole.exchanges ≡ standing d.group p' k1
      stands_so p' contributed filed printed processed past =
          ap (λ sent. progress_of sent (set p.contributed.items number true) (filed_all p.filer whole.exchanges) (p.messages ++ place env.number number 0 (messages whole.exchanges))
          (p.processed ++ processed_in run table env now number whole.exchanges ∷ []) p.past) (all_is due_ok)
          ∙ ap (λ c. progress_of (all_sent k1.known d.group) c (filed_all p.filer whole.exchanges) (p.messages ++ place env.number number 0 (messages whole.exchanges))
          (p.processed ++ processed_in run table env now number whole.exchanges ∷ []) p.past) (sym contributed)
          ∙ ap (λ f. progress_of (all_sent k1.known d.group) p'.contributed.items f (p.messages ++ place env.number number 0 (messages whole.exchanges))
          (p.processed ++ processed_in run table env now number whole.exchanges ∷ []) p.past) (sym (filed ∙ (all due_ok).filed))
          ∙ ap (λ m. progress_of (all_sent k1.known d.group) p'.contributed.items p'.filer m (p.processed ++ processed_in run table env now number whole.exchanges ∷ []) p.past)
          (sym (printed ∙ ap (λ (a : Answer). p.messages ++ place env.number number 0 a.messages) done.given))
          ∙ ap (λ l. progress_of (all_sent k1.known d.group) p'.contributed.items p'.filer p'.messages l p.past)
          (sym (processed ∙ ap (λ one. p.processed ++ one ∷ []) given_is))
          ∙ ap (progress_of (all_sent k1.known d.group) p'.contributed.items p'.filer p'.messages p'.processed) (sym past)

      -- all that was sent is what the run sends
      pub all_shown : sent_by sent_in_step (show run table env now number) ≡ all_sent k1.known d.group
      all_shown = ap (sent_by sent_in_step) show_ok ∙ all_is due_ok

      -- the children are ready for the next
      pub ready_after : k1.says ≡ k0.says → Stands d processors k1
      ready_after same = record {
        names = stands.names;
        count = stands.count;
        different = stands.different;
        each = subst (λ says. EachOf (Serves says) processors d.group k1.known) (sym same)
            (each-at (Serves k0.says) processors d.group number k0.known k1.known lt stands.different kept stands.each
            (subst (λ o. IsSomeAnd o (Serves k0.says processor)) (sym after.1)
            (record { is = is_after; answered = subst (λ o. session.OnAnswered o (HasAnswered k0.says after.0)) is after.2.answered })));
      }

    -- ---- it was refused

    -- a refusal of the run that was sent these frames
    abbrev refused : List Frames → Refusal → Course (Progress × Bool)
    refused sent refusal = Err (record { sent = sent; refusal = refusal })

    stops : (f : SessionFault) → result ≡ Err f → StopsAs (show run table env now number) (all_sent k1.known d.group) (of_session processor.0 f)
    stops fault.Failed is = tt
    stops fault.Memory is = tt
    stops (fault.Breach breach) is =
        let due = ap session.is_due is in
        show_is
        ∙ ap (after_act run table env now number whole.exchanges) (end_left (shown_of table env) shown.claim shown.limit whole.exchanges whole.last breach (sym is ∙ ends_so due))
        ∙ ap (λ sent. refused sent (LeavesProtocol processor.0 breach)) (all_is due)
    stops (fault.TooManyQuestions most) is =
        let due = ap session.is_due is in
        let over = end_over (shown_of table env) shown.claim shown.limit whole.exchanges whole.last most (sym is ∙ ends_so due) in
        show_is
        ∙ ap (after_act run table env now number whole.exchanges) over.last
        ∙ ap (λ sent. refused sent (TooManyQuestions processor.0 shown.limit)) (all_is due)
        ∙ ap (λ n. refused (all_sent k1.known d.group) (TooManyQuestions processor.0 n)) (sym over.is)
    stops (fault.ClaimBroken declared said) is =
        let due = ap session.is_due is in
        let broken = end_broken (shown_of table env) shown.claim shown.limit whole.exchanges whole.last declared said (sym is ∙ ends_so due) in
        show_is
        ∙ ap (after_act run table env now number whole.exchanges) broken.last
        ∙ ap (λ sent. refused sent (ClaimBroken processor.0 (claim_at run number) said)) (all_is due)
        ∙ ap (λ claim. refused (all_sent k1.known d.group) (ClaimBroken processor.0 claim said)) (sym broken.is)

    pub show_err : (f : SessionFault) (s : Stop) → result ≡ Err f → s ≡ of_session processor.0 f → StopsAs (show run table env now number) (all_sent k1.known d.group) s
    show_err f s is due = subst (StopsAs (show run table env now number) (all_sent k1.known d.group)) (sym due) (stops f is)

    -- the child was sent the first of what the act sends, where memory ran out
    pub some_sent : result ≡ Err fault.Memory → IsFront after.0.sent (sent_with table env now number (act run table env now number).exchanges)
    some_sent is =
        subst (λ (a : Act). IsFront after.0.sent (sent_with table env now number a.exchanges)) (sym act_is)
        (subst (λ sent. IsFront after.0.sent (sent ++ acts.frames_of (shown_of table env) whole.exchanges)) (sym sent_before)
        (after.2.comes.front (subst (λ o. IsErrOf o fault.Memory) (sym is) refl)))

    -- each child is still its processor's, whatever came
    pub same_after : EachOf IsOf processors d.group k1.known
    same_after = each-at IsOf processors d.group number k0.known k1.known lt stands.different kept
        (each-weaker (Serves k0.says) IsOf (λ q c serves. serves.is) processors d.group k0.known stands.each)
        (subst (λ o. IsSomeAnd o (IsOf processor)) (sym after.1) is_after)
