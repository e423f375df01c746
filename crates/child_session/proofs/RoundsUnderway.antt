-- A round that is under way: how it goes on, and what comes of it.
use Rattle.std.proofs.Common.{◌≡◌, ◌<◌, ◌+◌, ◌-◌, ◌⊎◌, ℕ, suc, Bool, List, [], ◌∷◌, ◌++◌, length, Option, None, Some, Result, Ok, Err, IsOk, IfSome, IsSomeAnd, inl, inr, refl, sym, ap, ◌∙◌, subst, length-append, arith}
use Rattle.apt_base.specs.declared.kinds.Claim.{Claim}
use Rattle.apt_outside.specs.Child.{Says, Child, State, Known, Changes, OfChild}
use Rattle.apt_outside.specs.declared.fault.Fault.{Fault}
use Rattle.apt_outside.specs.declared.fault.Fault.TheVariants as outside
use Rattle.apt_filer.specs.Filing.{Taken, Filings}
use Rattle.element_table.specs.TypeTable.{TypeTable}
use Rattle.frame_breaches.specs.declared.breach.Breach.TheVariants as breaches
use Rattle.child_session.specs.declared.fault.SessionFault.{SessionFault}
use Rattle.child_session.specs.declared.fault.SessionFault.TheVariants.{Failed, Breach, TooManyQuestions, ClaimBroken, Memory}
use Rattle.child_session.specs.declared.request.Request.{Request}
use Rattle.child_session.specs.declared.request.Turn.{Turn}
use Rattle.child_session.specs.declared.request.Turn.TheVariants.{Ends, Differs, Asks, Leaves}
use Rattle.child_session.specs.declared.round.Answer.{Answer}
use Rattle.child_session.specs.declared.round.Showing.{Showing}
use Rattle.child_session.specs.Faults.{fault_of, IsFreeFault}
use Rattle.child_session.specs.Talk as talk
use Rattle.child_session.specs.Talk.{Stream, answer_to, HasAnswered, WasAnswered, Exchanged, Exchanges, SentOrNot, SendsOnce}
use Rattle.child_session.specs.Requests.{turn_at}
use Rattle.child_session.specs.declared.noted.Noted.{Noted}
use Rattle.child_session.specs.Notes.{nothing_noted, noted_of, noted_with, answer_from}
use Rattle.child_session.proofs.NotesLemmas.{noted_of-next, answer_from-noted}
use Rattle.child_session.specs.Replies.{Shown, shown_of, by_tests, Exchange, round_frame, reply_frame, taken_after, filed_after, filed_all}
use Rattle.child_session.specs.Acts.{Act, behind, act_from, answer_by, claimed_by, end_of}
use Rattle.child_session.specs.Round.{exchange_with, Served, Replies, act_within, act, frames_with, IsOrMemory, OnAnswered, Shows}
use Rattle.child_session.proofs.ActsInTurn.{act_asks, act_ends, behind-behind, behind-end, comes_ended, comes_begun, comes_asked}
use Rattle.child_session.proofs.DoneExchanges.{taken_of-after, filed_all-append, frames_of-next}
use Rattle.child_session.proofs.Taking.{some_of}
use Rattle.child_session.proofs.StrayFrames.{no_stray}

abbrev Frames : Type 0
Frames = List (List ℕ)

-- what comes of the rest, where the child was sent these frames and may ask this many times more
abbrev pub rest_within : Stream → TypeTable → Showing → ℕ → Frames → Taken → Act
rest_within stream table showing left sent taken =
    act_from stream by_tests (shown_of table showing.env) showing.claim left sent taken

-- These exchanges are done, and however often the child may ask from here on, what comes of the whole is what comes then,
-- behind these.
pub record Underway (says : Says) (table : TypeTable) (showing : Showing) (filings filings' : Filings)
    (done : List Exchange) (answer : talk.Answer) (before after : Child) : Type 0 where
  pub name : after.name ≡ before.name
  pub command : after.command ≡ before.command
  pub sent : after.sent ≡ before.sent ++ frames_with table showing done
  pub answer_is : answer ≡ answer_to (says before.name before.command) after.sent
  pub answered : IsOk answer → HasAnswered says after
  pub rest : (left : ℕ) →
      act_within (says before.name before.command) table showing (length done + left) before.sent filings.taken
      ≡ behind done (rest_within (says before.name before.command) table showing left after.sent filings'.taken)

pub record GoesOn (child : ℕ) (table : TypeTable) (showing : Showing) (old new : State) (filings filings' : Filings)
    (done : List Exchange) (answer : talk.Answer) : Type 0 where
  pub way : WasAnswered child old new (Underway old.says table showing filings filings' done answer)

-- as many exchanges are done as turns were taken, with what the filer has and what is noted, and of them something is told
pub record IsUnderway (shown : Shown) (count : ℕ) (filings filings' : Filings) (noted : Noted) (Goes : List Exchange → Type 0) : Type 0 where
  pub done : List Exchange
  pub count_is : length done ≡ count
  pub filed : filings' ≡ filed_all filings done
  pub noted_is : noted ≡ noted_of shown done
  pub goes : Goes done

-- it was shown, as the call says
pub record HasShown (child : ℕ) (table : TypeTable) (showing : Showing) (old new : State) (filings filings' : Filings)
    (result : Result Answer SessionFault) : Type 0 where
  pub shown : WasAnswered child old new (Shows old.says table showing filings filings' result)

-- ---- facts of a child at two moments

module _ (says : Says) where
  -- a fact of a child at two moments, and the child later
  carried : (child : ℕ) (mid new : Known) → Changes child mid new → (x : Option Child) (E F : Child → Child → Type 0) → ((a b c : Child) → mid child ≡ Some b → new child ≡ Some c → E a b → c.name ≡ b.name → c.command ≡ b.command → F a c)
      → IfSome x (λ a. HasAnswered says a → IsSomeAnd (mid child) (E a)) → IfSome x (λ a. HasAnswered says a → IsSomeAnd (new child) (F a))
  carried child mid new change None E F h p = tt
  carried child mid new change (Some a) E F h p = λ before.
      let b = some_of (mid child) (E a) (p before) in
      let c = change.same_child b.0 b.1 in
      subst (λ o. IsSomeAnd o (F a)) (sym c.1) (h a b.0 c.0 b.1 c.1 b.2 c.2 c.3)

  later : (x y : Option Child) (E F : Child → Child → Type 0) → ((a b : Child) → E a b → F a b) → IfSome x (λ a. HasAnswered says a → IsSomeAnd y (E a)) → IfSome x (λ a. HasAnswered says a → IsSomeAnd y (F a))
  later None y E F h p = tt
  later (Some a) None E F h p = λ before. absurd (p before)
  later (Some a) (Some b) E F h p = λ before. h a b (p before)

  joined : (x y z : Option Child) (E F G : Child → Child → Type 0) → ((a b : Child) → E a b → HasAnswered says b) → ((a b c : Child) → E a b → F b c → G a c)
      → IfSome x (λ a. HasAnswered says a → IsSomeAnd y (E a)) → IfSome y (λ b. HasAnswered says b → IsSomeAnd z (F b)) → IfSome x (λ a. HasAnswered says a → IsSomeAnd z (G a))
  joined None y z E F G answered h p q = tt
  joined (Some a) None z E F G answered h p q = λ before. absurd (p before)
  joined (Some a) (Some b) None E F G answered h p q = λ before. absurd (q (answered a b (p before)))
  joined (Some a) (Some b) (Some c) E F G answered h p q = λ before. h a b c (p before) (q (answered a b (p before)))

some_turn : (showing : Showing) (answer : talk.Answer) (request : Request) → turn_at showing.claim answer ≡ Asks request → IsOk answer
some_turn showing (Err breach) request e = absurd (let f : Leaves breach ≡ Asks request = e in cc)
some_turn showing (Ok f) request e = refl

some_end : (showing : Showing) (answer : talk.Answer) (claimed : Bool) → turn_at showing.claim answer ≡ Ends claimed → IsOk answer
some_end showing (Err breach) claimed e = absurd (let f : Leaves breach ≡ Ends claimed = e in cc)
some_end showing (Ok f) claimed e = refl

some_differing : (showing : Showing) (answer : talk.Answer) (said : Bool) → turn_at showing.claim answer ≡ Differs said → IsOk answer
some_differing showing (Err breach) said e = absurd (let f : Leaves breach ≡ Differs said = e in cc)
some_differing showing (Ok f) said e = refl

some_stray : (showing : Showing) (answer : talk.Answer) (tag : ℕ) → turn_at showing.claim answer ≡ Leaves (breaches.Wrong tag) → (answer ≡ Err (breaches.Wrong tag) → ⊥) → IsOk answer
some_stray showing (Err breach) tag e none = absurd (let f : Leaves breach ≡ Leaves (breaches.Wrong tag) = e in let same : breach ≡ breaches.Wrong tag = cc in none (ap Err same))
some_stray showing (Ok f) tag e none = refl

pub fault_is_free : (fault : Fault) → IsFreeFault (fault_of fault)
fault_is_free outside.Failed = tt
fault_is_free outside.Memory = tt

free_answered : (fault : SessionFault) → IsFreeFault fault → (P : Type 0) → OnAnswered {T = Answer} (Err fault) P
free_answered Failed free P = tt
free_answered Memory free P = tt
free_answered (Breach breach) free P = absurd free
free_answered (TooManyQuestions limit) free P = absurd free
free_answered (ClaimBroken declared said) free P = absurd free

-- ---- what a child was sent

pub sends_nothing : (child : ℕ) (frame : List ℕ) (k : State) → SentOrNot child frame k k
sends_nothing child frame k = same (k.known child)
  where
    same : (o : Option Child) → IfSome o (λ a. IsSomeAnd o (λ b. (b.sent ≡ a.sent) ⊎ (b.sent ≡ a.sent ++ frame ∷ [])))
    same None = tt
    same (Some a) = inl refl

pub sends_once : (child : ℕ) (frame : List ℕ) (k0 k1 : State) (fault : Fault) → SendsOnce child frame k0 k1 (Err fault) → fault_of fault ≡ Memory → SentOrNot child frame k0 k1
sends_once child frame k0 k1 outside.Failed sends memory = absurd (let e : Failed ≡ Memory = memory in cc)
sends_once child frame k0 k1 outside.Memory sends memory = sends

sent_at : (child : ℕ) (frame : List ℕ) (k0 k1 : State) → SentOrNot child frame k0 k1 → (a b : Child) → k0.known child ≡ Some a → k1.known child ≡ Some b → (b.sent ≡ a.sent) ⊎ (b.sent ≡ a.sent ++ frame ∷ [])
sent_at child frame k0 k1 sends a b is is' =
    let P : Child → Child → Type 0 = λ a b. (b.sent ≡ a.sent) ⊎ (b.sent ≡ a.sent ++ frame ∷ []) in
    subst (λ o. IsSomeAnd o (P a)) is' (subst (λ o. IfSome o (λ a. IsSomeAnd (k1.known child) (P a))) is sends)

unsent_at : (child : ℕ) (k0 k1 : State) → OfChild child k0 k1 (λ before after. after.sent ≡ before.sent) → (a b : Child) → k0.known child ≡ Some a → k1.known child ≡ Some b → b.sent ≡ a.sent
unsent_at child k0 k1 stays a b is is' =
    let P : Child → Child → Type 0 = λ a b. b.sent ≡ a.sent in
    subst (λ o. IsSomeAnd o (P a)) is' (subst (λ o. IfSome o (λ a. IsSomeAnd (k1.known child) (P a))) is stays)

pub stays_unsent : (child : ℕ) (k : State) → OfChild child k k (λ before after. after.sent ≡ before.sent)
stays_unsent child k = same (k.known child)
  where
    same : (o : Option Child) → IfSome o (λ a. IsSomeAnd o (λ b. b.sent ≡ a.sent))
    same None = tt
    same (Some a) = refl

-- nothing was sent, or the request was served, and the reply was sent or not
abbrev pub Stops : ℕ → Exchange → Filings → Filings → State → State → Type 0
Stops child exchange filings1 filings2 k1 k2 = OfChild child k1 k2 (λ before after. after.sent ≡ before.sent)
    ⊎ ((filings2 ≡ filed_after filings1 exchange) × SentOrNot child (reply_frame exchange) k1 k2)

stops_at : (child : ℕ) (exchange : Exchange) (filings1 filings2 : Filings) (k1 k2 : State) → Stops child exchange filings1 filings2 k1 k2 → (b c : Child) → k1.known child ≡ Some b → k2.known child ≡ Some c
    → (c.sent ≡ b.sent) ⊎ ((filings2 ≡ filed_after filings1 exchange) × ((c.sent ≡ b.sent) ⊎ (c.sent ≡ b.sent ++ reply_frame exchange ∷ [])))
stops_at child exchange filings1 filings2 k1 k2 (inl stays) b c is is' = inl (unsent_at child k1 k2 stays b c is is')
stops_at child exchange filings1 filings2 k1 k2 (inr served) b c is is' = inr (served.0, sent_at child (reply_frame exchange) k1 k2 served.1 b c is is')

-- ---- the way through a round

module _ (child : ℕ) (table : TypeTable) (showing : Showing) (filings : Filings) where
  abbrev Way : Says → Filings → List Exchange → talk.Answer → Child → Child → Type 0
  Way says filings' done answer = Underway says table showing filings filings' done answer

  abbrev Told : Says → Filings → Result Answer SessionFault → Child → Child → Type 0
  Told says filings' result = Shows says table showing filings filings' result

  -- the first answer came
  pub way_begins : (k0 k1 : State) (answer : talk.Answer) → Exchanges child (round_frame showing.env) k0 k1 answer → GoesOn child table showing k0 k1 filings filings [] answer
  way_begins k0 k1 answer e = record {
    way = later k0.says (k0.known child) (k1.known child) (Exchanged k0.says (round_frame showing.env) answer) (Way k0.says filings [] answer)
        (λ a b x. record {
          name = x.name;
          command = x.command;
          sent = x.sent;
          answer_is = x.answer_is;
          answered = x.answered;
          rest = λ left.
              let none : 0 + left ≡ left = omega arith in
              ap (λ n. act_within (k0.says a.name a.command) table showing n a.sent filings.taken) none
              ∙ ap (λ sent. rest_within (k0.says a.name a.command) table showing left sent filings.taken) (sym x.sent);
        }) e.exchanged;
  }

  -- one exchange more is done
  module _ (says : Says) (filings1 filings2 : Filings) (done : List Exchange) (answer answer' : talk.Answer) (request : Request) (asks : turn_at showing.claim answer ≡ Asks request)
      (filed : filings2 ≡ filed_after filings1 (exchange_with (shown_of table showing.env) filings1 request)) (a b c : Child) (x : Way says filings1 done answer a b)
      (y : Exchanged says (reply_frame (exchange_with (shown_of table showing.env) filings1 request)) answer' b c) where
    abbrev exchange : Exchange
    exchange = exchange_with (shown_of table showing.env) filings1 request

    abbrev stream : Stream
    stream = says a.name a.command

    rest_next : (left : ℕ) → act_within stream table showing (length (done ++ exchange ∷ []) + left) a.sent filings.taken ≡ behind (done ++ exchange ∷ []) (rest_within stream table showing left c.sent filings2.taken)
    rest_next left =
        let count : length (done ++ exchange ∷ []) + left ≡ length done + suc left = omega (arith, length-append done (exchange ∷ [])) in
        let asks_so : turn_at showing.claim (answer_to stream b.sent) ≡ Asks request = ap (turn_at showing.claim) (sym x.answer_is) ∙ asks in
        let taken : taken_after filings1.taken exchange ≡ filings2.taken = sym (taken_of-after filings1 exchange) ∙ ap (λ (f : Filings). f.taken) (sym filed) in
        ap (λ n. act_within stream table showing n a.sent filings.taken) count
        ∙ x.rest (suc left)
        ∙ ap (behind done) (act_asks stream by_tests (shown_of table showing.env) showing.claim left b.sent filings1.taken request asks_so)
        ∙ behind-behind done (exchange ∷ []) (rest_within stream table showing left (b.sent ++ reply_frame exchange ∷ []) (taken_after filings1.taken exchange))
        ∙ ap (λ sent. behind (done ++ exchange ∷ []) (rest_within stream table showing left sent (taken_after filings1.taken exchange))) (sym y.sent)
        ∙ ap (λ taken. behind (done ++ exchange ∷ []) (rest_within stream table showing left c.sent taken)) taken

    way_next : Way says filings2 (done ++ exchange ∷ []) answer' a c
    way_next = record {
      name = y.name ∙ x.name;
      command = y.command ∙ x.command;
      sent = y.sent ∙ ap (λ (s : Frames). s ++ reply_frame exchange ∷ []) x.sent ∙ frames_of-next (shown_of table showing.env) a.sent done exchange;
      answer_is = y.answer_is ∙ ap (λ n. answer_to (says n b.command) c.sent) x.name ∙ ap (λ w. answer_to (says a.name w) c.sent) x.command;
      answered = y.answered;
      rest = rest_next;
    }

  pub way_goes : (k0 k1 k2 : State) (filings1 filings2 : Filings) (done : List Exchange) (answer answer' : talk.Answer) (request : Request)
      → k1.says ≡ k0.says → GoesOn child table showing k0 k1 filings filings1 done answer → turn_at showing.claim answer ≡ Asks request
      → filings2 ≡ filed_after filings1 (exchange_with (shown_of table showing.env) filings1 request)
      → Replies child (exchange_with (shown_of table showing.env) filings1 request) k1 k2 answer'
      → GoesOn child table showing k0 k2 filings filings2 (done ++ exchange_with (shown_of table showing.env) filings1 request ∷ []) answer'
  way_goes k0 k1 k2 filings1 filings2 done answer answer' request same w asks filed e =
      let exchange = exchange_with (shown_of table showing.env) filings1 request in
      record {
        way = joined k0.says (k0.known child) (k1.known child) (k2.known child) (Way k0.says filings1 done answer) (Exchanged k0.says (reply_frame exchange) answer') (Way k0.says filings2 (done ++ exchange ∷ []) answer')
            (λ a b x. x.answered (some_turn showing answer request asks))
            (λ a b c x y. way_next k0.says filings1 filings2 done answer answer' request asks filed a b c x y)
            w.way (subst (λ says. IfSome (k1.known child) (λ b. HasAnswered says b → IsSomeAnd (k2.known child) (Exchanged says (reply_frame exchange) answer' b))) same e.exchanged);
      }

  -- ---- it ends

  module _ (says : Says) (filings1 : Filings) (done : List Exchange) (answer : talk.Answer) (a b : Child) (x : Way says filings1 done answer a b) (turn : Turn) (is : turn_at showing.claim answer ≡ turn) where
    -- the whole is what was done and this turn
    whole_is : (left : ℕ) → length done + left ≡ showing.limit → ((request : Request) → turn ≡ Asks request → left ≡ 0)
        → act (says a.name a.command) table showing a.sent filings.taken ≡ record { exchanges = done; last = turn }
    whole_is left all full =
        let stream = says a.name a.command in
        let now : turn_at showing.claim (answer_to stream b.sent) ≡ turn = ap (turn_at showing.claim) (sym x.answer_is) ∙ is in
        ap (λ n. act_within stream table showing n a.sent filings.taken) (sym all) ∙ x.rest left
        ∙ ap (behind done) (act_ends stream by_tests (shown_of table showing.env) showing.claim left b.sent filings1.taken turn now full) ∙ behind-end done turn

    answered_so : (result : Result Answer SessionFault) (answer_made : Answer) → IsOrMemory result (end_of showing.claim showing.limit turn answer_made) → OnAnswered result (HasAnswered says b)
    answered_so result answer_made (inl memory) = subst (λ r. OnAnswered r (HasAnswered says b)) (sym memory) tt
    answered_so result answer_made (inr due) = subst (λ r. OnAnswered r (HasAnswered says b)) (sym due) (by turn is)
      where
        by : (t : Turn) → turn_at showing.claim answer ≡ t → OnAnswered (end_of showing.claim showing.limit t answer_made) (HasAnswered says b)
        by (Ends claimed) at = x.answered (some_end showing answer claimed at)
        by (Differs said) at = x.answered (some_differing showing answer said at)
        by (Asks request) at = x.answered (some_turn showing answer request at)
        by (Leaves (breaches.Ended got)) at = tt
        by (Leaves (breaches.Bad place kind)) at = tt
        by (Leaves (breaches.Wrong tag)) at = x.answered (some_stray showing answer tag at (λ is. no_stray (says a.name a.command) b.sent tag (sym x.answer_is ∙ is)))

  -- this turn is the last: it asks nothing, or the child may ask no more
  pub way_closes : (k0 k1 : State) (filings1 : Filings) (done : List Exchange) (answer : talk.Answer) (left : ℕ) → length done + left ≡ showing.limit
      → GoesOn child table showing k0 k1 filings filings1 done answer → filings1 ≡ filed_all filings done
      → (turn : Turn) → turn_at showing.claim answer ≡ turn → ((request : Request) → turn ≡ Asks request → left ≡ 0)
      → (result : Result Answer SessionFault) → IsOrMemory result (end_of showing.claim showing.limit turn (answer_by (shown_of table showing.env) done (claimed_by turn)))
      → HasShown child table showing k0 k1 filings filings1 result
  way_closes k0 k1 filings1 done answer left all w filed turn is full result due = record {
    shown = later k0.says (k0.known child) (k1.known child) (Way k0.says filings1 done answer) (Told k0.says filings1 result)
        (λ a b x. record {
          name = x.name;
          command = x.command;
          comes = comes_ended table showing filings a.sent done turn (act (k0.says a.name a.command) table showing a.sent filings.taken) (whole_is k0.says filings1 done answer a b x turn is left all full)
              filings1 b.sent result filed x.sent due;
          answered = answered_so k0.says filings1 done answer a b x turn is result (answer_by (shown_of table showing.env) done (claimed_by turn)) due;
        }) w.way;
  }

  -- ---- it is stopped

  -- before the child answered
  pub way_begins_not : (k0 k1 : State) (fault : SessionFault) → IsFreeFault fault → Changes child k0.known k1.known → (fault ≡ Memory → SentOrNot child (round_frame showing.env) k0 k1)
      → HasShown child table showing k0 k1 filings filings (Err fault)
  way_begins_not k0 k1 fault free change sends = record { shown = shown (k0.known child) refl }
    where
      shown : (o : Option Child) → k0.known child ≡ o → IfSome o (λ a. HasAnswered k0.says a → IsSomeAnd (k1.known child) (Told k0.says filings (Err fault) a))
      shown None is = tt
      shown (Some a) is = λ before.
          let b = change.same_child a is in
          subst (λ o. IsSomeAnd o (Told k0.says filings (Err fault) a)) (sym b.1) (record {
            name = b.2;
            command = b.3;
            comes = comes_begun table showing filings a.sent (act (k0.says a.name a.command) table showing a.sent filings.taken) fault free b.0.sent
                (λ memory. sent_at child (round_frame showing.env) k0 k1 (sends memory) a b.0 is b.1);
            answered = free_answered fault free (HasAnswered k0.says b.0);
          })

  -- in a turn
  pub way_stops : (k0 k1 k2 : State) (filings1 filings2 : Filings) (done : List Exchange) (answer : talk.Answer) (request : Request) (fault : SessionFault)
      → IsFreeFault fault → length done < showing.limit → GoesOn child table showing k0 k1 filings filings1 done answer → filings1 ≡ filed_all filings done → turn_at showing.claim answer ≡ Asks request
      → Served (exchange_with (shown_of table showing.env) filings1 request) filings1 filings2 → Changes child k1.known k2.known
      → (fault ≡ Memory → Stops child (exchange_with (shown_of table showing.env) filings1 request) filings1 filings2 k1 k2)
      → HasShown child table showing k0 k2 filings filings2 (Err fault)
  way_stops k0 k1 k2 filings1 filings2 done answer request fault free few w filed asks served change stops = record {
    shown = carried k0.says child k1.known k2.known change (k0.known child) (Way k0.says filings1 done answer) (Told k0.says filings2 (Err fault))
        (λ a b c at1 at2 x name command.
        let stream = k0.says a.name a.command in
        let exchange = exchange_with (shown_of table showing.env) filings1 request in
        let left = showing.limit - (length done + 1) in
        let all : length done + suc left ≡ showing.limit = omega (arith, few) in
        let asks_so : turn_at showing.claim (answer_to stream b.sent) ≡ Asks request = ap (turn_at showing.claim) (sym x.answer_is) ∙ asks in
        let more : Act = rest_within stream table showing left (b.sent ++ reply_frame exchange ∷ []) (taken_after filings1.taken exchange) in
        let whole : act stream table showing a.sent filings.taken ≡ behind done (behind (exchange ∷ []) more) =
        ap (λ n. act_within stream table showing n a.sent filings.taken) (sym all) ∙ x.rest (suc left)
        ∙ ap (behind done) (act_asks stream by_tests (shown_of table showing.env) showing.claim left b.sent filings1.taken request asks_so) in
        record {
          name = name ∙ x.name;
          command = command ∙ x.command;
          comes = comes_asked table showing filings a.sent done exchange more (act stream table showing a.sent filings.taken) whole fault free filings1 filings2 b.sent c.sent filed x.sent served
              (λ memory. stops_at child exchange filings1 filings2 k1 k2 (stops memory) b c at1 at2);
          answered = free_answered fault free (HasAnswered k0.says c);
        }) w.way;
  }

-- ---- with what the filer has and what is noted

module _ (shown : Shown) (filings : Filings) where
  pub begins_underway : (noted : Noted) → noted ≡ nothing_noted → (Goes : List Exchange → Type 0) → Goes [] → IsUnderway shown 0 filings filings noted Goes
  begins_underway noted is Goes goes = record { done = []; count_is = refl; filed = refl; noted_is = is; goes = goes }

  -- one exchange more
  pub next_underway : (count : ℕ) (filings1 filings2 : Filings) (noted1 noted2 : Noted) (exchange : Exchange) (Goes Goes' : List Exchange → Type 0) → IsUnderway shown count filings filings1 noted1 Goes
      → filings2 ≡ filed_after filings1 exchange → noted2 ≡ noted_with shown noted1 exchange → ((done : List Exchange) → Goes done → Goes' (done ++ exchange ∷ []))
      → IsUnderway shown (count + 1) filings filings2 noted2 Goes'
  next_underway count filings1 filings2 noted1 noted2 exchange Goes Goes' w filed noted step = record {
    done = w.done ++ exchange ∷ [];
    count_is = omega (arith, w.count_is, length-append w.done (exchange ∷ []));
    filed = filed ∙ ap (λ f. filed_after f exchange) w.filed ∙ sym (filed_all-append filings w.done (exchange ∷ []));
    noted_is = noted ∙ ap (λ n. noted_with shown n exchange) w.noted_is ∙ sym (noted_of-next shown w.done exchange);
    goes = step w.done w.goes;
  }

-- what was noted is what the answer is made of
pub ends_noted : (shown : Shown) (noted : Noted) (done : List Exchange) → noted ≡ noted_of shown done → (declared : Claim) (limit : ℕ) (turn : Turn) (result : Result Answer SessionFault)
    → IsOrMemory result (end_of declared limit turn (answer_from noted (claimed_by turn))) → IsOrMemory result (end_of declared limit turn (answer_by shown done (claimed_by turn)))
ends_noted shown noted done is declared limit turn result due =
    subst (λ made. IsOrMemory result (end_of declared limit turn made)) (ap (λ n. answer_from n (claimed_by turn)) is ∙ answer_from-noted shown done (claimed_by turn)) due
