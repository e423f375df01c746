-- An act turn by turn, and what a call gives of it that ended, was stopped in a turn, or was stopped before its first answer.
use Rattle.std.proofs.Common.{◌≡◌, ◌⊎◌, ℕ, zero, suc, true, false, List, [], ◌∷◌, ◌++◌, map, Result, Err, IsErrOf, inl, inr, refl, sym, ap, ◌∙◌, subst, append-nil, append_assoc}
use Rattle.apt_base.specs.declared.kinds.Claim.{Claim}
use Rattle.apt_filer.specs.Filing.{Taken, Filings}
use Rattle.element_table.specs.TypeTable.{TypeTable}
use Rattle.child_session.specs.declared.fault.SessionFault.{SessionFault}
use Rattle.child_session.specs.declared.fault.SessionFault.TheVariants.{Failed, Breach, TooManyQuestions, ClaimBroken, Memory}
use Rattle.child_session.specs.declared.request.Request.{Request}
use Rattle.child_session.specs.declared.request.Turn.{Turn}
use Rattle.child_session.specs.declared.request.Turn.TheVariants.{Ends, Differs, Asks, Leaves}
use Rattle.child_session.specs.declared.round.Answer.{Answer}
use Rattle.child_session.specs.declared.round.Showing.{Showing}
use Rattle.child_session.specs.Faults.{IsFreeFault}
use Rattle.child_session.specs.Talk.{Stream, answer_to}
use Rattle.child_session.specs.Requests.{turn_at}
use Rattle.child_session.specs.Replies.{Shown, shown_of, Accepting, Exchange, exchange_of, round_frame, reply_frame, filed_after, filed_all}
use Rattle.child_session.specs.Acts.{Act, ends_with, behind, after_turn, go_on, act_from, answer_by, claimed_by, end_of, outcome}
use Rattle.child_session.specs.Round.{IsFront, AreAllButLast, Served, frames_with, outcome_of, is_due, IsOrMemory, IsPart, Comes}
use Rattle.child_session.proofs.DoneExchanges.{filed_all-append, frames_of-append, frames_of-next}

abbrev Frames : Type 0
Frames = List (List ℕ)

-- ---- turn by turn

module _ (stream : Stream) (accepting : Accepting) (shown : Shown) (declared : Claim) where
  -- the turn that comes now
  abbrev turn_now : Frames → Turn
  turn_now sent = turn_at declared (answer_to stream sent)

  turn_zero : (sent : Frames) (taken : Taken) → act_from stream accepting shown declared 0 sent taken ≡ ends_with (turn_now sent)
  unfolding act_from
  turn_zero sent taken = refl

  turn_suc : (left : ℕ) (sent : Frames) (taken : Taken) → act_from stream accepting shown declared (suc left) sent taken
      ≡ after_turn (turn_now sent) (λ request. go_on (act_from stream accepting shown declared left) sent taken (exchange_of accepting shown taken request))
  unfolding act_from
  turn_suc left sent taken = refl

  -- it asks, and may
  pub act_asks : (left : ℕ) (sent : Frames) (taken : Taken) (request : Request) → turn_now sent ≡ Asks request
      → act_from stream accepting shown declared (suc left) sent taken
      ≡ go_on (act_from stream accepting shown declared left) sent taken (exchange_of accepting shown taken request)
  act_asks left sent taken request asks =
      turn_suc left sent taken
      ∙ ap (λ turn. after_turn turn (λ request. go_on (act_from stream accepting shown declared left) sent taken (exchange_of accepting shown taken request))) asks

  ends_so : (turn : Turn) (go : Request → Act) → ((request : Request) → turn ≡ Asks request → ⊥) → after_turn turn go ≡ ends_with turn
  ends_so (Ends claimed) go other = refl
  ends_so (Differs said) go other = refl
  ends_so (Asks request) go other = absurd (other request refl)
  ends_so (Leaves breach) go other = refl

  -- it asks nothing, or may ask no more
  pub act_ends : (left : ℕ) (sent : Frames) (taken : Taken) (turn : Turn) → turn_now sent ≡ turn → ((request : Request) → turn ≡ Asks request → left ≡ 0)
      → act_from stream accepting shown declared left sent taken ≡ ends_with turn
  act_ends zero sent taken turn is full = turn_zero sent taken ∙ ap ends_with is
  act_ends (suc left) sent taken turn is full =
      let go : Request → Act = λ request. go_on (act_from stream accepting shown declared left) sent taken (exchange_of accepting shown taken request) in
      turn_suc left sent taken ∙ ap (λ turn. after_turn turn go) is ∙ ends_so turn go (λ request asks. let none : suc left ≡ 0 = full request asks in absurd cc)

-- exchanges in front of others
pub behind-behind : (xs ys : List Exchange) (act : Act) → behind xs (behind ys act) ≡ behind (xs ++ ys) act
behind-behind xs ys act = let all = sym (append_assoc xs ys act.exchanges) in λ i. record { exchanges = all i; last = act.last }

pub behind-end : (xs : List Exchange) (turn : Turn) → behind xs (ends_with turn) ≡ record { exchanges = xs; last = turn }
behind-end xs turn = let all = append-nil xs in λ i. record { exchanges = all i; last = turn }

-- ---- what a call gives

module _ (table : TypeTable) (showing : Showing) (filings : Filings) (sent : Frames) where
  -- it ended
  module _ (done : List Exchange) (turn : Turn) where
    abbrev ended : Act
    ended = record { exchanges = done; last = turn }

    abbrev due : Result Answer SessionFault
    due = end_of showing.claim showing.limit turn (answer_by (shown_of table showing.env) done (claimed_by turn))

    due_is : outcome_of table showing ended ≡ due
    unfolding outcome
    due_is = refl

    all_filed : (filings' : Filings) (sent' : Frames) (result : Result Answer SessionFault) → filings' ≡ filed_all filings done → sent' ≡ sent ++ frames_with table showing done
        → IsPart table showing ended sent sent' filings filings' result
    all_filed filings' sent' result filed sends = record { done = done; front = record { rest = []; is = append-nil done }; filed = filed; sent_is = λ _. inl sends }

    ends_or : (filings' : Filings) (sent' : Frames) (result : Result Answer SessionFault) → filings' ≡ filed_all filings done → sent' ≡ sent ++ frames_with table showing done
        → IsOrMemory result due → Comes table showing filings filings' result ended sent sent'
    ends_or filings' sent' result filed sends (inl memory) = record {
      all = λ is. absurd (let no : false ≡ true = ap (is_due {T = Answer}) (sym memory) ∙ is in cc);
      part = all_filed filings' sent' result filed sends;
      front = λ _. record { rest = []; is = append-nil sent' ∙ sends };
    }
    ends_or filings' sent' result filed sends (inr is) = record {
      all = λ _. record { result_is = is ∙ sym due_is; sent_is = sends; filed = filed };
      part = all_filed filings' sent' result filed sends;
      front = λ _. record { rest = []; is = append-nil sent' ∙ sends };
    }

    pub comes_ended : (whole : Act) → whole ≡ ended → (filings' : Filings) (sent' : Frames) (result : Result Answer SessionFault) → filings' ≡ filed_all filings done
        → sent' ≡ sent ++ frames_with table showing done → IsOrMemory result due → Comes table showing filings filings' result whole sent sent'
    comes_ended whole is filings' sent' result filed sends due =
        subst (λ whole. Comes table showing filings filings' result whole sent sent') (sym is) (ends_or filings' sent' result filed sends due)

  not_due : (fault : SessionFault) → IsFreeFault fault → is_due {T = Answer} (Err fault) ≡ true → ⊥
  not_due Failed free is = cc
  not_due Memory free is = cc
  not_due (Breach breach) free is = free
  not_due (TooManyQuestions limit) free is = free
  not_due (ClaimBroken declared said) free is = free

  memory_of : (fault : SessionFault) → IsErrOf {T = Answer} (Err fault) Memory → fault ≡ Memory
  memory_of fault is = cc

  -- it was stopped before the first answer
  pub comes_begun : (whole : Act) (fault : SessionFault) → IsFreeFault fault → (sent' : Frames)
      → (fault ≡ Memory → (sent' ≡ sent) ⊎ (sent' ≡ sent ++ round_frame showing.env ∷ [])) → Comes table showing filings filings (Err fault) whole sent sent'
  comes_begun whole fault free sent' sends = record {
    all = λ is. absurd (not_due fault free is);
    part = record { done = []; front = record { rest = whole.exchanges; is = refl }; filed = refl; sent_is = λ memory. last (sends (memory_of fault memory)) };
    front = λ memory. first (sends (memory_of fault memory));
  }
    where
      last : (sent' ≡ sent) ⊎ (sent' ≡ sent ++ round_frame showing.env ∷ []) → AreAllButLast sent' (sent ++ frames_with table showing [])
      last (inl same) = inr (round_frame showing.env, ap (λ (s : Frames). s ++ round_frame showing.env ∷ []) same)
      last (inr more) = inl more

      first : (sent' ≡ sent) ⊎ (sent' ≡ sent ++ round_frame showing.env ∷ []) → IsFront sent' (sent ++ frames_with table showing whole.exchanges)
      first (inl same) = record { rest = frames_with table showing whole.exchanges; is = ap (λ (s : Frames). s ++ frames_with table showing whole.exchanges) same }
      first (inr more) = record {
        rest = map reply_frame whole.exchanges;
        is = ap (λ (s : Frames). s ++ map reply_frame whole.exchanges) more ∙ append_assoc sent (round_frame showing.env ∷ []) (map reply_frame whole.exchanges);
      }

  -- it was stopped while a request was served
  module _ (done : List Exchange) (exchange : Exchange) (more : Act) where
    abbrev asked : Act
    asked = behind done (behind (exchange ∷ []) more)

    module _ (filings1 filings2 : Filings) (sent1 sent2 : Frames) (filed : filings1 ≡ filed_all filings done) (sent_is : sent1 ≡ sent ++ frames_with table showing done) (result : Result Answer SessionFault) where
      -- the request was not served
      part_kept : filings2 ≡ filings1 → (IsErrOf result Memory → sent2 ≡ sent1) → IsPart table showing asked sent sent2 filings filings2 result
      part_kept kept same = record { done = done; front = record { rest = exchange ∷ more.exchanges; is = refl }; filed = kept ∙ filed; sent_is = λ memory. inl (same memory ∙ sent_is) }

      -- it was, and the reply was sent or not
      part_served : filings2 ≡ filed_after filings1 exchange → (IsErrOf result Memory → (sent2 ≡ sent1) ⊎ (sent2 ≡ sent1 ++ reply_frame exchange ∷ [])) → IsPart table showing asked sent sent2 filings filings2 result
      part_served one sends = record {
        done = done ++ exchange ∷ [];
        front = record { rest = more.exchanges; is = append_assoc done (exchange ∷ []) more.exchanges };
        filed = one ∙ ap (λ f. filed_after f exchange) filed ∙ sym (filed_all-append filings done (exchange ∷ []));
        sent_is = λ memory. last (sends memory);
      }
        where
          last : (sent2 ≡ sent1) ⊎ (sent2 ≡ sent1 ++ reply_frame exchange ∷ []) → AreAllButLast sent2 (sent ++ frames_with table showing (done ++ exchange ∷ []))
          last (inl same) = inr (reply_frame exchange, ap (λ (s : Frames). s ++ reply_frame exchange ∷ []) (same ∙ sent_is) ∙ frames_of-next (shown_of table showing.env) sent done exchange)
          last (inr all) = inl (all ∙ ap (λ (s : Frames). s ++ reply_frame exchange ∷ []) sent_is ∙ frames_of-next (shown_of table showing.env) sent done exchange)

    -- nothing was sent, or the request was served, and the reply was sent or not
    abbrev Stops : Filings → Filings → Frames → Frames → Type 0
    Stops filings1 filings2 sent1 sent2 = (sent2 ≡ sent1) ⊎ ((filings2 ≡ filed_after filings1 exchange) × ((sent2 ≡ sent1) ⊎ (sent2 ≡ sent1 ++ reply_frame exchange ∷ [])))

    sent_by : (filings1 filings2 : Filings) (sent1 sent2 : Frames) → Stops filings1 filings2 sent1 sent2 → (sent2 ≡ sent1) ⊎ (sent2 ≡ sent1 ++ reply_frame exchange ∷ [])
    sent_by filings1 filings2 sent1 sent2 (inl same) = inl same
    sent_by filings1 filings2 sent1 sent2 (inr served) = served.1

    part_by : (filings1 filings2 : Filings) (sent1 sent2 : Frames) → filings1 ≡ filed_all filings done → sent1 ≡ sent ++ frames_with table showing done → Served exchange filings1 filings2
        → Stops filings1 filings2 sent1 sent2 → IsPart table showing asked sent sent2 filings filings2 (Err Memory)
    part_by filings1 filings2 sent1 sent2 filed is (inl kept) (inl same) = part_kept filings1 filings2 sent1 sent2 filed is (Err Memory) kept (λ _. same)
    part_by filings1 filings2 sent1 sent2 filed is (inr one) (inl same) = part_served filings1 filings2 sent1 sent2 filed is (Err Memory) one (λ _. inl same)
    part_by filings1 filings2 sent1 sent2 filed is served (inr stops) = part_served filings1 filings2 sent1 sent2 filed is (Err Memory) stops.0 (λ _. stops.1)

    part_failed : (filings1 filings2 : Filings) (sent1 sent2 : Frames) → filings1 ≡ filed_all filings done → sent1 ≡ sent ++ frames_with table showing done → Served exchange filings1 filings2
        → IsPart table showing asked sent sent2 filings filings2 (Err Failed)
    part_failed filings1 filings2 sent1 sent2 filed is (inl kept) = part_kept filings1 filings2 sent1 sent2 filed is (Err Failed) kept (λ memory. absurd cc)
    part_failed filings1 filings2 sent1 sent2 filed is (inr one) = part_served filings1 filings2 sent1 sent2 filed is (Err Failed) one (λ memory. absurd cc)

    part_filed : (fault : SessionFault) → IsFreeFault fault → (filings1 filings2 : Filings) (sent1 sent2 : Frames) → filings1 ≡ filed_all filings done → sent1 ≡ sent ++ frames_with table showing done
        → Served exchange filings1 filings2 → (fault ≡ Memory → Stops filings1 filings2 sent1 sent2) → IsPart table showing asked sent sent2 filings filings2 (Err fault)
    part_filed Failed free filings1 filings2 sent1 sent2 filed is served stops = part_failed filings1 filings2 sent1 sent2 filed is served
    part_filed Memory free filings1 filings2 sent1 sent2 filed is served stops = part_by filings1 filings2 sent1 sent2 filed is served (stops refl)
    part_filed (Breach breach) free filings1 filings2 sent1 sent2 filed is served stops = absurd free
    part_filed (TooManyQuestions limit) free filings1 filings2 sent1 sent2 filed is served stops = absurd free
    part_filed (ClaimBroken declared said) free filings1 filings2 sent1 sent2 filed is served stops = absurd free

    abbrev frames_done : Frames
    frames_done = frames_with table showing done

    abbrev frames_more : Frames
    frames_more = map reply_frame more.exchanges

    frames_all : frames_with table showing asked.exchanges ≡ frames_done ++ reply_frame exchange ∷ frames_more
    frames_all = frames_of-append (shown_of table showing.env) done (exchange ∷ more.exchanges)

    front_sent : (sent1 sent2 : Frames) → sent1 ≡ sent ++ frames_done → (sent2 ≡ sent1) ⊎ (sent2 ≡ sent1 ++ reply_frame exchange ∷ [])
        → IsFront sent2 (sent ++ frames_with table showing asked.exchanges)
    front_sent sent1 sent2 is (inl same) = record {
      rest = reply_frame exchange ∷ frames_more;
      is = ap (λ (s : Frames). s ++ reply_frame exchange ∷ frames_more) (same ∙ is) ∙ append_assoc sent frames_done (reply_frame exchange ∷ frames_more)
          ∙ ap (λ (fs : Frames). sent ++ fs) (sym frames_all);
    }
    front_sent sent1 sent2 is (inr more_sent) = record {
      rest = frames_more;
      is = ap (λ (s : Frames). s ++ frames_more) more_sent ∙ append_assoc sent1 (reply_frame exchange ∷ []) frames_more
          ∙ ap (λ (s : Frames). s ++ reply_frame exchange ∷ frames_more) is ∙ append_assoc sent frames_done (reply_frame exchange ∷ frames_more)
          ∙ ap (λ (fs : Frames). sent ++ fs) (sym frames_all);
    }

    pub comes_asked : (whole : Act) → whole ≡ asked → (fault : SessionFault) → IsFreeFault fault → (filings1 filings2 : Filings) (sent1 sent2 : Frames)
        → filings1 ≡ filed_all filings done → sent1 ≡ sent ++ frames_done → Served exchange filings1 filings2
        → (fault ≡ Memory → Stops filings1 filings2 sent1 sent2) → Comes table showing filings filings2 (Err fault) whole sent sent2
    comes_asked whole is fault free filings1 filings2 sent1 sent2 filed sent_is served stops =
        subst (λ whole. Comes table showing filings filings2 (Err fault) whole sent sent2) (sym is) (record {
          all = λ is. absurd (not_due fault free is);
          part = part_filed fault free filings1 filings2 sent1 sent2 filed sent_is served stops;
          front = λ memory. front_sent sent1 sent2 sent_is (sent_by filings1 filings2 sent1 sent2 (stops (memory_of fault memory)));
        })
