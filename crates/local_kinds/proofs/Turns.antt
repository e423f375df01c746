-- A round turn by turn, where a plan is carried out.
use Rattle.std.proofs.Common.{◌≡◌, ℕ, zero, suc, ◌+◌, ◌≤◌, Bool, true, false, List, [], ◌∷◌, ◌++◌, length, map, Ok, refl, sym, ap, ◌∙◌, subst, append_assoc, append-nil, arith}
use Rattle.apt_base.specs.declared.kinds.Claim.{Claim}
use Rattle.apt_base.specs.Names.{NameSet}
use Rattle.apt_filer.specs.Filing.{Taken, taken_at_first}
use Rattle.wire_frames.specs.declared.frame.Frame.{Frame}
use Rattle.wire_frames.specs.declared.frame.Frame.TheVariants as frame
use Rattle.wire_frames.specs.declared.reply.Reply.{Reply}
use Rattle.wire_frames.specs.Frames.{spelling, IsInTable}
use Rattle.wire_frames.specs.Limits.{is_too_large}
use Rattle.child_session.specs.declared.request.Turn.{Turn}
use Rattle.child_session.specs.declared.request.Turn.TheVariants as turns
use Rattle.child_session.specs.Talk.{Stream, answer_to}
use Rattle.child_session.specs.Requests.{turn_of, turn_at}
use Rattle.child_session.specs.Replies.{Shown, always, Exchange, reply_frame, taken_after}
use Rattle.child_session.specs.Acts.{Act, behind, act_from}
use Rattle.child_session.proofs.ActsInTurn.{act_asks, act_ends}
use Rattle.local_procs.specs.declared.local.Local.{Local}
use Rattle.local_procs.specs.declared.local.Local.TheVariants.{Builder, Checker, Chain, Registry}
use Rattle.local_procs.specs.Plans.{Plan, Ends, Sends, sendable, nothing}
use Rattle.local_procs.specs.Says.{Answer, Waits, Rests, answer_by, step, claim_of, is_claiming, done_frame}
use Rattle.local_procs.proofs.Sending.{kept_sent, small_sent, large_sent}
use Rattle.local_kinds.specs.Streams.{AnswersInTurn}
use Rattle.local_kinds.specs.Rounds.{IsSendable, IsRound}
use Rattle.local_kinds.proofs.Hearing.{Heard, heard_next, answer_is}
use Rattle.local_kinds.proofs.Exchanges.{small_short, nothing_sendable, request_of, IsRequest, exchange_by, reply_by_host, exchanges_by, exchanges_large, exchanges_small, whatever_taken, reply_sendable}

-- Each frame that is sent is a request, and as its form asks, as long as the replies are frames.
unfoldable pub AreFrames : Plan → Type 0
AreFrames (Ends kept) = Unit {0}
AreFrames (Sends f go) = IsRequest f × (is_too_large f ≡ false → IsInTable f) × ((answer : Reply) → IsInTable (frame.Reply answer) → AreFrames (go answer))

-- ---- the last frame

done_sendable : (local : Local) → IsSendable (done_frame local)
unfolding IsInTable spelling
done_sendable Builder = record { fits = (refl, refl); short = omega arith }
done_sendable Checker = record { fits = (refl, refl); short = omega arith }
done_sendable Chain = record { fits = (refl, refl); short = omega arith }
done_sendable Registry = record { fits = (refl, refl); short = omega arith }

abbrev pub end_of : Local → Turn
end_of local = turns.Ends (is_claiming (claim_of local))

done_ends : (local : Local) → turn_of (claim_of local) (done_frame local) ≡ end_of local
done_ends Builder = refl
done_ends Checker = refl
done_ends Chain = refl
done_ends Registry = refl

asking : (declared : Claim) (f : Frame) → IsRequest f → turn_of declared f ≡ turns.Asks (request_of f)
asking declared (frame.Create creation) is = refl
asking declared (frame.Message message) is = refl
asking declared (frame.Ask question) is = refl
asking declared (frame.Init init) is = absurd is
asking declared (frame.Round number over error offered roots) is = absurd is
asking declared (frame.Reply answer) is = absurd is
asking declared (frame.Hello hello) is = absurd is
asking declared (frame.Done claimed) is = absurd is

-- ---- the frame that comes next

-- what a plan says first, and how it goes on
abbrev pub says_next : Local → Plan → Answer
says_next local plan = answer_by local (sendable plan)

module _ (local : Local) where
  next_end : (kept : NameSet) → says_next local (Ends kept) ≡ (done_frame local, Rests kept)
  next_end kept = ap (answer_by local) (kept_sent kept)

  next_large : (f : Frame) (go : Reply → Plan) → is_too_large f ≡ true → says_next local (Sends f go) ≡ says_next local (go nothing)
  next_large f go large = ap (answer_by local) (large_sent f go large)

  next_small : (f : Frame) (go : Reply → Plan) → is_too_large f ≡ false → says_next local (Sends f go) ≡ (f, Waits go)
  next_small f go small = ap (answer_by local) (small_sent f go small)

  pub next_sendable : (plan : Plan) → AreFrames plan → IsSendable (says_next local plan).0
  unfolding AreFrames
  next_sendable (Ends kept) are = subst (λ (x : Answer). IsSendable x.0) (sym (next_end kept)) (done_sendable local)
  next_sendable (Sends f go) are = by_size (next_sendable (go nothing) (are.2 nothing nothing_sendable.fits)) (is_too_large f) refl
    where
      by_size : IsSendable (says_next local (go nothing)).0 → (b : Bool) → is_too_large f ≡ b → IsSendable (says_next local (Sends f go)).0
      by_size later true large = subst (λ (x : Answer). IsSendable x.0) (sym (next_large f go large)) later
      by_size later false small = subst (λ (x : Answer). IsSendable x.0) (sym (next_small f go small)) (record { fits = are.1 small; short = small_short f small })

-- ---- turn by turn

-- the child answered the last of these frames by the first one of the plan
pub record IsDue (local : Local) (stream : Stream) (sent : List (List ℕ)) (plan : Plan) : Type 0 where
  pub answer : answer_to stream sent ≡ Ok (says_next local plan).0
  pub heard : Heard local sent (says_next local plan).1

same_due : (local : Local) (stream : Stream) (sent : List (List ℕ)) (plan other : Plan) → says_next local plan ≡ says_next local other → IsDue local stream sent plan → IsDue local stream sent other
same_due local stream sent plan other same due = record {
  answer = due.answer ∙ ap (λ (x : Answer). Ok x.0) same;
  heard = subst (λ (x : Answer). Heard local sent x.1) same due.heard;
}

module _ (local : Local) (stream : Stream) (in_turn : AnswersInTurn local stream) (shown : Shown) (round : IsRound shown) where
  -- the plan was carried out to its end
  abbrev pub whole : Plan → Act
  whole plan = record { exchanges = exchanges_by shown plan; last = end_of local }

  abbrev from : ℕ → List (List ℕ) → Taken → Act
  from left sent taken = act_from stream always shown (claim_of local) left sent taken

  pub record Came (left : ℕ) (sent : List (List ℕ)) (taken : Taken) (plan : Plan) : Type 0 where
    pub act : from left sent taken ≡ whole plan
    pub kept : NameSet
    pub heard : Heard local (sent ++ map reply_frame (exchanges_by shown plan)) (Rests kept)

  came_end : (left : ℕ) (sent : List (List ℕ)) (taken : Taken) (kept : NameSet) → IsDue local stream sent (Ends kept) → Came left sent taken (Ends kept)
  unfolding exchanges_by
  came_end left sent taken kept due =
      let turn : turn_at (claim_of local) (answer_to stream sent) ≡ end_of local =
      ap (turn_at (claim_of local)) (due.answer ∙ ap (λ (x : Answer). Ok x.0) (next_end local kept)) ∙ done_ends local in
      record {
        act = act_ends stream always shown (claim_of local) left sent taken (end_of local) turn (λ request asks. absurd cc);
        kept = kept;
        heard = subst (λ s. Heard local s (Rests kept)) (sym (append-nil sent)) (subst (λ (x : Answer). Heard local sent x.1) (next_end local kept) due.heard);
      }

  came_large : (left : ℕ) (sent : List (List ℕ)) (taken : Taken) (f : Frame) (go : Reply → Plan) → is_too_large f ≡ true → Came left sent taken (go nothing) → Came left sent taken (Sends f go)
  came_large left sent taken f go large came = record {
    act = came.act ∙ ap (λ exchanges. record { exchanges = exchanges; last = end_of local }) (sym (exchanges_large shown f go large));
    kept = came.kept;
    heard = subst (λ exchanges. Heard local (sent ++ map reply_frame exchanges) (Rests came.kept)) (sym (exchanges_large shown f go large)) came.heard;
  }

  -- the frames that were sent once it was replied
  abbrev sent_with : List (List ℕ) → Frame → List (List ℕ)
  sent_with sent f = sent ++ reply_frame (exchange_by shown f) ∷ []

  replied : (sent : List (List ℕ)) (f : Frame) (go : Reply → Plan) → AreFrames (Sends f go) → is_too_large f ≡ false → IsDue local stream sent (Sends f go)
      → IsDue local stream (sent_with sent f) (go (reply_by_host shown f))
  unfolding AreFrames step
  replied sent f go are small due =
      let answer : Reply = reply_by_host shown f in
      let fits : IsSendable (frame.Reply answer) = reply_sendable shown round f are.0 (are.1 small) in
      let heard : Heard local sent (Waits go) = subst (λ (x : Answer). Heard local sent x.1) (next_small local f go small) due.heard in
      let next : Answer = says_next local (go answer) in
      let next_fits : IsSendable next.0 = next_sendable local (go answer) (are.2 answer fits.fits) in
      record {
        answer = answer_is local sent (Waits go) heard (frame.Reply answer) next.0 next.1 refl fits next_fits stream in_turn;
        heard = heard_next local sent (Waits go) heard (frame.Reply answer) next.0 next.1 refl fits next_fits;
      }

  came_small : (left : ℕ) (sent : List (List ℕ)) (taken : Taken) (f : Frame) (go : Reply → Plan) → IsRequest f → is_too_large f ≡ false → IsDue local stream sent (Sends f go)
      → Came left (sent_with sent f) (taken_after taken (exchange_by shown f)) (go (reply_by_host shown f)) → Came (suc left) sent taken (Sends f go)
  came_small left sent taken f go is small due came =
      let turn : turn_at (claim_of local) (answer_to stream sent) ≡ turns.Asks (request_of f) =
      ap (turn_at (claim_of local)) (due.answer ∙ ap (λ (x : Answer). Ok x.0) (next_small local f go small)) ∙ asking (claim_of local) f is in
      let rest : List Exchange = exchanges_by shown (go (reply_by_host shown f)) in
      record {
        act = act_asks stream always shown (claim_of local) left sent taken (request_of f) turn
            ∙ ap (λ exchange. behind (exchange ∷ []) (from left (sent ++ reply_frame exchange ∷ []) (taken_after taken exchange))) (whatever_taken shown taken (taken_at_first []) (request_of f))
            ∙ ap (behind (exchange_by shown f ∷ [])) came.act
            ∙ ap (λ exchanges. record { exchanges = exchanges; last = end_of local }) (sym (exchanges_small shown f go small));
        kept = came.kept;
        heard = subst (λ s. Heard local s (Rests came.kept))
            (append_assoc sent (reply_frame (exchange_by shown f) ∷ []) (map reply_frame rest) ∙ ap (λ exchanges. sent ++ map reply_frame exchanges) (sym (exchanges_small shown f go small)))
            came.heard;
      }

  abbrev Comes : Plan → Type 0
  Comes plan = (left : ℕ) → length (exchanges_by shown plan) ≤ left → (sent : List (List ℕ)) (taken : Taken) → IsDue local stream sent plan → Came left sent taken plan

  none_left : (n : ℕ) → suc n ≤ 0 → ⊥
  none_left n h = omega (arith, h)

  comes_sending : (f : Frame) (go : Reply → Plan) → AreFrames (Sends f go) → Comes (go nothing) → (is_too_large f ≡ false → Comes (go (reply_by_host shown f)))
      → (b : Bool) → is_too_large f ≡ b → Comes (Sends f go)
  unfolding AreFrames
  comes_sending f go are later next true large left few sent taken due =
      came_large left sent taken f go large
      (later left (omega (arith, few, ap length (exchanges_large shown f go large))) sent taken (same_due local stream sent (Sends f go) (go nothing) (next_large local f go large) due))
  comes_sending f go are later next false small zero few sent taken due =
      absurd (none_left (length (exchanges_by shown (go (reply_by_host shown f)))) (omega (arith, few, ap length (exchanges_small shown f go small))))
  comes_sending f go are later next false small (suc left) few sent taken due =
      came_small left sent taken f go are.0 small due
      (next small left (omega (arith, few, ap length (exchanges_small shown f go small))) (sent_with sent f) (taken_after taken (exchange_by shown f)) (replied sent f go are small due))

  pub comes : (plan : Plan) → AreFrames plan → Comes plan
  unfolding AreFrames
  comes (Ends kept) are left few sent taken due = came_end left sent taken kept due
  comes (Sends f go) are left few sent taken due =
      comes_sending f go are (comes (go nothing) (are.2 nothing nothing_sendable.fits))
      (λ small. comes (go (reply_by_host shown f)) (are.2 (reply_by_host shown f) (reply_sendable shown round f are.0 (are.1 small)).fits))
      (is_too_large f) refl left few sent taken due
