-- A session with one of the processors: its Hello, and round after round.
use Rattle.std.proofs.Common.{◌≡◌, List, [], ◌∷◌, ◌++◌, ℕ, ◌≤◌, length, map, Some, refl, ap, ◌∙◌, subst, append_assoc, arith}
use Rattle.std.specs.Prelude.{option_and_then}
use Rattle.std.specs.List.{AllByRecursion}
use Rattle.std.specs.Str.{is_utf8, chars}
use lib.Utf8.{encode}
use Rattle.unicode_ident.specs.Ident.{is_xid_start, is_xid_continue}
use Rattle.ucd_table.specs.Rows.{in_ranges}
use Rattle.ucd_derived.specs.XidStartRanges.{xid_start_ranges}
use Rattle.ucd_derived.specs.XidContinueRanges.{xid_continue_ranges}
use Rattle.apt_base.specs.Identifiers.{is_pattern, is_identifier, is_reserved}
use Rattle.std.specs.FinMap as fin
use Rattle.apt_base.specs.Names.{NameSet}
use Rattle.apt_filer.specs.Filing.{taken_at_first}
use Rattle.wire_frames.specs.declared.frame.Frame.TheVariants as frame
use Rattle.wire_frames.specs.declared.frame.Init.{Init}
use Rattle.wire_frames.specs.Frames.{spelling, IsInTable}
use Rattle.frame_stream.specs.Streams.{most_bytes}
use Rattle.child_session.specs.Talk.{Stream}
use Rattle.child_session.specs.Beginning.{hello_in}
use Rattle.child_session.specs.Replies.{Shown, round_frame, reply_frame}
use Rattle.child_session.specs.Sessions.{Begun, begun_by, free_act, after_round, free_session}
use Rattle.local_procs.specs.declared.local.Local.{Local}
use Rattle.local_procs.specs.declared.local.Local.TheVariants.{Builder, Checker, Chain, Registry}
use Rattle.local_procs.specs.Plans.{Plan}
use Rattle.local_procs.specs.Says.{Answer, Unbegun, Rests, annotation_of, claim_of, hello_of, is_offered, begins, step}
use Rattle.local_kinds.specs.Streams.{AnswersInTurn}
use Rattle.local_kinds.specs.Rounds.{IsSendable, IsInit, init_frame, IsRound, most_requests}
use Rattle.local_kinds.proofs.Hearing.{Heard, nothing_heard, heard_next, answer_is}
use Rattle.local_kinds.proofs.Exchanges.{exchanges_by}
use Rattle.local_kinds.proofs.Turns.{says_next, next_sendable, IsDue, whole, Came, comes}
use Rattle.local_kinds.proofs.PlanFrames.{round_frames}
use Rattle.local_kinds.proofs.RoundExchanges.{few_in_round}

-- ---- the Hello

hello_fits : (local : Local) → IsInTable (frame.Hello (hello_of local))
unfolding IsInTable is_utf8 chars encode in_ranges xid_start_ranges xid_continue_ranges is_pattern is_identifier is_reserved is_xid_start is_xid_continue
hello_fits Builder = (refl, ((omega arith, ((refl, omega arith), tt)), ((omega arith, ((refl, omega arith), tt)), refl)))
hello_fits Checker = (refl, ((omega arith, ((refl, omega arith), tt)), ((omega arith, tt), refl)))
hello_fits Chain = (refl, ((omega arith, ((refl, omega arith), tt)), ((omega arith, tt), refl)))
hello_fits Registry = (refl, ((omega arith, ((refl, omega arith), tt)), ((omega arith, ((refl, omega arith), tt)), refl)))

hello_short : (local : Local) → length (spelling (frame.Hello (hello_of local))) ≤ most_bytes
unfolding spelling
hello_short Builder = omega arith
hello_short Checker = omega arith
hello_short Chain = omega arith
hello_short Registry = omega arith

hello_sendable : (local : Local) → IsSendable (frame.Hello (hello_of local))
hello_sendable local = record { fits = hello_fits local; short = hello_short local }

-- ---- a round

-- what it does in a round
abbrev pub plan_in : Local → Shown → NameSet → Plan
plan_in local shown kept = begins local (is_offered (annotation_of local) shown.env.offered) shown.env.over kept

abbrev pub sent_in : List (List ℕ) → Shown → List (List ℕ)
sent_in sent shown = sent ++ round_frame shown.env ∷ []

module _ (local : Local) (stream : Stream) (in_turn : AnswersInTurn local stream) (shown : Shown) (round : IsRound shown) (sent : List (List ℕ)) (kept : NameSet) (heard : Heard local sent (Rests kept)) where
  round_due : IsDue local stream (sent_in sent shown) (plan_in local shown kept)
  unfolding step
  round_due =
      let plan : Plan = plan_in local shown kept in
      let next : Answer = says_next local plan in
      let fits : IsSendable next.0 = next_sendable local plan (round_frames local (is_offered (annotation_of local) shown.env.offered) shown.env.over kept) in
      let first = frame.Round shown.env.number shown.env.over shown.env.error shown.env.offered shown.env.roots in
      record {
        answer = answer_is local sent (Rests kept) heard first next.0 next.1 refl round.begins fits stream in_turn;
        heard = heard_next local sent (Rests kept) heard first next.0 next.1 refl round.begins fits;
      }

  pub round_came : Came local stream in_turn shown round (most_requests shown) (sent_in sent shown) (taken_at_first []) (plan_in local shown kept)
  round_came =
      comes local stream in_turn shown round (plan_in local shown kept) (round_frames local (is_offered (annotation_of local) shown.env.offered) shown.env.over kept) (most_requests shown)
      (few_in_round local shown (is_offered (annotation_of local) shown.env.offered) shown.env.over kept) (sent_in sent shown) (taken_at_first []) round_due

  pub round_act : free_act stream most_requests (claim_of local) shown sent ≡ whole local stream in_turn shown round (plan_in local shown kept)
  round_act = round_came.act

  pub round_heard : Heard local (sent ++ (round_frame shown.env ∷ map reply_frame (exchanges_by shown (plan_in local shown kept)))) (Rests round_came.kept)
  round_heard = subst (λ s. Heard local s (Rests round_came.kept)) (append_assoc sent (round_frame shown.env ∷ []) (map reply_frame (exchanges_by shown (plan_in local shown kept)))) round_came.heard

-- ---- round after round

pub record Session (local : Local) (stream : Stream) (init : Init) (rounds : List Shown) : Type 0 where
  pub sent : List (List ℕ)
  pub is : free_session stream most_requests (init_frame init) rounds ≡ Some (record { claim = claim_of local; sent = sent })
  pub kept : NameSet
  pub heard : Heard local sent (Rests kept)

module _ (local : Local) (stream : Stream) (in_turn : AnswersInTurn local stream) (init : Init) (is_init : IsInit init) where
  begun : Session local stream init []
  unfolding free_session step
  begun = record {
    sent = init_frame init ∷ [];
    is = ap (λ answer. begun_by (init_frame init) (hello_in answer))
        (answer_is local [] Unbegun (nothing_heard local) (frame.Init init) (frame.Hello (hello_of local)) (Rests fin.empty) refl is_init (hello_sendable local) stream in_turn);
    kept = fin.empty;
    heard = heard_next local [] Unbegun (nothing_heard local) (frame.Init init) (frame.Hello (hello_of local)) (Rests fin.empty) refl is_init (hello_sendable local);
  }

  one_round : (shown : Shown) (earlier : List Shown) → IsRound shown → Session local stream init earlier → Session local stream init (shown ∷ earlier)
  unfolding free_session
  one_round shown earlier round session = record {
    sent = session.sent ++ (round_frame shown.env ∷ map reply_frame (exchanges_by shown (plan_in local shown session.kept)));
    is = ap (option_and_then (λ (begun : Begun). after_round begun shown (free_act stream most_requests begun.claim shown begun.sent))) session.is
        ∙ ap (after_round (record { claim = claim_of local; sent = session.sent }) shown) (round_act local stream in_turn shown round session.sent session.kept session.heard);
    kept = (round_came local stream in_turn shown round session.sent session.kept session.heard).kept;
    heard = round_heard local stream in_turn shown round session.sent session.kept session.heard;
  }

  pub session : (rounds : List Shown) → AllByRecursion IsRound rounds → Session local stream init rounds
  session [] all = begun
  session (shown ∷ earlier) all = one_round shown earlier all.0 (session earlier all.1)
