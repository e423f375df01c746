-- What each of the processors keeps to in a session.
use Rattle.std.proofs.Common.{◌≡◌, ◌≢◌, Bool, true, List, Option, Some, IsSomeAnd, option_map, refl, sym, ap, ◌∙◌, subst}
use Rattle.std.specs.List.{AllByRecursion}
use Rattle.apt_base.specs.Names.{NameSet}
use Rattle.apt_base.specs.declared.kinds.Claim.TheVariants.{Varies}
use Rattle.wire_frames.specs.declared.frame.Init.{Init}
use Rattle.child_session.specs.Replies.{Shown}
use Rattle.child_session.specs.Acts.{Act}
use Rattle.child_session.specs.Sessions.{Begun, free_act, free_session, free_act_behind}
use Rattle.child_session.specs.Talk.{Stream}
use Rattle.local_procs.specs.declared.local.Local.{Local}
use Rattle.local_procs.specs.declared.local.Local.TheVariants.{Builder, Checker, Chain, Registry}
use Rattle.local_procs.specs.Says.{claim_of, annotation_of, is_offered, goes, begins}
use Rattle.local_procs.proofs.KeptKinds.{all_keep_kinds}
use Rattle.local_kinds.specs.Rounds.{IsInit, init_frame, IsRound, most_requests}
use Rattle.local_kinds.specs.Streams.{AnswersInTurn}
use Rattle.local_kinds.specs.Kinds.{IsFaultless, subjects, come_from, AttributesAll, KeepsKind, AllKeepKinds}
use Rattle.local_kinds.proofs.Exchanges.{exchanges_by}
use Rattle.local_kinds.proofs.Turns.{whole}
use Rattle.local_kinds.proofs.RoundExchanges.{goes_over}
use Rattle.local_kinds.proofs.SessionsHeard.{plan_in, session, round_act}
use Rattle.local_kinds.proofs.Origins.{all_from}
use Rattle.local_kinds.proofs.OfferedNames.{offered_from}

-- ---- claim and faults

constant : (local : Local) → claim_of local ≢ Varies
constant Builder = (all_keep_kinds Builder).constant
constant Checker = (all_keep_kinds Checker).constant
constant Chain = (all_keep_kinds Chain).constant
constant Registry = (all_keep_kinds Registry).constant

some_and : {A : Type 0} (P : A → Type 0) (o : Option A) (x : A) → o ≡ Some x → P x → IsSomeAnd o P
some_and P o x is h = subst (λ o. IsSomeAnd o P) (sym is) h

faultless : (local : Local) (stream : Stream) → AnswersInTurn local stream → IsFaultless stream most_requests (claim_of local)
faultless local stream in_turn = record {
  constant = constant local;
  ends = λ init rounds is_init all.
      let s = session local stream in_turn init is_init rounds all in
      some_and (λ (begun : Begun). begun.claim ≡ claim_of local) (free_session stream most_requests (init_frame init) rounds)
      (record { claim = claim_of local; sent = s.sent }) s.is refl;
}

-- ---- what a round comes to

some_is : {A : Type 0} (x y : A) → Some x ≡ Some y → x ≡ y
some_is x y e = cc

-- it is the plan of the round, by what the processor remembers
record IsWhole (local : Local) (stream : Stream) (in_turn : AnswersInTurn local stream) (shown : Shown) (round : IsRound shown) (act : Act) : Type 0 where
  kept : NameSet
  is : act ≡ whole local stream in_turn shown round (plan_in local shown kept)

act_is : (local : Local) (stream : Stream) (in_turn : AnswersInTurn local stream) (init : Init) (shown : Shown) (earlier : List Shown) (act : Act) → IsInit init → (round : IsRound shown) → AllByRecursion IsRound earlier
    → free_act_behind stream most_requests (init_frame init) shown earlier ≡ Some act → IsWhole local stream in_turn shown round act
unfolding free_act_behind
act_is local stream in_turn init shown earlier act is_init round all is =
    let s = session local stream in_turn init is_init earlier all in
    record {
      kept = s.kept;
      is = some_is act (whole local stream in_turn shown round (plan_in local shown s.kept))
          (sym is ∙ ap (option_map (λ (begun : Begun). free_act stream most_requests begun.claim shown begun.sent)) s.is
          ∙ ap (λ (a : Act). Some a) (round_act local stream in_turn shown round s.sent s.kept s.heard));
    }

-- ---- origins

-- whether the annotation of a processor is offered
abbrev is_there : Local → Shown → Bool
is_there local shown = is_offered (annotation_of local) shown.env.offered

come_from_subjects : (local : Local) (shown : Shown) → IsRound shown → come_from (subjects shown) (exchanges_by shown (goes local (is_there local shown))) ≡ true
come_from_subjects local shown round =
    all_from (subjects shown) (exchanges_by shown (goes local (is_there local shown)))
    (offered_from local shown round (is_there local shown) refl (exchanges_by shown (goes local (is_there local shown))) (goes_over local shown (is_there local shown)))

-- of one that goes from root to root
goes_from_roots : (local : Local) (stream : Stream) (in_turn : AnswersInTurn local stream) → ((there over : Bool) (kept : NameSet) → begins local there over kept ≡ goes local there) → AttributesAll stream most_requests
goes_from_roots local stream in_turn goes_so init shown earlier act is_init all is =
    let came = act_is local stream in_turn init shown earlier act is_init all.0 all.1 is in
    ap (λ (a : Act). come_from (subjects shown) a.exchanges) came.is
    ∙ ap (λ plan. come_from (subjects shown) (exchanges_by shown plan)) (goes_so (is_there local shown) shown.env.over came.kept)
    ∙ come_from_subjects local shown all.0

keeps_kind : (local : Local) (stream : Stream) → AnswersInTurn local stream → ((there over : Bool) (kept : NameSet) → begins local there over kept ≡ goes local there) → KeepsKind local stream
keeps_kind local stream in_turn goes_so = record { faultless = faultless local stream in_turn; attributed = goes_from_roots local stream in_turn goes_so }

pub all_kinds_kept : AllKeepKinds
all_kinds_kept Builder stream in_turn = keeps_kind Builder stream in_turn (λ there over kept. refl)
all_kinds_kept Checker stream in_turn = keeps_kind Checker stream in_turn (λ there over kept. refl)
all_kinds_kept Chain stream in_turn = keeps_kind Chain stream in_turn (λ there over kept. refl)
all_kinds_kept Registry stream in_turn = faultless Registry stream in_turn
