-- What a child says to bytes of which it has heard the front.
use Rattle.std.proofs.Common.{◌≡◌, inl, inr, ℕ, ◌-◌, ◌<◌, ◌≤◌, Bool, true, Option, None, Some, List, [], length, take, drop, Result, Ok, Err, refl, sym, ap, subst, ◌∙◌, arith}
use Rattle.std.specs.Prelude.{◌==◌, IfOk, IsOkAnd}
use Rattle.std.proofs.lemmas.Bool.{eqb-true}
use Rattle.std.proofs.lemmas.List.{nil_from_length}
use Rattle.apt_base.specs.declared.memory.NoMemory.{NoMemory}
use Rattle.frame_forms.specs.declared.bad_kind.BadKind.{BadKind}
use Rattle.wire_frames.specs.declared.frame.Frame.{Frame}
use Rattle.frame_reader.specs.declared.found.Found.TheVariants as founds
use Rattle.frame_reader.specs.Stages.{found_in}
use Rattle.frame_stream.specs.declared.reader.ReadFault.{ReadFault}
use Rattle.frame_stream.specs.declared.reader.ReadFault.TheVariants as faults
use Rattle.frame_stream.specs.Streams.{ComesOf}
use Rattle.frame_breaches.specs.declared.breach.Breach.{Breach}
use Rattle.frame_breaches.specs.declared.breach.Breach.TheVariants.{Bad}
use Rattle.local_procs.specs.declared.local.Local.{Local}
use Rattle.local_procs.specs.declared.child.Child.{Child}
use Rattle.local_procs.specs.Says.{Answer, step}
use Rattle.local_procs.specs.Places.{stands_at}
use Rattle.local_children.specs.Streams.{Open, Session, over, answered, after, has_begun, Stand, open_session}
use Rattle.local_children.specs.Hearing.{stand_of, shown_session, IsOf, Answers, HasBegun, StandsBy, Hears}
use Rattle.local_children.specs.declared.conversation.Conversation.{Conversation}
use Rattle.local_children.specs.declared.hearing.Stands.{Stands}
use Rattle.local_children.specs.declared.hearing.Stands.TheVariants as stand
use Rattle.local_children.proofs.Sessions.{after_breach}
use Rattle.local_children.proofs.Steps.{AnswersWell, answers_well}
use Rattle.local_children.proofs.Heard.{hears_begun, hears_frame, hears_bad, hears_rest}

-- ---- an answer

-- once a frame has come, it has come
begun_by : (written new : List ℕ) (frame : Frame) (answer : Result Answer Breach) (child : Child) → AnswersWell frame answer
    → answered written answer ≡ open_session new (stands_at child, []) → true ≡ has_begun (stands_at child)
begun_by written new frame (Ok answer) child well is =
    let same : Ok (answer.1, []) ≡ Ok (stands_at child, []) = ap (λ (s : Session). s.stands) is in
    sym well.0 ∙ ap (λ (o : Result Open Breach). begun_in o) same
  where
    begun_in : Result Open Breach → Bool
    begun_in (Ok talk) = has_begun talk.0
    begun_in (Err breach) = true
begun_by written new frame (Err breach) child well is = absurd (let e : Err breach ≡ Ok (stands_at child, []) = ap (λ (s : Session). s.stands) is in cc)

pub answered_begun : (child : Child) (frame : Frame) (old new : List ℕ) (next : Child) → Answers child frame old new (Ok next) → true ≡ has_begun (stands_at next)
answered_begun child frame old new next answers =
    begun_by old new frame (step child.local (stands_at child) frame) next (answers_well child.local (stands_at child) frame) answers.1

pub answers_begin : (child : Child) (frame : Frame) (old new : List ℕ) (answered : Result (Result Child Breach) NoMemory) → IfOk answered (Answers child frame old new) → IfOk answered HasBegun
answers_begin child frame old new (Ok (Ok next)) answers = answered_begun child frame old new next answers
answers_begin child frame old new (Ok (Err breach)) answers = tt
answers_begin child frame old new (Err fault) answers = tt

-- ---- the front of a piece

-- all of it begins a frame
pub hears_none : (child : Stand) (said piece new : List ℕ) (taken : ℕ) (next : Conversation) → ComesOf (Ok None) taken piece child.1.1 new
    → stand_of next ≡ (child.0, (child.1.0, new)) → Hears child said (take taken piece) said (stand.Open next)
hears_none child said piece new taken next comes is = (
  ap (λ (c : Stand). c.0) is,
  hears_begun child.0 said child.1.0 child.1.1 piece taken new comes ∙ ap (λ (t : Open). open_session said t) (sym (ap (λ (c : Stand). c.1) is)),
)

-- it ends a frame, which is answered
pub hears_whole : (child : Child) (reader piece new : List ℕ) (taken : ℕ) (frame : Frame) (old said : List ℕ) (answer : Result Child Breach) (stands : Stands)
    → ComesOf (Ok (Some frame)) taken piece reader new → Answers child frame old said answer → StandsBy stands answer
    → Hears (child.local, (stands_at child, reader)) old (take taken piece) said stands
hears_whole child reader piece new taken frame old said (Ok next) (stand.Open talker) comes answers is = (
  ap (λ (c : Stand). c.0) is ∙ answers.0,
  hears_frame child.local old (stands_at child) reader piece taken new frame comes ∙ answers.1 ∙ ap (λ (t : Open). open_session said t) (sym (ap (λ (c : Stand). c.1) is)),
)
hears_whole child reader piece new taken frame old said (Ok next) (stand.Over other) comes answers is = absurd is
hears_whole child reader piece new taken frame old said (Err breach) (stand.Open talker) comes answers is = absurd is
hears_whole child reader piece new taken frame old said (Err breach) (stand.Over other) comes answers is =
    (tt, hears_frame child.local old (stands_at child) reader piece taken new frame comes ∙ answers.1 ∙ ap (λ (b : Breach). over said b) (sym is))

pub hears_answered : (child : Child) (reader piece new : List ℕ) (taken : ℕ) (frame : Frame) (old said : List ℕ) (answered : Result (Result Child Breach) NoMemory) (stands : Stands)
    → ComesOf (Ok (Some frame)) taken piece reader new → IfOk answered (Answers child frame old said) → IsOkAnd answered (StandsBy stands)
    → Hears (child.local, (stands_at child, reader)) old (take taken piece) said stands
hears_answered child reader piece new taken frame old said (Ok answer) stands comes answers is = hears_whole child reader piece new taken frame old said answer stands comes answers is
hears_answered child reader piece new taken frame old said (Err fault) stands comes answers is = absurd is

-- a bad byte ends it
pub hears_fault : (child : Stand) (said piece new : List ℕ) (taken place : ℕ) (kind : BadKind) → found_in child.1.1 ≡ founds.Begun
    → ComesOf (Err (faults.Bad place kind)) taken piece child.1.1 new → Hears child said (take taken piece) said (stand.Over (Bad place kind))
hears_fault child said piece new taken place kind starts comes = (tt, (hears_bad child.0 said child.1.0 child.1.1 piece taken new place kind starts comes).0)

-- some of it was taken
pub takes_some : (answer : Result (Option Frame) ReadFault) (taken : ℕ) (piece old new : List ℕ) → ComesOf answer taken piece old new → found_in old ≡ founds.Begun
    → 0 < length piece → (answer ≡ Err faults.Memory → ⊥) → 0 < taken
takes_some (Ok (Some frame)) taken piece old new comes starts some other = comes.some
takes_some (Ok None) taken piece old new comes starts some other = omega (arith, comes.0, some)
takes_some (Err (faults.Bad place kind)) taken piece old new (inl answers) starts some other = answers.some
takes_some (Err (faults.Bad place kind)) taken piece old new (inr none) starts some other = absurd (let e : founds.Begun ≡ founds.Bad place kind = sym starts ∙ none.1.0 in cc)
takes_some (Err faults.Memory) taken piece old new comes starts some other = absurd (other refl)

-- ---- piece by piece

-- so far it has said this, and the rest of the bytes is still to be heard
pub record HearsOn (child : Stand) (bytes said : List ℕ) (stands : Stands) (rest : List ℕ) : Type 0 where
  pub of_local : IsOf child.0 stands
  pub same : after child.0 (open_session [] child.1) bytes ≡ after child.0 (shown_session said stands) rest

pub hears_first : (conversation : Conversation) (bytes said : List ℕ) → said ≡ [] → HearsOn (stand_of conversation) bytes said (stand.Open conversation) bytes
hears_first conversation bytes said none = record {
  of_local = refl;
  same = ap (λ (w : List ℕ). after (stand_of conversation).0 (open_session w (stand_of conversation).1) bytes) (sym none);
}

pub hears_next : (child : Stand) (bytes old new : List ℕ) (talker : Conversation) (next : Stands) (rest : List ℕ) (taken : ℕ)
    → HearsOn child bytes old (stand.Open talker) rest → taken ≤ length rest → Hears (stand_of talker) old (take taken rest) new next
    → HearsOn child bytes new next (take (length rest - taken) (drop taken rest))
hears_next child bytes old new talker next rest taken on within hears = record {
  of_local = subst (λ (l : Local). IsOf l next) on.of_local hears.0;
  same = on.same ∙ hears_rest child.0 (open_session old (stand_of talker).1) rest taken within
      ∙ ap (λ (s : Session). after child.0 s (take (length rest - taken) (drop taken rest)))
      (ap (λ (l : Local). after l (open_session old (stand_of talker).1) (take taken rest)) (sym on.of_local) ∙ hears.1);
}

pub hears_over : (child : Stand) (bytes said : List ℕ) (breach : Breach) (rest : List ℕ) → HearsOn child bytes said (stand.Over breach) rest
    → Hears child [] bytes said (stand.Over breach)
hears_over child bytes said breach rest on = (tt, on.same ∙ after_breach child.0 said breach rest)

pub hears_end : (child : Stand) (bytes said : List ℕ) (stands : Stands) (rest : List ℕ) → HearsOn child bytes said stands rest → true ≡ (length rest == 0) → Hears child [] bytes said stands
unfolding after
hears_end child bytes said stands rest on none = (on.of_local, on.same ∙ ap (λ (b : List ℕ). after child.0 (shown_session said stands) b) (nil_from_length rest (eqb-true (length rest) 0 (sym none))))
