-- What a session comes to over the rounds that its child is shown, one after another: what an isolating and an aggregating
-- processor are is said by it.
use Rattle.std.specs.Prelude.{ℕ, List, [], ◌∷◌, ◌++◌, Option, None, Some, option_map, option_and_then, Result, Ok, Err}
use Rattle.apt_base.specs.declared.kinds.Claim.{Claim}
use Rattle.apt_filer.specs.Filing.{taken_at_first}
use Rattle.frame_breaches.specs.declared.breach.Breach.{Breach}
use Rattle.wire_frames.specs.declared.frame.Hello.{Hello}
use Rattle.child_session.specs.declared.request.Turn.{Turn}
use Rattle.child_session.specs.declared.request.Turn.TheVariants.{Ends}
use Rattle.child_session.specs.Beginning.{hello_in}
use Rattle.child_session.specs.Talk.{Stream, answer_to}
use Rattle.child_session.specs.Replies.{Shown, always}
use Rattle.child_session.specs.Acts.{Act, act_of, frames_of}

-- how often a child may ask in a round that is shown so
abbrev pub Limits : Type 0
Limits = Shown → ℕ

-- how far a session of the free talk has come: what its processor declared of its claims, and the frames that were sent
pub record Begun : Type 0 where
  pub claim : Claim
  pub sent : List (List ℕ)

-- its first frame is answered by a Hello
abbrev pub begun_by : List ℕ → Result Hello Breach → Option Begun
begun_by init (Ok hello) = Some (record { claim = hello.claim; sent = init ∷ [] })
begun_by init (Err breach) = None

-- A round of the free talk, in which each creation whose elements are there is accepted, whatever it is.
abbrev pub free_act : Stream → Limits → Claim → Shown → List (List ℕ) → Act
free_act stream limits declared shown sent =
    act_of stream always shown declared (limits shown) sent (taken_at_first [])

-- it goes on where the round ended as it should
abbrev pub if_done : Begun → Turn → List (List ℕ) → Option Begun
if_done begun (Ends claimed) sent = Some (record { claim = begun.claim; sent = sent })
if_done begun other sent = None

abbrev pub after_round : Begun → Shown → Act → Option Begun
after_round begun shown act = if_done begun act.last (begun.sent ++ frames_of shown act.exchanges)

-- A session of the free talk whose child was sent this first frame and was shown these rounds, the last one first; none where
-- the child said no Hello, or where one of the rounds did not end as it should.
unfoldable pub free_session : Stream → Limits → List ℕ → List Shown → Option Begun
free_session stream limits init [] = begun_by init (hello_in (answer_to stream (init ∷ [])))
free_session stream limits init (shown ∷ earlier) =
    option_and_then (λ begun. after_round begun shown (free_act stream limits begun.claim shown begun.sent))
    (free_session stream limits init earlier)

-- what a round of the free talk comes to, behind these
unfoldable pub free_act_behind : Stream → Limits → List ℕ → Shown → List Shown → Option Act
free_act_behind stream limits init shown earlier =
    option_map (λ begun. free_act stream limits begun.claim shown begun.sent) (free_session stream limits init earlier)
