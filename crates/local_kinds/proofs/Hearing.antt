-- A child with one of the processors answers frame by frame.
use Rattle.std.proofs.Common.{◌≡◌, ℕ, ◌+◌, ◌-◌, List, [], ◌∷◌, ◌++◌, length, map, Ok, refl, sym, ap, ◌∙◌, length-append, append_assoc, append-nil, arith}
use Rattle.std.specs.List.{flat_map}
use Rattle.std.proofs.lemmas.List.{length-map, map-append}
use Rattle.wire_frames.specs.declared.frame.Frame.{Frame}
use Rattle.wire_frames.specs.Frames.{spelling}
use Rattle.frame_breaches.specs.Breaches.{front_behind, frame_in}
use Rattle.child_session.specs.Talk.{Stream, answer_to}
use Rattle.local_procs.specs.declared.local.Local.{Local}
use Rattle.local_procs.specs.Says.{At, Unbegun, step}
use Rattle.local_children.specs.Streams.{said_with, said}
use Rattle.local_kinds.specs.Streams.{AnswersInTurn}
use Rattle.local_kinds.specs.Rounds.{IsSendable}
use Rattle.local_kinds.proofs.FramesRead.{AreSendable, last_read}

-- The child was sent these frames and answered each by a frame, and it stands so then.
pub record Heard (local : Local) (sent : List (List ℕ)) (at : At) : Type 0 where
  pub frames : List Frame
  pub answers : List Frame
  pub sent_is : sent ≡ map spelling frames
  pub sendable : AreSendable frames
  pub answered : AreSendable answers
  pub many : length answers ≡ length frames
  pub says_so : (more : List Frame) → said local Unbegun (frames ++ more) ≡ answers ++ said local at more

pub nothing_heard : (local : Local) → Heard local [] Unbegun
nothing_heard local = record { frames = []; answers = []; sent_is = refl; sendable = tt; answered = tt; many = refl; says_so = λ more. refl }

one_more : (frames : List Frame) (frame : Frame) → AreSendable frames → IsSendable frame → AreSendable (frames ++ frame ∷ [])
one_more [] frame all is = (is, tt)
one_more (first ∷ frames) frame all is = (all.0, one_more frames frame all.1 is)

-- one frame more, and the answer to it
module _ (local : Local) (sent : List (List ℕ)) (at : At) (heard : Heard local sent at) (frame answer : Frame) (next : At) (steps : step local at frame ≡ Ok (answer, next))
    (sendable : IsSendable frame) (answered : IsSendable answer) where
  abbrev frames : List Frame
  frames = heard.frames ++ frame ∷ []

  abbrev answers : List Frame
  answers = heard.answers ++ answer ∷ []

  now_says : (more : List Frame) → said local Unbegun (frames ++ more) ≡ answers ++ said local next more
  unfolding said
  now_says more =
      ap (said local Unbegun) (append_assoc heard.frames (frame ∷ []) more) ∙ heard.says_so (frame ∷ more)
      ∙ ap (λ r. heard.answers ++ said_with (λ place. said local place more) r) steps ∙ sym (append_assoc heard.answers (answer ∷ []) (said local next more))

  sent_now : sent ++ spelling frame ∷ [] ≡ map spelling frames
  sent_now = ap (λ s. s ++ spelling frame ∷ []) heard.sent_is ∙ sym (map-append spelling heard.frames (frame ∷ []))

  pub heard_next : Heard local (sent ++ spelling frame ∷ []) next
  heard_next = record {
    frames = frames;
    answers = answers;
    sent_is = sent_now;
    sendable = one_more heard.frames frame heard.sendable sendable;
    answered = one_more heard.answers answer heard.answered answered;
    many = omega (arith, heard.many, length-append heard.frames (frame ∷ []), length-append heard.answers (answer ∷ []));
    says_so = now_says;
  }

  none_more : (at : At) → said local at [] ≡ []
  unfolding said
  none_more at = refl

  all_said : said local Unbegun frames ≡ answers
  all_said =
      ap (said local Unbegun) (sym (append-nil frames)) ∙ now_says [] ∙ ap (λ rest. answers ++ rest) (none_more next)
      ∙ append-nil answers

  stream_is : (stream : Stream) → AnswersInTurn local stream → stream (sent ++ spelling frame ∷ []) ≡ flat_map spelling answers
  stream_is stream in_turn = ap stream sent_now ∙ in_turn frames (one_more heard.frames frame heard.sendable sendable) ∙ ap (flat_map spelling) all_said

  count : length (sent ++ spelling frame ∷ []) - 1 ≡ length heard.answers
  count = omega (arith, heard.many, length-append sent (spelling frame ∷ []), ap length heard.sent_is, length-map heard.frames spelling)

  pub answer_is : (stream : Stream) → AnswersInTurn local stream → answer_to stream (sent ++ spelling frame ∷ []) ≡ Ok answer
  answer_is stream in_turn =
      ap (λ n. frame_in (front_behind n (stream (sent ++ spelling frame ∷ [])))) count
      ∙ ap (λ bytes. frame_in (front_behind (length heard.answers) bytes)) (stream_is stream in_turn) ∙ ap frame_in (last_read heard.answers answer heard.answered answered)
