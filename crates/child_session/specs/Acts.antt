-- What a round comes to: the requests of the child with their replies, in order, and the turn that ended it. It is a
-- function of what the child says, of what it is shown, of how often it may ask, and of how its creations are answered.
-- All else that is known of a round is a function of that list.
use Rattle.std.specs.Prelude.{ℕ, zero, suc, Bool, false, List, [], ◌∷◌, ◌++◌, map, filter, filter_map, Result, Ok, Err}
use Rattle.std.specs.List.{flat_map, list_any}
use Rattle.std.specs.FinMap as fin
use Rattle.apt_base.specs.declared.kinds.Claim.{Claim}
use Rattle.apt_base.specs.Names.{with_names, names_in}
use Rattle.wire_frames.specs.declared.frame.Creation.{Creation}
use Rattle.wire_frames.specs.declared.frame.Message.{Message}
use Rattle.wire_frames.specs.declared.question.Question.{Question}
use Rattle.apt_filer.specs.Filing.{Taken}
use Rattle.apt_filer.specs.Origins.{file_origin, message_origin, is_unit}
use Rattle.child_session.specs.declared.fault.SessionFault.{SessionFault}
use Rattle.child_session.specs.declared.fault.SessionFault.TheVariants as fault
use Rattle.child_session.specs.declared.request.Request.{Request}
use Rattle.child_session.specs.declared.request.Turn.{Turn}
use Rattle.child_session.specs.declared.request.Turn.TheVariants.{Ends, Differs, Asks, Leaves}
use Rattle.child_session.specs.declared.round.Answer.{Answer}
use Rattle.child_session.specs.Talk.{Stream, answer_to}
use Rattle.child_session.specs.Requests.{turn_at}
use Rattle.child_session.specs.Replies.{Shown, round_frame, Accepting, Exchange, exchange_of, reply_frame, taken_after, file_in, message_in, question_in, is_refused}
use Rattle.named_units.specs.Named.{names_of, is_wide, gathers}

-- the last turn is no request, or the one that was one too many
pub record Act : Type 0 where
  pub exchanges : List Exchange
  pub last : Turn

abbrev pub ends_with : Turn → Act
ends_with turn = record { exchanges = []; last = turn }

-- with these exchanges in front
abbrev pub behind : List Exchange → Act → Act
behind done act = record { exchanges = done ++ act.exchanges; last = act.last }

-- go says what comes of a request
abbrev pub after_turn : Turn → (Request → Act) → Act
after_turn (Ends claimed) go = ends_with (Ends claimed)
after_turn (Differs said) go = ends_with (Differs said)
after_turn (Asks request) go = go request
after_turn (Leaves breach) go = ends_with (Leaves breach)

-- a request was answered, and go says what comes of what the child was sent then, and of what is taken then
abbrev pub go_on : (List (List ℕ) → Taken → Act) → List (List ℕ) → Taken → Exchange → Act
go_on go sent taken exchange = behind (exchange ∷ []) (go (sent ++ reply_frame exchange ∷ []) (taken_after taken exchange))

-- the rest of a round, where the child was sent these frames, this is taken, and it may ask this many times more
unfoldable pub act_from : Stream → Accepting → Shown → Claim → ℕ → List (List ℕ) → Taken → Act
act_from stream accepting shown declared zero sent taken = ends_with (turn_at declared (answer_to stream sent))
act_from stream accepting shown declared (suc left) sent taken =
    after_turn (turn_at declared (answer_to stream sent))
    (λ request. go_on (act_from stream accepting shown declared left) sent taken (exchange_of accepting shown taken request))

-- a round that is shown to a child which was sent these frames before
abbrev pub act_of : Stream → Accepting → Shown → Claim → ℕ → List (List ℕ) → Taken → Act
act_of stream accepting shown declared limit sent taken =
    act_from stream accepting shown declared limit (sent ++ round_frame shown.env ∷ []) taken

-- ---- what is known of a round

-- the frames that the child is sent in it
abbrev pub frames_of : Shown → List Exchange → List (List ℕ)
frames_of shown exchanges = round_frame shown.env ∷ map reply_frame exchanges

-- the files that were accepted, in order
abbrev pub files : List Exchange → List Creation
files exchanges = filter_map file_in exchanges

-- the messages, in order
abbrev pub messages : List Exchange → List Message
messages exchanges = filter_map message_in exchanges

-- the questions, in order, whatever was replied
abbrev pub questions : List Exchange → List Question
questions exchanges = filter_map question_in exchanges

-- the units that questions named, each once and ascending
unfoldable pub asked : Shown → List Exchange → List (List ℕ)
asked shown exchanges = names_in (with_names fin.empty (flat_map (names_of shown.table) (questions exchanges)))

-- ---- what a call gives of it

-- Of the files it says nothing: they are the last that the filer has.
abbrev pub answer_by : Shown → List Exchange → Bool → Answer
answer_by shown exchanges claimed = record {
  messages = messages exchanges;
  claimed = claimed;
  refused = list_any is_refused exchanges;
  asked = asked shown exchanges;
  wide = list_any is_wide (questions exchanges);
  gathered = list_any (gathers shown.env.offered) (questions exchanges);
}

-- what the last turn comes to; a request is one too many there
abbrev pub end_of : Claim → ℕ → Turn → Answer → Result Answer SessionFault
end_of declared limit (Ends claimed) answer = Ok answer
end_of declared limit (Differs said) answer = Err (fault.ClaimBroken declared said)
end_of declared limit (Asks request) answer = Err (fault.TooManyQuestions limit)
end_of declared limit (Leaves breach) answer = Err (fault.Breach breach)

abbrev pub claimed_by : Turn → Bool
claimed_by (Ends claimed) = claimed
claimed_by turn = false

unfoldable pub outcome : Shown → Claim → ℕ → Act → Result Answer SessionFault
outcome shown declared limit act =
    end_of declared limit act.last (answer_by shown act.exchanges (claimed_by act.last))

-- ---- parts by origin

abbrev pub files_from : List ℕ → List Exchange → List Creation
files_from unit exchanges = filter (λ creation. is_unit unit (file_origin creation)) (files exchanges)

abbrev pub messages_from : List ℕ → List Exchange → List Message
messages_from unit exchanges = filter (λ message. is_unit unit (message_origin message)) (messages exchanges)
