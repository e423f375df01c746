-- What a child is shown of a round, and what the host replies to each of its requests: a function of what is shown, of the
-- request, and of what was created before.
use Rattle.std.specs.Prelude.{ℕ, Bool, true, false, List, [], ◌∷◌, Option, None, Some}
use Rattle.element_table.specs.TypeTable.{TypeTable}
use Rattle.round_env.specs.declared.environment.RoundEnv.{RoundEnv}
use Rattle.wire_frames.specs.declared.frame.Creation.{Creation}
use Rattle.wire_frames.specs.declared.frame.Frame.TheVariants as frame
use Rattle.wire_frames.specs.declared.frame.Message.{Message}
use Rattle.wire_frames.specs.declared.question.Question.{Question}
use Rattle.wire_frames.specs.declared.reply.Created.{Created}
use Rattle.wire_frames.specs.declared.reply.Created.TheVariants as created
use Rattle.wire_frames.specs.declared.reply.Refused.TheVariants as refused
use Rattle.wire_frames.specs.declared.reply.Reply.{Reply}
use Rattle.wire_frames.specs.declared.reply.Reply.TheVariants as reply
use Rattle.wire_frames.specs.Frames.{spelling}
use Rattle.child_answers.specs.NamedElements.{creation_elements, message_elements, are_all_there}
use Rattle.child_answers.specs.Replies.{reply_of}
use Rattle.apt_filer.specs.Filing.{Taken, Filings, answer_to, item_of, with_item, with_file}
use Rattle.child_session.specs.declared.request.Request.{Request}
use Rattle.child_session.specs.declared.request.Request.TheVariants.{Ask, Create, Print}

-- ---- what is shown

-- the table of the round, and its number, flags, offered names and roots
pub record Shown : Type 0 where
  pub table : TypeTable
  pub env : RoundEnv

abbrev pub shown_of : TypeTable → RoundEnv → Shown
shown_of table env = record { table = table; env = env }

-- the frame that begins it
abbrev pub round_frame : RoundEnv → List ℕ
round_frame env = spelling (frame.Round env.number env.over env.error env.offered env.roots)

-- ---- how creations are answered

-- by what is taken
abbrev pub Accepting : Type 0
Accepting = Taken → Creation → Created

-- by the filer's tests
abbrev pub by_tests : Accepting
by_tests taken creation = answer_to taken creation

-- whatever it is
abbrev pub always : Accepting
always taken creation = created.Accepted

-- ---- the reply

-- where an element that is named is not there, nothing is done
abbrev pub unless_absent : Bool → Reply → Reply
unless_absent true answer = answer
unless_absent false answer = reply.Refused refused.NoSuch

abbrev pub creation_reply : Accepting → TypeTable → Taken → Creation → Reply
creation_reply accepting table taken creation =
    unless_absent (are_all_there table (creation_elements creation)) (reply.Created (accepting taken creation))

abbrev pub message_reply : TypeTable → Message → Reply
message_reply table message = unless_absent (are_all_there table (message_elements message)) reply.Noted

unfoldable pub reply_to : Accepting → Shown → Taken → Request → Reply
reply_to accepting shown taken (Ask question) = reply_of shown.table shown.env.roots question
reply_to accepting shown taken (Create creation) = creation_reply accepting shown.table taken creation
reply_to accepting shown taken (Print message) = message_reply shown.table message

-- ---- a request with its reply

pub record Exchange : Type 0 where
  pub request : Request
  pub reply : Reply

abbrev pub exchange_of : Accepting → Shown → Taken → Request → Exchange
exchange_of accepting shown taken request = record { request = request; reply = reply_to accepting shown taken request }

-- the frame that is sent
abbrev pub reply_frame : Exchange → List ℕ
reply_frame exchange = spelling (frame.Reply exchange.reply)

-- the file that was accepted
abbrev pub file_by : Request → Reply → Option Creation
file_by (Create creation) (reply.Created created.Accepted) = Some creation
file_by request answer = None

abbrev pub file_in : Exchange → Option Creation
file_in exchange = file_by exchange.request exchange.reply

-- a file was not accepted; where an element is absent it was not asked for
abbrev pub is_refusal : Reply → Bool
is_refusal (reply.Created created.Accepted) = false
is_refusal (reply.Created answer) = true
is_refusal answer = false

abbrev pub refused_by : Request → Reply → Bool
refused_by (Create creation) answer = is_refusal answer
refused_by request answer = false

abbrev pub is_refused : Exchange → Bool
is_refused exchange = refused_by exchange.request exchange.reply

-- the message that was noted
abbrev pub message_by : Request → Reply → Option Message
message_by (Print message) reply.Noted = Some message
message_by request answer = None

abbrev pub message_in : Exchange → Option Message
message_in exchange = message_by exchange.request exchange.reply

-- the question, whatever the reply
abbrev pub question_by : Request → Option Question
question_by (Ask question) = Some question
question_by request = None

abbrev pub question_in : Exchange → Option Question
question_in exchange = question_by exchange.request

-- ---- what it leaves

abbrev pub taken_with : Taken → Option Creation → Taken
taken_with taken None = taken
taken_with taken (Some creation) = with_item taken (item_of creation)

abbrev pub taken_after : Taken → Exchange → Taken
taken_after taken exchange = taken_with taken (file_in exchange)

abbrev pub filed_with : Filings → Option Creation → Filings
filed_with filings None = filings
filed_with filings (Some creation) = with_file filings creation

abbrev pub filed_after : Filings → Exchange → Filings
filed_after filings exchange = filed_with filings (file_in exchange)

abbrev pub filed_all : Filings → List Exchange → Filings
filed_all filings [] = filings
filed_all filings (exchange ∷ others) = filed_all (filed_after filings exchange) others
