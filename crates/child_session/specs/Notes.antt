-- What is noted of a round while it goes on, from which its answer is made.
use Rattle.std.specs.Prelude.{Bool, false, ◌||◌, List, [], ◌++◌}
use Rattle.std.specs.List.{flat_map, list_any}
use Rattle.std.specs.Option.{option_to_list}
use Rattle.std.specs.FinMap as fin
use Rattle.apt_base.specs.Names.{with_names, names_in}
use Rattle.wire_frames.specs.declared.question.Question.{Question}
use Rattle.wire_frames.specs.declared.reply.Reply.{Reply}
use Rattle.child_session.specs.declared.noted.Noted.{Noted}
use Rattle.child_session.specs.declared.request.Request.{Request}
use Rattle.child_session.specs.declared.request.Request.TheVariants.{Ask, Create, Print}
use Rattle.child_session.specs.declared.round.Answer.{Answer}
use Rattle.child_session.specs.Acts.{messages, questions}
use Rattle.named_units.specs.Named.{names_of, is_wide, gathers}
use Rattle.child_session.specs.Replies.{Shown, Exchange, message_by, is_refusal, is_refused}

-- before the first exchange
abbrev pub nothing_noted : Noted
nothing_noted = record { messages = []; refused = false; asked = fin.empty; wide = false; gathered = false }

-- what is noted of these exchanges
abbrev pub noted_of : Shown → List Exchange → Noted
noted_of shown exchanges = record {
  messages = messages exchanges;
  refused = list_any is_refused exchanges;
  asked = with_names fin.empty (flat_map (names_of shown.table) (questions exchanges));
  wide = list_any is_wide (questions exchanges);
  gathered = list_any (gathers shown.env.offered) (questions exchanges);
}

-- ---- one exchange more

abbrev pub with_question : Shown → Noted → Question → Noted
with_question shown noted question = record {
  messages = noted.messages;
  refused = noted.refused;
  asked = with_names noted.asked (names_of shown.table question);
  wide = noted.wide || is_wide question;
  gathered = noted.gathered || gathers shown.env.offered question;
}

abbrev pub with_creation : Noted → Reply → Noted
with_creation noted reply = record {
  messages = noted.messages;
  refused = noted.refused || is_refusal reply;
  asked = noted.asked;
  wide = noted.wide;
  gathered = noted.gathered;
}

abbrev pub with_message : Noted → Request → Reply → Noted
with_message noted request reply = record {
  messages = noted.messages ++ option_to_list (message_by request reply);
  refused = noted.refused;
  asked = noted.asked;
  wide = noted.wide;
  gathered = noted.gathered;
}

abbrev pub noted_by : Shown → Noted → Request → Reply → Noted
noted_by shown noted (Ask question) reply = with_question shown noted question
noted_by shown noted (Create creation) reply = with_creation noted reply
noted_by shown noted (Print message) reply = with_message noted (Print message) reply

abbrev pub noted_with : Shown → Noted → Exchange → Noted
noted_with shown noted exchange = noted_by shown noted exchange.request exchange.reply

-- ---- the answer

abbrev pub answer_from : Noted → Bool → Answer
answer_from noted claimed = record {
  messages = noted.messages;
  claimed = claimed;
  refused = noted.refused;
  asked = names_in noted.asked;
  wide = noted.wide;
  gathered = noted.gathered;
}
