-- What is noted of one exchange more.
use Rattle.std.proofs.Common.{◌≡◌, ℕ, Bool, true, false, ◌||◌, List, [], ◌∷◌, ◌++◌, filter_map, Option, None, Some, refl, ap, ◌∙◌, append-nil}
use Rattle.std.specs.List.{flat_map, list_any}
use Rattle.std.specs.Option.{option_to_list}
use Rattle.std.specs.FinMap as fin
use Rattle.std.proofs.lemmas.List.Concat.{flat_map-append}
use Rattle.std.proofs.lemmas.List.Elements.{filter_map-append}
use Rattle.std.proofs.lemmas.List.Folds.{list_any-append}
use Rattle.apt_base.specs.Names.{with_names}
use Rattle.named_units.specs.Named.{names_of, is_wide, gathers}
use Rattle.named_units.proofs.NamedUnits.{with_names-append}
use Rattle.wire_frames.specs.declared.frame.Message.{Message}
use Rattle.wire_frames.specs.declared.question.Question.{Question}
use Rattle.wire_frames.specs.declared.reply.Reply.{Reply}
use Rattle.child_session.specs.declared.request.Request.{Request}
use Rattle.child_session.specs.declared.request.Request.TheVariants.{Ask, Create, Print}
use Rattle.child_session.specs.Acts.{messages, questions, asked, answer_by}
use Rattle.child_session.specs.Notes.{noted_of, noted_with, answer_from}
use Rattle.child_session.specs.Replies.{Shown, Exchange, message_by, message_in, question_in, refused_by, is_refused}

or_false : (b : Bool) → (b || false) ≡ b
or_false true = refl
or_false false = refl

option_listed : {B : Type 0} (o : Option B) → filter_map {X = Unit {0}} (λ _. o) (tt ∷ []) ≡ option_to_list o
option_listed None = refl
option_listed (Some y) = refl

one_listed : {A B : Type 0} (h : A → Option B) (x : A) → filter_map h (x ∷ []) ≡ option_to_list (h x)
one_listed h x = option_listed (h x)

module _ (shown : Shown) (done : List Exchange) (request : Request) (reply : Reply) where
  abbrev last : Exchange
  last = record { request = request; reply = reply }

  messages_next : messages (done ++ last ∷ []) ≡ messages done ++ option_to_list (message_by request reply)
  messages_next = filter_map-append message_in done (last ∷ []) ∙ ap (λ (ms : List Message). messages done ++ ms) (one_listed message_in last)

  refused_next : list_any is_refused (done ++ last ∷ []) ≡ (list_any is_refused done || refused_by request reply)
  refused_next = list_any-append is_refused done (last ∷ []) ∙ ap (λ (b : Bool). list_any is_refused done || b) (or_false (refused_by request reply))

  questions_next : questions (done ++ last ∷ []) ≡ questions done ++ option_to_list (question_in last)
  questions_next = filter_map-append question_in done (last ∷ []) ∙ ap (λ (qs : List Question). questions done ++ qs) (one_listed question_in last)

  abbrev names_in_all : List Question → List (List ℕ)
  names_in_all qs = flat_map (names_of shown.table) qs

  asked_next : with_names fin.empty (names_in_all (questions (done ++ last ∷ []))) ≡ with_names (with_names fin.empty (names_in_all (questions done))) (names_in_all (option_to_list (question_in last)))
  asked_next =
      ap (λ (qs : List Question). with_names fin.empty (names_in_all qs)) questions_next
      ∙ ap (with_names fin.empty) (flat_map-append (names_of shown.table) (questions done) (option_to_list (question_in last)))
      ∙ with_names-append fin.empty (names_in_all (questions done)) (names_in_all (option_to_list (question_in last)))

  any_next : (test : Question → Bool) → list_any test (questions (done ++ last ∷ [])) ≡ (list_any test (questions done) || list_any test (option_to_list (question_in last)))
  any_next test = ap (list_any test) questions_next ∙ list_any-append test (questions done) (option_to_list (question_in last))

module _ (shown : Shown) (done : List Exchange) where
  noted_by-next : (request : Request) (reply : Reply) → noted_of shown (done ++ record { request = request; reply = reply } ∷ []) ≡ noted_with shown (noted_of shown done) (record { request = request; reply = reply })
  noted_by-next (Ask question) reply =
      let messages_same = messages_next shown done (Ask question) reply ∙ append-nil (messages done) in
      let refused_same = refused_next shown done (Ask question) reply ∙ or_false (list_any is_refused done) in
      let names_one : names_of shown.table question ++ [] ≡ names_of shown.table question = append-nil (names_of shown.table question) in
      let asked = asked_next shown done (Ask question) reply ∙ ap (with_names (with_names fin.empty (flat_map (names_of shown.table) (questions done)))) names_one in
      let wide = any_next shown done (Ask question) reply is_wide ∙ ap (λ (b : Bool). list_any is_wide (questions done) || b) (or_false (is_wide question)) in
      let gathered = any_next shown done (Ask question) reply (gathers shown.env.offered)
      ∙ ap (λ (b : Bool). list_any (gathers shown.env.offered) (questions done) || b) (or_false (gathers shown.env.offered question)) in
      λ i. record { messages = messages_same i; refused = refused_same i; asked = asked i; wide = wide i; gathered = gathered i }
  noted_by-next (Create creation) reply =
      let messages_same = messages_next shown done (Create creation) reply ∙ append-nil (messages done) in
      let refused = refused_next shown done (Create creation) reply in
      let asked = asked_next shown done (Create creation) reply in
      let wide = any_next shown done (Create creation) reply is_wide ∙ or_false (list_any is_wide (questions done)) in
      let gathered = any_next shown done (Create creation) reply (gathers shown.env.offered) ∙ or_false (list_any (gathers shown.env.offered) (questions done)) in
      λ i. record { messages = messages_same i; refused = refused i; asked = asked i; wide = wide i; gathered = gathered i }
  noted_by-next (Print message) reply =
      let messages_more = messages_next shown done (Print message) reply in
      let refused_same = refused_next shown done (Print message) reply ∙ or_false (list_any is_refused done) in
      let asked = asked_next shown done (Print message) reply in
      let wide = any_next shown done (Print message) reply is_wide ∙ or_false (list_any is_wide (questions done)) in
      let gathered = any_next shown done (Print message) reply (gathers shown.env.offered) ∙ or_false (list_any (gathers shown.env.offered) (questions done)) in
      λ i. record { messages = messages_more i; refused = refused_same i; asked = asked i; wide = wide i; gathered = gathered i }

  pub noted_of-next : (exchange : Exchange) → noted_of shown (done ++ exchange ∷ []) ≡ noted_with shown (noted_of shown done) exchange
  noted_of-next exchange = noted_by-next exchange.request exchange.reply

  -- the answer that is made of what was noted
  pub answer_from-noted : (claimed : Bool) → answer_from (noted_of shown done) claimed ≡ answer_by shown done claimed
  unfolding asked
  answer_from-noted claimed = refl
