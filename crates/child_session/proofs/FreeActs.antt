-- A round turn by turn beside the free one.
use Rattle.std.proofs.Common.{◌≡◌, ℕ, zero, suc, Bool, true, false, ◌&&◌, ◌||◌, List, [], ◌∷◌, ◌++◌, Option, None, Some, refl, sym, ap, ◌∙◌, subst}
use Rattle.std.specs.List.{list_any}
use Rattle.apt_base.specs.declared.kinds.Claim.{Claim}
use Rattle.apt_filer.specs.Filing.{Taken, taken_at_first}
use Rattle.apt_filer.specs.Filing as filing
use Rattle.wire_frames.specs.declared.frame.Creation.{Creation}
use Rattle.wire_frames.specs.declared.reply.Created.{Created}
use Rattle.wire_frames.specs.declared.reply.Created.TheVariants as created
use Rattle.wire_frames.specs.declared.reply.Reply.TheVariants as reply
use Rattle.child_answers.specs.NamedElements.{creation_elements, are_all_there}
use Rattle.child_session.specs.declared.request.Request.{Request}
use Rattle.child_session.specs.declared.request.Request.TheVariants.{Ask, Create, Print}
use Rattle.child_session.specs.declared.request.Turn.{Turn}
use Rattle.child_session.specs.declared.request.Turn.TheVariants.{Ends, Differs, Asks, Leaves}
use Rattle.child_session.specs.Talk.{Stream, answer_to}
use Rattle.child_session.specs.Requests.{turn_at}
use Rattle.child_session.specs.Replies.{Shown, round_frame, Accepting, by_tests, always, unless_absent, reply_to, Exchange, exchange_of, reply_frame, file_by, file_in, is_refusal, is_refused, taken_with, taken_after}
use Rattle.child_session.specs.Acts.{Act, behind, act_from, files}
use Rattle.child_session.specs.FreeLaws.{is_accepted, all_accepted, FreeActLaws, FreeActs}
use Rattle.child_session.proofs.ActsInTurn.{act_asks, act_ends}

abbrev Frames : Type 0
Frames = List (List ℕ)

and_left : (a b : Bool) → (a && b) ≡ true → a ≡ true
and_left true b e = refl
and_left false b e = e

and_right : (a b : Bool) → (a && b) ≡ true → b ≡ true
and_right true b e = e
and_right false b e = absurd cc

or_left : (a b : Bool) → (a || b) ≡ false → a ≡ false
or_left false b e = refl
or_left true b e = e

or_right : (a b : Bool) → (a || b) ≡ false → b ≡ false
or_right false b e = e
or_right true b e = absurd cc

-- ---- one exchange

abbrev accepted_in : Taken → Option Creation → Bool
accepted_in taken None = true
accepted_in taken (Some creation) = is_accepted (filing.answer_to taken creation)

accepted_is : (answer : Created) → is_accepted answer ≡ true → answer ≡ created.Accepted
accepted_is created.Accepted e = refl
accepted_is created.Exists e = absurd cc
accepted_is created.Unsupported e = absurd cc
accepted_is created.BadName e = absurd cc
accepted_is created.TooLarge e = absurd cc

unrefused_is : (answer : Created) → is_refusal (reply.Created answer) ≡ false → answer ≡ created.Accepted
unrefused_is created.Accepted e = refl
unrefused_is created.Exists e = absurd cc
unrefused_is created.Unsupported e = absurd cc
unrefused_is created.BadName e = absurd cc
unrefused_is created.TooLarge e = absurd cc

module _ (taken : Taken) (creation : Creation) where
  abbrev made_as : Bool → Created → Exchange
  made_as there answer = record { request = Create creation; reply = unless_absent there (reply.Created answer) }

  same_by_accepted : (there : Bool) → accepted_in taken (file_in (made_as there created.Accepted)) ≡ true → made_as there (filing.answer_to taken creation) ≡ made_as there created.Accepted
  same_by_accepted false e = refl
  same_by_accepted true e = ap (made_as true) (accepted_is (filing.answer_to taken creation) e)

  same_by_unrefused : (there : Bool) → is_refused (made_as there (filing.answer_to taken creation)) ≡ false → made_as there (filing.answer_to taken creation) ≡ made_as there created.Accepted
  same_by_unrefused false e = refl
  same_by_unrefused true e = ap (made_as true) (unrefused_is (filing.answer_to taken creation) e)

  free_unrefused : (there : Bool) → is_refused (made_as there created.Accepted) ≡ false
  free_unrefused false = refl
  free_unrefused true = refl

module _ (shown : Shown) (taken other : Taken) where
  abbrev real : Request → Exchange
  real request = exchange_of by_tests shown taken request

  abbrev free : Request → Exchange
  free request = exchange_of always shown other request

  same_where_accepted : (request : Request) → accepted_in taken (file_in (free request)) ≡ true → real request ≡ free request
  unfolding reply_to
  same_where_accepted (Ask question) e = refl
  same_where_accepted (Create creation) e = same_by_accepted taken creation (are_all_there shown.table (creation_elements creation)) e
  same_where_accepted (Print message) e = refl

  same_where_unrefused : (request : Request) → is_refused (real request) ≡ false → real request ≡ free request
  unfolding reply_to
  same_where_unrefused (Ask question) e = refl
  same_where_unrefused (Create creation) e = same_by_unrefused taken creation (are_all_there shown.table (creation_elements creation)) e
  same_where_unrefused (Print message) e = refl

  never_refused : (request : Request) → is_refused (free request) ≡ false
  unfolding reply_to
  never_refused (Ask question) = refl
  never_refused (Create creation) = free_unrefused taken creation (are_all_there shown.table (creation_elements creation))
  never_refused (Print message) = refl

-- ---- turn by turn

abbrev pub files_with : Option Creation → List Exchange → List Creation
files_with None others = files others
files_with (Some creation) others = creation ∷ files others

pub files_next : (exchange : Exchange) (others : List Exchange) → files (exchange ∷ others) ≡ files_with (file_in exchange) others
files_next exchange others = by (file_in exchange) refl
  where
    by : (o : Option Creation) → file_in exchange ≡ o → files (exchange ∷ others) ≡ files_with o others
    by None is = rw is refl
    by (Some creation) is = rw is refl

accepted_by : (taken : Taken) (o : Option Creation) (others : List Exchange) → all_accepted taken (files_with o others) ≡ (accepted_in taken o && all_accepted (taken_with taken o) (files others))
unfolding all_accepted
accepted_by taken None others = refl
accepted_by taken (Some creation) others = refl

accepted_next : (taken : Taken) (exchange : Exchange) (others : List Exchange) → all_accepted taken (files (exchange ∷ others)) ≡ (accepted_in taken (file_in exchange) && all_accepted (taken_after taken exchange) (files others))
accepted_next taken exchange others = ap (all_accepted taken) (files_next exchange others) ∙ accepted_by taken (file_in exchange) others

module _ (stream : Stream) (shown : Shown) (declared : Claim) where
  abbrev now : Frames → Turn
  now sent = turn_at declared (answer_to stream sent)

  abbrev from : Accepting → ℕ → Frames → Taken → Act
  from accepting left sent taken = act_from stream accepting shown declared left sent taken

  -- what comes where both exchanges are this one
  abbrev next : Accepting → ℕ → Frames → Taken → Exchange → Act
  next accepting left sent taken exchange = behind (exchange ∷ []) (from accepting left (sent ++ reply_frame exchange ∷ []) (taken_after taken exchange))

  -- a turn that ends both
  both_end : (left : ℕ) (sent : Frames) (taken other : Taken) (turn : Turn) → now sent ≡ turn → ((request : Request) → turn ≡ Asks request → left ≡ 0) → from by_tests left sent taken ≡ from always left sent other
  both_end left sent taken other turn is full = act_ends stream by_tests shown declared left sent taken turn is full ∙ sym (act_ends stream always shown declared left sent other turn is full)

  no_request : (left : ℕ) (turn : Turn) → ((request : Request) → turn ≡ Asks request → ⊥) → (request : Request) → turn ≡ Asks request → left ≡ 0
  no_request left turn other request is = absurd (other request is)

  -- ---- each file of the free one is accepted

  abbrev IsSame : ℕ → Type 0
  IsSame left = (sent : Frames) (taken other : Taken) → all_accepted taken (files (from always left sent other).exchanges) ≡ true → from by_tests left sent taken ≡ from always left sent other

  follows_step : (left : ℕ) → IsSame left → (sent : Frames) (taken other : Taken) (turn : Turn) → now sent ≡ turn → all_accepted taken (files (from always (suc left) sent other).exchanges) ≡ true
      → from by_tests (suc left) sent taken ≡ from always (suc left) sent other
  follows_step left more sent taken other (Ends claimed) is all = both_end (suc left) sent taken other (Ends claimed) is (no_request (suc left) (Ends claimed) (λ request e. cc))
  follows_step left more sent taken other (Differs said) is all = both_end (suc left) sent taken other (Differs said) is (no_request (suc left) (Differs said) (λ request e. cc))
  follows_step left more sent taken other (Leaves breach) is all = both_end (suc left) sent taken other (Leaves breach) is (no_request (suc left) (Leaves breach) (λ request e. cc))
  follows_step left more sent taken other (Asks request) is all =
      let exchange : Exchange = exchange_of always shown other request in
      let rest : Act = from always left (sent ++ reply_frame exchange ∷ []) (taken_after other exchange) in
      let free_is : from always (suc left) sent other ≡ next always left sent other exchange = act_asks stream always shown declared left sent other request is in
      let parts : (accepted_in taken (file_in exchange) && all_accepted (taken_after taken exchange) (files rest.exchanges)) ≡ true =
      sym (accepted_next taken exchange rest.exchanges) ∙ subst (λ act. all_accepted taken (files act.exchanges) ≡ true) free_is all in
      let first : accepted_in taken (file_in exchange) ≡ true = and_left (accepted_in taken (file_in exchange)) (all_accepted (taken_after taken exchange) (files rest.exchanges)) parts in
      let others : all_accepted (taken_after taken exchange) (files rest.exchanges) ≡ true = and_right (accepted_in taken (file_in exchange)) (all_accepted (taken_after taken exchange) (files rest.exchanges)) parts in
      act_asks stream by_tests shown declared left sent taken request is ∙ ap (next by_tests left sent taken) (same_where_accepted shown taken other request first)
      ∙ ap (behind (exchange ∷ [])) (more (sent ++ reply_frame exchange ∷ []) (taken_after taken exchange) (taken_after other exchange) others) ∙ sym free_is

  pub follows : (left : ℕ) → IsSame left
  follows zero sent taken other all = both_end 0 sent taken other (now sent) refl (λ request e. refl)
  follows (suc left) sent taken other all = follows_step left (follows left) sent taken other (now sent) refl all

  -- ---- no file was refused

  abbrev WasSame : ℕ → Type 0
  WasSame left = (sent : Frames) (taken other : Taken) → list_any is_refused (from by_tests left sent taken).exchanges ≡ false → from by_tests left sent taken ≡ from always left sent other

  was_free_step : (left : ℕ) → WasSame left → (sent : Frames) (taken other : Taken) (turn : Turn) → now sent ≡ turn → list_any is_refused (from by_tests (suc left) sent taken).exchanges ≡ false
      → from by_tests (suc left) sent taken ≡ from always (suc left) sent other
  was_free_step left more sent taken other (Ends claimed) is none = both_end (suc left) sent taken other (Ends claimed) is (no_request (suc left) (Ends claimed) (λ request e. cc))
  was_free_step left more sent taken other (Differs said) is none = both_end (suc left) sent taken other (Differs said) is (no_request (suc left) (Differs said) (λ request e. cc))
  was_free_step left more sent taken other (Leaves breach) is none = both_end (suc left) sent taken other (Leaves breach) is (no_request (suc left) (Leaves breach) (λ request e. cc))
  was_free_step left more sent taken other (Asks request) is none =
      let exchange : Exchange = exchange_of by_tests shown taken request in
      let rest : Act = from by_tests left (sent ++ reply_frame exchange ∷ []) (taken_after taken exchange) in
      let real_is : from by_tests (suc left) sent taken ≡ next by_tests left sent taken exchange = act_asks stream by_tests shown declared left sent taken request is in
      let parts : (is_refused exchange || list_any is_refused rest.exchanges) ≡ false = subst (λ act. list_any is_refused act.exchanges ≡ false) real_is none in
      let first : is_refused exchange ≡ false = or_left (is_refused exchange) (list_any is_refused rest.exchanges) parts in
      let others : list_any is_refused rest.exchanges ≡ false = or_right (is_refused exchange) (list_any is_refused rest.exchanges) parts in
      real_is ∙ ap (behind (exchange ∷ [])) (more (sent ++ reply_frame exchange ∷ []) (taken_after taken exchange) (taken_after other exchange) others)
      ∙ ap (next always left sent other) (same_where_unrefused shown taken other request first) ∙ sym (act_asks stream always shown declared left sent other request is)

  pub was_free : (left : ℕ) → WasSame left
  was_free zero sent taken other none = both_end 0 sent taken other (now sent) refl (λ request e. refl)
  was_free (suc left) sent taken other none = was_free_step left (was_free left) sent taken other (now sent) refl none

  -- ---- in the free one none is

  abbrev IsQuiet : ℕ → Type 0
  IsQuiet left = (sent : Frames) (other : Taken) → list_any is_refused (from always left sent other).exchanges ≡ false

  ended_quiet : (left : ℕ) (sent : Frames) (other : Taken) (turn : Turn) → now sent ≡ turn → ((request : Request) → turn ≡ Asks request → left ≡ 0) → list_any is_refused (from always left sent other).exchanges ≡ false
  ended_quiet left sent other turn is full = ap (λ (act : Act). list_any is_refused act.exchanges) (act_ends stream always shown declared left sent other turn is full)

  quiet_step : (left : ℕ) → IsQuiet left → (sent : Frames) (other : Taken) (turn : Turn) → now sent ≡ turn → list_any is_refused (from always (suc left) sent other).exchanges ≡ false
  quiet_step left more sent other (Ends claimed) is = ended_quiet (suc left) sent other (Ends claimed) is (no_request (suc left) (Ends claimed) (λ request e. cc))
  quiet_step left more sent other (Differs said) is = ended_quiet (suc left) sent other (Differs said) is (no_request (suc left) (Differs said) (λ request e. cc))
  quiet_step left more sent other (Leaves breach) is = ended_quiet (suc left) sent other (Leaves breach) is (no_request (suc left) (Leaves breach) (λ request e. cc))
  quiet_step left more sent other (Asks request) is =
      let exchange : Exchange = exchange_of always shown other request in
      ap (λ (act : Act). list_any is_refused act.exchanges) (act_asks stream always shown declared left sent other request is)
      ∙ ap (λ (b : Bool). b || list_any is_refused (from always left (sent ++ reply_frame exchange ∷ []) (taken_after other exchange)).exchanges) (never_refused shown other other request)
      ∙ more (sent ++ reply_frame exchange ∷ []) (taken_after other exchange)

  pub quiet : (left : ℕ) → IsQuiet left
  quiet zero sent other = ended_quiet 0 sent other (now sent) refl (λ request e. refl)
  quiet (suc left) sent other = quiet_step left (quiet left) sent other (now sent) refl

pub free-acts : FreeActs
free-acts stream limits declared shown sent taken = record {
  follows = follows stream shown declared (limits shown) (sent ++ round_frame shown.env ∷ []) taken (taken_at_first []);
  was_free = was_free stream shown declared (limits shown) (sent ++ round_frame shown.env ∷ []) taken (taken_at_first []);
  quiet = quiet stream shown declared (limits shown) (sent ++ round_frame shown.env ∷ []) (taken_at_first []);
}
