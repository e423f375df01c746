-- The exchanges of a plan in a round in which each creation is accepted.
use Rattle.std.proofs.Common.{◌≡◌, ℕ, zero, suc, ◌+◌, ◌*◌, ◌≤◌, Bool, true, false, ◌||◌, nat_lt, List, [], ◌∷◌, ◌++◌, length, refl, ap, ◌∙◌, length-append, if◌then◌else◌, arith}
use Rattle.std.specs.List.{flat_map}
use Rattle.std.specs.Int.{w32, to_be_bytes}
use Rattle.std.proofs.lemmas.Bool.Decides.{nat_tests}
use Rattle.apt_base.specs.declared.element.ElementRef.{ElementRef}
use Rattle.frame_forms.specs.FrameTable.{frame_form}
use Rattle.frame_forms.specs.Frames.{spelled, most_fields}
use Rattle.wire_frames.specs.declared.frame.Frame.{Frame}
use Rattle.wire_frames.specs.declared.frame.Frame.TheVariants as frame
use Rattle.wire_frames.specs.declared.question.Question.{Question}
use Rattle.wire_frames.specs.declared.question.Question.TheVariants as questions
use Rattle.wire_frames.specs.declared.reply.Created.TheVariants as created
use Rattle.wire_frames.specs.declared.reply.Refused.TheVariants as refused
use Rattle.wire_frames.specs.declared.reply.Reply.{Reply}
use Rattle.wire_frames.specs.declared.reply.Reply.TheVariants as reply
use Rattle.wire_frames.specs.Frames.{shown, spelling, IsInTable}
use Rattle.wire_frames.specs.Limits.{is_too_deep, is_too_long, is_too_large}
use Rattle.wire_frames.specs.Spellings.{fields_spelled}
use Rattle.frame_stream.specs.Streams.{most_bytes}
use Rattle.child_questions.specs.NamedElements.{creation_elements, message_elements, are_all_there}
use Rattle.child_answers.specs.Replies.{reply_of, reply_by, judged_answer, unless_too_large}
use Rattle.apt_filer.specs.Filing.{Taken, taken_at_first}
use Rattle.child_session.specs.declared.request.Request.{Request}
use Rattle.child_session.specs.declared.request.Request.TheVariants.{Ask, Create, Print}
use Rattle.child_session.specs.Replies.{Shown, always, unless_absent, reply_to, Exchange, exchange_of}
use Rattle.local_procs.specs.Plans.{Plan, Ends, Sends, then_, each_of, nothing}
use Rattle.local_procs.specs.Kinds.{IsShort}
use Rattle.local_kinds.specs.Rounds.{IsSendable, IsRound}

-- ---- sizes

or_left : (a b : Bool) → (a || b) ≡ false → a ≡ false
or_left false b e = refl
or_left true b e = e

or_right : (a b : Bool) → (a || b) ≡ false → b ≡ false
or_right false b e = e
or_right true b e = absurd cc

within : (n : ℕ) → nat_lt most_fields n ≡ false → n ≤ most_fields
within n h = grind (arith, h, nat_tests)

-- a frame that is not too large, by the bytes of its fields
pub fields_short : (frame : Frame) → is_too_large frame ≡ false → length (spelled frame_form (shown frame)) ≤ most_fields
unfolding is_too_large fields_spelled
fields_short frame small = within (length (fields_spelled (shown frame))) (or_right (is_too_deep frame) (is_too_long frame) small)

pub small_short : (frame : Frame) → is_too_large frame ≡ false → length (spelling frame) ≤ most_bytes
unfolding spelling
small_short frame small =
    let fields = spelled frame_form (shown frame) in
    omega (arith, fields_short frame small, length-append (to_be_bytes w32 (length fields)) fields)

-- ---- replies

nothing_fits : IsInTable (frame.Reply nothing)
unfolding IsInTable
nothing_fits = (refl, refl)

accepted_fits : IsInTable (frame.Reply (reply.Created created.Accepted))
unfolding IsInTable
accepted_fits = (refl, refl)

absent_fits : IsInTable (frame.Reply (reply.Refused refused.NoSuch))
unfolding IsInTable
absent_fits = (refl, refl)

noted_fits : IsInTable (frame.Reply reply.Noted)
unfolding IsInTable
noted_fits = (refl, tt)

short_fields : (f : Frame) → length (spelled frame_form (shown f)) ≤ 2 → length (spelling f) ≤ most_bytes
unfolding spelling
short_fields f few =
    let fields = spelled frame_form (shown f) in
    omega (arith, few, length-append (to_be_bytes w32 (length fields)) fields)

pub nothing_sendable : IsSendable (frame.Reply nothing)
nothing_sendable = record { fits = nothing_fits; short = short_fields (frame.Reply nothing) (omega arith) }

accepted_sendable : IsSendable (frame.Reply (reply.Created created.Accepted))
accepted_sendable = record { fits = accepted_fits; short = short_fields (frame.Reply (reply.Created created.Accepted)) (omega arith) }

absent_sendable : IsSendable (frame.Reply (reply.Refused refused.NoSuch))
absent_sendable = record { fits = absent_fits; short = short_fields (frame.Reply (reply.Refused refused.NoSuch)) (omega arith) }

noted_sendable : IsSendable (frame.Reply reply.Noted)
noted_sendable = record { fits = noted_fits; short = short_fields (frame.Reply reply.Noted) (omega arith) }

unless_sendable : (there : Bool) (answer : Reply) → IsSendable (frame.Reply answer) → IsSendable (frame.Reply (unless_absent there answer))
unless_sendable true answer is = is
unless_sendable false answer is = absent_sendable

fitting_short : (answer : Reply) → length (spelling (frame.Reply (unless_too_large answer))) ≤ most_bytes
fitting_short answer = by_size (is_too_large (frame.Reply answer)) refl
  where
    by_size : (b : Bool) → is_too_large (frame.Reply answer) ≡ b → length (spelling (frame.Reply (unless_too_large answer))) ≤ most_bytes
    by_size true is = rw is nothing_sendable.short
    by_size false is = rw is (small_short (frame.Reply answer) is)

reply_short : (shown : Shown) (question : Question) → length (spelling (frame.Reply (reply_of shown.table shown.env.roots question))) ≤ most_bytes
unfolding reply_of
reply_short shown question = fitting_short (reply_by (judged_answer shown.table shown.env.roots question))

-- ---- exchanges

-- the request that a frame is; no other frame stands in a plan
abbrev pub request_of : Frame → Request
request_of (frame.Create creation) = Create creation
request_of (frame.Message message) = Print message
request_of (frame.Ask question) = Ask question
request_of other = Ask questions.Roots

abbrev pub IsRequest : Frame → Type 0
IsRequest (frame.Create creation) = Unit {0}
IsRequest (frame.Message message) = Unit {0}
IsRequest (frame.Ask question) = Unit {0}
IsRequest other = ⊥

-- whatever is taken, the answer is the same
abbrev pub exchange_by : Shown → Frame → Exchange
exchange_by shown f = exchange_of always shown (taken_at_first []) (request_of f)

abbrev pub reply_by_host : Shown → Frame → Reply
reply_by_host shown f = reply_to always shown (taken_at_first []) (request_of f)

unfoldable pub exchanges_by : Shown → Plan → List Exchange
exchanges_by shown (Ends kept) = []
exchanges_by shown (Sends f go) = if is_too_large f then exchanges_by shown (go nothing) else exchange_by shown f ∷ exchanges_by shown (go (reply_by_host shown f))

pub whatever_taken : (shown : Shown) (taken other : Taken) (request : Request) → exchange_of always shown taken request ≡ exchange_of always shown other request
unfolding reply_to
whatever_taken shown taken other (Ask question) = refl
whatever_taken shown taken other (Create creation) = refl
whatever_taken shown taken other (Print message) = refl

-- the reply to a frame is a frame
pub reply_sendable : (shown : Shown) → IsRound shown → (f : Frame) → IsRequest f → IsInTable f → IsSendable (frame.Reply (reply_by_host shown f))
unfolding reply_to
reply_sendable shown round (frame.Ask question) is fits = record { fits = round.replies question fits; short = reply_short shown question }
reply_sendable shown round (frame.Create creation) is fits =
    unless_sendable (are_all_there shown.table (creation_elements creation)) (reply.Created created.Accepted) accepted_sendable
reply_sendable shown round (frame.Message message) is fits = unless_sendable (are_all_there shown.table (message_elements message)) reply.Noted noted_sendable
reply_sendable shown round (frame.Init init) is fits = absurd is
reply_sendable shown round (frame.Round number over error offered roots) is fits = absurd is
reply_sendable shown round (frame.Reply answer) is fits = absurd is
reply_sendable shown round (frame.Hello hello) is fits = absurd is
reply_sendable shown round (frame.Done claimed) is fits = absurd is

-- ---- of one frame

module _ (shown : Shown) (f : Frame) (go : Reply → Plan) where
  pub exchanges_large : is_too_large f ≡ true → exchanges_by shown (Sends f go) ≡ exchanges_by shown (go nothing)
  unfolding exchanges_by
  exchanges_large large = rw large refl

  pub exchanges_small : is_too_large f ≡ false → exchanges_by shown (Sends f go) ≡ exchange_by shown f ∷ exchanges_by shown (go (reply_by_host shown f))
  unfolding exchanges_by
  exchanges_small small = rw small refl

-- ---- one plan and then another

pub exchanges_then : (shown : Shown) (plan next : Plan) → exchanges_by shown (then_ plan next) ≡ exchanges_by shown plan ++ exchanges_by shown next
unfolding exchanges_by
exchanges_then shown (Ends kept) next = refl
exchanges_then shown (Sends f go) next =
    by_size (exchanges_then shown (go nothing) next) (exchanges_then shown (go (reply_by_host shown f)) next) (is_too_large f) refl
  where
    by_size : exchanges_by shown (then_ (go nothing) next) ≡ exchanges_by shown (go nothing) ++ exchanges_by shown next
        → exchanges_by shown (then_ (go (reply_by_host shown f)) next) ≡ exchanges_by shown (go (reply_by_host shown f)) ++ exchanges_by shown next
        → (b : Bool) → is_too_large f ≡ b → exchanges_by shown (then_ (Sends f go) next) ≡ exchanges_by shown (Sends f go) ++ exchanges_by shown next
    by_size large small true is = rw is large
    by_size large small false is = rw is (ap (λ rest. exchange_by shown f ∷ rest) small)

pub exchanges_each : (shown : Shown) (plan : ElementRef → Plan) (elements : List ElementRef)
    → exchanges_by shown (each_of plan elements) ≡ flat_map (λ at. exchanges_by shown (plan at)) elements
unfolding exchanges_by each_of
exchanges_each shown plan [] = refl
exchanges_each shown plan (at ∷ others) = exchanges_then shown (plan at) (each_of plan others) ∙ ap (λ rest. exchanges_by shown (plan at) ++ rest) (exchanges_each shown plan others)

-- ---- how many

pub few_exchanges : (shown : Shown) (plan : Plan) (n : ℕ) → IsShort n plan → length (exchanges_by shown plan) ≤ n
unfolding exchanges_by IsShort
few_exchanges shown (Ends kept) n short = omega arith
few_exchanges shown (Sends f go) zero short = absurd short
few_exchanges shown (Sends f go) (suc n) short =
    by_size (few_exchanges shown (go nothing) n (short nothing)) (few_exchanges shown (go (reply_by_host shown f)) n (short (reply_by_host shown f))) (is_too_large f) refl
  where
    by_size : length (exchanges_by shown (go nothing)) ≤ n → length (exchanges_by shown (go (reply_by_host shown f))) ≤ n
        → (b : Bool) → is_too_large f ≡ b → length (exchanges_by shown (Sends f go)) ≤ suc n
    by_size large small true is = rw is (omega (arith, large))
    by_size large small false is = rw is (omega (arith, small))

pub few_in_all : {A : Type 0} (most : ℕ) (f : A → List Exchange) → ((x : A) → length (f x) ≤ most) → (xs : List A) → length (flat_map f xs) ≤ most * length xs
few_in_all most f short [] = omega arith
few_in_all most f short (x ∷ xs) =
    let all = length-append (f x) (flat_map f xs) in
    let one = short x in
    let rest = few_in_all most f short xs in
    let more : most * suc (length xs) ≡ most * length xs + most = omega arith in
    omega (arith, all, one, rest, more)
