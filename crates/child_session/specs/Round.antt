-- What a call that shows a round says of it.
use Rattle.std.specs.Prelude.{◌≡◌, ◌≤◌, ◌⊎◌, ℕ, Bool, true, false, List, [], ◌∷◌, ◌++◌, length, Result, Ok, Err, IsErrOf}
use Rattle.apt_outside.specs.Child.{Says, Child, State, OfChild}
use Rattle.apt_filer.specs.Filing.{Taken, Filings}
use Rattle.element_table.specs.TypeTable.{TypeTable}
use Rattle.frame_breaches.specs.declared.breach.Breach.TheVariants as breaches
use Rattle.child_session.specs.declared.fault.SessionFault.{SessionFault}
use Rattle.child_session.specs.declared.fault.SessionFault.TheVariants.{Failed, Breach, TooManyQuestions, ClaimBroken, Memory}
use Rattle.child_session.specs.declared.request.Request.{Request}
use Rattle.child_session.specs.declared.round.Showing.{Showing}
use Rattle.child_session.specs.declared.round.Answer.{Answer}
use Rattle.child_session.specs.Talk as talk
use Rattle.child_session.specs.Talk.{Stream, HasAnswered, Exchanges, SentOrNot}
use Rattle.child_session.specs.Requests.{keeps}
use Rattle.child_session.specs.Replies.{Shown, shown_of, by_tests, Exchange, exchange_of, reply_frame, filed_after, filed_all}
use Rattle.child_session.specs.Acts.{Act, act_of, frames_of, outcome}

-- these are the first of all of them
pub record IsFront {A : Type 0} (some all : List A) : Type 0 where
  pub rest : List A
  pub is : some ++ rest ≡ all

-- these are all of them, or all but the last
abbrev pub AreAllButLast : {A : Type 0} → List A → List A → Type 0
AreAllButLast {A} some all = (some ≡ all) ⊎ ((last : A) × (some ++ last ∷ [] ≡ all))

-- ---- one turn

-- a request, with the reply to it where the filer has these files
abbrev pub exchange_with : Shown → Filings → Request → Exchange
exchange_with shown filings request = exchange_of by_tests shown filings.taken request

-- it was served, or nothing was done
abbrev pub Served : Exchange → Filings → Filings → Type 0
Served exchange old new = (new ≡ old) ⊎ (new ≡ filed_after old exchange)

-- the reply was sent, and this is the answer to it
abbrev pub Replies : ℕ → Exchange → State → State → talk.Answer → Type 0
Replies child exchange old new answer = Exchanges child (reply_frame exchange) old new answer

-- after out of memory the child was sent nothing, or the request was served, and the reply was sent or not
abbrev pub MayReply : {T : Type 0} → ℕ → Exchange → Filings → Filings → State → State → Result T SessionFault → Type 0
MayReply child exchange filings filings' old new result = IsErrOf result Memory →
    OfChild child old new (λ before after. after.sent ≡ before.sent)
    ⊎ ((filings' ≡ filed_after filings exchange) × SentOrNot child (reply_frame exchange) old new)

-- ---- a round

-- what it comes to for a child that says this and was sent these frames, where it may ask this many times, and this is taken
abbrev pub act_within : Stream → TypeTable → Showing → ℕ → List (List ℕ) → Taken → Act
act_within stream table showing most sent taken =
    act_of stream by_tests (shown_of table showing.env) showing.claim most sent taken

abbrev pub act : Stream → TypeTable → Showing → List (List ℕ) → Taken → Act
act stream table showing sent taken = act_within stream table showing showing.limit sent taken

abbrev pub outcome_of : TypeTable → Showing → Act → Result Answer SessionFault
outcome_of table showing whole = outcome (shown_of table showing.env) showing.claim showing.limit whole

-- the frames that are sent in it, with these exchanges
abbrev pub frames_with : TypeTable → Showing → List Exchange → List (List ℕ)
frames_with table showing exchanges = frames_of (shown_of table showing.env) exchanges

-- whether it comes of the child: a fault of the children and out of memory may come at any point
abbrev pub is_due : {T : Type 0} → Result T SessionFault → Bool
is_due (Err Failed) = false
is_due (Err Memory) = false
is_due other = true

-- The whole of it: the result is what it comes to, the child was sent its frames, and the filer has its files.
pub record IsWhole (table : TypeTable) (showing : Showing) (whole : Act) (sent sent' : List (List ℕ))
    (filings filings' : Filings) (result : Result Answer SessionFault) : Type 0 where
  pub result_is : result ≡ outcome_of table showing whole
  pub sent_is : sent' ≡ sent ++ frames_with table showing whole.exchanges
  pub filed : filings' ≡ filed_all filings whole.exchanges

-- These exchanges came first, and the filer has their files. After out of memory the child was sent their frames, or all
-- but the last of these: that frame was not sent.
pub record IsPart (table : TypeTable) (showing : Showing) (whole : Act) (sent sent' : List (List ℕ))
    (filings filings' : Filings) (result : Result Answer SessionFault) : Type 0 where
  pub done : List Exchange
  pub front : IsFront done whole.exchanges
  pub filed : filings' ≡ filed_all filings done
  pub sent_is : IsErrOf result Memory → AreAllButLast sent' (sent ++ frames_with table showing done)

-- where the last frame of the child was whole, it has answered, and nothing behind that frame was taken
abbrev pub OnAnswered : {T : Type 0} → Result T SessionFault → Type 0 → Type 0
OnAnswered (Ok done) P = P
OnAnswered (Err (TooManyQuestions most)) P = P
OnAnswered (Err (ClaimBroken declared said)) P = P
OnAnswered (Err (Breach (breaches.Wrong tag))) P = P
OnAnswered (Err other) P = Unit {0}

-- A round was shown to the child, and this came of it. After a fault of the children or out of memory the filer has the
-- files of its first exchanges. After out of memory the child was sent the first of its frames, and after a fault of the
-- children that is not told.
pub record Comes (table : TypeTable) (showing : Showing) (filings filings' : Filings) (result : Result Answer SessionFault)
    (whole : Act) (sent sent' : List (List ℕ)) : Type 0 where
  pub all : is_due result ≡ true → IsWhole table showing whole sent sent' filings filings' result
  pub part : IsPart table showing whole sent sent' filings filings' result
  pub front : IsErrOf result Memory → IsFront sent' (sent ++ frames_with table showing whole.exchanges)

pub record Shows (says : Says) (table : TypeTable) (showing : Showing) (filings filings' : Filings)
    (result : Result Answer SessionFault) (before after : Child) : Type 0 where
  pub name : after.name ≡ before.name
  pub command : after.command ≡ before.command
  pub comes : Comes table showing filings filings' result
      (act (says before.name before.command) table showing before.sent filings.taken) before.sent after.sent
  pub answered : OnAnswered result (HasAnswered says after)

-- it is what is due, or out of memory
abbrev pub IsOrMemory : {T : Type 0} → Result T SessionFault → Result T SessionFault → Type 0
IsOrMemory result due = (result ≡ Err Memory) ⊎ (result ≡ due)

-- ---- told or not

-- whatever the child tells, its claim is held against what was declared, and it is refused by its limit and its claim alone
abbrev pub IsDue : Showing → Result Answer SessionFault → Type 0
IsDue showing (Ok answer) = keeps showing.claim answer.claimed ≡ true
IsDue showing (Err (TooManyQuestions most)) = most ≡ showing.limit
IsDue showing (Err (ClaimBroken declared said)) = (declared ≡ showing.claim) × (keeps declared said ≡ false)
IsDue showing (Err (Breach breach)) = Unit {0}
IsDue showing (Err Failed) = Unit {0}
IsDue showing (Err Memory) = Unit {0}

-- what the filer has after these requests, each answered by what it has then
abbrev pub served_all : Shown → Filings → List Request → Filings
served_all shown filings [] = filings
served_all shown filings (request ∷ requests) =
    served_all shown (filed_after filings (exchange_with shown filings request)) requests

-- Requests were served, this many at most. So what was made stays in front, and behind it stand creations that the filer
-- accepted, each at its place.
pub record AllServed (shown : Shown) (most : ℕ) (old new : Filings) : Type 0 where
  pub requests : List Request
  pub few : length requests ≤ most
  pub is : new ≡ served_all shown old requests
