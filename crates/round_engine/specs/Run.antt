-- The run of the processors of a project over its type table, from nothing: all say Hello, then come the rounds of JSR 269. It is a function of the table and of
-- what the children say. In a round those are asked that `asked` of `processor_claims` lists, one after another, and what each answers decides who follows.
use Rattle.std.specs.Prelude.{ℕ, zero, suc, ◌==◌, ◌+◌, ◌*◌, ◌||◌, not, Bool, true, false, List, [], ◌∷◌, ◌++◌, length, drop, filter, map, replicate, slice_get, slice_set, slice_index_or, Option, None, Some, if◌then◌else◌, Result, Ok, Err}
use Rattle.std.specs.List.{list_any}
use Rattle.std.specs.FinMap as fin
use Rattle.apt_outside.specs.Child.{Says, Try}
use Rattle.apt_base.specs.Identifiers.{is_pattern}
use Rattle.apt_base.specs.declared.kinds.Claim.{Claim}
use Rattle.apt_base.specs.declared.kinds.Claim.TheVariants.{Varies}
use Rattle.apt_base.specs.declared.kinds.Kind.{Kind}
use Rattle.apt_base.specs.declared.kinds.Kind.TheVariants.{Undeclared}
use Rattle.wire_frames.specs.declared.frame.Hello.{Hello}
use Rattle.wire_frames.specs.declared.frame.Creation.{Creation}
use Rattle.wire_frames.specs.declared.frame.Message.{Message}
use Rattle.frame_breaches.specs.declared.breach.Breach.{Breach}
use Rattle.apt_filer.specs.Filing.{Filings, taken_at_first}
use Rattle.apt_filer.specs.Reports.{in_report_order}
use Rattle.processor_claims.specs.declared.supported.Supported.{Supported}
use Rattle.processor_claims.specs.Asked.{asked}
use Rattle.child_session.specs.declared.round.Showing.{Showing}
use Rattle.child_session.specs.Beginning.{first_hello}
use Rattle.child_session.specs.declared.request.Turn.{Turn}
use Rattle.child_session.specs.declared.request.Turn.TheVariants.{Ends, Differs, Asks, Leaves}
use Rattle.child_session.specs.Replies.{Exchange, shown_of, filed_all}
use Rattle.child_session.specs.Acts as acts
use Rattle.child_session.specs.Acts.{Act, messages, answer_by}
use Rattle.child_session.specs.Round as session
use Rattle.round_env.specs.declared.environment.RoundEnv.{RoundEnv}
use Rattle.apt_filer.specs.declared.messages.Placed.{Placed}
use Rattle.round_engine.specs.declared.rounds.Round.{Round}
use Rattle.project_units.specs.Refusals.{Refusal, LeavesProtocol, TooManyQuestions, ClaimBroken, TooManyRounds}
use Rattle.element_table.specs.TypeTable.{TypeTable}
use Rattle.unit_locations.specs.LocatedTable.{LocatedTable}
use Rattle.project_units.specs.Units.{Entered, enter_all, all_of, unit_names}
use Rattle.round_env.specs.Presence.{present_names}
use Rattle.project_units.specs.Creations.{sources_among, creates_source, unread_among}
use Rattle.project_units.specs.Plans.{Plan, init_frame}
use Rattle.round_engine.specs.declared.rounds.PastRound.{PastRound}
use Rattle.run_entries.specs.declared.processed.Processed.{Processed}
use Rattle.run_entries.specs.Kinds.{settled_kind}
use Rattle.round_engine.specs.Remembering.{past_round, processed_by}

-- ---- how far a run comes

-- the frames that one child was sent
abbrev pub Frames : Type 0
Frames = List (List ℕ)

-- A run was refused. Until then children were started for as many processors, the first in order, as there are items here, and each was sent these frames.
pub record Stopped : Type 0 where
  pub sent : List Frames
  pub refusal : Refusal

-- what a part of a run comes to
abbrev pub Course : Type 0 → Type 0
Course A = Result A Stopped

-- one part and then another
infixl 10 ◌>>=◌
abbrev pub ◌>>=◌ : {A B : Type 0} → Course A → (A → Course B) → Course B
(Ok x) >>= f = f x
(Err stopped) >>= f = Err stopped

-- ---- Hello

abbrev pub first_sent : Plan → Try → Frames
first_sent plan processor = init_frame plan processor.0 ∷ []

-- what a Hello says that its processor supports: those of its names that are patterns, and by the table of frames all are
abbrev pub supported_in : Hello → Supported
supported_in hello = record { patterns = filter is_pattern hello.patterns; claim = hello.claim }

-- what a processor says of itself, in its answer to the first frame, or how its child leaves the protocol there
abbrev pub hello_of : Says → Plan → Try → Result Hello Breach
hello_of says plan processor = first_hello says processor (init_frame plan processor.0)

-- a processor said Hello, or the run is refused; these were started before it, and none behind it is
abbrev pub greeting : Plan → List Try → Try → Result Hello Breach → Course Hello
greeting plan before processor (Ok hello) = Ok hello
greeting plan before processor (Err breach) = Err (record { sent = map (first_sent plan) (before ++ processor ∷ []); refusal = LeavesProtocol processor.0 breach })

-- the processors behind these, in order: each is sent the first frame and says what it is
abbrev pub hellos_from : Says → Plan → List Try → List Try → Course (List Hello)
hellos_from says plan before [] = Ok []
hellos_from says plan before (processor ∷ later) = do
  hello ← greeting plan before processor (hello_of says plan processor)
  others ← hellos_from says plan (before ++ processor ∷ []) later
  Ok (hello ∷ others)

-- ---- how far a run is

-- the processors that said Hello, what their children say, the kind that each declares, its Hello, and what it supports by that
pub record Discovered : Type 0 where
  pub says : Says
  pub processors : List Try
  pub kinds : List Kind
  pub hellos : List Hello
  pub supported : List Supported

-- The frames that each child was sent, which processors were asked, what the filer has, and the messages that were printed; and what is remembered: what each processor did
-- in each round in which it was asked, in order, and the rounds that came to their end.
pub record Progress : Type 0 where
  pub sent : List Frames
  pub contributed : List Bool
  pub filings : Filings
  pub messages : List Placed
  pub processed : List Processed
  pub past : List PastRound

-- Processors go by their numbers, from 0 in the order of discovery. A number that none has stands for nobody; nobody is asked.
abbrev pub processor_at : Discovered → ℕ → Try
processor_at d number = slice_index_or d.processors number ([], [])

abbrev pub supports_nothing : Supported
supports_nothing = record { patterns = []; claim = Varies }

abbrev pub claim_at : Discovered → ℕ → Claim
claim_at d number = (slice_index_or d.supported number supports_nothing).claim

abbrev pub says_nothing : Hello
says_nothing = record { patterns = []; options = []; claim = Varies }

-- the kind of a processor, of those that declare these and say these Hellos: the one that it declares, or that its Hello settles
abbrev pub kind_among : List Kind → List Hello → ℕ → Kind
kind_among kinds hellos number = settled_kind (slice_index_or kinds number Undeclared) (slice_index_or hellos number says_nothing).options

abbrev pub kind_at : Discovered → ℕ → Kind
kind_at d number = kind_among d.kinds d.hellos number

abbrev pub sent_at : Progress → ℕ → Frames
sent_at p number = slice_index_or p.sent number []

-- ---- one processor in a round

-- the annotations that are present on the roots; the last round has none
abbrev pub present_in : Round → List (List ℕ)
present_in r = present_names r.table.table r.roots

-- those at these positions
abbrev pub offered_names : Round → List ℕ → List (List ℕ)
offered_names r positions = map (λ at. slice_index_or (present_in r) at []) positions

-- what a processor is shown of a round in which it is offered these names: all roots
abbrev pub env_of : Round → List (List ℕ) → RoundEnv
env_of r offered = record { number = r.number; over = r.over; error = r.error; offered = offered; roots = r.roots }

-- how often a child may ask in a round that is shown to it so
abbrev pub most_questions : RoundEnv → ℕ
most_questions env = 65536 + 4096 * length env.roots

-- the same round for the child of a processor that declared this of its claims
abbrev pub showing : RoundEnv → Claim → Showing
showing env claim = record { limit = most_questions env; claim = claim; env = env }

-- what the processor of this number does that is shown this, with all files that were accepted before
abbrev pub act : Discovered → TypeTable → RoundEnv → Progress → ℕ → Act
act d table env p number =
    session.act (d.says (processor_at d number).0 (processor_at d number).1) table (showing env (claim_at d number)) (sent_at p number) p.filings.taken

-- messages of a processor in a round, numbered from one on
abbrev pub place : ℕ → ℕ → ℕ → List Message → List Placed
place round processor number [] = []
place round processor number (message ∷ messages) = record { round = round; processor = processor; number = number; message = message } ∷ place round processor (suc number) messages

-- the frames that its child was sent in the end
abbrev pub sent_with : TypeTable → RoundEnv → Progress → ℕ → List Exchange → Frames
sent_with table env p number exchanges = sent_at p number ++ acts.frames_of (shown_of table env) exchanges

-- what is remembered of it. Whether it claims plays no part.
abbrev pub processed_in : Discovered → TypeTable → RoundEnv → Progress → ℕ → List Exchange → Processed
processed_in d table env p number exchanges =
    processed_by (kind_at d number) table env number p.processed (acts.files exchanges) (answer_by (shown_of table env) exchanges true)

-- how far the run is once it did so
abbrev pub with_act : Discovered → TypeTable → RoundEnv → Progress → ℕ → List Exchange → Progress
with_act d table env p number exchanges = record {
  sent = slice_set p.sent number (sent_with table env p number exchanges);
  contributed = slice_set p.contributed number true;
  filings = filed_all p.filings exchanges;
  messages = p.messages ++ place env.number number 0 (messages exchanges);
  processed = p.processed ++ processed_in d table env p number exchanges ∷ [];
  past = p.past;
}

abbrev pub stopped_at : Progress → ℕ → Frames → Refusal → Stopped
stopped_at p number sent refusal = record { sent = slice_set p.sent number sent; refusal = refusal }

-- How far the run is after an act with these exchanges, which ended with this turn, and whether the processor claims what it was offered; or the refusal, which
-- names it. A request that ends an act was one too many.
abbrev pub after_act : Discovered → TypeTable → RoundEnv → Progress → ℕ → List Exchange → Turn → Course (Progress × Bool)
after_act d table env p number exchanges (Ends claimed) = Ok (with_act d table env p number exchanges, claimed)
after_act d table env p number exchanges (Differs said) =
    Err (stopped_at p number (sent_with table env p number exchanges) (ClaimBroken (processor_at d number).0 (claim_at d number) said))
after_act d table env p number exchanges (Asks request) =
    Err (stopped_at p number (sent_with table env p number exchanges) (TooManyQuestions (processor_at d number).0 (most_questions env)))
after_act d table env p number exchanges (Leaves breach) =
    Err (stopped_at p number (sent_with table env p number exchanges) (LeavesProtocol (processor_at d number).0 breach))

-- the processor of this number is shown this
abbrev pub show : Discovered → TypeTable → RoundEnv → Progress → ℕ → Course (Progress × Bool)
show d table env p number = after_act d table env p number (act d table env p number).exchanges (act d table env p number).last

-- The step of one processor in a round: how far the run is once it was asked with the names at these positions, and whether it claims them.
abbrev pub Asking : Type 0
Asking = Discovered → Round → Progress → ℕ × List ℕ → Course (Progress × Bool)

-- it is shown all roots, over the table of the round
abbrev pub ask : Asking
ask d r p next = show d r.table.table (env_of r (offered_names r next.1)) p next.0

-- ---- one round

-- Who is asked next, and with the names at which positions, where these were asked in earlier rounds and those before it in this round answered so: the one
-- behind them in the list of those who are asked. An answer bears on none but those behind it, so that those to come may be left out.
abbrev pub next_asked : Discovered → Round → List Bool → List Bool → Option (ℕ × List ℕ)
next_asked d r contributed answers = slice_get (asked d.supported contributed (present_in r) r.over answers) (length answers)

-- the next one is asked, and go says what follows; or nobody is left
abbrev pub ask_next : Asking → Discovered → Round → Progress → Option (ℕ × List ℕ) → (Progress × Bool → Course Progress) → Course Progress
ask_next asking d r p None go = Ok p
ask_next asking d r p (Some next) go = asking d r p next >>= go

-- the rest of a round, where those that were asked answered so and this many may be left
unfoldable pub asks_from : Asking → Discovered → Round → List Bool → ℕ → List Bool → Progress → Course Progress
asks_from asking d r contributed zero answers p = Ok p
asks_from asking d r contributed (suc left) answers p =
    ask_next asking d r p (next_asked d r contributed answers) (λ acted. asks_from asking d r contributed left (answers ++ acted.1 ∷ []) acted.0)

-- all turns of a round: no processor is asked twice in it
abbrev pub turns_of : Asking → Discovered → Round → Progress → Course Progress
turns_of asking d r p = asks_from asking d r p.contributed (length d.processors) [] p

-- a round came to its end
abbrev pub ended : Round → Progress → Progress
ended r p = record {
  sent = p.sent;
  contributed = p.contributed;
  filings = p.filings;
  messages = p.messages;
  processed = p.processed;
  past = p.past ++ past_round r ∷ [];
}

abbrev pub round_of : Asking → Discovered → Round → Progress → Course Progress
round_of asking d r p = do
  after ← turns_of asking d r p
  Ok (ended r after)

-- ---- what a round left

-- what was made since
abbrev pub new_since : Filings → Filings → List Creation
new_since before after = drop (length before.made) after.made

-- what was printed since
abbrev pub printed_since : List Placed → List Placed → List Placed
printed_since before after = drop (length before) after

-- an ERROR has the kind 0
abbrev pub has_error : List Placed → Bool
has_error messages = list_any (λ placed. placed.message.kind == 0) messages

-- ---- the run

-- a run that was not refused: the frames that each child was sent, how many rounds there were, the files, the messages in the order of a report, the sources of the
-- last round by their names, and the units of that round with their locations; and what is remembered: the Hellos, what the processors did, and all rounds
pub record Finished : Type 0 where
  pub sent : List Frames
  pub rounds : ℕ
  pub made : List Creation
  pub messages : List Placed
  pub unread : List (List ℕ)
  pub table : LocatedTable
  pub hellos : List Hello
  pub processed : List Processed
  pub past : List PastRound

abbrev pub Run : Type 0
Run = Course Finished

-- The last round has no roots, and nothing is offered in it.
abbrev pub last_of : ℕ → Bool → LocatedTable → Round
last_of number error table = record { number = number; over = true; error = error; table = table; roots = [] }

-- the units that were entered are the roots
abbrev pub next_of : ℕ → Entered → Round
next_of number entered = record { number = number; over = false; error = false; table = entered.table; roots = entered.names }

-- The sources of the last round are kept and not read.
abbrev pub finished : Discovered → ℕ → LocatedTable → Progress → Progress → Finished
finished d rounds table before after = record {
  sent = after.sent;
  rounds = rounds;
  made = after.filings.made;
  messages = in_report_order after.messages;
  unread = unread_among (new_since before.filings after.filings);
  table = table;
  hellos = d.hellos;
  processed = after.processed;
  past = after.past;
}

abbrev pub last_round : Asking → Discovered → ℕ → Bool → LocatedTable → Progress → Run
last_round asking d number error table before = do
  after ← round_of asking d (last_of number error table) before
  Ok (finished d number table before after)

-- sources were entered, or the run is refused
abbrev pub entering : List Frames → Result Entered Refusal → Course Entered
entering sent (Ok entered) = Ok entered
entering sent (Err refusal) = Err (record { sent = sent; refusal = refusal })

-- After a round in which an ERROR was printed, or no source was created, comes the last one. Else its sources are read and entered in order of path, and go says
-- what follows.
abbrev pub after_round : Asking → Discovered → Round → Progress → Progress → (Entered → Run) → Run
after_round asking d r before after go =
    if has_error (printed_since before.messages after.messages) || not (creates_source (new_since before.filings after.filings))
    then last_round asking d (suc r.number) (has_error (printed_since before.messages after.messages)) r.table after
    else (entering after.sent (enter_all r.table (fin.entries (sources_among (new_since before.filings after.filings)))) >>= go)

-- the rounds from one on that is not the last, where this many rounds may come that are not the last; the units of what one created are the roots of the next
unfoldable pub rounds_from : Asking → Discovered → ℕ → Round → Progress → Run
rounds_from asking d zero r p = Err (record { sent = p.sent; refusal = TooManyRounds })
rounds_from asking d (suc left) r p = do
  after ← round_of asking d r p
  after_round asking d r p after (λ entered. rounds_from asking d left (next_of (suc r.number) entered) after)

-- a run has 64 rounds at most, the last included
abbrev pub rounds_before_last : ℕ
rounds_before_last = 63

-- what a filer has at first: the names of all units are taken
abbrev pub new_filings : LocatedTable → Filings
new_filings table = record { taken = taken_at_first (unit_names table); made = [] }

-- for each processor, that it was not asked
abbrev pub none_asked : {A : Type 0} → List A → List Bool
none_asked processors = replicate (length processors) false

-- each child was sent the first frame, and none was asked
abbrev pub start : Plan → LocatedTable → Progress
start plan table = record {
  sent = map (first_sent plan) plan.processors;
  contributed = none_asked plan.processors;
  filings = new_filings table;
  messages = [];
  processed = [];
  past = [];
}

abbrev pub discovered : Says → Plan → List Hello → Discovered
discovered says plan hellos =
    record { says = says; processors = plan.processors; kinds = plan.kinds; hellos = hellos; supported = map supported_in hellos }

-- the first round has all units of the sources as roots
abbrev pub run_of : Says → Plan → LocatedTable → Run
run_of says plan table = do
  hellos ← hellos_from says plan [] plan.processors
  rounds_from ask (discovered says plan hellos) rounds_before_last (next_of 1 (all_of table)) (start plan table)

-- the frames that a run sent, for each child that was started
abbrev pub frames_of : Run → List Frames
frames_of (Ok finished) = finished.sent
frames_of (Err stopped) = stopped.sent
