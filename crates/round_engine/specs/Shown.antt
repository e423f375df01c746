-- What the calls of the engine say: what came of a part of a run, and what each child was sent by then.
use Rattle.std.specs.Prelude.{◌≡◌, ◌≢◌, ◌⊎◌, ℕ, ◌+◌, ◌≤◌, ◌<◌, Bool, true, false, List, [], ◌∷◌, ◌++◌, length, map, take, drop, Contains, Option, None, Some, Result, Ok, Err, OnOk, IfSome, IsSomeAnd}
use Rattle.std.specs.List.{AllByRecursion}
use Rattle.std.specs.Option.{option_map_or}
use Rattle.apt_outside.specs.Child.{Says, Try, Child, Known, State, without}
use Rattle.frame_breaches.specs.declared.breach.Breach.{Breach}
use Rattle.wire_frames.specs.declared.frame.Hello.{Hello}
use Rattle.processor_claims.specs.declared.turn.Turn.{Turn}
use Rattle.processor_claims.specs.Asked as claims
use Rattle.processor_claims.specs.Turns.{IsComing}
use Rattle.child_session.specs.Talk.{HasAnswered}
use Rattle.child_session.specs.Requests.{keeps}
use Rattle.child_session.specs.Beginning as session
use Rattle.child_session.specs.Beginning.{IsBegun, HasBegun, IsUnheard, Untried, Unstarted}
use Rattle.project_units.specs.declared.refusal.Refusal as declared
use Rattle.round_engine.specs.declared.progress.Progress as code_progress
use Rattle.round_engine.specs.declared.beginning.Discovered as code_discovered
use Rattle.round_engine.specs.declared.rounds.Round.{Round}
use Rattle.round_engine.specs.declared.rounds.Rounds.{Rounds}
use Rattle.project_units.specs.Refusals as stop
use Rattle.project_units.specs.Refusals.{Stop, is_refusal, is_failure, is_of_hello, exempt_by}
use Rattle.project_units.specs.Faults.{stop_of, is_due, exempt_in}
use Rattle.round_engine.specs.Fronts.{FrontsBut}
use Rattle.element_table.specs.TypeTable.{TypeTable}
use Rattle.unit_locations.specs.LocatedTable.{LocatedTable}
use Rattle.round_env.specs.declared.environment.RoundEnv.{RoundEnv}
use Rattle.apt_filer.specs.Reports.{in_report_order}
use Rattle.project_units.specs.Creations.{unread_among}
use Rattle.project_units.specs.Units.{all_of}
use Rattle.project_units.specs.Plans.{Plan, init_frame}
use Rattle.round_engine.specs.declared.rounds.PastRound.{PastRound}
use Rattle.round_engine.specs.Remembering.{past_round}
use Rattle.round_engine.specs.Run.{Frames, Course, first_sent, hello_of, hellos_from, Discovered, Progress, most_questions, show, ask, turns_of, round_of, Finished, last_of, last_round, rounds_from, rounds_before_last, next_of}

-- ---- the children of a run at a moment

-- The children of the processors of a run are a group: their numbers, in the order of the processors.
abbrev pub frames_to : Known → ℕ → Frames
frames_to known child = option_map_or (λ (c : Child). c.sent) (known child) []

-- what each of the group was sent
abbrev pub all_sent : Known → List ℕ → List Frames
all_sent known group = map (frames_to known) group

-- each of the group is known, with this fact of the processor and of its child; the group may be the children of the first processors alone
abbrev pub EachOf : (Try → Child → Type 0) → List Try → List ℕ → Known → Type 0
EachOf P processors [] known = Unit {0}
EachOf P [] (child ∷ group) known = ⊥
EachOf P (processor ∷ later) (child ∷ group) known = IsSomeAnd (known child) (P processor) × EachOf P later group known

-- the child is that of the processor
pub record IsOf (processor : Try) (child : Child) : Type 0 where
  pub name : child.name ≡ processor.0
  pub command : child.command ≡ processor.1

-- and it has answered each frame that it was sent
pub record Serves (says : Says) (processor : Try) (child : Child) : Type 0 where
  pub is : IsOf processor child
  pub answered : HasAnswered says child

-- a child is none of these
abbrev pub IsOutside : ℕ → List ℕ → Type 0
IsOutside child [] = Unit {0}
IsOutside child (other ∷ group) = (other ≢ child) × IsOutside child group

abbrev pub AreDifferent : List ℕ → Type 0
AreDifferent [] = Unit {0}
AreDifferent (child ∷ group) = IsOutside child group × AreDifferent group

-- what holds of the lists that the code has, told or not: they are as long as there are processors, of which there are at most 64
pub record AreListed (d : code_discovered.Discovered) : Type 0 where
  pub names : length d.names ≡ length d.supported
  pub group : length d.group ≡ length d.supported
  pub kinds : length d.kinds ≡ length d.supported
  pub hellos : length d.hellos ≡ length d.supported
  pub few : length d.supported ≤ 64

-- for each processor is said whether it was asked
abbrev pub HasEach : code_discovered.Discovered → code_progress.Progress → Type 0
HasEach d p = length p.contributed.items ≡ length d.supported

-- the turn asks those that the round asks of them, where these names are present
abbrev pub IsTurnOf : code_discovered.Discovered → Round → code_progress.Progress → List (List ℕ) → Turn → Type 0
IsTurnOf d r p present turn = IsComing (claims.asked d.supported p.contributed.items present r.over) turn

-- each child lives
abbrev pub AllLive : List ℕ → State → Type 0
AllLive group now = AllByRecursion (Contains now.live) group

-- each processor has its child, the children are different, and each has answered
pub record Stands (d : code_discovered.Discovered) (processors : List Try) (now : State) : Type 0 where
  pub names : map (λ (processor : Try). processor.0) processors ≡ d.names
  pub count : length d.group ≡ length processors
  pub different : AreDifferent d.group
  pub each : EachOf (Serves now.says) processors d.group now.known

-- ---- what the code has of a run

abbrev pub shown_discovered : Says → List Try → code_discovered.Discovered → Discovered
shown_discovered says processors d = record { says = says; processors = processors; kinds = d.kinds; hellos = d.hellos; supported = d.supported }

-- how far a run is, by what its children were sent
abbrev pub standing : List ℕ → code_progress.Progress → State → Progress
standing group p now = record {
  sent = all_sent now.known group;
  contributed = p.contributed.items;
  filings = p.filer;
  messages = p.messages;
  processed = p.processed;
  past = p.past;
}

-- a run of these processors that was not refused
abbrev pub shown_rounds : code_discovered.Discovered → Rounds → State → Finished
shown_rounds d rounds now = record {
  sent = all_sent now.known d.group;
  rounds = rounds.count;
  made = rounds.made;
  messages = rounds.messages;
  unread = rounds.unread;
  table = rounds.table;
  hellos = d.hellos;
  processed = rounds.processed;
  past = rounds.past;
}

-- what the rounds come to of which this was the last, where there were this many files before it
abbrev pub rounds_until : Round → ℕ → code_progress.Progress → Rounds
rounds_until last count p = record {
  count = last.number;
  made = p.filer.made;
  messages = in_report_order p.messages;
  unread = unread_among (drop count p.filer.made);
  table = last.table;
  processed = p.processed;
  past = p.past;
}

-- the two rounds over a table in which nobody is asked
abbrev pub past_of_none : LocatedTable → List PastRound
past_of_none table = past_round (next_of 1 (all_of table)) ∷ past_round (last_of 2 false table) ∷ []

-- and what they come to
abbrev pub rounds_of_none : LocatedTable → Rounds
rounds_of_none table = record { count = 2; made = []; messages = []; unread = []; table = table; processed = []; past = past_of_none table }

-- ---- a part of a run

-- calls on the children of a group leave all else as it was
pub record AttendsAll (group : List ℕ) (old new : State) : Type 0 where
  pub same_says : new.says ≡ old.says
  pub same_tried : new.tried ≡ old.tried
  pub others : (child : ℕ) → IsOutside child group → new.known child ≡ old.known child

-- a part of a run in which the children were sent these frames stopped so, unless it is a stop that may come at any point
abbrev pub StopsAs : {A : Type 0} → Course A → List Frames → Stop → Type 0
StopsAs course sent (stop.Refused refusal) = course ≡ Err (record { sent = sent; refusal = refusal })
StopsAs course sent (stop.Failed object) = Unit {0}
StopsAs course sent stop.Memory = Unit {0}

-- whatever the children tell, a stop by a limit has that of a round that is shown, and one by a claim that was broken broke it
abbrev pub IsDueStop : Stop → Type 0
IsDueStop (stop.Refused (stop.TooManyQuestions processor most)) = (env : RoundEnv) × (most ≡ most_questions env)
IsDueStop (stop.Refused (stop.ClaimBroken processor declared said)) = keeps declared said ≡ false
IsDueStop other = Unit {0}

-- a call's result is what the part comes to, where the children were sent these frames; means says what its value is
abbrev pub ComesTo : {A T : Type 0} → Course A → (T → A) → Result T declared.Refusal → List Frames → Type 0
ComesTo course means (Ok value) sent = course ≡ Ok (means value)
ComesTo course means (Err refusal) sent = StopsAs course sent (stop_of refusal)

-- ---- what a part of a run sends

-- what a part of a run sends, where sent_in says it of what the part comes to
abbrev pub sent_by : {A : Type 0} → (A → List Frames) → Course A → List Frames
sent_by sent_in (Ok value) = sent_in value
sent_by sent_in (Err stopped) = stopped.sent

abbrev pub sent_in_step : Progress × Bool → List Frames
sent_in_step acted = acted.0.sent

abbrev pub sent_in_progress : Progress → List Frames
sent_in_progress p = p.sent

abbrev pub sent_in_finished : Finished → List Frames
sent_in_finished finished = finished.sent

-- ---- what comes of a part of a run

-- a part of a run: what came of it; the group are the same children, and they are ready for the next; and whatever came of it, each child was sent the first of
-- what the run sends it and nothing else, but for that of the processor that a fault of the children names
pub record Goes {A T : Type 0} (sent_in : A → List Frames) (d : code_discovered.Discovered) (processors : List Try) (course : Course A) (means : T → A) (result : Result T declared.Refusal) (now : State) : Type 0 where
  pub comes : ComesTo course means result (all_sent now.known d.group)
  pub same : EachOf IsOf processors d.group now.known
  pub ready : OnOk result (Stands d processors now)
  pub fronts : FrontsBut (exempt_in result) processors (all_sent now.known d.group) (sent_by sent_in course)

-- a part of a run, by what the run is of these processors before it
abbrev pub Part : {A T : Type 0} → (A → List Frames) → code_discovered.Discovered → (Discovered → Course A) → (T → A) → Result T declared.Refusal → State → State → Type 0
Part sent_in d course means result old new =
    (processors : List Try) → Stands d processors old → Goes sent_in d processors (course (shown_discovered old.says processors d)) means result new

-- the processor of this number was shown this, over this table, and says whether it claims
abbrev pub AsksOne : code_discovered.Discovered → TypeTable → RoundEnv → ℕ → code_progress.Progress → code_progress.Progress → State → State → Result Bool declared.Refusal → Type 0
AsksOne d table env number p p' old new result =
    Part sent_in_step d (λ run. show run table env (standing d.group p old) number) (λ claimed. (standing d.group p' new, claimed)) result old new

-- all that a round asks were asked
abbrev pub TakesTurns : code_discovered.Discovered → Round → code_progress.Progress → code_progress.Progress → State → State → Result Unit declared.Refusal → Type 0
TakesTurns d r p p' old new result = Part sent_in_progress d (λ run. turns_of ask run r (standing d.group p old)) (λ done. standing d.group p' new) result old new

-- and so the round came to its end
abbrev pub Asks : code_discovered.Discovered → Round → code_progress.Progress → code_progress.Progress → State → State → Result Unit declared.Refusal → Type 0
Asks d r p p' old new result = Part sent_in_progress d (λ run. round_of ask run r (standing d.group p old)) (λ done. standing d.group p' new) result old new

-- the last round came to its end
abbrev pub EndsLast : code_discovered.Discovered → Round → code_progress.Progress → State → State → Result Rounds declared.Refusal → Type 0
EndsLast d r p old new result =
    Part sent_in_finished d (λ run. last_round ask run r.number r.error r.table (standing d.group p old)) (λ rounds. shown_rounds d rounds new) result old new

-- so did all rounds over this table
abbrev pub EndsAll : code_discovered.Discovered → LocatedTable → code_progress.Progress → State → State → Result Rounds declared.Refusal → Type 0
EndsAll d table p old new result =
    Part sent_in_finished d (λ run. rounds_from ask run rounds_before_last (next_of 1 (all_of table)) (standing d.group p old)) (λ rounds. shown_rounds d rounds new) result old new

-- ---- what is told anew

-- what a child is that was sent these frames
pub record IsSent (processor : Try) (sent : Frames) (child : Child) : Type 0 where
  pub name : child.name ≡ processor.0
  pub command : child.command ≡ processor.1
  pub frames : child.sent ≡ sent

-- the first of the processors in order have these children, each of which was sent these frames
abbrev pub AreSent : List Try → List Frames → List ℕ → Known → Type 0
AreSent processors [] [] known = Unit {0}
AreSent (processor ∷ later) (frames ∷ sent) (child ∷ group) known = IsSomeAnd (known child) (IsSent processor frames) × AreSent later sent group known
AreSent processors sent group known = ⊥

-- Nothing was told before of the children of this group, and nothing is told anew of any other.
pub record TellsOf (group : List ℕ) (old new : State) : Type 0 where
  pub different : AreDifferent group
  pub unknown : AllByRecursion (λ child. old.known child ≡ None) group
  pub others : (child : ℕ) → IsOutside child group → new.known child ≡ old.known child

-- The group is new: it has a child for each of the first of these processors, in order, and each was shown exactly these frames.
pub record ShowsTo (group : List ℕ) (processors : List Try) (sent : List Frames) (old new : State) : Type 0 where
  pub tells : TellsOf group old new
  pub shown : AreSent processors sent group new.known

abbrev pub ShowsAll : List Try → List Frames → State → State → Type 0
ShowsAll processors sent old new = (group : List ℕ) × ShowsTo group processors sent old new

-- nothing is told anew but of at most this many children, of which nothing was told before
pub record TellsMore (most : ℕ) (old new : State) : Type 0 where
  pub group : List ℕ
  pub few : length group ≤ most
  pub tells : TellsOf group old new

-- the starts of the first of these processors were tried in order, of this many at most
pub record TriesUpTo (most : ℕ) (processors : List Try) (old new : State) : Type 0 where
  pub count : ℕ
  pub few : count ≤ most
  pub tried : new.tried ≡ old.tried ++ take count processors

-- Whatever came of it: the group is new, each is the child of its processor, in order, and was sent the first of these frames and nothing else, but for the
-- child that is exempt; and no start was tried of a processor behind those that the run starts.
pub record ShowsFronts (exempt : Option (List ℕ)) (processors : List Try) (group : List ℕ) (all : List Frames) (old new : State) : Type 0 where
  pub tells : TellsOf group old new
  pub theirs : EachOf IsOf processors group new.known
  pub fronts : FrontsBut exempt processors (all_sent new.known group) all
  pub tries : TriesUpTo (length all) processors old new

-- a group was shown no more than this
pub record ShowsNoMore (exempt : Option (List ℕ)) (processors : List Try) (all : List Frames) (old new : State) : Type 0 where
  pub group : List ℕ
  pub shows : ShowsFronts exempt processors group all old new

-- this group, and others behind it
pub record ShowsBehind (exempt : Option (List ℕ)) (processors : List Try) (group : List ℕ) (all : List Frames) (old new : State) : Type 0 where
  pub others : List ℕ
  pub shows : ShowsFronts exempt processors (group ++ others) all old new

-- ---- the starts

-- the starts of these processors were tried in order, up to one of them
abbrev pub TriesInOrder : List Try → State → State → Type 0
TriesInOrder processors old new = TriesUpTo (length processors) processors old new

-- Of this many processors some were started: a refusal comes of one that was, and all were where it comes of a round.
pub record StartsUpTo (count : ℕ) (refusal : Stop) (old new : State) : Type 0 where
  pub least : old.starts ≤ new.starts
  pub most : new.starts ≤ old.starts + count
  pub due : is_refusal refusal ≡ true → old.starts < new.starts
  pub all : is_of_hello refusal ≡ false → new.starts ≡ old.starts + count

-- one child was started, or at most one where it was refused
abbrev pub StartsOne : {T : Type 0} → Result T declared.Refusal → State → State → Type 0
StartsOne (Ok begun) old new = new.starts ≡ old.starts + 1
StartsOne (Err refusal) old new = StartsUpTo 1 (stop_of refusal) old new

-- these were started, or some of these where the run was refused
abbrev pub StartsAll : {T : Type 0} → List Try → Result T declared.Refusal → State → State → Type 0
StartsAll processors (Ok done) old new = new.starts ≡ old.starts + length processors
StartsAll processors (Err refusal) old new = StartsUpTo (length processors) (stop_of refusal) old new

-- each start that was tried gave a child
abbrev pub IsCounted : State → State → Type 0
IsCounted old new = length new.tried + old.starts ≡ length old.tried + new.starts

-- so it is, but for the last of them after a fault of the children
abbrev pub StopsCounted : Stop → State → State → Type 0
StopsCounted refusal old new =
    IsCounted old new ⊎ ((is_failure refusal ≡ true) × (length new.tried + old.starts ≡ length old.tried + new.starts + 1))

abbrev pub CountsTries : {T : Type 0} → Result T declared.Refusal → State → State → Type 0
CountsTries (Ok done) old new = IsCounted old new
CountsTries (Err refusal) old new = StopsCounted (stop_of refusal) old new

-- ---- which live

-- each of the group was in none of what lived when it was started
abbrev pub AreFresh : List ℕ → List ℕ → Type 0
AreFresh live [] = Unit {0}
AreFresh live (child ∷ group) = (¬ Contains live child) × AreFresh (live ++ child ∷ []) group

abbrev pub JoinsOne : List ℕ → List ℕ → Result (ℕ × Hello) declared.Refusal → Type 0
JoinsOne old new (Ok begun) = (new ≡ old ++ begun.0 ∷ []) × (¬ Contains old begun.0)
JoinsOne old new (Err refusal) = new ≡ old

-- the group lives behind those that lived before, or none does where the run was refused
abbrev pub JoinsAll : List ℕ → List ℕ → Result code_discovered.Discovered declared.Refusal → Type 0
JoinsAll old new (Ok d) = (new ≡ old ++ d.group) × AreFresh old d.group
JoinsAll old new (Err refusal) = new ≡ old

-- the list without each of these, one after another
abbrev pub without_each : List ℕ → List ℕ → List ℕ
without_each [] live = live
without_each (child ∷ group) live = without_each group (without child live)

-- each of these lives when its turn comes to be stopped
abbrev pub LiveInTurn : List ℕ → List ℕ → Type 0
LiveInTurn [] live = Unit {0}
LiveInTurn (child ∷ group) live = Contains live child × LiveInTurn group (without child live)

-- a child is the same processor's as before, and was sent the same
pub record IsSame (before after : Child) : Type 0 where
  pub name : after.name ≡ before.name
  pub command : after.command ≡ before.command
  pub sent : after.sent ≡ before.sent

abbrev pub AllSame : Known → Known → Type 0
AllSame old new = (child : ℕ) → IfSome (old child) (λ before. IsSomeAnd (new child) (IsSame before))

-- the children of the group were stopped: what each was sent, and whose it is, stays
pub record StopsAll (group : List ℕ) (old new : State) : Type 0 where
  pub attends : AttendsAll group old new
  pub same : AllSame old.known new.known

-- ---- all say Hello

-- one processor said Hello
pub record SaysHello (plan : Plan) (processor : Try) (child : ℕ) (said : Hello) (old new : State) : Type 0 where
  pub hello : hello_of old.says plan processor ≡ Ok said
  pub tells : session.TellsOf child (HasBegun new.says processor (init_frame plan processor.0)) old new
  pub tried : new.tried ≡ old.tried ++ processor ∷ []

-- it left the protocol, and was stopped
pub record SaysNone (plan : Plan) (processor : Try) (refusal : Stop) (old new : State) : Type 0 where
  pub breach : Breach
  pub hello : hello_of old.says plan processor ≡ Err breach
  pub is : refusal ≡ stop.Refused (stop.LeavesProtocol processor.0 breach)
  pub child : ℕ
  pub tells : session.TellsOf child (IsBegun processor (init_frame plan processor.0)) old new
  pub starts : new.starts ≡ old.starts + 1
  pub tried : new.tried ≡ old.tried ++ processor ∷ []

-- One did not begin. It said no Hello; or after a fault of the children, which names it, its start was tried, and a child that it gave was stopped; or memory was wanted before the
-- start, or behind it, and then the child was stopped before it was heard.
abbrev pub StopsOne : Plan → Try → Stop → State → State → Type 0
StopsOne plan processor (stop.Refused refusal) old new = SaysNone plan processor (stop.Refused refusal) old new
StopsOne plan processor (stop.Failed object) old new =
    (object ≡ stop.Children processor.0) × (Unstarted processor old new ⊎ session.Stopped processor (session.IsOf processor) old new)
StopsOne plan processor stop.Memory old new =
    Untried old new ⊎ session.Stopped processor (IsUnheard processor (init_frame plan processor.0)) old new

-- what comes of one
abbrev pub BeginsOne : Plan → Try → State → State → Result (ℕ × Hello) declared.Refusal → Type 0
BeginsOne plan processor old new (Ok begun) = SaysHello plan processor begun.0 begun.1 old new
BeginsOne plan processor old new (Err refusal) = StopsOne plan processor (stop_of refusal) old new

-- all said Hello: what they said, and their children, which were sent the first frame and no other
pub record AllSayHello (plan : Plan) (group : List ℕ) (said : List Hello) (old new : State) : Type 0 where
  pub hellos : hellos_from old.says plan [] plan.processors ≡ Ok said
  pub each : EachOf (Serves new.says) plan.processors group new.known
  pub shown : ShowsTo group plan.processors (map (first_sent plan) plan.processors) old new
  pub tried : new.tried ≡ old.tried ++ plan.processors

-- The processor behind those of the group did not, and its child was stopped.
pub record OneSaysNone (plan : Plan) (group : List ℕ) (refusal : Stop) (old new : State) : Type 0 where
  pub child : ℕ
  pub comes : StopsAs (hellos_from old.says plan [] plan.processors) (map (first_sent plan) (take (length group + 1) plan.processors)) refusal
  pub shown : ShowsTo (group ++ child ∷ []) plan.processors (map (first_sent plan) (take (length group + 1) plan.processors)) old new
  pub starts : new.starts ≡ old.starts + (length group + 1)
  pub tried : new.tried ≡ old.tried ++ take (length group + 1) plan.processors

-- what a run sends until all have said Hello, or one has not
abbrev pub sent_at_hello : Plan → Course (List Hello) → List Frames
sent_at_hello plan course = sent_by (λ (hellos : List Hello). map (first_sent plan) plan.processors) course

abbrev pub hellos_sent : Says → Plan → List Frames
hellos_sent says plan = sent_at_hello plan (hellos_from says plan [] plan.processors)

-- the group lives, with what each said of itself; or the processor behind it was refused
abbrev pub BeginsEach : Plan → List ℕ → State → State → Result (List Hello) declared.Refusal → Type 0
BeginsEach plan group old new (Ok hellos) = AllSayHello plan group hellos old new
BeginsEach plan group old new (Err refusal) =
    (is_due {T = Unit {0}} (Err refusal) ≡ true → OneSaysNone plan group (stop_of refusal) old new)
    × ShowsBehind (exempt_by (stop_of refusal)) plan.processors group (hellos_sent old.says plan) old new

-- one did not: children were started up to its own, sent the first frame, and stopped again
pub record StopsAtHello (plan : Plan) (refusal : Stop) (old new : State) : Type 0 where
  pub sent : List Frames
  pub comes : StopsAs (hellos_from old.says plan [] plan.processors) sent refusal
  pub shown : ShowsAll plan.processors sent old new
  pub starts : new.starts ≡ old.starts + length sent
  pub tried : new.tried ≡ old.tried ++ take (length sent) plan.processors

-- all live, or none does
abbrev pub Begins : Plan → State → State → Result code_discovered.Discovered declared.Refusal → Type 0
Begins plan old new (Ok d) = AllSayHello plan d.group d.hellos old new
Begins plan old new (Err refusal) =
    (is_due {T = Unit {0}} (Err refusal) ≡ true → StopsAtHello plan (stop_of refusal) old new)
    × ShowsNoMore (exempt_by (stop_of refusal)) plan.processors (hellos_sent old.says plan) old new
