-- What a clean run comes to: from the start of all processors over the rounds to their stops.
use Rattle.std.proofs.Common.{◌≡◌, ℕ, ◌+◌, ◌<◌, ◌≤◌, Bool, true, false, List, [], ◌∷◌, ◌++◌, length, map, take, Option, None, Some, Result, Ok, Err, refl, sym, ap, subst, ◌∙◌, append-nil, arith}
use Rattle.std.specs.Prelude.{replicate}
use Rattle.std.proofs.Math.Seq.{take-length}
use Rattle.std.proofs.lemmas.Bool.{false≢true}
use Rattle.std.proofs.lemmas.List.{length-map}
use Rattle.apt_outside.specs.Count.{Told}
use Rattle.apt_outside.specs.Child.{Says, Try, State}
use Rattle.apt_filer.specs.Filing.{Filings}
use Rattle.apt_filer.specs.Orders.{in_order}
use Rattle.wire_frames.specs.declared.frame.Creation.{Creation}
use Rattle.unit_locations.specs.LocatedTable.{LocatedTable}
use Rattle.apt_base.specs.declared.kinds.Kind.{Kind}
use Rattle.wire_frames.specs.declared.frame.Hello.{Hello}
use Rattle.processor_claims.specs.declared.supported.Supported.{Supported}
use Rattle.round_engine.specs.declared.rounds.PastRound.{PastRound}
use Rattle.run_entries.specs.declared.processed.Processed.{Processed}
use Rattle.round_engine.specs.declared.beginning.Discovered as code_discovered
use Rattle.apt_filer.specs.declared.messages.Placed.{Placed}
use Rattle.round_engine.specs.declared.progress.Progress as code_progress
use Rattle.record_forms.specs.declared.record.Key.{Key}
use Rattle.record_forms.specs.declared.record.KeyProcessor.{KeyProcessor}
use Rattle.project_units.specs.declared.refusal.Refusal as code
use Rattle.round_engine.specs.declared.rounds.Rounds.{Rounds}
use Rattle.round_engine.specs.declared.running.Finished as declared
use Rattle.project_units.specs.Refusals as stop
use Rattle.project_units.specs.Refusals.{Refusal, Stop, is_refusal, exempt_by}
use Rattle.project_units.specs.Faults.{stop_of, exempt_in}
use Rattle.project_units.proofs.CreationLemmas.{unread_none}
use Rattle.project_units.specs.Units.{all_of}
use Rattle.project_units.specs.Plans.{Plan, try_of, tries_in, name_of, names_in, kinds_in, plan_of}
use Rattle.round_engine.specs.Run.{Frames, Discovered, Progress, Finished, Run, first_sent, supported_in, hellos_from, discovered, start, new_filings, ask, next_of, rounds_before_last, rounds_from, asks_from, run_of, frames_of, ◌>>=◌}
use Rattle.project_units.specs.Creations.{unread_among}
use Rattle.round_engine.specs.Clean.{Has, Closes, ShowsWhole, Cleans, Talked}
use Rattle.round_engine.specs.Fronts.{FrontsBut}
use Rattle.round_engine.specs.Shown.{frames_to, all_sent, AreSent, Stands, standing, shown_discovered, shown_rounds, past_of_none, rounds_of_none, AttendsAll, StopsAs, hellos_sent, ShowsNoMore, sent_in_finished, Goes, EndsAll, TellsOf, TellsMore, StopsAll, AllSayHello, Begins}
use Rattle.round_engine.proofs.FrontsOfFrames.{fronts_more}
use Rattle.round_engine.proofs.FrontsOfHellos.{sent_to_each, sent_are, each_same, tells_no_more, shows_nothing, frames_by, run_fronts}
use Rattle.round_engine.proofs.StoppedProcessors.{sent_same, sent_count, all_same}

-- a run that came to its end, and one that was refused
abbrev ended_by : List Frames → ℕ → List Creation → List Placed → List (List ℕ) → LocatedTable → List Hello → List Processed → List PastRound → Run
ended_by sent rounds made messages unread table hellos processed past = Ok (record {
  sent = sent;
  rounds = rounds;
  made = made;
  messages = messages;
  unread = unread;
  table = table;
  hellos = hellos;
  processed = processed;
  past = past;
})

abbrev refused_by : List Frames → Refusal → Run
refused_by sent refusal = Err (record { sent = sent; refusal = refusal })

-- what a finished run has of the rounds is what they came to
module _ (sent : List Frames) (hellos : List Hello) (rounds : Rounds) (started : ℕ) (finished : declared.Finished) (closes : Closes rounds started hellos finished) where
  ended_so : ended_by sent rounds.count rounds.made rounds.messages rounds.unread rounds.table hellos rounds.processed rounds.past
      ≡ ended_by sent finished.rounds rounds.made finished.messages finished.unread finished.table finished.hellos finished.processed finished.past
  ended_so = λ i. ended_by sent (sym closes.rounds i) rounds.made (sym closes.messages i) (sym closes.unread i) (sym closes.table i) (sym closes.hellos i) (sym closes.processed i) (sym closes.past i)

-- ---- where it is told

pub talked : (talks : Bool) (processors : List Try) (P : Type 0) → P → Talked talks processors P
talked talks [] P p = p
talked talks (processor ∷ others) P p = λ told. p

pub talked_told : (talks : Bool) (processors : List Try) (P : Type 0) → 0 < length processors → Told talks P → Talked talks processors P
talked_told talks [] P some p = absurd (omega (arith, some))
talked_told talks (processor ∷ others) P some p = p

-- ---- no processor

run_empty : (says : Says) (level : ℕ) (options : List (List ℕ × List ℕ)) (kinds : List Kind) (table : LocatedTable)
    → run_of says (record { level = level; options = options; processors = []; kinds = kinds }) table ≡ ended_by [] 2 [] [] (unread_among []) table [] [] (past_of_none table)
unfolding rounds_from asks_from in_order
run_empty says level options kinds table = refl

-- nobody is asked in two rounds
pub run_none : (says : Says) (plan : Plan) (table : LocatedTable) → plan.processors ≡ [] → run_of says plan table ≡ ended_by [] 2 [] [] [] table [] [] (past_of_none table)
run_none says plan table none =
    ap (λ (processors : List Try). run_of says (record { level = plan.level; options = plan.options; processors = processors; kinds = plan.kinds }) table) none
    ∙ run_empty says plan.level plan.options plan.kinds table ∙ ap (λ unread. ended_by [] 2 [] [] unread table [] [] (past_of_none table)) unread_none

pub cleans_none : (plan : Plan) (table : LocatedTable) (k : State) (finished : declared.Finished) → plan.processors ≡ []
    → Closes (rounds_of_none table) 0 [] finished → Has [] finished → Cleans plan table k k (Ok finished)
cleans_none plan table k finished none closes has =
    let whole = run_none k.says plan table none in
    let sent : frames_of (run_of k.says plan table) ≡ [] = ap frames_of whole in
    record {
      comes = record {
        made = [];
        is = whole ∙ ended_so [] [] (rounds_of_none table) 0 finished closes
            ∙ ap (λ frames. ended_by frames finished.rounds [] finished.messages finished.unread finished.table finished.hellos finished.processed finished.past) (sym sent);
        has = has;
        started = closes.started ∙ ap length (sym none);
      };
      more = tells_no_more None plan.processors (frames_of (run_of k.says plan table)) k k (shows_nothing plan.processors (frames_of (run_of k.says plan table)) k);
      fronts = shows_nothing plan.processors (frames_of (run_of k.says plan table)) k;
      shown = λ due. record {
        frames = ([], record { tells = record { different = tt; unknown = tt; others = λ child out. refl }; shown = subst (λ s. AreSent plan.processors s [] k.known) (sym sent) tt });
        starts = omega (arith, ap length sent);
        tried = sym (append-nil k.tried) ∙ ap (λ n. k.tried ++ take n plan.processors) (ap length (sym sent));
      };
    }

-- ---- memory was wanted

pub cleans_memory : (plan : Plan) (table : LocatedTable) (k0 k : State) (refusal : code.Refusal) → stop_of refusal ≡ stop.Memory → ShowsNoMore None plan.processors (frames_of (run_of k0.says plan table)) k0 k → Cleans plan table k0 k (Err refusal)
cleans_memory plan table k0 k refusal memory none = record {
  comes = subst (StopsAs (run_of k0.says plan table) (frames_of (run_of k0.says plan table))) (sym memory) tt;
  more = tells_no_more None plan.processors (frames_of (run_of k0.says plan table)) k0 k none;
  fronts = subst (λ s. ShowsNoMore (exempt_by s) plan.processors (frames_of (run_of k0.says plan table)) k0 k) (sym memory) none;
  shown = λ due. absurd (false≢true (ap is_refusal (sym memory) ∙ due));
}

-- ---- a run that stops

-- what stops so sent just these frames
stopped_frames : (whole : Run) (sent : List Frames) (s : Stop) → is_refusal s ≡ true → StopsAs whole sent s → frames_of whole ≡ sent
stopped_frames whole sent (stop.Refused refusal) due is = ap frames_of is
stopped_frames whole sent (stop.Failed object) due is = absurd (false≢true due)
stopped_frames whole sent stop.Memory due is = absurd (false≢true due)

stopped_whole : (whole : Run) (sent : List Frames) (s : Stop) → StopsAs whole sent s → StopsAs whole (frames_of whole) s
stopped_whole whole sent (stop.Refused refusal) is = is ∙ ap (λ frames. refused_by frames refusal) (sym (ap frames_of is))
stopped_whole whole sent (stop.Failed object) is = tt
stopped_whole whole sent stop.Memory is = tt

-- at a Hello
hello_stops : (says : Says) (plan : Plan) (table : LocatedTable) (sent : List Frames) (s : Stop) → StopsAs (hellos_from says plan [] plan.processors) sent s → StopsAs (run_of says plan table) sent s
hello_stops says plan table sent (stop.Refused refusal) is = ap (λ o. o >>= (λ hellos. rounds_from ask (discovered says plan hellos) rounds_before_last (next_of 1 (all_of table)) (start plan table))) is
hello_stops says plan table sent (stop.Failed object) is = tt
hello_stops says plan table sent stop.Memory is = tt

-- only a refusal has to be what the run comes to
due_comes : (whole : Run) (s : Stop) → (is_refusal s ≡ true → StopsAs whole (frames_of whole) s) → StopsAs whole (frames_of whole) s
due_comes whole (stop.Refused refusal) due = due refl
due_comes whole (stop.Failed object) due = tt
due_comes whole stop.Memory due = tt

pub cleans_at_hello : (plan : Plan) (table : LocatedTable) (k0 k : State) (refusal : code.Refusal) → Begins plan k0 k (Err refusal) → Cleans plan table k0 k (Err refusal)
cleans_at_hello plan table k0 k refusal begins = record {
  comes = due_comes (run_of k0.says plan table) (stop_of refusal)
      (λ due. let h = begins.0 due in stopped_whole (run_of k0.says plan table) h.sent (stop_of refusal) (hello_stops k0.says plan table h.sent (stop_of refusal) h.comes));
  more = tells_no_more (exempt_by (stop_of refusal)) plan.processors (hellos_sent k0.says plan) k0 k begins.1;
  fronts = record {
    group = begins.1.group;
    shows = record {
      tells = begins.1.shows.tells;
      theirs = begins.1.shows.theirs;
      fronts = fronts_more (exempt_by (stop_of refusal)) plan.processors (all_sent k.known begins.1.group) (hellos_sent k0.says plan) (frames_of (run_of k0.says plan table)) begins.1.shows.fronts (run_fronts k0.says plan table);
      tries = record { count = begins.1.shows.tries.count; few = omega (arith, begins.1.shows.tries.few, (run_fronts k0.says plan table).few); tried = begins.1.shows.tries.tried };
    };
  };
  shown = λ due.
      let h = begins.0 due in
      let sent : frames_of (run_of k0.says plan table) ≡ h.sent = stopped_frames (run_of k0.says plan table) h.sent (stop_of refusal) due (hello_stops k0.says plan table h.sent (stop_of refusal) h.comes) in
      record {
        frames = (h.shown.0, record { tells = h.shown.1.tells; shown = subst (λ frames. AreSent plan.processors frames h.shown.0 k.known) (sym sent) h.shown.1.shown });
        starts = h.starts ∙ ap (λ (frames : List Frames). k0.starts + length frames) (sym sent);
        tried = h.tried ∙ ap (λ (frames : List Frames). k0.tried ++ take (length frames) plan.processors) (sym sent);
      };
}

-- ---- all said Hello

names_are : (processors : List KeyProcessor) → map (λ (t : Try). t.0) (map try_of processors) ≡ map name_of processors
names_are [] = refl
names_are (p ∷ processors) = ap (λ names. p.name ∷ names) (names_are processors)

-- what is known of the processors of a key that said Hello
pub record AreOf (key : Key) (d : code_discovered.Discovered) : Type 0 where
  pub names : d.names ≡ names_in key
  pub kinds : d.kinds ≡ kinds_in key
  pub supported : d.supported ≡ map supported_in d.hellos

-- nothing was done yet
pub record IsFirst (key : Key) (table : LocatedTable) (p : code_progress.Progress) : Type 0 where
  pub contributed : p.contributed.items ≡ replicate (length key.processors) false
  pub filed : p.filer ≡ new_filings table
  pub printed : p.messages ≡ []
  pub processed : p.processed ≡ []
  pub past : p.past ≡ []

pub run_is : {key : Key} {d : code_discovered.Discovered} → d.names ≡ names_in key → d.kinds ≡ kinds_in key → d.supported ≡ map supported_in d.hellos → AreOf key d
run_is names kinds supported = record { names = names; kinds = kinds; supported = supported }

pub first_is : {key : Key} {table : LocatedTable} {p : code_progress.Progress} → p.contributed.items ≡ replicate (length key.processors) false → p.filer ≡ new_filings table → p.messages ≡ [] → p.processed ≡ [] → p.past ≡ []
    → IsFirst key table p
first_is contributed filed printed processed past = record { contributed = contributed; filed = filed; printed = printed; processed = processed; past = past }

module _ (key : Key) (table : LocatedTable) (d : code_discovered.Discovered) (p : code_progress.Progress) (k0 k1 k2 k3 : State) (are : AreOf key d)
    (begins : AllSayHello (plan_of key) d.group d.hellos k0 k1) (said : k1.says ≡ k0.says) (first : IsFirst key table p)
    (attends : AttendsAll d.group k1 k2) (stops : StopsAll d.group k2 k3) (result : Result Rounds code.Refusal) (ends : EndsAll d table p k1 k2 result) where
  abbrev plan : Plan
  plan = plan_of key

  abbrev processors : List Try
  processors = tries_in key

  abbrev whole : Run
  whole = run_of k0.says plan table

  count : length d.group ≡ length processors
  count = sym (sent_count processors (map (first_sent plan) processors) d.group k1.known begins.shown.shown) ∙ length-map processors (first_sent plan)

  stands : Stands d processors k1
  stands = record { names = names_are key.processors ∙ sym are.names; count = count; different = begins.shown.tells.different; each = begins.each }

  abbrev progress_of : List Frames → List Bool → Filings → List Placed → List Processed → List PastRound → Progress
  progress_of sent contributed filings messages processed past =
      record { sent = sent; contributed = contributed; filings = filings; messages = messages; processed = processed; past = past }

  standing_is : start plan table ≡ standing d.group p k1
  standing_is =
      ap (λ sent. progress_of sent (replicate (length processors) false) (new_filings table) [] [] []) (sym (sent_are processors (map (first_sent plan) processors) d.group k1.known begins.shown.shown))
      ∙ ap (λ c. progress_of (all_sent k1.known d.group) c (new_filings table) [] [] []) (ap (λ n. replicate n false) (length-map key.processors try_of) ∙ sym first.contributed)
      ∙ ap (λ f. progress_of (all_sent k1.known d.group) p.contributed.items f [] [] []) (sym first.filed)
      ∙ ap (λ ms. progress_of (all_sent k1.known d.group) p.contributed.items p.filer ms [] []) (sym first.printed)
      ∙ ap (λ done. progress_of (all_sent k1.known d.group) p.contributed.items p.filer p.messages done []) (sym first.processed)
      ∙ ap (progress_of (all_sent k1.known d.group) p.contributed.items p.filer p.messages p.processed) (sym first.past)

  abbrev discovered_by : Says → List Kind → List Supported → Discovered
  discovered_by says kinds supported = record { says = says; processors = processors; kinds = kinds; hellos = d.hellos; supported = supported }

  discovered_is : discovered k0.says plan d.hellos ≡ shown_discovered k0.says processors d
  discovered_is = ap (λ kinds. discovered_by k0.says kinds (map supported_in d.hellos)) (sym are.kinds) ∙ ap (discovered_by k0.says d.kinds) (sym are.supported)

  abbrev rounds_of : Discovered → Progress → Run
  rounds_of discovered before = rounds_from ask discovered rounds_before_last (next_of 1 (all_of table)) before

  whole_is : whole ≡ rounds_of (shown_discovered k1.says processors d) (standing d.group p k1)
  whole_is = ap (λ o. o >>= (λ hellos. rounds_from ask (discovered k0.says plan hellos) rounds_before_last (next_of 1 (all_of table)) (start plan table))) begins.hellos
      ∙ ap (λ all. rounds_of all (start plan table)) discovered_is ∙ ap (rounds_of (shown_discovered k0.says processors d)) standing_is
      ∙ ap (λ says. rounds_of (shown_discovered says processors d) (standing d.group p k1)) (sym said)

  goes : Goes sent_in_finished d processors whole (λ rounds. shown_rounds d rounds k2) result k2
  goes = subst (λ course. Goes sent_in_finished d processors course (λ rounds. shown_rounds d rounds k2) result k2) (sym whole_is) (ends processors stands)

  tells : TellsOf d.group k0 k3
  tells = record {
    different = begins.shown.tells.different;
    unknown = begins.shown.tells.unknown;
    others = λ child out. stops.attends.others child out ∙ attends.others child out ∙ begins.shown.tells.others child out;
  }

  few_so : (exempt : Option (List ℕ)) (a b : List Frames) → FrontsBut exempt processors a b → length a ≤ length b
  few_so None a b fronts = fronts.few
  few_so (Some name) a b fronts = fronts.few

  -- whatever came of it
  fronts_so : FrontsBut (exempt_in result) processors (all_sent k3.known d.group) (frames_of whole)
  fronts_so = subst (λ sent. FrontsBut (exempt_in result) processors sent (frames_of whole)) (sym (all_same processors d.group k2.known k3.known stops.same goes.same))
      (frames_by k0.says plan (exempt_in result) processors (all_sent k2.known d.group) whole goes.fronts)

  as_many : length (all_sent k3.known d.group) ≡ length processors
  as_many = length-map d.group (frames_to k3.known) ∙ count

  pub all_shown : ShowsNoMore (exempt_in result) processors (frames_of whole) k0 k3
  all_shown = record {
    group = d.group;
    shows = record {
      tells = tells;
      theirs = each_same processors d.group k2.known k3.known stops.same goes.same;
      fronts = fronts_so;
      tries = record {
        count = length processors;
        few = omega (arith, as_many, few_so (exempt_in result) (all_sent k3.known d.group) (frames_of whole) fronts_so);
        tried = stops.attends.same_tried ∙ attends.same_tried ∙ begins.tried ∙ ap (λ ps. k0.tried ++ ps) (sym (take-length processors));
      };
    };
  }

  all_more : TellsMore (length processors) k0 k3
  all_more = tells_no_more (exempt_in result) processors (frames_of whole) k0 k3 all_shown

  shows : k3.starts ≡ k0.starts + length processors → frames_of whole ≡ all_sent k2.known d.group → ShowsWhole processors whole k0 k3
  shows starts frames =
      let many : length (frames_of whole) ≡ length processors = ap length frames ∙ length-map d.group (frames_to k2.known) ∙ count in
      record {
        frames = (
          d.group,
          record {
            tells = tells;
            shown = subst (λ sent. AreSent processors sent d.group k3.known) (sym frames) (sent_same processors (all_sent k2.known d.group) d.group k2.known k3.known stops.same (sent_to_each processors d.group k2.known goes.same));
          },
        );
        starts = starts ∙ ap (λ n. k0.starts + n) (sym many);
        tried = stops.attends.same_tried ∙ attends.same_tried ∙ begins.tried ∙ ap (λ ps. k0.tried ++ ps) (sym (ap (λ n. take n processors) many ∙ take-length processors));
      }

  -- the rounds were refused
  pub cleans_stopped : (refusal : code.Refusal) → result ≡ Err refusal → k3.starts ≡ k0.starts + length processors → Cleans plan table k0 k3 (Err refusal)
  cleans_stopped refusal is starts =
      let refused : Goes sent_in_finished d processors whole (λ rounds. shown_rounds d rounds k2) (Err refusal) k2 = subst (λ o. Goes sent_in_finished d processors whole (λ rounds. shown_rounds d rounds k2) o k2) is goes in
      record {
        comes = stopped_whole whole (all_sent k2.known d.group) (stop_of refusal) refused.comes;
        more = all_more;
        fronts = subst (λ o. ShowsNoMore (exempt_in o) processors (frames_of whole) k0 k3) is all_shown;
        shown = λ due. shows starts (stopped_frames whole (all_sent k2.known d.group) (stop_of refusal) due refused.comes);
      }

  -- they came to their end
  module _ (rounds : Rounds) (finished : declared.Finished) (is : result ≡ Ok rounds) (closes : Closes rounds (length processors) d.hellos finished) (has : Has rounds.made finished) where
    ended : Goes sent_in_finished d processors whole (λ all. shown_rounds d all k2) (Ok rounds) k2
    ended = subst (λ o. Goes sent_in_finished d processors whole (λ all. shown_rounds d all k2) o k2) is goes

    pub cleans_so : k3.starts ≡ k0.starts + length processors → Cleans plan table k0 k3 (Ok finished)
    cleans_so starts =
        let sent : frames_of whole ≡ all_sent k2.known d.group = ap frames_of ended.comes in
        record {
          comes = record {
            made = rounds.made;
            is = ended.comes ∙ ended_so (all_sent k2.known d.group) d.hellos rounds (length processors) finished closes
                ∙ ap (λ frames. ended_by frames finished.rounds rounds.made finished.messages finished.unread finished.table finished.hellos finished.processed finished.past) (sym sent);
            has = has;
            started = closes.started;
          };
          more = all_more;
          fronts = subst (λ o. ShowsNoMore (exempt_in o) processors (frames_of whole) k0 k3) is all_shown;
          shown = λ due. shows starts sent;
        }
