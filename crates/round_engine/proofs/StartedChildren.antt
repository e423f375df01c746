-- Children of a run that are started one after another and say Hello.
use Rattle.std.proofs.Common.{◌≡◌, ◌≢◌, ◌⊎◌, ◌+◌, ℕ, List, [], ◌∷◌, ◌++◌, length, map, take, Option, None, Some, Result, Ok, Err, IsSomeAnd, refl, sym, ap, subst, ◌∙◌, inl, inr, append-nil, append_assoc, length-append, arith}
use Rattle.std.specs.Prelude.{slice_get}
use Rattle.std.proofs.Math.Seq.{take-append_seam}
use Rattle.std.specs.List.{AllByRecursion}
use Rattle.apt_outside.specs.Child.{Says, Try, Child, Known, State, OthersKept, AllKept}
use Rattle.frame_breaches.specs.declared.breach.Breach.{Breach}
use Rattle.wire_frames.specs.declared.frame.Hello.{Hello}
use Rattle.child_session.specs.Beginning as session
use Rattle.child_session.specs.Round.{IsFront}
use Rattle.project_units.specs.Refusals as stop
use Rattle.project_units.specs.Refusals.{Stop, LeavesProtocol, exempt_by}
use Rattle.project_units.specs.Plans.{Plan, init_frame}
use Rattle.round_engine.specs.Run.{Frames, Course, first_sent, hello_of, greeting, hellos_from, ◌>>=◌}
use Rattle.std.proofs.lemmas.List.{map-append, length-map}
use Rattle.round_engine.specs.Fronts.{AreFronts, FrontsBut}
use Rattle.round_engine.specs.Shown.{EachOf, IsOf, Serves, IsOutside, AreDifferent, IsSent, AreSent, TellsOf, all_sent, frames_to, sent_at_hello, hellos_sent, TriesUpTo, ShowsFronts, ShowsBehind, StopsAs, SaysHello, SaysNone, StopsOne, AllSayHello, OneSaysNone}
use Rattle.round_engine.proofs.ChildrenOfARun.{frames_in, all_sent-outside, each-weaker}
use Rattle.round_engine.proofs.BegunProcessors.{begun_is}
use Rattle.round_engine.proofs.FrontsOfHellos.{fronts_last, fronts_one_more, fronts_no_more, named_next, sent_are, each_front, each_kept, sent_kept, hello_fronts, hello_next}
use Rattle.round_engine.proofs.FrontsOfFrames.{front_same}

-- ---- a child more

-- one of which nothing is known is none of a group that is known
outside_known : (P : Try → Child → Type 0) (processors : List Try) (group : List ℕ) (known : Known) (child : ℕ) → EachOf P processors group known → known child ≡ None → IsOutside child group
outside_known P processors [] known child each none = tt
outside_known P [] (k ∷ group) known child each none = absurd each
outside_known P (p ∷ processors) (k ∷ group) known child each none =
    (λ e. absurd (subst (λ o. IsSomeAnd o (P p)) none (subst (λ n. IsSomeAnd (known n) (P p)) e each.0)), outside_known P processors group known child each.1 none)

outside_more : (child new : ℕ) (group : List ℕ) → IsOutside child group → new ≢ child → IsOutside child (group ++ new ∷ [])
outside_more child new [] out other = (other, tt)
outside_more child new (k ∷ group) out other = (out.0, outside_more child new group out.1 other)

outside_split : (child new : ℕ) (group : List ℕ) → IsOutside child (group ++ new ∷ []) → IsOutside child group × (new ≢ child)
outside_split child new [] out = (tt, out.0)
outside_split child new (k ∷ group) out = let later = outside_split child new group out.1 in ((out.0, later.0), later.1)

different_more : (new : ℕ) (group : List ℕ) → AreDifferent group → IsOutside new group → AreDifferent (group ++ new ∷ [])
different_more new [] different out = (tt, tt)
different_more new (k ∷ group) different out = (outside_more k new group different.0 (λ e. out.0 (sym e)), different_more new group different.1 out.1)

all_more : (P : ℕ → Type 0) (new : ℕ) (group : List ℕ) → AllByRecursion P group → P new → AllByRecursion P (group ++ new ∷ [])
all_more P new [] all this = (this, tt)
all_more P new (k ∷ group) all this = (all.0, all_more P new group all.1 this)

kept_on : (child : ℕ) (k : ℕ) (old new : Known) (P : Child → Type 0) → OthersKept child old new → (k ≢ child) → IsSomeAnd (old k) P → IsSomeAnd (new k) P
kept_on child k old new P kept other fact = subst (λ o. IsSomeAnd o P) (sym (kept k other)) fact

-- the facts of a group, and that of one more
each_more : (P : Try → Child → Type 0) (before : List Try) (group : List ℕ) (p : Try) (child : ℕ) (old new : Known) → length group ≡ length before → OthersKept child old new → IsOutside child group
    → EachOf P before group old → IsSomeAnd (new child) (P p) → EachOf P (before ++ p ∷ []) (group ++ child ∷ []) new
each_more P [] [] p child old new count kept out each this = (this, tt)
each_more P [] (k ∷ group) p child old new count kept out each this = absurd each
each_more P (q ∷ before) [] p child old new count kept out each this = absurd (omega (arith, count))
each_more P (q ∷ before) (k ∷ group) p child old new count kept out each this =
    (kept_on child k old new (P q) kept out.0 each.0, each_more P before group p child old new (omega (arith, count)) kept out.1 each.1 this)

sent_more : (f : Try → Frames) (before : List Try) (group : List ℕ) (p : Try) (child : ℕ) (old new : Known) → OthersKept child old new → IsOutside child group
    → AreSent before (map f before) group old → IsSomeAnd (new child) (IsSent p (f p)) → AreSent (before ++ p ∷ []) (map f (before ++ p ∷ [])) (group ++ child ∷ []) new
sent_more f [] [] p child old new kept out sent this = (this, tt)
sent_more f [] (k ∷ group) p child old new kept out sent this = absurd sent
sent_more f (q ∷ before) [] p child old new kept out sent this = absurd sent
sent_more f (q ∷ before) (k ∷ group) p child old new kept out sent this = (kept_on child k old new (IsSent q (f q)) kept out.0 sent.0, sent_more f before group p child old new kept out.1 sent.1 this)

-- further processors have no child yet
sent_front : (before later : List Try) (sent : List Frames) (group : List ℕ) (known : Known) → AreSent before sent group known → AreSent (before ++ later) sent group known
sent_front before later [] [] known are = tt
sent_front [] later [] (k ∷ group) known are = absurd are
sent_front (q ∷ before) later [] (k ∷ group) known are = absurd are
sent_front [] later (f ∷ sent) [] known are = absurd are
sent_front (q ∷ before) later (f ∷ sent) [] known are = absurd are
sent_front [] later (f ∷ sent) (k ∷ group) known are = absurd are
sent_front (q ∷ before) later (f ∷ sent) (k ∷ group) known are = (are.0, sent_front before later sent group known are.1)

tells_more : (P : Child → Type 0) (group : List ℕ) (child : ℕ) (old now new : State) → TellsOf group old now → IsOutside child group → session.TellsOf child P now new → TellsOf (group ++ child ∷ []) old new
tells_more P group child old now new so_far out tells = record {
  different = different_more child group so_far.different out;
  unknown = all_more (λ k. old.known k ≡ None) child group so_far.unknown (sym (so_far.others child out) ∙ tells.unknown);
  others = λ k outside. let split = outside_split k child group outside in tells.others k (λ e. split.1 (sym e)) ∙ so_far.others k split.0;
}

take_front : {X : Type 0} (xs ys : List X) (n : ℕ) → n ≡ length xs → take n (xs ++ ys) ≡ xs
take_front xs ys n is = ap (λ k. take k (xs ++ ys)) is ∙ take-append_seam xs ys

-- ---- Hello

-- what those before said, and then what is to come
abbrev pub onto : List Hello → Course (List Hello) → Course (List Hello)
onto front (Ok list) = Ok (front ++ list)
onto front (Err stopped) = Err stopped

onto_more : (front : List Hello) (one : Hello) (later : Course (List Hello)) → onto front (later >>= (λ others. Ok (one ∷ others))) ≡ onto (front ++ one ∷ []) later
onto_more front one (Ok list) = ap Ok (sym (append_assoc front (one ∷ []) list))
onto_more front one (Err stopped) = refl

onto_none : (later : Course (List Hello)) → onto [] later ≡ later
onto_none (Ok list) = refl
onto_none (Err stopped) = refl

-- The processors before said Hello, and these are left.
pub record Begun (plan : Plan) (before : List Try) (group : List ℕ) (greeted : List Hello) (later : List Try) (old now : State) : Type 0 where
  pub all : before ++ later ≡ plan.processors
  pub count : length group ≡ length before
  pub same_says : now.says ≡ old.says
  pub hellos : onto greeted (hellos_from old.says plan before later) ≡ hellos_from old.says plan [] plan.processors
  pub each : EachOf (Serves now.says) before group now.known
  pub tells : TellsOf group old now
  pub sent : AreSent before (map (first_sent plan) before) group now.known
  pub tried : now.tried ≡ old.tried ++ before

pub begun_none : (plan : Plan) (k : State) → Begun plan [] [] [] plan.processors k k
begun_none plan k = record {
  all = refl;
  count = refl;
  same_says = refl;
  hellos = onto_none (hellos_from k.says plan [] plan.processors);
  each = tt;
  tells = record { different = tt; unknown = tt; others = λ child out. refl };
  sent = tt;
  tried = sym (append-nil k.tried);
}

onto_sent : (plan : Plan) (front : List Hello) (later : Course (List Hello)) → sent_at_hello plan (onto front later) ≡ sent_at_hello plan later
onto_sent plan front (Ok list) = refl
onto_sent plan front (Err stopped) = refl

module _ (plan : Plan) (before : List Try) (group : List ℕ) (greeted : List Hello) (later : List Try) (old now : State) (so_far : Begun plan before group greeted later old now) where
  sent_first : all_sent now.known group ≡ map (first_sent plan) before
  sent_first = sent_are before (map (first_sent plan) before) group now.known so_far.sent

  -- what they were sent is the first of what all are sent
  first_fronts : AreFronts (map (first_sent plan) before) (hellos_sent old.says plan)
  first_fronts = subst (AreFronts (map (first_sent plan) before)) (sym (onto_sent plan greeted (hellos_from old.says plan before later)) ∙ ap (sent_at_hello plan) so_far.hellos)
      (hello_fronts old.says plan before later so_far.all)

  his : EachOf IsOf before group now.known
  his = each-weaker (Serves now.says) IsOf (λ q c serves. serves.is) before group now.known so_far.each

  -- the starts that were tried are theirs
  tries_before : (new : State) → new.tried ≡ now.tried → TriesUpTo (length (hellos_sent old.says plan)) plan.processors old new
  tries_before new tried = record {
    count = length before;
    few = omega (arith, first_fronts.few, length-map before (first_sent plan));
    tried = tried ∙ so_far.tried ∙ ap (λ xs. old.tried ++ xs) (sym (ap (take (length before)) (sym so_far.all) ∙ take_front before later (length before) refl));
  }

  -- nothing is told anew but of these
  begun_untold : (exempt : Option (List ℕ)) (new : State) → AllKept now.known new.known → FrontsBut exempt plan.processors (map (first_sent plan) before) (hellos_sent old.says plan)
      → TriesUpTo (length (hellos_sent old.says plan)) plan.processors old new → ShowsBehind exempt plan.processors group (hellos_sent old.says plan) old new
  begun_untold exempt new kept fronts tries = record {
    others = [];
    shows = subst (λ xs. ShowsFronts exempt plan.processors xs (hellos_sent old.says plan) old new) (sym (append-nil group)) (record {
      tells = record { different = so_far.tells.different; unknown = so_far.tells.unknown; others = λ child out. kept child ∙ so_far.tells.others child out };
      theirs = subst (λ xs. EachOf IsOf xs group new.known) so_far.all (each_front IsOf before later group new.known (each_kept IsOf before group now.known new.known kept his));
      fronts = subst (λ sent. FrontsBut exempt plan.processors sent (hellos_sent old.says plan)) (sym (sent_kept group now.known new.known kept ∙ sent_first)) fronts;
      tries = tries;
    });
  }

  -- memory was wanted
  pub begun_nothing : (new : State) → AllKept now.known new.known → new.tried ≡ now.tried → ShowsBehind None plan.processors group (hellos_sent old.says plan) old new
  begun_nothing new kept tried = begun_untold None new kept first_fronts (tries_before new tried)

-- what the next one says
abbrev then_hellos : Says → Plan → List Try → Try → List Try → Result Hello Breach → Course (List Hello)
then_hellos says plan before p later o = greeting plan before p o >>= (λ greeted. hellos_from says plan (before ++ p ∷ []) later >>= (λ others. Ok (greeted ∷ others)))

module _ (plan : Plan) (before : List Try) (group : List ℕ) (greeted : List Hello) (p : Try) (later : List Try) (old now : State) (so_far : Begun plan before group greeted (p ∷ later) old now) where
  said : hello_of now.says plan p ≡ hello_of old.says plan p
  said = ap (λ says. hello_of says plan p) so_far.same_says

  outside : (child : ℕ) → now.known child ≡ None → IsOutside child group
  outside child none = outside_known (Serves now.says) before group now.known child so_far.each none

  -- it said Hello
  pub begun_one : (child : ℕ) (one : Hello) (new : State) → SaysHello plan p child one now new → new.says ≡ now.says → Begun plan (before ++ p ∷ []) (group ++ child ∷ []) (greeted ++ one ∷ []) later old new
  begun_one child one new hello same =
      let out = outside child hello.tells.unknown in
      let fact = hello.tells.fact in
      record {
        all = append_assoc before (p ∷ []) later ∙ so_far.all;
        count = omega (arith, so_far.count, length-append group (child ∷ []), length-append before (p ∷ []));
        same_says = same ∙ so_far.same_says;
        hellos = sym (onto_more greeted one (hellos_from old.says plan (before ++ p ∷ []) later))
            ∙ ap (λ o. onto greeted (then_hellos old.says plan before p later o)) (sym hello.hello ∙ said) ∙ so_far.hellos;
        each = each_more (Serves new.says) before group p child now.known new.known so_far.count hello.tells.others out (subst (λ says. EachOf (Serves says) before group now.known) (sym same) so_far.each) (serves (new.known child) fact);
        tells = tells_more _ group child old now new so_far.tells out hello.tells;
        sent = sent_more (first_sent plan) before group p child now.known new.known hello.tells.others out so_far.sent (is_sent (new.known child) fact);
        tried = hello.tried ∙ ap (λ xs. xs ++ p ∷ []) so_far.tried ∙ append_assoc old.tried before (p ∷ []);
      }
    where
      serves : (o : Option Child) → IsSomeAnd o (session.HasBegun new.says p (init_frame plan p.0)) → IsSomeAnd o (Serves new.says p)
      serves None h = absurd h
      serves (Some c) h = record { is = record { name = h.begun.is.name; command = h.begun.is.command }; answered = h.answered }

      is_sent : (o : Option Child) → IsSomeAnd o (session.HasBegun new.says p (init_frame plan p.0)) → IsSomeAnd o (IsSent p (first_sent plan p))
      is_sent None h = absurd h
      is_sent (Some c) h = record { name = h.begun.is.name; command = h.begun.is.command; frames = h.begun.sent }

  -- it said none, and was stopped
  pub begun_stops : (refusal : Stop) (new : State) → SaysNone plan p refusal now new → new.starts ≡ now.starts + 1 → now.starts ≡ old.starts + length group → OneSaysNone plan group refusal old new
  begun_stops refusal new none starts before_starts =
      let child = none.child in
      let out = outside child none.tells.unknown in
      let front : take (length group + 1) plan.processors ≡ before ++ p ∷ [] =
      ap (take (length group + 1)) (sym so_far.all ∙ sym (append_assoc before (p ∷ []) later)) ∙ take_front (before ++ p ∷ []) later (length group + 1) (omega (arith, so_far.count, length-append before (p ∷ []))) in
      let sent_is : map (first_sent plan) (take (length group + 1) plan.processors) ≡ map (first_sent plan) (before ++ p ∷ []) = ap (map (first_sent plan)) front in
      record {
        child = child;
        comes = subst (StopsAs (hellos_from old.says plan [] plan.processors) (map (first_sent plan) (take (length group + 1) plan.processors))) (sym none.is)
            (sym so_far.hellos ∙ ap (λ o. onto greeted (then_hellos old.says plan before p later o)) (sym said ∙ none.hello)
            ∙ ap (λ sent. Err (record { sent = sent; refusal = LeavesProtocol p.0 none.breach })) (sym sent_is));
        shown = record {
          tells = tells_more _ group child old now new so_far.tells out none.tells;
          shown = subst (λ sent. AreSent plan.processors sent (group ++ child ∷ []) new.known) (sym sent_is)
              (subst (λ xs. AreSent xs (map (first_sent plan) (before ++ p ∷ [])) (group ++ child ∷ []) new.known) (append_assoc before (p ∷ []) later ∙ so_far.all)
              (sent_front (before ++ p ∷ []) later (map (first_sent plan) (before ++ p ∷ [])) (group ++ child ∷ []) new.known
              (sent_more (first_sent plan) before group p child now.known new.known none.tells.others out so_far.sent (is_sent (new.known child) none.tells.fact))));
        };
        starts = starts ∙ ap (λ n. n + 1) before_starts ∙ omega arith;
        tried = none.tried ∙ ap (λ xs. xs ++ p ∷ []) so_far.tried ∙ append_assoc old.tried before (p ∷ []) ∙ ap (λ xs. old.tried ++ xs) (sym front);
      }
    where
      is_sent : (o : Option Child) → IsSomeAnd o (session.IsBegun p (init_frame plan p.0)) → IsSomeAnd o (IsSent p (first_sent plan p))
      is_sent None h = absurd h
      is_sent (Some c) h = record { name = h.is.name; command = h.is.command; frames = h.sent }

  -- what all are sent begins with what these and it are sent
  next_fronts : AreFronts (map (first_sent plan) before ++ first_sent plan p ∷ []) (hellos_sent old.says plan)
  next_fronts = subst (AreFronts (map (first_sent plan) before ++ first_sent plan p ∷ [])) (sym (onto_sent plan greeted (hellos_from old.says plan before (p ∷ later))) ∙ ap (sent_at_hello plan) so_far.hellos)
      (hello_next old.says plan before p later so_far.all)

  named : IsSomeAnd (slice_get plan.processors (length (map (first_sent plan) before))) (λ (q : Try). q.0 ≡ p.0)
  named = subst (λ n. IsSomeAnd (slice_get plan.processors n) (λ (q : Try). q.0 ≡ p.0)) (sym (length-map before (first_sent plan))) (named_next before p later plan.processors so_far.all)

  -- its start was tried
  tries_next : (new : State) → new.tried ≡ now.tried ++ p ∷ [] → TriesUpTo (length (hellos_sent old.says plan)) plan.processors old new
  tries_next new tried = record {
    count = length (before ++ p ∷ []);
    few = omega (arith, next_fronts.few, length-append (map (first_sent plan) before) (first_sent plan p ∷ []), length-map before (first_sent plan), length-append before (p ∷ []));
    tried = tried ∙ ap (λ xs. xs ++ p ∷ []) so_far.tried ∙ append_assoc old.tried before (p ∷ [])
        ∙ ap (λ xs. old.tried ++ xs) (sym (ap (take (length (before ++ p ∷ []))) (sym so_far.all ∙ sym (append_assoc before (p ∷ []) later)) ∙ take_front (before ++ p ∷ []) later (length (before ++ p ∷ [])) refl));
  }

  -- nothing is told anew but of these, and of one behind them
  begun_told : (exempt : Option (List ℕ)) (P : Child → Type 0) → ((c : Child) → P c → IsOf p c) → (child : ℕ) (new : State) → session.TellsOf child P now new → new.tried ≡ now.tried ++ p ∷ []
      → FrontsBut exempt plan.processors (map (first_sent plan) before ++ frames_to new.known child ∷ []) (hellos_sent old.says plan) → ShowsBehind exempt plan.processors group (hellos_sent old.says plan) old new
  begun_told exempt P is_his child new tells tried fronts =
      let out = outside child tells.unknown in
      let kept = tells.others in
      let sent_is : all_sent new.known (group ++ child ∷ []) ≡ map (first_sent plan) before ++ frames_to new.known child ∷ [] =
      map-append (frames_to new.known) group (child ∷ []) ∙ ap (λ sent. sent ++ frames_to new.known child ∷ []) (all_sent-outside child group now.known new.known kept out ∙ sent_first plan before group greeted (p ∷ later) old now so_far) in
      record {
        others = child ∷ [];
        shows = record {
          tells = tells_more P group child old now new so_far.tells out tells;
          theirs = subst (λ xs. EachOf IsOf xs (group ++ child ∷ []) new.known) (append_assoc before (p ∷ []) later ∙ so_far.all)
              (each_front IsOf (before ++ p ∷ []) later (group ++ child ∷ []) new.known
              (each_more IsOf before group p child now.known new.known so_far.count kept out (his plan before group greeted (p ∷ later) old now so_far) (fact_is (new.known child) tells.fact)));
          fronts = subst (λ sent. FrontsBut exempt plan.processors sent (hellos_sent old.says plan)) (sym sent_is) fronts;
          tries = tries_next new tried;
        };
      }
    where
      fact_is : (o : Option Child) → IsSomeAnd o P → IsSomeAnd o (IsOf p)
      fact_is None h = absurd h
      fact_is (Some c) h = is_his c h

  from_session : (c : Child) → session.IsOf p c → IsOf p c
  from_session c is = record { name = is.name; command = is.command }

  unheard : (o : Option Child) → IsSomeAnd o (session.IsUnheard p (init_frame plan p.0)) → IsFront (frames_in o) (first_sent plan p)
  unheard None is = absurd is
  unheard (Some c) is = by is.sent
    where
      by : (c.sent ≡ []) ⊎ (c.sent ≡ first_sent plan p) → IsFront c.sent (first_sent plan p)
      by (inl none) = record { rest = first_sent plan p; is = ap (λ sent. sent ++ first_sent plan p) none }
      by (inr all) = subst (λ sent. IsFront sent (first_sent plan p)) (sym all) (front_same (first_sent plan p))

  -- its child was stopped before it was heard
  pub begun_unheard : (child : ℕ) (new : State) → session.TellsOf child (session.IsUnheard p (init_frame plan p.0)) now new → new.tried ≡ now.tried ++ p ∷ []
      → ShowsBehind None plan.processors group (hellos_sent old.says plan) old new
  begun_unheard child new tells tried = begun_told None (session.IsUnheard p (init_frame plan p.0)) (λ c is. from_session c is.is) child new tells tried
      (fronts_last (map (first_sent plan) before) (frames_to new.known child) (first_sent plan p) (hellos_sent old.says plan) (unheard (new.known child) tells.fact) next_fronts)

  -- a fault of the children came
  begun_failed : (new : State) → session.Unstarted p now new ⊎ session.Stopped p (session.IsOf p) now new → ShowsBehind (Some p.0) plan.processors group (hellos_sent old.says plan) old new
  begun_failed new (inl unstarted) = begun_untold plan before group greeted (p ∷ later) old now so_far (Some p.0) new unstarted.known
      (fronts_no_more plan.processors p.0 (map (first_sent plan) before) (hellos_sent old.says plan) named (first_fronts plan before group greeted (p ∷ later) old now so_far)) (tries_next new unstarted.tried)
  begun_failed new (inr stopped) = begun_told (Some p.0) (session.IsOf p) from_session stopped.child new stopped.tells stopped.tried
      (fronts_one_more plan.processors p.0 (map (first_sent plan) before) (frames_to new.known stopped.child) (first_sent plan p) (hellos_sent old.says plan) named next_fronts)

  pub begun_refuses : (s : Stop) (new : State) → StopsOne plan p s now new → ShowsBehind (exempt_by s) plan.processors group (hellos_sent old.says plan) old new
  begun_refuses (stop.Refused refusal) new none = begun_unheard none.child new (begun_is p (init_frame plan p.0) none.child now new none.tells) none.tried
  begun_refuses (stop.Failed object) new (is, stops) = subst (λ o. ShowsBehind (exempt_by (stop.Failed o)) plan.processors group (hellos_sent old.says plan) old new) (sym is) (begun_failed new stops)
  begun_refuses stop.Memory new (inl untried) = begun_nothing plan before group greeted (p ∷ later) old now so_far new untried.known untried.tried
  begun_refuses stop.Memory new (inr stopped) = begun_unheard stopped.child new stopped.tells stopped.tried

-- all said Hello
pub begun_all : (plan : Plan) (before : List Try) (group : List ℕ) (greeted : List Hello) (old now : State) → Begun plan before group greeted [] old now → AllSayHello plan group greeted old now
begun_all plan before group greeted old now so_far =
    let all : before ≡ plan.processors = sym (append-nil before) ∙ so_far.all in
    record {
      hellos = sym so_far.hellos ∙ ap Ok (append-nil greeted);
      each = subst (λ xs. EachOf (Serves now.says) xs group now.known) all so_far.each;
      shown = record { tells = so_far.tells; shown = subst (λ xs. AreSent xs (map (first_sent plan) xs) group now.known) all so_far.sent };
      tried = so_far.tried ∙ ap (λ xs. old.tried ++ xs) all;
    }
