-- The processors of a key, of which one after another says Hello.
use Rattle.std.proofs.Common.{◌≡◌, ◌+◌, ◌<◌, ℕ, suc, true, List, [], ◌∷◌, ◌++◌, length, take, drop, get_or, Contains, Option, None, Some, Err, IfSome, IsSomeAnd, inl, inr, refl, sym, ap, subst, ◌∙◌, append_assoc, arith}
use Rattle.std.proofs.Math.Seq.{drop-cons, take-suc}
use Rattle.std.proofs.lemmas.Bool.{false≢true}
use Rattle.std.proofs.lemmas.List.{get_or-map, length-map}
use Rattle.std.proofs.lemmas.List.Elements.{Contains-get_or}
use Rattle.apt_outside.specs.Child.{Says, Try, Child, State, Attends, StaysSent}
use Rattle.wire_frames.specs.declared.frame.Hello.{Hello}
use Rattle.child_session.specs.Beginning as session
use Rattle.record_forms.specs.declared.record.Key.{Key}
use Rattle.record_forms.specs.declared.record.KeyProcessor.{KeyProcessor}
use Rattle.project_units.specs.declared.refusal.Refusal as declared
use Rattle.project_units.specs.Refusals as stop
use Rattle.project_units.specs.Refusals.{Stop, Names, NamesAmong, named_by, is_refusal, exempt_by}
use Rattle.project_units.specs.Faults.{stop_of}
use Rattle.project_units.specs.Plans.{Plan, init_frame, try_of, tries_in, name_of, names_in}
use Rattle.round_engine.specs.Shown.{TriesInOrder, SaysHello, SaysNone, StopsOne, BeginsOne, BeginsEach, ShowsBehind, hellos_sent}
use Rattle.round_engine.proofs.StartedChildren.{Begun, begun_one, begun_stops, begun_unheard, begun_nothing, begun_refuses}

-- ---- the processor at a place

pub try_at : (key : Key) (i : ℕ) (p : KeyProcessor) → i < length key.processors → p ≡ get_or key.processors i p → get_or (tries_in key) i ([], []) ≡ try_of p
try_at key i p lt is = get_or-map try_of key.processors i p ([], []) lt ∙ ap try_of (sym is)

pub tries_count : (key : Key) → length (tries_in key) ≡ length key.processors
tries_count key = length-map key.processors try_of

has_name : (key : Key) (i : ℕ) (p : KeyProcessor) → i < length key.processors → p ≡ get_or key.processors i p → Contains (names_in key) p.name
has_name key i p lt is = subst (Contains (names_in key)) (get_or-map name_of key.processors i p [] lt ∙ ap name_of (sym is))
    (Contains-get_or (names_in key) i [] (omega (arith, lt, length-map key.processors name_of)))

pub some_among : (names : List (List ℕ)) (name : List ℕ) (o : Option (List ℕ)) → Contains names name → IfSome o (λ n. n ≡ name) → IfSome o (Contains names)
some_among names name None has named = tt
some_among names name (Some n) has named = subst (Contains names) (sym named) has

-- a stop that names it names one of the processors
pub names_one : (key : Key) (i : ℕ) (p : KeyProcessor) (s : Stop) → i < length key.processors → p ≡ get_or key.processors i p → Names p.name s → NamesAmong (names_in key) s
names_one key i p s lt is named = some_among (names_in key) p.name (named_by s) (has_name key i p lt is) named

-- a child that has begun, and was stopped
stays_his : (says : Says) (p : Try) (init : List ℕ) (child : ℕ) (k1 k2 : State) (o : Option Child) → k1.known child ≡ o → Attends child k1 k2 → StaysSent child k1 k2 → IsSomeAnd o (session.HasBegun says p init)
    → IsSomeAnd (k2.known child) (session.IsUnheard p init)
stays_his says p init child k1 k2 None is attends stays fact = absurd fact
stays_his says p init child k1 k2 (Some b) is attends stays fact =
    let a = attends.change.same_child b is in
    let same : a.0.sent ≡ b.sent = subst (λ o. IsSomeAnd o (λ c. c.sent ≡ b.sent)) a.1 (subst (λ o. IfSome o (λ c. IsSomeAnd (k2.known child) (λ d. d.sent ≡ c.sent))) is stays.same_sent) in
    subst (λ o. IsSomeAnd o (session.IsUnheard p init)) (sym a.1)
    (record { is = record { name = a.2 ∙ fact.begun.is.name; command = a.3 ∙ fact.begun.is.command }; sent = inr (same ∙ fact.begun.sent) })

-- a refusal that is due comes of an answer that is no Hello
refused_none : (plan : Plan) (p : Try) (s : Stop) (k new : State) → is_refusal s ≡ true → StopsOne plan p s k new → SaysNone plan p s k new
refused_none plan p (stop.Refused refusal) k new due none = none
refused_none plan p (stop.Failed object) k new due stops = absurd (false≢true due)
refused_none plan p stop.Memory k new due stops = absurd (false≢true due)

-- ---- one more

module _ (plan : Plan) (i : ℕ) (p : Try) (lt : i < length plan.processors) (is : get_or plan.processors i ([], []) ≡ p) where
  later_is : drop i plan.processors ≡ p ∷ drop (suc i) plan.processors
  later_is = drop-cons plan.processors i ([], []) lt ∙ ap (λ q. q ∷ drop (suc i) plan.processors) is

  before_is : take (suc i) plan.processors ≡ take i plan.processors ++ p ∷ []
  before_is = take-suc plan.processors i ([], []) lt ∙ ap (λ q. take i plan.processors ++ q ∷ []) is

  module _ (group : List ℕ) (greeted : List Hello) (k0 k : State) (so_far : Begun plan (take i plan.processors) group greeted (drop i plan.processors) k0 k) where
    at_it : Begun plan (take i plan.processors) group greeted (p ∷ drop (suc i) plan.processors) k0 k
    at_it = subst (λ later. Begun plan (take i plan.processors) group greeted later k0 k) later_is so_far

    -- it said Hello
    pub begun_next : (child : ℕ) (one : Hello) (new : State) → SaysHello plan p child one k new → new.says ≡ k.says
        → Begun plan (take (suc i) plan.processors) (group ++ child ∷ []) (greeted ++ one ∷ []) (drop (suc i) plan.processors) k0 new
    begun_next child one new hello same = subst (λ before. Begun plan before (group ++ child ∷ []) (greeted ++ one ∷ []) (drop (suc i) plan.processors) k0 new) (sym before_is)
        (begun_one plan (take i plan.processors) group greeted p (drop (suc i) plan.processors) k0 k at_it child one new hello same)

    -- its start was the last that was tried
    pub tried_next : (new : State) → new.tried ≡ k.tried ++ p ∷ [] → TriesInOrder plan.processors k0 new
    tried_next new tried = record {
      count = suc i;
      few = lt;
      tried = tried ∙ ap (λ xs. xs ++ p ∷ []) so_far.tried ∙ append_assoc k0.tried (take i plan.processors) (p ∷ []) ∙ ap (λ xs. k0.tried ++ xs) (sym before_is);
    }

    tried_before : (new : State) → new.tried ≡ k.tried → TriesInOrder plan.processors k0 new
    tried_before new tried = record { count = i; few = omega (arith, lt); tried = tried ∙ so_far.tried }

    pub tried_refused : (s : Stop) (new : State) → StopsOne plan p s k new → TriesInOrder plan.processors k0 new
    tried_refused (stop.Refused refusal) new none = tried_next new none.tried
    tried_refused (stop.Failed object) new (is_its, inl unstarted) = tried_next new unstarted.tried
    tried_refused (stop.Failed object) new (is_its, inr stopped) = tried_next new stopped.tried
    tried_refused stop.Memory new (inl untried) = tried_before new untried.tried
    tried_refused stop.Memory new (inr stopped) = tried_next new stopped.tried

    -- it was refused
    pub begun_refused : (refusal : declared.Refusal) (new : State) → BeginsOne plan p k new (Err refusal) → k.starts ≡ k0.starts + length group → BeginsEach plan group k0 new (Err refusal)
    begun_refused refusal new begins starts = (
      λ due.
          let none = refused_none plan p (stop_of refusal) k new due begins in
          begun_stops plan (take i plan.processors) group greeted p (drop (suc i) plan.processors) k0 k at_it (stop_of refusal) new none none.starts starts,
      begun_refuses plan (take i plan.processors) group greeted p (drop (suc i) plan.processors) k0 k at_it (stop_of refusal) new begins,
    )

    -- it said Hello, and was stopped because memory ran out
    pub begun_full : (child : ℕ) (one : Hello) (k1 k2 : State) → SaysHello plan p child one k k1 → Attends child k1 k2 → StaysSent child k1 k2 → (refusal : declared.Refusal) → stop_of refusal ≡ stop.Memory
        → BeginsEach plan group k0 k2 (Err refusal)
    begun_full child one k1 k2 hello attends stays refusal memory = (
      λ due. absurd (false≢true (ap is_refusal (sym memory) ∙ due)),
      subst (λ s. ShowsBehind (exempt_by s) plan.processors group (hellos_sent k0.says plan) k0 k2) (sym memory)
          (begun_unheard plan (take i plan.processors) group greeted p (drop (suc i) plan.processors) k0 k at_it child k2 (record {
            unknown = hello.tells.unknown;
            others = λ c ne. attends.change.others c ne ∙ hello.tells.others c ne;
            fact = stays_his k1.says p (init_frame plan p.0) child k1 k2 (k1.known child) refl attends stays hello.tells.fact;
          }) (attends.same_tried ∙ hello.tried)),
    )

-- memory was wanted for what it supports, and it lives
pub begun_unlisted : (plan : Plan) (before : List Try) (group : List ℕ) (greeted : List Hello) (later : List Try) (old now : State) → Begun plan before group greeted later old now
    → (refusal : declared.Refusal) → stop_of refusal ≡ stop.Memory → BeginsEach plan group old now (Err refusal)
begun_unlisted plan before group greeted later old now so_far refusal memory = (
  λ due. absurd (false≢true (ap is_refusal (sym memory) ∙ due)),
  subst (λ s. ShowsBehind (exempt_by s) plan.processors group (hellos_sent old.says plan) old now) (sym memory) (begun_nothing plan before group greeted later old now so_far now (λ c. refl) refl),
)
