-- What children were sent at some point of a run is the first of what the run sends them.
use Rattle.std.proofs.Common.{◌≡◌, ℕ, zero, suc, ◌<◌, Bool, true, false, cond, List, [], ◌∷◌, ◌++◌, length, get_or, set, Option, None, Some, IsSomeAnd, Result, Ok, Err, refl, sym, ap, subst, ◌∙◌, append-nil, append_assoc, get_or-set_other, length-set, arith}
use Rattle.std.specs.Prelude.{◌||◌, not, slice_get}
use Rattle.std.specs.FinMap as fin
use Rattle.std.proofs.lemmas.Option.{slice_get-get_or}
use Rattle.apt_outside.specs.Child.{Try}
use Rattle.element_table.specs.TypeTable.{TypeTable}
use Rattle.unit_locations.specs.LocatedTable.{LocatedTable}
use Rattle.round_env.specs.declared.environment.RoundEnv.{RoundEnv}
use Rattle.child_session.specs.declared.request.Turn.{Turn}
use Rattle.child_session.specs.declared.request.Turn.TheVariants.{Ends, Differs, Asks, Leaves}
use Rattle.child_session.specs.Replies.{Exchange, shown_of}
use Rattle.child_session.specs.Acts as acts
use Rattle.child_session.specs.Acts.{Act}
use Rattle.child_session.specs.Round.{IsFront}
use Rattle.round_engine.specs.declared.rounds.Round.{Round}
use Rattle.project_units.specs.Refusals.{Refusal}
use Rattle.project_units.specs.Units.{Entered, enter_all}
use Rattle.round_engine.specs.Run.{Frames, Course, Discovered, Progress, Run, Asking, sent_at, sent_with, env_of, act, after_act, show, ask, offered_names, next_asked, ask_next, asks_from, turns_of, ended, round_of, has_error, printed_since, new_since, last_of, next_of, finished, last_round, entering, after_round, rounds_from, ◌>>=◌}
use Rattle.project_units.specs.Creations.{creates_source, sources_among}
use Rattle.round_engine.specs.Fronts.{AreFronts, FrontsButOne, FrontsBut}
use Rattle.round_engine.specs.Shown.{sent_by, sent_in_step, sent_in_progress, sent_in_finished}

-- ---- fronts

pub front_same : (xs : Frames) → IsFront xs xs
front_same xs = record { rest = []; is = append-nil xs }

front_more : (xs ys : Frames) → IsFront xs (xs ++ ys)
front_more xs ys = record { rest = ys; is = refl }

front_trans : (xs ys zs : Frames) → IsFront xs ys → IsFront ys zs → IsFront xs zs
front_trans xs ys zs first second = record {
  rest = first.rest ++ second.rest;
  is = sym (append_assoc xs first.rest second.rest) ∙ ap (λ f. f ++ second.rest) first.is ∙ second.is;
}

pub fronts_same : (all : List Frames) → AreFronts all all
fronts_same all = record { few = omega arith; at = λ n. front_same (get_or all n []) }

pub fronts_trans : (a b c : List Frames) → AreFronts a b → AreFronts b c → AreFronts a c
fronts_trans a b c first second = record { few = omega (arith, first.few, second.few); at = λ n. front_trans (get_or a n []) (get_or b n []) (get_or c n []) (first.at n) (second.at n) }

-- those that were sent are all that the run sends
pub fronts_exact : (a b : List Frames) → b ≡ a → AreFronts a b
fronts_exact a b is = subst (AreFronts a) (sym is) (fronts_same a)

pub fronts_more : (exempt : Option (List ℕ)) (processors : List Try) (a b c : List Frames) → FrontsBut exempt processors a b → AreFronts b c → FrontsBut exempt processors a c
fronts_more None processors a b c first second = fronts_trans a b c first second
fronts_more (Some name) processors a b c first second = record {
  few = omega (arith, first.few, second.few);
  one = first.one;
  named = first.named;
  at = λ n other. front_trans (get_or a n []) (get_or b n []) (get_or c n []) (first.at n other) (second.at n);
}

-- the processor with a number is the one of this name
pub named_at : (processors : List Try) (number : ℕ) (name : List ℕ) → number < length processors → name ≡ (get_or processors number ([], [])).0 → IsSomeAnd (slice_get processors number) (λ (p : Try). p.0 ≡ name)
named_at processors number name lt is = subst (λ o. IsSomeAnd o (λ (p : Try). p.0 ≡ name)) (sym (slice_get-get_or processors number ([], []) lt)) (sym is)

-- ---- one child was sent more

front_at : (all : List Frames) (n : ℕ) (frames : Frames) (i : ℕ) → IsFront (get_or all n []) frames → IsFront (get_or all i []) (get_or (set all n frames) i [])
front_at [] zero frames zero front = front_same []
front_at [] zero frames (suc i) front = front_same []
front_at [] (suc n) frames zero front = front_same []
front_at [] (suc n) frames (suc i) front = front_same []
front_at (x ∷ xs) zero frames zero front = front
front_at (x ∷ xs) zero frames (suc i) front = front_same (get_or xs i [])
front_at (x ∷ xs) (suc n) frames zero front = front_same x
front_at (x ∷ xs) (suc n) frames (suc i) front = front_at xs n frames i front

fronts_set : (all : List Frames) (n : ℕ) (frames : Frames) → IsFront (get_or all n []) frames → AreFronts all (set all n frames)
fronts_set all n frames front = record { few = omega (arith, length-set all n frames); at = λ i. front_at all n frames i front }

both_at : (all : List Frames) (n : ℕ) (a b : Frames) (i : ℕ) → IsFront a b → IsFront (get_or (set all n a) i []) (get_or (set all n b) i [])
both_at [] zero a b zero front = front_same []
both_at [] zero a b (suc i) front = front_same []
both_at [] (suc n) a b zero front = front_same []
both_at [] (suc n) a b (suc i) front = front_same []
both_at (x ∷ xs) zero a b zero front = front
both_at (x ∷ xs) zero a b (suc i) front = front_same (get_or xs i [])
both_at (x ∷ xs) (suc n) a b zero front = front_same x
both_at (x ∷ xs) (suc n) a b (suc i) front = both_at xs n a b i front

fronts_at : (all : List Frames) (n : ℕ) (a b : Frames) → IsFront a b → AreFronts (set all n a) (set all n b)
fronts_at all n a b front = record { few = omega (arith, length-set all n a, length-set all n b); at = λ i. both_at all n a b i front }

-- whatever one child was sent
module _ (name : List ℕ) (processors : List Try) (n : ℕ) (named : IsSomeAnd (slice_get processors n) (λ (p : Try). p.0 ≡ name)) where
  others_fronts : (all : List Frames) (a b : Frames) → FrontsButOne name processors (set all n a) (set all n b)
  others_fronts all a b = record {
    few = omega (arith, length-set all n a, length-set all n b);
    one = n;
    named = named;
    at = λ i other. record { rest = []; is = append-nil (get_or (set all n a) i []) ∙ get_or-set_other all n i a [] other ∙ sym (get_or-set_other all n i b [] other) };
  }

-- ---- one part of a run behind another

pub then_fronts : {A B : Type 0} (sent_a : A → List Frames) (sent_b : B → List Frames) (first : Course A) (go : A → Course B) → ((a : A) → AreFronts (sent_a a) (sent_by sent_b (go a)))
    → AreFronts (sent_by sent_a first) (sent_by sent_b (first >>= go))
then_fronts sent_a sent_b (Ok a) go more = more a
then_fronts sent_a sent_b (Err stopped) go more = fronts_same stopped.sent

-- ---- one child is shown a round

module _ (d : Discovered) (table : TypeTable) (env : RoundEnv) where
  acted_fronts : (p : Progress) (number : ℕ) (exchanges : List Exchange) (turn : Turn) → AreFronts p.sent (sent_by sent_in_step (after_act d table env p number exchanges turn))
  acted_fronts p number exchanges (Ends claimed) = fronts_set p.sent number (sent_with table env p number exchanges) (front_more (sent_at p number) (acts.frames_of (shown_of table env) exchanges))
  acted_fronts p number exchanges (Differs said) = fronts_set p.sent number (sent_with table env p number exchanges) (front_more (sent_at p number) (acts.frames_of (shown_of table env) exchanges))
  acted_fronts p number exchanges (Asks request) = fronts_set p.sent number (sent_with table env p number exchanges) (front_more (sent_at p number) (acts.frames_of (shown_of table env) exchanges))
  acted_fronts p number exchanges (Leaves breach) = fronts_set p.sent number (sent_with table env p number exchanges) (front_more (sent_at p number) (acts.frames_of (shown_of table env) exchanges))

  -- it was sent the first of what its act sends
  acted_some : (p : Progress) (number : ℕ) (frames : Frames) (exchanges : List Exchange) (turn : Turn) → IsFront frames (sent_with table env p number exchanges)
      → AreFronts (set p.sent number frames) (sent_by sent_in_step (after_act d table env p number exchanges turn))
  acted_some p number frames exchanges (Ends claimed) front = fronts_at p.sent number frames (sent_with table env p number exchanges) front
  acted_some p number frames exchanges (Differs said) front = fronts_at p.sent number frames (sent_with table env p number exchanges) front
  acted_some p number frames exchanges (Asks request) front = fronts_at p.sent number frames (sent_with table env p number exchanges) front
  acted_some p number frames exchanges (Leaves breach) front = fronts_at p.sent number frames (sent_with table env p number exchanges) front

  acted_but_one : (name : List ℕ) (processors : List Try) (p : Progress) (number : ℕ) → IsSomeAnd (slice_get processors number) (λ (q : Try). q.0 ≡ name) → (frames : Frames) (exchanges : List Exchange) (turn : Turn)
      → FrontsButOne name processors (set p.sent number frames) (sent_by sent_in_step (after_act d table env p number exchanges turn))
  acted_but_one name processors p number named frames exchanges (Ends claimed) = others_fronts name processors number named p.sent frames (sent_with table env p number exchanges)
  acted_but_one name processors p number named frames exchanges (Differs said) = others_fronts name processors number named p.sent frames (sent_with table env p number exchanges)
  acted_but_one name processors p number named frames exchanges (Asks request) = others_fronts name processors number named p.sent frames (sent_with table env p number exchanges)
  acted_but_one name processors p number named frames exchanges (Leaves breach) = others_fronts name processors number named p.sent frames (sent_with table env p number exchanges)

  module _ (p : Progress) (number : ℕ) where
    abbrev whole : Act
    whole = act d table env p number

    -- before one is shown the round
    pub show_fronts : AreFronts p.sent (sent_by sent_in_step (show d table env p number))
    show_fronts = acted_fronts p number whole.exchanges whole.last

    -- once one was shown some of it
    pub show_some : (frames : Frames) → IsFront frames (sent_with table env p number whole.exchanges) → AreFronts (set p.sent number frames) (sent_by sent_in_step (show d table env p number))
    show_some frames front = acted_some p number frames whole.exchanges whole.last front

    -- once one was shown it, whatever it was sent
    pub show_but_one : (name : List ℕ) (processors : List Try) → IsSomeAnd (slice_get processors number) (λ (q : Try). q.0 ≡ name) → (frames : Frames)
        → FrontsButOne name processors (set p.sent number frames) (sent_by sent_in_step (show d table env p number))
    show_but_one name processors named frames = acted_but_one name processors p number named frames whole.exchanges whole.last

-- what is sent in a step of these processors is sent behind what was sent before
abbrev pub StepsOn : Asking → Discovered → Type 0
StepsOn asking d = (r : Round) (p : Progress) (next : ℕ × List ℕ) → AreFronts p.sent (sent_by sent_in_step (asking d r p next))

pub ask_fronts : (d : Discovered) → StepsOn ask d
ask_fronts d r p next = show_fronts d r.table.table (env_of r (offered_names r next.1)) p next.0

-- ---- one round

-- that a round came to its end sends nothing
pub end_sends : (r : Round) (course : Course Progress) → sent_by sent_in_progress (course >>= (λ after. Ok (ended r after))) ≡ sent_by sent_in_progress course
end_sends r (Ok after) = refl
end_sends r (Err stopped) = refl

module _ (asking : Asking) (d : Discovered) (steps : StepsOn asking d) (r : Round) where
  next_fronts : (p : Progress) (o : Option (ℕ × List ℕ)) (go : Progress × Bool → Course Progress) → ((acted : Progress × Bool) → AreFronts acted.0.sent (sent_by sent_in_progress (go acted)))
      → AreFronts p.sent (sent_by sent_in_progress (ask_next asking d r p o go))
  next_fronts p None go more = fronts_same p.sent
  next_fronts p (Some next) go more = fronts_trans p.sent (sent_by sent_in_step (asking d r p next)) (sent_by sent_in_progress (asking d r p next >>= go))
      (steps r p next) (then_fronts sent_in_step sent_in_progress (asking d r p next) go more)

  -- the rest of a round
  pub asks_fronts : (contributed : List Bool) (left : ℕ) (answers : List Bool) (p : Progress) → AreFronts p.sent (sent_by sent_in_progress (asks_from asking d r contributed left answers p))
  unfolding asks_from
  asks_fronts contributed zero answers p = fronts_same p.sent
  asks_fronts contributed (suc left) answers p = next_fronts p (next_asked d r contributed answers) (λ acted. asks_from asking d r contributed left (answers ++ acted.1 ∷ []) acted.0)
      (λ acted. asks_fronts contributed left (answers ++ acted.1 ∷ []) acted.0)

  pub turns_fronts : (p : Progress) → AreFronts p.sent (sent_by sent_in_progress (turns_of asking d r p))
  turns_fronts p = asks_fronts p.contributed (length d.processors) [] p

  pub round_fronts : (p : Progress) → AreFronts p.sent (sent_by sent_in_progress (round_of asking d r p))
  round_fronts p = subst (AreFronts p.sent) (sym (end_sends r (turns_of asking d r p))) (turns_fronts p)

  -- one was shown the round, and then come the others
  pub step_fronts : (contributed : List Bool) (left : ℕ) (answers : List Bool) (course : Course (Progress × Bool))
      → AreFronts (sent_by sent_in_step course) (sent_by sent_in_progress (course >>= (λ acted. asks_from asking d r contributed left (answers ++ acted.1 ∷ []) acted.0)))
  step_fronts contributed left answers course = then_fronts sent_in_step sent_in_progress course (λ acted. asks_from asking d r contributed left (answers ++ acted.1 ∷ []) acted.0)
      (λ acted. asks_fronts contributed left (answers ++ acted.1 ∷ []) acted.0)

-- ---- the rounds

module _ (asking : Asking) (d : Discovered) (steps : StepsOn asking d) where
  -- behind the last round
  pub last_fronts : (number : ℕ) (error : Bool) (table : LocatedTable) (before : Progress)
      → AreFronts (sent_by sent_in_progress (round_of asking d (last_of number error table) before)) (sent_by sent_in_finished (last_round asking d number error table before))
  last_fronts number error table before = then_fronts sent_in_progress sent_in_finished (round_of asking d (last_of number error table) before) (λ after. Ok (finished d number table before after)) (λ after. fronts_same after.sent)

  by_test : (b : Bool) (sent : List Frames) (x y : Run) → AreFronts sent (sent_by sent_in_finished x) → AreFronts sent (sent_by sent_in_finished y) → AreFronts sent (sent_by sent_in_finished (cond b x y))
  by_test true sent x y one other = one
  by_test false sent x y one other = other

  entering_fronts : (sent : List Frames) (o : Result Entered Refusal) (go : Entered → Run) → ((e : Entered) → AreFronts sent (sent_by sent_in_finished (go e))) → AreFronts sent (sent_by sent_in_finished (entering sent o >>= go))
  entering_fronts sent (Ok entered) go more = more entered
  entering_fronts sent (Err refusal) go more = fronts_same sent

  after_fronts : (r : Round) (before after : Progress) (go : Entered → Run) → ((e : Entered) → AreFronts after.sent (sent_by sent_in_finished (go e)))
      → AreFronts after.sent (sent_by sent_in_finished (after_round asking d r before after go))
  after_fronts r before after go more =
      let error = has_error (printed_since before.messages after.messages) in
      let made = new_since before.filings after.filings in
      let last = last_round asking d (suc r.number) error r.table after in
      let outcome = enter_all r.table (fin.entries (sources_among made)) in
      by_test (error || not (creates_source made)) after.sent last (entering after.sent outcome >>= go)
      (fronts_trans after.sent (sent_by sent_in_progress (round_of asking d (last_of (suc r.number) error r.table) after)) (sent_by sent_in_finished last)
      (round_fronts asking d steps (last_of (suc r.number) error r.table) after) (last_fronts (suc r.number) error r.table after))
      (entering_fronts after.sent outcome go more)

  -- all that are left
  pub rounds_fronts : (left : ℕ) (r : Round) (p : Progress) → AreFronts p.sent (sent_by sent_in_finished (rounds_from asking d left r p))
  unfolding rounds_from
  rounds_fronts zero r p = fronts_same p.sent
  rounds_fronts (suc left) r p = fronts_trans p.sent (sent_by sent_in_progress (round_of asking d r p)) _ (round_fronts asking d steps r p)
      (then_fronts sent_in_progress sent_in_finished (round_of asking d r p) (λ after. after_round asking d r p after (λ entered. rounds_from asking d left (next_of (suc r.number) entered) after))
      (λ after. after_fronts r p after (λ entered. rounds_from asking d left (next_of (suc r.number) entered) after) (λ entered. rounds_fronts left (next_of (suc r.number) entered) after)))

  -- behind a round that is not the last
  pub later_fronts : (left : ℕ) (r : Round) (before : Progress) (after : Progress)
      → AreFronts after.sent (sent_by sent_in_finished (after_round asking d r before after (λ entered. rounds_from asking d left (next_of (suc r.number) entered) after)))
  later_fronts left r before after = after_fronts r before after (λ entered. rounds_from asking d left (next_of (suc r.number) entered) after) (λ entered. rounds_fronts left (next_of (suc r.number) entered) after)

  pub round_then : (left : ℕ) (r : Round) (before : Progress) (course : Course Progress)
      → AreFronts (sent_by sent_in_progress course) (sent_by sent_in_finished (course >>= (λ after. after_round asking d r before after (λ entered. rounds_from asking d left (next_of (suc r.number) entered) after))))
  round_then left r before course = then_fronts sent_in_progress sent_in_finished course (λ after. after_round asking d r before after (λ entered. rounds_from asking d left (next_of (suc r.number) entered) after)) (later_fronts left r before)
