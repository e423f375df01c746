-- How one scripted child changes.
use Rattle.std.proofs.Common.{◌≡◌, ◌≢◌, ◌⊎◌, ℕ, zero, suc, ◌+◌, ◌<◌, ◌≤◌, List, [], ◌∷◌, ◌++◌, length, take, drop, map, flat_map, Option, None, Some, option_map, Contains, Vec, IfSome, IsSomeAnd, Result, Ok, Err, OnOk, OnErr, Bool, filter, slice_index_or, cond, eqb, true, false, refl, sym, ap, ◌∙◌, subst, inl, inr, arith, length-append, slice_set}
use Rattle.std.specs.List.{slice_get}
use Rattle.std.specs.declared.alloc.Global.{Global}
use Rattle.std.proofs.Math.Seq.{take-add}
use Rattle.std.proofs.lemmas.List.{length-set, get_or-set_same, drop-append-le}
use Rattle.std.proofs.lemmas.List.Elements.{Contains-push_cases}
use Rattle.std.proofs.lemmas.Grind.{flat_map-append}
use Rattle.std.proofs.lemmas.Bool.Decides.{eqb_tells}
use Rattle.std.proofs.lemmas.Option.{slice_get_read, slice_get_within}
use Rattle.apt_outside.specs.Child.{State, StaysSent, Try, Child, Changes, Attends, OthersKept, written_by, Sends, Receives}
use Rattle.apt_outside.specs.declared.script.Script.{Script}
use Rattle.apt_outside.specs.declared.script.Call.{Call}
use Rattle.apt_outside.specs.declared.script.Started.{Started}
use Rattle.apt_outside.specs.Scripted.{script_of, answers_of, script_says, shown_call, frames_of, said_of, child_of, known_of, state_of, TakesSaid, LiveStarted}

pub get_set_same : {X : Type 0} (xs : List X) (i : ℕ) (v : X) → i < length xs → slice_get (slice_set xs i v) i ≡ Some v
get_set_same xs i v h = slice_get_read (slice_set xs i v) (length xs) i v (sym (length-set xs i v)) h (sym (get_or-set_same xs i v v h))

pub get_set_other : {X : Type 0} (xs : List X) (i k : ℕ) (v : X) → k ≢ i → slice_get (slice_set xs i v) k ≡ slice_get xs k
get_set_other [] i k v ne = refl
get_set_other (x ∷ xs) zero zero v ne = absurd (ne refl)
get_set_other (x ∷ xs) zero (suc k) v ne = refl
get_set_other (x ∷ xs) (suc i) zero v ne = refl
get_set_other (x ∷ xs) (suc i) (suc k) v ne = get_set_other xs i k v (λ e. ne (ap suc e))

pub some_inj : {X : Type 0} (x y : X) → Some x ≡ Some y → x ≡ y
some_inj x y e = cc

module _ (scripts : List Script) (started : List Started) (i : ℕ) (old new : Started) (is : slice_get started i ≡ Some old) where
  within : i < length started
  within = slice_get_within started i old is

  known_old : known_of scripts started i ≡ Some (child_of scripts old)
  known_old = ap (option_map (child_of scripts)) is

  known_new : known_of scripts (slice_set started i new) i ≡ Some (child_of scripts new)
  known_new = ap (option_map (child_of scripts)) (get_set_same started i new within)

  pub both_known : (P : Child → Child → Type 0) → P (child_of scripts old) (child_of scripts new) → IfSome (known_of scripts started i) (λ before. IsSomeAnd (known_of scripts (slice_set started i new) i) (λ after. P before after))
  both_known P h = subst (λ o. IfSome o (λ before. IsSomeAnd (known_of scripts (slice_set started i new) i) (P before))) (sym known_old) (subst (λ n. IsSomeAnd n (P (child_of scripts old))) (sym known_new) h)

  changes : new.call ≡ old.call → Changes i (known_of scripts started) (known_of scripts (slice_set started i new))
  changes same = record {
    others = λ k ne. ap (option_map (child_of scripts)) (get_set_other started i k new ne);
    same_child = λ before e.
        let first : child_of scripts old ≡ before = some_inj _ _ (sym known_old ∙ e) in
        (child_of scripts new, known_new, ap (λ c. (shown_call c).0) same ∙ ap (λ b. b.name) first, ap (λ c. (shown_call c).1) same ∙ ap (λ b. b.command) first);
  }

  -- a call on this child, after which the same live and were tried
  pub attends : (live : List ℕ) (tried : List Call) → new.call ≡ old.call → Attends i (state_of scripts started live tried) (state_of scripts (slice_set started i new) live tried)
  attends live tried same = record { same_says = refl; same_tried = refl; change = changes same }

  pub takes_set : TakesSaid scripts started → new.taken ≤ length (said_of scripts new) → TakesSaid scripts (slice_set started i new)
  takes_set takes fits k s e = cases (eqb_tells k i)
    where
      cases : ((eqb k i ≡ true) × (k ≡ i)) ⊎ ((eqb k i ≡ false) × (k ≢ i)) → s.taken ≤ length (said_of scripts s)
      cases (inl same) = subst (λ t. t.taken ≤ length (said_of scripts t)) (some_inj new s (sym (get_set_same started i new within) ∙ ap (slice_get (slice_set started i new)) (sym same.1) ∙ e)) fits
      cases (inr other) = takes k s (sym (get_set_other started i k new other.1) ∙ e)

pub lives_set : (live : List ℕ) (started : List Started) (i : ℕ) (new : Started) → LiveStarted live started → LiveStarted live (slice_set started i new)
lives_set live started i new lives k among = subst (λ n. k < n) (sym (length-set started i new)) (lives k among)

-- one answer more
answers_grow : (o : Option Script) (n : ℕ) → (more : List ℕ) × (answers_of o (n + 1) ≡ answers_of o n ++ more)
answers_grow None n = ([], refl)
answers_grow (Some s) n = (flat_map (λ a. a.items) (take 1 (drop n s.answers.items)), ap (flat_map (λ a. a.items)) (take-add n 1 s.answers.items) ∙ flat_map-append (λ a. a.items) (take n s.answers.items) (take 1 (drop n s.answers.items)))

pub says_grow : (scripts : List Script) (name : List ℕ) (command : List (List ℕ)) (frames : List (List ℕ)) (frame : List ℕ) → (more : List ℕ) × (script_says scripts name command (frames ++ frame ∷ []) ≡ script_says scripts name command frames ++ more)
says_grow scripts name command frames frame =
    let grown = answers_grow (script_of scripts name) (length frames + 1) in
    (grown.0, ap (λ n. answers_of (script_of scripts name) (n + 1)) (length-append frames (frame ∷ [])) ∙ grown.1)

module _ (scripts : List Script) (started : List Started) (i : ℕ) (old new : Started) (is : slice_get started i ≡ Some old) (same : new.call ≡ old.call) (fits : old.taken ≤ length (said_of scripts old)) where
  said_more : (frame : List ℕ) → frames_of new ≡ frames_of old ++ frame ∷ [] → (more : List ℕ) × (said_of scripts new ≡ said_of scripts old ++ more)
  said_more frame frames =
      let grown = says_grow scripts (shown_call old.call).0 (shown_call old.call).1 (frames_of old) frame in
      (grown.0, ap (λ c. script_says scripts (shown_call c).0 (shown_call c).1 (frames_of new)) same ∙ ap (script_says scripts (shown_call old.call).0 (shown_call old.call).1) frames ∙ grown.1)

  pub fits_sent : (frame : List ℕ) → new.taken ≡ old.taken → frames_of new ≡ frames_of old ++ frame ∷ [] → new.taken ≤ length (said_of scripts new)
  fits_sent frame taken frames =
      let more = said_more frame frames in
      let longer : length (said_of scripts new) ≡ length (said_of scripts old) + length more.0 = ap length more.1 ∙ length-append (said_of scripts old) more.0 in
      omega (arith, fits, taken, longer)

  pub fits_same : new.taken ≡ old.taken → frames_of new ≡ frames_of old → new.taken ≤ length (said_of scripts new)
  fits_same taken frames =
      let alike : said_of scripts new ≡ said_of scripts old = ap (λ c. script_says scripts (shown_call c).0 (shown_call c).1 (frames_of new)) same ∙ ap (script_says scripts (shown_call old.call).0 (shown_call old.call).1) frames in
      let length_same : length (said_of scripts new) ≡ length (said_of scripts old) = ap length alike in
      omega (arith, fits, taken, length_same)

  pub sends : (live : List ℕ) (tried : List Call) (frame : List ℕ) → new.taken ≡ old.taken → frames_of new ≡ frames_of old ++ frame ∷ []
      → Sends i frame (state_of scripts started live tried) (state_of scripts (slice_set started i new) live tried)
  sends live tried frame taken frames =
      let more = said_more frame frames in
      record {
        sent = both_known scripts started i old new is (λ before after. after.sent ≡ before.sent ++ frame ∷ []) frames;
        waits = both_known scripts started i old new is (λ before after. (m : List ℕ) × (written_by (script_says scripts) after ≡ written_by (script_says scripts) before ++ m) × (after.waiting ≡ before.waiting ++ m))
            (more.0, more.1, ap (λ n. drop n (said_of scripts new)) taken ∙ ap (drop old.taken) more.1 ∙ drop-append-le old.taken (said_of scripts old) more.0 fits);
      }

  pub receives : (live : List ℕ) (tried : List Call) (room : List ℕ) (n : ℕ) → new.sent ≡ old.sent → drop old.taken (said_of scripts old) ≡ take n room ++ drop new.taken (said_of scripts old)
      → (take n room ≡ [] → drop old.taken (said_of scripts old) ≡ []) → Receives i room (state_of scripts started live tried) (state_of scripts (slice_set started i new) live tried) n
  receives live tried room n sent split ended =
      let bytes : List ℕ = take n room in
      let alike : said_of scripts new ≡ said_of scripts old = ap (λ c. script_says scripts (shown_call c).0 (shown_call c).1 (frames_of new)) same ∙ ap (λ fs. script_says scripts (shown_call old.call).0 (shown_call old.call).1 (map (λ f. f.items) fs.items)) sent in
      record {
        sent = both_known scripts started i old new is (λ before after. after.sent ≡ before.sent) (ap (λ fs. map (λ f. f.items) fs.items) sent);
        taken = both_known scripts started i old new is (λ before after. before.waiting ≡ bytes ++ after.waiting) (split ∙ ap (λ said. bytes ++ drop new.taken said) (sym alike));
        ended = λ none. subst (λ o. IfSome o (λ before. before.waiting ≡ [])) (sym (ap (option_map (child_of scripts)) is)) (ended none);
      }

  pub fits_either : {E : Type 0} (r : Result Unit E) (frame : List ℕ) → new.taken ≡ old.taken → OnOk r (frames_of new ≡ frames_of old ++ frame ∷ []) → OnErr r (frames_of new ≡ frames_of old) → new.taken ≤ length (said_of scripts new)
  fits_either (Ok u) frame taken ok err = fits_sent frame taken ok
  fits_either (Err e) frame taken ok err = fits_same taken err

  pub fits_given : new.sent ≡ old.sent → new.taken ≤ length (said_of scripts old) → new.taken ≤ length (said_of scripts new)
  fits_given sent within =
      let alike : said_of scripts new ≡ said_of scripts old = ap (λ c. script_says scripts (shown_call c).0 (shown_call c).1 (frames_of new)) same ∙ ap (λ fs. script_says scripts (shown_call old.call).0 (shown_call old.call).1 (map (λ f. f.items) fs.items)) sent in
      let length_same : length (said_of scripts new) ≡ length (said_of scripts old) = ap length alike in
      omega (arith, within, length_same)

-- what holds of a list's places
pub found_at : (started : List Started) (i : ℕ) (old : Started) → i < length started → old ≡ slice_index_or started i old → slice_get started i ≡ Some old
found_at started i old below is = slice_get_read started (length started) i old refl below is

pub takes_along : (scripts : List Script) (old new : List Started) → new ≡ old → TakesSaid scripts old → TakesSaid scripts new
takes_along scripts old new is takes = subst (TakesSaid scripts) (sym is) takes

pub lives_along : (live live' : List ℕ) (started started' : List Started) → live' ≡ live → started' ≡ started → LiveStarted live started → LiveStarted live' started'
lives_along live live' started started' l s lives = subst (λ xs. LiveStarted xs started') (sym l) (subst (LiveStarted live) (sym s) lives)

pub get_push_same : {X : Type 0} (xs : List X) (x : X) → slice_get (xs ++ x ∷ []) (length xs) ≡ Some x
get_push_same [] x = refl
get_push_same (y ∷ xs) x = get_push_same xs x

pub get_push_other : {X : Type 0} (xs : List X) (x : X) (k : ℕ) → k ≢ length xs → slice_get (xs ++ x ∷ []) k ≡ slice_get xs k
get_push_other [] x zero ne = absurd (ne refl)
get_push_other [] x (suc k) ne = refl
get_push_other (y ∷ xs) x zero ne = refl
get_push_other (y ∷ xs) x (suc k) ne = get_push_other xs x k (λ e. ne (ap suc e))

module _ (scripts : List Script) (started : List Started) (new : Started) (live : List ℕ) where
  pub known_push_same : known_of scripts (started ++ new ∷ []) (length started) ≡ Some (child_of scripts new)
  known_push_same = ap (option_map (child_of scripts)) (get_push_same started new)

  pub known_push_other : OthersKept (length started) (known_of scripts started) (known_of scripts (started ++ new ∷ []))
  known_push_other = λ k ne. ap (option_map (child_of scripts)) (get_push_other started new k ne)

  pub takes_push : new.taken ≡ 0 → TakesSaid scripts started → TakesSaid scripts (started ++ new ∷ [])
  takes_push none takes k s e = cases (eqb_tells k (length started))
    where
      cases : ((eqb k (length started) ≡ true) × (k ≡ length started)) ⊎ ((eqb k (length started) ≡ false) × (k ≢ length started)) → s.taken ≤ length (said_of scripts s)
      cases (inl same) =
          let is : new ≡ s = some_inj new s (sym (get_push_same started new) ∙ ap (slice_get (started ++ new ∷ [])) (sym same.1) ∙ e) in
          let zero_taken : s.taken ≡ 0 = ap (λ t. t.taken) (sym is) ∙ none in
          omega (arith, zero_taken)
      cases (inr other) = takes k s (sym (get_push_other started new k other.1) ∙ e)

  pub lives_push : LiveStarted live started → LiveStarted (live ++ length started ∷ []) (started ++ new ∷ [])
  lives_push lives k among = cases (Contains-push_cases live (length started) k among)
    where
      longer : length (started ++ new ∷ []) ≡ length started + 1
      longer = length-append started (new ∷ [])

      cases : Contains live k ⊎ (length started ≡ k) → k < length (started ++ new ∷ [])
      cases (inl before) = let below : k < length started = lives k before in omega (arith, below, longer)
      cases (inr is) = omega (arith, is, longer)

  pub fresh_push : LiveStarted live started → ¬ Contains live (length started)
  fresh_push lives among = let below : length started < length started = lives (length started) among in omega arith

contains_cons : (x : ℕ) (xs : List ℕ) (k : ℕ) → Contains xs k → Contains (x ∷ xs) k
contains_cons x xs k f = (suc f.0, omega (arith, f.1), f.2)

cons_case : (x : ℕ) (ys xs : List ℕ) (k : ℕ) → (Contains ys k → Contains xs k) → Contains (x ∷ ys) k → Contains (x ∷ xs) k
cons_case x ys xs k h (zero, below, is) = (zero, omega arith, is)
cons_case x ys xs k h (suc j, below, is) = contains_cons x xs k (h (j, omega (arith, below), is))

filter_step : (b : Bool) (x : ℕ) (ys xs : List ℕ) (k : ℕ) → (Contains ys k → Contains xs k) → Contains (cond b (x ∷ ys) ys) k → Contains (x ∷ xs) k
filter_step true x ys xs k h f = cons_case x ys xs k h f
filter_step false x ys xs k h f = contains_cons x xs k (h f)

contains_filter : (p : ℕ → Bool) (xs : List ℕ) (k : ℕ) → Contains (filter p xs) k → Contains xs k
contains_filter p [] k f = f
contains_filter p (x ∷ xs) k f = filter_step (p x) x (filter p xs) xs k (contains_filter p xs k) f

pub lives_filter : (p : ℕ → Bool) (live : List ℕ) (started : List Started) → LiveStarted live started → LiveStarted (filter p live) started
lives_filter p live started lives k among = lives k (contains_filter p live k among)

-- a child that was just started
pub fresh_child : (scripts : List Script) (s : Started) (call : Try) → shown_call s.call ≡ call → s.sent.items ≡ [] → s.taken ≡ 0 → child_of scripts s ≡ record { name = call.0; command = call.1; sent = []; waiting = script_says scripts call.0 call.1 [] }
fresh_child scripts s call is none zero_taken =
    let by_call : Try → Child = λ t. record { name = t.0; command = t.1; sent = frames_of s; waiting = drop s.taken (script_says scripts t.0 t.1 (frames_of s)) } in
    let by_sent : List (Vec ℕ Global) → Child = λ fs. record { name = call.0; command = call.1; sent = map (λ f. f.items) fs; waiting = drop s.taken (script_says scripts call.0 call.1 (map (λ f. f.items) fs)) } in
    let by_taken : ℕ → Child = λ n. record { name = call.0; command = call.1; sent = []; waiting = drop n (script_says scripts call.0 call.1 []) } in
    ap by_call is ∙ ap by_sent none ∙ ap by_taken zero_taken

itself : (o : Option Child) → IfSome o (λ before. IsSomeAnd o (λ after. after.sent ≡ before.sent))
itself None = tt
itself (Some c) = refl

-- a child that doesn't change
pub stays_sent : (child : ℕ) (old new : State) → new.known ≡ old.known → StaysSent child old new
stays_sent child old new same = record { same_sent = subst (λ known. IfSome (old.known child) (λ before. IsSomeAnd (known child) (λ after. after.sent ≡ before.sent))) (sym same) (itself (old.known child)) }
