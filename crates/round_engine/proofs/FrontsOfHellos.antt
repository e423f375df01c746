-- What processors are sent of which one after another says Hello: the first of what a run sends them.
use Rattle.std.proofs.Common.{◌≡◌, ◌≢◌, ◌≤◌, ℕ, zero, suc, List, [], ◌∷◌, ◌++◌, length, map, get_or, Option, None, Some, Result, Ok, Err, IfSome, IsSomeAnd, refl, sym, ap, subst, ◌∙◌, append-nil, append_assoc, length-append, arith}
use Rattle.std.specs.Prelude.{slice_get}
use Rattle.std.proofs.lemmas.List.{map-append}
use Rattle.apt_outside.specs.Child.{Says, Try, Child, Known, State, AllKept}
use Rattle.frame_breaches.specs.declared.breach.Breach.{Breach}
use Rattle.wire_frames.specs.declared.frame.Hello.{Hello}
use Rattle.unit_locations.specs.LocatedTable.{LocatedTable}
use Rattle.child_session.specs.Round.{IsFront}
use Rattle.project_units.specs.Units.{all_of}
use Rattle.project_units.specs.Plans.{Plan}
use Rattle.round_engine.specs.Run.{Frames, Course, Run, first_sent, hello_of, greeting, hellos_from, discovered, start, ask, next_of, rounds_before_last, rounds_from, run_of, frames_of, ◌>>=◌}
use Rattle.round_engine.specs.Fronts.{AreFronts, FrontsButOne, FrontsBut}
use Rattle.round_engine.specs.Shown.{frames_to, all_sent, EachOf, IsOf, IsSent, AreSent, IsSame, AllSame, sent_by, sent_in_finished, sent_at_hello, hellos_sent, ShowsNoMore, TellsMore}
use Rattle.round_engine.proofs.ChildrenOfARun.{frames_in}
use Rattle.round_engine.proofs.FrontsOfFrames.{front_same, fronts_same, fronts_trans, ask_fronts, rounds_fronts, then_fronts}

-- ---- lists of frames

front_none : (xs : Frames) → IsFront [] xs
front_none xs = record { rest = xs; is = refl }

pub fronts_none : (all : List Frames) → AreFronts [] all
fronts_none all = record { few = omega arith; at = none_at }
  where
    none_at : (n : ℕ) → IsFront (get_or {A = Frames} [] n []) (get_or all n [])
    none_at zero = front_none (get_or all zero [])
    none_at (suc n) = front_none (get_or all (suc n) [])

append_at : (a b : List Frames) (n : ℕ) → IsFront (get_or a n []) (get_or (a ++ b) n [])
append_at [] b zero = front_none (get_or b zero [])
append_at [] b (suc n) = front_none (get_or b (suc n) [])
append_at (x ∷ a) b zero = front_same x
append_at (x ∷ a) b (suc n) = append_at a b n

fronts_append : (a b : List Frames) → AreFronts a (a ++ b)
fronts_append a b = record { few = omega (arith, length-append a b); at = append_at a b }

before_last : (sent : List Frames) (one : Frames) (n : ℕ) → n ≢ length sent → get_or (sent ++ one ∷ []) n [] ≡ get_or sent n []
before_last [] one zero other = absurd (other refl)
before_last [] one (suc zero) other = refl
before_last [] one (suc (suc n)) other = refl
before_last (x ∷ sent) one zero other = refl
before_last (x ∷ sent) one (suc n) other = before_last sent one n (λ e. other (ap suc e))

-- one more child, which was sent the first of this
last_at : (sent : List Frames) (one whole : Frames) (n : ℕ) → IsFront one whole → IsFront (get_or (sent ++ one ∷ []) n []) (get_or (sent ++ whole ∷ []) n [])
last_at [] one whole zero front = front
last_at [] one whole (suc zero) front = front_same []
last_at [] one whole (suc (suc n)) front = front_same []
last_at (x ∷ sent) one whole zero front = front_same x
last_at (x ∷ sent) one whole (suc n) front = last_at sent one whole n front

pub fronts_last : (sent : List Frames) (one whole : Frames) (all : List Frames) → IsFront one whole → AreFronts (sent ++ whole ∷ []) all → AreFronts (sent ++ one ∷ []) all
fronts_last sent one whole all front are = fronts_trans (sent ++ one ∷ []) (sent ++ whole ∷ []) all (record {
  few = omega (arith, length-append sent (one ∷ []), length-append sent (whole ∷ []));
  at = λ n. last_at sent one whole n front;
}) are

-- the processor that stands behind these
pub named_next : (before : List Try) (p : Try) (later : List Try) (all : List Try) → before ++ p ∷ later ≡ all → IsSomeAnd (slice_get all (length before)) (λ (q : Try). q.0 ≡ p.0)
named_next before p later all is = subst (λ ps. IsSomeAnd (slice_get ps (length before)) (λ (q : Try). q.0 ≡ p.0)) is (there before)
  where
    there : (front : List Try) → IsSomeAnd (slice_get (front ++ p ∷ later) (length front)) (λ (q : Try). q.0 ≡ p.0)
    there [] = refl
    there (q ∷ front) = there front

-- one more child, whatever it was sent
pub fronts_one_more : (processors : List Try) (name : List ℕ) (sent : List Frames) (one whole : Frames) (all : List Frames) → IsSomeAnd (slice_get processors (length sent)) (λ (p : Try). p.0 ≡ name)
    → AreFronts (sent ++ whole ∷ []) all → FrontsButOne name processors (sent ++ one ∷ []) all
fronts_one_more processors name sent one whole all named are = record {
  few = omega (arith, are.few, length-append sent (one ∷ []), length-append sent (whole ∷ []));
  one = length sent;
  named = named;
  at = λ n other. subst (λ xs. IsFront xs (get_or all n [])) (before_last sent whole n other ∙ sym (before_last sent one n other)) (are.at n);
}

-- and where none was started
pub fronts_no_more : (processors : List Try) (name : List ℕ) (sent all : List Frames) → IsSomeAnd (slice_get processors (length sent)) (λ (p : Try). p.0 ≡ name) → AreFronts sent all → FrontsButOne name processors sent all
fronts_no_more processors name sent all named are = record { few = are.few; one = length sent; named = named; at = λ n other. are.at n }

-- ---- what each was sent

pub sent_to_each : (processors : List Try) (group : List ℕ) (known : Known) → EachOf IsOf processors group known → AreSent processors (all_sent known group) group known
sent_to_each processors [] known each = tt
sent_to_each [] (k ∷ group) known each = absurd each
sent_to_each (p ∷ later) (k ∷ group) known each = (one (known k) each.0, sent_to_each later group known each.1)
  where
    one : (o : Option Child) → IsSomeAnd o (IsOf p) → IsSomeAnd o (IsSent p (frames_in o))
    one None is = absurd is
    one (Some c) is = record { name = is.name; command = is.command; frames = refl }

pub sent_are : (processors : List Try) (sent : List Frames) (group : List ℕ) (known : Known) → AreSent processors sent group known → all_sent known group ≡ sent
sent_are processors [] [] known are = refl
sent_are [] [] (k ∷ group) known are = absurd are
sent_are (p ∷ later) [] (k ∷ group) known are = absurd are
sent_are [] (frames ∷ sent) [] known are = absurd are
sent_are (p ∷ later) (frames ∷ sent) [] known are = absurd are
sent_are [] (frames ∷ sent) (k ∷ group) known are = absurd are
sent_are (p ∷ later) (frames ∷ sent) (k ∷ group) known are = ap (λ f. f ∷ all_sent known group) (one (known k) are.0) ∙ ap (λ fs. frames ∷ fs) (sent_are later sent group known are.1)
  where
    one : (o : Option Child) → IsSomeAnd o (IsSent p frames) → frames_in o ≡ frames
    one None is = absurd is
    one (Some c) is = is.frames

-- further processors have no child yet
pub each_front : (P : Try → Child → Type 0) (before later : List Try) (group : List ℕ) (known : Known) → EachOf P before group known → EachOf P (before ++ later) group known
each_front P before later [] known each = tt
each_front P [] later (k ∷ group) known each = absurd each
each_front P (q ∷ before) later (k ∷ group) known each = (each.0, each_front P before later group known each.1)

pub each_kept : (P : Try → Child → Type 0) (processors : List Try) (group : List ℕ) (old new : Known) → AllKept old new → EachOf P processors group old → EachOf P processors group new
each_kept P processors [] old new kept each = tt
each_kept P [] (k ∷ group) old new kept each = absurd each
each_kept P (p ∷ processors) (k ∷ group) old new kept each = (subst (λ o. IsSomeAnd o (P p)) (sym (kept k)) each.0, each_kept P processors group old new kept each.1)

pub sent_kept : (group : List ℕ) (old new : Known) → AllKept old new → all_sent new group ≡ all_sent old group
sent_kept [] old new kept = refl
sent_kept (k ∷ group) old new kept = ap (λ o. frames_in o ∷ all_sent new group) (kept k) ∙ ap (λ fs. frames_to old k ∷ fs) (sent_kept group old new kept)

his_still : (p : Try) (x y : Option Child) → IfSome x (λ b. IsSomeAnd y (IsSame b)) → IsSomeAnd x (IsOf p) → IsSomeAnd y (IsOf p)
his_still p None y same is = absurd is
his_still p (Some b) None same is = absurd same
his_still p (Some b) (Some a) same is = record { name = same.name ∙ is.name; command = same.command ∙ is.command }

-- a stopped child is still its processor's
pub each_same : (processors : List Try) (group : List ℕ) (old new : Known) → AllSame old new → EachOf IsOf processors group old → EachOf IsOf processors group new
each_same processors [] old new same each = tt
each_same [] (k ∷ group) old new same each = absurd each
each_same (p ∷ processors) (k ∷ group) old new same each = (his_still p (old k) (new k) (same k) each.0, each_same processors group old new same each.1)

each_few : (P : Try → Child → Type 0) (processors : List Try) (group : List ℕ) (known : Known) → EachOf P processors group known → length group ≤ length processors
each_few P processors [] known each = omega arith
each_few P [] (k ∷ group) known each = absurd each
each_few P (p ∷ processors) (k ∷ group) known each = let later = each_few P processors group known each.1 in omega (arith, later)

pub tells_no_more : (exempt : Option (List ℕ)) (processors : List Try) (all : List Frames) (old new : State) → ShowsNoMore exempt processors all old new → TellsMore (length processors) old new
tells_no_more exempt processors all old new none = record {
  group = none.group;
  few = each_few IsOf processors none.group new.known none.shows.theirs;
  tells = none.shows.tells;
}

-- no child is new
pub shows_nothing : (processors : List Try) (all : List Frames) (k : State) → ShowsNoMore None processors all k k
shows_nothing processors all k = record {
  group = [];
  shows = record {
    tells = record { different = tt; unknown = tt; others = λ child out. refl };
    theirs = tt;
    fronts = fronts_none all;
    tries = record { count = 0; few = omega arith; tried = sym (append-nil k.tried) };
  };
}

-- ---- Hello

others_sent : (plan : Plan) (one : Hello) (later : Course (List Hello)) → sent_at_hello plan (later >>= (λ others. Ok (one ∷ others))) ≡ sent_at_hello plan later
others_sent plan one (Ok list) = refl
others_sent plan one (Err stopped) = refl

module _ (says : Says) (plan : Plan) where
  front_more : (before : List Try) (p : Try) → AreFronts (map (first_sent plan) before) (map (first_sent plan) (before ++ p ∷ []))
  front_more before p = subst (AreFronts (map (first_sent plan) before)) (sym (map-append (first_sent plan) before (p ∷ []))) (fronts_append (map (first_sent plan) before) (map (first_sent plan) (p ∷ [])))

  greeted : (before : List Try) (p : Try) (later : List Try) (o : Result Hello Breach) → AreFronts (map (first_sent plan) (before ++ p ∷ [])) (sent_at_hello plan (hellos_from says plan (before ++ p ∷ []) later))
      → AreFronts (map (first_sent plan) (before ++ p ∷ [])) (sent_at_hello plan (greeting plan before p o >>= (λ one. hellos_from says plan (before ++ p ∷ []) later >>= (λ others. Ok (one ∷ others)))))
  greeted before p later (Err breach) more = fronts_same (map (first_sent plan) (before ++ p ∷ []))
  greeted before p later (Ok one) more = subst (AreFronts (map (first_sent plan) (before ++ p ∷ []))) (sym (others_sent plan one (hellos_from says plan (before ++ p ∷ []) later))) more

  -- these have said Hello, and the others may
  pub hello_fronts : (before later : List Try) → before ++ later ≡ plan.processors → AreFronts (map (first_sent plan) before) (sent_at_hello plan (hellos_from says plan before later))
  hello_fronts before [] all = subst (λ xs. AreFronts (map (first_sent plan) before) (map (first_sent plan) xs)) (sym (append-nil before) ∙ all) (fronts_same (map (first_sent plan) before))
  hello_fronts before (p ∷ later) all = fronts_trans (map (first_sent plan) before) (map (first_sent plan) (before ++ p ∷ [])) (sent_at_hello plan (hellos_from says plan before (p ∷ later))) (front_more before p)
      (greeted before p later (hello_of says plan p) (hello_fronts (before ++ p ∷ []) later (append_assoc before (p ∷ []) later ∙ all)))

  -- the next one is sent the first frame
  pub hello_next : (before : List Try) (p : Try) (later : List Try) → before ++ p ∷ later ≡ plan.processors → AreFronts (map (first_sent plan) before ++ first_sent plan p ∷ []) (sent_at_hello plan (hellos_from says plan before (p ∷ later)))
  hello_next before p later all = subst (λ sent. AreFronts sent (sent_at_hello plan (hellos_from says plan before (p ∷ later)))) (map-append (first_sent plan) before (p ∷ []))
      (greeted before p later (hello_of says plan p) (hello_fronts (before ++ p ∷ []) later (append_assoc before (p ∷ []) later ∙ all)))

  frames_are : (run : Run) → sent_by sent_in_finished run ≡ frames_of run
  frames_are (Ok finished) = refl
  frames_are (Err stopped) = refl

  pub frames_by : (exempt : Option (List ℕ)) (processors : List Try) (all : List Frames) (run : Run) → FrontsBut exempt processors all (sent_by sent_in_finished run) → FrontsBut exempt processors all (frames_of run)
  frames_by exempt processors all run fronts = subst (FrontsBut exempt processors all) (frames_are run) fronts

  -- and then come the rounds
  pub run_fronts : (table : LocatedTable) → AreFronts (hellos_sent says plan) (frames_of (run_of says plan table))
  run_fronts table = subst (AreFronts (hellos_sent says plan)) (frames_are (run_of says plan table))
      (then_fronts (λ (hellos : List Hello). map (first_sent plan) plan.processors) sent_in_finished (hellos_from says plan [] plan.processors)
      (λ hellos. rounds_from ask (discovered says plan hellos) rounds_before_last (next_of 1 (all_of table)) (start plan table))
      (λ hellos. rounds_fronts ask (discovered says plan hellos) (ask_fronts (discovered says plan hellos)) rounds_before_last (next_of 1 (all_of table)) (start plan table)))
