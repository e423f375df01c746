-- How a turn meets the fold of a round: after any answers, those that the turn has still to ask are the rest of the list of those who are asked.
use Rattle.std.proofs.Common.{◌≡◌, ℕ, zero, suc, ◌<◌, Bool, false, List, [], ◌∷◌, ◌++◌, length, drop, Some, None, Ok, Err, refl, sym, ap, subst, ◌∙◌, append-nil, append_assoc, length-append, drop-drop}
use Rattle.std.specs.Prelude.{slice_get}
use Rattle.std.specs.List.{AllByRecursion}
use Rattle.processor_claims.specs.declared.turn.Turn.{Turn}
use Rattle.processor_claims.specs.Asked.{AreWithin}
use Rattle.processor_claims.specs.Turns.{offered, coming, IsComing, IsWithin, Asks, AsksNobody}
use Rattle.round_engine.specs.declared.rounds.Round.{Round}
use Rattle.round_engine.specs.Run.{Stopped, Discovered, Progress, Asking, next_asked, ask_next, asks_from, turns_of, ◌>>=◌}

-- ---- lists

-- what stands at a place is the first of what is left there
get-drop : {X : Type 0} (xs : List X) (n : ℕ) → slice_get xs n ≡ slice_get (drop n xs) 0
get-drop [] zero = refl
get-drop [] (suc n) = refl
get-drop (x ∷ xs) zero = refl
get-drop (x ∷ xs) (suc n) = get-drop xs n

-- ---- a turn

-- who is asked, and with what, by what is answered
abbrev Listed : Type 0
Listed = List Bool → List (ℕ × List ℕ)

-- after these answers, of which the turn has not taken the last one yet
pub record Ahead (listed : Listed) (answers : List Bool) (turn : Turn) (last : Bool) : Type 0 where
  pub coming_is : (claims : List Bool) → drop (length answers) (listed (answers ++ claims)) ≡ coming turn last claims

-- a new turn
pub ahead_begins : (listed : Listed) (turn : Turn) → IsComing listed turn → Ahead listed [] turn false
ahead_begins listed turn is = record { coming_is = λ claims. sym (is false claims) }

module _ (listed : Listed) (answers : List Bool) (turn : Turn) (last : Bool) (ahead : Ahead listed answers turn last) where
  -- the next of the list is the first that comes
  first : slice_get (listed answers) (length answers) ≡ slice_get (coming turn last []) 0
  first = get-drop (listed answers) (length answers)
      ∙ ap (λ all. slice_get (drop (length answers) (listed all)) 0) (sym (append-nil answers))
      ∙ ap (λ left. slice_get left 0) (ahead.coming_is [])

  -- the turn asks the next of the list
  pub ahead_next : (number : ℕ) (new : Turn) → Asks turn last number new → slice_get (listed answers) (length answers) ≡ Some (number, offered new)
  ahead_next number new asks = first ∙ ap (λ left. slice_get left 0) (asks [])

  -- nobody is left
  pub ahead_nobody : AsksNobody turn last → slice_get (listed answers) (length answers) ≡ None
  ahead_nobody nobody = first ∙ ap (λ left. slice_get left 0) (nobody [])

  -- and then the one that it asked answers
  pub ahead_answered : (number : ℕ) (new : Turn) (claim : Bool) → Asks turn last number new → Ahead listed (answers ++ claim ∷ []) new claim
  ahead_answered number new claim asks = record {
    coming_is = λ claims.
        ap (λ all. drop (length (answers ++ claim ∷ [])) (listed all)) (append_assoc answers (claim ∷ []) claims)
        ∙ ap (λ n. drop n (listed (answers ++ (claim ∷ claims)))) (length-append answers (claim ∷ []))
        ∙ sym (drop-drop 1 (length answers) (listed (answers ++ (claim ∷ claims))))
        ∙ ap (drop 1) (ahead.coming_is (claim ∷ claims))
        ∙ ap (drop 1) (asks (claim ∷ claims));
  }

-- Those that a turn asks are processors and names that there are.
module _ (processors names : ℕ) (turn : Turn) (last : Bool) (number : ℕ) (new : Turn) (within : IsWithin processors names turn) (asks : Asks turn last number new) where
  here : (claimed : Bool) (claims : List Bool) → AreWithin processors names ((number, offered new) ∷ coming new claimed claims)
  here claimed claims = subst (AreWithin processors names) (asks (claimed ∷ claims)) (within last (claimed ∷ claims))

  pub within_number : number < processors
  within_number = (here false []).0.0

  pub within_names : AllByRecursion (λ at. at < names) (offered new)
  within_names = (here false []).0.1

  pub within_later : IsWithin processors names new
  within_later claimed claims = (here claimed claims).1

-- ---- the fold

asks_suc : (asking : Asking) (d : Discovered) (r : Round) (contributed : List Bool) (left : ℕ) (answers : List Bool) (p : Progress)
    → asks_from asking d r contributed (suc left) answers p ≡ ask_next asking d r p (next_asked d r contributed answers) (λ acted. asks_from asking d r contributed left (answers ++ acted.1 ∷ []) acted.0)
unfolding asks_from
asks_suc asking d r contributed left answers p = refl

asks_zero : (asking : Asking) (d : Discovered) (r : Round) (contributed : List Bool) (answers : List Bool) (p : Progress) → asks_from asking d r contributed 0 answers p ≡ Ok p
unfolding asks_from
asks_zero asking d r contributed answers p = refl

-- a round is under way: so far it came to this, where those that were asked answered so; what is left of it decides what comes of the whole
pub record Underway (asking : Asking) (d : Discovered) (r : Round) (before : Progress) (left : ℕ) (answers : List Bool) (now : Progress) : Type 0 where
  pub rest : asks_from asking d r before.contributed left answers now ≡ turns_of asking d r before

pub way_begins : (asking : Asking) (d : Discovered) (r : Round) (before : Progress) → Underway asking d r before (length d.processors) [] before
way_begins asking d r before = record { rest = refl }

module _ (asking : Asking) (d : Discovered) (r : Round) (before : Progress) (answers : List Bool) (now : Progress) where
  module _ (left : ℕ) (way : Underway asking d r before (suc left) answers now) (next : ℕ × List ℕ) (is : next_asked d r before.contributed answers ≡ Some next) where
    -- the one that is asked decides
    pub step_opened : (asking d r now next >>= (λ acted. asks_from asking d r before.contributed left (answers ++ acted.1 ∷ []) acted.0)) ≡ turns_of asking d r before
    step_opened = sym (asks_suc asking d r before.contributed left answers now
        ∙ ap (λ o. ask_next asking d r now o (λ acted. asks_from asking d r before.contributed left (answers ++ acted.1 ∷ []) acted.0)) is)
        ∙ way.rest

    pub way_goes : (after : Progress) (claimed : Bool) → asking d r now next ≡ Ok (after, claimed) → Underway asking d r before left (answers ++ claimed ∷ []) after
    way_goes after claimed asked = record {
      rest = sym (ap (λ o. o >>= (λ acted. asks_from asking d r before.contributed left (answers ++ acted.1 ∷ []) acted.0)) asked) ∙ step_opened;
    }

    pub way_stops : (stopped : Stopped) → asking d r now next ≡ Err stopped → turns_of asking d r before ≡ Err stopped
    way_stops stopped refused = sym step_opened ∙ ap (λ o. o >>= (λ acted. asks_from asking d r before.contributed left (answers ++ acted.1 ∷ []) acted.0)) refused

  -- nobody is left
  pub way_ends : (left : ℕ) → Underway asking d r before left answers now → next_asked d r before.contributed answers ≡ None → turns_of asking d r before ≡ Ok now
  way_ends zero way is = sym way.rest ∙ asks_zero asking d r before.contributed answers now
  way_ends (suc left) way is = sym way.rest ∙ asks_suc asking d r before.contributed left answers now
      ∙ ap (λ o. ask_next asking d r now o (λ acted. asks_from asking d r before.contributed left (answers ++ acted.1 ∷ []) acted.0)) is
