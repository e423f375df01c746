-- What a call writes: of the text of its command all or a front, and behind it the line of its status.
use Rattle.std.specs.Prelude.{◌≡◌, ◌≢◌, ◌⊎◌, ℕ, Bool, true, List, [], ◌++◌, take}
use Rattle.apt_outside.specs.Count.{Told}
use Rattle.apt_outside.specs.Files.{Files}
use Rattle.tree_store.specs.Storing.{Numbered}
use Rattle.project_units.specs.Refusals.{Object, Tree, Sink, Children}
use Rattle.project_reading.specs.Verdicts.{Verdict, Done, Errors, Refused, Failed, Input, Memory, is_finished}
use Rattle.apt_host.specs.Listed.{GainsFirst}
use Rattle.apt_host.specs.RefusalLines.{refusal_of}

-- ---- the text of a command

-- before a fault of this object nothing stands of the whole, or all of it where the publishing failed, or a front of it where
-- the sink failed, which then was to take some of it
abbrev pub IsFrontAt : Object → List ℕ → List ℕ → Type 0
IsFrontAt Tree whole text = (text ≡ []) ⊎ (text ≡ whole)
IsFrontAt Sink whole text = (whole ≢ []) × ((n : ℕ) × (text ≡ take n whole))
IsFrontAt (Children processor) whole text = text ≡ []

-- what may stand of the whole before the line of a refusal; a part of it only where the sink's count rose
abbrev pub IsFront : Type 0 → List ℕ → Verdict → List ℕ → Type 0
IsFront rose whole Done text = text ≡ whole
IsFront rose whole (Errors count) text = text ≡ whole
IsFront rose whole (Refused refusal) text = text ≡ []
IsFront rose whole (Failed object) text = IsFrontAt object whole text
IsFront rose whole (Input fault) text = text ≡ []
IsFront rose whole Memory text = (text ≡ []) ⊎ (text ≡ whole) ⊎ (rose × ((n : ℕ) × (text ≡ take n whole)))

-- What was written of the text of a command. Prints says what its whole text is, and beside it what holds where this much of it stands.
pub record WritesText (Prints : List ℕ → List ℕ → Type 0) (v : Verdict) (rose : Type 0) (old new : List ℕ) : Type 0 where
  pub whole : List ℕ
  pub text : List ℕ
  pub prints : Prints whole text
  pub is_front : IsFront rose whole v text
  pub added : new ≡ old ++ text

-- ---- the line of a status

-- the line of a refusal; a part of it only where the sink's count rose, and none where memory was wanted for it
abbrev pub IsLine : Verdict → Type 0 → List ℕ → Type 0
IsLine v rose line = (line ≡ refusal_of v) ⊎ ((v ≡ Memory) × (line ≡ [])) ⊎ (rose × ((n : ℕ) × (line ≡ take n (refusal_of v))))

-- the text was added
abbrev pub Adds : (List ℕ → Type 0) → List ℕ → List ℕ → Type 0
Adds P old new = (text : List ℕ) × P text × (new ≡ old ++ text)

-- What was written of the text of a command, and then the line of its status. A status of a build that ended with a report has no line.
pub record Writes (Prints : List ℕ → List ℕ → Type 0) (v : Verdict) (rose : Type 0) (old new : List ℕ) : Type 0 where
  pub mid : List ℕ
  pub text : WritesText Prints v rose old mid
  pub line : Adds (IsLine v rose) mid new

-- the refusal stays, but where its line wants memory
pub record Finishes (before after : Verdict) : Type 0 where
  pub same : after ≢ Memory → after ≡ before
  pub done : is_finished before ≡ true → after ≡ before
  pub refused : before ≢ Done → after ≢ Done

-- ---- the report of a run

-- what stands of a report; before anything of it, the store had gained the files
abbrev pub StandsFirst : Bool → List ℕ → Numbered → Verdict → Files → Files → List ℕ → Type 0
StandsFirst tells report stored v old new text = IsFront ⊥ report v text × Told tells (GainsFirst v text stored old new)

-- the same of the report of a run in which this many errors were printed: it is published where there are none
abbrev pub StandsMade : Bool → ℕ → List ℕ → Numbered → Verdict → Files → Files → List ℕ → Type 0
StandsMade tells errors report stored v old new text = IsFront ⊥ report v text × Told tells (errors ≡ 0 → GainsFirst v text stored old new)
