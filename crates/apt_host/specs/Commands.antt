-- What each command may touch, answer and print. A command more is a case more of each definition here, and of `Does`, which says what it does beside.
use Rattle.std.specs.Prelude.{◌≡◌, ◌≢◌, ℕ, Bool, true, false, List, [], codes, Option, None, Some}
use Rattle.apt_outside.specs.Files.{Files}
use Rattle.apt_outside.specs.Child.{State}
use Rattle.tree_store.specs.Output.{ChangesBelow}
use Rattle.project_units.specs.Refusals.{BadWords}
use Rattle.project_reading.specs.Verdicts.{Verdict, Done, Errors, Refused, Failed, Input, Memory, OrMemory, is_input, is_sink}
use Rattle.apt_host.specs.Words.{Request, Build, Serve, Help, Bad, help_text}
use Rattle.apt_host.specs.Promises.{Reports}

-- ---- what it may touch

-- the objects that a command may touch, and the folder of the tree below which it may change files, if it may change any
pub record Touched : Type 0 where
  pub tree : Bool
  pub folder : Option (List ℕ)
  pub children : Bool
  pub source : Bool

abbrev pub nothing : Touched
nothing = record { tree = false; folder = None; children = false; source = false }

abbrev pub touched_by : Request → Touched
touched_by (Build options) = record { tree = true; folder = Some (codes "out"); children = true; source = false }
touched_by (Serve local) = record { tree = false; folder = None; children = false; source = true }
touched_by Help = nothing
touched_by (Bad at) = nothing

-- an object that may not be touched is as it was
abbrev pub SameUnless : {T : Type 0} → Bool → T → T → Type 0
SameUnless true old new = Unit {0}
SameUnless false old new = new ≡ old

-- each file that is not below the folder is as it was
abbrev pub SameBut : Option (List ℕ) → Files → Files → Type 0
SameBut None old new = new ≡ old
SameBut (Some folder) old new = ChangesBelow folder old new

-- ---- what it may answer

-- no build answers that its words are no command, or that its input failed
abbrev pub MayBuild : Verdict → Type 0
MayBuild v = ((at : ℕ) → v ≢ Refused (BadWords at)) × (is_input v ≡ false)

-- what `serve` may answer; `ServesFor` says when
abbrev pub may_serve : Verdict → Bool
may_serve Done = true
may_serve (Errors count) = false
may_serve (Refused refusal) = false
may_serve (Failed object) = is_sink object
may_serve (Input fault) = true
may_serve Memory = true

-- what a command may answer that prints a text and does nothing else
abbrev pub may_print : Verdict → Bool
may_print Done = true
may_print (Errors count) = false
may_print (Refused refusal) = false
may_print (Failed object) = is_sink object
may_print (Input fault) = false
may_print Memory = true

abbrev pub IsOwn : Request → Verdict → Type 0
IsOwn (Build options) v = MayBuild v
IsOwn (Serve local) v = may_serve v ≡ true
IsOwn Help v = may_print v ≡ true
IsOwn (Bad at) v = OrMemory (Refused (BadWords at)) v

-- ---- what it prints

-- What the whole text of a command is, and what holds where this much of it stands. Words that are no command have none, and what `serve` writes is said by `ServesFor`.
abbrev pub Prints : Bool → Bool → Request → Files → Files → State → State → Verdict → List ℕ → List ℕ → Type 0
Prints tells talks (Build options) old new before after v = Reports tells talks options old new before after v
Prints tells talks (Serve local) old new before after v = λ whole text. ⊥
Prints tells talks Help old new before after v = λ whole text. whole ≡ help_text
Prints tells talks (Bad at) old new before after v = λ whole text. whole ≡ []
