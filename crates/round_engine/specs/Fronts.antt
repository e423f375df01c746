-- What the children of a run were sent where it broke off: the first of what the run sends them, and nothing else.
use Rattle.std.specs.Prelude.{◌≡◌, ◌≢◌, ℕ, ◌≤◌, List, [], length, slice_get, slice_index_or, Option, None, Some, IsSomeAnd}
use Rattle.apt_outside.specs.Child.{Try}
use Rattle.child_session.specs.Round.{IsFront}
use Rattle.round_engine.specs.Run.{Frames}

-- There are no more children than the run starts, and each, by its processor's number, was sent the first of its frames.
pub record AreFronts (sent all : List Frames) : Type 0 where
  pub few : length sent ≤ length all
  pub at : (number : ℕ) → IsFront (slice_index_or sent number []) (slice_index_or all number [])

-- so it is, but for the child of one processor, which has this name: what that child was sent is not told
pub record FrontsButOne (name : List ℕ) (processors : List Try) (sent all : List Frames) : Type 0 where
  pub few : length sent ≤ length all
  pub one : ℕ
  pub named : IsSomeAnd (slice_get processors one) (λ (processor : Try). processor.0 ≡ name)
  pub at : (number : ℕ) → number ≢ one → IsFront (slice_index_or sent number []) (slice_index_or all number [])

-- so it is, but for the child that is exempt, if one is, which goes by the name of its processor
abbrev pub FrontsBut : Option (List ℕ) → List Try → List Frames → List Frames → Type 0
FrontsBut None processors sent all = AreFronts sent all
FrontsBut (Some name) processors sent all = FrontsButOne name processors sent all
