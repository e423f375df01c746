-- Answers that are the same on two sides, and of which something holds.
use Rattle.std.specs.Prelude.{◌≡◌, Option, IfSome}

-- the same on both sides, and good
pub record Kept {A : Type 0} (Good : A → Type 0) (one other : A) : Type 0 where
  pub equal : one ≡ other
  pub good : Good one

-- a good one, or none
abbrev pub IfAny : {A : Type 0} → (A → Type 0) → Option A → Type 0
IfAny Good option = IfSome option Good
