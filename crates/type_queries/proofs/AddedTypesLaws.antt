-- A number that was given for a type serves all questions that come later, and these come to what they come to by their types.
use Rattle.std.proofs.Common.{◌≡◌, ℕ, Bool, true, false, ◌&&◌, Result, ap₂, ◌∙◌}
use Rattle.apt_base.specs.Limits.{max_type_steps}
use Rattle.type_memory.specs.Known.{Known, Grows, type_at}
use Rattle.type_memory.proofs.GrownTypes.{grows-same}
use Rattle.type_mirror.specs.declared.mirror.Mirror.{Mirror}
use Rattle.type_numbers.specs.Numbers.{Stands}
use Rattle.type_numbers.proofs.NumberLaws.{grown-at, grown-known}
use Rattle.type_subtypes.specs.Subtypes.{contained, subtype}
use Rattle.type_queries.proofs.JudgedQuestions.{judged-answered}
use Rattle.type_queries.specs.AddedTypes.{IsThere}
use Rattle.type_queries.specs.Questions.{are_both_there, are_types, contains_question, subtype_question}
use Rattle.type_queries.specs.Verdicts.{Verdict, WrongKind, Gives, are_there, judged, truth}
use Rattle.type_queries.specs.declared.fault.QueryFault.{QueryFault}

-- ---- numbers that questions may go by

pub added-there : (old new : Known) (number : ℕ) (m : Mirror) → Grows old new → Stands new.types number m → are_there old.table m ≡ true → IsThere new number
added-there old new number m grows stands there = record {
  known = stands.known;
  there = ap₂ are_there grows.table stands.type ∙ there;
}

pub grown-there : (old new : Known) (number : ℕ) → Grows old new → IsThere old number → IsThere new number
grown-there old new number grows one = record {
  known = grown-known old.types new.types number grows.types one.known;
  there = ap₂ are_there grows.table (grown-at old.types new.types number grows.types one.known) ∙ one.there;
}

-- what a caller needs who adds types and asks
pub ruleset there = (added-there, grown-there)

-- ---- what a question comes to

module _ (held : Known) (one other : ℕ) (first : IsThere held one) (second : IsThere held other) where
  abbrev a : Mirror
  a = type_at held one

  abbrev b : Mirror
  b = type_at held other

  both_there : are_both_there held.table a b ≡ true
  both_there = ap₂ (λ (x y : Bool). x && y) first.there second.there

  other_kind : (answer : Verdict Bool) → are_types a b ≡ false → judged (are_both_there held.table a b) (are_types a b) answer ≡ WrongKind
  other_kind answer e = ap₂ (λ (t k : Bool). judged t k answer) both_there e

  pub subtype-other : are_types a b ≡ false → subtype_question held.table a b ≡ WrongKind
  unfolding subtype_question
  subtype-other e = other_kind (truth (subtype held.table max_type_steps a b)) e

  pub subtype-given : (r : Result Bool QueryFault) → are_types a b ≡ true → Gives r (truth (subtype held.table max_type_steps a b)) → Gives r (subtype_question held.table a b)
  unfolding subtype_question
  subtype-given r e given = judged-answered (are_both_there held.table a b) (are_types a b) (truth (subtype held.table max_type_steps a b)) r (both_there, e) given

  pub contains-other : are_types a b ≡ false → contains_question held.table a b ≡ WrongKind
  unfolding contains_question
  contains-other e = other_kind (truth (contained held.table max_type_steps a b)) e

  pub contains-given : (r : Result Bool QueryFault) → are_types a b ≡ true → Gives r (truth (contained held.table max_type_steps a b)) → Gives r (contains_question held.table a b)
  unfolding contains_question
  contains-given r e given = judged-answered (are_both_there held.table a b) (are_types a b) (truth (contained held.table max_type_steps a b)) r (both_there, e) given

pub ruleset asking = (
  grows-same,
  subtype-other,
  subtype-given,
  contains-other,
  contains-given,
)
