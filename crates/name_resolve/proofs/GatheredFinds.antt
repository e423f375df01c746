-- A loop over places that count as one, where what is wanted at each is gathered: what it finds, and what it wants.
use Rattle.std.proofs.Common.{◌≡◌, ℕ, ◌+◌, ◌<◌, Result, Ok, Err, IfOk, IfErr, Vec, Global, List, [], ◌∷◌, ◌++◌, length, get_or, drop, sym, ap, subst, ◌∙◌}
use Rattle.element_table.specs.TypeTable.{TypeTable}
use Rattle.name_resolve.specs.declared.finds.Finds.{Finds}
use Rattle.name_resolve.specs.declared.member_types.MemberTypes.{MemberTypes}
use Rattle.name_resolve.specs.declared.memory.Stop.{Stop}
use Rattle.name_resolve.specs.declared.memory.Stop.TheVariants as stop
use Rattle.name_resolve.specs.declared.memory.Wanted.{Wanted}
use Rattle.name_resolve.specs.Finds as find
use Rattle.name_resolve.specs.Finds.{both}
use Rattle.name_resolve.specs.Meaning.{Members}
use Rattle.name_resolve.specs.Remembered.{AreQuestions, IsWanted, Gathers, Agrees, Tells}
use Rattle.name_resolve.specs.Shown.{finds_of}
use Rattle.name_resolve.proofs.LookSteps.{from_each, each_more, each_over}

-- what places find, or all that they want to have asked
abbrev pub Gathered : Type 0
Gathered = Result Finds (Vec Wanted Global)

-- ---- what is found

module _ {A : Type 0} (memory : MemberTypes) (levels : ℕ) (found_at : Members → A → find.Finds) (whole : Members → find.Finds) (places : List A) where
  -- what is found so far, with the places that are left
  abbrev pub FoundSoFar : ℕ → Gathered → Type 0
  FoundSoFar i all = IfOk all (λ f. (members : Members) → Agrees memory levels members → from_each (found_at members) (finds_of f) (drop i places) ≡ whole members)

  pub more-found : (i : ℕ) (place : A) → i < length places → get_or places i place ≡ place → (all : Gathered) (more : Result Finds Stop) (next : Gathered) → Gathers all more next → FoundSoFar i all
      → Tells more memory levels (λ members. found_at members place) → FoundSoFar (i + 1) next
  more-found i place within is all more (Err w) gathers so_far told = tt
  more-found i place within is (Ok a) (Ok b) (Ok f) gathers so_far told = λ members agrees.
      each_more (found_at members) places i place (finds_of a) (finds_of f) within is (gathers ∙ ap (both (finds_of a)) (told members agrees)) ∙ so_far members agrees
  more-found i place within is (Ok a) (Err stop.Memory) (Ok f) gathers so_far told = absurd gathers
  more-found i place within is (Ok a) (Err (stop.Wanted v)) (Ok f) gathers so_far told = absurd gathers
  more-found i place within is (Err w) (Ok b) (Ok f) gathers so_far told = absurd gathers
  more-found i place within is (Err w) (Err stop.Memory) (Ok f) gathers so_far told = absurd gathers
  more-found i place within is (Err w) (Err (stop.Wanted v)) (Ok f) gathers so_far told = absurd gathers

  pub all-found : (i : ℕ) → length places ≡ i → (all : Gathered) (f : Finds) → all ≡ Ok f → FoundSoFar i all → (members : Members) → Agrees memory levels members → finds_of f ≡ whole members
  all-found i end all f is so_far members agrees =
      sym (each_over (found_at members) places i (finds_of f) end) ∙ (subst (λ (r : Gathered). FoundSoFar i r) is so_far) members agrees

-- ---- what is wanted

module _ (table : TypeTable) where
  abbrev pub WantedSoFar : Gathered → Type 0
  WantedSoFar all = IfErr all (λ w. AreQuestions table w.items)

  with_others : (one other : List Wanted) → AreQuestions table one → AreQuestions table other → AreQuestions table (one ++ other)
  with_others [] other p q = q
  with_others (w ∷ one) other p q = (p.0, with_others one other p.1 q)

  pub more-wanted : (all : Gathered) (more : Result Finds Stop) (next : Gathered) → Gathers all more next → WantedSoFar all → IfErr more (IsWanted table) → WantedSoFar next
  more-wanted all more (Ok f) gathers was too = tt
  more-wanted (Ok a) (Ok b) (Err n) gathers was too = absurd gathers
  more-wanted (Ok a) (Err stop.Memory) (Err n) gathers was too = absurd gathers
  more-wanted (Ok a) (Err (stop.Wanted v)) (Err n) gathers was too = subst (AreQuestions table) (sym gathers) too
  more-wanted (Err w) (Ok b) (Err n) gathers was too = subst (AreQuestions table) (sym gathers) was
  more-wanted (Err w) (Err stop.Memory) (Err n) gathers was too = absurd gathers
  more-wanted (Err w) (Err (stop.Wanted v)) (Err n) gathers was too = subst (AreQuestions table) (sym gathers) (with_others w.items v.items was too)

  pub all-wanted : (all : Gathered) (w : Vec Wanted Global) → all ≡ Err w → WantedSoFar all → AreQuestions table w.items
  all-wanted all w is so_far = subst (λ (r : Gathered). WantedSoFar r) is so_far
