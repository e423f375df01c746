-- Questions that are steady one after another are all steady.
use Rattle.std.proofs.Common.{◌≡◌, ℕ, ◌+◌, ◌<◌, ◌≤◌, ◌⊎◌, inl, inr, length, slice_get, sym, subst, ap, ◌∙◌, arith}
use Rattle.std.proofs.lemmas.Option.{slice_get_within}
use Rattle.name_resolve.specs.declared.member_types.MemberTypes.{MemberTypes}
use Rattle.name_resolve.specs.declared.memory.Question.{Question}
use Rattle.name_resolve.specs.Remembered.{Stands, IsSteady, AreSteady}
use Rattle.name_resolve.proofs.KeptQuestions.{same_place}
use Rattle.name_resolve.proofs.RememberedLemmas.{some_is}

module _ (memory : MemberTypes) (fewer levels place : ℕ) where
  -- those in front of the place that are not settled
  abbrev pub Before : Type 0
  Before = (at : ℕ) (q : Question) → memory.settled.count ≤ at → at < place → Stands memory at q → IsSteady q fewer levels

  pub one-more : (here : Question) → Stands memory place here → IsSteady here fewer levels → Before → (at : ℕ) (q : Question) → memory.settled.count ≤ at → at < place + 1 → Stands memory at q → IsSteady q fewer levels
  one-more here is steady before at q behind below stands = by_place (same_place place at)
    where
      by_place : (place ≡ at) ⊎ (place ≡ at → ⊥) → IsSteady q fewer levels
      by_place (inl e) = subst (λ x. IsSteady x fewer levels) (some_is here q (sym is ∙ ap (slice_get memory.questions.items) e ∙ stands)) steady
      by_place (inr apart) = before at q behind (omega (arith, below, apart)) stands

  pub all-steady : length memory.questions.items ≤ place → memory.settled.levels ≤ fewer → Before → AreSteady memory fewer levels
  all-steady end reached before = record {
    settled = reached;
    each = λ at q behind stands. before at q behind (let within = slice_get_within memory.questions.items at q stands in omega (arith, end, within)) stands;
  }
