-- A relation within a number of steps is the same by two ways to ask that ask the same of good types, and of good types alone.
use Rattle.std.proofs.Common.{◌≡◌, ℕ, zero, suc, List, [], ◌∷◌, refl, ap, ap₂, ◌∙◌}
use Rattle.std.specs.List.{AllByRecursion}
use Rattle.type_levels.specs.declared.answer.Answer.{Answer}
use Rattle.type_levels.specs.Answers.{either, both, any, all}
use Rattle.type_levels.specs.Steps.{Question, Settled, Asks, Next, Decided, Arguments, Supertypes, answer_of, with_step, without_step, sub_within}
use Rattle.closed_cuts.proofs.Keeping.{Kept}

module _ {M : Type 0} (Good : M → Type 0) where
  abbrev pub GoodQuestion : Question M → Type 0
  GoodQuestion (Settled answer) = Unit {0}
  GoodQuestion (Asks a b) = Good a × Good b

  abbrev pub GoodNext : Next M → Type 0
  GoodNext (Decided answer) = Unit {0}
  GoodNext (Arguments questions) = AllByRecursion GoodQuestion questions
  GoodNext (Supertypes types) = AllByRecursion Good types

  module _ (below below' : M → M → Answer) (same : (a b : M) → Good a → Good b → below a b ≡ below' a b) where
    pub answer-same : (q : Question M) → GoodQuestion q → answer_of below q ≡ answer_of below' q
    answer-same (Settled answer) g = refl
    answer-same (Asks a b) g = same a b g.0 g.1

    all_same : (qs : List (Question M)) → AllByRecursion GoodQuestion qs → all (answer_of below) qs ≡ all (answer_of below') qs
    all_same [] g = refl
    all_same (q ∷ qs) g = ap₂ (λ (x : Answer) (y : Answer). both x y) (answer-same q g.0) (all_same qs g.1)

    any_same : (b : M) → Good b → (types : List M) → AllByRecursion Good types → any (λ s. below s b) types ≡ any (λ s. below' s b) types
    any_same b h [] g = refl
    any_same b h (s ∷ types) g = ap₂ (λ (x : Answer) (y : Answer). either x y) (same s b g.0 h) (any_same b h types g.1)

    step_same : (b : M) → Good b → (next : Next M) → GoodNext next → with_step below b next ≡ with_step below' b next
    step_same b h (Decided answer) g = refl
    step_same b h (Arguments questions) g = all_same questions g
    step_same b h (Supertypes types) g = any_same b h types g

  module _ (next next' : M → M → Next M) (kept : (a b : M) → Good a → Good b → Kept GoodNext (next a b) (next' a b)) where
    pub within-same : (n : ℕ) (a b : M) → Good a → Good b → sub_within next n a b ≡ sub_within next' n a b
    unfolding sub_within
    within-same zero a b g h = ap without_step (kept a b g h).equal
    within-same (suc n) a b g h =
        let k = kept a b g h in
        step_same (sub_within next n) (sub_within next' n) (within-same n) b h (next a b) k.good
        ∙ ap (with_step (sub_within next' n) b) k.equal
