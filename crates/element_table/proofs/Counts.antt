-- Counting the types of a unit along the walk over it, up to one more than the most.
use Rattle.std.proofs.Common.{◌≡◌, ℕ, ◌+◌, ◌<◌, ◌≤◌, min, true, false, ◌&&◌, cond, List, [], ◌∷◌, Some, None, refl, sym, ap, ◌∙◌, arith}
use Rattle.std.specs.Prelude.{nat_le, if◌then◌else◌}
use Rattle.std.specs.List.{FoldsTo, count_by}
use Rattle.std.proofs.lemmas.List.Sums.{sum_by-cons}
use Rattle.std.proofs.lemmas.Bool.{lt-leb, le-leb, leb-true, leb-false}
use Rattle.decl_elements.specs.Walk.{Place}
use Rattle.element_table.specs.TypeCounts.{counts}
use Rattle.element_table.specs.TypeTable.{most_types, up_to_most}

module _ {V : Type 0} (types : V → ℕ) (most : ℕ) where
  abbrev CountsOn : V → Place → V → Type 0
  CountsOn old at new = types new ≡ (if counts at.node && nat_le (types old) most then types old + 1 else types old)

  one_more : (a j n : ℕ) → a ≤ most + 1 → j ≡ (if nat_le a most then a + 1 else a) → (j ≤ most + 1) × (min (j + n) (most + 1) ≡ min (a + (1 + n)) (most + 1))
  one_more a j n within step =
      elim (nat_le a most) as (λ b. nat_le a most ≡ b → j ≡ (if b then a + 1 else a) → (j ≤ most + 1) × (min (j + n) (most + 1) ≡ min (a + (1 + n)) (most + 1))) [
        | true ↦ λ is step. let le : a ≤ most = leb-true a most is in (omega arith, omega arith)
        | false ↦ λ is step. let lt : most < a = leb-false a most is in (omega arith, omega arith)
      ] refl step

  pub counted : (a b : V) (ats : List Place) → types a ≤ most + 1 → FoldsTo CountsOn a ats b → types b ≡ min (types a + count_by (λ (at : Place). counts at.node) ats) (most + 1)
  counted a b [] within folds = let same : types a ≡ types b = ap types folds in omega arith
  counted a b (at ∷ ats) within folds =
      let n : ℕ = count_by (λ (at : Place). counts at.node) ats in
      let same : types b ≡ min (types a + (cond (counts at.node) 1 0 + n)) (most + 1) =
      elim (counts at.node) as (λ yes. types folds.0 ≡ (if yes && nat_le (types a) most then types a + 1 else types a) → types b ≡ min (types a + (cond yes 1 0 + n)) (most + 1)) [
        | true ↦ λ step. let more = one_more (types a) (types folds.0) n within step in counted folds.0 b ats more.0 folds.2 ∙ more.1
        | false ↦ λ step.
            let none : types folds.0 + n ≡ types a + (0 + n) = omega arith in
            counted folds.0 b ats (omega arith) folds.2 ∙ ap (λ k. min k (most + 1)) none
      ] folds.1
      in
      same ∙ ap (λ k. min (types a + k) (most + 1)) (sym (sum_by-cons (λ (at : Place). cond (counts at.node) 1 0) at ats))

-- ---- up to the most

pub within_most : (types all : ℕ) → types ≡ min all (most_types + 1) → types ≤ most_types → Some types ≡ up_to_most all
within_most types all is within =
    let same : types ≡ all = omega arith in
    sym (ap (λ b. cond b (Some types) None) (le-leb types most_types within)) ∙ ap up_to_most same

pub above_most : (types all : ℕ) → types ≡ min all (most_types + 1) → most_types < types → None ≡ up_to_most all
above_most types all is above =
    let more : most_types < all = omega arith in
    sym (ap (λ b. cond b (Some all) None) (lt-leb all most_types more))
