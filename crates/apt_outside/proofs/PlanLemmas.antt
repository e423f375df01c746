-- How a counted call follows its plan.
use Rattle.std.proofs.Common.{◌≡◌, ℕ, ◌+◌, ◌-◌, ◌^◌, ◌==◌, min, Bool, false, cond, Some, Ok, sym, ap, ◌∙◌}
use Rattle.std.specs.List.{list_any}
use Rattle.std.proofs.lemmas.Bool.{false≢true}
use Rattle.apt_outside.specs.Plan.{Plan, Follows, next_call, fails_next}

module _ (plan : Plan) (calls before : ℕ) (is : calls ≡ next_call plan) where
  told : (b : Bool) → list_any (λ k. k == calls) plan.numbers ≡ b → fails_next plan ≡ b
  told b tested = ap (λ n. list_any (λ k. k == n) plan.numbers) (sym is) ∙ tested

  -- a call that isn't planned passes
  pub follows_ok : list_any (λ k. k == calls) plan.numbers ≡ false → Follows {T = Unit {0}} plan (Some (record { numbers = plan.numbers; calls = calls })) before before (Ok (tt {0}))
  follows_ok tested =
      let none : fails_next plan ≡ false = told false tested in
      record {
        failed = ((λ e. absurd (cc)), (λ t. absurd (false≢true (sym none ∙ t))));
        counted = sym (ap (λ b. cond b (min (before + 1) (2 ^ 64 - 1)) before) none);
        next = ap (λ n. Some (record { numbers = plan.numbers; calls = n })) is;
      }
