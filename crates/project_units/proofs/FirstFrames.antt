-- Whether the first frame to a processor is within the limit, by whether it can be sent.
use Rattle.std.proofs.Common.{◌≡◌, List, ℕ, Bool, true, false, not, nat_lt, nat_le, length, refl, sym, ap, ◌∙◌, arith}
use Rattle.std.proofs.lemmas.Bool.Decides.{nat_tests}
use Rattle.wire_frames.specs.declared.frame.Frame.{Frame}
use Rattle.wire_frames.specs.Limits.{is_too_large}
use Rattle.wire_frames.proofs.LimitsLemmas.{init_is_sent}
use Rattle.project_units.specs.Plans.{Plan, init_of, init_frame, init_fits}

module _ (plan : Plan) (name : List ℕ) (frame : Frame) (is : frame ≡ init_of plan name) where
  longer : is_too_large frame ≡ nat_lt 134217728 (length (init_frame plan name))
  longer = ap is_too_large is ∙ init_is_sent (record { name = name; level = plan.level; options = plan.options })

  fits : is_too_large frame ≡ false → true ≡ init_fits plan name
  fits sent = let short : nat_lt 134217728 (length (init_frame plan name)) ≡ false = sym longer ∙ sent in grind (arith, nat_tests)

  large : is_too_large frame ≡ true → false ≡ init_fits plan name
  large past = let long : nat_lt 134217728 (length (init_frame plan name)) ≡ true = sym longer ∙ past in grind (arith, nat_tests)

  pub fits_where_sent : not (is_too_large frame) ≡ init_fits plan name
  fits_where_sent = by (is_too_large frame) refl
    where
      by : (b : Bool) → is_too_large frame ≡ b → not b ≡ init_fits plan name
      by true past = large past
      by false sent = fits sent
