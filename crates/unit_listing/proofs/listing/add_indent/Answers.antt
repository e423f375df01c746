use Rattle.std.proofs.Common.{ℕ, List, [], ◌∷◌, ◌++◌, codes, take, get_or, sym, ap, ◌∙◌, append_assoc, string_bytes}
use Rattle.std.proofs.lemmas.List.{take_more}
use Rattle.std.proofs.lemmas.Grind.{flat_map-append}
use Rattle.unit_listing.specs.Listing.{indent}
use Rattle.unit_listing.proofs.listing.add_indent.Goals as goal

pub loop-step-preserved : goal.loop-step-preserved
loop-step-preserved c =
    let old = string_bytes c.args.text.now in
    let path = c.args.path.now in
    let i = c.loop-step._step-index in
    c.in_ok-push_str.ensures.bytes
    ∙ ap (λ (t : List ℕ). t ++ codes "  ") c.loop-step.invariant
    ∙ append_assoc old (indent (take i path)) (codes "  ")
    ∙ ap (λ (t : List ℕ). old ++ t)
    (sym (ap indent (take_more path i 0 c.loop-step-test.true) ∙ flat_map-append (λ (step : ℕ). codes "  ") (take i path) (get_or path i 0 ∷ [])))
