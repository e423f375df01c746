use Rattle.std.proofs.Common.{rules, tests, ℕ, List, Bor, refl, ◌∙◌}
use Rattle.std.specs.Str.{bytes_eq}
use Rattle.std.proofs.lemmas.Iterator.{YieldsList-from_slice}
use Rattle.std.proofs.lemmas.Iterator.Search.{any_from_yields_List}
use Rattle.apt_base.specs.Identifiers.{is_reserved}
use Rattle.apt_base.proofs.identifier.is_reserved.Goals as goal

pub returns : goal.returns
unfolding is_reserved
returns c =
    any_from_yields_List (λ (row : Bor (List ℕ) × ℕ). bytes_eq c.args.text.now row.0.now) _ _ c.any.result c.any.ensures.ran
    (YieldsList-from_slice _ c.iter.ensures.rest)
    (λ x b q k. search (rules, tests))
    ∙ refl
