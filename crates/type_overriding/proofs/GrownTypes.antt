-- Types of which none has changed, and perhaps more behind them.
use Rattle.std.proofs.Common.{◌≡◌, ◌<◌, ◌≤◌, ℕ, suc, List, [], ◌∷◌, length, refl, ap, ◌∙◌, arith}
use Rattle.type_mirror.specs.declared.mirror.Mirror.{Mirror}
use Rattle.type_levels.specs.Numbered as numbered_types
use Rattle.type_levels.specs.Steps.{Next}
use Rattle.type_numbers.specs.Numbers.{at, Grows}
use Rattle.type_numbers.proofs.NumberLaws.{grows-on}
use Rattle.type_subtypes.specs.Numbers.{numbered}

grown : (t t' : List Mirror) → length t ≤ length t' → ((i : ℕ) → i < length t → at t' i ≡ at t i) → Grows t t'
grown [] t' more stands = record { more = t'; types = refl }
grown (x ∷ t) [] more stands = absurd (omega (arith, more))
grown (x ∷ t) (y ∷ t') more stands =
    let rest : Grows t t' = grown t t' (omega (arith, more)) (λ i h. stands (suc i) (omega (arith, h))) in
    record {
      more = rest.more;
      types = ap (λ (m : Mirror). m ∷ t') (stands 0 (omega arith)) ∙ ap (λ (ts : List Mirror). x ∷ ts) rest.types;
    }

-- two types were numbered, and then came a search
pub grown-searched : (asks : Mirror → Mirror → Next Mirror) (old first second last : List Mirror) → Grows old first → Grows first second
    → numbered_types.Grows (numbered asks second) (numbered asks last) → Grows old last
grown-searched asks old first second last g g' searched = grows-on old first last g (grows-on first second last g' (grown second last searched.more searched.stands))
