-- 'Or' of answers over a list, from its end on.
use Rattle.std.proofs.Common.{◌≡◌, ℕ, ◌+◌, ◌-◌, ◌<◌, List, length, drop, get_or, sym, ap, ◌∙◌, arith}
use Rattle.std.proofs.lemmas.List.{drop_more}
use Rattle.type_levels.specs.Answers.{Answer, either, any}

pub any_before : {A : Type 0} (f : A → Answer) (xs : List A) (at : ℕ) (d : A) → at < length xs
    → either (f (get_or xs (length xs - 1 - at) d)) (any f (drop (length xs - at) xs)) ≡ any f (drop (length xs - (at + 1)) xs)
any_before f xs at d less =
    let here : length xs - (at + 1) ≡ length xs - 1 - at = omega arith in
    let next : length xs - (at + 1) + 1 ≡ length xs - at = omega arith in
    sym (ap (any f) (drop_more xs (length xs - (at + 1)) d (omega arith)) ∙ (λ i. either (f (get_or xs (here i) d)) (any f (drop (next i) xs))))
