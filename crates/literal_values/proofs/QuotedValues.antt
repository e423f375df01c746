-- The value of a literal in quotes, by what stands behind its first quote.
use Rattle.std.proofs.Common.{◌≡◌, ℕ, List, ◌∷◌, chars, ap, ◌∙◌}
use Rattle.literal_values.specs.declared.quoted.Reading.TheVariants.{Plain}
use Rattle.literal_values.specs.Quoted.{unquoted}
use Rattle.literal_values.specs.Literals.{character_value, text_value, quoted_value}

pub quoted_value-character : (text rest : List ℕ) (c : ℕ) → chars text ≡ c ∷ chars rest → c ≡ 39 → quoted_value text (chars text) ≡ character_value text (unquoted 39 Plain (chars rest))
unfolding quoted_value
quoted_value-character text rest c all is = ap (quoted_value text) (all ∙ ap (λ c. c ∷ chars rest) is)

pub quoted_value-text : (text rest : List ℕ) (c : ℕ) → chars text ≡ c ∷ chars rest → c ≡ 34 → quoted_value text (chars text) ≡ text_value text (unquoted 34 Plain (chars rest))
unfolding quoted_value
quoted_value-text text rest c all is = ap (quoted_value text) (all ∙ ap (λ c. c ∷ chars rest) is)
