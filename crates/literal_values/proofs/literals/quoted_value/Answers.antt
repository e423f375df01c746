use Rattle.std.proofs.Common.{◌≡◌, ◌∷◌, IfOk, chars, sym, ap, subst, ◌∙◌}
use Rattle.std.proofs.lemmas.Str.{chars_past_char}
use Rattle.literal_values.specs.declared.quoted.Reading.TheVariants.{Plain}
use Rattle.literal_values.specs.Quoted.{unquoted}
use Rattle.literal_values.specs.Literals.{character_value, text_value}
use Rattle.literal_values.proofs.QuotedValues.{quoted_value-character, quoted_value-text}
use Rattle.literal_values.proofs.literals.quoted_value.Goals as goal

pub returns-in_ok-found-in-Some-eq39 : goal.returns-in_ok-found-in-Some-eq39
returns-in_ok-found-in-Some-eq39 c =
    let text = c.args.text.now in
    let rest = c.next.new.self.rest.now in
    let all : chars text ≡ c.in-Some-eq39.field-0 ∷ chars rest = chars_past_char text rest c.in-Some-eq39.field-0 c.utf8.text (sym c.chars-inside.ensures.rest ∙ c.in-Some-eq39.ensures.steps.0) in
    subst (λ e. IfOk c.character_value.result (λ v. v ≡ e))
    (ap (character_value text) (c.in_ok-found-in-Some-eq39.ensures ∙ ap (λ t. unquoted 39 Plain (chars t)) c.as_str.ensures) ∙ sym (quoted_value-character text rest _ all c.in-Some-eq39.field-0-test))
    c.character_value.ensures

pub returns-in_ok-found-in-Some-eq34 : goal.returns-in_ok-found-in-Some-eq34
returns-in_ok-found-in-Some-eq34 c =
    let text = c.args.text.now in
    let rest = c.next.new.self.rest.now in
    let all : chars text ≡ c.in-Some-eq34.field-0 ∷ chars rest = chars_past_char text rest c.in-Some-eq34.field-0 c.utf8.text (sym c.chars-inside.ensures.rest ∙ c.in-Some-eq34.ensures.steps.0) in
    subst (λ e. IfOk c.text_value.result (λ v. v ≡ e))
    (ap (text_value text) (c.in_ok-found-in-Some-eq34.ensures ∙ ap (λ t. unquoted 34 Plain (chars t)) c.as_str-in-Some-eq34.ensures) ∙ sym (quoted_value-text text rest _ all c.in-Some-eq34.field-0-test))
    c.text_value.ensures
