use Rattle.std.proofs.Common.{◌≡◌, ◌&&◌, Bool, List, ℕ, ◌∷◌, sym, ap, ◌∙◌}
use Rattle.std.specs.List.{list_all}
use Rattle.std.specs.Str.{chars}
use Rattle.std.proofs.lemmas.Str.{chars_past_char}
use Rattle.apt_base.specs.Identifiers.{is_word, continues_identifier}
use Rattle.apt_base.proofs.identifier.is_word.Goals as goal

pub returns-then-starts_identifier : goal.returns-then-starts_identifier
returns-then-starts_identifier c =
    let rest = c.next.new.self.rest.now in
    let all : chars c.args.text.now ≡ c.in-Some.first ∷ chars rest = chars_past_char c.args.text.now rest c.in-Some.first c.utf8.text (sym c.chars-chars.ensures.rest ∙ c.in-Some.ensures.steps.0) in
    let going : c.continues.result ≡ list_all continues_identifier (chars rest) = c.continues.ensures ∙ ap (λ (t : List ℕ). list_all continues_identifier (chars t)) c.as_str.ensures in
    going ∙ ap (λ (b : Bool). b && list_all continues_identifier (chars rest)) (c.if-starts_identifier.ensures) ∙ sym (ap is_word all)
