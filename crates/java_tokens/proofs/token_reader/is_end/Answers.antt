use Rattle.std.proofs.Common.{◌≡◌, ◌≢◌, ◌∙◌, length, sym, subst}
use Rattle.std.proofs.lemmas.Bool.Decides.{Decides-eqb}
use Rattle.std.proofs.lemmas.Bool.{false≢true}
use Rattle.std.specs.Bool.{MatchBool}
use Rattle.std.specs.Str.{chars}
use Rattle.java_tokens.specs.Tokens.{IsEnd}
use Rattle.java_tokens.proofs.TokensGathered.{end_empty, end_tested}
use Rattle.java_tokens.proofs.token_reader.is_end.Goals as goal

pub returns-then-is_empty : goal.returns-then-is_empty
returns-then-is_empty c =
    let rest = c.args.rest.now in
    let none : length rest ≡ 0 = (Decides-eqb (length rest) 0).0 (sym c.is_empty.ensures ∙ c.if-is_empty.true) in
    subst (λ b. MatchBool b (IsEnd (chars rest)) (¬ IsEnd (chars rest))) (sym c.if-is_empty.true) (end_empty rest none)

pub returns-else-is_empty : goal.returns-else-is_empty
returns-else-is_empty c =
    let rest = c.args.rest.now in
    let some : length rest ≢ 0 = λ none. false≢true (sym c.if-is_empty.false ∙ c.is_empty.ensures ∙ (Decides-eqb (length rest) 0).1 none) in
    end_tested rest c.eq.result c.utf8.rest some c.eq.ensures
