use Rattle.std.proofs.Common.{◌≡◌, ℕ, subst, sym, rules}
use Rattle.std.specs.Prelude.{IfOk, MatchBool}
use Rattle.java_tokens.specs.CharsShown.{FaultAt}
use Rattle.java_tokens.specs.Tokens.{IsTokenFault}
use Rattle.java_tokens.specs.TokensShown.{codes_in, offsets_in}
use Rattle.vector_tables.proofs.CasesLemmas.{place_answer}
use Rattle.vector_tables.proofs.case.has_fault.Goals as goal
use Rattle.vector_tables.proofs.case.has_fault.Goals.{in-Ok, in-Err-Bad, in-Err-Memory}

pub returns : goal.returns
returns c =
    let P : ℕ → Type 0 = IsTokenFault (codes_in c.args.chars.now) (offsets_in c.args.chars.now) in
    let place = c.args.place in
    elim c.match-tokens.branch [
      | in-Ok w ↦ subst (λ r. IfOk r (λ has. MatchBool has (P place) (¬ P place))) (sym w.result-is) (λ fault. w.in-Ok.ensures.place place fault)
      | in-Err-Bad w ↦
          subst (λ r. IfOk r (λ has. MatchBool has (P place) (¬ P place))) (sym w.result-is)
          (place_answer P w.in-Err-Bad.at place (subst (FaultAt P) w.in-Err-Bad.field-0-is w.in-Err-Bad.ensures.tokens) (λ other is. subst (FaultAt (λ at. at ≡ other)) w.in-Err-Bad.field-0-is (w.in-Err-Bad.ensures.place other is)))
      | in-Err-Memory w ↦ subst (λ r. IfOk r (λ has. MatchBool has (P place) (¬ P place))) (sym w.result-is) (search rules)
    ]
