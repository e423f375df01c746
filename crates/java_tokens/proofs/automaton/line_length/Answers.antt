use Rattle.std.proofs.Common.{◌≡◌, ◌⊎◌, inl, inr, ◌||◌, ◌==◌, ℕ, Bool, true, false, get_or, refl, ap, ◌∙◌, arith}
use Rattle.std.proofs.lemmas.Bool.Decides.{Decides-eqb}
use Rattle.memchr.specs.Find.{is_byte2}
use Rattle.java_tokens.proofs.automaton.line_length.Goals as goal

line_end : (x : ℕ) → is_byte2 13 10 x ≡ true → (x ≡ 13) ⊎ (x ≡ 10)
line_end x e = by_tests (x == 13) (x == 10) refl refl e
  where
    by_tests : (a b : Bool) → (x == 13) ≡ a → (x == 10) ≡ b → (a || b) ≡ true → (x ≡ 13) ⊎ (x ≡ 10)
    by_tests true b p q is = inl ((Decides-eqb x 13).0 p)
    by_tests false b p q is = inr ((Decides-eqb x 10).0 (q ∙ is))

pub returns-in-Some : goal.returns-in-Some
returns-in-Some c = record {
  within = omega (arith, c.in-Some.ensures.0.high);
  before = λ k less. (λ e. c.in-Some.ensures.0.before k (omega arith) less (ap (is_byte2 13 10) e), λ e. c.in-Some.ensures.0.before k (omega arith) less (ap (is_byte2 13 10) e));
  ends = λ less. line_end (get_or c.args.bytes.now c.in-Some.end 0) c.in-Some.ensures.1;
}

pub returns-in-None : goal.returns-in-None
returns-in-None c = record {
  within = omega arith;
  before = λ k less. (λ e. c.in-None.ensures k (omega arith) less (ap (is_byte2 13 10) e), λ e. c.in-None.ensures k (omega arith) less (ap (is_byte2 13 10) e));
  ends = λ less. absurd (omega (arith, less));
}
