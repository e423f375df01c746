-- What comes of tables, one after another.
use Rattle.std.proofs.Common.{◌≡◌, ℕ, ◌+◌, ◌<◌, ◌≤◌, Bool, Result, Ok, Err, IfOk, MatchBool, List, [], ◌∷◌, ◌++◌, length, take, map, get_or, sym, subst, arith}
use Rattle.std.proofs.lemmas.List.{take_more, take_all, get_or-map, length-map}
use Rattle.std.proofs.lemmas.List.Elements.{All-map}
use Rattle.std.specs.List.{All}
use Rattle.vector_tables.specs.declared.table.Table.{Table}
use Rattle.vector_tables.specs.declared.outcome.Outcome.{Outcome}
use Rattle.vector_tables.specs.Answers.{IsOutcome, AreOutcomes}
use Rattle.vector_tables.proofs.CasesLemmas.{same_answer}

outcomes_push : (tables : List Table) (outcomes : List Outcome) (table : Table) (outcome : Outcome) → AreOutcomes tables outcomes → IsOutcome table outcome → AreOutcomes (tables ++ table ∷ []) (outcomes ++ outcome ∷ [])
outcomes_push [] [] table outcome are is = (is, tt)
outcomes_push [] (o ∷ os) table outcome are is = absurd are
outcomes_push (t ∷ ts) [] table outcome are is = absurd are
outcomes_push (t ∷ ts) (o ∷ os) table outcome (first, are) is = (first, outcomes_push ts os table outcome are is)

-- one more table
pub outcomes_more : (tables : List Table) (outcomes : List Outcome) (n : ℕ) (d : Table) (outcome : Outcome) → n < length tables → AreOutcomes (take n tables) outcomes → IsOutcome (get_or tables n d) outcome → AreOutcomes (take (n + 1) tables) (outcomes ++ outcome ∷ [])
outcomes_more tables outcomes n d outcome h are is =
    subst (λ ts. AreOutcomes ts (outcomes ++ outcome ∷ [])) (sym (take_more tables n d h)) (outcomes_push (take n tables) outcomes (get_or tables n d) outcome are is)

-- all tables
pub outcomes_all : (tables : List Table) (outcomes : List Outcome) (n : ℕ) → length tables ≤ n → AreOutcomes (take n tables) outcomes → AreOutcomes tables outcomes
outcomes_all tables outcomes n h are = subst (λ ts. AreOutcomes ts outcomes) (take_all n tables h) are

-- cases pass where the rows that they show hold
rows_hold : {A B : Type 0} (show : A → B) (Holds : B → Type 0) (cases : List A) → All Holds (map show cases) → All (λ c. Holds (show c)) cases
rows_hold show Holds cases all k d h = subst Holds (get_or-map show cases k d (show d) h) (all k (show d) (omega (arith, h, length-map cases show)))

pub rows_answer : {A B : Type 0} (show : A → B) (Holds : B → Type 0) (cases : List A) (rows : List B) (b : Bool) → map show cases ≡ rows
    → MatchBool b (All (λ c. Holds (show c)) cases) (¬ All (λ c. Holds (show c)) cases) → MatchBool b (All Holds rows) (¬ All Holds rows)
rows_answer show Holds cases rows b are answer =
    same_answer (All (λ c. Holds (show c)) cases) (All Holds rows) b (λ passed. subst (All Holds) are (All-map Holds show cases passed)) (λ hold. rows_hold show Holds cases (subst (All Holds) (sym are) hold)) answer

pub rows_result : {A B E : Type 0} (show : A → B) (Holds : B → Type 0) (cases : List A) (rows : List B) (r : Result Bool E) → map show cases ≡ rows
    → IfOk r (λ b. MatchBool b (All (λ c. Holds (show c)) cases) (¬ All (λ c. Holds (show c)) cases)) → IfOk r (λ b. MatchBool b (All Holds rows) (¬ All Holds rows))
rows_result show Holds cases rows (Ok b) are answer = rows_answer show Holds cases rows b are answer
rows_result show Holds cases rows (Err e) are answer = answer
