-- What is printed of tables, and the exit status.
use Rattle.std.specs.Prelude.{◌≡◌, ◌≢◌, ℕ, Bool, List, [], ◌∷◌, ◌++◌, codes, string_bytes, if◌then◌else◌, ⊤}
use Rattle.std.specs.List.{All, list_all, flat_map}
use Rattle.vector_tables.specs.declared.table.Table.{Table}
use Rattle.vector_tables.specs.declared.table.Table.TheVariants as tables
use Rattle.vector_tables.specs.declared.outcome.Outcome.{Outcome}
use Rattle.vector_tables.specs.declared.answer.Answer.{Answer}
use Rattle.vector_tables.specs.declared.words.Task.{Task}
use Rattle.vector_tables.specs.declared.words.Task.TheVariants.{Each, One, Refused}
use Rattle.vector_tables.specs.Cases.{Tells, Holds}
use Rattle.vector_tables.specs.TokenRows.{token_rows}
use Rattle.vector_tables.specs.FrameCases.{IsMet}
use Rattle.vector_tables.specs.FrameRows.{frame_rows}

-- the name of a table
abbrev pub name_of : Table → List ℕ
name_of tables.Tokens = codes "tokens"
name_of tables.Frames = codes "frames"

-- each row of a table holds
abbrev pub AllHold : Table → Type 0
AllHold tables.Tokens = All Holds token_rows
AllHold tables.Frames = All IsMet frame_rows

-- no table has the name
abbrev pub HasNoTable : List ℕ → Type 0
HasNoTable name = (table : Table) → name ≢ name_of table

-- each table, in order
abbrev pub every_table : List Table
every_table = tables.Tokens ∷ tables.Frames ∷ []

-- what comes of a table: its name, and whether each of its rows holds
abbrev pub IsOutcome : Table → Outcome → Type 0
IsOutcome table outcome = (outcome.name.now ≡ name_of table) × Tells outcome.passed (AllHold table)

-- what comes of tables, in order
abbrev pub AreOutcomes : List Table → List Outcome → Type 0
AreOutcomes [] [] = ⊤
AreOutcomes (table ∷ tables) (outcome ∷ outcomes) = IsOutcome table outcome × AreOutcomes tables outcomes
AreOutcomes tables outcomes = ⊥

abbrev pub verdict : Bool → List ℕ
verdict passed = if passed then codes "passed" else codes "failed"

-- the line on a table
abbrev pub outcome_line : Outcome → List ℕ
outcome_line outcome = outcome.name.now ++ (codes ": " ++ (verdict outcome.passed ++ codes "\n"))

-- the exit status: 0 where all passed
abbrev pub status_of : List Outcome → ℕ
status_of outcomes = if list_all (λ o. o.passed) outcomes then 0 else 1

-- an answer has the lines and the status of tables
abbrev pub Reports : List Table → Answer → Type 0
Reports tables answer =
    (outcomes : List Outcome) × AreOutcomes tables outcomes × (string_bytes answer.text ≡ flat_map outcome_line outcomes) × (answer.status ≡ status_of outcomes)

-- the answer to a task
abbrev pub Answers : Task → Answer → Type 0
Answers Each answer = Reports every_table answer
Answers (One table) answer = Reports (table ∷ []) answer
Answers Refused answer = (string_bytes answer.text ≡ codes "refused\n") × (answer.status ≡ 2)
