use Rattle.std.proofs.Common.{◌≡◌}
use Rattle.serde_json.specs.View.{members_view}
use Rattle.project_config.specs.Reading.{rows_of}
use Rattle.project_config.proofs.AnswerLaws.{onto}
use Rattle.project_config.proofs.rows.rows_of.Given as goal

-- the rows so far, and those of the members that are left
abbrev pub invariant-loop-name : goal.invariant-loop-name
invariant-loop-name l = onto l.rows (rows_of (members_view l.name-iterator)) ≡ rows_of (members_view l.members.entries)
