use Rattle.std.proofs.Common.{◌≡◌, ◌∷◌, Ok, string_bytes, ap, sym, ◌∙◌}
use Rattle.serde_json.specs.View.{view, members_view}
use Rattle.project_config.specs.Reading.{row_in, rows_of}
use Rattle.project_config.proofs.AnswerLaws.{onto, onto-more}
use Rattle.project_config.proofs.rows.rows_of.Goals as goal

pub loop-name-preserved : goal.loop-name-preserved
loop-name-preserved c =
    let name = string_bytes c.in-Some.name.now in
    let value = view c.in-Some.value.now in
    let rest = rows_of (members_view c.next.new.self) in
    let left : c.loop-name.name-iterator ≡ (c.in-Some.name.now, c.in-Some.value.now) ∷ c.next.new.self = c.in-Some.ensures.steps in
    let first : row_in name value ≡ Ok c.in_ok-row.row = ap (λ each. row_in each value) (sym c.as_str.ensures.value) ∙ c.in_ok-row.ensures in
    ap (λ rows. onto rows rest) c.in_ok-push.ensures.ok
    ∙ onto-more c.loop-name.rows (row_in name value) c.in_ok-row.row rest first
    ∙ ap (λ left. onto c.loop-name.rows (rows_of (members_view left))) (sym left)
    ∙ c.loop-name.invariant
