use Rattle.std.proofs.Common.{Some, ap, sym, ◌∙◌}
use Rattle.case_table.proofs.RowsLemmas.{no_row, number_at-read, number_of-none, number_of-some}
use Rattle.case_table.proofs.cases.Cases.find.Goals as goal

pub returns-in_err-place : goal.returns-in_err-place
returns-in_err-place c = c.from_residual.ensures ∙ sym (number_of-none c.args.self.now.rows.now c.args.word.now c.in_err-place.ensures)

pub returns : goal.returns
returns c =
    let rows = c.args.self.now.rows.now in
    let has = c.in_ok-place.ensures in
    ap Some (sym (number_at-read rows c.in_ok-place.place no_row has.0)) ∙ sym (number_of-some rows c.args.word.now c.in_ok-place.place has.0 has.1 c.args.self.now.table.texts)
