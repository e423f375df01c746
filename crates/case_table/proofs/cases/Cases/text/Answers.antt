use Rattle.std.proofs.Common.{◌≡◌, ◌<◌, ◌≤◌, ◌-◌, length, slice_index_or, Some, ap, sym, ◌∙◌, arith, rules}
use Rattle.case_table.proofs.RowsLemmas.{no_row, text_at-read, text_of-none, text_of-some}
use Rattle.case_table.proofs.cases.Cases.text.Goals as goal

pub returns-then-end-gt0 : goal.returns-then-end-gt0
returns-then-end-gt0 c =
    let rows = c.args.self.now.rows.now in
    let end = slice_index_or c.args.self.now.places c.args.number 0 in
    let fits : c.args.number < 256 = search rules in
    let some : 0 < end = c.if-end-gt0.true in
    let within : end ≤ length rows = c.args.self.now.placed.within c.args.number fits in
    let below : end - 1 < length rows = omega arith in
    ap Some (sym (text_at-read rows (end - 1) no_row below)) ∙ sym (text_of-some rows c.args.number (end - 1) below (c.args.self.now.placed.found c.args.number fits some) c.args.self.now.table.numbers)

pub returns-else-end-gt0 : goal.returns-else-end-gt0
returns-else-end-gt0 c =
    let rows = c.args.self.now.rows.now in
    let fits : c.args.number < 256 = search rules in
    let none : slice_index_or c.args.self.now.places c.args.number 0 ≡ 0 = search rules in
    sym (text_of-none rows c.args.number (c.args.self.now.placed.absent c.args.number fits none))
