use Rattle.std.proofs.Common.{◌≢◌, ◌-◌, ◌<◌, ◌≤◌, length, slice_index_or, ap, sym, subst, ◌∙◌, arith}
use Rattle.std.proofs.lemmas.Bool.{false≢true}
use Rattle.std.proofs.lemmas.Slice.Eq.{bytes_eq-Decides}
use Rattle.case_table.specs.Rows.{text_at}
use Rattle.case_table.specs.Index.{next_of}
use Rattle.case_table.proofs.RowsLemmas.{no_row, text_at-read, number_at-read}
use Rattle.case_table.proofs.IndexLemmas.{IsReached, reached_step}
use Rattle.case_table.proofs.cases.place_of.Goals as goal

pub returns-then-eq : goal.returns-then-eq
returns-then-eq c =
    let end = c.loop-end.end in
    let within : end ≤ c.args.count = c.loop-end.invariant.within in
    let some : 0 < end = c.loop-end-test.true in
    let fits : end - 1 < length c.args.rows.now = omega (arith, c.requires.count) in
    (omega arith, text_at-read c.args.rows.now (end - 1) no_row fits ∙ sym c.as_bytes.ensures.value ∙ (bytes_eq-Decides c.as_bytes.result.now c.args.word.now).0 (sym c.eq.ensures ∙ c.if-eq.true))

pub loop-end-smaller : goal.loop-end-smaller
loop-end-smaller c =
    let end = c.loop-end.end in
    let within : end ≤ c.args.count = c.loop-end.invariant.within in
    let some : 0 < end = c.loop-end-test.true in
    let last = c.requires.indexed.nexts_last (end - 1) (omega arith) in
    let at : next_of c.args.rows.now c.args.nexts.now (end - 1) ≤ end - 1 = last.within in
    let fits : end - 1 < length c.args.rows.now = omega (arith, c.requires.count) in
    omega (arith, at, ap (λ n. slice_index_or c.args.nexts.now n 0) (number_at-read c.args.rows.now (end - 1) no_row fits))

pub loop-end-preserved : goal.loop-end-preserved
loop-end-preserved c =
    let end = c.loop-end.end in
    let within : end ≤ c.args.count = c.loop-end.invariant.within in
    let some : 0 < end = c.loop-end-test.true in
    let fits : end - 1 < length c.args.rows.now = omega (arith, c.requires.count) in
    let read = text_at-read c.args.rows.now (end - 1) no_row fits in
    let other : text_at c.args.rows.now (end - 1) ≢ c.args.word.now =
    λ e. false≢true (sym c.if-eq.false ∙ c.eq.ensures ∙ (bytes_eq-Decides c.as_bytes.result.now c.args.word.now).1 (c.as_bytes.ensures.value ∙ sym read ∙ e)) in
    subst (IsReached c.args.rows.now c.args.count c.args.word.now) (ap (λ n. slice_index_or c.args.nexts.now n 0) (number_at-read c.args.rows.now (end - 1) no_row fits))
    (reached_step c.args.rows.now c.args.count c.args.heads.now c.args.nexts.now c.args.word.now end c.requires.indexed c.loop-end.invariant some other)
