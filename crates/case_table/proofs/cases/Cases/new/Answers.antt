use Rattle.std.proofs.Common.{◌≡◌, ◌≢◌, ℕ, ◌<◌, ◌≤◌, ◌-◌, length, slice_index_or, ap, sym, subst, ◌∙◌, inr, arith, rules}
use Rattle.case_table.specs.Rows.{text_at, number_at, key_of, LacksText, Clash}
use Rattle.case_table.specs.Index.{key_at}
use Rattle.case_table.proofs.RowsLemmas.{no_row, text_at-read, number_at-read, clash_found, lacks_found, is_table-clash, is_table-true}
use Rattle.case_table.proofs.IndexLemmas.{begun_none, begun_step}
use Rattle.case_table.proofs.cases.Cases.new.Goals as goal

pub loop-i-init : goal.loop-i-init
loop-i-init c = begun_none c.args.rows.now

pub returns-then-places-number-gt0 : goal.returns-then-places-number-gt0
returns-then-places-number-gt0 c =
    let rows = c.args.rows.now in
    let i = c.loop-i.i in
    let number = (slice_index_or rows i no_row).1 in
    let below : i < length rows = search rules in
    let fits : number < 256 = search rules in
    let some : 0 < slice_index_or c.loop-i.places number 0 = c.if-places-number-gt0.true in
    let within : slice_index_or c.loop-i.places number 0 ≤ i = c.loop-i.invariant.placed.within number fits in
    let clash : Clash rows = (slice_index_or c.loop-i.places number 0 - 1, i, omega arith, below, inr (c.loop-i.invariant.placed.found number fits some ∙ sym (number_at-read rows i no_row below))) in
    record { rows = clash; test = sym (is_table-clash rows clash) }

pub returns-then-is_some : goal.returns-then-is_some
returns-then-is_some c =
    let rows = c.args.rows.now in
    let i = c.loop-i.i in
    let below : i < length rows = search rules in
    let clash : Clash rows = clash_found c.place_of.result rows i c.as_bytes.result.now (sym c.is_some.ensures ∙ c.if-is_some.true) c.place_of.ensures (text_at-read rows i no_row below ∙ sym c.as_bytes.ensures.value) below in
    record { rows = clash; test = sym (is_table-clash rows clash) }

pub loop-i-preserved : goal.loop-i-preserved
loop-i-preserved c =
    let rows = c.args.rows.now in
    let i = c.loop-i.i in
    let number = (slice_index_or rows i no_row).1 in
    let below : i < length rows = search rules in
    let fits : number < 256 = search rules in
    let text = text_at-read rows i no_row below in
    let key : key_at rows i ≡ c.first_byte-key.result = ap key_of (text ∙ sym c.as_bytes-in-loop-i.ensures.value) ∙ sym c.first_byte-key.ensures.key in
    let no_place : slice_index_or c.loop-i.places number 0 ≡ 0 = search rules in
    let lacks : LacksText rows i (text_at rows i) =
    subst (LacksText rows i) (c.as_bytes.ensures.value ∙ sym text) (lacks_found c.place_of.result rows i c.as_bytes.result.now (sym c.is_some.ensures ∙ c.if-is_some.false) c.place_of.ensures) in
    begun_step rows i c.loop-i.heads c.loop-i.nexts c.loop-i.places c.loop-i.invariant c.first_byte-key.result number key (number_at-read rows i no_row below) c.first_byte-key.ensures.byte fits no_place lacks

pub returns-clause-test : goal.returns-clause-test
returns-clause-test c =
    let rows = c.args.rows.now in
    let whole : c.loop-i.i ≡ length rows = search rules in
    let texts : (i j : ℕ) → i < j → j < length rows → text_at rows i ≢ text_at rows j = subst (λ n. (i j : ℕ) → i < j → j < n → text_at rows i ≢ text_at rows j) whole c.loop-i.invariant.texts in
    let numbers : (i j : ℕ) → i < j → j < length rows → number_at rows i ≢ number_at rows j = subst (λ n. (i j : ℕ) → i < j → j < n → number_at rows i ≢ number_at rows j) whole c.loop-i.invariant.numbers in
    sym (is_table-true rows (record { texts = texts; numbers = numbers }))
