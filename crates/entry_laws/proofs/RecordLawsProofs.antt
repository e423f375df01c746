-- The law on records: the laws on entries and notes put together.
use Rattle.std.proofs.Common.{◌≡◌, Bool, true, ◌&&◌, List, length}
use Rattle.std.proofs.lemmas.Bool.{and_parts, and_from}
use Rattle.record_forms.specs.Forms.{list, ascending}
use Rattle.record_forms.specs.RecordTable as form
use Rattle.record_forms.specs.RecordTable.{record_form, fits, pair_less, entry_less}
use Rattle.record_forms.specs.declared.record.Record.{Record}
use Rattle.origin_record.specs.Conditions.{has_each_hello, has_rounds, entries_are_numbered, notes_are_numbered, stores_are_distinct, paths_are_distinct, units_enter, meets, are_different}
use Rattle.origin_record.specs.OldTables.{table_at}
use Rattle.run_entries.specs.declared.processed.Processed.{Processed}
use Rattle.run_entries.specs.Maps.{Stores}
use Rattle.entry_laws.specs.RecordLaws.{bare, with_run, CanBeRecorded, RunsAreRecorded}
use Rattle.entry_laws.proofs.EntryFields.{entries_are_numbered as numbered, entries_fit}
use Rattle.entry_laws.proofs.KeptFiles as kept
use Rattle.entry_laws.proofs.NoteLawsProofs.{notes_are_below, notes_fit}

-- the last two of three tests exchanged
last_two : (front e n e' n' : Bool) → ((front && e) && n) ≡ true → e' ≡ true → n' ≡ true → ((front && e') && n') ≡ true
last_two front e n e' n' is a b =
    and_from (front && e') n' (and_from front e' (and_parts front e (and_parts (front && e) n is).0).0 a) b

-- the four in the middle
middle_four : (h r e n s p u e' n' s' p' : Bool) → ((((((h && r) && e) && n) && s) && p) && u) ≡ true → e' ≡ true → n' ≡ true → s' ≡ true → p' ≡ true
    → ((((((h && r) && e') && n') && s') && p') && u) ≡ true
middle_four h r e n s p u e' n' s' p' is a b c d =
    let all = and_parts (((((h && r) && e) && n) && s) && p) u is in
    let five = and_parts ((((h && r) && e) && n) && s) p all.0 in
    let four = and_parts (((h && r) && e) && n) s five.0 in
    let three = and_parts ((h && r) && e) n four.0 in
    let two = and_parts (h && r) e three.0 in
    λ i. ((((two.0 i && a i) && b i) && c i) && d i) && all.1 i

module _ (value : Record) (stores : Stores) (processed : List Processed) (can : CanBeRecorded value stores processed) where
  abbrev front : Bool
  front = ((form.key.fits value.key && (list form.hello).fits value.hellos) && (ascending pair_less form.named).fits value.initial) && (list form.round).fits value.rounds

  still_fits : fits (bare value) ≡ true → fits (with_run value stores processed) ≡ true
  unfolding record_form
  still_fits is =
      last_two front true true ((ascending entry_less form.entry).fits (with_run value stores processed).entries) ((list form.note).fits (with_run value stores processed).notes) is
      (entries_fit stores processed can.order can.paths can.fields can.short) (notes_fit (length value.key.processors) processed can.few)

  still_meets : meets (bare value) ≡ true → meets (with_run value stores processed) ≡ true
  unfolding meets entries_are_numbered notes_are_numbered are_different table_at
  still_meets is =
      middle_four (has_each_hello value) (has_rounds value) true true true true (units_enter value) _ _ _ _ is
      (numbered stores processed (length value.key.processors) (length value.rounds) can.within)
      (notes_are_below (length value.key.processors) processed)
      (kept.stores_are_distinct stores processed can.order can.numbers)
      (kept.paths_are_distinct stores processed can.order can.paths)

pub runs_are_recorded : RunsAreRecorded
runs_are_recorded value stores processed is can = (still_fits value stores processed can is.0, still_meets value stores processed can is.1)
