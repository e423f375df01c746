-- The shapes of a record's units are a part of its bytes.
use Rattle.std.proofs.Common.{◌≡◌, ℕ, ◌+◌, ◌<◌, ◌≤◌, Bool, false, nat_le, sym, ◌∙◌, List, [], ◌∷◌, ◌++◌, length, map, length-append, arith}
use Rattle.std.specs.Int.{w32, to_be_bytes}
use Rattle.std.specs.List.{flat_map}
use Rattle.std.specs.FinMap as fin
use Rattle.std.proofs.lemmas.Bool.{leb-false}
use Rattle.apt_base.specs.Forms.{count_form, name_form, list_form}
use Rattle.element_table.specs.TypeTable.{TypeTable}
use Rattle.record_forms.specs.Forms.{octets_form}
use Rattle.record_forms.specs.RecordTable as form
use Rattle.record_forms.specs.RecordTable.{named, round, record_form, spelling}
use Rattle.record_forms.specs.declared.record.Key.{Key}
use Rattle.origin_record.specs.Conditions.{most_bytes}
use Rattle.entry_laws.proofs.SpelledEntries.{within}
use Rattle.round_engine.specs.declared.rounds.PastRound.{PastRound}
use Rattle.round_engine.specs.declared.running.Finished.{Finished}
use Rattle.run_record.specs.Shapes.{shape_at, shaped, all_shaped, initial_round, later_round, rounds_of, shapes_length, roots_length, entered_length}
use Rattle.run_record.specs.Next.{record_of, shapes_within}

-- a shape is not longer than it is with its number of bytes
counted : (bytes : List ℕ) → length bytes ≤ length (octets_form bytes)
unfolding octets_form
counted bytes = let both = length-append (to_be_bytes w32 (length bytes)) bytes in omega (arith, both)

module _ (table : TypeTable) where
  units_spelled : (names : List (List ℕ)) → shapes_length table names ≤ length (flat_map named.spelling (all_shaped table names))
  units_spelled [] = omega arith
  units_spelled (name ∷ names) =
      let others = units_spelled names in
      let here = counted (shape_at table name) in
      let one = length-append (name_form name) (octets_form (shape_at table name)) in
      let both = length-append (named.spelling (shaped table name)) (flat_map named.spelling (all_shaped table names)) in
      omega (arith, others, here, one, both)

  round_spelled : (past : PastRound) → shapes_length table past.roots ≤ length (round.spelling (later_round table past))
  unfolding round
  round_spelled past =
      let units = units_spelled past.roots in
      let part = within (list_form name_form past.roots) (count_form (length (all_shaped table past.roots))) (flat_map named.spelling (all_shaped table past.roots)) (list_form name_form past.present) in
      omega (arith, units, part)

  roots_spelled : (later : List PastRound) → roots_length table later ≤ length (flat_map round.spelling (map (later_round table) later))
  roots_spelled [] = omega arith
  roots_spelled (past ∷ later) =
      let others = roots_spelled later in
      let here = round_spelled past in
      let both = length-append (round.spelling (later_round table past)) (flat_map round.spelling (map (later_round table) later)) in
      omega (arith, others, here, both)

  rounds_spelled : (past : List PastRound) → entered_length table past ≤ length (flat_map round.spelling (rounds_of table past))
  rounds_spelled [] = omega arith
  rounds_spelled (first ∷ later) =
      let others = roots_spelled later in
      let both = length-append (round.spelling (initial_round first)) (flat_map round.spelling (map (later_round table) later)) in
      omega (arith, others, both)

-- two parts in the middle are together no longer than the whole
both_within : (before count items more others behind last : List ℕ) → length items + length others ≤ length ((((before ++ (count ++ items)) ++ (more ++ others)) ++ behind) ++ last)
both_within before count items more others behind last =
    let one = length-append count items in
    let two = length-append before (count ++ items) in
    let three = length-append more others in
    let four = length-append (before ++ (count ++ items)) (more ++ others) in
    let five = length-append ((before ++ (count ++ items)) ++ (more ++ others)) behind in
    let six = length-append (((before ++ (count ++ items)) ++ (more ++ others)) ++ behind) last in
    omega (arith, one, two, three, four, five, six)

pub shapes_spelled : (key : Key) (initial : TypeTable) (run : Finished) → shapes_within initial run ≤ length (spelling (record_of key initial run))
unfolding record_form
shapes_spelled key initial run =
    let units = units_spelled initial (fin.keys initial.source) in
    let rounds = rounds_spelled run.table.table run.past in
    let value = record_of key initial run in
    let parts : length (flat_map named.spelling value.initial) + length (flat_map round.spelling value.rounds) ≤ length (spelling value) =
    both_within _ (count_form (length value.initial)) (flat_map named.spelling value.initial) (count_form (length value.rounds)) (flat_map round.spelling value.rounds) _ _ in
    omega (arith, units, rounds, parts)

-- where the shapes have too many bytes, the record has
pub too_large : (key : Key) (initial : TypeTable) (run : Finished) (room : Bool) → room ≡ nat_le (shapes_within initial run) most_bytes → room ≡ false → most_bytes < length (spelling (record_of key initial run))
too_large key initial run room is full =
    let more = leb-false (shapes_within initial run) most_bytes (sym is ∙ full) in
    let spelled = shapes_spelled key initial run in
    omega (arith, more, spelled)
