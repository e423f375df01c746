-- How a run goes on from round to round.
use Rattle.std.proofs.Common.{◌≡◌, ℕ, suc, Bool, true, false, cond, Result, Ok, Err, refl, sym, ap, ◌∙◌}
use Rattle.std.specs.Prelude.{◌||◌, not}
use Rattle.std.specs.FinMap as fin
use Rattle.unit_locations.specs.LocatedTable.{LocatedTable}
use Rattle.round_engine.specs.declared.rounds.Round.{Round}
use Rattle.project_units.specs.Refusals.{Refusal, TooManyRounds}
use Rattle.project_units.specs.Units.{Entered, enter_all}
use Rattle.round_engine.specs.Run.{Stopped, Discovered, Progress, Run, Asking, round_of, new_since, printed_since, has_error, last_of, next_of, finished, last_round, entering, after_round, rounds_from, ◌>>=◌}
use Rattle.project_units.specs.Creations.{creates_source, sources_among}

-- ---- the last round

module _ (asking : Asking) (d : Discovered) (number : ℕ) (error : Bool) (table : LocatedTable) (before : Progress) where
  pub last_ok : (after : Progress) → round_of asking d (last_of number error table) before ≡ Ok after → last_round asking d number error table before ≡ Ok (finished d number table before after)
  last_ok after is = ap (λ o. o >>= (λ q. Ok (finished d number table before q))) is

  pub last_err : (stopped : Stopped) → round_of asking d (last_of number error table) before ≡ Err stopped → last_round asking d number error table before ≡ Err stopped
  last_err stopped is = ap (λ o. o >>= (λ q. Ok (finished d number table before q))) is

-- ---- a round that is not the last

rounds_suc : (asking : Asking) (d : Discovered) (left : ℕ) (r : Round) (p : Progress) → rounds_from asking d (suc left) r p ≡ (round_of asking d r p >>= (λ after. after_round asking d r p after (λ entered. rounds_from asking d left (next_of (suc r.number) entered) after)))
unfolding rounds_from
rounds_suc asking d left r p = refl

rounds_zero : (asking : Asking) (d : Discovered) (r : Round) (p : Progress) → rounds_from asking d 0 r p ≡ Err (record { sent = p.sent; refusal = TooManyRounds })
unfolding rounds_from
rounds_zero asking d r p = refl

-- no round is left that is not the last
pub rounds_full : (asking : Asking) (d : Discovered) (whole : Run) (left : ℕ) (r : Round) (p : Progress) → left ≡ 0 → rounds_from asking d left r p ≡ whole → whole ≡ Err (record { sent = p.sent; refusal = TooManyRounds })
rounds_full asking d whole left r p none way = sym way ∙ ap (λ n. rounds_from asking d n r p) none ∙ rounds_zero asking d r p

module _ (asking : Asking) (d : Discovered) (whole : Run) (left : ℕ) (r : Round) (before : Progress) (way : rounds_from asking d (suc left) r before ≡ whole) where
  abbrev rest : Progress → Run
  rest after = after_round asking d r before after (λ entered. rounds_from asking d left (next_of (suc r.number) entered) after)

  pub rounds_opened : (round_of asking d r before >>= rest) ≡ whole
  rounds_opened = sym (rounds_suc asking d left r before) ∙ way

  -- the round was refused
  pub rounds_stop : (stopped : Stopped) → round_of asking d r before ≡ Err stopped → whole ≡ Err stopped
  rounds_stop stopped is = sym way ∙ rounds_suc asking d left r before ∙ ap (λ o. o >>= rest) is

  module _ (after : Progress) (is : round_of asking d r before ≡ Ok after) where
    abbrev error : Bool
    error = has_error (printed_since before.messages after.messages)

    abbrev closes : Bool
    closes = error || not (creates_source (new_since before.filings after.filings))

    abbrev outcome : Result Entered Refusal
    outcome = enter_all r.table (fin.entries (sources_among (new_since before.filings after.filings)))

    abbrev go : Entered → Run
    go entered = rounds_from asking d left (next_of (suc r.number) entered) after

    pub rounds_after : rest after ≡ whole
    rounds_after = sym (ap (λ o. o >>= rest) is) ∙ rounds_opened

    opened : cond closes (last_round asking d (suc r.number) error r.table after) (entering after.sent outcome >>= go) ≡ whole
    opened = sym (rounds_suc asking d left r before ∙ ap (λ o. o >>= rest) is) ∙ way

    -- an ERROR was printed, or no source was created
    pub rounds_close : closes ≡ true → last_round asking d (suc r.number) error r.table after ≡ whole
    rounds_close last = sym (ap (λ b. cond b (last_round asking d (suc r.number) error r.table after) (entering after.sent outcome >>= go)) last) ∙ opened

    module _ (more : closes ≡ false) where
      entered_so : (entering after.sent outcome >>= go) ≡ whole
      entered_so = sym (ap (λ b. cond b (last_round asking d (suc r.number) error r.table after) (entering after.sent outcome >>= go)) more) ∙ opened

      -- one of its sources is refused
      pub rounds_refused : (refusal : Refusal) → outcome ≡ Err refusal → whole ≡ Err (record { sent = after.sent; refusal = refusal })
      rounds_refused refusal refused = sym entered_so ∙ ap (λ o. entering after.sent o >>= go) refused

      -- its sources were entered
      pub rounds_go : (entered : Entered) → outcome ≡ Ok entered → rounds_from asking d left (next_of (suc r.number) entered) after ≡ whole
      rounds_go entered is_entered = sym (ap (λ o. entering after.sent o >>= go) is_entered) ∙ entered_so
