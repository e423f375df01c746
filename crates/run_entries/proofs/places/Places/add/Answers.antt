use Rattle.std.proofs.Common.{ap, sym, ◌∙◌}
use Rattle.std.specs.FinMap as fin
use Rattle.name_index.proofs.TextMaps.{get-shown}
use Rattle.run_entries.specs.Maps.{places_of, or_none, with_place}
use Rattle.run_entries.proofs.PlaceLemmas.{one_more, unchanged, on_ok, on_err}
use Rattle.run_entries.proofs.places.Places.add.Goals as goal

pub begin-requires : goal.begin-requires
begin-requires c =
    ap or_none (ap (λ held. fin.get (places_of held) c.args.name.now) c.get_mut.follows.holds-at-none ∙ get-shown c.self.inside.held c.args.name.now ∙ sym c.in-None.ensures.value)

pub returns-in-Some-clause-ok : goal.returns-in-Some-clause-ok
returns-in-Some-clause-ok c =
    let now = c.push.new.self in
    on_ok c.push.result
    (λ is. one_more c.self.inside.held (c.get_mut.follows.lender now) c.args.name.now c.in-Some.places.now (sym c.in-Some.ensures.value) c.args.place now is (c.get_mut.follows.holds now).3
    ∙ ap (λ places. with_place places c.args.name.now c.args.place) c.self.view_is)
    c.push.ensures.ok

pub returns-in-Some-clause-err : goal.returns-in-Some-clause-err
returns-in-Some-clause-err c =
    let now = c.push.new.self in
    on_err c.push.result
    (λ is. unchanged c.self.inside.held (c.get_mut.follows.lender now) c.args.name.now c.in-Some.places.now (sym c.in-Some.ensures.value) now is (c.get_mut.follows.holds now).3 ∙ c.self.view_is)
    c.push.ensures.err
