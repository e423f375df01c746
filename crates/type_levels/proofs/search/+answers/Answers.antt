use Rattle.std.proofs.Common.{◌≡◌, [], map, ap, ◌∙◌, arith}
use Rattle.std.specs.List.{flat_map}
use Rattle.type_levels.specs.Levels.{answer_at, asked_at, last_answer, look, step_answer, with_pairs}
use Rattle.type_levels.proofs.LevelLaws.{last_level, level_answers, next_level_known}
use Rattle.type_levels.proofs.search.+answers.Goals as goal

pub returns-then-steps-eq0-clause-right : goal.returns-then-steps-eq0-clause-right
returns-then-steps-eq0-clause-right g t c =
    let old = g.R.Relation.seen c.args.relation.now c.args.types.now in
    let new = g.R.Relation.seen c.args.relation.now c.all_next.new.types in
    let none : 0 ≡ c.args.steps = omega arith in
    c.in_ok-last.ensures ∙ ap (map (λ step. last_answer step.next)) c.as_slice-then-steps-eq0.ensures.value
    ∙ last_level old new c.as_slice.result.now c.in_ok-asks.asks.items c.in_ok-asks.ensures.next ∙ ap (λ n. map (answer_at old n) c.as_slice.result.now) none
    ∙ ap (map (answer_at old c.args.steps)) c.as_slice.ensures

pub answers-requires : goal.answers-requires
answers-requires g t c κs within =
    let new = g.R.Relation.seen c.args.relation.now c.all_next.new.types in
    let asked = c.in_ok-next.ensures ∙ ap (λ xs. with_pairs [] (flat_map asked_at xs)) c.as_slice-2.ensures.value in
    (omega (arith, c.decreases), (within.0, (within.1.0, (within.1.1, next_level_known new c.in_ok-asks.asks.items c.in_ok-next.next asked c.in_ok-asks.ensures.next.known))))

pub returns-clause-right : goal.returns-clause-right
returns-clause-right g t c =
    let old = g.R.Relation.seen c.args.relation.now c.args.types.now in
    let new = g.R.Relation.seen c.args.relation.now c.all_next.new.types in
    c.in_ok-level.ensures ∙ ap (map (step_answer (look c.in_ok-next.next c.as_slice-4.result.now))) c.as_slice-3.ensures.value
    ∙ level_answers old new c.as_slice.result.now c.in_ok-asks.asks.items c.in_ok-asks.ensures.next c.args.steps c.in_ok-next.next c.as_slice-4.result.now (omega arith) c.in_ok-asks.ensures.grows
    (c.in_ok-next.ensures ∙ ap (λ xs. with_pairs [] (flat_map asked_at xs)) c.as_slice-2.ensures.value) (c.as_slice-4.ensures.value ∙ c.in_ok-known.ensures.right)
    ∙ ap (map (answer_at old c.args.steps)) c.as_slice.ensures
