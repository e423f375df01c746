use Rattle.std.proofs.Common.{◌<◌, ◌≤◌, length, vec_len, sym, subst, ◌∙◌, arith, rules}
use Rattle.name_resolve.specs.declared.member_types.Settled.{Settled}
use Rattle.name_resolve.proofs.KeptFronts.{fewer-front, front-on}
use Rattle.name_resolve.proofs.member_types.MemberTypes.+answering.Goals as goal

pub answer_from-loop-preserved : goal.answer_from-loop-preserved
answer_from-loop-preserved t c =
    let stays = c.in_ok-answer_next.ensures.stays in
    record {
      right = c.in_ok-answer_next.ensures.right;
      stays = record { table = stays.table ∙ c.loop.invariant.stays.table; settled = stays.settled ∙ c.loop.invariant.stays.settled };
      unsettled = subst (λ (s : Settled). s.count ≤ c.loop.place) (sym stays.settled) c.loop.invariant.unsettled;
      behind = c.loop.invariant.behind;
      front = front-on c.args.first c.loop.place c.args.self.now.questions.items c.loop.self.questions.items _ c.loop.invariant.front c.in_ok-answer_next.ensures.front c.loop.invariant.behind;
    }

-- out of memory on the way
pub answer_from-returns-in_err-answer_next-clause-front : goal.answer_from-returns-in_err-answer_next-clause-front
answer_from-returns-in_err-answer_next-clause-front t c =
    front-on c.args.first c.loop.place c.args.self.now.questions.items c.loop.self.questions.items _ c.loop.invariant.front c.in_err-answer_next.ensures.front c.loop.invariant.behind

-- what is asked stands behind all others
pub answer_next-returns-in-Err-Wanted-clause-front : goal.answer_next-returns-in-Err-Wanted-clause-front
answer_next-returns-in-Err-Wanted-clause-front t c =
    let questions = c.args.self.now.questions in
    let known : c.args.place < length questions.items = search rules in
    fewer-front c.args.place (vec_len questions) questions.items _ c.ask_below.ensures.front (omega (arith, known, questions.ok.0))

pub ask_below-loop-fewer-preserved : goal.ask_below-loop-fewer-preserved
ask_below-loop-fewer-preserved t c =
    let questions = c.args.self.now.questions in
    let stays = c.in_ok-answer_from.ensures.stays in
    record {
      right = c.in_ok-answer_from.ensures.right;
      stays = record { table = stays.table ∙ c.loop-fewer.invariant.stays.table; settled = stays.settled ∙ c.loop-fewer.invariant.stays.settled };
      unsettled = subst (λ (s : Settled). s.count ≤ c.len-place.result) (sym stays.settled) c.loop-fewer.invariant.unsettled;
      front = front-on (vec_len questions) c.len-place.result questions.items c.loop-fewer.self.questions.items _ c.loop-fewer.invariant.front c.in_ok-answer_from.ensures.front
          (omega (arith, c.len-place.ensures));
    }

-- out of memory on the way
pub ask_below-returns-in_err-answer_from-clause-front : goal.ask_below-returns-in_err-answer_from-clause-front
ask_below-returns-in_err-answer_from-clause-front t c =
    let questions = c.args.self.now.questions in
    front-on (vec_len questions) c.len-place.result questions.items c.loop-fewer.self.questions.items _ c.loop-fewer.invariant.front c.in_err-answer_from.ensures.front (omega (arith, c.len-place.ensures))
