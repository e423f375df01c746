use Rattle.std.proofs.Common.{◌≤◌, vec_len, take, sym, ap, subst, ◌∙◌, arith}
use Rattle.name_resolve.specs.declared.member_types.Settled.{Settled}
use Rattle.name_resolve.proofs.KeptFronts.{front-on}
use Rattle.name_resolve.proofs.member_types.MemberTypes.search.Goals as goal

pub loop-fewer-preserved : goal.loop-fewer-preserved
loop-fewer-preserved c =
    let questions = c.args.self.now.questions in
    let stays = c.in_ok-answer_from.ensures.stays in
    let settled = c.settle.ensures.unsettled c.if-settle.false ∙ stays.settled in
    record {
      right = c.settle.ensures.right;
      stays = record { table = c.settle.ensures.table ∙ stays.table ∙ c.loop-fewer.invariant.stays.table; settled = settled ∙ c.loop-fewer.invariant.stays.settled };
      unsettled = subst (λ (s : Settled). s.count ≤ c.len-first.result) (sym settled) c.loop-fewer.invariant.unsettled;
      front = ap (take (vec_len questions)) c.settle.ensures.questions
          ∙ front-on (vec_len questions) c.len-first.result questions.items c.loop-fewer.self.questions.items _ c.loop-fewer.invariant.front c.in_ok-answer_from.ensures.front (omega (arith, c.len-first.ensures));
    }

pub returns-then-settle-clause-front : goal.returns-then-settle-clause-front
returns-then-settle-clause-front c =
    let questions = c.args.self.now.questions in
    ap (take (vec_len questions)) c.settle.ensures.questions
    ∙ front-on (vec_len questions) c.len-first.result questions.items c.loop-fewer.self.questions.items _ c.loop-fewer.invariant.front c.in_ok-answer_from.ensures.front (omega (arith, c.len-first.ensures))

-- out of memory on the way
pub returns-in_err-answer_from-clause-front : goal.returns-in_err-answer_from-clause-front
returns-in_err-answer_from-clause-front c =
    let questions = c.args.self.now.questions in
    front-on (vec_len questions) c.len-first.result questions.items c.loop-fewer.self.questions.items _ c.loop-fewer.invariant.front c.in_err-answer_from.ensures.front (omega (arith, c.len-first.ensures))
