use Rattle.std.proofs.Common.{◌≡◌, ◌∷◌, vec_len, sym, subst, ◌∙◌, arith, rules}
use Rattle.name_resolve.specs.Remembered.{AreQuestions}
use Rattle.name_resolve.proofs.KeptFronts.{front-on, front-long}
use Rattle.name_resolve.proofs.member_types.MemberTypes.ask_all.Goals as goal

pub ask-requires-clause-wanted : goal.ask-requires-clause-wanted
ask-requires-clause-wanted c =
    let rest : c.loop-wanted.wanted-iterator.rest.items ≡ c.in-Some.wanted ∷ c.next.new.self.rest.items = search rules in
    (subst (AreQuestions c.loop-wanted.self.table.now) rest c.loop-wanted.invariant.left).0

pub loop-wanted-preserved : goal.loop-wanted-preserved
loop-wanted-preserved c =
    let questions = c.args.self.now.questions in
    let now = c.loop-wanted.self.questions in
    let rest : c.loop-wanted.wanted-iterator.rest.items ≡ c.in-Some.wanted ∷ c.next.new.self.rest.items = search rules in
    let stays = c.in_ok-ask.ensures.stays in
    let long = front-long (vec_len questions) questions.items now.items c.loop-wanted.invariant.front (omega (arith, questions.ok.0)) in
    record {
      right = c.in_ok-ask.ensures.right;
      stays = record { table = stays.table ∙ c.loop-wanted.invariant.stays.table; settled = stays.settled ∙ c.loop-wanted.invariant.stays.settled };
      front = front-on (vec_len questions) (vec_len now) questions.items now.items _ c.loop-wanted.invariant.front c.in_ok-ask.ensures.front (omega (arith, long, now.ok.0));
      left = subst (λ table. AreQuestions table c.next.new.self.rest.items) (sym stays.table) (subst (AreQuestions c.loop-wanted.self.table.now) rest c.loop-wanted.invariant.left).1;
    }

-- out of memory on the way
pub returns-in_err-ask-clause-front : goal.returns-in_err-ask-clause-front
returns-in_err-ask-clause-front c =
    let questions = c.args.self.now.questions in
    let now = c.loop-wanted.self.questions in
    let long = front-long (vec_len questions) questions.items now.items c.loop-wanted.invariant.front (omega (arith, questions.ok.0)) in
    front-on (vec_len questions) (vec_len now) questions.items now.items _ c.loop-wanted.invariant.front c.in_err-ask.ensures.front (omega (arith, long, now.ok.0))
