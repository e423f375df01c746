use Rattle.std.proofs.Common.{rules, refl, IfOk}
use Rattle.local_procs.specs.Places.{stands_at}
use Rattle.local_children.specs.Hearing.{stand_of, Answers}
use Rattle.local_children.proofs.Heard.{hears_begun}
use Rattle.local_children.proofs.Pieces.{answers_begin, hears_answered, hears_fault}
use Rattle.local_children.proofs.conversation.Conversation.hear_front.Goals as goal

pub stands_behind-requires-clause-counts : goal.stands_behind-requires-clause-counts
stands_behind-requires-clause-counts c =
    answers_begin c.args.self.child _ c.args.said.now.items _ c.answer-answered.result c.answer-answered.ensures

pub returns-in-Ok-None-clause-hears : goal.returns-in-Ok-None-clause-hears
returns-in-Ok-None-clause-hears c =
    let taken = c.feed_slice-progress.result.taken in
    let new = c.feed_slice-progress.new.self in
    (refl, hears_begun c.args.self.child.local c.args.said.now.items (stands_at c.args.self.child) c.args.self.reader c.args.bytes.now taken new (search rules))

pub returns-in_ok-stands-in-Ok-Some-clause-hears : goal.returns-in_ok-stands-in-Ok-Some-clause-hears
returns-in_ok-stands-in-Ok-Some-clause-hears c =
    let taken = c.feed_slice-progress.result.taken in
    let new = c.feed_slice-progress.new.self in
    let answers : IfOk c.answer-answered.result (Answers c.args.self.child c.in-Ok-Some.frame c.args.said.now.items c.answer-answered.new.said.items) = search rules in
    hears_answered c.args.self.child c.args.self.reader c.args.bytes.now new taken c.in-Ok-Some.frame c.args.said.now.items c.answer-answered.new.said.items c.answer-answered.result c.in_ok-stands-in-Ok-Some.stands
    (search rules) answers c.in_ok-stands-in-Ok-Some.ensures

pub returns-in-Err-Bad-clause-hears : goal.returns-in-Err-Bad-clause-hears
returns-in-Err-Bad-clause-hears c =
    hears_fault (stand_of c.args.self) c.args.said.now.items c.args.bytes.now c.feed_slice-progress.new.self c.feed_slice-progress.result.taken c.in-Err-Bad.place c.in-Err-Bad.kind
    c.args.self.begins (search rules)
