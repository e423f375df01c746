use Rattle.std.proofs.Common.{ap}
use Rattle.memory_children.proofs.Living.{lives_below}
use Rattle.memory_children.proofs.Listed.{found_at, attends, sends}
use Rattle.memory_children.proofs.children.LocalChildrenChildren.send.Goals as goal

pub returns-in-Ok-clause-attends : goal.returns-in-Ok-clause-attends
returns-in-Ok-clause-attends c = λ _.
    let started = c.args.self.now.started.items in
    let live = c.args.self.now.live.items in
    let is = found_at started c.args.child c.index_mut.result.now (lives_below live started c.args.child c.args.self.now.lives c.requires) c.index_mut.ensures.value in
    attends started c.args.child c.index_mut.result.now c.send.new.self is live c.args.self.now.tried.items c.in-Ok.ensures.ok.same_name c.in-Ok.ensures.ok.same_command

pub returns-in-Ok-clause-sent : goal.returns-in-Ok-clause-sent
returns-in-Ok-clause-sent c = λ _.
    let started = c.args.self.now.started.items in
    let live = c.args.self.now.live.items in
    let is = found_at started c.args.child c.index_mut.result.now (lives_below live started c.args.child c.args.self.now.lives c.requires) c.index_mut.ensures.value in
    sends started c.args.child c.index_mut.result.now c.send.new.self is live c.args.self.now.tried.items c.args.frame.now c.in-Ok.ensures.ok

pub returns-in-Err-clause-attends : goal.returns-in-Err-clause-attends
returns-in-Err-clause-attends c = λ _.
    let started = c.args.self.now.started.items in
    let live = c.args.self.now.live.items in
    let is = found_at started c.args.child c.index_mut.result.now (lives_below live started c.args.child c.args.self.now.lives c.requires) c.index_mut.ensures.value in
    attends started c.args.child c.index_mut.result.now c.send.new.self is live c.args.self.now.tried.items (ap (λ k. k.name) c.in-Err.ensures.err) (ap (λ k. k.command) c.in-Err.ensures.err)
