use Rattle.std.proofs.Common.{ap}
use Rattle.memory_children.proofs.Living.{lives_below}
use Rattle.memory_children.proofs.Listed.{found_at, attends, receives}
use Rattle.memory_children.proofs.children.LocalChildrenChildren.receive.Goals as goal

pub returns-clause-attends : goal.returns-clause-attends
returns-clause-attends c = λ _.
    let started = c.args.self.now.started.items in
    let live = c.args.self.now.live.items in
    let is = found_at started c.args.child c.index_mut.result.now (lives_below live started c.args.child c.args.self.now.lives c.requires.lives) c.index_mut.ensures.value in
    attends started c.args.child c.index_mut.result.now c.receive.new.self is live c.args.self.now.tried.items (ap (λ k. k.name) c.receive.ensures.rest) (ap (λ k. k.command) c.receive.ensures.rest)

pub returns-clause-read : goal.returns-clause-read
returns-clause-read c = λ _.
    let started = c.args.self.now.started.items in
    let live = c.args.self.now.live.items in
    let is = found_at started c.args.child c.index_mut.result.now (lives_below live started c.args.child c.args.self.now.lives c.requires.lives) c.index_mut.ensures.value in
    receives started c.args.child c.index_mut.result.now c.receive.new.self is live c.args.self.now.tried.items c.receive.new.room c.receive.result c.receive.ensures
