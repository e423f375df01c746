use Rattle.std.proofs.Common.{◌≡◌, ◌<◌, ◌++◌, ◌∷◌, [], length, rules}
use Rattle.apt_outside.specs.Scripted.{IsJoined, frames_of}
use Rattle.apt_outside.proofs.ChildLemmas.{attends, takes_set, lives_set, fits_either, sends, found_at}
use Rattle.apt_outside.proofs.Joined.{each_set, kept}
use Rattle.apt_outside.proofs.script_children.ScriptChildrenChildren.send.Goals as goal

pub index_mut-requires : goal.index_mut-requires
index_mut-requires c = let below : c.args.child < length c.args.self.now.started.items = c.args.self.now.lives c.args.child c.requires in search rules

pub add_frame-requires : goal.add_frame-requires
add_frame-requires c =
    let is = found_at c.args.self.now.started.items c.args.child c.index_mut.result.now (c.args.self.now.lives c.args.child c.requires) c.index_mut.ensures.value in
    c.args.self.now.joins c.args.child c.index_mut.result.now is

pub invariant_of-self : goal.invariant_of-self
invariant_of-self c =
    let is = found_at c.args.self.now.started.items c.args.child c.index_mut.result.now (c.args.self.now.lives c.args.child c.requires) c.index_mut.ensures.value in
    let fits = c.args.self.now.takes c.args.child c.index_mut.result.now is in
    record {
      takes = takes_set c.args.self.now.scripts.items c.args.self.now.started.items c.args.child c.index_mut.result.now c.add_frame.new.started is c.args.self.now.takes
          (fits_either c.args.self.now.scripts.items c.args.self.now.started.items c.args.child c.index_mut.result.now c.add_frame.new.started is c.add_frame.ensures.call fits c.add_frame.result _ c.add_frame.ensures.taken c.add_frame.ensures.ok c.add_frame.ensures.err);
      joins = each_set (IsJoined c.args.self.now.scripts.items) c.args.self.now.started.items c.args.child c.index_mut.result.now c.add_frame.new.started is c.args.self.now.joins c.add_frame.ensures.joined;
      lives = lives_set c.args.self.now.live.items c.args.self.now.started.items c.args.child c.add_frame.new.started c.args.self.now.lives;
    }

pub returns-in_err-add_frame-clause-attends : goal.returns-in_err-add_frame-clause-attends
returns-in_err-add_frame-clause-attends c = λ _.
    let is = found_at c.args.self.now.started.items c.args.child c.index_mut.result.now (c.args.self.now.lives c.args.child c.requires) c.index_mut.ensures.value in
    attends c.args.self.now.scripts.items c.args.self.now.started.items c.args.child c.index_mut.result.now c.add_frame.new.started is c.args.self.now.live.items c.args.self.now.tried.items c.add_frame.ensures.call

pub returns-in_err-add_frame-clause-memory : goal.returns-in_err-add_frame-clause-memory
returns-in_err-add_frame-clause-memory c = λ _ _.
    let is = found_at c.args.self.now.started.items c.args.child c.index_mut.result.now (c.args.self.now.lives c.args.child c.requires) c.index_mut.ensures.value in
    kept c.args.self.now.scripts.items c.args.self.now.started.items c.args.child c.index_mut.result.now c.add_frame.new.started is c.add_frame.ensures.call c.add_frame.ensures.taken (search rules)

pub returns-clause-attends : goal.returns-clause-attends
returns-clause-attends c = λ _.
    let is = found_at c.args.self.now.started.items c.args.child c.index_mut.result.now (c.args.self.now.lives c.args.child c.requires) c.index_mut.ensures.value in
    attends c.args.self.now.scripts.items c.args.self.now.started.items c.args.child c.index_mut.result.now c.add_frame.new.started is c.args.self.now.live.items c.args.self.now.tried.items c.add_frame.ensures.call

pub returns-clause-sent : goal.returns-clause-sent
returns-clause-sent c = λ _.
    let is = found_at c.args.self.now.started.items c.args.child c.index_mut.result.now (c.args.self.now.lives c.args.child c.requires) c.index_mut.ensures.value in
    let fits = c.args.self.now.takes c.args.child c.index_mut.result.now is in
    let frames : frames_of c.add_frame.new.started ≡ frames_of c.index_mut.result.now ++ c.args.frame.now ∷ [] = search rules in
    sends c.args.self.now.scripts.items c.args.self.now.started.items c.args.child c.index_mut.result.now c.add_frame.new.started is c.add_frame.ensures.call fits c.args.self.now.live.items c.args.self.now.tried.items c.args.frame.now c.add_frame.ensures.taken frames
