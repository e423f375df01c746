use Rattle.std.proofs.Common.{◌≡◌, ◌<◌, ◌≤◌, ◌++◌, [], length, drop, take, ap, sym, subst, rules}
use Rattle.apt_outside.specs.Scripted.{IsJoined, said_of}
use Rattle.apt_outside.proofs.ChildLemmas.{attends, takes_set, lives_set, fits_given, receives, found_at}
use Rattle.apt_outside.proofs.Joined.{joined_same, each_set}
use Rattle.apt_outside.proofs.script_children.ScriptChildrenChildren.receive.Goals as goal

pub index_mut-requires : goal.index_mut-requires
index_mut-requires c = let below : c.args.child < length c.args.self.now.started.items = c.args.self.now.lives c.args.child c.requires.lives in search rules

pub give-requires-clause-within : goal.give-requires-clause-within
give-requires-clause-within c =
    let is = found_at c.args.self.now.started.items c.args.child c.index_mut.result.now (c.args.self.now.lives c.args.child c.requires.lives) c.index_mut.ensures.value in
    let joined = c.args.self.now.joins c.args.child c.index_mut.result.now is in
    subst (λ said. c.index_mut.result.now.taken ≤ length said) (sym joined.said) (c.args.self.now.takes c.args.child c.index_mut.result.now is)

pub invariant_of-self : goal.invariant_of-self
invariant_of-self c =
    let scripts = c.args.self.now.scripts.items in
    let started = c.args.self.now.started.items in
    let old = c.index_mut.result.now in
    let new = c.give.new.started in
    let is = found_at started c.args.child old (c.args.self.now.lives c.args.child c.requires.lives) c.index_mut.ensures.value in
    let joined = c.args.self.now.joins c.args.child old is in
    let call : new.call ≡ old.call = ap (λ s. s.call) c.give.ensures.rest in
    let within : new.taken ≤ length (said_of scripts old) = subst (λ said. new.taken ≤ length said) joined.said c.give.ensures.within in
    record {
      takes = takes_set scripts started c.args.child old new is c.args.self.now.takes
          (fits_given scripts started c.args.child old new is call (c.args.self.now.takes c.args.child old is) (ap (λ s. s.sent) c.give.ensures.rest) within);
      joins = each_set (IsJoined scripts) started c.args.child old new is c.args.self.now.joins
          (joined_same scripts old new call joined (ap (λ s. s.sent.items) c.give.ensures.rest) (ap (λ s. s.joined.items) c.give.ensures.rest) (ap (λ s. s.said.items) c.give.ensures.rest));
      lives = lives_set c.args.self.now.live.items started c.args.child new c.args.self.now.lives;
    }

pub returns-clause-attends : goal.returns-clause-attends
returns-clause-attends c = λ _.
    let is = found_at c.args.self.now.started.items c.args.child c.index_mut.result.now (c.args.self.now.lives c.args.child c.requires.lives) c.index_mut.ensures.value in
    attends c.args.self.now.scripts.items c.args.self.now.started.items c.args.child c.index_mut.result.now c.give.new.started is c.args.self.now.live.items c.args.self.now.tried.items (ap (λ s. s.call) c.give.ensures.rest)

pub returns-clause-read : goal.returns-clause-read
returns-clause-read c = λ _.
    let scripts = c.args.self.now.scripts.items in
    let started = c.args.self.now.started.items in
    let old = c.index_mut.result.now in
    let new = c.give.new.started in
    let bytes = take c.give.result c.give.new.room in
    let is = found_at started c.args.child old (c.args.self.now.lives c.args.child c.requires.lives) c.index_mut.ensures.value in
    let joined = c.args.self.now.joins c.args.child old is in
    let given : drop old.taken (said_of scripts old) ≡ bytes ++ drop new.taken (said_of scripts old) =
    subst (λ said. drop old.taken said ≡ bytes ++ drop new.taken said) joined.said c.give.ensures.given in
    let ended : bytes ≡ [] → drop old.taken (said_of scripts old) ≡ [] =
    subst (λ said. bytes ≡ [] → drop old.taken said ≡ []) joined.said c.give.ensures.ended in
    receives scripts started c.args.child old new is (ap (λ s. s.call) c.give.ensures.rest) (c.args.self.now.takes c.args.child old is) c.args.self.now.live.items c.args.self.now.tried.items c.give.new.room c.give.result (ap (λ s. s.sent) c.give.ensures.rest) given ended
