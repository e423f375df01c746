use Rattle.std.proofs.Common.{Ok, Err}
use Rattle.apt_host.proofs.MakingLemmas.{made_from, refused_from, more_from, uses_finished, uses_refused, run_from, due_from}
use Rattle.apt_host.proofs.build.make.Goals as goal

-- ---- a run that was finished

pub returns-in-Ok-clause-made : goal.returns-in-Ok-clause-made
returns-in-Ok-clause-made g c =
    let C = g.C.Children in
    made_from c.args.project.now (C.state c.args.children.now) (C.state c.clean.new.children) C.tells c.in-Ok.finished c.in-Ok.ensures.cleans

pub returns-in-Ok-clause-uses : goal.returns-in-Ok-clause-uses
returns-in-Ok-clause-uses g c =
    let C = g.C.Children in
    let old = C.state c.args.children.now in
    let new = C.state c.clean.new.children in
    uses_finished C.tells c.args.project.now.key old new c.in-Ok.ensures.tried c.in-Ok.finished c.in-Ok.ensures.starts c.in-Ok.ensures.counted
    (more_from c.args.project.now old new C.tells (Ok c.in-Ok.finished) c.in-Ok.ensures.cleans)

-- ---- one that was refused

pub returns-in-Err-clause-made : goal.returns-in-Err-clause-made
returns-in-Err-clause-made g c =
    let C = g.C.Children in
    refused_from c.args.project.now (C.state c.args.children.now) (C.state c.clean.new.children) C.tells c.in-Err.refusal c.from.result c.from.ensures c.in-Err.ensures.cleans

pub returns-in-Err-clause-uses : goal.returns-in-Err-clause-uses
returns-in-Err-clause-uses g c =
    let C = g.C.Children in
    let old = C.state c.args.children.now in
    let new = C.state c.clean.new.children in
    uses_refused C.tells c.args.project.now.key old new c.in-Err.ensures.tried c.in-Err.refusal c.from.result c.from.ensures c.in-Err.ensures.named c.in-Err.ensures.starts
    (more_from c.args.project.now old new C.tells (Err c.in-Err.refusal) c.in-Err.ensures.cleans)

pub returns-in-Err-clause-due : goal.returns-in-Err-clause-due
returns-in-Err-clause-due g c =
    let C = g.C.Children in
    due_from c.in-Err.refusal c.from.result c.from.ensures c.args.project.now.key (C.state c.args.children.now) (C.state c.clean.new.children) c.in-Err.ensures.starts c.in-Err.ensures.due

pub returns-in-Err-clause-refused : goal.returns-in-Err-clause-refused
returns-in-Err-clause-refused g c =
    let C = g.C.Children in
    run_from c.in-Err.refusal c.from.result c.from.ensures c.args.project.now.key (C.state c.args.children.now) (C.state c.clean.new.children) c.in-Err.ensures.starts
