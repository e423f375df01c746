use Rattle.std.proofs.Common.{◌∙◌, ap}
use Rattle.std.proofs.Math.Seq.{map-set_same}
use Rattle.apt_cli.proofs.pipe_children.PipeChildrenChildren.receive.Goals as goal

pub returns-clause-live : goal.returns-clause-live
returns-clause-live g c = map-set_same (λ r. r.number) c.args.self.now.running.items c.place_of-place.result c.receive-received.new.self c.index_mut.result.now (c.receive-received.ensures.number ∙ ap (λ r. r.number) c.index_mut.ensures.value)
