use Rattle.std.proofs.Common.{rules, ◌==◌, not, ◌∙◌, ap, map}
use Rattle.std.proofs.lemmas.Fn.{filter_same}
use Rattle.apt_cli.proofs.Numbers.{map-filter}
use Rattle.apt_cli.proofs.pipe_children.PipeChildrenChildren.stop.Goals as goal

pub returns-clause-live : goal.returns-clause-live
returns-clause-live g c =
    let kept = filter_same _ (λ r. not (r.number == c.args.child)) _ (λ x b f' told. search rules) _ _ c.retain.ensures.filtered in
    ap (map (λ r. r.number)) {x = c.retain.new.self.items} kept ∙ map-filter (λ r. r.number) (λ k. not (k == c.args.child)) c.args.self.now.running.items
